-- A block that is read from its start on.
use Rattle.std.proofs.Common.{◌≡◌, ℕ, suc, ◌+◌, ◌-◌, ◌<◌, ◌≤◌, Bool, true, false, List, [], ◌∷◌, ◌++◌, length, Some, None, refl, sym, subst, ap, ◌∙◌, arith, append_assoc}
use Rattle.std.specs.Prelude.{◌==◌}
use Rattle.std.proofs.lemmas.Bool.{ne_eqb}
use Rattle.std.proofs.lemmas.List.{append-nil, length_push}
use Rattle.std.proofs.lemmas.List.Sums.{sum_by_push}
use Rattle.elf_read.specs.declared.exe.Exe.{Exe}
use Rattle.ia_inst.specs.declared.inst.Inst.{Inst}
use Rattle.ia_inst.specs.declared.inst.Kind.{Kind}
use Rattle.ia_inst.specs.declared.inst.Kind.TheVariants as kinds
use Rattle.ia_inst.specs.Kinds.{kind_of}
use Rattle.ia_inst.specs.Step.{Found, NoCode, NoInst, There, found_from}
use Rattle.block_cut.specs.declared.ends.End.{End}
use Rattle.block_cut.specs.declared.ends.End.TheVariants.{Transfer, Island, BeforeIsland, Unreadable, Full}
use Rattle.block_cut.specs.declared.ends.Cut.{Cut}
use Rattle.block_cut.specs.Places.{Placed, found_at, inst_found}
use Rattle.block_cut.specs.Blocks.{BasicBlock, size_of, last_of, before, ends_at, block_by, block_at, block_from, block_of, cut_of}

-- instructions before a block
abbrev pub after : List Placed → BasicBlock → BasicBlock
after ps b = record { insts = ps ++ b.insts; end = b.end }

-- so many instructions have been read: the block goes on with what is read next
pub record IsRead (exe : Exe) (start : ℕ) (cut : Cut) : Type 0 where
  pub front : List Placed
  pub is : cut ≡ cut_of start (record { insts = front; end = Full })
  pub rest : block_of exe start ≡ after front (block_from exe (cut.count == 0) (64 - cut.count) (start + cut.len))

same_from : (exe : Exe) (b b' : Bool) (n n' at at' : ℕ) → b ≡ b' → n ≡ n' → at ≡ at' → block_from exe b n at ≡ block_from exe b' n' at'
same_from exe b b' n n' at at' e f g = cc

pub none_read : (exe : Exe) (start : ℕ) → IsRead exe start (record { count = 0; len = 0; end = Full; last = start })
unfolding block_of
none_read exe start = record { front = []; is = refl; rest = same_from exe true (0 == 0) 64 (64 - 0) start (start + 0) refl refl (omega arith) }

-- ---- the shape of a cut

unfoldable make : ℕ → ℕ → End → ℕ → Cut
make count len end last = record { count = count; len = len; end = end; last = last }

same_make : (n n' k k' : ℕ) (e : End) (l l' : ℕ) → n ≡ n' → k ≡ k' → l ≡ l' → make n k e l ≡ make n' k' e l'
same_make n n' k k' e l l' a b c = cc

last_push : (at : ℕ) (front : List Placed) (p : Placed) → last_of at (front ++ p ∷ []) ≡ p.at
last_push at [] p = refl
last_push at (q ∷ qs) p = last_push q.at qs p

pushed : (start n k : ℕ) (front : List Placed) (p : Placed) (e : End) → n ≡ length front → k ≡ size_of front → record { count = n + 1; len = k + p.size; end = e; last = p.at } ≡ cut_of start (record { insts = front ++ p ∷ []; end = e })
unfolding make
pushed start n k front p e a b = same_make (n + 1) (length (front ++ p ∷ [])) (k + p.size) (size_of (front ++ p ∷ [])) e p.at (last_of start (front ++ p ∷ [])) (omega (arith, a, length_push front p)) (ap (λ k. k + p.size) b ∙ sym (sum_by_push (λ (p : Placed). p.size) front p)) (sym (last_push start front p))

-- ---- one more instruction

there : (f : Found) (i : Inst) (n : ℕ) → Some (i, n) ≡ inst_found f → f ≡ There i n
there NoCode i n e = cc
there NoInst i n e = cc
there (There j m) i n e = sym (ap found_from e)

nothing : (f : Found) (first : Bool) (at : ℕ) (rest : ℕ → BasicBlock) → None ≡ inst_found f → block_at first f at rest ≡ ends_at Unreadable
nothing NoCode first at rest e = refl
nothing NoInst first at rest e = refl
nothing (There j m) first at rest e = cc

opened : (exe : Exe) (first : Bool) (n m at : ℕ) → n ≡ suc m → block_from exe first n at ≡ block_at first (found_at exe at) at (block_from exe false m)
opened exe first n m at e = ap (λ n. block_from exe first n at) e

pub stands_next : (exe : Exe) (first : Bool) (n m at : ℕ) (i : Inst) (k : ℕ) (kind : Kind) → n ≡ suc m → Some (i, k) ≡ inst_found (found_at exe at) → kind_of i ≡ kind → block_from exe first n at ≡ block_by first kind (record { at = at; inst = i; size = k }) (block_from exe false m (at + k))
stands_next exe first n m at i k kind e f g =
    opened exe first n m at e
    ∙ ap (λ f. block_at first f at (block_from exe false m)) (there (found_at exe at) i k f)
    ∙ ap (λ kind. block_by first kind (record { at = at; inst = i; size = k }) (block_from exe false m (at + k))) g

pub none_next : (exe : Exe) (first : Bool) (n m at : ℕ) → n ≡ suc m → None ≡ inst_found (found_at exe at) → block_from exe first n at ≡ ends_at Unreadable
none_next exe first n m at e f = opened exe first n m at e ∙ nothing (found_at exe at) first at (block_from exe false m) f

pub no_room : (exe : Exe) (first : Bool) (n at : ℕ) → n ≡ 0 → block_from exe first n at ≡ ends_at Full
no_room exe first n at e = ap (λ n. block_from exe first n at) e

module _ (exe : Exe) (start : ℕ) (cut : Cut) (h : IsRead exe start cut) where
  -- the block ends with what has been read
  pub stops : (e : End) → block_from exe (cut.count == 0) (64 - cut.count) (start + cut.len) ≡ ends_at e → record cut { end = e } ≡ cut_of start (block_of exe start)
  unfolding make
  stops e b =
      let c = h.is in
      same_make cut.count (length h.front) cut.len (size_of h.front) e cut.last (last_of start h.front) (ap (λ (c : Cut). c.count) c) (ap (λ (c : Cut). c.len) c) (ap (λ (c : Cut). c.last) c)
      ∙ ap (λ is. cut_of start (record { insts = is; end = e })) (sym (append-nil h.front))
      ∙ ap (λ b. cut_of start (after h.front b)) (sym b)
      ∙ ap (cut_of start) (sym h.rest)

  -- the block ends with one more instruction
  pub stops_with : (e : End) (p : Placed) → block_from exe (cut.count == 0) (64 - cut.count) (start + cut.len) ≡ before p (ends_at e) → record { count = cut.count + 1; len = cut.len + p.size; end = e; last = p.at } ≡ cut_of start (block_of exe start)
  stops_with e p b =
      pushed start cut.count cut.len h.front p e (ap (λ (c : Cut). c.count) h.is) (ap (λ (c : Cut). c.len) h.is)
      ∙ ap (λ b. cut_of start (after h.front b)) (sym b)
      ∙ ap (cut_of start) (sym h.rest)

  -- the block goes on behind one more
  pub goes_on : (p : Placed) (m : ℕ) → p.at ≡ start + cut.len → m ≡ 64 - (cut.count + 1) → block_from exe (cut.count == 0) (64 - cut.count) (start + cut.len) ≡ before p (block_from exe false m (start + cut.len + p.size)) → IsRead exe start (record { count = cut.count + 1; len = cut.len + p.size; end = Full; last = p.at })
  goes_on p m at room b = record {
    front = h.front ++ p ∷ [];
    is = pushed start cut.count cut.len h.front p Full (ap (λ (c : Cut). c.count) h.is) (ap (λ (c : Cut). c.len) h.is);
    rest =
        h.rest
        ∙ ap (after h.front) b
        ∙ ap (λ is. record { insts = is; end = (block_from exe false m (start + cut.len + p.size)).end }) (sym (append_assoc h.front (p ∷ []) (block_from exe false m (start + cut.len + p.size)).insts))
        ∙ ap (after (h.front ++ p ∷ [])) (same_from exe false (cut.count + 1 == 0) m (64 - (cut.count + 1)) (start + cut.len + p.size) (start + (cut.len + p.size)) (sym (ne_eqb (cut.count + 1) 0 (λ e. omega (arith, e)))) room (omega arith));
  }

  -- ---- what is read next: an instruction of n bytes
  module _ (few : cut.count < 64) (i : Inst) (n : ℕ) (is : Some (i, n) ≡ inst_found (found_at exe (start + cut.len))) (new : Cut) (grown : new ≡ record { count = cut.count + 1; len = cut.len + n; end = cut.end; last = start + cut.len }) where
    next : (kind : Kind) → kind_of i ≡ kind → block_from exe (cut.count == 0) (64 - cut.count) (start + cut.len) ≡ block_by (cut.count == 0) kind (record { at = start + cut.len; inst = i; size = n }) (block_from exe false (64 - (cut.count + 1)) (start + cut.len + n))
    next kind k = stands_next exe (cut.count == 0) (64 - cut.count) (64 - (cut.count + 1)) (start + cut.len) i n kind (omega arith) is k

    pub plain_read : kind_of i ≡ kinds.Plain → IsRead exe start new
    plain_read k =
        let P : Cut → Type 0 = IsRead exe start in
        let full = ap (λ (e : End). record { count = cut.count + 1; len = cut.len + n; end = e; last = start + cut.len }) (ap (λ (c : Cut). c.end) h.is) in
        subst P (sym (grown ∙ full)) (goes_on (record { at = start + cut.len; inst = i; size = n }) (64 - (cut.count + 1)) refl refl (next kinds.Plain k))

    pub transfer_read : kind_of i ≡ kinds.Transfer → record new { end = Transfer } ≡ cut_of start (block_of exe start)
    transfer_read k = ap (λ (c : Cut). record c { end = Transfer }) grown ∙ stops_with Transfer (record { at = start + cut.len; inst = i; size = n }) (next kinds.Transfer k)

    pub island_read : kind_of i ≡ kinds.Island → (cut.count == 0) ≡ true → record new { end = Island } ≡ cut_of start (block_of exe start)
    island_read k first =
        let p : Placed = record { at = start + cut.len; inst = i; size = n } in
        ap (λ (c : Cut). record c { end = Island }) grown ∙ stops_with Island p (next kinds.Island k ∙ ap (λ b. block_by b kinds.Island p (block_from exe false (64 - (cut.count + 1)) (start + cut.len + n))) first)

  pub island_behind : cut.count < 64 → (i : Inst) (n : ℕ) → Some (i, n) ≡ inst_found (found_at exe (start + cut.len)) → kind_of i ≡ kinds.Island → (cut.count == 0) ≡ false → record cut { end = BeforeIsland } ≡ cut_of start (block_of exe start)
  island_behind few i n is k first =
      let p : Placed = record { at = start + cut.len; inst = i; size = n } in
      stops BeforeIsland (stands_next exe (cut.count == 0) (64 - cut.count) (64 - (cut.count + 1)) (start + cut.len) i n kinds.Island (omega arith) is k ∙ ap (λ b. block_by b kinds.Island p (block_from exe false (64 - (cut.count + 1)) (start + cut.len + n))) first)

  pub nothing_behind : cut.count < 64 → None ≡ inst_found (found_at exe (start + cut.len)) → record cut { end = Unreadable } ≡ cut_of start (block_of exe start)
  nothing_behind few is = stops Unreadable (none_next exe (cut.count == 0) (64 - cut.count) (64 - (cut.count + 1)) (start + cut.len) (omega arith) is)

  pub all_read : cut.count ≤ 64 → 64 ≤ cut.count → cut ≡ cut_of start (block_of exe start)
  all_read few many =
      ap (λ (e : End). record cut { end = e }) (ap (λ (c : Cut). c.end) h.is) ∙ stops Full (no_room exe (cut.count == 0) (64 - cut.count) (start + cut.len) (omega arith))
