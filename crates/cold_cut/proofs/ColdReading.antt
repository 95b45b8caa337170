-- A cold block that is read from its start on.
use Rattle.std.proofs.Common.{◌≡◌, ℕ, suc, ◌+◌, ◌-◌, ◌<◌, ◌≤◌, List, [], ◌∷◌, ◌++◌, length, Some, None, refl, sym, subst, ap, ◌∙◌, arith, append_assoc}
use Rattle.std.proofs.lemmas.List.{append-nil, length_push}
use Rattle.std.proofs.lemmas.List.Sums.{sum_by_push}
use Rattle.elf_read.specs.declared.exe.Exe.{Exe}
use Rattle.ia_inst.specs.declared.inst.Inst.{Inst}
use Rattle.ia_inst.specs.declared.inst.Kind.{Kind}
use Rattle.ia_inst.specs.declared.inst.Kind.TheVariants as kinds
use Rattle.ia_inst.specs.Kinds.{kind_of}
use Rattle.ia_inst.specs.Step.{Found, NoCode, NoInst, There, found_from}
use Rattle.block_cut.specs.Places.{Placed, found_at, inst_found}
use Rattle.block_cut.specs.Blocks.{size_of, last_of}
use Rattle.cold_cut.specs.declared.ends.ColdEnd.{ColdEnd}
use Rattle.cold_cut.specs.declared.ends.ColdEnd.TheVariants.{Transfers, Unreadable, Full}
use Rattle.cold_cut.specs.declared.ends.ColdCut.{ColdCut}
use Rattle.cold_cut.specs.ColdBlocks.{ColdBlock, ends_cold, before_cold, cold_by, cold_at, cold_from, cold_of, cold_cut_of}

-- instructions before a cold block
abbrev pub after : List Placed → ColdBlock → ColdBlock
after ps b = record { insts = ps ++ b.insts; end = b.end }

-- so many instructions have been read: the block goes on with what is read next
pub record IsRead (exe : Exe) (start : ℕ) (cut : ColdCut) : Type 0 where
  pub front : List Placed
  pub is : cut ≡ cold_cut_of start (record { insts = front; end = Full })
  pub rest : cold_of exe start ≡ after front (cold_from exe (64 - cut.count) (start + cut.len))

same_from : (exe : Exe) (n n' at at' : ℕ) → n ≡ n' → at ≡ at' → cold_from exe n at ≡ cold_from exe n' at'
same_from exe n n' at at' f g = cc

pub none_read : (exe : Exe) (start : ℕ) → IsRead exe start (record { count = 0; len = 0; end = Full; last = start })
unfolding cold_of
none_read exe start = record { front = []; is = refl; rest = same_from exe 64 (64 - 0) start (start + 0) refl (omega arith) }

-- ---- the shape of a cut

unfoldable make : ℕ → ℕ → ColdEnd → ℕ → ColdCut
make count len end last = record { count = count; len = len; end = end; last = last }

same_make : (n n' k k' : ℕ) (e : ColdEnd) (l l' : ℕ) → n ≡ n' → k ≡ k' → l ≡ l' → make n k e l ≡ make n' k' e l'
same_make n n' k k' e l l' a b c = cc

last_push : (at : ℕ) (front : List Placed) (p : Placed) → last_of at (front ++ p ∷ []) ≡ p.at
last_push at [] p = refl
last_push at (q ∷ qs) p = last_push q.at qs p

pushed : (start n k : ℕ) (front : List Placed) (p : Placed) (e : ColdEnd) → n ≡ length front → k ≡ size_of front → record { count = n + 1; len = k + p.size; end = e; last = p.at } ≡ cold_cut_of start (record { insts = front ++ p ∷ []; end = e })
unfolding make
pushed start n k front p e a b = same_make (n + 1) (length (front ++ p ∷ [])) (k + p.size) (size_of (front ++ p ∷ [])) e p.at (last_of start (front ++ p ∷ [])) (omega (arith, a, length_push front p)) (ap (λ k. k + p.size) b ∙ sym (sum_by_push (λ (p : Placed). p.size) front p)) (sym (last_push start front p))

-- ---- one more instruction

there : (f : Found) (i : Inst) (n : ℕ) → Some (i, n) ≡ inst_found f → f ≡ There i n
there NoCode i n e = cc
there NoInst i n e = cc
there (There j m) i n e = sym (ap found_from e)

nothing : (f : Found) (at : ℕ) (rest : ℕ → ColdBlock) → None ≡ inst_found f → cold_at f at rest ≡ ends_cold Unreadable
nothing NoCode at rest e = refl
nothing NoInst at rest e = refl
nothing (There j m) at rest e = cc

opened : (exe : Exe) (n m at : ℕ) → n ≡ suc m → cold_from exe n at ≡ cold_at (found_at exe at) at (cold_from exe m)
opened exe n m at e = ap (λ n. cold_from exe n at) e

pub stands_next : (exe : Exe) (n m at : ℕ) (i : Inst) (k : ℕ) (kind : Kind) → n ≡ suc m → Some (i, k) ≡ inst_found (found_at exe at) → kind_of i ≡ kind → cold_from exe n at ≡ cold_by kind (record { at = at; inst = i; size = k }) (cold_from exe m (at + k))
stands_next exe n m at i k kind e f g =
    opened exe n m at e
    ∙ ap (λ f. cold_at f at (cold_from exe m)) (there (found_at exe at) i k f)
    ∙ ap (λ kind. cold_by kind (record { at = at; inst = i; size = k }) (cold_from exe m (at + k))) g

pub none_next : (exe : Exe) (n m at : ℕ) → n ≡ suc m → None ≡ inst_found (found_at exe at) → cold_from exe n at ≡ ends_cold Unreadable
none_next exe n m at e f = opened exe n m at e ∙ nothing (found_at exe at) at (cold_from exe m) f

pub no_room : (exe : Exe) (n at : ℕ) → n ≡ 0 → cold_from exe n at ≡ ends_cold Full
no_room exe n at e = ap (λ n. cold_from exe n at) e

module _ (exe : Exe) (start : ℕ) (cut : ColdCut) (h : IsRead exe start cut) where
  -- the block ends with what has been read
  stops : (e : ColdEnd) → cold_from exe (64 - cut.count) (start + cut.len) ≡ ends_cold e → record cut { end = e } ≡ cold_cut_of start (cold_of exe start)
  unfolding make
  stops e b =
      let c = h.is in
      same_make cut.count (length h.front) cut.len (size_of h.front) e cut.last (last_of start h.front) (ap (λ (c : ColdCut). c.count) c) (ap (λ (c : ColdCut). c.len) c) (ap (λ (c : ColdCut). c.last) c)
      ∙ ap (λ is. cold_cut_of start (record { insts = is; end = e })) (sym (append-nil h.front))
      ∙ ap (λ b. cold_cut_of start (after h.front b)) (sym b)
      ∙ ap (cold_cut_of start) (sym h.rest)

  -- the block ends with one more instruction
  stops_with : (e : ColdEnd) (p : Placed) → cold_from exe (64 - cut.count) (start + cut.len) ≡ before_cold p (ends_cold e) → record { count = cut.count + 1; len = cut.len + p.size; end = e; last = p.at } ≡ cold_cut_of start (cold_of exe start)
  stops_with e p b =
      pushed start cut.count cut.len h.front p e (ap (λ (c : ColdCut). c.count) h.is) (ap (λ (c : ColdCut). c.len) h.is)
      ∙ ap (λ b. cold_cut_of start (after h.front b)) (sym b)
      ∙ ap (cold_cut_of start) (sym h.rest)

  -- the block goes on behind one more
  goes_on : (p : Placed) (m : ℕ) → p.at ≡ start + cut.len → m ≡ 64 - (cut.count + 1) → cold_from exe (64 - cut.count) (start + cut.len) ≡ before_cold p (cold_from exe m (start + cut.len + p.size)) → IsRead exe start (record { count = cut.count + 1; len = cut.len + p.size; end = Full; last = p.at })
  goes_on p m at room b = record {
    front = h.front ++ p ∷ [];
    is = pushed start cut.count cut.len h.front p Full (ap (λ (c : ColdCut). c.count) h.is) (ap (λ (c : ColdCut). c.len) h.is);
    rest =
        h.rest
        ∙ ap (after h.front) b
        ∙ ap (λ is. record { insts = is; end = (cold_from exe m (start + cut.len + p.size)).end }) (sym (append_assoc h.front (p ∷ []) (cold_from exe m (start + cut.len + p.size)).insts))
        ∙ ap (after (h.front ++ p ∷ [])) (same_from exe m (64 - (cut.count + 1)) (start + cut.len + p.size) (start + (cut.len + p.size)) room (omega arith));
  }

  -- ---- what is read next: an instruction of n bytes
  module _ (few : cut.count < 64) (i : Inst) (n : ℕ) (is : Some (i, n) ≡ inst_found (found_at exe (start + cut.len))) (new : ColdCut) (grown : new ≡ record { count = cut.count + 1; len = cut.len + n; end = cut.end; last = start + cut.len }) where
    next : (kind : Kind) → kind_of i ≡ kind → cold_from exe (64 - cut.count) (start + cut.len) ≡ cold_by kind (record { at = start + cut.len; inst = i; size = n }) (cold_from exe (64 - (cut.count + 1)) (start + cut.len + n))
    next kind k = stands_next exe (64 - cut.count) (64 - (cut.count + 1)) (start + cut.len) i n kind (omega arith) is k

    abbrev here : Placed
    here = record { at = start + cut.len; inst = i; size = n }

    taken : cold_from exe (64 - cut.count) (start + cut.len) ≡ before_cold here (cold_from exe (64 - (cut.count + 1)) (start + cut.len + n)) → IsRead exe start new
    taken b =
        let P : ColdCut → Type 0 = IsRead exe start in
        let full = ap (λ (e : ColdEnd). record { count = cut.count + 1; len = cut.len + n; end = e; last = start + cut.len }) (ap (λ (c : ColdCut). c.end) h.is) in
        subst P (sym (grown ∙ full)) (goes_on here (64 - (cut.count + 1)) refl refl b)

    pub plain_read : kind_of i ≡ kinds.Plain → IsRead exe start new
    plain_read k = taken (next kinds.Plain k)

    pub island_read : kind_of i ≡ kinds.Island → IsRead exe start new
    island_read k = taken (next kinds.Island k)

    pub transfer_read : kind_of i ≡ kinds.Transfer → record new { end = Transfers } ≡ cold_cut_of start (cold_of exe start)
    transfer_read k = ap (λ (c : ColdCut). record c { end = Transfers }) grown ∙ stops_with Transfers here (next kinds.Transfer k)

  pub nothing_behind : cut.count < 64 → None ≡ inst_found (found_at exe (start + cut.len)) → record cut { end = Unreadable } ≡ cold_cut_of start (cold_of exe start)
  nothing_behind few is = stops Unreadable (none_next exe (64 - cut.count) (64 - (cut.count + 1)) (start + cut.len) (omega arith) is)

  pub all_read : cut.count ≤ 64 → 64 ≤ cut.count → cut ≡ cold_cut_of start (cold_of exe start)
  all_read few many =
      ap (λ (e : ColdEnd). record cut { end = e }) (ap (λ (c : ColdCut). c.end) h.is) ∙ stops Full (no_room exe (64 - cut.count) (start + cut.len) (omega arith))
