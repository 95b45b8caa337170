-- Each start has one block: what is read from it is one, and each that is one is read.
use Rattle.std.proofs.Common.{◌≡◌, ℕ, zero, suc, ◌+◌, ◌<◌, ◌≤◌, Bool, true, false, List, [], ◌∷◌, length, Option, Some, None, refl, sym, subst, ap, ◌∙◌, arith}
use Rattle.std.proofs.lemmas.List.Sums.{sum_by-cons}
use Rattle.elf_read.specs.declared.exe.Exe.{Exe}
use Rattle.ia_inst.specs.declared.inst.Inst.{Inst}
use Rattle.ia_inst.specs.declared.inst.Kind.{Kind}
use Rattle.ia_inst.specs.declared.inst.Kind.TheVariants as kinds
use Rattle.ia_inst.specs.Kinds.{kind_of}
use Rattle.ia_inst.specs.Step.{Found, NoCode, NoInst, There}
use Rattle.block_cut.specs.declared.ends.End.{End}
use Rattle.block_cut.specs.declared.ends.End.TheVariants.{Transfer, Island, BeforeIsland, Unreadable, Full}
use Rattle.block_cut.specs.Places.{Placed, found_at}
use Rattle.block_cut.specs.Blocks.{BasicBlock, size_of, StandFrom, IsOfKind, ArePlain, EndWith, kind_found, IsBlock, before, ends_at, block_by, block_at, block_from, block_of, EachHasOneBlock}

-- the rest of a block, with room for so many instructions: the first of the block is there or not
abbrev EndsFrom : Exe → Bool → ℕ → ℕ → List Placed → End → Type 0
EndsFrom exe first room next is Transfer = EndWith kinds.Transfer is × (length is ≤ room)
EndsFrom exe first room next is Island = EndWith kinds.Island is × (length is ≡ 1) × (first ≡ true) × (0 < room)
EndsFrom exe first room next is BeforeIsland = ArePlain is × (first ≡ true → 0 < length is) × (length is < room) × (kind_found (found_at exe next) ≡ Some kinds.Island)
EndsFrom exe first room next is Unreadable = ArePlain is × (length is < room) × (kind_found (found_at exe next) ≡ None)
EndsFrom exe first room next is Full = ArePlain is × (length is ≡ room)

record IsFrom (exe : Exe) (first : Bool) (room at : ℕ) (b : BasicBlock) : Type 0 where
  stand : StandFrom exe at b.insts
  ends : EndsFrom exe first room (at + size_of b.insts) b.insts b.end

abbrev block : List Placed → End → BasicBlock
block is e = record { insts = is; end = e }

pub size_cons : (p : Placed) (is : List Placed) → size_of (p ∷ is) ≡ p.size + size_of is
size_cons p is = sum_by-cons (λ (p : Placed). p.size) p is

-- ---- what is read is a block

one_more : (k : Kind) (p : Placed) (is : List Placed) → IsOfKind kinds.Plain p → EndWith k is → EndWith k (p ∷ is)
one_more k p [] plain e = absurd e
one_more k p (q ∷ qs) plain e = (plain, e)

end_more : (exe : Exe) (first : Bool) (room next : ℕ) (p : Placed) (is : List Placed) (e : End) → IsOfKind kinds.Plain p → EndsFrom exe false room next is e → EndsFrom exe first (suc room) next (p ∷ is) e
end_more exe first room next p is Transfer plain h = (one_more kinds.Transfer p is plain h.0, omega (arith, h.1))
end_more exe first room next p is Island plain h = absurd (let e : false ≡ true = h.2 in cc)
end_more exe first room next p is BeforeIsland plain h = ((plain, h.0), (λ _. omega arith), omega (arith, h.2), h.3)
end_more exe first room next p is Unreadable plain h = ((plain, h.0), omega (arith, h.1), h.2)
end_more exe first room next p is Full plain h = ((plain, h.0), omega (arith, h.1))

more_from : (exe : Exe) (first : Bool) (room : ℕ) (p : Placed) (b : BasicBlock) → found_at exe p.at ≡ There p.inst p.size → IsOfKind kinds.Plain p → IsFrom exe false room (p.at + p.size) b → IsFrom exe first (suc room) p.at (before p b)
more_from exe first room p b there plain h = record {
  stand = (refl, there, h.stand);
  ends =
      let P : ℕ → Type 0 = λ next. EndsFrom exe first (suc room) next (p ∷ b.insts) b.end in
      let e : p.at + p.size + size_of b.insts ≡ p.at + size_of (p ∷ b.insts) = omega (arith, size_cons p b.insts) in
      subst P e (end_more exe first room (p.at + p.size + size_of b.insts) p b.insts b.end plain h.ends);
}

module _ (exe : Exe) (room at : ℕ) (rest : (next : ℕ) → IsFrom exe false room next (block_from exe false room next)) where
  here : (X : Option Kind) → kind_found (found_at exe at) ≡ X → kind_found (found_at exe (at + 0)) ≡ X
  here X e = let z : at + 0 ≡ at = omega arith in ap (λ n. kind_found (found_at exe n)) z ∙ e

  by_kind : (first : Bool) (i : Inst) (n : ℕ) → found_at exe at ≡ There i n → (k : Kind) → kind_of i ≡ k → IsFrom exe first (suc room) at (block_by first k (record { at = at; inst = i; size = n }) (block_from exe false room (at + n)))
  by_kind first i n there kinds.Plain k = more_from exe first room (record { at = at; inst = i; size = n }) (block_from exe false room (at + n)) there k (rest (at + n))
  by_kind first i n there kinds.Transfer k = record { stand = (refl, there, tt); ends = (k, omega arith) }
  by_kind true i n there kinds.Island k = record { stand = (refl, there, tt); ends = (k, refl, refl, omega arith) }
  by_kind false i n there kinds.Island k = record { stand = tt; ends = (tt, (λ e. absurd (let f : false ≡ true = e in cc)), omega arith, here (Some kinds.Island) (ap kind_found there ∙ ap some k)) }
    where
      some : Kind → Option Kind
      some k = Some k

  by_found : (first : Bool) (f : Found) → found_at exe at ≡ f → IsFrom exe first (suc room) at (block_at first f at (block_from exe false room))
  by_found first NoCode e = record { stand = tt; ends = (tt, omega arith, here None (ap kind_found e)) }
  by_found first NoInst e = record { stand = tt; ends = (tt, omega arith, here None (ap kind_found e)) }
  by_found first (There i n) e = by_kind first i n e (kind_of i) refl

is_from : (exe : Exe) (first : Bool) (room at : ℕ) → IsFrom exe first room at (block_from exe first room at)
is_from exe first zero at = record { stand = tt; ends = (tt, refl) }
is_from exe first (suc room) at = by_found exe room at (is_from exe false room) first (found_at exe at) refl

-- ---- what is a block is read

stands : (exe : Exe) (first : Bool) (room at : ℕ) (p : Placed) (k : Kind) → p.at ≡ at → found_at exe at ≡ There p.inst p.size → IsOfKind k p → block_from exe first (suc room) at ≡ block_by first k p (block_from exe false room (at + p.size))
stands exe first room at p k place there e =
    ap (λ f. block_at first f at (block_from exe false room)) there
    ∙ ap (λ k. block_by first k (record { at = at; inst = p.inst; size = p.size }) (block_from exe false room (at + p.size))) e
    ∙ ap (λ at'. block_by first k (record { at = at'; inst = p.inst; size = p.size }) (block_from exe false room (at + p.size))) (sym place)

two_kinds : (k : Kind) → kinds.Plain ≡ k → k ≡ kinds.Transfer → ⊥
two_kinds k a b = let e : kinds.Plain ≡ kinds.Transfer = a ∙ b in cc

plain_island : (k : Kind) → kinds.Plain ≡ k → k ≡ kinds.Island → ⊥
plain_island k a b = let e : kinds.Plain ≡ kinds.Island = a ∙ b in cc

no_truth : {X : Type 0} → false ≡ true → X
no_truth e = cc

-- the end of the rest, behind a plain instruction
end_less : (exe : Exe) (first : Bool) (room next : ℕ) (p : Placed) (is : List Placed) (e : End) → IsOfKind kinds.Plain p → EndsFrom exe first (suc room) next (p ∷ is) e → EndsFrom exe false room next is e
end_less exe first room next p [] Transfer plain h = absurd (two_kinds (kind_of p.inst) (sym plain) h.0)
end_less exe first room next p (q ∷ qs) Transfer plain h = (h.0.1, omega (arith, h.1))
end_less exe first room next p [] Island plain h = absurd (plain_island (kind_of p.inst) (sym plain) h.0)
end_less exe first room next p (q ∷ qs) Island plain h = absurd (omega (arith, h.1))
end_less exe first room next p is BeforeIsland plain h = (h.0.1, (λ e. no_truth e), omega (arith, h.2), h.3)
end_less exe first room next p is Unreadable plain h = (h.0.1, omega (arith, h.1), h.2)
end_less exe first room next p is Full plain h = (h.0.1, omega (arith, h.1))

island_there : (f : Found) (at : ℕ) (rest : ℕ → BasicBlock) → kind_found f ≡ Some kinds.Island → block_at false f at rest ≡ ends_at BeforeIsland
island_there NoCode at rest e = cc
island_there NoInst at rest e = cc
island_there (There i n) at rest e = ap (λ k. block_by false k (record { at = at; inst = i; size = n }) (rest (at + n))) (ap (unwrap kinds.Plain) e)
  where
    unwrap : Kind → Option Kind → Kind
    unwrap d None = d
    unwrap d (Some k) = k

none_there : (f : Found) (first : Bool) (at : ℕ) (rest : ℕ → BasicBlock) → kind_found f ≡ None → block_at first f at rest ≡ ends_at Unreadable
none_there NoCode first at rest e = refl
none_there NoInst first at rest e = refl
none_there (There i n) first at rest e = cc

-- where nothing is read
module _ (exe : Exe) (at : ℕ) where
  there : (X : Option Kind) → kind_found (found_at exe (at + 0)) ≡ X → kind_found (found_at exe at) ≡ X
  there X e = let z : at ≡ at + 0 = omega arith in ap (λ n. kind_found (found_at exe n)) z ∙ e

  empty : (first : Bool) (room : ℕ) (e : End) → EndsFrom exe first room (at + 0) [] e → block [] e ≡ block_from exe first room at
  empty first room Transfer h = absurd h.0
  empty first room Island h = absurd h.0
  empty first zero BeforeIsland h = absurd (omega (arith, h.2))
  empty true (suc r) BeforeIsland h = absurd (omega (arith, h.1 refl))
  empty false (suc r) BeforeIsland h = sym (island_there (found_at exe at) at (block_from exe false r) (there (Some kinds.Island) h.3))
  empty first zero Unreadable h = absurd (omega (arith, h.1))
  empty first (suc r) Unreadable h = sym (none_there (found_at exe at) first at (block_from exe false r) (there None h.2))
  empty first room Full h = ap (λ n. block_from exe first n at) h.1

read_on : (exe : Exe) (first : Bool) (room at : ℕ) (p : Placed) (ps : List Placed) (e : End) → (IsFrom exe false room (at + p.size) (block ps e) → block ps e ≡ block_from exe false room (at + p.size)) → IsFrom exe first (suc room) at (block (p ∷ ps) e) → IsOfKind kinds.Plain p → block (p ∷ ps) e ≡ block_from exe first (suc room) at
read_on exe first room at p ps e rest h plain =
    let P : ℕ → Type 0 = λ next. EndsFrom exe false room next ps e in
    let same : at + size_of (p ∷ ps) ≡ at + p.size + size_of ps = omega (arith, size_cons p ps) in
    let behind : IsFrom exe false room (at + p.size) (block ps e) = record { stand = h.stand.2; ends = subst P same (end_less exe first room (at + size_of (p ∷ ps)) p ps e plain h.ends) } in
    ap (before p) (rest behind) ∙ sym (stands exe first room at p kinds.Plain h.stand.0 h.stand.1 plain)

read_one : (exe : Exe) (first : Bool) (room at : ℕ) (p : Placed) (ps : List Placed) (e : End) → ((room : ℕ) → IsFrom exe false room (at + p.size) (block ps e) → block ps e ≡ block_from exe false room (at + p.size)) → IsFrom exe first room at (block (p ∷ ps) e) → block (p ∷ ps) e ≡ block_from exe first room at
read_one exe first zero at p ps Transfer rest h = absurd (omega (arith, h.ends.1))
read_one exe first zero at p ps Island rest h = absurd (omega (arith, h.ends.3))
read_one exe first zero at p ps BeforeIsland rest h = absurd (omega (arith, h.ends.2))
read_one exe first zero at p ps Unreadable rest h = absurd (omega (arith, h.ends.1))
read_one exe first zero at p ps Full rest h = absurd (omega (arith, h.ends.1))
read_one exe first (suc room) at p [] Transfer rest h = sym (stands exe first room at p kinds.Transfer h.stand.0 h.stand.1 h.ends.0)
read_one exe first (suc room) at p (q ∷ qs) Transfer rest h = read_on exe first room at p (q ∷ qs) Transfer (rest room) h h.ends.0.0
read_one exe true (suc room) at p [] Island rest h = sym (stands exe true room at p kinds.Island h.stand.0 h.stand.1 h.ends.0)
read_one exe false (suc room) at p [] Island rest h = no_truth h.ends.2
read_one exe first (suc room) at p (q ∷ qs) Island rest h = absurd (omega (arith, h.ends.1))
read_one exe first (suc room) at p ps BeforeIsland rest h = read_on exe first room at p ps BeforeIsland (rest room) h h.ends.0.0
read_one exe first (suc room) at p ps Unreadable rest h = read_on exe first room at p ps Unreadable (rest room) h h.ends.0.0
read_one exe first (suc room) at p ps Full rest h = read_on exe first room at p ps Full (rest room) h h.ends.0.0

is_read : (exe : Exe) (first : Bool) (room at : ℕ) (is : List Placed) (e : End) → IsFrom exe first room at (block is e) → block is e ≡ block_from exe first room at
is_read exe first room at [] e h = empty exe at first room e h.ends
is_read exe first room at (p ∷ ps) e h = read_one exe first room at p ps e (λ r. is_read exe false r (at + p.size) ps e) h

-- ---- with room for 64

to_block : (exe : Exe) (start : ℕ) (is : List Placed) (e : End) → IsFrom exe true 64 start (block is e) → IsBlock exe start (block is e)
to_block exe start is Transfer h = record { stand = h.stand; ends = h.ends }
to_block exe start is Island h = record { stand = h.stand; ends = (h.ends.0, h.ends.1) }
to_block exe start is BeforeIsland h = record { stand = h.stand; ends = (h.ends.0, h.ends.1 refl, h.ends.2, h.ends.3) }
to_block exe start is Unreadable h = record { stand = h.stand; ends = h.ends }
to_block exe start is Full h = record { stand = h.stand; ends = h.ends }

of_block : (exe : Exe) (start : ℕ) (is : List Placed) (e : End) → IsBlock exe start (block is e) → IsFrom exe true 64 start (block is e)
of_block exe start is Transfer h = record { stand = h.stand; ends = h.ends }
of_block exe start is Island h = record { stand = h.stand; ends = (h.ends.0, h.ends.1, refl, omega arith) }
of_block exe start is BeforeIsland h = record { stand = h.stand; ends = (h.ends.0, (λ _. h.ends.1), h.ends.2, h.ends.3) }
of_block exe start is Unreadable h = record { stand = h.stand; ends = h.ends }
of_block exe start is Full h = record { stand = h.stand; ends = h.ends }

pub block_is : (exe : Exe) (start : ℕ) → IsBlock exe start (block_of exe start)
unfolding block_of
block_is exe start = to_block exe start (block_from exe true 64 start).insts (block_from exe true 64 start).end (is_from exe true 64 start)

pub only_block : (exe : Exe) (start : ℕ) (b : BasicBlock) → IsBlock exe start b → b ≡ block_of exe start
unfolding block_of
only_block exe start b h = is_read exe true 64 start b.insts b.end (of_block exe start b.insts b.end h)

pub has_one_block : EachHasOneBlock
has_one_block exe start b = (only_block exe start b, (λ e. let P : BasicBlock → Type 0 = IsBlock exe start in subst P (sym e) (block_is exe start)))
