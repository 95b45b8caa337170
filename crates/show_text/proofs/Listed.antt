-- Lines that are written one by one.
use Rattle.std.proofs.Common.{◌≡◌, ℕ, ◌+◌, ◌-◌, ◌<◌, List, [], ◌∷◌, ◌++◌, length, Some, None, refl, sym, subst, ap, ◌∙◌, arith, append_assoc}
use Rattle.std.proofs.lemmas.List.{append-nil}
use Rattle.elf_read.specs.declared.exe.Exe.{Exe}
use Rattle.ia_inst.specs.declared.inst.Inst.{Inst}
use Rattle.block_cut.specs.Places.{Placed, found_at, inst_found}
use Rattle.block_cut.specs.Blocks.{StandFrom, block_of, EachHasOneBlock}
use Rattle.show_text.specs.Listing.{line_of, lines_of}

-- the lines of all but so many instructions are written: those stand from an address on
pub record IsListed (exe : Exe) (insts : List Placed) (text : List ℕ) (left at : ℕ) : Type 0 where
  pub rest : List Placed
  pub count : length rest ≡ left
  pub stand : StandFrom exe at rest
  pub says : text ++ lines_of exe rest ≡ lines_of exe insts

pub none_listed : (exe : Exe) (start count : ℕ) → EachHasOneBlock → count ≡ length (block_of exe start).insts → IsListed exe (block_of exe start).insts [] (count - 0) start
none_listed exe start count law e = record {
  rest = (block_of exe start).insts;
  count = omega (arith, e);
  stand = ((law exe start (block_of exe start)).1 refl).stand;
  says = refl;
}

pub all_listed : (exe : Exe) (insts : List Placed) (text : List ℕ) (left at : ℕ) → left ≡ 0 → IsListed exe insts text left at → text ≡ lines_of exe insts
all_listed exe insts text left at none h = go h.rest (h.count ∙ none) h.says
  where
    go : (rest : List Placed) → length rest ≡ 0 → text ++ lines_of exe rest ≡ lines_of exe insts → text ≡ lines_of exe insts
    go [] e says = sym (append-nil text) ∙ says
    go (p ∷ ps) e says = absurd (omega (arith, e))

-- ---- one more

no_some : (x : Inst × ℕ) → None ≡ Some x → ⊥
no_some x e = cc

same_some : (x y : Inst × ℕ) → Some x ≡ Some y → x ≡ y
same_some x y e = cc

abbrev read : Placed → Inst × ℕ
read p = (p.inst, p.size)

same_placed : (p q : Placed) → p.at ≡ q.at → Some (read q) ≡ Some (read p) → p ≡ q
same_placed p q at e =
    let P : ℕ → Placed = λ at. record { at = at; inst = p.inst; size = p.size } in
    let Q : Inst × ℕ → Placed = λ x. record { at = q.at; inst = x.0; size = x.1 } in
    ap P at ∙ ap Q (sym (same_some (read q) (read p) e))

-- an instruction stands there
pub one_left : (exe : Exe) (insts : List Placed) (text : List ℕ) (left at : ℕ) → 0 < left → IsListed exe insts text left at → None ≡ inst_found (found_at exe at) → ⊥
one_left exe insts text left at some h = go h.rest h.count h.stand
  where
    go : (rest : List Placed) → length rest ≡ left → StandFrom exe at rest → None ≡ inst_found (found_at exe at) → ⊥
    go [] e stand none = absurd (omega arith)
    go (p ∷ ps) e stand none = no_some (p.inst, p.size) (none ∙ ap inst_found stand.1)

-- its line is written
pub one_listed : (exe : Exe) (insts : List Placed) (text : List ℕ) (left : ℕ) (q : Placed) → 0 < left → IsListed exe insts text left q.at → Some (q.inst, q.size) ≡ inst_found (found_at exe q.at) → IsListed exe insts (text ++ line_of exe q) (left - 1) (q.at + q.size)
one_listed exe insts text left q some h found = go h.rest h.count h.stand h.says
  where
    go : (rest : List Placed) → length rest ≡ left → StandFrom exe q.at rest → text ++ lines_of exe rest ≡ lines_of exe insts → IsListed exe insts (text ++ line_of exe q) (left - 1) (q.at + q.size)
    go [] e stand says = absurd (omega arith)
    go (p ∷ ps) e stand says =
        let same : p ≡ q = same_placed p q stand.0 (found ∙ ap inst_found stand.1) in
        let P : Placed → Type 0 = λ (p : Placed). StandFrom exe (q.at + p.size) ps in
        let L : Placed → List ℕ = λ p. text ++ (line_of exe p ++ lines_of exe ps) in
        record {
          rest = ps;
          count = omega (arith, e);
          stand = subst P same stand.2;
          says = append_assoc text (line_of exe q) (lines_of exe ps) ∙ (ap L (sym same) ∙ says);
        }

pub same_listed : (exe : Exe) (insts : List Placed) (text text' : List ℕ) (left left' at at' : ℕ) → text' ≡ text → left' ≡ left → at' ≡ at → IsListed exe insts text left at → IsListed exe insts text' left' at'
same_listed exe insts text text' left left' at at' t l a h = record {
  rest = h.rest;
  count = h.count ∙ sym l;
  stand = let P : ℕ → Type 0 = λ at. StandFrom exe at h.rest in subst P (sym a) h.stand;
  says = ap (λ text. text ++ lines_of exe h.rest) t ∙ h.says;
}
