-- What stands at an address, read from its first bytes.
use Rattle.std.proofs.Common.{◌≡◌, ℕ, List, [], ◌++◌, length, take, drop, Option, Some, None, refl, sym, ◌∙◌, ap, subst, IsTrue}
use Rattle.std.proofs.lemmas.List.{take_at}
use Rattle.ia_inst.specs.declared.inst.Inst.{Inst}
use Rattle.ia_inst.specs.Canonical.{valid_of}
use Rattle.ia_inst.specs.Instructions.{decode_of}
use Rattle.ia_inst.specs.Step.{Found, NoInst, There, found_from, found_in}
use Rattle.guest_mem.specs.View.{fetched}
use Rattle.guest_mem.specs.Pieces.{in_page}
use Rattle.guest_mem.proofs.Copies.{in_page-some}
use Rattle.guest_run.specs.declared.advance.Code.TheVariants as code
use Rattle.guest_run.specs.Advance.{IsFound}

-- the first bytes tell what all of them do
pub code_found : ((bytes : List ℕ) → decode_of (take 15 bytes) ≡ decode_of bytes) → (o : Option (List ℕ)) (count : ℕ) (old new : List ℕ) (r : Option (Inst × ℕ)) → count ≡ length (fetched o) → new ≡ fetched o ++ drop count old → (o ≡ None → ⊥)
    → r ≡ decode_of (take count new) → found_in o ≡ found_from r
code_found law None count old new r len is some e = absurd (some refl)
code_found law (Some bytes) count old new r len is some e =
    let front : take count new ≡ take 15 bytes = ap (λ t. take count t) is ∙ take_at (take 15 bytes) _ count (sym len) in
    ap found_from (sym (e ∙ (ap decode_of front ∙ law bytes)))

-- so do the bytes that are lent, where they lie in one page
pub code_lent : ((bytes : List ℕ) → decode_of (take 15 bytes) ≡ decode_of bytes) → (at : ℕ) (o : Option (List ℕ)) (new : List ℕ) (r : Option (Inst × ℕ)) → new ≡ in_page at (fetched o) → (length new ≡ 0 → ⊥) → r ≡ decode_of new → found_in o ≡ found_from r
code_lent law at None new r is some e = absurd (some (ap (λ x. length x) (in_page-some at [] new is some)))
code_lent law at (Some bytes) new r is some e =
    ap found_from (sym (e ∙ (ap decode_of (in_page-some at (take 15 bytes) new is some) ∙ law bytes)))

pub code_unread : (o : Option (List ℕ)) → found_in o ≡ NoInst → IsFound (found_in o) code.Unreadable
code_unread o e = let P : Found → Type 0 = λ f. IsFound f code.Unreadable in subst P (sym e) tt

pub code_inst : (o : Option (List ℕ)) (i : Inst) (n : ℕ) → IsTrue (valid_of i) → found_in o ≡ There i n → IsFound (found_in o) (code.Inst i n)
code_inst o i n valid e =
    let P : Found → Type 0 = λ f. IsFound f (code.Inst i n) in
    subst P (sym e) (refl, refl, valid)
