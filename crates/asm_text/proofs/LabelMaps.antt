-- Labels as a map and as rows.
use Rattle.std.proofs.Common.{◌≡◌, ℕ, Bool, true, false, cond, List, [], ◌∷◌, ◌++◌, Option, Some, None, refl, ◌∙◌, ap, sym}
use Rattle.std.specs.Prelude.{is_some, if◌then◌else◌}
use Rattle.std.specs.Borrow.{Bor}
use Rattle.std.specs.BTreeMap.{BTreeMap, Updates, get_by}
use Rattle.std.specs.Cmp.Lexicographic.{slice_cmp}
use Rattle.std.specs.Ordering.{nat_cmp}
use Rattle.std.specs.Str.{bytes_eq}
use Rattle.std.proofs.lemmas.Map.Text.{btree_map_updates_str}
use Rattle.std.proofs.lemmas.Slice.Eq.{bytes_eq-Decides}
use Rattle.asm_line.specs.declared.lines.Form as read
use Rattle.asm_line.specs.declared.lines.Form.TheVariants as read_form
use Rattle.asm_line.specs.declared.transfers.Transfer.{Transfer}
use Rattle.asm_line.specs.Forms.{Form, Nothing, Label, Bytes, Stands, Goes, formed}
use Rattle.asm_text.specs.Source.{Row, names, address_of, row_refusal, use_refusal, goes_to, or_zero}
use Rattle.asm_text.specs.Reads.{HasLabels}

-- with one row more
abbrev one_address : Option Form → ℕ → List ℕ → Option ℕ
one_address form at name = if names form name then Some at else None

abbrev first_of_two : Option ℕ → Option ℕ → Option ℕ
first_of_two (Some a) other = Some a
first_of_two None other = other

added : (before : List Row) (row : Row) (name : List ℕ) → address_of (before ++ row ∷ []) name ≡ first_of_two (address_of before name) (one_address row.form row.at name)
added [] row name = refl
added (b ∷ before) row name = by_test (names b.form name) (added before row name)
  where
    by_test : (t : Bool) → address_of (before ++ row ∷ []) name ≡ first_of_two (address_of before name) (one_address row.form row.at name)
        → (if t then Some b.at else address_of (before ++ row ∷ []) name) ≡ first_of_two (if t then Some b.at else address_of before name) (one_address row.form row.at name)
    by_test true h = refl
    by_test false h = h

none_added : (a : Option ℕ) → a ≡ first_of_two a None
none_added None = refl
none_added (Some a) = refl

last : (at : ℕ) (t : Bool) (a : Option ℕ) → (t ≡ true → a ≡ None) → cond t (Some at) a ≡ first_of_two a (if t then Some at else None)
last at true a absent = sym (ap (λ (o : Option ℕ). first_of_two o (Some at)) (absent refl))
last at false a absent = none_added a

one_name : (xs ys : List ℕ) → bytes_eq xs ys ≡ true → xs ≡ ys
one_name xs ys h = (bytes_eq-Decides xs ys).0 h

-- a row that is no label
pub still : (labels : BTreeMap (Bor (List ℕ)) ℕ) (before : List Row) (number at : ℕ) (form : Option Form) → ((name : List ℕ) → names form name ≡ false) → HasLabels labels before → HasLabels labels (before ++ record { number = number; at = at; form = form } ∷ [])
still labels before number at form none has name =
    has name ∙ none_added (address_of before name)
    ∙ ap (λ t. first_of_two (address_of before name) (if t then Some at else None)) (sym (none name))
    ∙ sym (added before (record { number = number; at = at; form = form }) name)

-- a new label
pub more : (old new : BTreeMap (Bor (List ℕ)) ℕ) (before : List Row) (number at : ℕ) (key : Bor (List ℕ)) → HasLabels old before → get_by (λ k. slice_cmp nat_cmp key.now k.now) old ≡ None → Updates (λ x y. slice_cmp nat_cmp x.now y.now) old new key (Some at) → HasLabels new (before ++ record { number = number; at = at; form = Some (Label key.now) } ∷ [])
more old new before number at key has absent up name =
    btree_map_updates_str key.now old new (Some at) up name
    ∙ ap (cond (bytes_eq key.now name) (Some at)) (has name)
    ∙ last at (bytes_eq key.now name) (address_of before name) (λ same. sym (has name) ∙ ap (λ (n : List ℕ). get_by (λ k. slice_cmp nat_cmp n k.now) old) (sym (one_name key.now name same)) ∙ absent)
    ∙ sym (added before (record { number = number; at = at; form = Some (Label key.now) }) name)

-- a label that is there is refused, and no other
pub is_new : (labels : BTreeMap (Bor (List ℕ)) ℕ) (before : List Row) (number : ℕ) (name : List ℕ) → HasLabels labels before → get_by (λ k. slice_cmp nat_cmp name k.now) labels ≡ None → row_refusal before number (Some (Label name)) ≡ None
is_new labels before number name has absent = ap (λ (a : Option ℕ). if is_some a then Some (42, number) else None) (sym (has name) ∙ absent)

pub is_old : (labels : BTreeMap (Bor (List ℕ)) ℕ) (before : List Row) (number at : ℕ) (name : List ℕ) → HasLabels labels before → get_by (λ k. slice_cmp nat_cmp name k.now) labels ≡ Some at → row_refusal before number (Some (Label name)) ≡ Some (42, number)
is_old labels before number at name has there = ap (λ (a : Option ℕ). if is_some a then Some (42, number) else None) (sym (has name) ∙ there)

-- the label that a row goes to
pub is_known : (labels : BTreeMap (Bor (List ℕ)) ℕ) (all : List Row) (kind : Transfer) (number to : ℕ) (name : List ℕ) → HasLabels labels all → get_by (λ k. slice_cmp nat_cmp name k.now) labels ≡ Some to → (use_refusal all number (Some (Goes kind name)) ≡ None) × (to ≡ goes_to all (Some (Goes kind name)))
is_known labels all kind number to name has there =
    (ap (λ (a : Option ℕ). if is_some a then None else Some (43, number)) (sym (has name) ∙ there), sym (ap or_zero (sym (has name) ∙ there)))

pub is_unknown : (labels : BTreeMap (Bor (List ℕ)) ℕ) (all : List Row) (kind : Transfer) (number : ℕ) (name : List ℕ) → HasLabels labels all → get_by (λ k. slice_cmp nat_cmp name k.now) labels ≡ None → use_refusal all number (Some (Goes kind name)) ≡ Some (43, number)
is_unknown labels all kind number name has absent = ap (λ (a : Option ℕ). if is_some a then None else Some (43, number)) (sym (has name) ∙ absent)

-- a form that is no label
pub others : (labels : BTreeMap (Bor (List ℕ)) ℕ) (before : List Row) (number at : ℕ) (form : read.Form) → ((name : Bor (List ℕ)) → form ≡ read_form.Label name → ⊥) → HasLabels labels before → (row_refusal before number (Some (formed form)) ≡ None) × HasLabels labels (before ++ record { number = number; at = at; form = Some (formed form) } ∷ [])
others labels before number at (read_form.Label name) apart has = absurd (apart name refl)
others labels before number at read_form.Nothing apart has = (refl, still labels before number at (Some Nothing) (λ name. refl) has)
others labels before number at (read_form.Bytes digits) apart has = (refl, still labels before number at (Some (Bytes digits.now)) (λ name. refl) has)
others labels before number at (read_form.Stands i) apart has = (refl, still labels before number at (Some (Stands i)) (λ name. refl) has)
others labels before number at (read_form.Goes kind label) apart has = (refl, still labels before number at (Some (Goes kind label.now)) (λ name. refl) has)
