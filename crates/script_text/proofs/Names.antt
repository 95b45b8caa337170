-- Which bytes are a name.
use Rattle.std.proofs.Common.{◌≡◌, ℕ, ◌≤◌, Bool, true, false, ◌&&◌, List, length, inl, inr, refl}
use Rattle.std.specs.Str.{IsUtf8, is_utf8}
use Rattle.std.proofs.lemmas.Bool.{cases_Bool, le-leb}
use Rattle.std.proofs.lemmas.Str.{IsUtf8-from_is_utf8, is_utf8-from_IsUtf8}
use Rattle.word_reader.specs.Words.{is_name}
use Rattle.script_text.specs.Lines.{is_text_name}

and_false : (a b : Bool) → b ≡ false → (a && b) ≡ false
and_false true b h = h
and_false false b h = refl

pub a_name : (bs : List ℕ) → 1 ≤ length bs → length bs ≤ 4096 → IsUtf8 bs → is_text_name bs ≡ true
a_name bs h k u = rw (le-leb 1 (length bs) h, le-leb (length bs) 4096 k, is_utf8-from_IsUtf8 bs u) refl

pub no_name : (bs : List ℕ) → (IsUtf8 bs → ⊥) → is_text_name bs ≡ false
no_name bs n = elim (cases_Bool (is_utf8 bs)) [
  | inl t ↦ absurd (n (IsUtf8-from_is_utf8 bs t))
  | inr f ↦ and_false (is_name bs) (is_utf8 bs) f
]
