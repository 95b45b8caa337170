-- What a hole as `{n:08x}` writes.
use Rattle.std.proofs.Common.{◌≡◌, ℕ, ◌-◌, List, [], ◌++◌, length, replicate, String, Result, Ok, Err, IfOk, string_bytes, false, Option, Some, IfSome, ◌∙◌, ap, subst, arith}
use Rattle.std.proofs.lemmas.List.{append-nil}
use Rattle.std.specs.Option.{option_map}
use Rattle.std.specs.Fmt.{format_spec, padded_integral, char_count, shown_prefix, radix_prefix, digits, digits_output, styled_digits_output}
use Rattle.ia_text.specs.Operands.{hexadecimal}

-- zeros in front, up to the width
zeros : (count : ℕ) (ds : List ℕ) → padded_integral (format_spec 32 0 4 count 18446744073709551615) false [] ds ≡ replicate (count - length ds) 48 ++ ds
unfolding padded_integral char_count
zeros count ds = ap (λ k. replicate k 48 ++ (ds ++ [])) (let h : count - length ds - 0 - 0 ≡ count - length ds = omega arith in h) ∙ ap (λ z. replicate (count - length ds) 48 ++ z) (append-nil ds)

pub number : {Z E : Type 0} (count : ℕ) (d : _) (f : _) (n : ℕ) (r : Result (String Z) E) → digits_output d ≡ Some (digits 16 false n) → f ≡ format_spec 32 0 4 count 18446744073709551615 → IfOk r (λ s. IfSome (styled_digits_output d f) (λ bs. string_bytes s ≡ bs)) → IfOk r (λ s. string_bytes s ≡ hexadecimal count n)
number count d f n (Err e) shown laid is = tt
number count d f n (Ok s) shown laid is =
    let P : _ → Type 0 = λ f. IfSome (option_map (padded_integral f false (shown_prefix f (radix_prefix d.base))) (digits_output d)) (λ bs. string_bytes s ≡ bs) in
    let Q : Option (List ℕ) → Type 0 = λ o. IfSome (option_map (padded_integral (format_spec 32 0 4 count 18446744073709551615) false []) o) (λ bs. string_bytes s ≡ bs) in
    let h : string_bytes s ≡ padded_integral (format_spec 32 0 4 count 18446744073709551615) false [] (digits 16 false n) = subst Q shown (subst P laid is) in
    h ∙ zeros count (digits 16 false n)
