-- One line more of a folded block.
use Rattle.std.proofs.Common.{◌≡◌, ℕ, Option, ◌+◌, ◌<◌, List, [], ◌∷◌, ◌++◌, length, get_or, set, map, take, drop, sym, ap, ◌∙◌, append_assoc, arith, length-append, length-take, length-drop}
use Rattle.std.proofs.lemmas.List.{at_drop_more, get_or_default, length-map}
use Rattle.std.proofs.lemmas.List.Edits.{map_over_more}
use Rattle.ssa_form.specs.declared.form.Val.{Val}
use Rattle.ssa_form.specs.declared.form.Line.{Line}
use Rattle.ssa_form.specs.declared.form.Line.TheVariants.{Gone}
use Rattle.pass_copy.proofs.Keeping.{two}
use Rattle.pass_const.specs.Rule.{rule}
use Rattle.pass_copy.specs.Folded.{line_replaced, kept, stand, folded_lines, stands}

-- the line with this index, its names replaced
abbrev pub met : List Val → List Line → ℕ → Line
met t ls i = line_replaced t (get_or ls i Gone)

pub lines_more : (ls done : List Line) (t : List Val) (i : ℕ) → i < length ls → length t ≡ i →
    (done ++ kept (rule (met t ls i)) (met t ls i) ∷ []) ++ folded_lines (t ++ stand (rule (met t ls i)) i ∷ []) (drop (i + 1) ls) ≡ done ++ folded_lines t (drop i ls)
lines_more ls done t i l e =
    let m = met t ls i in
    let s : folded_lines t (drop i ls) ≡ kept (rule m) m ∷ folded_lines (t ++ stand (rule m) (length t) ∷ []) (drop (i + 1) ls) = at_drop_more (folded_lines t) ls i Gone l in
    append_assoc done (kept (rule m) m ∷ []) _ ∙ ap (λ k. done ++ kept (rule m) m ∷ folded_lines (t ++ stand (rule m) k ∷ []) (drop (i + 1) ls)) (sym e) ∙ ap (λ x. done ++ x) (sym s)

pub stands_more : (ls : List Line) (t : List Val) (i : ℕ) → i < length ls → length t ≡ i →
    stands (t ++ stand (rule (met t ls i)) i ∷ []) (drop (i + 1) ls) ≡ stands t (drop i ls)
stands_more ls t i l e =
    let m = met t ls i in
    let s : stands t (drop i ls) ≡ stands (t ++ stand (rule m) (length t) ∷ []) (drop (i + 1) ls) = at_drop_more (stands t) ls i Gone l in
    ap (λ k. stands (t ++ stand (rule m) k ∷ []) (drop (i + 1) ls)) (sym e) ∙ sym s

-- both, from what the loop's steps say
pub step_more : (ls done done' : List Line) (t now t' : List Val) (i : ℕ) (read line k : Line) (name : Option Val) (s : Val) → i < length ls → length t ≡ i → now ≡ t → read ≡ get_or ls i Gone → line ≡ line_replaced now read → name ≡ rule line → k ≡ kept name line → s ≡ stand name i → done' ≡ done ++ k ∷ [] → t' ≡ t ++ s ∷ [] →
    (done' ++ folded_lines t' (drop (i + 1) ls) ≡ done ++ folded_lines t (drop i ls)) × (stands t' (drop (i + 1) ls) ≡ stands t (drop i ls))
step_more ls done done' t now t' i read line k name s l e n r m q x y p g =
    let h = lines_more ls done t i l e in
    let w = stands_more ls t i l e in
    let met : line ≡ line_replaced t (get_or ls i Gone) = cc in
    let named : name ≡ rule (line_replaced t (get_or ls i Gone)) = q ∙ ap rule met in
    let a : done' ≡ done ++ kept (rule (line_replaced t (get_or ls i Gone))) (line_replaced t (get_or ls i Gone)) ∷ [] = cc in
    let b : t' ≡ t ++ stand (rule (line_replaced t (get_or ls i Gone))) i ∷ [] = cc in
    (two (λ d v. d ++ folded_lines v (drop (i + 1) ls)) _ _ _ _ a b ∙ h, ap (λ v. stands v (drop (i + 1) ls)) b ∙ w)

-- one out more
pub outs_more : (f : Val → Val) (xs ys : List Val) (i : ℕ) (r d : Val) → i < length xs → ys ≡ map f (take i xs) ++ drop i xs → r ≡ f (get_or ys i d) → set ys i r ≡ map f (take (i + 1) xs) ++ drop (i + 1) xs
outs_more f xs ys i r d l e q =
    let n : length ys ≡ length (map f (take i xs)) + length (drop i xs) = ap length e ∙ length-append (map f (take i xs)) (drop i xs) in
    let p = length-map (take i xs) f in
    let k = length-take i xs in
    let m = length-drop i xs in
    let x = get_or ys i d in
    ap (set ys i) q ∙ map_over_more f xs ys i x l e (get_or_default ys i d x (omega arith))
