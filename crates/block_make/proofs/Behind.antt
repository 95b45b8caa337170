-- Lists of items that grow by one part a turn of a loop.
use Rattle.std.proofs.Common.{◌≡◌, ℕ, zero, suc, ◌+◌, ◌<◌, ◌≤◌, Bool, true, false, cond, List, [], ◌∷◌, ◌++◌, length, map, get_or, drop, refl, sym, ap, ◌∙◌, subst, arith, append_assoc, add-one, append-nil}
use Rattle.std.proofs.Math.Seq.{drop-cons}
use Rattle.std.specs.Prelude.{if◌then◌else◌, Option, Some, None, not, ◌&&◌}
use Rattle.br_word.specs.declared.types.Width.TheVariants.{B32}
use Rattle.ia_inst.specs.declared.inst.Inst.{Inst}
use Rattle.ia_inst.specs.declared.inst.Inst.TheVariants.{Alu}
use Rattle.ia_inst.specs.declared.inst.Src.TheVariants as src
use Rattle.ia_encode.specs.declared.item.Dest.TheVariants as dests
use Rattle.ia_encode.specs.declared.item.Item.{Item}
use Rattle.ia_encode.specs.declared.item.Item.TheVariants as item
use Rattle.ssa_form.specs.declared.form.Val.{Val}
use Rattle.ssa_form.specs.declared.form.Val.TheVariants as val
use Rattle.ssa_form.specs.declared.form.Line.{Line}
use Rattle.ssa_form.specs.declared.form.Line.TheVariants.{Gone}
use Rattle.ssa_form.specs.Value.{numbered}
use Rattle.par_moves.specs.declared.locations.Place.{Place}
use Rattle.par_moves.specs.declared.locations.PlaceMove.{PlaceMove}
use Rattle.emit_ops.specs.Templates.{eax, line_code, move_code}
use Rattle.emit_ops.specs.Sequences.{kept, lines_code, moves_code, keeps_itself, move_of, live_moves}
use Rattle.block_make.specs.Choices.{Choice}
use Rattle.block_make.specs.FragmentItems.{tail_items, compare_items, tails_items}

-- ---- lists

pub puts_append : (is js : List Inst) → map item.Inst (is ++ js) ≡ map item.Inst is ++ map item.Inst js
puts_append [] js = refl
puts_append (i ∷ is) js = ap (λ xs. item.Inst i ∷ xs) (puts_append is js)

-- a first part goes over from the rest to what stands
over : {A : Type 0} (all p q part rest left : List A) → all ≡ p ++ rest → rest ≡ part ++ left → q ≡ p ++ part → all ≡ q ++ left
over all p q part rest left a r e = a ∙ ap (λ xs. p ++ xs) r ∙ sym (append_assoc p part left) ∙ ap (λ xs. xs ++ left) (sym e)

split : {A : Type 0} (xs : List A) (i : ℕ) (d : A) → i < length xs → drop i xs ≡ get_or xs i d ∷ drop (i + 1) xs
split xs i d l = drop-cons xs i d l ∙ ap (λ k. get_or xs i d ∷ drop k xs) (sym (add-one i))

-- within a list any default will do
pub any_default : {A : Type 0} (xs : List A) (i : ℕ) (d e : A) → i < length xs → get_or xs i d ≡ get_or xs i e
any_default [] i d e l = absurd (omega arith)
any_default (x ∷ xs) zero d e l = refl
any_default (x ∷ xs) (suc i) d e l = any_default xs i d e (omega arith)

-- ---- lines

module _ (home place : ℕ → Place) (keep : ℕ → Bool) (lines : List Line) where
  abbrev pub lines_left : ℕ → List Item
  lines_left i = map item.Inst (lines_code home place (kept keep (numbered i (drop i lines))))

  abbrev lines_by : Bool → ℕ → List Item
  lines_by b i = map item.Inst (lines_code home place (if b then (i, get_or lines i Gone) ∷ kept keep (numbered (i + 1) (drop (i + 1) lines)) else kept keep (numbered (i + 1) (drop (i + 1) lines))))

  lines_split : (i : ℕ) → i < length lines → lines_left i ≡ lines_by (keep i) i
  lines_split i l =
      ap (λ xs. map item.Inst (lines_code home place (kept keep (numbered i xs)))) (split lines i Gone l)
      ∙ ap (λ k. map item.Inst (lines_code home place (if keep i then (i, get_or lines i Gone) ∷ kept keep (numbered k (drop (i + 1) lines)) else kept keep (numbered k (drop (i + 1) lines))))) (sym (add-one i))

  pub line_taken : (i : ℕ) (all p q : List Item) → i < length lines → keep i ≡ true → all ≡ p ++ lines_left i → q ≡ p ++ map item.Inst (line_code home place i (get_or lines i Gone)) → all ≡ q ++ lines_left (i + 1)
  line_taken i all p q l k a e =
      over all p q (map item.Inst (line_code home place i (get_or lines i Gone))) (lines_left i) (lines_left (i + 1)) a
      (lines_split i l ∙ ap (λ b. lines_by b i) k ∙ puts_append (line_code home place i (get_or lines i Gone)) (lines_code home place (kept keep (numbered (i + 1) (drop (i + 1) lines))))) e

  pub line_left : (i : ℕ) (all p : List Item) → i < length lines → keep i ≡ false → all ≡ p ++ lines_left i → all ≡ p ++ lines_left (i + 1)
  line_left i all p l k a = a ∙ ap (λ xs. p ++ xs) (lines_split i l ∙ ap (λ b. lines_by b i) k)

-- ---- moves

pub move_more : (moves : List PlaceMove) (i : ℕ) (d : PlaceMove) (all p q : List Item) → i < length moves → all ≡ p ++ map item.Inst (moves_code (drop i moves)) → q ≡ p ++ map item.Inst (move_code (get_or moves i d).to (get_or moves i d).from) → all ≡ q ++ map item.Inst (moves_code (drop (i + 1) moves))
move_more moves i d all p q l a e =
    over all p q (map item.Inst (move_code (get_or moves i d).to (get_or moves i d).from)) (map item.Inst (moves_code (drop i moves))) (map item.Inst (moves_code (drop (i + 1) moves))) a
    (ap (λ xs. map item.Inst (moves_code xs)) (split moves i d l) ∙ puts_append (move_code (get_or moves i d).to (get_or moves i d).from) (moves_code (drop (i + 1) moves))) e

module _ (home place : ℕ → Place) (live : ℕ → Bool) (outs : List Val) where
  abbrev pub moves_left : ℕ → List PlaceMove
  moves_left v = live_moves home place live v (drop v outs)

  abbrev moves_by : Bool → ℕ → List PlaceMove
  moves_by b v = cond b (move_of home place v (get_or outs v (val.Num 0)) ∷ moves_left (v + 1)) (moves_left (v + 1))

  abbrev pub moves_now : ℕ → Bool
  moves_now v = live v && not (keeps_itself v (get_or outs v (val.Num 0)))

  moves_split : (v : ℕ) → v < length outs → moves_left v ≡ moves_by (moves_now v) v
  moves_split v l =
      ap (λ xs. live_moves home place live v xs) (split outs v (val.Num 0) l)
      ∙ ap (λ k. cond (moves_now v) (move_of home place v (get_or outs v (val.Num 0)) ∷ live_moves home place live k (drop (v + 1) outs)) (live_moves home place live k (drop (v + 1) outs))) (sym (add-one v))

  pub move_taken : (v : ℕ) (all p q : List PlaceMove) → v < length outs → moves_now v ≡ true → all ≡ p ++ moves_left v → q ≡ p ++ move_of home place v (get_or outs v (val.Num 0)) ∷ [] → all ≡ q ++ moves_left (v + 1)
  move_taken v all p q l k a e =
      over all p q (move_of home place v (get_or outs v (val.Num 0)) ∷ []) (moves_left v) (moves_left (v + 1)) a (moves_split v l ∙ ap (λ b. moves_by b v) k) e

  pub move_left : (v : ℕ) (all p : List PlaceMove) → v < length outs → moves_now v ≡ false → all ≡ p ++ moves_left v → all ≡ p ++ moves_left (v + 1)
  move_left v all p l k a = a ∙ ap (λ xs. p ++ xs) (moves_split v l ∙ ap (λ b. moves_by b v) k)

-- ---- known exits

pub compare_more : (exits : List (ℕ × ℕ)) (i : ℕ) (d : ℕ × ℕ) (all p q : List Item) → i < length exits → all ≡ p ++ compare_items (i + 1) (drop i exits) → q ≡ p ++ item.Inst (Alu 7 B32 eax (src.Imm (get_or exits i d).0)) ∷ item.Jump (Some 4) (dests.Label (i + 1)) ∷ [] → all ≡ q ++ compare_items (i + 1 + 1) (drop (i + 1) exits)
compare_more exits i d all p q l a e =
    over all p q (item.Inst (Alu 7 B32 eax (src.Imm (get_or exits i d).0)) ∷ item.Jump (Some 4) (dests.Label (i + 1)) ∷ []) (compare_items (i + 1) (drop i exits)) (compare_items (i + 1 + 1) (drop (i + 1) exits)) a
    (ap (λ xs. compare_items (i + 1) xs) (split exits i d l)
    ∙ ap (λ k. item.Inst (Alu 7 B32 eax (src.Imm (get_or exits i d).0)) ∷ item.Jump (Some 4) (dests.Label (i + 1)) ∷ compare_items k (drop (i + 1) exits)) (sym (add-one (i + 1)))) e

pub tails_more : (c : Choice) (exits : List (ℕ × ℕ)) (i : ℕ) (d : ℕ × ℕ) (all p q : List Item) → i < length exits → all ≡ p ++ tails_items c (i + 1) (drop i exits) → q ≡ (p ++ item.Label (i + 1) ∷ []) ++ tail_items c (get_or exits i d).1 (get_or exits i d).0 → all ≡ q ++ tails_items c (i + 1 + 1) (drop (i + 1) exits)
tails_more c exits i d all p q l a e =
    over all p q (item.Label (i + 1) ∷ tail_items c (get_or exits i d).1 (get_or exits i d).0) (tails_items c (i + 1) (drop i exits)) (tails_items c (i + 1 + 1) (drop (i + 1) exits)) a
    (ap (λ xs. tails_items c (i + 1) xs) (split exits i d l)
    ∙ ap (λ k. item.Label (i + 1) ∷ (tail_items c (get_or exits i d).1 (get_or exits i d).0 ++ tails_items c k (drop (i + 1) exits))) (sym (add-one (i + 1))))
    (e ∙ append_assoc p (item.Label (i + 1) ∷ []) (tail_items c (get_or exits i d).1 (get_or exits i d).0))

-- ---- at the end of a loop
dropped : {A : Type 0} (xs : List A) (i : ℕ) → length xs ≤ i → drop i xs ≡ []
dropped [] zero l = refl
dropped [] (suc i) l = refl
dropped (x ∷ xs) zero l = absurd (omega arith)
dropped (x ∷ xs) (suc i) l = dropped xs i (omega arith)

ended : {A : Type 0} (all p rest : List A) → rest ≡ [] → all ≡ p ++ rest → all ≡ p
ended all p rest r a = a ∙ ap (λ xs. p ++ xs) r ∙ append-nil p

pub lines_done : (home place : ℕ → Place) (keep : ℕ → Bool) (lines : List Line) (i : ℕ) (all p : List Item) → length lines ≤ i → all ≡ p ++ lines_left home place keep lines i → all ≡ p
lines_done home place keep lines i all p l a = ended all p (lines_left home place keep lines i) (ap (λ xs. map item.Inst (lines_code home place (kept keep (numbered i xs)))) (dropped lines i l)) a

pub moves_done : (home place : ℕ → Place) (live : ℕ → Bool) (outs : List Val) (v : ℕ) (all p : List PlaceMove) → length outs ≤ v → all ≡ p ++ moves_left home place live outs v → all ≡ p
moves_done home place live outs v all p l a = ended all p (moves_left home place live outs v) (ap (λ xs. live_moves home place live v xs) (dropped outs v l)) a

pub code_done : (moves : List PlaceMove) (i : ℕ) (all p : List Item) → length moves ≤ i → all ≡ p ++ map item.Inst (moves_code (drop i moves)) → all ≡ p
code_done moves i all p l a = ended all p (map item.Inst (moves_code (drop i moves))) (ap (λ xs. map item.Inst (moves_code xs)) (dropped moves i l)) a

pub tails_done : (c : Choice) (exits : List (ℕ × ℕ)) (i : ℕ) (all p : List Item) → length exits ≤ i → all ≡ p ++ tails_items c (i + 1) (drop i exits) → all ≡ p
tails_done c exits i all p l a = ended all p (tails_items c (i + 1) (drop i exits)) (ap (λ xs. tails_items c (i + 1) xs) (dropped exits i l)) a
