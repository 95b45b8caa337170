-- Marks of last uses, and the order of placing, one step further.
use Rattle.std.proofs.Common.{◌≡◌, ℕ, suc, ◌+◌, ◌<◌, ◌≤◌, Bool, true, false, List, [], ◌∷◌, ◌++◌, length, drop, get_or, refl, sym, ap, ◌∙◌, arith, append_assoc}
use Rattle.std.specs.Prelude.{filter, if◌then◌else◌, ◌||◌}
use Rattle.std.proofs.lemmas.List.{at_drop_more, at_drop_all}
use Rattle.ssa_form.specs.declared.form.Val.{Val}
use Rattle.ssa_form.specs.declared.form.Line.{Line}
use Rattle.ssa_form.specs.declared.form.Line.TheVariants.{Gone}
use Rattle.ssa_form.specs.Agree.{every}
use Rattle.ssa_form.specs.Value.{numbered}
use Rattle.pass_dead.specs.Names.{vals_of, val_names, vals_name, outs_name}
use Rattle.reg_place.specs.Places.{is_in}
use Rattle.reg_place.specs.LastUses.{last_named}
use Rattle.reg_place.proofs.Order.{Step}

-- a mark over a mark
over : (x y : Bool) (p a : ℕ) → (if y then p else (if x then p else a)) ≡ (if x || y then p else a)
over true true p a = refl
over true false p a = refl
over false y p a = refl

-- ---- outs

pub out_more : (os : List Val) (v j : ℕ) (d : Val) (p : ℕ) (old new : List ℕ) (g : ℕ) → v < length os → get_or new j 0 ≡ (if val_names (get_or os v d) j then p else get_or old j 0) → (if outs_name every v (drop v os) j then p else get_or old j 0) ≡ g → (if outs_name every (v + 1) (drop (v + 1) os) j then p else get_or new j 0) ≡ g
out_more os v j d p old new g l m h =
    let z : suc v ≡ v + 1 = omega arith in
    let rest : Bool = outs_name every (v + 1) (drop (v + 1) os) j in
    let here : outs_name every v (drop v os) j ≡ (val_names (get_or os v d) j || rest) =
    at_drop_more (λ xs. outs_name every v xs j) os v d l ∙ ap (λ n. val_names (get_or os v d) j || outs_name every n (drop (v + 1) os) j) z in
    ap (λ a. if rest then p else a) m ∙ over (val_names (get_or os v d) j) rest p (get_or old j 0) ∙ sym (ap (λ b. if b then p else get_or old j 0) here) ∙ h

pub outs_done : (os : List Val) (v j p a : ℕ) → length os ≤ v → a ≡ (if outs_name every v (drop v os) j then p else a)
outs_done os v j p a l = sym (ap (λ b. if b then p else a) (at_drop_all (λ xs. outs_name every v xs j) os v l))

-- ---- steps

pub step_more : (steps : List Step) (at j : ℕ) (d : Step) (a last end : ℕ) → at < length steps → a ≡ (if vals_name (vals_of (get_or steps at d).1) j then at + 1 else last) → last_named at (drop at steps) j last ≡ end → last_named (at + 1) (drop (at + 1) steps) j a ≡ end
step_more steps at j d a last end l m h =
    let z : at + 1 ≡ suc at = omega arith in
    let rest = drop (at + 1) steps in
    let named = vals_name (vals_of (get_or steps at d).1) j in
    ap (last_named (at + 1) rest j) m ∙ ap (λ n. last_named n rest j (if named then n else last)) z ∙ sym (at_drop_more (λ xs. last_named at xs j last) steps at d l) ∙ h

pub steps_done : (steps : List Step) (at j last : ℕ) → length steps ≤ at → last ≡ last_named at (drop at steps) j last
steps_done steps at j last l = sym (at_drop_all (λ xs. last_named at xs j last) steps at l)

-- ---- the order

module _ (set : List Bool) (ls : List Line) where
  abbrev pub taken_from : ℕ → List Step
  taken_from i = filter (λ (p : Step). is_in set p.0) (numbered i (drop i ls))

  from_here : (i : ℕ) → i < length ls → taken_from i ≡ (if is_in set i then (i, get_or ls i Gone) ∷ taken_from (i + 1) else taken_from (i + 1))
  from_here i l =
      let z : suc i ≡ i + 1 = omega arith in
      let rest = drop (i + 1) ls in
      at_drop_more (λ xs. filter (λ (p : Step). is_in set p.0) (numbered i xs)) ls i Gone l
      ∙ ap (λ n. if is_in set i then (i, get_or ls i Gone) ∷ filter (λ (p : Step). is_in set p.0) (numbered n rest) else filter (λ (p : Step). is_in set p.0) (numbered n rest)) z

  pub line_taken : (i : ℕ) (old steps more : List Step) (end : List Step) → i < length ls → is_in set i ≡ true → more ≡ steps ++ (i, get_or ls i Gone) ∷ [] → steps ++ taken_from i ≡ end → more ++ taken_from (i + 1) ≡ end
  line_taken i old steps more end l on m h =
      ap (λ x. x ++ taken_from (i + 1)) m ∙ append_assoc steps ((i, get_or ls i Gone) ∷ []) (taken_from (i + 1))
      ∙ sym (ap (λ x. steps ++ x) (from_here i l ∙ ap (λ b. if b then (i, get_or ls i Gone) ∷ taken_from (i + 1) else taken_from (i + 1)) on)) ∙ h

  pub line_passed : (i : ℕ) (steps more : List Step) (end : List Step) → i < length ls → is_in set i ≡ false → more ≡ steps → steps ++ taken_from i ≡ end → more ++ taken_from (i + 1) ≡ end
  line_passed i steps more end l off m h =
      ap (λ x. x ++ taken_from (i + 1)) m ∙ sym (ap (λ x. steps ++ x) (from_here i l ∙ ap (λ b. if b then (i, get_or ls i Gone) ∷ taken_from (i + 1) else taken_from (i + 1)) off)) ∙ h

  pub none_taken : (i : ℕ) (steps end : List Step) → length ls ≤ i → steps ++ taken_from i ≡ end → steps ++ [] ≡ end
  none_taken i steps end l h = sym (ap (λ x. steps ++ x) (at_drop_all (λ xs. filter (λ (p : Step). is_in set p.0) (numbered i xs)) ls i l)) ∙ h
