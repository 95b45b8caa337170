-- What steps keep: counts of faults that do not fall, calm objects, and a report that grows.
use Rattle.std.proofs.Common.{◌≡◌, ◌≤◌, ℕ, List, [], ◌++◌, Option, Some, None, Result, Ok, Err, refl, sym, ◌∙◌, ap, subst, arith, append_assoc}
use Rattle.std.specs.Option.{option_map}
use Rattle.std.proofs.lemmas.List.{append-nil}
use Rattle.br_outside.specs.Outside.{ShelfView, StreamView, Rose}
use Rattle.top_plan.specs.World.{World, on_shelf, on_input, on_out, on_report, faults_of, calm_of}
use Rattle.top_plan.specs.Plan.{planned_end}
use Rattle.top_plan.specs.Texts.{Finished, WorkEnd}
use Rattle.top_plan.specs.declared.ends.Halt.TheVariants.{Outside}
use Rattle.top_plan.specs.declared.ends.Cause.{Cause}
use Rattle.top_plan.specs.declared.ends.Object.{Object}
use Rattle.top_plan.specs.declared.ends.Object.TheVariants as objects
use Rattle.top_plan.specs.Expected.{HasFailed}

-- The counts have not fallen, who is calm stays calm, and what was reported has grown by something.
pub record IsKept (s t : World) : Type 0 where
  pub later : (x : Object) → faults_of x s ≤ faults_of x t
  pub calm : (x : Object) → calm_of x t ≡ calm_of x s
  pub grown : (text : List ℕ) × (t.report.bytes ≡ option_map (λ w. w ++ text) s.report.bytes)

-- nothing is written
pub nothing : (b : Option (List ℕ)) → b ≡ option_map (λ w. w ++ []) b
nothing None = refl
nothing (Some w) = ap Some (sym (append-nil w))

-- one text after another
pub two_texts : (b m e : Option (List ℕ)) (x y : List ℕ) → m ≡ option_map (λ w. w ++ x) b → e ≡ option_map (λ w. w ++ y) m → e ≡ option_map (λ w. w ++ (x ++ y)) b
two_texts b m e x y first second = second ∙ (ap (option_map (λ w. w ++ y)) first ∙ joined b)
  where
    joined : (b : Option (List ℕ)) → option_map (λ w. w ++ y) (option_map (λ w. w ++ x) b) ≡ option_map (λ w. w ++ (x ++ y)) b
    joined None = refl
    joined (Some w) = ap Some (append_assoc w x y)

pub same_kept : (s t : World) → t ≡ s → IsKept s t
same_kept s t same = let P : World → Type 0 = λ t. IsKept s t in subst P (sym same) (record { later = λ x. omega arith; calm = λ x. refl; grown = ([], nothing s.report.bytes) })

pub then_kept : (s m t : World) → IsKept s m → IsKept m t → IsKept s t
then_kept s m t a b = record {
  later = λ x. omega (arith, a.later x, b.later x);
  calm = λ x. b.calm x ∙ a.calm x;
  grown = (a.grown.0 ++ b.grown.0, two_texts s.report.bytes m.report.bytes t.report.bytes a.grown.0 b.grown.0 a.grown.1 b.grown.1);
}

pub shelf_kept : (s : World) (v : ShelfView) → s.shelf.faults ≤ v.faults → v.calm ≡ s.shelf.calm → IsKept s (on_shelf s v)
shelf_kept s v h e = record {
  later = elim [ objects.Shelf ↦ h | objects.Input ↦ omega arith | objects.Output ↦ omega arith | objects.Report ↦ omega arith ];
  calm = elim [ objects.Shelf ↦ e | objects.Input ↦ refl | objects.Output ↦ refl | objects.Report ↦ refl ];
  grown = ([], nothing s.report.bytes);
}

pub input_kept : (s : World) (v : StreamView) → s.input.faults ≤ v.faults → v.calm ≡ s.input.calm → IsKept s (on_input s v)
input_kept s v h e = record {
  later = elim [ objects.Shelf ↦ omega arith | objects.Input ↦ h | objects.Output ↦ omega arith | objects.Report ↦ omega arith ];
  calm = elim [ objects.Shelf ↦ refl | objects.Input ↦ e | objects.Output ↦ refl | objects.Report ↦ refl ];
  grown = ([], nothing s.report.bytes);
}

pub out_kept : (s : World) (v : StreamView) → s.out.faults ≤ v.faults → v.calm ≡ s.out.calm → IsKept s (on_out s v)
out_kept s v h e = record {
  later = elim [ objects.Shelf ↦ omega arith | objects.Input ↦ omega arith | objects.Output ↦ h | objects.Report ↦ omega arith ];
  calm = elim [ objects.Shelf ↦ refl | objects.Input ↦ refl | objects.Output ↦ e | objects.Report ↦ refl ];
  grown = ([], nothing s.report.bytes);
}

pub report_kept : (s : World) (v : StreamView) → s.report.faults ≤ v.faults → v.calm ≡ s.report.calm → ((text : List ℕ) × (v.bytes ≡ option_map (λ w. w ++ text) s.report.bytes)) → IsKept s (on_report s v)
report_kept s v h e grown = record {
  later = elim [ objects.Shelf ↦ omega arith | objects.Input ↦ omega arith | objects.Output ↦ omega arith | objects.Report ↦ h ];
  calm = elim [ objects.Shelf ↦ refl | objects.Input ↦ refl | objects.Output ↦ refl | objects.Report ↦ e ];
  grown = grown;
}

pub rises : (a b c : ℕ) → a ≤ b → Rose b c → Rose a c
rises a b c h r = omega arith

-- a failure after a step that kept the counts, and before one
pub fails_later : (x : Object) (s m t : World) → IsKept s m → HasFailed x m t → HasFailed x s t
fails_later x s m t kept f = record { rose = rises (faults_of x s) (faults_of x m) (faults_of x t) (kept.later x) f.rose; loud = λ c. f.loud (kept.calm x ∙ c) }

pub failed_still : (x : Object) (s m t : World) → IsKept m t → HasFailed x s m → HasFailed x s t
failed_still x s m t kept f = record { rose = let r = f.rose in omega (arith, r, kept.later x); loud = f.loud }

-- no plan ends by itself as if an object had failed
pub no_fault : (end : Result Finished Cause) (o : WorkEnd) (x : Object) → o ≡ planned_end end → o ≡ Err (Outside x) → ⊥
no_fault (Ok done) o x is h = cc
no_fault (Err cause) o x is h = cc
