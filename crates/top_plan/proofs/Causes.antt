-- Why a run ended as it did: an object is named only where its count of faults rose.
use Rattle.std.proofs.Common.{◌≡◌, Ok, Err, sym, subst, inl, inr, arith}
use Rattle.br_outside.specs.Outside.{Rose}
use Rattle.br_outside.specs.declared.errors.ShelfError.TheVariants as shelf_errors
use Rattle.br_outside.specs.declared.errors.StoreError.TheVariants as store_errors
use Rattle.br_outside.specs.declared.errors.SinkError.TheVariants as sink_errors
use Rattle.top_plan.specs.World.{World, on_shelf, on_out, faults_of}
use Rattle.top_plan.specs.Plan.{Plan, Ends, Fetches, Stores, Prints, Turns, Script, Went, CallFails, GoesOn, FailsInput, FailsOutput, FailsReport, WantsMemory}
use Rattle.top_plan.specs.Texts.{WorkEnd}
use Rattle.top_plan.specs.declared.ends.Halt.TheVariants.{Because, Outside, Memory}
use Rattle.top_plan.specs.declared.ends.Cause.TheVariants.{Limited}
use Rattle.top_plan.specs.declared.ends.Object.{Object}
use Rattle.top_plan.specs.declared.ends.Object.TheVariants as objects
use Rattle.top_plan.specs.declared.ends.Limit.TheVariants as limits
use Rattle.top_plan.proofs.Kept.{IsKept, same_kept, then_kept, shelf_kept, out_kept, rises, no_fault}
use Rattle.top_plan.proofs.TurnsKept.{turned_kept, input_fails_kept, output_fails_kept, report_fails_kept, runs_out_kept, ahead_kept}

-- a step to where the run ends
kept_at : (s m t : World) → IsKept s m → t ≡ m → IsKept s t
kept_at s m t kept same = let P : World → Type 0 = λ t. IsKept s t in subst P (sym same) kept

-- no count falls, who is calm stays calm, and what is reported grows
pub kept : (p : Plan) (s : World) (o : WorkEnd) (t : World) → Went p s o t → IsKept s t
unfolding Went
kept (Ends end) s o t (inl out) = same_kept s t out.1
kept (Ends end) s o t (inr (is, same)) = same_kept s t same
kept (Fetches name limit next) s o t (inl out) = same_kept s t out.1
kept (Fetches name limit next) s o t (inr (v, Ok bytes, was, went)) = then_kept s (on_shelf s v) t (shelf_kept s v was.later was.calm) (kept (next bytes) (on_shelf s v) o t went)
kept (Fetches name limit next) s o t (inr (v, Err shelf_errors.Failed, was, went)) = kept_at s (on_shelf s v) t (shelf_kept s v was.later was.calm) went.1
kept (Fetches name limit next) s o t (inr (v, Err shelf_errors.TooLong, was, went)) = kept_at s (on_shelf s v) t (shelf_kept s v was.later was.calm) went.1
kept (Fetches name limit next) s o t (inr (v, Err shelf_errors.Memory, was, went)) = kept_at s (on_shelf s v) t (shelf_kept s v was.later was.calm) went.1
kept (Stores name bytes next) s o t (inl out) = same_kept s t out.1
kept (Stores name bytes next) s o t (inr (v, Ok u, was, went)) = then_kept s (on_shelf s v) t (shelf_kept s v was.later was.calm) (kept next (on_shelf s v) o t went)
kept (Stores name bytes next) s o t (inr (v, Err store_errors.Failed, was, went)) = kept_at s (on_shelf s v) t (shelf_kept s v was.later was.calm) went.1
kept (Stores name bytes next) s o t (inr (v, Err store_errors.Memory, was, went)) = kept_at s (on_shelf s v) t (shelf_kept s v was.later was.calm) went.1
kept (Prints text next) s o t (inl out) = same_kept s t out.1
kept (Prints text next) s o t (inr (v, Ok u, was, went)) = then_kept s (on_out s v) t (out_kept s v was.later was.calm) (kept next (on_out s v) o t went)
kept (Prints text next) s o t (inr (v, Err sink_errors.Failed, was, went)) = kept_at s (on_out s v) t (out_kept s v was.later was.calm) went.1
kept (Prints text next) s o t (inr (v, Err sink_errors.Memory, was, went)) = kept_at s (on_out s v) t (out_kept s v was.later was.calm) went.1
kept (Turns turn next) s o t (inl out) = same_kept s t out.1
kept (Turns turn next) s o t (inr (left, told, GoesOn m turned went)) = then_kept s m t (turned_kept (turn left) s m turned) (kept (next left) m o t went)
kept (Turns turn next) s o t (inr (left, told, FailsInput h)) = input_fails_kept (turn left) left s o t h
kept (Turns turn next) s o t (inr (left, told, FailsOutput h)) = output_fails_kept (turn left) s o t h
kept (Turns turn next) s o t (inr (left, told, FailsReport h)) = report_fails_kept (turn left) s o t h
kept (Turns turn next) s o t (inr (left, told, WantsMemory h)) = runs_out_kept (turn left) left s o t h
kept (Script within) s o t (m, went, ahead) = then_kept s m t (kept within s o m went) (ahead_kept m t ahead)

-- the count of this object rose, after a step or at the end
abbrev pub Risen : Object → World → World → Type 0
Risen x s t = Rose (faults_of x s) (faults_of x t)

pub risen_later : (x : Object) (s m t : World) → IsKept s m → Risen x m t → Risen x s t
risen_later x s m t kept rose = rises (faults_of x s) (faults_of x m) (faults_of x t) (kept.later x) rose

pub risen_still : (x : Object) (s m t : World) → IsKept m t → Risen x s m → Risen x s t
risen_still x s m t kept rose = omega (arith, rose, kept.later x)

-- the call of y failed, and so the end names y
named : (x y : Object) (s m : World) (o : WorkEnd) (t : World) → o ≡ Err (Outside x) → CallFails y m o t → Risen y s m → Risen x s t
named x y s m o t is fails rose =
    let same : y ≡ x = (let e : o ≡ Err (Outside y) = fails.0 in cc) in
    let P : World → Type 0 = λ t. Risen x s t in
    let Q : Object → Type 0 = λ y. Risen y s m in
    subst P (sym fails.1) (subst Q same rose)

-- the end names this object, whose call failed
names : (x y : Object) (s : World) (o : WorkEnd) (t : World) → o ≡ Err (Outside x) → o ≡ Err (Outside y) → Risen y s t → Risen x s t
names x y s o t is fails rose =
    let same : y ≡ x = cc in
    let Q : Object → Type 0 = λ y. Risen y s t in
    subst Q same rose

-- An end that names an object comes only where its count rose.
pub caused : (p : Plan) (s : World) (o : WorkEnd) (t : World) (x : Object) → o ≡ Err (Outside x) → Went p s o t → Risen x s t
unfolding Went
caused (Ends end) s o t x is (inl out) = let m : o ≡ Err Memory = out.0 in cc
caused (Ends end) s o t x is (inr (e, same)) = absurd (no_fault end o x e is)
caused (Fetches name limit next) s o t x is (inl out) = let m : o ≡ Err Memory = out.0 in cc
caused (Fetches name limit next) s o t x is (inr (v, Ok bytes, was, went)) = risen_later x s (on_shelf s v) t (shelf_kept s v was.later was.calm) (caused (next bytes) (on_shelf s v) o t x is went)
caused (Fetches name limit next) s o t x is (inr (v, Err shelf_errors.Failed, was, went)) = named x objects.Shelf s (on_shelf s v) o t is went was.gives.0
caused (Fetches name limit next) s o t x is (inr (v, Err shelf_errors.TooLong, was, went)) = let m : o ≡ Err (Because (Limited (limits.File limit))) = went.0 in cc
caused (Fetches name limit next) s o t x is (inr (v, Err shelf_errors.Memory, was, went)) = let m : o ≡ Err Memory = went.0 in cc
caused (Stores name bytes next) s o t x is (inl out) = let m : o ≡ Err Memory = out.0 in cc
caused (Stores name bytes next) s o t x is (inr (v, Ok u, was, went)) = risen_later x s (on_shelf s v) t (shelf_kept s v was.later was.calm) (caused next (on_shelf s v) o t x is went)
caused (Stores name bytes next) s o t x is (inr (v, Err store_errors.Failed, was, went)) = named x objects.Shelf s (on_shelf s v) o t is went was.gives.1
caused (Stores name bytes next) s o t x is (inr (v, Err store_errors.Memory, was, went)) = let m : o ≡ Err Memory = went.0 in cc
caused (Prints text next) s o t x is (inl out) = let m : o ≡ Err Memory = out.0 in cc
caused (Prints text next) s o t x is (inr (v, Ok u, was, went)) = risen_later x s (on_out s v) t (out_kept s v was.later was.calm) (caused next (on_out s v) o t x is went)
caused (Prints text next) s o t x is (inr (v, Err sink_errors.Failed, was, went)) = named x objects.Output s (on_out s v) o t is went was.gives.1
caused (Prints text next) s o t x is (inr (v, Err sink_errors.Memory, was, went)) = let m : o ≡ Err Memory = went.0 in cc
caused (Turns turn next) s o t x is (inl out) = let m : o ≡ Err Memory = out.0 in cc
caused (Turns turn next) s o t x is (inr (left, told, GoesOn m turned went)) = risen_later x s m t (turned_kept (turn left) s m turned) (caused (next left) m o t x is went)
caused (Turns turn next) s o t x is (inr (left, told, FailsInput h)) = names x objects.Input s o t is h.ends h.fails.rose
caused (Turns turn next) s o t x is (inr (left, told, FailsOutput h)) = names x objects.Output s o t is h.ends h.fails.rose
caused (Turns turn next) s o t x is (inr (left, told, FailsReport h)) = names x objects.Report s o t is h.ends h.fails.rose
caused (Turns turn next) s o t x is (inr (left, told, WantsMemory h)) = let m : o ≡ Err Memory = h.ends in cc
caused (Script within) s o t x is (m, went, ahead) = risen_still x s m t (ahead_kept m t ahead) (caused within s o m x is went)
