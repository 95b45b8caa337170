-- A plan that asks nothing of the input.
use Rattle.std.proofs.Common.{◌≡◌, nat_le, ℕ, List, length, Option, Some, None, Bool, true, false, cond, Ok, Err, refl, ap, inl, inr}
use Rattle.br_outside.specs.Files.{Files, put}
use Rattle.br_outside.specs.declared.errors.ShelfError.TheVariants as shelf_errors
use Rattle.br_outside.specs.declared.errors.StoreError.TheVariants as store_errors
use Rattle.br_outside.specs.declared.errors.SinkError.TheVariants as sink_errors
use Rattle.top_plan.specs.World.{World, on_shelf, on_out}
use Rattle.top_plan.specs.Plan.{Plan, Ends, Fetches, Stores, Prints, Turns, Script, Went}
use Rattle.top_plan.specs.Texts.{WorkEnd}
use Rattle.top_plan.specs.Expected.{Ending, ends_with, after_fetch, expected, NoInput}
use Rattle.top_plan.specs.declared.ends.Halt.TheVariants.{Because}
use Rattle.top_plan.specs.declared.ends.Cause.TheVariants.{Limited}
use Rattle.top_plan.specs.declared.ends.Limit.TheVariants as limits

-- it leaves the input as it is
pub input_stays : (p : Plan) (s : World) (o : WorkEnd) (t : World) → NoInput p → Went p s o t → t.input ≡ s.input
unfolding Went NoInput
input_stays (Ends end) s o t quiet (inl out) = ap (λ w. w.input) out.1
input_stays (Ends end) s o t quiet (inr (is, same)) = ap (λ w. w.input) same
input_stays (Fetches name limit next) s o t quiet (inl out) = ap (λ w. w.input) out.1
input_stays (Fetches name limit next) s o t quiet (inr (v, Ok bytes, was, went)) = input_stays (next bytes) (on_shelf s v) o t (quiet bytes) went
input_stays (Fetches name limit next) s o t quiet (inr (v, Err shelf_errors.Failed, was, went)) = ap (λ w. w.input) went.1
input_stays (Fetches name limit next) s o t quiet (inr (v, Err shelf_errors.TooLong, was, went)) = ap (λ w. w.input) went.1
input_stays (Fetches name limit next) s o t quiet (inr (v, Err shelf_errors.Memory, was, went)) = ap (λ w. w.input) went.1
input_stays (Stores name bytes next) s o t quiet (inl out) = ap (λ w. w.input) out.1
input_stays (Stores name bytes next) s o t quiet (inr (v, Ok u, was, went)) = input_stays next (on_shelf s v) o t quiet went
input_stays (Stores name bytes next) s o t quiet (inr (v, Err store_errors.Failed, was, went)) = ap (λ w. w.input) went.1
input_stays (Stores name bytes next) s o t quiet (inr (v, Err store_errors.Memory, was, went)) = ap (λ w. w.input) went.1
input_stays (Prints text next) s o t quiet (inl out) = ap (λ w. w.input) out.1
input_stays (Prints text next) s o t quiet (inr (v, Ok u, was, went)) = input_stays next (on_out s v) o t quiet went
input_stays (Prints text next) s o t quiet (inr (v, Err sink_errors.Failed, was, went)) = ap (λ w. w.input) went.1
input_stays (Prints text next) s o t quiet (inr (v, Err sink_errors.Memory, was, went)) = ap (λ w. w.input) went.1
input_stays (Turns turn next) s o t quiet went = absurd quiet
input_stays (Script within) s o t quiet went = absurd quiet

-- what comes of a fetch: what is behind it, or an end
pub after_each : (P : Ending → Type 0) (limit : ℕ) (next : List ℕ → Ending) (files : Files) (left : List ℕ) → ((bytes : List ℕ) → P (next bytes)) → ((end : WorkEnd) → P (ends_with end files left)) → (c : Option (List ℕ)) → P (after_fetch limit next files left c)
after_each P limit next files left here ends None = ends _
after_each P limit next files left here ends (Some bytes) = by_test (nat_le (length bytes) limit)
  where
    by_test : (b : Bool) → P (cond b (next bytes) (ends_with (Err (Because (Limited (limits.File limit)))) files left))
    by_test true = here bytes
    by_test false = ends _

-- it comes to an end with all of the input left
pub leaves_all : (p : Plan) (files : Files) (left : List ℕ) → NoInput p → (expected p files left).left ≡ left
unfolding expected NoInput
leaves_all (Ends end) files left quiet = refl
leaves_all (Fetches name limit next) files left quiet = after_each (λ e. e.left ≡ left) limit (λ bytes. expected (next bytes) files left) files left (λ bytes. leaves_all (next bytes) files left (quiet bytes)) (λ end. refl) (files name)
leaves_all (Stores name bytes next) files left quiet = leaves_all next (put name (Some bytes) files) left quiet
leaves_all (Prints text next) files left quiet = leaves_all next files left quiet
leaves_all (Turns turn next) files left quiet = absurd quiet
leaves_all (Script within) files left quiet = absurd quiet
