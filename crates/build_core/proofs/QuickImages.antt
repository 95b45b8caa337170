-- The image of an original and edges comes to what the original shows within few steps.
use Rattle.std.proofs.Common.{◌≡◌, ℕ, zero, suc, ◌+◌, ◌*◌, ◌≤◌, List, [], ap, ◌∙◌, subst, arith}
use Rattle.std.proofs.Math.Nat.{add-mul, mul-le-mul_right}
use Rattle.elf_read.specs.declared.exe.Reach.TheVariants.{Original}
use Rattle.elf_read.proofs.Accepted.{accepted}
use Rattle.run_model.specs.Run.{observed_of, IsWellDefinedRun}
use Rattle.sim_laws.specs.Preserves.{ReachesAt}
use Rattle.code_layout.specs.Image.{image}
use Rattle.sim_runs.specs.Law.{ReachesWithin}
use Rattle.image_laws.specs.Coded.{coded_of}
use Rattle.image_laws.specs.Quick.{fragment_steps, IsQuick, ImagesQuick}
use Rattle.build_core.specs.ImageQuick.{most_steps, ImageQuick}
use Rattle.build_core.proofs.FileBytes.{segments_of_bytes}

-- before its first step a file shows what the original does before its own
at_once : (file n : List ℕ) (words : List (List ℕ)) (input choices : List ℕ) → ReachesAt file n words input choices 0
    → (r : ReachesAt file n words input choices 0) × (r.steps ≤ 0)
at_once file n words input choices r =
    let b = r.before 0 (omega arith) in
    let none = b.1 in
    let z : b.0 ≡ 0 = omega (arith, none) in
    let same : observed_of n words input choices 0 ≡ observed_of file words input [] 0 = b.2 ∙ ap (λ j. observed_of file words input [] j) z in (
      record {
        steps = 0;
        bound = omega arith;
        same = same;
        before = λ m l. let e : m ≡ 0 = omega (arith, l) in (0, omega arith, ap (λ i. observed_of n words input choices i) e ∙ same);
      },
      omega arith,
    )

-- the steps at the entry are fewer than what is left of the first of n
within : (most top high m steps : ℕ) → top ≤ 64 → high ≤ most → steps ≤ top + high * suc m → steps ≤ (384 + most) * suc m
within most top high m steps t h s =
    let more : high * suc m ≤ most * suc m = mul-le-mul_right (suc m) h in
    let both : (384 + most) * suc m ≡ 384 * suc m + most * suc m = add-mul 384 most (suc m) in
    omega (arith, t, s, more, both)

all_most : (exits : ℕ) → 384 + fragment_steps exits ≡ most_steps exits
all_most exits = omega arith

pub image_quick : ImagesQuick → ReachesWithin → ImageQuick
image_quick quick reaches file exe edges e set few room exits know words input choices are n defined =
    let a = accepted file exe e in
    let q = quick exe edges exits a.fields (segments_of_bytes Original file exe are.file e) set.order few room know in
    by n defined q
  where
    by : (n : ℕ) → IsWellDefinedRun file words input n → IsQuick exe edges exits
        → (r : ReachesAt file (image exe edges) words input choices n) × (r.steps ≤ most_steps exits * n)
    by zero d q =
        let r = reaches file exe edges [] (image exe edges) (coded_of exe edges) e q.laws words input choices are 0 d in
        let z = at_once file (image exe edges) words input choices r.0 in
        (z.0, omega (arith, z.1))
    by (suc m) d q =
        let r = reaches file exe edges [] (image exe edges) (coded_of exe edges) e q.laws words input choices are (suc m) d in
        (r.0, subst (λ most. r.0.steps ≤ most * suc m) (all_most exits) (within (fragment_steps exits) q.laws.top q.laws.high m r.0.steps q.top q.high r.1))
