-- What `asm` answers means what it is to mean.
use Rattle.std.proofs.Common.{◌≡◌, ℕ, ◌≤◌, List, [], length, Option, Some, None, Result, Ok, Err, refl, ap, inl, inr}
use Rattle.br_outside.specs.Files.{Files}
use Rattle.asm_text.specs.Source.{assembled}
use Rattle.asm_text.specs.Law.{AsmLaw}
use Rattle.top_plan.specs.World.{World}
use Rattle.top_plan.specs.Parts.{checked}
use Rattle.top_plan.specs.Happened.{Happened}
use Rattle.top_plan.specs.Expected.{ends_with, after_fetch, expected, IsWhole, NoInput, IsExact, Decided}
use Rattle.top_plan.specs.declared.ends.Halt.TheVariants.{Because, Outside}
use Rattle.top_plan.specs.declared.ends.Cause.TheVariants.{RefusedWord, Limited}
use Rattle.top_plan.specs.declared.ends.Object.TheVariants as objects
use Rattle.top_plan.specs.declared.ends.Limit.TheVariants as limits
use Rattle.top_files.specs.Answers.{UnlessBroken}
use Rattle.top_files.proofs.PartTurns.{checked_quiet, untaken}
use Rattle.top_files.proofs.ReadMeant.{IsQuiet, Did, chosen, says, has_stored}
use Rattle.top_asm.specs.AsmPlan.{file_of_word, assembled_line, store_part, asm_plan}
use Rattle.top_asm.specs.AsmMeaning.{Assembles, ReadsSource, MeansAsm}

pub asm_quiet : (name text : List ℕ) → NoInput (asm_plan name text)
unfolding NoInput
asm_quiet name text = λ source. checked_quiet (file_of_word 2 (assembled source)) (store_part name) (λ file. tt)

module _ (law : AsmLaw) (name text : List ℕ) (files : Files) (s : World) (result : ℕ) (t : World) (h : IsQuiet files s t) where
  assembles : (source : List ℕ) → length source ≤ 16777216 → (r : Result (List ℕ) (ℕ × ℕ)) → assembled source ≡ r → Did (checked (file_of_word 2 r) (store_part name)) files s result t → Assembles name source r files s result t
  unfolding expected
  assembles source short (Ok file) e w = record { stored = has_stored name file (assembled_line file) files s result t h w; reads = law source file short e }
  assembles source short (Err refusal) e w = says (Because (RefusedWord 2 refusal.0 refusal.1)) files s result t h w

  reads : (content : Option (List ℕ)) → IsWhole files [] (after_fetch 16777216 (λ source. expected (checked (file_of_word 2 (assembled source)) (store_part name)) files []) files [] content) s result t → ReadsSource name content files s result t
  reads None w = says (Outside objects.Shelf) files s result t h w
  reads (Some source) w =
      let by = chosen (λ e. IsWhole files [] e s result t) (length source) 16777216 (expected (checked (file_of_word 2 (assembled source)) (store_part name)) files []) (ends_with (Err (Because (Limited (limits.File 16777216)))) files []) w in
      (λ short. assembles source short (assembled source) refl (by.0 short), λ long. says (Because (Limited (limits.File 16777216))) files s result t h (by.1 long))

  decided : Decided files [] (expected (asm_plan name text) files []) s result t → UnlessBroken (ReadsSource name (files text) files s result t) s result t
  unfolding expected
  decided (inl four) = inl four
  decided (inr (inl failed)) = inr (inl failed)
  decided (inr (inr w)) = inr (inr (reads (files text) w))

pub means_asm : AsmLaw → (name text : List ℕ) (s : World) (result : ℕ) (t : World) → Happened (asm_plan name text) s result t → IsExact (asm_plan name text) s result t → MeansAsm name text s result t
means_asm law name text s result t happened exact =
    let quiet : NoInput (asm_plan name text) = asm_quiet name text in
    let same : t.input ≡ s.input = untaken (asm_plan name text) s result t quiet happened in
    record {
      told = λ files told.
          let h : IsQuiet files s t = record { told = told; input = ap (λ v. v.bytes) same } in
          decided law name text files s result t h (exact files [] (record { shelf = inr told; input = inl quiet }));
      input = same;
    }
