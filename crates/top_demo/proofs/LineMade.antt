-- The line that is made is that of the demonstration.
use Rattle.std.proofs.Common.{◌≡◌, ℕ, List, length, None, Ok, refl, sym, ◌∙◌, ap, subst}
use Rattle.elf_read.specs.declared.exe.Exe.{Exe}
use Rattle.elf_read.specs.declared.exe.Reach.TheVariants.{Guest}
use Rattle.elf_read.specs.Elf.{elf}
use Rattle.br_outside.specs.Forms.{calm_written}
use Rattle.run_model.specs.Opening.{exe_or_none, guest_of}
use Rattle.trace_file.specs.Edges.{Edge}
use Rattle.code_layout.specs.declared.built.Built.{Built}
use Rattle.code_layout.specs.Image.{built_of}
use Rattle.demo_gen.specs.Demonstration.{demo_file}
use Rattle.top_plan.specs.World.{World}
use Rattle.top_plan.specs.Texts.{WorkEnd, Finished}
use Rattle.top_plan.specs.Plan.{Plan, Ends, Prints, Went}
use Rattle.top_plan.specs.Parts.{prints}
use Rattle.top_plan.specs.declared.ends.Finish.TheVariants.{Done}
use Rattle.top_demo.specs.declared.runs.Shown.{Shown}
use Rattle.top_demo.specs.DemoRuns.{written_by, taken_by, trace_by, HasRun}
use Rattle.top_demo.specs.DemoPlan.{runs_text, line_text, demo_guest, demo_image, line_for, demo_line, demo_plan}

-- all is done, and there is no line
abbrev pub done : Finished
done = record { finish = Done; line = None }

-- what was made for it: what the file says, what is written for it, and the two runs
pub record IsMade (count n m : ℕ) (file : List ℕ) (exe : Exe) (edges : List Edge) (built : Built) (rebuilt : Exe) (first second : Shown) : Type 0 where
  pub is_file : file ≡ demo_file count
  pub is_exe : exe ≡ demo_guest count
  pub is_trace : edges ≡ trace_by exe n
  pub is_built : built ≡ built_of exe edges
  pub is_rebuilt : rebuilt ≡ guest_of built.bytes
  pub first_run : HasRun exe n first
  pub second_run : HasRun rebuilt m second

-- how the line ends
abbrev pub rest_of : Shown → Shown → List ℕ
rest_of first second = runs_text (calm_written first.out) (calm_written second.out) first.steps second.steps

same_runs : (a a' b b' : List ℕ) (j j' k k' : ℕ) → a ≡ a' → b ≡ b' → j ≡ j' → k ≡ k' → runs_text a b j k ≡ runs_text a' b' j' k'
same_runs a a' b b' j j' k k' p q r s = ap (λ w. runs_text w b j k) p ∙ ap (λ w. runs_text a' w j k) q ∙ ap (λ n. runs_text a' b' n k) r ∙ ap (λ n. runs_text a' b' j' n) s

pub line_is : (count n m : ℕ) (file : List ℕ) (exe : Exe) (edges : List Edge) (built : Built) (rebuilt : Exe) (first second : Shown) → IsMade count n m file exe edges built rebuilt first second
    → line_text count (length file) built.blocks built.code (length built.bytes) (rest_of first second) ≡ line_for count n m
line_is count n m file exe edges built rebuilt first second made =
    let whole : Built = built_of (demo_guest count) (trace_by (demo_guest count) n) in
    let es : edges ≡ trace_by (demo_guest count) n = made.is_trace ∙ ap (λ x. trace_by x n) made.is_exe in
    let b : built ≡ built_of (demo_guest count) (trace_by (demo_guest count) n) = made.is_built ∙ ap (λ x. built_of x edges) made.is_exe ∙ ap (built_of (demo_guest count)) es in
    let r : rebuilt ≡ guest_of (demo_image count n) = made.is_rebuilt ∙ ap (λ (b : Built). guest_of b.bytes) b in
    let wrote : calm_written first.out ≡ written_by (demo_guest count) n = made.first_run.out ∙ ap (λ x. written_by x n) made.is_exe in
    let took : first.steps ≡ taken_by (demo_guest count) n = made.first_run.steps ∙ ap (λ x. taken_by x n) made.is_exe in
    let wrote_too : calm_written second.out ≡ written_by (guest_of (demo_image count n)) m = made.second_run.out ∙ ap (λ x. written_by x m) r in
    let took_too : second.steps ≡ taken_by (guest_of (demo_image count n)) m = made.second_run.steps ∙ ap (λ x. taken_by x m) r in
    ap (λ f. line_text count (length f) built.blocks built.code (length built.bytes) (rest_of first second)) made.is_file
    ∙ ap (λ (b : Built). line_text count (length (demo_file count)) b.blocks b.code (length b.bytes) (rest_of first second)) b
    ∙ ap (λ rest. line_text count (length (demo_file count)) whole.blocks whole.code (length whole.bytes) rest) (same_runs _ _ _ _ _ _ _ _ wrote wrote_too took took_too)

-- a file that was read is that guest
pub rebuilt_is : (bytes lent : List ℕ) (exe : Exe) → lent ≡ bytes → elf Guest lent ≡ Ok exe → exe ≡ guest_of bytes
rebuilt_is bytes lent exe same read = sym (ap exe_or_none (ap (elf Guest) (sym same) ∙ read))

pub made_line : (count size : ℕ) (file : List ℕ) (exe : Exe) (edges : List Edge) (built : Built) (rebuilt : Exe) (first second : Shown) (rest : List ℕ) → IsMade count 1000000 1000000000 file exe edges built rebuilt first second
    → size ≡ length file → rest ≡ rest_of first second → line_text count size built.blocks built.code (length built.bytes) rest ≡ demo_line count
unfolding demo_line
made_line count size file exe edges built rebuilt first second rest made sized ends =
    ap (λ k. line_text count k built.blocks built.code (length built.bytes) rest) sized
    ∙ ap (λ r. line_text count (length file) built.blocks built.code (length built.bytes) r) ends
    ∙ line_is count 1000000 1000000000 file exe edges built rebuilt first second made

-- ---- it is printed

is_printed : (count : ℕ) (next : Plan) → prints (demo_line count) next ≡ Prints (demo_line count) next
unfolding demo_line
is_printed count next = refl

-- what follows the print of a line that was made is a run of the plan
pub printed_line : (count : ℕ) (text line : List ℕ) (s : World) (o : WorkEnd) (t : World) → text ≡ line → line ≡ demo_line count → Went (prints text (Ends (Ok done))) s o t → Went (demo_plan count) s o t
printed_line count text line s o t lent made went =
    let P : List ℕ → Type 0 = λ text. Went (prints text (Ends (Ok done))) s o t in
    let Q : Plan → Type 0 = λ p. Went p s o t in
    subst Q (is_printed count (Ends (Ok done))) (subst P (lent ∙ made) went)
