-- Listings that are made and printed.
use Rattle.std.proofs.Common.{◌≡◌, ℕ, ◌≤◌, true, cond, List, length, Result, Ok, Err, sym, subst, ap, ◌∙◌, arith}
use Rattle.flow_graph.specs.declared.error.TheConstants.{MAX_BLOCKS}
use Rattle.std.specs.Prelude.{nat_le}
use Rattle.std.proofs.lemmas.Bool.Decides.{nat_tests}
use Rattle.elf_read.specs.declared.exe.Exe.{Exe}
use Rattle.elf_read.specs.Elf.{IsGuest}
use Rattle.trace_file.specs.Edges.{Edge}
use Rattle.block_cut.specs.CountedEdges.{counting}
use Rattle.flow_graph.specs.Graph.{Node, IsGraph}
use Rattle.flow_graph.specs.GraphOf.{graph_of, OneGraph}
use Rattle.top_plan.specs.World.{World}
use Rattle.top_plan.specs.Texts.{WorkEnd}
use Rattle.top_plan.specs.Plan.{Ends, Went}
use Rattle.top_graph.specs.ShowPlan.{listing, limited_graph, shown_line, listing_part}
use Rattle.top_plan.specs.Parts.{prints}
use Rattle.top_plan.specs.Outcomes.{done_with}
use Rattle.top_plan.specs.declared.ends.Cause.{Cause}
use Rattle.top_plan.specs.declared.ends.Cause.TheVariants.{Limited}
use Rattle.top_plan.specs.declared.ends.Limit.TheVariants as limits
use Rattle.top_plan.proofs.Passes.{ok_same}

-- a graph of few blocks is the only one, and passes
passes_limit : (g : List Node) → length g ≤ MAX_BLOCKS → limited_graph g ≡ Ok g
passes_limit g few =
    let small : nat_le (length g) MAX_BLOCKS ≡ true = grind (arith, nat_tests) in
    ap (λ b. let r : Result (List Node) Cause = cond b (Ok g) (Err (Limited (limits.Blocks MAX_BLOCKS))) in r) small

pub is_limited : (exe : Exe) (edges es : List Edge) (g : List Node) → OneGraph → IsGuest exe → es ≡ edges → IsGraph exe (counting exe es) g → length g ≤ MAX_BLOCKS → limited_graph (graph_of exe edges) ≡ Ok g
is_limited exe edges es g one guest is graph few =
    ap (λ es. limited_graph (graph_of exe es)) (sym is)
    ∙ ap limited_graph (sym (one.only exe es g guest graph))
    ∙ passes_limit g few

-- a listing is printed, and its line is made
pub shown : (exe : Exe) (g : List Node) (text lent line : List ℕ) (count : ℕ) (s t : World) (o : WorkEnd)
    → (let r : Result (List ℕ) Cause = Ok (listing exe g) in r) ≡ Ok text → lent ≡ text → count ≡ length g
    → (let r : Result (List ℕ) Cause = Ok (shown_line count) in r) ≡ Ok line
    → Went (prints lent (Ends (Ok (done_with line)))) s o t → Went (listing_part exe g) s o t
shown exe g text lent line count s t o listed same counted told went =
    let P : List ℕ → Type 0 = λ text. Went (prints text (Ends (Ok (done_with line)))) s o t in
    let Q : List ℕ → Type 0 = λ line. Went (prints (listing exe g) (Ends (Ok (done_with line)))) s o t in
    subst Q (sym (ok_same _ line told) ∙ ap shown_line counted) (subst P (same ∙ sym (ok_same _ text listed)) went)
