-- An image that is made and stored.
use Rattle.std.proofs.Common.{◌≡◌, ◌<◌, ◌≤◌, nat_le, cond, ℕ, List, Result, Ok, Err, sym, ◌∙◌, ap, subst, arith}
use Rattle.std.proofs.lemmas.Bool.{le-leb, lt-leb, cond-true, cond-false}
use Rattle.flow_graph.specs.declared.error.TheConstants.{MAX_BLOCKS}
use Rattle.code_layout.specs.declared.place.TheConstants.{MAX_CODE}
use Rattle.code_layout.specs.declared.built.Built.{Built}
use Rattle.top_plan.specs.World.{World}
use Rattle.top_plan.specs.Texts.{WorkEnd}
use Rattle.top_plan.specs.Plan.{Ends, Stores, Went}
use Rattle.top_plan.specs.Parts.{checked}
use Rattle.top_plan.specs.Outcomes.{done_with}
use Rattle.top_plan.specs.declared.ends.Cause.{Cause}
use Rattle.top_plan.specs.declared.ends.Cause.TheVariants.{Limited}
use Rattle.top_plan.specs.declared.ends.Limit.TheVariants as limits
use Rattle.top_plan.proofs.Passes.{ok_same, passes}
use Rattle.top_build.specs.BuildPlan.{limited_built, built_end, built_line}

no_less : (n limit : ℕ) → (limit < n → ⊥) → n ≤ limit
no_less n limit h = let z : (limit < n → ⊥) = h in omega (arith, z)

-- what passes, and what does not
abbrev behind : Built → Result Built Cause
behind b = cond (nat_le b.code MAX_CODE) (Ok b) (Err (Limited (limits.Code MAX_CODE)))

few_pass : (b : Built) → b.blocks ≤ MAX_BLOCKS → limited_built b ≡ behind b
few_pass b few = cond-true (nat_le b.blocks MAX_BLOCKS) (behind b) (Err (Limited (limits.Blocks MAX_BLOCKS))) (le-leb b.blocks MAX_BLOCKS few)

pub built_passes : (b : Built) → (MAX_BLOCKS < b.blocks → ⊥) → (MAX_CODE < b.code → ⊥) → limited_built b ≡ Ok b
built_passes b few short =
    few_pass b (no_less b.blocks MAX_BLOCKS few) ∙ cond-true (nat_le b.code MAX_CODE) (Ok b) (Err (Limited (limits.Code MAX_CODE))) (le-leb b.code MAX_CODE (no_less b.code MAX_CODE short))

pub blocks_pass_limit : (b : Built) → MAX_BLOCKS < b.blocks → limited_built b ≡ Err (Limited (limits.Blocks MAX_BLOCKS))
blocks_pass_limit b many = cond-false (nat_le b.blocks MAX_BLOCKS) (behind b) (Err (Limited (limits.Blocks MAX_BLOCKS))) (lt-leb b.blocks MAX_BLOCKS many)

pub code_passes_limit : (b : Built) → (MAX_BLOCKS < b.blocks → ⊥) → MAX_CODE < b.code → limited_built b ≡ Err (Limited (limits.Code MAX_CODE))
code_passes_limit b few long =
    few_pass b (no_less b.blocks MAX_BLOCKS few) ∙ cond-false (nat_le b.code MAX_CODE) (Ok b) (Err (Limited (limits.Code MAX_CODE))) (lt-leb b.code MAX_CODE long)

-- what was built passes, as the value that is answered
pub answered : (b made : Built) → made ≡ b → limited_built b ≡ Ok b → limited_built b ≡ Ok made
answered b made same h = h ∙ ap Ok (sym same)

-- the image is stored, and its line is made
pub stored_image : (name line lent : List ℕ) (r : Result Built Cause) (built : Built) (s t : World) (o : WorkEnd) → r ≡ Ok built → lent ≡ built.bytes
    → (let x : Result (List ℕ) Cause = Ok (built_line built) in x) ≡ Ok line
    → Went (Stores name lent (Ends (Ok (done_with line)))) s o t → Went (checked r (λ b. Stores name b.bytes (built_end b))) s o t
stored_image name line lent r built s t o is same told went =
    let P : List ℕ → Type 0 = λ bytes. Went (Stores name bytes (Ends (Ok (done_with line)))) s o t in
    let Q : List ℕ → Type 0 = λ line. Went (Stores name built.bytes (Ends (Ok (done_with line)))) s o t in
    passes r built (λ b. Stores name b.bytes (built_end b)) s o t is (subst Q (sym (ok_same (built_line built) line told)) (subst P same went))
