-- A text that is printed.
use Rattle.std.proofs.Common.{◌≡◌, ℕ, List, [], ◌∷◌, length, ◌==◌, true, false}
use Rattle.top_plan.specs.World.{World}
use Rattle.top_plan.specs.Texts.{WorkEnd}
use Rattle.top_plan.specs.Plan.{Plan, Prints, Went}
use Rattle.top_plan.specs.Parts.{prints}

pub prints_some : (text : List ℕ) (next : Plan) (s : World) (o : WorkEnd) (t : World) → (length text == 0) ≡ false → Went (Prints text next) s o t → Went (prints text next) s o t
prints_some [] next s o t some went = absurd (let z : true ≡ false = some in cc)
prints_some (b ∷ bs) next s o t some went = went
