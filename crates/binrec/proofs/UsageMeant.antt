-- What is answered to words that are no command, and where status 1 comes from.
use Rattle.std.proofs.Common.{◌≡◌, ◌⊎◌, ℕ, Some, Result, Ok, Err, refl, sym, ◌∙◌, subst, inl, inr, arith}
use Rattle.br_outside.specs.Outside.{StreamView}
use Rattle.top_plan.specs.World.{World, on_report}
use Rattle.top_plan.specs.Texts.{usage_text}
use Rattle.top_plan.specs.Plan.{Plan}
use Rattle.top_plan.specs.Expected.{HasFailed}
use Rattle.top_plan.specs.Happened.{Happened, Answered}
use Rattle.top_plan.specs.declared.ends.Object.TheVariants as objects
use Rattle.top_plan.proofs.Telling.{HowTold, Taken, Refused, Lacked, how_told}
use Rattle.top_files.specs.Answers.{Says}
use Rattle.binrec.specs.Meaning.{MeansUsage}

-- what is answered to them
pub record IsUsage (at : ℕ) (s : World) (result : ℕ) (t : World) : Type 0 where
  pub status : (result ≡ 1) ⊎ ((result ≡ 4) ⊎ ((result ≡ 3) × HasFailed objects.Report s t))
  pub line : result ≡ 1 → Says (usage_text at) s t
  pub alone : (t.shelf ≡ s.shelf) × (t.input ≡ s.input) × (t.out ≡ s.out)

usage_told : (at : ℕ) (s : World) (result : ℕ) (r : StreamView) → HowTold (Some (usage_text at)) 1 s.report result r → IsUsage at s result (on_report s r)
usage_told at s result r (Taken status grew same) = record { status = inl status; line = λ is. grew; alone = (refl, refl, refl) }
usage_told at s result r (Refused status rose loud) = record {
  status = inr (inr (status, record { rose = rose; loud = loud }));
  line = λ is. absurd (let z : 3 ≡ 1 = sym status ∙ is in omega arith);
  alone = (refl, refl, refl);
}
usage_told at s result r (Lacked status same) = record { status = inr (inl status); line = λ is. absurd (let z : 4 ≡ 1 = sym status ∙ is in omega arith); alone = (refl, refl, refl) }

is_usage : (at : ℕ) (s : World) (result : ℕ) (t : World) → Answered (Err at) s result t → IsUsage at s result t
is_usage at s result t (r, told, same) =
    let P : World → Type 0 = λ t. IsUsage at s result t in
    subst P (sym same) (usage_told at s result r (how_told (Some (usage_text at)) 1 s.report result r told))

-- no end of a plan has status 1
abbrev pub NeverOne : Type 0
NeverOne = (p : Plan) (s : World) (result : ℕ) (t : World) → Happened p s result t → result ≡ 1 → ⊥

pub means_usage : (asked : Result Plan ℕ) (s : World) (result : ℕ) (t : World) → NeverOne → Answered asked s result t → MeansUsage asked s result t
means_usage (Ok p) s result t never happened = record {
  only = λ is. absurd (never p s result t happened is);
  status = λ at asked. absurd (let z : (let x : Result Plan ℕ = Ok p in x) ≡ Err at = asked in cc);
  alone = λ at asked. absurd (let z : (let x : Result Plan ℕ = Ok p in x) ≡ Err at = asked in cc);
}
means_usage (Err at) s result t never told = let u = is_usage at s result t told in record {
  only = λ is. (at, refl, u.line is);
  status = λ at' asked. u.status;
  alone = λ at' asked. u.alone;
}
