use Rattle.top_session.specs.SessionPlan.{session_plan}
use Rattle.top_session.proofs.Orderly.{orderly}
use Rattle.top_session.proofs.SessionMeant.{means}
use Rattle.top_session.proofs.Stored.{all_sound}
use Rattle.top_session.proofs.law.session_law.Goals as goal

pub returns : goal.returns
returns c = record {
  orderly = orderly;
  means = λ original s result t happened. means original s result t (all_sound (c.image_law.ensures.preserves, c.image_law.ensures.within)) (c.plan_law.ensures.exact (session_plan original) s result t (orderly original) happened)
      happened;
}
