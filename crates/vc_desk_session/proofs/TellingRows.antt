-- All that is told of a session tells one status.
use Rattle.std.proofs.Common.{◌≡◌, ◌∙◌, ℕ, List, [], subst}
use Rattle.vc_plan.specs.declared.atoms.Culprit.{Culprit}
use Rattle.vc_plan.specs.declared.plans.Plan.{Plan}
use Rattle.vc_plan.specs.declared.shown.Status.{Status}
use Rattle.vc_plan.specs.declared.shown.Status.TheVariants.{Complete, Contradiction, Unfinished}
use Rattle.vc_wire_replies.specs.declared.reply.Reply.TheVariants.{Hidden, Shown}
use Rattle.vc_desk_shown.specs.Standing.{Standing, StandsAs}
use Rattle.vc_desk_shown.proofs.ShownLaws.{standings_have_one_status}
use Rattle.vc_desk_session.specs.Reasons.{Conflicts, Logs, reply_without_clash}
use Rattle.vc_desk_session.specs.Reasons as reasons
use Rattle.vc_desk_session.specs.Telling.{Tells}
use Rattle.vc_desk_session.specs.Telling as telling

module _ (plan : Plan) (standing : Standing) (text rows : List ℕ) (status : Status) where
  shown_stands : Tells plan standing Shown text (Shown status rows) → StandsAs plan standing status
  shown_stands (telling.exhausted is) = absurd (cc)
  shown_stands (telling.told other stands is) =
      let same : other ≡ status = cc in subst (StandsAs plan standing) same stands

  shown_as_before : (other : Status) (more : List ℕ) → Tells plan standing Shown text (Shown status rows)
      → Tells plan standing Shown text (Shown other more) → status ≡ other
  shown_as_before other more one (telling.exhausted is) = absurd (cc)
  shown_as_before other more one (telling.told again stands is) =
      let same : again ≡ other = cc in
      standings_have_one_status plan standing status again (shown_stands one) stands ∙ same

  -- `log` where a stage is broken
  log_as_shown : (other : Status) → Tells plan standing Shown text (Shown status rows)
      → Logs plan standing (Shown other []) → status ≡ other
  log_as_shown other one (reasons.exhausted is) = absurd (cc)
  log_as_shown other one (reasons.whole steps all is) = absurd (cc)
  log_as_shown other one (reasons.broken again none stands is) =
      let same : again ≡ other = cc in
      standings_have_one_status plan standing status again (shown_stands one) stands ∙ same

  -- `conflict` where a precondition is violated
  hidden_by : (other : Status) (culprit : Culprit) → Hidden culprit ≡ reply_without_clash other
      → other ≡ Contradiction culprit
  hidden_by Unfinished culprit is = absurd (cc)
  hidden_by Complete culprit is = absurd (cc)
  hidden_by (Contradiction blamed) culprit is = cc

  hidden_as_shown : (culprit : Culprit) → Tells plan standing Shown text (Shown status rows)
      → Conflicts plan standing (Hidden culprit) → status ≡ Contradiction culprit
  hidden_as_shown culprit one (reasons.exhausted is) = absurd (cc)
  hidden_as_shown culprit one (reasons.clashes clash explains blames is) = absurd (cc)
  hidden_as_shown culprit one (reasons.settled other none stands is) =
      standings_have_one_status plan standing status other (shown_stands one) stands ∙ hidden_by other culprit is
