-- What serves a task answers the request that asks for it.
use Rattle.std.proofs.Common.{◌≡◌, ℕ, List, refl, subst}
use Rattle.std.specs.Prelude.{Some}
use Rattle.vc_plan.specs.declared.plans.Plan.{Plan}
use Rattle.vc_session.specs.Sessions.{Opened}
use Rattle.vc_wire_requests.specs.declared.request.Request.{Request}
use Rattle.vc_wire_replies.specs.declared.reply.Reply.{Reply}
use Rattle.vc_desk_session.specs.declared.edits.Edit.{Edit}
use Rattle.vc_desk_session.specs.declared.edits.Edit.TheVariants as edits
use Rattle.vc_desk_session.specs.declared.reasons.Question.{Question}
use Rattle.vc_desk_session.specs.declared.reasons.Question.TheVariants as questions
use Rattle.vc_desk_session.specs.declared.telling.Told.{Told}
use Rattle.vc_desk_session.specs.declared.telling.Told.TheVariants as told
use Rattle.vc_desk_session.specs.Edits.{MayEdit, after_edit}
use Rattle.vc_desk_session.specs.Reasons.{AsksSession, asked_by}
use Rattle.vc_desk_session.specs.Telling.{text_told, told_as}
use Rattle.vc_desk.specs.Answers.{Apply, EditsSession, TellsSession}
use Rattle.vc_desk.specs.Costing.{AnswerSpends, SpendsOnEdit}
use Rattle.vc_desk.specs.States.{ByName, KeeperStays, State, standing_in}
use Rattle.vc_desk.specs.Tasks.{edit_request, reason_request, show_request}

-- the request is the one that asks for the task
pub same_request : {x y : Request} → Some x ≡ Some y → x ≡ y
same_request is = cc

pub may_edit : (plan : Plan) (session : List ℕ) (edit : Edit) (request : Request)
    → edit_request session edit ≡ Some request → MayEdit plan edit
may_edit plan session (edits.Set i name word) request of = tt
may_edit plan session (edits.Add i name word) request of = tt
may_edit plan session (edits.Retract i name) request of = tt
may_edit plan session (edits.Drop i name word) request of = tt
may_edit plan session (edits.Restore users) request of = absurd (cc)

-- what is answered
module _ (plan : Plan) (state next : State) (session : List ℕ) (reply : Reply) where
  pub edit_applies : (edit : Edit) (request : Request) → edit_request session edit ≡ Some request
      → EditsSession plan state.sessions session (after_edit edit plan) (standing_in state.sessions session) reply
      next.sessions
      → KeeperStays state next → Apply plan state request reply next
  edit_applies (edits.Set i name word) request of edited stays =
      subst (λ r. Apply plan state r reply next) (same_request of) (edited, stays)
  edit_applies (edits.Add i name word) request of edited stays =
      subst (λ r. Apply plan state r reply next) (same_request of) (edited, stays)
  edit_applies (edits.Retract i name) request of edited stays =
      subst (λ r. Apply plan state r reply next) (same_request of) (edited, stays)
  edit_applies (edits.Drop i name word) request of edited stays =
      subst (λ r. Apply plan state r reply next) (same_request of) (edited, stays)
  edit_applies (edits.Restore users) request of edited stays = absurd (cc)

  pub told_applies : (what : Told) → TellsSession plan (told_as what) (text_told what)
      (standing_in state.sessions session) reply
      → Apply plan state (show_request session what) reply state
  told_applies told.Rows tells = (tells, refl)
  told_applies told.Bill tells = (tells, refl)
  told_applies told.Routing tells = (tells, refl)

  pub reason_applies : (question : Question) → AsksSession plan (asked_by question)
      (standing_in state.sessions session) reply
      → Apply plan state (reason_request session question) reply state
  reason_applies (questions.Why i name) asks = (asks, refl)
  reason_applies (questions.WhyNot i name word) asks = (asks, refl)
  reason_applies questions.Conflict asks = (asks, refl)
  reason_applies questions.Log asks = (asks, refl)

-- what it costs
module _ (plan : Plan) (session : List ℕ) (old new : ByName Opened) (reply : Reply) (before after : ℕ) where
  pub edit_costs : (edit : Edit) (request : Request) → edit_request session edit ≡ Some request
      → SpendsOnEdit plan session old new reply before after
      → AnswerSpends plan old request reply new before after
  edit_costs (edits.Set i name word) request of spends =
      subst (λ r. AnswerSpends plan old r reply new before after) (same_request of) spends
  edit_costs (edits.Add i name word) request of spends =
      subst (λ r. AnswerSpends plan old r reply new before after) (same_request of) spends
  edit_costs (edits.Retract i name) request of spends =
      subst (λ r. AnswerSpends plan old r reply new before after) (same_request of) spends
  edit_costs (edits.Drop i name word) request of spends =
      subst (λ r. AnswerSpends plan old r reply new before after) (same_request of) spends
  edit_costs (edits.Restore users) request of spends = absurd (cc)

module _ (plan : Plan) (session : List ℕ) (sessions : ByName Opened) (reply : Reply) (before : ℕ) where
  pub told_costs : (what : Told)
      → AnswerSpends plan sessions (show_request session what) reply sessions before before
  told_costs told.Rows = (refl, refl)
  told_costs told.Bill = (refl, refl)
  told_costs told.Routing = (refl, refl)

  pub reason_costs : (question : Question)
      → AnswerSpends plan sessions (reason_request session question) reply sessions before before
  reason_costs (questions.Why i name) = (refl, refl)
  reason_costs (questions.WhyNot i name word) = (refl, refl)
  reason_costs questions.Conflict = (refl, refl)
  reason_costs questions.Log = (refl, refl)
