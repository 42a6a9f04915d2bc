-- What an answer costs: an edit the works of its session's nets, all else no evaluation of a rule; and which sessions
-- stay as they are.
use Rattle.std.specs.Prelude.{◌≡◌, ℕ, List, Some}
use Rattle.std.specs.FinMap.{get, insert, remove}
use Rattle.vc_plan.specs.declared.plans.Plan.{Plan}
use Rattle.vc_plan.specs.declared.shown.Status.{Status}
use Rattle.vc_plan_users.specs.Choosing.{users_of}
use Rattle.vc_session_evaluation.specs.Costing.{EvaluationCosts}
use Rattle.vc_session.specs.Costing.{HasStarted}
use Rattle.vc_session.specs.Sessions.{Opened}
use Rattle.vc_wire_requests.specs.declared.request.Request.{Request}
use Rattle.vc_wire_requests.specs.declared.request.Request.TheVariants as requests
use Rattle.vc_wire_replies.specs.declared.reply.Refusal.{Refusal}
use Rattle.vc_wire_replies.specs.declared.reply.Reply.{Reply}
use Rattle.vc_wire_replies.specs.declared.reply.Reply.TheVariants.{Done, Refused}
use Rattle.vc_desk.specs.States.{ByName}

-- an edit of the session of this name: it is refused, no session changes and no rule is evaluated; or it is done, and
-- that session alone changes, as its nets go on within their works
pub data SpendsOnEdit (plan : Plan) (name : List ℕ) (old new : ByName Opened) (reply : Reply) (before after : ℕ) :
    Type 0 where
  unedited : (refusal : Refusal) → reply ≡ Refused refusal → new ≡ old → after ≡ before
      → SpendsOnEdit plan name old new reply before after
  edited : (status : Status) (session edited : Opened) → reply ≡ Done status → get old name ≡ Some session
      → new ≡ insert old name edited
      → EvaluationCosts plan (users_of edited.users) session.stages.nets.items edited.stages before after
      → SpendsOnEdit plan name old new reply before after

-- no session changes, or one that has just started comes under this name
pub data OpensOne (plan : Plan) (name : List ℕ) (old new : ByName Opened) : Type 0 where
  unopened : new ≡ old → OpensOne plan name old new
  opened : (session : Opened) → HasStarted plan session → new ≡ insert old name session → OpensOne plan name old new

-- so it is of each request
abbrev pub AnswerSpends : Plan → ByName Opened → Request → Reply → ByName Opened → ℕ → ℕ → Type 0
AnswerSpends plan old (requests.Start name) reply new before after = OpensOne plan name old new × (after ≡ before)
AnswerSpends plan old (requests.Close name) reply new before after = (new ≡ remove old name) × (after ≡ before)
AnswerSpends plan old (requests.Set name i characteristic word) reply new before after =
    SpendsOnEdit plan name old new reply before after
AnswerSpends plan old (requests.Add name i characteristic word) reply new before after =
    SpendsOnEdit plan name old new reply before after
AnswerSpends plan old (requests.Retract name i characteristic) reply new before after =
    SpendsOnEdit plan name old new reply before after
AnswerSpends plan old (requests.Drop name i characteristic word) reply new before after =
    SpendsOnEdit plan name old new reply before after
AnswerSpends plan old (requests.Show name) reply new before after = (new ≡ old) × (after ≡ before)
AnswerSpends plan old (requests.Bill name) reply new before after = (new ≡ old) × (after ≡ before)
AnswerSpends plan old (requests.Routing name) reply new before after = (new ≡ old) × (after ≡ before)
AnswerSpends plan old (requests.Why name i characteristic) reply new before after = (new ≡ old) × (after ≡ before)
AnswerSpends plan old (requests.WhyNot name i characteristic word) reply new before after =
    (new ≡ old) × (after ≡ before)
AnswerSpends plan old (requests.Conflict name) reply new before after = (new ≡ old) × (after ≡ before)
AnswerSpends plan old (requests.Log name) reply new before after = (new ≡ old) × (after ≡ before)
AnswerSpends plan old (requests.Save name saved_name) reply new before after = (new ≡ old) × (after ≡ before)
AnswerSpends plan old (requests.Load name saved_name) reply new before after =
    SpendsOnEdit plan name old new reply before after
AnswerSpends plan old (requests.Forget saved_name) reply new before after = (new ≡ old) × (after ≡ before)
