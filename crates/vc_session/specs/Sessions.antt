-- A session: what the user chose, evaluated.
use Rattle.std.specs.Prelude.{◌≡◌, ℕ, Bool, true, false, not, ◌&&◌, List, [], length, map, slice_get, Option, None}
use Rattle.std.specs.Prelude.{Some, Result, Ok, Err, is_none, pred, if◌then◌else◌}
use Rattle.vc_value.specs.declared.value.Value.{Value}
use Rattle.vc_plan.specs.declared.atoms.Outcome.{Outcome}
use Rattle.vc_plan.specs.declared.atoms.Outcome.TheVariants as outcomes
use Rattle.vc_plan.specs.declared.plans.Named.{Named}
use Rattle.vc_plan.specs.declared.plans.Plan.{Plan}
use Rattle.vc_plan.specs.Fitting.{users_fit}
use Rattle.vc_plan.specs.Seen.{Seen, seen_of}
use Rattle.vc_plan.specs.Showing.{is_named_here}
use Rattle.vc_plan_users.specs.Choosing.{Chosen, none_chosen, users_of}
use Rattle.vc_plan_users.specs.declared.users.SetText.{SetText}
use Rattle.vc_net.specs.Nets.{Netted, outcome_by}
use Rattle.vc_session_evaluation.specs.Evaluating.{AreStagesOf, IsEvaluated, said_by}
use Rattle.vc_session_evaluation.specs.Following.{HaveTaken}
use Rattle.vc_session_evaluation.specs.declared.stages.Stages.{Stages}
use Rattle.vc_show.specs.Asking.{marked_of}
use Rattle.vc_session.specs.Edits.{may_be_given}
use Rattle.vc_session.specs.declared.session.NotSet.{NotSet}
use Rattle.vc_session.specs.declared.session.SetFault.{SetFault}
use Rattle.vc_session.specs.declared.session.SetFault.TheVariants as faults

-- what the user chose, what its evaluation works on, and the variables that are marked as required
pub record Opened : Type 0 where
  pub users : Chosen
  pub stages : Stages
  pub marked : List ℕ

-- the texts of a set's list, held or not
abbrev pub listed : List SetText → List ℕ
listed texts = map (λ t. t.text) texts

-- a value or none for each variable of the plan, and each set with its list
pub record AreUsersOf (plan : Plan) (chosen : Chosen) : Type 0 where
  pub values : length chosen.values ≡ length plan.vars
  pub sets : map listed chosen.sets ≡ map listed (none_chosen plan).sets
  pub fit : users_fit plan (users_of chosen) ≡ true

-- a session of the plan: what the user chose is of the plan, and is evaluated with just these values; the plan's marks
-- are known
pub record IsSessionOf (plan : Plan) (session : Opened) : Type 0 where
  pub users : AreUsersOf plan session.users
  pub stages : AreStagesOf plan session.stages
  pub evaluated : IsEvaluated plan (users_of session.users) session.stages
  pub taken : HaveTaken session.users.values session.stages
  pub marked : session.marked ≡ marked_of plan

-- what the last stage says
abbrev pub seen_in : Option Netted → Seen
seen_in None = seen_of []
seen_in (Some net) = said_by net

abbrev pub last_seen : Stages → Seen
last_seen stages = seen_in (slice_get stages.nets.items (pred (length stages.nets.items)))

-- no stage is broken, and what the name means isn't here
abbrev pub is_away : Plan → Opened → Named → Bool
is_away plan session named = is_none session.stages.broken && not (is_named_here plan (last_seen session.stages) named)

-- why a value can't be given there, if it can't
abbrev pub set_fault : Plan → Opened → Named → Value → Option SetFault
set_fault plan session named a =
    if may_be_given plan named a
    then (if is_away plan session named then Some faults.NotHere else None)
    else Some faults.NotInList

-- an edit that gives a value: it is refused and nothing changes, or what the user chose becomes this
abbrev pub Gives : Plan → Opened → Opened → Named → Value → Chosen → Result Unit SetFault → Type 0
Gives plan old new named a after (Ok done) = (set_fault plan old named a ≡ None) × (new.users ≡ after)
Gives plan old new named a after (Err fault) = (set_fault plan old named a ≡ Some fault) × (new ≡ old)

-- an edit that takes values back, where there are some
abbrev pub Takes : Opened → Opened → Bool → Chosen → Result Unit NotSet → Type 0
Takes old new some after (Ok done) = (some ≡ true) × (new.users ≡ after)
Takes old new some after (Err fault) = (some ≡ false) × (new ≡ old)

-- how an evaluation ended: with whom to blame, where a stage is broken
abbrev pub outcome_at : Option Netted → Outcome
outcome_at None = outcomes.Settled
outcome_at (Some net) = outcome_by net.work.breaker.culprit

abbrev pub outcome_of : Stages → Option ℕ → Outcome
outcome_of stages None = outcomes.Settled
outcome_of stages (Some k) = outcome_at (slice_get stages.nets.items k)
