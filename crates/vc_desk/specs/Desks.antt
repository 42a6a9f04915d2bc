-- A desk of a plan, and what it keeps.
use Rattle.std.specs.Prelude.{◌≡◌, ◌≤◌, ℕ, List, Option, Some, map, Vec, IfSome, Result, Ok, Err}
use Rattle.std.specs.FinMap.{entries, from_entries, get, insert, len}
use Rattle.vc_outside.specs.Keepers.{Texts}
use Rattle.vc_plan.specs.declared.plans.Plan.{Plan}
use Rattle.vc_plan.specs.declared.shown.Status.{Status}
use Rattle.vc_plan.specs.Valid.{IsValid}
use Rattle.vc_plan_users.specs.Choosing.{none_chosen}
use Rattle.vc_proc_look_ups.specs.declared.look_ups.LookUps.{LookUps}
use Rattle.vc_session_evaluation.specs.Sharing.{AreAllLookUpsOf}
use Rattle.vc_session.specs.Costing.{HasStarted}
use Rattle.vc_session.specs.Sessions.{IsSessionOf, Opened}
use Rattle.vc_wire_replies.specs.declared.reply.Refusal.{Refusal}
use Rattle.vc_wire_replies.specs.declared.reply.Reply.{Reply}
use Rattle.vc_wire_replies.specs.declared.reply.Reply.TheVariants.{Done, Refused}
use Rattle.vc_desk_shown.specs.Standing.{Standing, StandsAs, standing_of}
use Rattle.vc_desk.specs.States.{ByName, OpenSessions, State, kept}
use Rattle.vc_desk.specs.declared.sessions.TheConstants.{SESSION_LIMIT}

-- a plan, the orders of its tables that sessions share, once there are some, and the open sessions
pub record Kept : Type 0 where
  pub plan : Plan
  pub look_ups : Option LookUps
  pub sessions : ByName Opened

-- an entry by the bytes of its key
abbrev pub named_entry : {X Z : Type 0} → Vec ℕ Z × X → List ℕ × X
named_entry entry = (entry.0.items, entry.1)

-- how each stands, by its name
abbrev pub standing_entry : List ℕ × Opened → List ℕ × Standing
standing_entry entry = (entry.0, standing_of entry.1)

abbrev pub open_of : ByName Opened → OpenSessions
open_of sessions = from_entries (map standing_entry (entries sessions))

-- with what the keeper tells, and its count of faults
abbrev pub state_of : ByName Opened → Option Texts → ℕ → State
state_of sessions saved faults = kept (open_of sessions) saved faults

-- sessions of the plan, no more than may be open
pub record AreSessionsOf (plan : Plan) (sessions : ByName Opened) : Type 0 where
  pub each : (name : List ℕ) → IfSome (get sessions name) (IsSessionOf plan)
  pub few : len sessions ≤ SESSION_LIMIT

-- orders that are there stay
abbrev pub KeepsLookUps : Option LookUps → Option LookUps → Type 0
KeepsLookUps old new = (there : LookUps) → old ≡ Some there → new ≡ Some there

pub record IsDesk (desk : Kept) : Type 0 where
  pub valid : IsValid desk.plan
  pub look_ups : IfSome desk.look_ups (AreAllLookUpsOf desk.plan)
  pub sessions : AreSessionsOf desk.plan desk.sessions

-- what is replied to an edit after which a session stands so
abbrev pub RepliesTo : Plan → Standing → Result Unit Refusal → Reply → Type 0
RepliesTo plan standing (Ok done) reply = (status : Status) × StandsAs plan standing status × (reply ≡ Done status)
RepliesTo plan standing (Err refusal) reply = reply ≡ Refused refusal

-- a session of this name with nothing chosen beside the others, and how it stands
pub record Opens (plan : Plan) (old : ByName Opened) (name : List ℕ) (new : ByName Opened) (status : Status) :
    Type 0 where
  pub session : Opened
  pub of : IsSessionOf plan session
  pub none : session.users ≡ none_chosen plan
  pub behind : HasStarted plan session
  pub put : new ≡ insert old name session
  pub stands : StandsAs plan (standing_of session) status
