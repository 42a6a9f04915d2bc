-- The desk's step: what it answers to a request, and what it keeps then. Each answer is read off an evaluation of what
-- the user chose, from nothing, or off what is saved; and until a session is edited again all blame the same.
use Rattle.std.specs.Prelude.{◌≡◌, ℕ, nat_lt, is_some, if◌then◌else◌, List, Option, None, Some, Result}
use Rattle.vc_plan.specs.declared.plans.Plan.{Plan}
use Rattle.vc_plan.specs.declared.shown.Status.{Status}
use Rattle.vc_plan.specs.Evaluate.{Users}
use Rattle.vc_plan_users.specs.Choosing.{Chosen, none_chosen, users_of}
use Rattle.vc_wire_requests.specs.declared.request.Request.{Request}
use Rattle.vc_wire_requests.specs.declared.request.Request.TheVariants as requests
use Rattle.vc_wire_replies.specs.declared.reply.Refusal.{Refusal}
use Rattle.vc_wire_replies.specs.declared.reply.Refusal.TheVariants.{NameTaken, NoSession, OutOfMemory, TooManySessions}
use Rattle.vc_wire_replies.specs.declared.reply.Reply.{Reply}
use Rattle.vc_wire_replies.specs.declared.reply.Reply.TheVariants.{BillShown, Closed, Refused, RoutingShown}
use Rattle.vc_wire_replies.specs.declared.reply.Reply.TheVariants.{Shown}
use Rattle.vc_desk_shown.specs.Shown.{bill_shown, routing_shown, shown}
use Rattle.vc_desk_shown.specs.Standing.{Standing}
use Rattle.vc_desk_session.specs.Edits.{after_add, after_drop, after_retract, after_set}
use Rattle.vc_desk_session.specs.Reasons.{AsksSession, Conflict, Log, Why, WhyNot}
use Rattle.vc_desk_session.specs.Telling.{Tells}
use Rattle.vc_desk.specs.Editing.{Becomes, EditsTo}
use Rattle.vc_desk.specs.Saved.{ForgetsSaved, LoadsSession, SavesSession}
use Rattle.vc_desk.specs.States.{KeeperStays, OpenSessions, State, open_count, standing_in, without_session}
use Rattle.vc_desk.specs.declared.sessions.TheConstants.{SESSION_LIMIT}

-- the first reason against opening a session of this name
abbrev pub start_refusal : OpenSessions → List ℕ → Option Refusal
start_refusal sessions name =
    let full = if nat_lt (open_count sessions) SESSION_LIMIT then None else Some TooManySessions in
    if is_some (standing_in sessions name) then Some NameTaken else full

-- `open`: a session with nothing chosen; memory may be wanting
pub data Starts (plan : Plan) (sessions : OpenSessions) (name : List ℕ) (reply : Reply)
    (next : OpenSessions) : Type 0 where
  refused : (refusal : Refusal) → start_refusal sessions name ≡ Some refusal → reply ≡ Refused refusal → next ≡ sessions
      → Starts plan sessions name reply next
  exhausted : start_refusal sessions name ≡ None → reply ≡ Refused OutOfMemory → next ≡ sessions
      → Starts plan sessions name reply next
  started : start_refusal sessions name ≡ None → Becomes plan sessions name (none_chosen plan) reply next
      → Starts plan sessions name reply next

-- `close` of the session of this name, if one is open
abbrev pub Closes : OpenSessions → List ℕ → Option Standing → Reply → OpenSessions → Type 0
Closes sessions name None reply next = (reply ≡ Refused NoSession) × (next ≡ sessions)
Closes sessions name (Some standing) reply next = (reply ≡ Closed) × (next ≡ without_session sessions name)

-- an edit of the session of this name, if one is open
abbrev pub EditsSession : Plan → OpenSessions → List ℕ → (Chosen → Result Chosen Refusal) → Option Standing → Reply
    → OpenSessions
    → Type 0
EditsSession plan sessions name edit None reply next = (reply ≡ Refused NoSession) × (next ≡ sessions)
EditsSession plan sessions name edit (Some standing) reply next =
    EditsTo plan sessions name (edit standing.chosen) reply next

-- of the session of this name, if one is open
abbrev pub TellsSession : Plan → (Status → List ℕ → Reply) → (Plan → Users → List ℕ) → Option Standing → Reply → Type 0
TellsSession plan tell text None reply = reply ≡ Refused NoSession
TellsSession plan tell text (Some standing) reply =
    Tells plan standing tell (text plan (users_of standing.chosen)) reply

-- the keeper isn't asked: the request is none of the three about what is saved
abbrev pub LeavesKeeper : Request → Type 0
LeavesKeeper (requests.Start name) = Unit {0}
LeavesKeeper (requests.Close name) = Unit {0}
LeavesKeeper (requests.Set name i characteristic word) = Unit {0}
LeavesKeeper (requests.Add name i characteristic word) = Unit {0}
LeavesKeeper (requests.Retract name i characteristic) = Unit {0}
LeavesKeeper (requests.Drop name i characteristic word) = Unit {0}
LeavesKeeper (requests.Show name) = Unit {0}
LeavesKeeper (requests.Bill name) = Unit {0}
LeavesKeeper (requests.Routing name) = Unit {0}
LeavesKeeper (requests.Why name i characteristic) = Unit {0}
LeavesKeeper (requests.WhyNot name i characteristic word) = Unit {0}
LeavesKeeper (requests.Conflict name) = Unit {0}
LeavesKeeper (requests.Log name) = Unit {0}
LeavesKeeper (requests.Save name saved_name) = ⊥
LeavesKeeper (requests.Load name saved_name) = ⊥
LeavesKeeper (requests.Forget saved_name) = ⊥

-- the step
abbrev pub Apply : Plan → State → Request → Reply → State → Type 0
Apply plan state (requests.Start name) reply next = Starts plan state.sessions name reply next.sessions
    × KeeperStays state next
Apply plan state (requests.Close name) reply next =
    Closes state.sessions name (standing_in state.sessions name) reply next.sessions
    × KeeperStays state next
Apply plan state (requests.Set name i characteristic word) reply next =
    EditsSession plan state.sessions name (after_set plan i characteristic word)
    (standing_in state.sessions name) reply next.sessions
    × KeeperStays state next
Apply plan state (requests.Add name i characteristic word) reply next =
    EditsSession plan state.sessions name (after_add plan i characteristic word)
    (standing_in state.sessions name) reply next.sessions
    × KeeperStays state next
Apply plan state (requests.Retract name i characteristic) reply next =
    EditsSession plan state.sessions name (after_retract plan i characteristic)
    (standing_in state.sessions name) reply next.sessions
    × KeeperStays state next
Apply plan state (requests.Drop name i characteristic word) reply next =
    EditsSession plan state.sessions name (after_drop plan i characteristic word)
    (standing_in state.sessions name) reply next.sessions
    × KeeperStays state next
Apply plan state (requests.Show name) reply next = TellsSession plan Shown shown (standing_in state.sessions name) reply
    × (next ≡ state)
Apply plan state (requests.Bill name) reply next =
    TellsSession plan BillShown bill_shown (standing_in state.sessions name) reply × (next ≡ state)
Apply plan state (requests.Routing name) reply next =
    TellsSession plan RoutingShown routing_shown (standing_in state.sessions name) reply × (next ≡ state)
Apply plan state (requests.Why name i characteristic) reply next =
    AsksSession plan (Why i characteristic) (standing_in state.sessions name) reply × (next ≡ state)
Apply plan state (requests.WhyNot name i characteristic word) reply next =
    AsksSession plan (WhyNot i characteristic word) (standing_in state.sessions name) reply × (next ≡ state)
Apply plan state (requests.Conflict name) reply next = AsksSession plan Conflict (standing_in state.sessions name) reply
    × (next ≡ state)
Apply plan state (requests.Log name) reply next = AsksSession plan Log (standing_in state.sessions name) reply
    × (next ≡ state)
Apply plan state (requests.Save name saved_name) reply next =
    SavesSession plan state saved_name (standing_in state.sessions name) reply next
Apply plan state (requests.Load name saved_name) reply next =
    LoadsSession plan state name saved_name (standing_in state.sessions name) reply next
Apply plan state (requests.Forget saved_name) reply next = ForgetsSaved state saved_name reply next
