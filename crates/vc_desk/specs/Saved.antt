-- Saving, loading and forgetting: what is answered, and what is saved or chosen then.
use Rattle.std.specs.Prelude.{◌≡◌, ℕ, List, Option, None, Some, Result, Ok, Err}
use Rattle.std.specs.FinMap.{get, insert, remove}
use Rattle.vc_outside.specs.Faults.{Raised}
use Rattle.vc_outside.specs.Keepers.{Texts}
use Rattle.vc_outside.specs.declared.keeper.KeepFault.{KeepFault}
use Rattle.vc_outside.specs.declared.keeper.KeepFault.TheVariants as keep_faults
use Rattle.vc_plan.specs.declared.plans.Plan.{Plan}
use Rattle.vc_plan_users.specs.Choosing.{Chosen}
use Rattle.vc_wire_replies.specs.declared.reply.Refusal.{Refusal}
use Rattle.vc_wire_replies.specs.declared.reply.Refusal.TheVariants.{KeeperFault, NoSession, NothingSaved}
use Rattle.vc_wire_replies.specs.declared.reply.Refusal.TheVariants.{OutOfMemory, SavedRefused}
use Rattle.vc_wire_replies.specs.declared.reply.Reply.{Reply}
use Rattle.vc_wire_replies.specs.declared.reply.Reply.TheVariants.{Forgotten, Refused, Saved}
use Rattle.vc_wire_replies.specs.declared.reply.SavedRefusal.TheVariants.{NotJson, OtherModel, Shape, UnknownName}
use Rattle.vc_desk_shown.specs.Standing.{Standing}
use Rattle.vc_desk.specs.Editing.{EditsTo}
use Rattle.vc_desk.specs.States.{HoldsOfSaved, State}
use Rattle.vc_store.specs.Reading.{read_saved}
use Rattle.vc_store.specs.Saving.{saved_text}
use Rattle.vc_store.specs.declared.faults.SavedFault.{SavedFault}
use Rattle.vc_store.specs.declared.faults.SavedFault.TheVariants as saved_faults

-- where the keeper failed, its count of faults rose, and it is said; where memory was wanting, that is said; nothing
-- else changes then. Else it is answered so by the texts that are saved before and after
pub data UnlessKeeperFails (state : State) (reply : Reply) (next : State) (Answers : Texts → Texts → Type 0) : Type 0
  where
    keeper_failed : reply ≡ Refused KeeperFault → Raised state.faults next.faults → next.saved ≡ state.saved
        → next.sessions ≡ state.sessions → UnlessKeeperFails state reply next Answers
    exhausted : reply ≡ Refused OutOfMemory → next ≡ state → UnlessKeeperFails state reply next Answers
    answers : next.faults ≡ state.faults → HoldsOfSaved state.saved next.saved Answers
        → UnlessKeeperFails state reply next Answers

-- `save` of what is chosen in a session, if it is open: its text is saved under the name
abbrev pub SavesSession : Plan → State → List ℕ → Option Standing → Reply → State → Type 0
SavesSession plan state name None reply next = (reply ≡ Refused NoSession) × (next ≡ state)
SavesSession plan state name (Some standing) reply next =
    UnlessKeeperFails state reply next (λ texts after. (reply ≡ Saved) × (next.sessions ≡ state.sessions)
    × (after ≡ insert texts name (saved_text plan standing.chosen)))

-- why a saved text gives nothing
abbrev pub saved_refusal : SavedFault → Refusal
saved_refusal saved_faults.NotJson = SavedRefused NotJson
saved_refusal saved_faults.Shape = SavedRefused Shape
saved_refusal saved_faults.OtherModel = SavedRefused OtherModel
saved_refusal saved_faults.UnknownName = SavedRefused UnknownName
saved_refusal saved_faults.OutOfMemory = OutOfMemory

abbrev pub chosen_or_refusal : Result Chosen SavedFault → Result Chosen Refusal
chosen_or_refusal (Ok chosen) = Ok chosen
chosen_or_refusal (Err fault) = Err (saved_refusal fault)

-- what is chosen by the text that is saved under a name, if one is
abbrev pub after_load : Plan → Option (List ℕ) → Result Chosen Refusal
after_load plan None = Err NothingSaved
after_load plan (Some text) = chosen_or_refusal (read_saved plan text)

-- `load` into a session, if it is open: what was chosen there is replaced
abbrev pub LoadsSession : Plan → State → List ℕ → List ℕ → Option Standing → Reply → State → Type 0
LoadsSession plan state session name None reply next = (reply ≡ Refused NoSession) × (next ≡ state)
LoadsSession plan state session name (Some standing) reply next =
    UnlessKeeperFails state reply next (λ texts after.
    EditsTo plan state.sessions session (after_load plan (get texts name)) reply next.sessions × (after ≡ texts))

-- `forget` what is saved under a name, if something is
abbrev pub Forgets : Texts → List ℕ → Option (List ℕ) → Reply → Texts → Type 0
Forgets texts name None reply after = (reply ≡ Refused NothingSaved) × (after ≡ texts)
Forgets texts name (Some text) reply after = (reply ≡ Forgotten) × (after ≡ remove texts name)

abbrev pub ForgetsSaved : State → List ℕ → Reply → State → Type 0
ForgetsSaved state name reply next =
    UnlessKeeperFails state reply next (λ texts after.
    Forgets texts name (get texts name) reply after × (next.sessions ≡ state.sessions))

-- what a keeper's fault is told as
abbrev pub keeper_refusal : KeepFault → Refusal
keeper_refusal keep_faults.Failed = KeeperFault
keeper_refusal keep_faults.OutOfMemory = OutOfMemory

-- what a keeper refuses with: it failed, and its count of faults rose; or memory was wanting
pub data IsKeeperRefusal (before after : ℕ) (refusal : Refusal) : Type 0 where
  failed : refusal ≡ KeeperFault → Raised before after → IsKeeperRefusal before after refusal
  memory : refusal ≡ OutOfMemory → after ≡ before → IsKeeperRefusal before after refusal

-- a text is saved under the name, or the keeper refused or memory was wanting
abbrev pub IsSaved : Option Texts → Option Texts → ℕ → ℕ → List ℕ → List ℕ → Result Unit Refusal → Type 0
IsSaved before after faults faults_after name text (Ok done) =
    (faults_after ≡ faults) × HoldsOfSaved before after (λ texts next. next ≡ insert texts name text)
IsSaved before after faults faults_after name text (Err refusal) =
    IsKeeperRefusal faults faults_after refusal × (after ≡ before)

-- what is loaded: what the text that is saved under the name gives, unless the keeper refused or memory was wanting
pub data IsLoaded (plan : Plan) (name : List ℕ) (before after : Option Texts) (faults faults_after : ℕ)
    (result : Result Chosen Refusal) : Type 0 where
  refused : (refusal : Refusal) → result ≡ Err refusal → IsKeeperRefusal faults faults_after refusal → after ≡ before
      → IsLoaded plan name before after faults faults_after result
  loaded : faults_after ≡ faults
      → HoldsOfSaved before after (λ texts next. (result ≡ after_load plan (get texts name)) × (next ≡ texts))
      → IsLoaded plan name before after faults faults_after result

-- what a text gives, unless memory was wanting
pub data IsGiven (plan : Plan) (text : List ℕ) (result : Result Chosen Refusal) : Type 0 where
  no_memory : result ≡ Err OutOfMemory → IsGiven plan text result
  given : result ≡ after_load plan (Some text) → IsGiven plan text result
