-- What each edit makes of what a user chose, or the first reason against it.
use Rattle.std.specs.Prelude.{⊤, ◌≡◌, ℕ, Bool, false, not, nat_lt, if◌then◌else◌, List, length, Result, Ok, Err}
use Rattle.std.specs.Option.{ok_or}
use Rattle.vc_plan.specs.declared.plans.Named.{Named}
use Rattle.vc_plan.specs.declared.plans.Plan.{Plan}
use Rattle.vc_plan.specs.Evaluate.{Evaluated, broken_at, evaluation_of, last_set, reached}
use Rattle.vc_plan.specs.Seen.{seen_of}
use Rattle.vc_plan.specs.Showing.{is_named_here}
use Rattle.vc_plan_users.specs.Choosing.{Chosen, users_of}
use Rattle.vc_session.specs.Edits.{given, given_alone, has_choice, has_chosen, taken, taken_value}
use Rattle.vc_session.specs.Sessions.{AreUsersOf}
use Rattle.vc_session.specs.declared.session.SetFault.{SetFault}
use Rattle.vc_session.specs.declared.session.SetFault.TheVariants as faults
use Rattle.vc_wire_replies.specs.declared.reply.Refusal.{Refusal}
use Rattle.vc_wire_replies.specs.declared.reply.Refusal.TheVariants.{NotHere, NotInList, NotSet, UnknownCharacteristic}
use Rattle.vc_wire_replies.specs.declared.reply.Refusal.TheVariants.{UnknownInstance}
use Rattle.vc_desk_names.specs.Meant.{find_named, value_named}
use Rattle.vc_desk_session.specs.declared.edits.Edit.{Edit}
use Rattle.vc_desk_session.specs.declared.edits.Edit.TheVariants as edits

-- what an answer leads on to, or the first refusal
infixl 10 ◌>>=◌
abbrev pub ◌>>=◌ : {A B : Type 0} → Result A Refusal → (A → Result B Refusal) → Result B Refusal
(Ok x) >>= f = f x
(Err refusal) >>= f = Err refusal

-- what a session says against a value
abbrev pub refusal_for : SetFault → Refusal
refusal_for faults.NotInList = NotInList
refusal_for faults.NotHere = NotHere

-- what the characteristic is at the instance
abbrev pub named_for : Plan → ℕ → List ℕ → Result Named Refusal
named_for plan i name =
    if nat_lt i (length plan.slots) then ok_or (find_named plan i name) UnknownCharacteristic else Err UnknownInstance

-- no stage is broken, and the instance isn't here
abbrev pub is_absent_after : Plan → Named → Evaluated → Bool
is_absent_after plan named (broken_at k entries) = false
is_absent_after plan named (reached sets entries) = not (is_named_here plan (seen_of (last_set plan sets)) named)

abbrev pub is_absent : Plan → Chosen → Named → Bool
is_absent plan chosen named = is_absent_after plan named (evaluation_of plan (users_of chosen))

abbrev pub where_present : Plan → Chosen → Named → Chosen → Result Chosen Refusal
where_present plan chosen named after = if is_absent plan chosen named then Err NotHere else Ok after

abbrev pub where_set : Bool → Chosen → Result Chosen Refusal
where_set there after = if there then Ok after else Err NotSet

-- `set` and `add`
abbrev pub after_set : Plan → ℕ → List ℕ → List ℕ → Chosen → Result Chosen Refusal
after_set plan i name word chosen = do
  named ← named_for plan i name
  a ← ok_or (value_named plan named word) NotInList
  where_present plan chosen named (given_alone chosen named a)

abbrev pub after_add : Plan → ℕ → List ℕ → List ℕ → Chosen → Result Chosen Refusal
after_add plan i name word chosen = do
  named ← named_for plan i name
  a ← ok_or (value_named plan named word) NotInList
  where_present plan chosen named (given chosen named a)

-- `retract` and `drop`; a value that sleeps on an instance which isn't here may be taken back too
abbrev pub after_retract : Plan → ℕ → List ℕ → Chosen → Result Chosen Refusal
after_retract plan i name chosen = do
  named ← named_for plan i name
  where_set (has_choice chosen named) (taken chosen named)

abbrev pub after_drop : Plan → ℕ → List ℕ → List ℕ → Chosen → Result Chosen Refusal
after_drop plan i name word chosen = do
  named ← named_for plan i name
  a ← ok_or (value_named plan named word) NotInList
  where_set (has_chosen chosen named a) (taken_value chosen named a)

-- what a request asks for; what is restored is chosen whatever was
abbrev pub after_edit : Edit → Plan → Chosen → Result Chosen Refusal
after_edit (edits.Set i name word) plan = after_set plan i name.now word.now
after_edit (edits.Add i name word) plan = after_add plan i name.now word.now
after_edit (edits.Retract i name) plan = after_retract plan i name.now
after_edit (edits.Drop i name word) plan = after_drop plan i name.now word.now
after_edit (edits.Restore users) plan = λ chosen. Ok users

-- what is restored may be chosen
abbrev pub MayEdit : Plan → Edit → Type 0
MayEdit plan (edits.Set i name word) = ⊤
MayEdit plan (edits.Add i name word) = ⊤
MayEdit plan (edits.Retract i name) = ⊤
MayEdit plan (edits.Drop i name word) = ⊤
MayEdit plan (edits.Restore users) = AreUsersOf plan users

-- what an edit of a session did: what is chosen is what the edit makes of it, or it is refused and nothing changes
abbrev pub Edited : Chosen → Result Chosen Refusal → Chosen → Result Unit Refusal → Type 0
Edited old after new (Ok done) = after ≡ Ok new
Edited old after new (Err refusal) = (after ≡ Err refusal) × (new ≡ old)
