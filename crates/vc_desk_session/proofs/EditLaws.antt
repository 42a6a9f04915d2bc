-- Edits of an open session, as the desk's step says them.
use Rattle.std.proofs.Common.{◌≡◌, ℕ, Bool, true, false, not, ◌&&◌, List, refl, sym, ap, ◌∙◌, subst}
use Rattle.std.specs.Option.{ok_or}
use Rattle.std.specs.Prelude.{Option, None, Some, Result, Ok, Err, is_none, if◌then◌else◌}
use Rattle.vc_value.specs.declared.value.Value.{Value}
use Rattle.vc_plan.specs.declared.plans.Named.{Named}
use Rattle.vc_plan.specs.declared.plans.Plan.{Plan}
use Rattle.vc_plan.specs.Evaluate.{Users}
use Rattle.vc_plan.specs.Showing.{is_named_here}
use Rattle.vc_plan.specs.Valid.{IsValid}
use Rattle.vc_plan_users.specs.Choosing.{Chosen, users_of}
use Rattle.vc_session_evaluation.specs.Evaluating.{EndsAt, HasBroken}
use Rattle.vc_session.specs.Sessions.{Gives, IsSessionOf, Opened, Takes, is_away, last_seen, set_fault}
use Rattle.vc_session.specs.declared.session.NotSet.{NotSet}
use Rattle.vc_session.specs.declared.session.SetFault.{SetFault}
use Rattle.vc_session.specs.declared.session.SetFault.TheVariants as faults
use Rattle.vc_wire_replies.specs.declared.reply.Refusal.{Refusal}
use Rattle.vc_wire_replies.specs.declared.reply.Refusal.TheVariants as refusals
use Rattle.vc_desk_names.specs.Meant.{value_named}
use Rattle.vc_desk_names.proofs.MeantLaws.{listed_may_be_given}
use Rattle.vc_desk_shown.proofs.ShownLaws.{settled_sessions_reach}
use Rattle.vc_desk_session.specs.Edits.{◌>>=◌, refusal_for, is_absent, is_absent_after, where_present, where_set}

-- a session says of an instance that it is away just where the evaluation of what is chosen does
pub away_is_absent : (plan : Plan) (session : Opened) (named : Named) → IsValid plan → IsSessionOf plan session
    → is_away plan session named ≡ is_absent plan session.users named
away_is_absent plan session named valid of = by session.stages.broken refl
  where
    users : Users
    users = users_of session.users

    by : (o : Option ℕ) → session.stages.broken ≡ o → is_away plan session named ≡ is_absent plan session.users named
    by None e =
        let reached = settled_sessions_reach plan session valid of e in
        ap (λ b. is_none b && not (is_named_here plan (last_seen session.stages) named)) e
        ∙ ap (λ seen. not (is_named_here plan seen named)) reached.seen
        ∙ ap (is_absent_after plan named) (sym reached.whole)
    by (Some k) e =
        let ends : HasBroken plan users session.stages k = subst (EndsAt plan users session.stages) e of.evaluated in
        ap (λ b. is_none b && not (is_named_here plan (last_seen session.stages) named)) e
        ∙ ap (is_absent_after plan named) (sym ends.breaks)

-- why a listed value is refused
fault_is : (plan : Plan) (session : Opened) (named : Named) (word : List ℕ) (a : Value)
    → value_named plan named word ≡ Some a
    → set_fault plan session named a ≡ (if is_away plan session named then Some faults.NotHere else None)
fault_is plan session named word a e =
    ap (λ b. if b then (if is_away plan session named then Some faults.NotHere else None) else Some faults.NotInList)
    (listed_may_be_given plan named word a e)

-- what the session made of an edit that gives a value
module _ (plan : Plan) (old new : Opened) (named : Named) (word : List ℕ) (a : Value) (after : Chosen)
    (valid : IsValid plan)
    (of : IsSessionOf plan old) (listed : value_named plan named word ≡ Some a) where
  by_fault : set_fault plan old named a ≡ (if is_absent plan old.users named then Some faults.NotHere else None)
  by_fault =
      fault_is plan old named word a listed
      ∙ ap (λ b. if b then Some faults.NotHere else None) (away_is_absent plan old named valid of)

  pub given_done : Gives plan old new named a after (Ok tt) → where_present plan old.users named after ≡ Ok new.users
  given_done gives = by (is_absent plan old.users named) refl
    where
      by : (b : Bool) → is_absent plan old.users named ≡ b
          → (if b then Err refusals.NotHere else Ok after) ≡ Ok new.users
      by true e = absurd (let fault : Some faults.NotHere ≡ None =
          sym (by_fault ∙ ap (λ b. if b then Some faults.NotHere else None) e) ∙ gives.0 in cc)
      by false e = ap Ok (sym gives.1)

  pub given_refused : (fault : SetFault) → Gives plan old new named a after (Err fault)
      → where_present plan old.users named after ≡ Err (refusal_for fault)
  given_refused fault gives = by (is_absent plan old.users named) refl
    where
      by : (b : Bool) → is_absent plan old.users named ≡ b
          → (if b then Err refusals.NotHere else Ok after) ≡ Err (refusal_for fault)
      by true e =
          let same : Some faults.NotHere ≡ Some fault =
          sym (by_fault ∙ ap (λ b. if b then Some faults.NotHere else None) e) ∙ gives.0 in
          let is : faults.NotHere ≡ fault = cc in
          ap (λ f. Err (refusal_for f)) is
      by false e = absurd (let fault : None ≡ Some fault =
          sym (by_fault ∙ ap (λ b. if b then Some faults.NotHere else None) e) ∙ gives.0 in cc)

-- and one that takes values back
pub taken_done : (some : Bool) (old new : Opened) (after : Chosen) → Takes old new some after (Ok tt)
    → where_set some after ≡ Ok new.users
taken_done some old new after takes = ap (λ b. if b then Ok after else Err refusals.NotSet) takes.0
    ∙ ap Ok (sym takes.1)

pub taken_refused : (some : Bool) (old new : Opened) (after : Chosen) (fault : NotSet)
    → Takes old new some after (Err fault)
    → where_set some after ≡ Err refusals.NotSet
taken_refused some old new after fault takes = ap (λ b. if b then Ok after else Err refusals.NotSet) takes.0

-- what is found first leads on
pub listed_by : (o : Option Value) (refusal : Refusal) (a : Value) → Ok a ≡ ok_or o refusal → o ≡ Some a
listed_by None refusal a e = absurd (cc)
listed_by (Some b) refusal a e = let same : a ≡ b = cc in ap Some (sym same)

pub leads_on : (found : Result Named Refusal) (value : Named → Result Value Refusal)
    (edit : Named → Value → Result Chosen Refusal)
    (named : Named) (a : Value) (last : Result Chosen Refusal) → Ok named ≡ found → Ok a ≡ value named
    → edit named a ≡ last
    → (found >>= (λ n. value n >>= edit n)) ≡ last
leads_on found value edit named a last e f g =
    ap (λ r. r >>= (λ n. value n >>= edit n)) (sym e) ∙ ap (λ r. r >>= edit named) (sym f) ∙ g
