-- What is answered about the session of a name, by how it stands.
use Rattle.std.proofs.Common.{◌≡◌, ◌≤◌, ◌<◌, ℕ, Bool, true, false, List, refl, sym, ap, ◌∙◌, subst, arith}
use Rattle.std.specs.Borrow.{Bor}
use Rattle.std.specs.Prelude.{Option, None, Some, Result, Ok, Err, is_some, nat_lt, if◌then◌else◌}
use Rattle.std.specs.FinMap.{get, insert, len, remove}
use Rattle.std.specs.Option.{option_copied, option_map}
use Rattle.std.proofs.lemmas.Bool.{ltb-false, ltb-true}
use Rattle.vc_plan.specs.declared.plans.Plan.{Plan}
use Rattle.vc_plan.specs.declared.shown.Status.{Status}
use Rattle.vc_plan.specs.Evaluate.{Users}
use Rattle.vc_plan_users.specs.Choosing.{Chosen, users_of}
use Rattle.vc_session.specs.Costing.{EditCosts}
use Rattle.vc_session.specs.Sessions.{Opened}
use Rattle.vc_wire_replies.specs.declared.reply.Refusal.{Refusal}
use Rattle.vc_wire_replies.specs.declared.reply.Refusal.TheVariants.{NameTaken, NoSession, TooManySessions}
use Rattle.vc_wire_replies.specs.declared.reply.Reply.{Reply}
use Rattle.vc_wire_replies.specs.declared.reply.Reply.TheVariants.{Closed, Refused}
use Rattle.vc_desk_shown.specs.Standing.{standing_of}
use Rattle.vc_desk_session.specs.Reasons.{Asked, AsksSession, IsAnswerTo}
use Rattle.vc_desk_session.specs.Edits.{Edited}
use Rattle.vc_desk_session.specs.Telling.{Tells}
use Rattle.vc_desk.specs.Answers.{Closes, EditsSession, TellsSession, start_refusal}
use Rattle.vc_desk.specs.Editing.{EditsTo}
use Rattle.vc_desk.specs.Desks.{RepliesTo, open_of}
use Rattle.vc_desk.specs.States.{ByName, open_count, standing_in}
use Rattle.vc_desk.proofs.OpenLaws.{count_is, is_none_at, open_put, open_removed, put_same, standing_at}

some_mapped : (o : Option Opened) → is_some (option_map standing_of o) ≡ is_some o
some_mapped None = refl
some_mapped (Some session) = refl

-- what is lent of a session tells that there is one
pub some_copied : (lent : Option (Bor Opened)) (found : Option Opened) (b : Bool) → option_copied lent ≡ found
    → is_some lent ≡ b → is_some found ≡ b
some_copied None found b e is = ap is_some (sym e) ∙ is
some_copied (Some session) found b e is = ap is_some (sym e) ∙ is

pub one_copied : (lent : Option (Bor Opened)) (found : Option Opened) → option_copied lent ≡ found
    → is_some lent ≡ true → (session : Opened) × (found ≡ Some session)
one_copied None found e some = absurd (cc)
one_copied (Some session) found e some = (session.now, sym e)

-- how the session of a name stands, if one is open
module _ (sessions : ByName Opened) (name : List ℕ) where
  pub none_stands : get sessions name ≡ None → standing_in (open_of sessions) name ≡ None
  none_stands none = standing_at sessions name ∙ ap (λ (o : Option Opened). option_map standing_of o) none

  pub one_stands : (found : Opened) → get sessions name ≡ Some found
      → standing_in (open_of sessions) name ≡ Some (standing_of found)
  one_stands found there = standing_at sessions name ∙ ap (λ (o : Option Opened). option_map standing_of o) there

  -- an edit, where none is open, and of one that is
  pub edits_none : (plan : Plan) (edit : Chosen → Result Chosen Refusal) (reply : Reply) → get sessions name ≡ None
      → reply ≡ Refused NoSession
      → EditsSession plan (open_of sessions) name edit (standing_in (open_of sessions) name) reply (open_of sessions)
  edits_none plan edit reply none is =
      subst (λ o. EditsSession plan (open_of sessions) name edit o reply (open_of sessions))
      (sym (none_stands none)) (is, refl)

  pub edits_one : (plan : Plan) (edit : Chosen → Result Chosen Refusal) (old new : Opened) (done : Result Unit Refusal)
      (reply : Reply) (before after : ℕ) → get sessions name ≡ Some old
      → Edited old.users (edit old.users) new.users done → EditCosts plan old new done before after
      → RepliesTo plan (standing_of new) done reply
      → EditsSession plan (open_of sessions) name edit (standing_in (open_of sessions) name) reply
      (open_of (insert sessions name new))
  edits_one plan edit old new done reply before after there edited cost replies =
      subst (λ o. EditsSession plan (open_of sessions) name edit o reply (open_of (insert sessions name new)))
      (sym (one_stands old there)) (by done edited cost replies)
    where
      by : (done : Result Unit Refusal) → Edited old.users (edit old.users) new.users done
          → EditCosts plan old new done before after → RepliesTo plan (standing_of new) done reply
          → EditsTo plan (open_of sessions) name (edit old.users) reply (open_of (insert sessions name new))
      by (Ok unit) edited cost replies =
          subst (λ after. EditsTo plan (open_of sessions) name after reply (open_of (insert sessions name new)))
          (sym edited) (record {
            standing = standing_of new;
            status = replies.0;
            its = refl;
            stands = replies.1;
            said = replies.2;
            put = open_put sessions name new;
          })
      by (Err refusal) edited cost replies =
          subst (λ after. EditsTo plan (open_of sessions) name after reply (open_of (insert sessions name new)))
          (sym edited.0) (
            replies,
            ap (λ session. open_of (insert sessions name session)) cost.0
                ∙ ap open_of (put_same sessions name old there),
          )

  -- closing
  pub closes_none : (reply : Reply) → is_some (get sessions name) ≡ false → reply ≡ Refused NoSession
      → Closes (open_of sessions) name (standing_in (open_of sessions) name) reply (open_of sessions)
  closes_none reply none is =
      subst (λ o. Closes (open_of sessions) name o reply (open_of sessions))
      (sym (none_stands (is_none_at (get sessions name) none))) (is, refl)

  pub closes_one : is_some (get sessions name) ≡ true
      → Closes (open_of sessions) name (standing_in (open_of sessions) name) Closed (open_of (remove sessions name))
  closes_one some = by (get sessions name) refl some
    where
      by : (found : Option Opened) → get sessions name ≡ found → is_some found ≡ true
          → Closes (open_of sessions) name (standing_in (open_of sessions) name) Closed
          (open_of (remove sessions name))
      by None there some = absurd (cc)
      by (Some found) there some =
          subst (λ o. Closes (open_of sessions) name o Closed (open_of (remove sessions name)))
          (sym (one_stands found there)) (refl, open_removed sessions name)

  -- telling
  pub tells_none : (plan : Plan) (tell : Status → List ℕ → Reply) (text : Plan → Users → List ℕ) (reply : Reply)
      → get sessions name ≡ None → reply ≡ Refused NoSession
      → TellsSession plan tell text (standing_in (open_of sessions) name) reply
  tells_none plan tell text reply none is =
      subst (λ o. TellsSession plan tell text o reply) (sym (none_stands none)) is

  pub tells_one : (plan : Plan) (tell : Status → List ℕ → Reply) (text : Plan → Users → List ℕ) (found : Opened)
      (reply : Reply) → get sessions name ≡ Some found
      → Tells plan (standing_of found) tell (text plan (users_of found.users)) reply
      → TellsSession plan tell text (standing_in (open_of sessions) name) reply
  tells_one plan tell text found reply there tells =
      subst (λ o. TellsSession plan tell text o reply) (sym (one_stands found there)) tells

  -- explaining
  pub asks_none : (plan : Plan) (asked : Asked) (reply : Reply) → get sessions name ≡ None → reply ≡ Refused NoSession
      → AsksSession plan asked (standing_in (open_of sessions) name) reply
  asks_none plan asked reply none is = subst (λ o. AsksSession plan asked o reply) (sym (none_stands none)) is

  pub asks_one : (plan : Plan) (asked : Asked) (found : Opened) (reply : Reply) → get sessions name ≡ Some found
      → IsAnswerTo plan asked (standing_of found) reply
      → AsksSession plan asked (standing_in (open_of sessions) name) reply
  asks_one plan asked found reply there answers =
      subst (λ o. AsksSession plan asked o reply) (sym (one_stands found there)) answers

  -- why no session of the name is opened, and that one may be
  abbrev if_full : Option Refusal
  if_full = if nat_lt (open_count (open_of sessions)) 32 then None else Some TooManySessions

  pub name_taken : is_some (get sessions name) ≡ true → start_refusal (open_of sessions) name ≡ Some NameTaken
  name_taken taken =
      ap (λ b. if b then Some NameTaken else if_full)
      (ap is_some (standing_at sessions name) ∙ some_mapped (get sessions name) ∙ taken)

  by_count : (few : Bool) → is_some (get sessions name) ≡ false → nat_lt (open_count (open_of sessions)) 32 ≡ few
      → start_refusal (open_of sessions) name ≡ (if few then None else Some TooManySessions)
  by_count few free counted =
      ap (λ b. if b then Some NameTaken else if_full)
      (ap is_some (standing_at sessions name) ∙ some_mapped (get sessions name) ∙ free)
      ∙ ap (λ b. if b then None else Some TooManySessions) counted

  pub too_many : is_some (get sessions name) ≡ false → 32 ≤ len sessions
      → start_refusal (open_of sessions) name ≡ Some TooManySessions
  too_many free full = by (nat_lt (open_count (open_of sessions)) 32) refl
    where
      by : (b : Bool) → nat_lt (open_count (open_of sessions)) 32 ≡ b
          → start_refusal (open_of sessions) name ≡ Some TooManySessions
      by true e =
          let below = ltb-true _ _ e in
          let many = count_is sessions in
          absurd (omega (arith, below, many, full))
      by false e = by_count false free e

  pub may_open : is_some (get sessions name) ≡ false → len sessions < 32
      → start_refusal (open_of sessions) name ≡ None
  may_open free room = by (nat_lt (open_count (open_of sessions)) 32) refl
    where
      by : (b : Bool) → nat_lt (open_count (open_of sessions)) 32 ≡ b
          → start_refusal (open_of sessions) name ≡ None
      by true e = by_count true free e
      by false e =
          let past = ltb-false _ _ e in
          let many = count_is sessions in
          absurd (omega (arith, past, many, room))
