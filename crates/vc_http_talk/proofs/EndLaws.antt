-- The bytes of a connection decide where it ends.
use Rattle.std.proofs.Common.{◌≡◌, ℕ, zero, suc, ◌<◌, ◌≤◌, Bool, true, false, List, arith, refl, sym, subst, ◌∙◌}
use Rattle.std.specs.Prelude.{nat_lt}
use Rattle.std.proofs.lemmas.Bool.{ltb-false, ltb-true}
use Rattle.vc_plan.specs.declared.plans.Plan.{Plan}
use Rattle.vc_desk.specs.States.{State}
use Rattle.vc_http_messages.specs.Messages.{Message, MessageOf, cut, refused, whole}
use Rattle.vc_http_messages.proofs.MessageLaws.{message_one}
use Rattle.vc_http_talk.specs.Laws.{BytesDecide, OneEnd}
use Rattle.vc_http_talk.specs.Talk.{AnswersMessage, AnswersNext, IsOver, Talk}

-- what is left behind a message, and whether the connection goes on, are the message's
one_message : (plan other : Plan) (number : ℕ) (state begun : State) (message : Message) (written said : List ℕ)
    (next last : State) (rest left : List ℕ) (goes keeps : Bool)
    → AnswersMessage plan number state message written next rest goes
    → AnswersMessage other number begun message said last left keeps
    → (rest ≡ left) × (goes ≡ keeps)
one_message plan other number state begun (whole request keep behind) written said next last rest left goes keeps
    (reply, applies, text, is, on) (answer, then, words, same, still) = (is ∙ sym same, on ∙ sym still)
one_message plan other number state begun (refused status methods) written said next last rest left goes keeps
    (text, stays, is, on) (words, stands, same, still) = (is ∙ sym same, on ∙ sym still)
one_message plan other number state begun cut written said next last rest left goes keeps one two = absurd one

pub decided : BytesDecide
decided plan other state begun bytes zero written said next last rest left goes keeps
    (none, same, all, on) (nothing, stays, each, still) = (all ∙ sym each, on ∙ sym still)
decided plan other state begun bytes (suc count) written said next last rest left goes keeps
    (first, between, behind, more, talk, (message, spells, answers), is)
    (front, middle, beyond, later, talks, (found, spelled, says), has) =
    let same : behind ≡ beyond =
    (decided plan other state begun bytes count first front between middle behind beyond true true talk talks).0 in
    let one : found ≡ message = message_one beyond found message spelled
    (subst (λ xs. MessageOf xs message) same spells) in
    one_message plan other (suc count) between middle message more later next last rest left goes keeps answers
    (subst (λ m. AnswersMessage other (suc count) middle m later last left keeps) one says)

-- a message is answered at each number before the last, where the connection went on
abbrev GoesOnAt : Plan → State → List ℕ → ℕ → Type 0
GoesOnAt plan state bytes count = (written : List ℕ) × (between : State) × (behind more : List ℕ) × (next : State)
    × (rest : List ℕ) × (goes : Bool) × Talk plan state bytes count written between behind true
    × AnswersNext plan (suc count) between behind more next rest goes

went_on : (plan : Plan) (state : State) (bytes : List ℕ) (one two : ℕ) (written : List ℕ) (next : State)
    (rest : List ℕ) (goes : Bool)
    → one < two → Talk plan state bytes two written next rest goes → GoesOnAt plan state bytes one
went_on plan state bytes one zero written next rest goes less talk = absurd (omega (arith, less))
went_on plan state bytes one (suc two) written next rest goes less
    (first, between, behind, more, talk, answers, is) =
    by (nat_lt one two) refl (λ fewer. went_on plan state bytes one two first between behind true fewer talk)
  where
    by : (v : Bool) → nat_lt one two ≡ v → (one < two → GoesOnAt plan state bytes one) → GoesOnAt plan state bytes one
    by true e went = went (ltb-true one two e)
    by false e went =
        let same : two ≡ one = omega (arith, less, ltb-false one two e) in
        subst (GoesOnAt plan state bytes) same (first, between, behind, more, next, rest, goes, talk, answers)

-- nothing is answered where the connection is over
pub over_then : (plan : Plan) (number : ℕ) (state : State) (bytes written : List ℕ) (next : State) (rest : List ℕ)
    (goes : Bool)
    → IsOver true bytes → AnswersNext plan number state bytes written next rest goes → ⊥
over_then plan number state bytes written next rest goes over (message, spells, answers) =
    subst (λ m. AnswersMessage plan number state m written next rest goes) (message_one bytes message cut spells over)
    answers

-- so no other connection of the same bytes goes further
no_further : (plan other : Plan) (state begun : State) (bytes : List ℕ) (one two : ℕ) (written said : List ℕ)
    (next last : State) (rest left : List ℕ) (goes keeps : Bool)
    → Talk plan state bytes one written next rest goes → IsOver goes rest
    → Talk other begun bytes two said last left keeps → one < two → ⊥
no_further plan other state begun bytes one two written said next last rest left goes keeps talk over talks less =
    let on = went_on other begun bytes one two said last left keeps less talks in
    by on
  where
    by : GoesOnAt other begun bytes one → ⊥
    by (front, middle, beyond, more, then, remains, stays, passes, answers) =
        let same =
        decided plan other state begun bytes one written front next middle rest beyond goes true talk passes in
        over_then other (suc one) middle beyond more then remains stays
        (subst (λ xs. IsOver true xs) same.0 (subst (λ g. IsOver g rest) same.1 over)) answers

pub ends_once : OneEnd
ends_once plan other state begun bytes one two written said next last rest left goes keeps talk over talks ends =
    by (nat_lt one two) refl
  where
    from : (v : Bool) → nat_lt two one ≡ v → two ≤ one → one ≤ two
    from false e more = ltb-false two one e
    from true e more = absurd (no_further other plan begun state bytes two one said written last next left rest keeps
        goes talks ends talk (ltb-true two one e))

    by : (v : Bool) → nat_lt one two ≡ v → one ≡ two
    by true e = absurd (no_further plan other state begun bytes one two written said next last rest left goes keeps talk
        over talks (ltb-true one two e))
    by false e =
        let more : two ≤ one = ltb-false one two e in
        let less : one ≤ two = from (nat_lt two one) refl more in
        omega (arith, more, less)
