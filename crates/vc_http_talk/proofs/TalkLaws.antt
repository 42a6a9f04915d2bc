-- Talk goes on by one message, whatever bytes follow, and ends in time.
use Rattle.std.proofs.Common.{◌≡◌, ℕ, zero, suc, ◌+◌, ◌<◌, Bool, true, false, List, [], ◌++◌, append_assoc}
use Rattle.std.proofs.Common.{append-nil, Option, None, Some, ap, arith, refl, sym, subst, ◌∙◌}
use Rattle.std.specs.Prelude.{⊤}
use Rattle.std.specs.Io.KnownBytes.{Appends}
use Rattle.std.proofs.KnownBytes.{Appends-nil, Appends-trans}
use Rattle.std.proofs.lemmas.Bool.{ltb-true}
use Rattle.vc_outside.specs.Faults.{Raised}
use Rattle.vc_plan.specs.declared.plans.Plan.{Plan}
use Rattle.vc_desk.specs.States.{State}
use Rattle.vc_http_messages.specs.Messages.{Message, MessageOf, cut, refused, whole}
use Rattle.vc_http_messages.proofs.MessageLaws.{message_more}
use Rattle.vc_http_talk.specs.Courses.{ComesTo, HoldsOfAll}
use Rattle.vc_http_talk.specs.Laws.{EndsInTime, GoesOnBelow}
use Rattle.vc_http_talk.specs.Talk.{AnswersMessage, AnswersNext, AreGiven, Talk, TalksTo, answer_limit}
use Rattle.vc_http_talk.specs.Talk.{broken_off, ended, excused, goes_on, no_memory}
use Rattle.vc_http_talk.specs.declared.course.Course.{Course}
use Rattle.vc_http_talk.specs.declared.course.Course.TheVariants as course

below : (number : ℕ) (keep : Bool) → goes_on number keep ≡ true → number < answer_limit
below number false goes = absurd (cc goes)
below number true goes = ltb-true number answer_limit goes

-- the connection goes on behind a message below the limit alone
pub next_below : (plan : Plan) (number : ℕ) (state : State) (bytes written : List ℕ) (next : State) (rest : List ℕ)
    → AnswersNext plan number state bytes written next rest true → number < answer_limit
next_below plan number state bytes written next rest (message, spells, answers) = by message answers
  where
    by : (message : Message) → AnswersMessage plan number state message written next rest true → number < answer_limit
    by (whole request keep behind) (reply, applies, text, left, goes) = below number keep (sym goes)
    by (refused status methods) (text, same, left, goes) = absurd (cc goes)
    by cut answers = absurd answers

pub on_below : GoesOnBelow
on_below plan state bytes zero written next rest talk = omega arith
on_below plan state bytes (suc count) written next rest (first, between, behind, more, talk, answers, is) =
    next_below plan (suc count) between behind more next rest answers

pub in_time : EndsInTime
in_time plan state bytes zero written next rest goes talk = omega arith
in_time plan state bytes (suc count) written next rest goes (first, between, behind, more, talk, answers, is) =
    omega (arith, on_below plan state bytes count first between behind talk)

-- a message behind which the connection goes on is answered so whatever bytes follow
pub next_more : (plan : Plan) (number : ℕ) (state : State) (bytes more written : List ℕ) (next : State) (rest : List ℕ)
    → AnswersNext plan number state bytes written next rest true
    → AnswersNext plan number state (bytes ++ more) written next (rest ++ more) true
next_more plan number state bytes more written next rest (message, spells, answers) = by message spells answers
  where
    by : (message : Message) → MessageOf bytes message
        → AnswersMessage plan number state message written next rest true
        → AnswersNext plan number state (bytes ++ more) written next (rest ++ more) true
    by (whole request keep behind) spells (reply, applies, text, left, goes) = (
      whole request keep (behind ++ more),
      message_more bytes more (whole request keep behind) spells tt,
      (reply, applies, text, ap (λ xs. xs ++ more) left, goes),
    )
    by (refused status methods) spells (text, same, left, goes) = absurd (cc goes)
    by cut spells answers = absurd answers

-- and so are all of them
pub talk_more : (plan : Plan) (state : State) (bytes more : List ℕ) (count : ℕ) (written : List ℕ) (next : State)
    (rest : List ℕ)
    → Talk plan state bytes count written next rest true
    → Talk plan state (bytes ++ more) count written next (rest ++ more) true
talk_more plan state bytes more zero written next rest (none, same, left, goes) =
    (none, same, ap (λ xs. xs ++ more) left, goes)
talk_more plan state bytes more (suc count) written next rest (first, between, behind, last, talk, answers, is) = (
  first,
  between,
  behind ++ more,
  last,
  talk_more plan state bytes more count first between behind talk,
  next_more plan (suc count) between behind more last next rest answers,
  is,
)

-- one message more
pub talk_on : (plan : Plan) (state : State) (bytes : List ℕ) (count : ℕ) (written : List ℕ) (between : State)
    (behind more : List ℕ) (next : State) (rest : List ℕ) (goes : Bool)
    → Talk plan state bytes count written between behind true
    → AnswersNext plan (count + 1) between behind more next rest goes
    → Talk plan state bytes (count + 1) (written ++ more) next rest goes
talk_on plan state bytes count written between behind more next rest goes talk answers =
    let same : suc count ≡ count + 1 = omega arith in
    subst (λ number. Talk plan state bytes number (written ++ more) next rest goes) same (
      written,
      between,
      behind,
      more,
      talk,
      subst (λ number. AnswersNext plan number between behind more next rest goes) (sym same) answers,
      refl,
    )

-- the bytes that a link tells are left
abbrev pub told : Option (List ℕ) → List ℕ
told None = []
told (Some bytes) = bytes

-- the bytes that are given at the start: a link that tells them goes on to tell what is left
abbrev pub AreStill : Option (List ℕ) → Option (List ℕ) → List ℕ → Type 0
AreStill None left bytes = ⊤
AreStill (Some all) None bytes = ⊥
AreStill (Some all) (Some left) bytes = bytes ≡ all

-- so many messages are answered, and all bytes that are kept and left are left of them
pub record SoFar (plan : Plan) (start : Option (List ℕ)) (kept : List ℕ) (left : Option (List ℕ)) (count : ℕ)
    (before state : State) (old new : Option (List ℕ)) : Type 0 where
  pub bytes : List ℕ
  pub given : AreStill start left bytes
  pub written : List ℕ
  pub talk : Talk plan before bytes count written state (kept ++ told left) true
  pub appends : Appends old new written

pub begins : (plan : Plan) (start : Option (List ℕ)) (kept : List ℕ) (before : State) (old : Option (List ℕ))
    → kept ≡ [] → SoFar plan start kept start 0 before before old old
begins plan start kept before old none =
    subst (λ xs. SoFar plan start xs start 0 before before old old) (sym none) (by start)
  where
    by : (start : Option (List ℕ)) → SoFar plan start [] start 0 before before old old
    by None = record {
      bytes = [];
      given = tt;
      written = [];
      talk = (refl, refl, refl, refl);
      appends = Appends-nil old;
    }
    by (Some all) = record {
      bytes = all;
      given = refl;
      written = [];
      talk = (refl, refl, refl, refl);
      appends = Appends-nil old;
    }

still_given : (start left : Option (List ℕ)) (bytes : List ℕ) → AreStill start left bytes → AreGiven start bytes
still_given None left bytes given = tt
still_given (Some all) None bytes given = absurd given
still_given (Some all) (Some left) bytes given = given

-- what holds of the next message holds of what is left of the bytes that are given
abbrev Reaches : Plan → Option (List ℕ) → ℕ → State → State → Option (List ℕ) → Option (List ℕ)
    → (List ℕ → List ℕ → Type 0) → Type 0
Reaches plan start count before state old new Holds = (bytes : List ℕ) × (written : List ℕ) × (here : List ℕ)
    × (behind : List ℕ) × AreGiven start bytes × Talk plan before bytes count written state here true
    × Appends old new written × Holds here behind

reaches : (plan : Plan) (start : Option (List ℕ)) (kept : List ℕ) (left : Option (List ℕ)) (rest : List ℕ)
    (later : Option (List ℕ)) (count : ℕ) (before state : State) (old new : Option (List ℕ))
    (Holds : List ℕ → List ℕ → Type 0)
    → SoFar plan start kept left count before state old new → HoldsOfAll kept left rest later Holds
    → Reaches plan start count before state old new Holds
reaches plan (Some all) kept None rest later count before state old new Holds s (got, holds) = absurd s.given
reaches plan None kept None rest later count before state old new Holds s (got, holds) = (
  s.bytes ++ got,
  s.written,
  kept ++ got,
  rest,
  tt,
  subst (λ xs. Talk plan before (s.bytes ++ got) count s.written state (xs ++ got) true) (append-nil kept)
      (talk_more plan before s.bytes got count s.written state (kept ++ []) s.talk),
  s.appends,
  holds,
)
reaches plan start kept (Some more) rest None count before state old new Holds s holds = absurd holds
reaches plan start kept (Some more) rest (Some less) count before state old new Holds s holds = (
  s.bytes,
  s.written,
  kept ++ more,
  rest ++ less,
  still_given start (Some more) s.bytes s.given,
  s.talk,
  s.appends,
  holds,
)

-- one message more is answered, and the connection goes on behind it
pub goes_further : (plan : Plan) (start : Option (List ℕ)) (kept : List ℕ) (left : Option (List ℕ)) (rest : List ℕ)
    (later : Option (List ℕ)) (count : ℕ) (before state next : State) (old new newer : Option (List ℕ))
    (faults now : ℕ)
    → SoFar plan start kept left count before state old new
    → HoldsOfAll kept left rest later (λ bytes behind.
    ComesTo plan (count + 1) state bytes next behind new newer faults now course.GoesOn)
    → SoFar plan start rest later (count + 1) before next old newer
goes_further plan (Some all) kept None rest later count before state next old new newer faults now s (got, comes) =
    absurd s.given
goes_further plan None kept None rest later count before state next old new newer faults now s
    (got, (more, answers, appends, calm)) =
    let far = got ++ told later in
    let same : (kept ++ []) ++ far ≡ (kept ++ got) ++ told later =
    ap (λ xs. xs ++ far) (append-nil kept) ∙ sym (append_assoc kept got (told later)) in
    record {
      bytes = s.bytes ++ far;
      given = tt;
      written = s.written ++ more;
      talk = talk_on plan before (s.bytes ++ far) count s.written state ((kept ++ got) ++ told later) more next
          (rest ++ told later) true
          (subst (λ xs. Talk plan before (s.bytes ++ far) count s.written state xs true) same
          (talk_more plan before s.bytes far count s.written state (kept ++ []) s.talk))
          (next_more plan (count + 1) state (kept ++ got) (told later) more next rest answers);
      appends = Appends-trans old new newer s.written more s.appends appends;
    }
goes_further plan start kept (Some more) rest None count before state next old new newer faults now s comes =
    absurd comes
goes_further plan start kept (Some more) rest (Some less) count before state next old new newer faults now s
    (last, answers, appends, calm) = record {
      bytes = s.bytes;
      given = still start s.given;
      written = s.written ++ last;
      talk = talk_on plan before s.bytes count s.written state (kept ++ more) last next
          (rest ++ less) true s.talk answers;
      appends = Appends-trans old new newer s.written last s.appends appends;
    }
  where
    still : (start : Option (List ℕ)) → AreStill start (Some more) s.bytes → AreStill start (Some less) s.bytes
    still None given = tt
    still (Some all) given = given

pub goes_calmly : (plan : Plan) (number : ℕ) (state next : State) (kept : List ℕ) (left : Option (List ℕ))
    (rest : List ℕ) (later old new : Option (List ℕ)) (faults now : ℕ)
    → HoldsOfAll kept left rest later (λ bytes behind.
    ComesTo plan number state bytes next behind old new faults now course.GoesOn)
    → now ≡ faults
goes_calmly plan number state next kept None rest later old new faults now (got, (written, answers, appends, calm)) =
    calm
goes_calmly plan number state next kept (Some more) rest None old new faults now comes = absurd comes
goes_calmly plan number state next kept (Some more) rest (Some less) old new faults now
    (written, answers, appends, calm) = calm

-- the connection ends behind a message, at the end of the bytes, for want of memory, or by a fault of the link
pub ends_so : (plan : Plan) (start : Option (List ℕ)) (kept : List ℕ) (left : Option (List ℕ)) (rest : List ℕ)
    (later : Option (List ℕ)) (count : ℕ) (before state next : State) (old new newer : Option (List ℕ))
    (first faults now : ℕ) (came : Course)
    → SoFar plan start kept left count before state old new → faults ≡ first → (came ≡ course.GoesOn → ⊥)
    → HoldsOfAll kept left rest later (λ bytes behind.
    ComesTo plan (count + 1) state bytes next behind new newer faults now came)
    → TalksTo plan before next start old newer first now
ends_so plan start kept left rest later count before state next old new newer first faults now came s calm not comes =
    by came not (reaches plan start kept left rest later count before state old new
    (λ bytes behind. ComesTo plan (count + 1) state bytes next behind new newer faults now came) s comes)
  where
    by : (came : Course) → (came ≡ course.GoesOn → ⊥)
        → Reaches plan start count before state old new
        (λ bytes behind. ComesTo plan (count + 1) state bytes next behind new newer faults now came)
        → TalksTo plan before next start old newer first now
    by course.GoesOn not reached = absurd (not refl)
    by course.Closes not (bytes, written, here, behind, given, talk, appends, (more, far, answers, adds, still)) =
        ended bytes given (record {
          count = count + 1;
          written = written ++ more;
          rest = far;
          goes = false;
          talk = talk_on plan before bytes count written state here more next far false talk answers;
          over = tt;
          appends = Appends-trans old new newer written more appends adds;
        }) (still ∙ calm)
    by course.Ends not (bytes, written, here, behind, given, talk, appends, (spells, same, wrote, still)) =
        ended bytes given (record {
          count = count;
          written = written;
          rest = here;
          goes = true;
          talk = subst (λ s. Talk plan before bytes count written s here true) (sym same) talk;
          over = spells;
          appends = subst (λ xs. Appends old xs written) (sym wrote) appends;
        }) (still ∙ calm)
    by course.OutOfMemory not (bytes, written, here, behind, given, talk, appends, (stands, adds, still)) =
        excused bytes given (record {
          count = count;
          written = written;
          last = state;
          rest = here;
          talk = talk;
          stands = stands;
          appends = Appends-trans old new newer written no_memory appends adds;
        }) (still ∙ calm)
    by course.Failed not (bytes, written, here, behind, given, talk, appends, (front, breaks, adds, raised)) =
        broken_off bytes given (record {
          count = count;
          written = written;
          last = state;
          rest = here;
          front = front;
          talk = talk;
          breaks = breaks;
          appends = Appends-trans old new newer written front appends adds;
        }) (subst (λ n. Raised n now) calm raised)
