-- The words by which requests begin.
use Rattle.std.specs.Prelude.{ℕ, Bool, List, [], ◌∷◌, codes, Option, None, Some, if◌then◌else◌}
use Rattle.std.specs.List.{find}
use Rattle.vc_value.specs.Words.{same_ignoring_case}
use Rattle.vc_wire_requests.specs.declared.verbs.OfCharacteristic.{OfCharacteristic}
use Rattle.vc_wire_requests.specs.declared.verbs.OfCharacteristic.TheVariants as named
use Rattle.vc_wire_requests.specs.declared.verbs.OfSaved.{OfSaved}
use Rattle.vc_wire_requests.specs.declared.verbs.OfSaved.TheVariants as kept
use Rattle.vc_wire_requests.specs.declared.verbs.OfSession.{OfSession}
use Rattle.vc_wire_requests.specs.declared.verbs.OfSession.TheVariants as asked
use Rattle.vc_wire_requests.specs.declared.verbs.OfValue.{OfValue}
use Rattle.vc_wire_requests.specs.declared.verbs.OfValue.TheVariants as done
use Rattle.vc_wire_requests.specs.declared.verbs.Verb.{Verb}
use Rattle.vc_wire_requests.specs.declared.verbs.Verb.TheVariants as verbs

-- the words, in lower case
abbrev pub session_text : OfSession → List ℕ
session_text asked.Start = codes "open"
session_text asked.Close = codes "close"
session_text asked.Show = codes "show"
session_text asked.Conflict = codes "conflict"
session_text asked.Log = codes "log"
session_text asked.Bill = codes "bill"
session_text asked.Routing = codes "routing"

abbrev pub characteristic_text : OfCharacteristic → List ℕ
characteristic_text named.Retract = codes "retract"
characteristic_text named.Why = codes "why"

abbrev pub value_text : OfValue → List ℕ
value_text done.Set = codes "set"
value_text done.Add = codes "add"
value_text done.Drop = codes "drop"
value_text done.WhyNot = codes "whynot"

abbrev pub saved_text : OfSaved → List ℕ
saved_text kept.Save = codes "save"
saved_text kept.Load = codes "load"

abbrev pub text_of : Verb → List ℕ
text_of (verbs.Session which) = session_text which
text_of (verbs.Characteristic which) = characteristic_text which
text_of (verbs.Value which) = value_text which
text_of (verbs.Saved which) = saved_text which
text_of verbs.Forget = codes "forget"

-- a word is one of them in either case
abbrev pub is_verb : List ℕ → Verb → Bool
is_verb word verb = same_ignoring_case word (text_of verb)

abbrev pub session_verb : List ℕ → Option OfSession
session_verb word =
    find (λ which. is_verb word (verbs.Session which))
    (asked.Start ∷ asked.Close ∷ asked.Show ∷ asked.Conflict ∷ asked.Log ∷ asked.Bill ∷ asked.Routing ∷ [])

abbrev pub characteristic_verb : List ℕ → Option OfCharacteristic
characteristic_verb word = find (λ which. is_verb word (verbs.Characteristic which)) (named.Retract ∷ named.Why ∷ [])

abbrev pub value_verb : List ℕ → Option OfValue
value_verb word =
    find (λ which. is_verb word (verbs.Value which)) (done.Set ∷ done.Add ∷ done.Drop ∷ done.WhyNot ∷ [])

abbrev pub saved_verb : List ℕ → Option OfSaved
saved_verb word = find (λ which. is_verb word (verbs.Saved which)) (kept.Save ∷ kept.Load ∷ [])

-- the verb that a word is; no two are alike
abbrev pub forget_verb : List ℕ → Option Verb
forget_verb word = if is_verb word verbs.Forget then Some verbs.Forget else None

abbrev pub saved_verb_or : List ℕ → Option OfSaved → Option Verb
saved_verb_or word None = forget_verb word
saved_verb_or word (Some which) = Some (verbs.Saved which)

abbrev pub keeping_verb : List ℕ → Option Verb
keeping_verb word = saved_verb_or word (saved_verb word)

abbrev pub value_verb_or : List ℕ → Option OfValue → Option Verb
value_verb_or word None = keeping_verb word
value_verb_or word (Some which) = Some (verbs.Value which)

abbrev pub characteristic_verb_or : List ℕ → Option OfCharacteristic → Option Verb
characteristic_verb_or word None = value_verb_or word (value_verb word)
characteristic_verb_or word (Some which) = Some (verbs.Characteristic which)

abbrev pub session_verb_or : List ℕ → Option OfSession → Option Verb
session_verb_or word None = characteristic_verb_or word (characteristic_verb word)
session_verb_or word (Some which) = Some (verbs.Session which)

abbrev pub verb_of : List ℕ → Option Verb
verb_of word = session_verb_or word (session_verb word)
