-- What the lines of a script ask: words, each behind one space, and for a value the rest of the line.
use Rattle.std.specs.Prelude.{ℕ, ◌+◌, Bool, false, not, ◌&&◌, ◌||◌, ◌==◌, nat_le, List, [], ◌∷◌, ◌++◌, length, take}
use Rattle.std.specs.Prelude.{drop, position, decimal, Option, None, Some, if◌then◌else◌}
use Rattle.std.specs.Option.{option_map}
use Rattle.std.specs.Str.{str_to_ascii_uppercase}
use Rattle.vc_value.specs.Decimals.{are_digits, number_of}
use Rattle.vc_value.specs.Names.{is_name, is_session_name}
use Rattle.vc_wire_requests.specs.Verbs.{text_of, verb_of}
use Rattle.vc_wire_requests.specs.declared.cutting.Instance.{Instance}
use Rattle.vc_wire_requests.specs.declared.request.Request.{Request}
use Rattle.vc_wire_requests.specs.declared.request.Request.TheVariants as requests
use Rattle.vc_wire_requests.specs.declared.verbs.OfCharacteristic.{OfCharacteristic}
use Rattle.vc_wire_requests.specs.declared.verbs.OfCharacteristic.TheVariants as named
use Rattle.vc_wire_requests.specs.declared.verbs.OfSaved.{OfSaved}
use Rattle.vc_wire_requests.specs.declared.verbs.OfSaved.TheVariants as kept
use Rattle.vc_wire_requests.specs.declared.verbs.OfSession.{OfSession}
use Rattle.vc_wire_requests.specs.declared.verbs.OfSession.TheVariants as asked
use Rattle.vc_wire_requests.specs.declared.verbs.OfValue.{OfValue}
use Rattle.vc_wire_requests.specs.declared.verbs.OfValue.TheVariants as done
use Rattle.vc_wire_requests.specs.declared.verbs.Verb.{Verb}
use Rattle.vc_wire_requests.specs.declared.verbs.Verb.TheVariants as verbs

-- what a part leads on to, if it is there
infixl 10 ◌>>=◌
abbrev pub ◌>>=◌ : {A B : Type 0} → Option A → (A → Option B) → Option B
None >>= f = None
(Some x) >>= f = f x

-- the word before the first space, and what follows that space
abbrev pub cut_at_space : List ℕ → Option (List ℕ × List ℕ)
cut_at_space line = option_map (λ at. (take at line, drop (at + 1) line)) (position (λ byte. byte == 32) line)

-- the name of a session, or of what is saved, if the word is one; it keeps its case
abbrev pub session_of : List ℕ → Option (List ℕ)
session_of word = if is_session_name word then Some word else None

-- the number of an instance: `0`, or at most nine digits of which the first isn't `0`
abbrev pub is_index : List ℕ → Bool
is_index [] = false
is_index (first ∷ more) = (are_digits (first ∷ more) && nat_le (length more) 8)
    && (not (first == 48) || (length more == 0))

abbrev pub index_of : List ℕ → Option ℕ
index_of word = if is_index word then Some (number_of word) else None

-- a characteristic's name, kept in upper case
abbrev pub name_of : List ℕ → Option (List ℕ)
name_of word = if is_name word then Some (str_to_ascii_uppercase word) else None

-- a session and one of its instances, and what follows them
pub record Named : Type 0 where
  pub session : List ℕ
  pub number : ℕ
  pub rest : List ℕ

abbrev pub named_by : Instance → Named
named_by instance = record { session = instance.session.now; number = instance.number; rest = instance.rest.now }

abbrev pub instance_in : List ℕ → Option Named
instance_in more = do
  first ← cut_at_space more
  session ← session_of first.0
  second ← cut_at_space first.1
  number ← index_of second.0
  Some (record { session = session; number = number; rest = second.1 })

-- what is asked of a session, of a characteristic, of a value, and of a session and what is saved
abbrev pub of_session : OfSession → List ℕ → Request
of_session asked.Start session = requests.Start session
of_session asked.Close session = requests.Close session
of_session asked.Show session = requests.Show session
of_session asked.Conflict session = requests.Conflict session
of_session asked.Log session = requests.Log session
of_session asked.Bill session = requests.Bill session
of_session asked.Routing session = requests.Routing session

abbrev pub of_characteristic : OfCharacteristic → List ℕ → ℕ → List ℕ → Request
of_characteristic named.Retract session instance name = requests.Retract session instance name
of_characteristic named.Why session instance name = requests.Why session instance name

abbrev pub of_value : OfValue → List ℕ → ℕ → List ℕ → List ℕ → Request
of_value done.Set session instance name value = requests.Set session instance name value
of_value done.Add session instance name value = requests.Add session instance name value
of_value done.Drop session instance name value = requests.Drop session instance name value
of_value done.WhyNot session instance name value = requests.WhyNot session instance name value

abbrev pub of_saved : OfSaved → List ℕ → List ℕ → Request
of_saved kept.Save session name = requests.Save session name
of_saved kept.Load session name = requests.Load session name

-- what follows the verb: `s`, a session alone; `s i C`, a characteristic of an instance; `s i C value`, and the rest of
-- the line as a value, which may be empty; `s name`, a session and what is saved under a name; or `name`, that alone
abbrev pub session_request : OfSession → List ℕ → Option Request
session_request which more = do
  session ← session_of more
  Some (of_session which session)

abbrev pub characteristic_request : OfCharacteristic → List ℕ → Option Request
characteristic_request which more = do
  instance ← instance_in more
  name ← name_of instance.rest
  Some (of_characteristic which instance.session instance.number name)

abbrev pub value_request : OfValue → List ℕ → Option Request
value_request which more = do
  instance ← instance_in more
  last ← cut_at_space instance.rest
  name ← name_of last.0
  Some (of_value which instance.session instance.number name last.1)

abbrev pub saved_request : OfSaved → List ℕ → Option Request
saved_request which more = do
  words ← cut_at_space more
  session ← session_of words.0
  name ← session_of words.1
  Some (of_saved which session name)

abbrev pub forget_request : List ℕ → Option Request
forget_request more = do
  name ← session_of more
  Some (requests.Forget name)

abbrev pub request_by : Verb → List ℕ → Option Request
request_by (verbs.Session which) more = session_request which more
request_by (verbs.Characteristic which) more = characteristic_request which more
request_by (verbs.Value which) more = value_request which more
request_by (verbs.Saved which) more = saved_request which more
request_by verbs.Forget more = forget_request more

-- the request that a line spells, if it spells one
abbrev pub request_of : List ℕ → Option Request
request_of line = do
  parts ← cut_at_space line
  verb ← verb_of parts.0
  request_by verb parts.1

-- how a request is written: its words, each behind one space
abbrev pub spaced : List ℕ → List ℕ → List ℕ
spaced word more = word ++ 32 ∷ more

abbrev pub instance_text : List ℕ → ℕ → List ℕ → List ℕ
instance_text session number rest = spaced session (spaced (decimal number) rest)

abbrev pub value_text : List ℕ → ℕ → List ℕ → List ℕ → List ℕ
value_text session instance name value = instance_text session instance (spaced name value)

abbrev pub verb_in : Request → Verb
verb_in (requests.Start session) = verbs.Session asked.Start
verb_in (requests.Close session) = verbs.Session asked.Close
verb_in (requests.Set session instance name value) = verbs.Value done.Set
verb_in (requests.Retract session instance name) = verbs.Characteristic named.Retract
verb_in (requests.Add session instance name value) = verbs.Value done.Add
verb_in (requests.Drop session instance name value) = verbs.Value done.Drop
verb_in (requests.Show session) = verbs.Session asked.Show
verb_in (requests.Why session instance name) = verbs.Characteristic named.Why
verb_in (requests.WhyNot session instance name value) = verbs.Value done.WhyNot
verb_in (requests.Conflict session) = verbs.Session asked.Conflict
verb_in (requests.Log session) = verbs.Session asked.Log
verb_in (requests.Bill session) = verbs.Session asked.Bill
verb_in (requests.Routing session) = verbs.Session asked.Routing
verb_in (requests.Save session name) = verbs.Saved kept.Save
verb_in (requests.Load session name) = verbs.Saved kept.Load
verb_in (requests.Forget name) = verbs.Forget

abbrev pub fields_text : Request → List ℕ
fields_text (requests.Start session) = session
fields_text (requests.Close session) = session
fields_text (requests.Set session instance name value) = value_text session instance name value
fields_text (requests.Retract session instance name) = instance_text session instance name
fields_text (requests.Add session instance name value) = value_text session instance name value
fields_text (requests.Drop session instance name value) = value_text session instance name value
fields_text (requests.Show session) = session
fields_text (requests.Why session instance name) = instance_text session instance name
fields_text (requests.WhyNot session instance name value) = value_text session instance name value
fields_text (requests.Conflict session) = session
fields_text (requests.Log session) = session
fields_text (requests.Bill session) = session
fields_text (requests.Routing session) = session
fields_text (requests.Save session name) = spaced session name
fields_text (requests.Load session name) = spaced session name
fields_text (requests.Forget name) = name

abbrev pub line_text : Request → List ℕ
line_text request = spaced (text_of (verb_in request)) (fields_text request)
