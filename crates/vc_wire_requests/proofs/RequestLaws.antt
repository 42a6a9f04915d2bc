-- What is written of a request is read as that request.
use Rattle.std.proofs.Common.{◌≡◌, ℕ, Bool, true, false, List, refl, ap, ◌∙◌, subst}
use Rattle.std.specs.Prelude.{Option, None, Some, if◌then◌else◌}
use Rattle.std.specs.Str.{str_to_ascii_uppercase}
use Rattle.vc_value.specs.Decimals.{number_of}
use Rattle.vc_value.specs.Names.{is_name, is_session_name}
use Rattle.vc_wire_requests.specs.Laws.{WrittenIsRead}
use Rattle.vc_wire_requests.specs.Requests.{◌>>=◌, Named, cut_at_space, index_of, instance_in, instance_text, is_index}
use Rattle.vc_wire_requests.specs.Requests.{characteristic_request, line_text, name_of, of_characteristic, of_saved}
use Rattle.vc_wire_requests.specs.Requests.{of_session, of_value, request_by, request_of, saved_request, session_of}
use Rattle.vc_wire_requests.specs.Requests.{spaced, value_request}
use Rattle.vc_wire_requests.specs.Verbs.{characteristic_text, saved_text, session_text, text_of, value_text, verb_of}
use Rattle.vc_wire_requests.specs.declared.request.Request.{Request}
use Rattle.vc_wire_requests.specs.declared.request.Request.TheVariants as requests
use Rattle.vc_wire_requests.specs.declared.verbs.OfCharacteristic.{OfCharacteristic}
use Rattle.vc_wire_requests.specs.declared.verbs.OfCharacteristic.TheVariants as named
use Rattle.vc_wire_requests.specs.declared.verbs.OfSaved.{OfSaved}
use Rattle.vc_wire_requests.specs.declared.verbs.OfSaved.TheVariants as kept
use Rattle.vc_wire_requests.specs.declared.verbs.OfSession.{OfSession}
use Rattle.vc_wire_requests.specs.declared.verbs.OfSession.TheVariants as asked
use Rattle.vc_wire_requests.specs.declared.verbs.OfValue.{OfValue}
use Rattle.vc_wire_requests.specs.declared.verbs.OfValue.TheVariants as done
use Rattle.vc_wire_requests.specs.declared.verbs.Verb.{Verb}
use Rattle.vc_wire_requests.specs.declared.verbs.Verb.TheVariants as verbs
use Rattle.vc_wire_requests.proofs.WordLaws.{index_is, index_unspaced, is_unspaced, name_unspaced, session_unspaced}
use Rattle.vc_wire_requests.proofs.WordLaws.{spaced_is_cut, upper_is_name, upper_stays}

-- what leads on was there
record Led {A B : Type 0} (o : Option A) (f : A → Option B) (b : B) : Type 0 where
  a : A
  there : o ≡ Some a
  on : f a ≡ Some b

led : {A B : Type 0} (o : Option A) (f : A → Option B) (b : B) → (o >>= f) ≡ Some b → Led o f b
led None f b e = absurd (cc e)
led (Some a) f b e = record { a = a; there = refl; on = e }

-- a word that passed its test
record Passed (test : Bool) {A : Type 0} (x y : A) : Type 0 where
  yes : test ≡ true
  same : x ≡ y

passed : {A : Type 0} (test : Bool) (x y : A) → (if test then Some x else None) ≡ Some y → Passed test x y
passed true x y e = record { yes = refl; same = cc }
passed false x y e = absurd (cc e)

-- a line that begins with a word and its space
led_by : (word more : List ℕ) (verb : Verb) → is_unspaced word ≡ true → verb_of word ≡ Some verb
    → request_of (spaced word more) ≡ request_by verb more
led_by word more verb h e =
    ap (λ parts. parts >>= (λ cut. verb_of cut.0 >>= (λ found. request_by found cut.1))) (spaced_is_cut word more h)
    ∙ ap (λ found. found >>= (λ which. request_by which more)) e

session_line : (which : OfSession) (session : List ℕ) → is_session_name session ≡ true
    → request_of (line_text (of_session which session)) ≡ Some (of_session which session)
session_line which session h = by which
  where
    on : (of : OfSession) → (session_of session >>= (λ s. Some (of_session of s))) ≡ Some (of_session of session)
    on of = ap (λ b. (if b then Some session else None) >>= (λ s. Some (of_session of s))) h

    by : (of : OfSession) → request_of (line_text (of_session of session)) ≡ Some (of_session of session)
    by asked.Start = led_by (session_text asked.Start) session (verbs.Session asked.Start) refl refl ∙ on asked.Start
    by asked.Close = led_by (session_text asked.Close) session (verbs.Session asked.Close) refl refl ∙ on asked.Close
    by asked.Show = led_by (session_text asked.Show) session (verbs.Session asked.Show) refl refl ∙ on asked.Show
    by asked.Conflict = led_by (session_text asked.Conflict) session (verbs.Session asked.Conflict) refl refl
        ∙ on asked.Conflict
    by asked.Log = led_by (session_text asked.Log) session (verbs.Session asked.Log) refl refl ∙ on asked.Log
    by asked.Bill = led_by (session_text asked.Bill) session (verbs.Session asked.Bill) refl refl ∙ on asked.Bill
    by asked.Routing = led_by (session_text asked.Routing) session (verbs.Session asked.Routing) refl refl
        ∙ on asked.Routing

-- a session and an instance, read again
instance_read : (session index rest : List ℕ) → is_session_name session ≡ true → is_index index ≡ true
    → instance_in (instance_text session (number_of index) rest)
    ≡ Some (record { session = session; number = number_of index; rest = rest })
instance_read session index rest s i =
    ap (λ digits. instance_in (spaced session (spaced digits rest))) (index_is index i)
    ∙ ap (λ cut. cut >>= (λ first. session_of first.0 >>= (λ name. cut_at_space first.1 >>= (λ second. index_of second.0
    >>= (λ number. Some (let named : Named = record { session = name; number = number; rest = second.1 } in named))))))
    (spaced_is_cut session (spaced index rest) (session_unspaced session s))
    ∙ ap (λ b. (if b then Some session else None) >>=
    (λ name. cut_at_space (spaced index rest) >>= (λ second. index_of second.0
    >>= (λ number. Some (let named : Named = record { session = name; number = number; rest = second.1 } in named))))) s
    ∙ ap (λ cut. cut >>= (λ second. index_of second.0
    >>= (λ number. Some (let named : Named = record { session = session; number = number; rest = second.1 } in named))))
    (spaced_is_cut index rest (index_unspaced index i))
    ∙ ap (λ b. (if b then Some (number_of index) else None)
    >>= (λ number. Some (let named : Named = record { session = session; number = number; rest = rest } in named))) i

-- a name in upper case, read again
name_read : (name : List ℕ) → is_name name ≡ true
    → name_of (str_to_ascii_uppercase name) ≡ Some (str_to_ascii_uppercase name)
name_read name h =
    ap (λ b. if b then Some (str_to_ascii_uppercase (str_to_ascii_uppercase name)) else None) (upper_is_name name h)
    ∙ ap Some (upper_stays name)

characteristic_on : (which : OfCharacteristic) (session index name : List ℕ) → is_session_name session ≡ true
    → is_index index ≡ true → is_name name ≡ true
    → characteristic_request which (instance_text session (number_of index) (str_to_ascii_uppercase name))
    ≡ Some (of_characteristic which session (number_of index) (str_to_ascii_uppercase name))
characteristic_on which session index name s i n =
    let upper = str_to_ascii_uppercase name in
    ap (λ found. found >>= (λ instance. name_of instance.rest
    >>= (λ word. Some (of_characteristic which instance.session instance.number word))))
    (instance_read session index upper s i)
    ∙ ap (λ found. found >>= (λ word. Some (of_characteristic which session (number_of index) word))) (name_read name n)

characteristic_again : (which : OfCharacteristic) (session index name : List ℕ) → is_session_name session ≡ true
    → is_index index ≡ true → is_name name ≡ true
    → let request = of_characteristic which session (number_of index) (str_to_ascii_uppercase name) in
    request_of (line_text request) ≡ Some request
characteristic_again which session index name s i n = by which
  where
    more : List ℕ
    more = instance_text session (number_of index) (str_to_ascii_uppercase name)

    by : (of : OfCharacteristic)
        → let request = of_characteristic of session (number_of index) (str_to_ascii_uppercase name) in
        request_of (line_text request) ≡ Some request
    by named.Retract = led_by (characteristic_text named.Retract) more (verbs.Characteristic named.Retract) refl refl
        ∙ characteristic_on named.Retract session index name s i n
    by named.Why = led_by (characteristic_text named.Why) more (verbs.Characteristic named.Why) refl refl
        ∙ characteristic_on named.Why session index name s i n

value_on : (which : OfValue) (session index name value : List ℕ) → is_session_name session ≡ true
    → is_index index ≡ true → is_name name ≡ true
    → value_request which (instance_text session (number_of index) (spaced (str_to_ascii_uppercase name) value))
    ≡ Some (of_value which session (number_of index) (str_to_ascii_uppercase name) value)
value_on which session index name value s i n =
    let upper = str_to_ascii_uppercase name in
    ap (λ found. found >>= (λ instance. cut_at_space instance.rest >>= (λ last. name_of last.0
    >>= (λ word. Some (of_value which instance.session instance.number word last.1)))))
    (instance_read session index (spaced upper value) s i)
    ∙ ap (λ cut. cut >>=
    (λ last. name_of last.0 >>= (λ word. Some (of_value which session (number_of index) word last.1))))
    (spaced_is_cut upper value (name_unspaced upper (upper_is_name name n)))
    ∙ ap (λ found. found >>= (λ word. Some (of_value which session (number_of index) word value))) (name_read name n)

value_again : (which : OfValue) (session index name value : List ℕ) → is_session_name session ≡ true
    → is_index index ≡ true → is_name name ≡ true
    → let request = of_value which session (number_of index) (str_to_ascii_uppercase name) value in
    request_of (line_text request) ≡ Some request
value_again which session index name value s i n = by which
  where
    more : List ℕ
    more = instance_text session (number_of index) (spaced (str_to_ascii_uppercase name) value)

    by : (of : OfValue) → let request = of_value of session (number_of index) (str_to_ascii_uppercase name) value in
        request_of (line_text request) ≡ Some request
    by done.Set = led_by (value_text done.Set) more (verbs.Value done.Set) refl refl
        ∙ value_on done.Set session index name value s i n
    by done.Add = led_by (value_text done.Add) more (verbs.Value done.Add) refl refl
        ∙ value_on done.Add session index name value s i n
    by done.Drop = led_by (value_text done.Drop) more (verbs.Value done.Drop) refl refl
        ∙ value_on done.Drop session index name value s i n
    by done.WhyNot = led_by (value_text done.WhyNot) more (verbs.Value done.WhyNot) refl refl
        ∙ value_on done.WhyNot session index name value s i n

-- a session and what is saved under a name, read again
saved_on : (which : OfSaved) (session name : List ℕ) → is_session_name session ≡ true → is_session_name name ≡ true
    → saved_request which (spaced session name) ≡ Some (of_saved which session name)
saved_on which session name s n =
    ap (λ cut. cut >>= (λ words. session_of words.0 >>= (λ first. session_of words.1
    >>= (λ second. Some (of_saved which first second))))) (spaced_is_cut session name (session_unspaced session s))
    ∙ ap (λ b. (if b then Some session else None) >>= (λ first. session_of name
    >>= (λ second. Some (of_saved which first second)))) s
    ∙ ap (λ b. (if b then Some name else None) >>= (λ second. Some (of_saved which session second))) n

saved_again : (which : OfSaved) (session name : List ℕ) → is_session_name session ≡ true → is_session_name name ≡ true
    → let request = of_saved which session name in request_of (line_text request) ≡ Some request
saved_again which session name s n = by which
  where
    by : (of : OfSaved) → let request = of_saved of session name in request_of (line_text request) ≡ Some request
    by kept.Save = led_by (saved_text kept.Save) (spaced session name) (verbs.Saved kept.Save) refl refl
        ∙ saved_on kept.Save session name s n
    by kept.Load = led_by (saved_text kept.Load) (spaced session name) (verbs.Saved kept.Load) refl refl
        ∙ saved_on kept.Load session name s n

forget_again : (name : List ℕ) → is_session_name name ≡ true
    → let request = requests.Forget name in request_of (line_text request) ≡ Some request
forget_again name h =
    led_by (text_of verbs.Forget) name verbs.Forget refl refl
    ∙ ap (λ b. (if b then Some name else None) >>= (λ word. Some (requests.Forget word))) h

-- the words of an instance that is read
record IsRead (instance : Named) : Type 0 where
  index : List ℕ
  session_is : is_session_name instance.session ≡ true
  index_is_one : is_index index ≡ true
  number : number_of index ≡ instance.number

was_read : (more : List ℕ) (instance : Named) → instance_in more ≡ Some instance → IsRead instance
was_read more instance e =
    let first = led (cut_at_space more) _ instance e in
    let session = led (session_of first.a.0) _ instance first.on in
    let name = passed (is_session_name first.a.0) first.a.0 session.a session.there in
    let second = led (cut_at_space first.a.1) _ instance session.on in
    let number = led (index_of second.a.0) _ instance second.on in
    let index = passed (is_index second.a.0) (number_of second.a.0) number.a number.there in
    let whole : record { session = session.a; number = number.a; rest = second.a.1 } ≡ instance = cc number.on in
    record {
      index = second.a.0;
      session_is = subst (λ n. is_session_name n ≡ true) (name.same ∙ ap (λ i. i.session) whole) name.yes;
      index_is_one = index.yes;
      number = index.same ∙ ap (λ i. i.number) whole;
    }

by_verb : (verb : Verb) (more : List ℕ) (request : Request) → request_by verb more ≡ Some request
    → request_of (line_text request) ≡ Some request
by_verb (verbs.Session which) more request e =
    let session = led (session_of more) (λ s. Some (of_session which s)) request e in
    let name = passed (is_session_name more) more session.a session.there in
    let is : of_session which session.a ≡ request = cc session.on in
    subst (λ r. request_of (line_text r) ≡ Some r) is
    (session_line which session.a (subst (λ n. is_session_name n ≡ true) name.same name.yes))
by_verb (verbs.Value which) more request e =
    let instance = led (instance_in more) _ request e in
    let words = was_read more instance.a instance.there in
    let last = led (cut_at_space instance.a.rest) _ request instance.on in
    let word = led (name_of last.a.0) _ request last.on in
    let name = passed (is_name last.a.0) (str_to_ascii_uppercase last.a.0) word.a word.there in
    let is : of_value which instance.a.session (number_of words.index) (str_to_ascii_uppercase last.a.0) last.a.1
    ≡ request =
    ap (λ n. of_value which instance.a.session n (str_to_ascii_uppercase last.a.0) last.a.1) words.number
    ∙ ap (λ n. of_value which instance.a.session instance.a.number n last.a.1) name.same ∙ cc word.on in
    subst (λ r. request_of (line_text r) ≡ Some r) is
    (value_again which instance.a.session words.index last.a.0 last.a.1 words.session_is words.index_is_one name.yes)
by_verb (verbs.Characteristic which) more request e =
    let instance = led (instance_in more) _ request e in
    let words = was_read more instance.a instance.there in
    let word = led (name_of instance.a.rest) _ request instance.on in
    let name = passed (is_name instance.a.rest) (str_to_ascii_uppercase instance.a.rest) word.a word.there in
    let is : of_characteristic which instance.a.session (number_of words.index)
    (str_to_ascii_uppercase instance.a.rest) ≡ request =
    ap (λ n. of_characteristic which instance.a.session n (str_to_ascii_uppercase instance.a.rest)) words.number
    ∙ ap (λ n. of_characteristic which instance.a.session instance.a.number n) name.same ∙ cc word.on in
    subst (λ r. request_of (line_text r) ≡ Some r) is
    (characteristic_again which instance.a.session words.index instance.a.rest words.session_is words.index_is_one
    name.yes)
by_verb (verbs.Saved which) more request e =
    let words = led (cut_at_space more) _ request e in
    let session = led (session_of words.a.0) _ request words.on in
    let first = passed (is_session_name words.a.0) words.a.0 session.a session.there in
    let name = led (session_of words.a.1) _ request session.on in
    let second = passed (is_session_name words.a.1) words.a.1 name.a name.there in
    let is : of_saved which words.a.0 words.a.1 ≡ request =
    ap (λ n. of_saved which n words.a.1) first.same ∙ ap (λ n. of_saved which session.a n) second.same ∙ cc name.on in
    subst (λ r. request_of (line_text r) ≡ Some r) is (saved_again which words.a.0 words.a.1 first.yes second.yes)
by_verb verbs.Forget more request e =
    let name = led (session_of more) (λ word. Some (requests.Forget word)) request e in
    let word = passed (is_session_name more) more name.a name.there in
    let is : requests.Forget more ≡ request = ap requests.Forget word.same ∙ cc name.on in
    subst (λ r. request_of (line_text r) ≡ Some r) is (forget_again more word.yes)

pub written_is_read : WrittenIsRead
written_is_read line request e =
    let parts = led (cut_at_space line) (λ cut. verb_of cut.0 >>= (λ found. request_by found cut.1)) request e in
    let verb = led (verb_of parts.a.0) (λ found. request_by found parts.a.1) request parts.on in
    by_verb verb.a parts.a.1 request verb.on
