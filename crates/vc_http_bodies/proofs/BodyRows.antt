-- Worked rows of bodies, by computing. Beside what is so stands what would be so by a likely slip, and isn't.
use Rattle.std.proofs.Common.{◌≡◌, ℕ, List, Option, refl, None, Some}
use Rattle.std.specs.Prelude.{codes, option_and_then}
use Rattle.serde_json.specs.Read.{read}
use Rattle.serde_json.proofs.OnLiterals.{serde_json_on_literals}
use Rattle.vc_http_bodies.specs.Bodies.{only_text}

-- what is read of bytes that are UTF-8
abbrev asked : List ℕ → List ℕ → Option (List ℕ)
asked key bytes = option_and_then (only_text key) (read bytes)

name : asked (codes "name") (codes "{\"name\":\"a\"}") ≡ Some (codes "a")
unfolding serde_json_on_literals
name = refl

spaced : asked (codes "value") (codes " { \"value\" : \"1.5 M\" }\n") ≡ Some (codes "1.5 M")
unfolding serde_json_on_literals
spaced = refl

other_key : asked (codes "name") (codes "{\"value\":\"a\"}") ≡ None
unfolding serde_json_on_literals
other_key = refl

number : asked (codes "value") (codes "{\"value\":5}") ≡ None
unfolding serde_json_on_literals
number = refl

more : asked (codes "name") (codes "{\"name\":\"a\",\"x\":\"b\"}") ≡ None
unfolding serde_json_on_literals
more = refl

last : asked (codes "name") (codes "{\"name\":\"a\",\"name\":\"b\"}") ≡ Some (codes "b")
unfolding serde_json_on_literals
last = refl

last_number : asked (codes "name") (codes "{\"name\":\"a\",\"name\":5}") ≡ None
unfolding serde_json_on_literals
last_number = refl

empty : asked (codes "name") (codes "{}") ≡ None
unfolding serde_json_on_literals
empty = refl

text : asked (codes "name") (codes "\"a\"") ≡ None
unfolding serde_json_on_literals
text = refl

nothing : asked (codes "name") (codes "") ≡ None
unfolding serde_json_on_literals
nothing = refl

behind : asked (codes "name") (codes "{\"name\":\"a\"}x") ≡ None
unfolding serde_json_on_literals
behind = refl
