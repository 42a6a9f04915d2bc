-- What a path names: a route, and the session, the instance and the characteristic, or the saved name in it.
use Rattle.std.specs.Prelude.{◌≡◌, ℕ, List, [], ◌∷◌, Option, None, Some, slice_get}
use Rattle.std.specs.List.{slice_split}
use Rattle.std.specs.Option.{option_map}
use Rattle.std.specs.Str.{str_to_ascii_uppercase}
use Rattle.vc_wire_requests.specs.Requests.{◌>>=◌, index_of, name_of, session_of}
use Rattle.vc_http_routes.specs.Routes.{is_slash, route_at}
use Rattle.vc_http_routes.specs.declared.routes.Route.{Route}
use Rattle.vc_http_routes.specs.declared.routes.Route.TheVariants as to
use Rattle.vc_http_targets.specs.declared.targets.Target.{Target}
use Rattle.vc_http_targets.specs.declared.targets.Target.TheVariants as targets

-- what a route is asked of: nothing in particular, a session, a characteristic of an instance, or what is saved
pub data Aim : Type 0 where
  all : Aim
  session : List ℕ → Aim
  characteristic : List ℕ → ℕ → List ℕ → Aim
  saved : List ℕ → Aim

-- the segments of a path, without what stands before its first slash
abbrev pub segments : List ℕ → List (List ℕ)
segments [] = []
segments (byte ∷ path) = slice_split is_slash path

-- the first segment, and the text of the others where a slash is
abbrev pub Cuts : List ℕ → List ℕ → Option (List ℕ) → Type 0
Cuts path front None = slice_split is_slash path ≡ front ∷ []
Cuts path front (Some rest) = slice_split is_slash path ≡ front ∷ slice_split is_slash rest

-- the second segment names a session, or what is saved; the fourth and the fifth an instance and a characteristic
abbrev pub session_in : List (List ℕ) → Option (List ℕ)
session_in parts = do
  word ← slice_get parts 1
  session_of word

abbrev pub characteristic_in : List (List ℕ) → Option Aim
characteristic_in parts = do
  name ← session_in parts
  word ← slice_get parts 3
  number ← index_of word
  last ← slice_get parts 4
  upper ← name_of last
  Some (characteristic name number upper)

-- what the route is asked of, where each part is well spelled
abbrev pub aim_of : Route → List (List ℕ) → Option Aim
aim_of to.Sessions parts = Some all
aim_of to.Session parts = option_map session (session_in parts)
aim_of to.Values parts = characteristic_in parts
aim_of to.Drops parts = characteristic_in parts
aim_of to.Why parts = characteristic_in parts
aim_of to.WhyNot parts = characteristic_in parts
aim_of to.Conflict parts = option_map session (session_in parts)
aim_of to.Log parts = option_map session (session_in parts)
aim_of to.Bill parts = option_map session (session_in parts)
aim_of to.Routing parts = option_map session (session_in parts)
aim_of to.Save parts = option_map session (session_in parts)
aim_of to.Load parts = option_map session (session_in parts)
aim_of to.Saved parts = option_map saved (session_in parts)

-- a path whose parts are ill spelled has no route
abbrev pub target_at : List ℕ → Option (Route × Aim)
target_at path = do
  route ← route_at path
  aim ← aim_of route (segments path)
  Some (route, aim)

-- what was found, as it is said here
abbrev pub aim_said : Target → Aim
aim_said targets.All = all
aim_said (targets.Session name) = session name.now
aim_said (targets.Characteristic name number last) = characteristic name.now number (str_to_ascii_uppercase last.now)
aim_said (targets.Saved name) = saved name.now
