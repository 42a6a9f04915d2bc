-- Worked rows of paths and methods, by computing. Beside what is so stands what would be so by a likely slip, and
-- isn't.
use Rattle.std.proofs.Common.{◌≡◌, [], refl, true, false, None, Some}
use Rattle.std.specs.Prelude.{codes}
use Rattle.vc_http_routes.specs.declared.methods.Method.TheVariants as by
use Rattle.vc_http_routes.specs.declared.routes.Route.TheVariants as to
use Rattle.vc_http_routes.specs.Methods.{has_method, method_of}
use Rattle.vc_http_routes.specs.Routes.{methods_of, route_at}

-- each route
sessions : route_at (codes "/sessions") ≡ Some to.Sessions
sessions = refl

session : route_at (codes "/sessions/a") ≡ Some to.Session
session = refl

values : route_at (codes "/sessions/a/values/0/SIZE") ≡ Some to.Values
values = refl

drops : route_at (codes "/sessions/a/drops/0/SIZE") ≡ Some to.Drops
drops = refl

why : route_at (codes "/sessions/a/why/0/SIZE") ≡ Some to.Why
why = refl

whynot : route_at (codes "/sessions/a/whynot/0/SIZE") ≡ Some to.WhyNot
whynot = refl

conflict : route_at (codes "/sessions/a/conflict") ≡ Some to.Conflict
conflict = refl

log : route_at (codes "/sessions/a/log") ≡ Some to.Log
log = refl

bill : route_at (codes "/sessions/a/bill") ≡ Some to.Bill
bill = refl

routing : route_at (codes "/sessions/a/routing") ≡ Some to.Routing
routing = refl

save : route_at (codes "/sessions/a/save") ≡ Some to.Save
save = refl

load : route_at (codes "/sessions/a/load") ≡ Some to.Load
load = refl

saved : route_at (codes "/saved/n") ≡ Some to.Saved
saved = refl

-- a blank takes any word
word_for_blank : route_at (codes "/sessions/save") ≡ Some to.Session
word_for_blank = refl

twice : route_at (codes "/sessions/save/save") ≡ Some to.Save
twice = refl

-- no segment may be empty, and none more may follow
none : route_at [] ≡ None
none = refl

no_slash : route_at (codes "sessions") ≡ None
no_slash = refl

ends_in_slash : route_at (codes "/sessions/") ≡ None
ends_in_slash = refl

session_slash : route_at (codes "/sessions/a/") ≡ None
session_slash = refl

begins_twice : route_at (codes "//sessions") ≡ None
begins_twice = refl

empty_session : route_at (codes "/sessions//save") ≡ None
empty_session = refl

empty_instance : route_at (codes "/sessions/a/values//SIZE") ≡ None
empty_instance = refl

empty_characteristic : route_at (codes "/sessions/a/values/0/") ≡ None
empty_characteristic = refl

longer : route_at (codes "/sessions/a/bill/x") ≡ None
longer = refl

other_case : route_at (codes "/Sessions") ≡ None
other_case = refl

no_name : route_at (codes "/saved") ≡ None
no_name = refl

-- methods, whose case counts
put : method_of (codes "PUT") ≡ Some by.Put
put = refl

lower : method_of (codes "put") ≡ None
lower = refl

patch : method_of (codes "PATCH") ≡ None
patch = refl

put_values : has_method (methods_of to.Values) by.Put ≡ true
put_values = refl

get_values : has_method (methods_of to.Values) by.Get ≡ false
get_values = refl

put_session : has_method (methods_of to.Session) by.Put ≡ false
put_session = refl
