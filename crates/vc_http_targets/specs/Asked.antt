-- What a method asks of a route, and the request that it makes with a path and a body.
use Rattle.std.specs.Prelude.{ℕ, List, codes, Option, None, Some}
use Rattle.std.specs.Option.{option_map}
use Rattle.vc_wire_requests.specs.Requests.{◌>>=◌, of_characteristic, of_saved, of_session, of_value, session_of}
use Rattle.vc_wire_requests.specs.declared.request.Request.{Request}
use Rattle.vc_wire_requests.specs.declared.request.Request.TheVariants as requests
use Rattle.vc_wire_requests.specs.declared.verbs.OfCharacteristic.TheVariants as named
use Rattle.vc_wire_requests.specs.declared.verbs.OfSaved.TheVariants as kept
use Rattle.vc_wire_requests.specs.declared.verbs.OfSession.TheVariants as shown
use Rattle.vc_wire_requests.specs.declared.verbs.OfValue.TheVariants as done
use Rattle.vc_wire_requests.specs.declared.verbs.Verb.{Verb}
use Rattle.vc_wire_requests.specs.declared.verbs.Verb.TheVariants as verbs
use Rattle.vc_http_routes.specs.declared.methods.Method.{Method}
use Rattle.vc_http_routes.specs.declared.methods.Method.TheVariants as by
use Rattle.vc_http_routes.specs.declared.routes.Route.{Route}
use Rattle.vc_http_routes.specs.declared.routes.Route.TheVariants as to
use Rattle.vc_http_bodies.specs.Bodies.{text_in}
use Rattle.vc_http_targets.specs.Targets.{Aim, all, characteristic, saved, session}

-- what is wanted of a route by each of its methods
abbrev pub verb_for : Route → Method → Option Verb
verb_for to.Sessions by.Post = Some (verbs.Session shown.Start)
verb_for to.Session by.Get = Some (verbs.Session shown.Show)
verb_for to.Session by.Delete = Some (verbs.Session shown.Close)
verb_for to.Values by.Put = Some (verbs.Value done.Set)
verb_for to.Values by.Post = Some (verbs.Value done.Add)
verb_for to.Values by.Delete = Some (verbs.Characteristic named.Retract)
verb_for to.Drops by.Post = Some (verbs.Value done.Drop)
verb_for to.Why by.Get = Some (verbs.Characteristic named.Why)
verb_for to.WhyNot by.Post = Some (verbs.Value done.WhyNot)
verb_for to.Conflict by.Get = Some (verbs.Session shown.Conflict)
verb_for to.Log by.Get = Some (verbs.Session shown.Log)
verb_for to.Bill by.Get = Some (verbs.Session shown.Bill)
verb_for to.Routing by.Get = Some (verbs.Session shown.Routing)
verb_for to.Save by.Post = Some (verbs.Saved kept.Save)
verb_for to.Load by.Post = Some (verbs.Saved kept.Load)
verb_for to.Saved by.Delete = Some verbs.Forget
verb_for route method = None

-- a session's name, or what is saved, in a body
abbrev pub name_in : List ℕ → Option (List ℕ)
name_in body = do
  name ← text_in (codes "name") body
  session_of name

-- the request; none where the body isn't the object that is wanted. The aim of a route suits what is wanted of it
abbrev pub request_for : Verb → Aim → List ℕ → Option Request
request_for (verbs.Session which) all body = option_map (of_session which) (name_in body)
request_for (verbs.Session which) (session name) body = Some (of_session which name)
request_for (verbs.Characteristic which) (characteristic name number last) body =
    Some (of_characteristic which name number last)
request_for (verbs.Value which) (characteristic name number last) body =
    option_map (of_value which name number last) (text_in (codes "value") body)
request_for (verbs.Saved which) (session name) body = option_map (of_saved which name) (name_in body)
request_for verbs.Forget (saved name) body = Some (requests.Forget name)
request_for verb aim body = None
