-- The routes: which paths lead to each, by whole segments, and the methods that it has.
use Rattle.std.specs.Prelude.{ℕ, Bool, true, false, ◌&&◌, ◌==◌, List, [], ◌∷◌, codes, Option}
use Rattle.std.specs.List.{find, slice_split}
use Rattle.std.specs.Str.{bytes_eq}
use Rattle.vc_http_routes.specs.declared.methods.Method.{Method}
use Rattle.vc_http_routes.specs.declared.methods.Method.TheVariants as by
use Rattle.vc_http_routes.specs.declared.routes.Route.{Route}
use Rattle.vc_http_routes.specs.declared.routes.Route.TheVariants as to

-- a segment of a pattern: a word stands for itself, a blank for any segment that isn't empty
pub data Segment : Type 0 where
  word : List ℕ → Segment
  blank : Segment

-- whether a path's segment is one of these
abbrev pub fits_segment : Segment → List ℕ → Bool
fits_segment (word text) segment = bytes_eq text segment
fits_segment blank [] = false
fits_segment blank (byte ∷ more) = true

-- segment by segment
abbrev pub fits_segments : List Segment → List (List ℕ) → Bool
fits_segments [] [] = true
fits_segments [] (segment ∷ segments) = false
fits_segments (first ∷ pattern) [] = false
fits_segments (first ∷ pattern) (segment ∷ segments) = fits_segment first segment && fits_segments pattern segments

abbrev pub is_slash : ℕ → Bool
is_slash byte = byte == 47

-- a path begins with a slash, and is cut at the others
abbrev pub fits : List Segment → List ℕ → Bool
fits pattern [] = false
fits pattern (byte ∷ path) = is_slash byte && fits_segments pattern (slice_split is_slash path)

-- the table of routes: `/sessions`, of one session, of a characteristic of one of its instances, of a saved name
abbrev pub of_session : List Segment → List Segment
of_session more = word (codes "sessions") ∷ blank ∷ more

abbrev pub of_characteristic : List ℕ → List Segment
of_characteristic what = of_session (word what ∷ blank ∷ blank ∷ [])

abbrev pub pattern_of : Route → List Segment
pattern_of to.Sessions = word (codes "sessions") ∷ []
pattern_of to.Session = of_session []
pattern_of to.Values = of_characteristic (codes "values")
pattern_of to.Drops = of_characteristic (codes "drops")
pattern_of to.Why = of_characteristic (codes "why")
pattern_of to.WhyNot = of_characteristic (codes "whynot")
pattern_of to.Conflict = of_session (word (codes "conflict") ∷ [])
pattern_of to.Log = of_session (word (codes "log") ∷ [])
pattern_of to.Bill = of_session (word (codes "bill") ∷ [])
pattern_of to.Routing = of_session (word (codes "routing") ∷ [])
pattern_of to.Save = of_session (word (codes "save") ∷ [])
pattern_of to.Load = of_session (word (codes "load") ∷ [])
pattern_of to.Saved = word (codes "saved") ∷ blank ∷ []

abbrev pub methods_of : Route → List Method
methods_of to.Sessions = by.Post ∷ []
methods_of to.Session = by.Get ∷ by.Delete ∷ []
methods_of to.Values = by.Put ∷ by.Post ∷ by.Delete ∷ []
methods_of to.Drops = by.Post ∷ []
methods_of to.Why = by.Get ∷ []
methods_of to.WhyNot = by.Post ∷ []
methods_of to.Conflict = by.Get ∷ []
methods_of to.Log = by.Get ∷ []
methods_of to.Bill = by.Get ∷ []
methods_of to.Routing = by.Get ∷ []
methods_of to.Save = by.Post ∷ []
methods_of to.Load = by.Post ∷ []
methods_of to.Saved = by.Delete ∷ []

-- all routes. No path fits two of them, so that their order here says nothing
abbrev pub routes : List Route
routes =
    to.Saved ∷ to.Bill ∷ to.Conflict ∷ to.Drops ∷ to.Load ∷ to.Log ∷ to.Routing ∷ to.Save ∷ to.Values ∷ to.Why
    ∷ to.WhyNot ∷ to.Session ∷ to.Sessions ∷ []

-- the route of a path
abbrev pub route_at : List ℕ → Option Route
route_at path = find (λ route. fits (pattern_of route) path) routes
