-- What the router finds is the route of the path.
use Rattle.std.proofs.Common.{◌≡◌, ℕ, Bool, true, false, cond, not, ◌&&◌, ◌||◌, List, [], ◌∷◌, Option, None, Some, refl}
use Rattle.std.proofs.Common.{sym, ap, ◌∙◌, ◌⊎◌, inl, inr}
use Rattle.std.specs.List.{find, list_all, list_any, slice_split}
use Rattle.std.specs.Option.{option_map}
use Rattle.std.specs.Str.{bytes_eq}
use Rattle.std.specs.Cmp.Lexicographic.{bytes_decides}
use Rattle.std.proofs.lemmas.Bool.{and_parts, or_cases}
use Rattle.matchit.specs.Router.{RouteOf}
use Rattle.matchit.specs.Seek.{first}
use Rattle.matchit.proofs.OnLiterals.{matchit_on_literals}
use Rattle.vc_http_routes.specs.declared.routes.Route.{Route}
use Rattle.vc_http_routes.specs.declared.routes.Route.TheVariants as to
use Rattle.vc_http_routes.specs.Routes.{Segment, word, blank, fits, fits_segment, fits_segments, is_slash, pattern_of}
use Rattle.vc_http_routes.specs.Routes.{route_at, routes}
use Rattle.vc_http_routes.specs.Rows.{added, route_rows, with_asking_routes, with_kept_routes, with_shown_routes}
use Rattle.vc_http_routes.specs.Rows.{with_told_routes, with_value_routes, with_whole_routes}
use Rattle.vc_http_routes.proofs.SearchLaws.{AllLead, any_row, every_row, is_whole, one, seek_is, suits}
use Rattle.vc_http_routes.proofs.SegmentLaws.{is_pattern, suits_is, tokens}

-- patterns of which no path fits both: of other lengths, or with other words at one place
abbrev differ : Segment → Segment → Bool
differ (word one) (word other) = not (bytes_eq one other)
differ (word one) blank = false
differ blank other = false

abbrev are_apart : List Segment → List Segment → Bool
are_apart [] [] = false
are_apart [] (other ∷ others) = true
are_apart (one ∷ ones) [] = true
are_apart (one ∷ ones) (other ∷ others) = differ one other || are_apart ones others

differ_fits : (one other : Segment) (segment : List ℕ) → differ one other ≡ true → fits_segment one segment ≡ true
    → fits_segment other segment ≡ true → ⊥
differ_fits (word one) (word other) segment d f g =
    let same : one ≡ other = (bytes_decides one segment).0 f ∙ sym ((bytes_decides other segment).0 g) in
    absurd (cc (d, (bytes_decides one other).1 same))
differ_fits (word one) blank segment d f g = absurd (cc d)
differ_fits blank other segment d f g = absurd (cc d)

apart_fits : (ones others : List Segment) (segments : List (List ℕ)) → are_apart ones others ≡ true
    → fits_segments ones segments ≡ true → fits_segments others segments ≡ true → ⊥
apart_fits [] [] segments d f g = absurd (cc d)
apart_fits [] (other ∷ others) [] d f g = absurd (cc g)
apart_fits [] (other ∷ others) (segment ∷ segments) d f g = absurd (cc f)
apart_fits (one ∷ ones) [] [] d f g = absurd (cc f)
apart_fits (one ∷ ones) [] (segment ∷ segments) d f g = absurd (cc g)
apart_fits (one ∷ ones) (other ∷ others) [] d f g = absurd (cc f)
apart_fits (one ∷ ones) (other ∷ others) (segment ∷ segments) d f g =
    let first = and_parts (fits_segment one segment) (fits_segments ones segments) f in
    let second = and_parts (fits_segment other segment) (fits_segments others segments) g in
    by (or_cases (differ one other) (are_apart ones others) d) first second
    (apart_fits ones others segments)
  where
    by : ((differ one other ≡ true) ⊎ (are_apart ones others ≡ true))
        → (fits_segment one segment ≡ true) × (fits_segments ones segments ≡ true)
        → (fits_segment other segment ≡ true) × (fits_segments others segments ≡ true)
        → (are_apart ones others ≡ true → fits_segments ones segments ≡ true
        → fits_segments others segments ≡ true → ⊥) → ⊥
    by (inl e) a b more = differ_fits one other segment e a.0 b.0
    by (inr e) a b more = more e a.1 b.1

apart_paths : (ones others : List Segment) (path : List ℕ) → are_apart ones others ≡ true → fits ones path ≡ true
    → fits others path ≡ true → ⊥
apart_paths ones others [] d f g = absurd (cc f)
apart_paths ones others (b ∷ path) d f g =
    apart_fits ones others (slice_split is_slash path) d
    (and_parts (is_slash b) (fits_segments ones (slice_split is_slash path)) f).1
    (and_parts (is_slash b) (fits_segments others (slice_split is_slash path)) g).1

-- routes of which no path fits two
abbrev is_apart_from : Route → Route → Bool
is_apart_from one other = are_apart (pattern_of one) (pattern_of other)

abbrev are_clear : List Route → Bool
are_clear [] = true
are_clear (one ∷ others) = list_all (is_apart_from one) others && are_clear others

abbrev leads : List ℕ → Route → Bool
leads path route = fits (pattern_of route) path

-- each that the path fits is this one
abbrev AllAre : List ℕ → Route → List Route → Type 0
AllAre path a [] = Unit {0}
AllAre path a (route ∷ others) =
    (suits (tokens (pattern_of route)) path ≡ true → route ≡ a) × AllAre path a others

good : (route : Route) → is_pattern (pattern_of route) ≡ true
good to.Sessions = refl
good to.Session = refl
good to.Values = refl
good to.Drops = refl
good to.Why = refl
good to.WhyNot = refl
good to.Conflict = refl
good to.Log = refl
good to.Bill = refl
good to.Routing = refl
good to.Save = refl
good to.Load = refl
good to.Saved = refl

token_path : (path : List ℕ) (route : Route) → suits (tokens (pattern_of route)) path ≡ leads path route
token_path path route = suits_is (pattern_of route) path (good route)

-- what is known of all routes where the first that the path fits is known
abbrev Settled : List ℕ → List Route → Route → Bool → Type 0
Settled path rs a some = AllAre path a rs × (list_any (λ route. suits (tokens (pattern_of route)) path) rs ≡ some)

none_fits : (path : List ℕ) (a : Route) (rs : List Route) → find (leads path) rs ≡ None → Settled path rs a false
none_fits path a [] h = (tt, refl)
none_fits path a (route ∷ others) h = by (leads path route) refl h (none_fits path a others)
  where
    by : (v : Bool) → leads path route ≡ v → cond v (Some route) (find (leads path) others) ≡ None
        → (find (leads path) others ≡ None → Settled path others a false) → Settled path (route ∷ others) a false
    by true e found more = absurd (cc found)
    by false e found more =
        let rest = more found in
        let fails = token_path path route ∙ e in
        ((λ s. absurd (cc (s, fails)), rest.0), (λ j. fails j || rest.1 j))

others_fail : (path : List ℕ) (a : Route) (rs : List Route) → list_all (is_apart_from a) rs ≡ true
    → leads path a ≡ true → AllAre path a rs
others_fail path a [] h f = tt
others_fail path a (route ∷ others) h f =
    let parts = and_parts (is_apart_from a route) (list_all (is_apart_from a) others) h in (
      λ s. absurd (apart_paths (pattern_of a) (pattern_of route) path parts.0 f (sym (token_path path route) ∙ s)),
      others_fail path a others parts.1 f,
    )

first_fits : (path : List ℕ) (a : Route) (rs : List Route) → are_clear rs ≡ true → find (leads path) rs ≡ Some a
    → Settled path rs a true
first_fits path a [] c h = absurd (cc h)
first_fits path a (route ∷ others) c h =
    let clear = and_parts (list_all (is_apart_from route) others) (are_clear others) c in
    by (leads path route) refl h clear.0 (first_fits path a others clear.1)
  where
    by : (v : Bool) → leads path route ≡ v → cond v (Some route) (find (leads path) others) ≡ Some a
        → list_all (is_apart_from route) others ≡ true
        → (find (leads path) others ≡ Some a → Settled path others a true) → Settled path (route ∷ others) a true
    by true e found apart more =
        let same : route ≡ a = cc found in
        let fits_it = token_path path route ∙ e in (
          (
            λ s. same,
            others_fail path a others (ap (λ r. list_all (is_apart_from r) others) (sym same) ∙ apart)
                (ap (leads path) (sym same) ∙ e),
          ),
          ap (λ v. v || list_any (λ other. suits (tokens (pattern_of other)) path) others) fits_it,
        )
    by false e found apart more =
        let rest = more found in
        let fails = token_path path route ∙ e in
        ((λ s. absurd (cc (s, fails)), rest.0), (λ j. fails j || rest.1 j))

-- the router's rows are the routes, and no path fits two of them
wholes : every_row is_whole route_rows ≡ true
unfolding matchit_on_literals added route_rows with_asking_routes with_kept_routes with_shown_routes with_told_routes
    with_value_routes with_whole_routes
wholes = refl

rows_lead : (path : List ℕ) (a : Route) → AllAre path a routes
    → AllLead (λ found. found.value) a (λ t. suits t path) route_rows
unfolding matchit_on_literals added route_rows with_asking_routes with_kept_routes with_shown_routes with_told_routes
    with_value_routes with_whole_routes
rows_lead path a h = h

rows_any : (path : List ℕ) → any_row (λ t. suits t path) route_rows
    ≡ list_any (λ route. suits (tokens (pattern_of route)) path) routes
unfolding matchit_on_literals added route_rows with_asking_routes with_kept_routes with_shown_routes with_told_routes
    with_value_routes with_whole_routes
rows_any path = refl

clear : are_clear routes ≡ true
clear = refl

search_is : (path : List ℕ) (a : Route) (some : Bool) → Settled path routes a some
    → option_map (λ found. found.value) (first route_rows path) ≡ one a some
search_is path a some h =
    seek_is (λ (found : RouteOf Route). found.value) a path 0 route_rows wholes (rows_lead path a h.0)
    ∙ ap (one a) (rows_any path ∙ h.1)

pub route_found : (path : List ℕ) → option_map (λ found. found.value) (first route_rows path) ≡ route_at path
route_found path = by (route_at path) refl
  where
    by : (o : Option Route) → route_at path ≡ o
        → option_map (λ (found : RouteOf Route). found.value) (first route_rows path) ≡ o
    by None e = search_is path to.Sessions false (none_fits path to.Sessions routes e)
    by (Some a) e = search_is path a true (first_fits path a routes clear e)
