-- Which facts of a log stay when sources change, found by their places.
use Rattle.std.specs.Prelude.{◌≡◌, ◌+◌, ◌^◌, ◌<◌, ◌≤◌, ℕ, Bool, true, not, ◌&&◌, nat_eq, nat_lt, if◌then◌else◌, List}
use Rattle.std.specs.Prelude.{[]}
use Rattle.std.specs.Prelude.{◌∷◌, ◌++◌, length, slice_index_or}
use Rattle.std.specs.List.{IsDistinct, list_all}
use Rattle.vc_base.specs.Sets.{has}
use Rattle.vc_plan.specs.Sources.{Sources}
use Rattle.vc_plan_reasons.specs.Checking.{var_of}
use Rattle.vc_plan_reasons.specs.Keeping.{origin_differs}
use Rattle.vc_net_places.specs.Places.{Index, place_in}
use Rattle.vc_net_standing.specs.declared.standing.Fact.{Fact}
use Rattle.vc_net_standing.specs.Standing.{Stood, places_of}
use Rattle.vc_net_log.specs.Keeping.{cells_at}

-- whether the source that gave the fact differs
abbrev pub differs : Sources → Sources → Fact → Bool
differs old new fact = origin_differs old new fact.origin (var_of fact.atom)

-- whether something stands at each of the places
abbrev pub all_stand : Index → List Fact → List ℕ → Bool
all_stand index facts places = list_all (has nat_eq (places_of index facts)) places

-- whether the fact stays beside those that have stayed: it isn't gone, and what it needs stands
abbrev pub stays : Index → (Fact → Bool) → (Fact → List ℕ) → List Fact → Fact → Bool
stays index gone needs before fact = not (gone fact) && all_stand index before (needs fact)

-- of more facts, in order, those that stay
abbrev pub staying : Index → (Fact → Bool) → (Fact → List ℕ) → List Fact → List Fact → List Fact
staying index gone needs before [] = []
staying index gone needs before (fact ∷ facts) =
    if stays index gone needs before fact then fact ∷ staying index gone needs (before ++ fact ∷ []) facts
    else staying index gone needs before facts

-- with more facts behind those that stand
abbrev pub with_facts : Stood → List Fact → Stood
with_facts stood facts = record { index = stood.index; facts = stood.facts ++ facts }

-- the places of what a fact follows from
abbrev pub needed : Index → List ℕ → List ℕ → List ℕ → Fact → List ℕ
needed index begins counts cells fact = cells_at begins counts cells (place_in index fact.atom)

-- each place has its cells
abbrev pub HasCells : Index → List ℕ → List ℕ → List ℕ → Type 0
HasCells index begins counts cells = (p : ℕ) → p < length index.things
    → (p < length begins) × (p < length counts)
    × (slice_index_or begins p 0 + slice_index_or counts p 0 ≤ length cells)

-- the facts have places of their own, which the others haven't
pub record AreApart (stood : Stood) (facts : List Fact) : Type 0 where
  pub once : IsDistinct nat_eq (places_of stood.index (stood.facts ++ facts))
  pub below : list_all (λ p. nat_lt p (length stood.index.things)) (places_of stood.index (stood.facts ++ facts)) ≡ true
  pub small : length stood.index.things < 2 ^ 32
