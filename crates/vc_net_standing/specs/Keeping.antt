-- What a net keeps by place: the number of the fact there.
use Rattle.std.specs.Prelude.{◌≡◌, ℕ, ◌^◌, ◌<◌, true, nat_eq, List, length, slice_get, slice_index_or, Some}
use Rattle.std.specs.List.{IsDistinct}
use Rattle.vc_base.specs.Sets.{has}
use Rattle.vc_rule_yield.specs.Filling.{Filled}
use Rattle.vc_net_places.specs.Places.{Index, place_in}
use Rattle.vc_net_standing.specs.declared.standing.Fact.{Fact}
use Rattle.vc_net_standing.specs.Standing.{places_of}

-- there is a number for each place, and room for a fact at each; each fact has its number at its place, which no other
-- has
pub record IsNumbered (index : Index) (numbers : List ℕ) (facts : Filled Fact) : Type 0 where
  pub long : length numbers ≡ facts.room
  pub counted : facts.room ≡ length index.things
  pub small : facts.room < 2 ^ 32
  pub numbered : (n : ℕ) (fact : Fact) → slice_get facts.items n ≡ Some fact
      → slice_index_or numbers (place_in index fact.atom) 0 ≡ n
  pub once : IsDistinct nat_eq (places_of index facts.items)
  pub below : (p : ℕ) → has nat_eq (places_of index facts.items) p ≡ true → p < facts.room
