-- Whether grains are cut at a number already.
use Rattle.std.specs.Prelude.{◌≡◌, ℤ, Bool, true, ◌&&◌, ◌||◌, List, [], ◌∷◌, if◌then◌else◌}
use Rattle.std.specs.Int.Signed.{le_z}
use Rattle.std.specs.Ordering.{int_eq}
use Rattle.vc_value.specs.Grains.{unit_of, next_below, next_above, has_decimals}
use Rattle.vc_value.specs.declared.grains.Grain.{Grain}
use Rattle.vc_value_cuts.specs.declared.cut.Cut.{Cut}

-- the whole numbers of units next to the cut, and whether it is one itself
pub record IsCut (cut : Cut) : Type 0 where
  pub below : cut.below ≡ next_below (unit_of cut.decimals) cut.at.millionths
  pub above : cut.above ≡ next_above (unit_of cut.decimals) cut.at.millionths
  pub whole : cut.whole ≡ has_decimals cut.decimals cut.at

-- a grain that the cut leaves: its numbers lie below, or above
abbrev pub lies_below : Cut → Grain → Bool
lies_below cut grain = le_z grain.high.millionths cut.below

abbrev pub lies_above : Cut → Grain → Bool
lies_above cut grain = le_z cut.above grain.low.millionths

-- the cut itself
abbrev pub has_ends : Cut → Grain → Bool
has_ends cut grain = int_eq grain.low.millionths cut.at.millionths && int_eq grain.high.millionths cut.at.millionths

abbrev pub is_point : Cut → Grain → Bool
is_point cut grain = cut.whole && has_ends cut grain

abbrev pub starts_above : Cut → List Grain → Bool
starts_above cut [] = true
starts_above cut (grain ∷ grains) = lies_above cut grain

abbrev pub is_left_first : Cut → List Grain → Bool
is_left_first cut [] = true
is_left_first cut (grain ∷ grains) = lies_above cut grain || (is_point cut grain && starts_above cut grains)

-- no grain but the cut itself has numbers beside it, where the grains ascend
abbrev pub is_made : Cut → List Grain → Bool
is_made cut [] = true
is_made cut (grain ∷ grains) = if lies_below cut grain then is_made cut grains else is_left_first cut (grain ∷ grains)
