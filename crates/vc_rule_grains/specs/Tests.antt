-- Which pieces a restriction allows, as it is tested.
use Rattle.std.specs.Prelude.{Bool}
use Rattle.std.specs.List.{list_any}
use Rattle.vc_plan.specs.declared.conditions.Piece.{Piece}
use Rattle.vc_plan.specs.Pieces.{is_part, is_inside}
use Rattle.vc_plan_values.specs.Values.{meant}
use Rattle.vc_rule_grains.specs.declared.allowing.Allowed.{Allowed}
use Rattle.vc_rule_grains.specs.declared.allowing.Allowed.TheVariants.{Inside, PartOf}

abbrev pub allowed_by : Allowed → Piece → Bool
allowed_by (Inside relation value) piece = is_inside relation (meant value) piece
allowed_by (PartOf pieces) piece = list_any (is_part piece) pieces.now
