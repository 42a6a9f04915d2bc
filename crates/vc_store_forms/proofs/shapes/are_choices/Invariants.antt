use Rattle.std.proofs.Common.{◌≡◌, map, is_some, drop}
use Rattle.serde_json.specs.View.{items_of, view}
use Rattle.vc_store_forms.specs.Shapes as shapes
use Rattle.vc_store_forms.proofs.shapes.are_choices.Given as goal

abbrev pub invariant-loop-value : goal.invariant-loop-value
invariant-loop-value l =
    is_some (shapes.choices_in (items_of (map view (drop l.value-index l.values))))
    ≡ is_some (shapes.choices_in (items_of (map view l.values)))
