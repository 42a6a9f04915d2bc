use Rattle.std.proofs.Common.{◌≡◌, drop, map, flat_map, Some, is_some}
use Rattle.std.specs.List.{filter_map, list_any}
use Rattle.vc_syntax_tree.specs.Trees.{binding_of}
use Rattle.vc_types.specs.PlaceFaults.{is_computed}
use Rattle.vc_types_faults.proofs.places.has_computed.Given as goal

abbrev pub invariant-loop-binding : goal.invariant-loop-binding
invariant-loop-binding l =
    list_any is_computed (map binding_of (drop l.binding-index l.bindings))
    ≡ list_any is_computed (map binding_of l.bindings)
