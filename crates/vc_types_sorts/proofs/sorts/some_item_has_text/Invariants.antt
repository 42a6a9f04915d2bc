use Rattle.std.proofs.Common.{◌≡◌, drop, map, flat_map, Some, is_some}
use Rattle.std.specs.List.{filter_map, list_any, slice_get}
use Rattle.vc_types.specs.Looking.{member_in}
use Rattle.vc_types.specs.Meanings.{known}
use Rattle.vc_types.specs.Settings.{component_class, sort_meant}
use Rattle.vc_types.specs.SortFaults.{is_text}
use Rattle.vc_types_sorts.proofs.sorts.some_item_has_text.Given as goal

abbrev pub invariant-loop-item : goal.invariant-loop-item
invariant-loop-item l =
    list_any (λ class. is_text
    (sort_meant l.names.model.now
    (known (member_in (slice_get (l.names.model.now).classes class) l.characteristic))))
    (filter_map (component_class l.names.model.now) (drop l.item-index l.items))
    ≡ list_any (λ class. is_text
    (sort_meant l.names.model.now (known (member_in (slice_get (l.names.model.now).classes class) l.characteristic))))
    (filter_map (component_class l.names.model.now) l.items)
