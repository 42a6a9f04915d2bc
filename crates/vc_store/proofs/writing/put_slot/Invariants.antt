-- What is put, with the characteristics to come, is all of it.
use Rattle.std.proofs.Common.{◌≡◌, ◌++◌, map, drop}
use Rattle.std.specs.List.{flat_map}
use Rattle.serde_json.specs.View.{view}
use Rattle.vc_show_rows.specs.Rows.{class_of, named_of}
use Rattle.vc_store.specs.Saving.{json_at, json_of}
use Rattle.vc_store.proofs.writing.put_slot.Given as goal

abbrev pub invariant-loop-characteristic : goal.invariant-loop-characteristic
invariant-loop-characteristic l =
    map view l.out.items ++ flat_map (λ c. json_of l.plan l.users l.slot (named_of l.plan l.slot c))
    (drop l.characteristic-index (class_of l.plan l.slot))
    ≡ map view l.initial.out.items ++ json_at l.plan l.users l.slot
