-- What is put, with the slots to come, is all of it.
use Rattle.std.proofs.Common.{◌≡◌, ◌≤◌, ◌-◌, ◌++◌, length, map}
use Rattle.std.specs.List.{flat_map, range_with_len}
use Rattle.serde_json.specs.View.{view}
use Rattle.vc_store.specs.Saving.{all_json, json_at}
use Rattle.vc_store.proofs.writing.put_slots.Given as goal

abbrev pub invariant-loop-slot : goal.invariant-loop-slot
invariant-loop-slot l =
    (map view l.out.items ++ flat_map (json_at l.plan l.users) (range_with_len l.slot (length l.plan.slots - l.slot))
    ≡ map view l.initial.out.items ++ all_json l.plan l.users) × (l.slot ≤ length l.plan.slots)
