-- The slot at hand is put, and those after it are to come.
use Rattle.std.proofs.Common.{◌≡◌, ◌<◌, ◌-◌, ◌++◌, arith, length, map, sym, ap, ◌∙◌, append-nil}
use Rattle.std.specs.List.{flat_map, range_with_len}
use Rattle.vc_base.proofs.RangeLaws.{walk_on}
use Rattle.serde_json.specs.View.{view}
use Rattle.vc_store.specs.Saving.{all_json, json_at}
use Rattle.vc_store.proofs.writing.put_slots.Goals as goal

pub loop-slot-preserved : goal.loop-slot-preserved
loop-slot-preserved c =
    let plan = c.args.plan.now in
    let users = c.args.users.now in
    let low : c.loop-slot.slot < length plan.slots = omega (arith, c.loop-slot-test.true, c.len-slot-end.ensures) in (
      walk_on (json_at plan users) c.loop-slot.slot (length plan.slots) (map view c.loop-slot.out.items)
          (map view c.put_slot.new.out.items) (map view c.args.out.now.items ++ all_json plan users) low
          c.in_ok-put_slot.ensures c.loop-slot.invariant.0,
      omega (arith, low),
    )

pub returns : goal.returns
returns c =
    let out = map view c.loop-slot.out.items in
    let ended : length c.args.plan.now.slots - c.loop-slot.slot ≡ 0
    = omega (arith, c.loop-slot-test.false, c.len-slot-end.ensures) in
    sym (append-nil out)
    ∙ ap (λ n. out ++ flat_map (json_at c.args.plan.now c.args.users.now) (range_with_len c.loop-slot.slot n))
    (sym ended)
    ∙ c.loop-slot.invariant.0
