-- Each slot is put over those after it; past the last there are none.
use Rattle.std.proofs.Common.{◌∙◌, ap, length, arith}
use Rattle.std.specs.Prelude.{None}
use Rattle.vc_plan.specs.declared.plans.Slot.{Slot}
use Rattle.vc_bill.proofs.ComponentLemmas.{begun, stepped}
use Rattle.vc_bill.proofs.components.components_of.Goals as goal

abbrev nobody : Slot
nobody = record { parent = None; depth = 0; object = 0; line = 0 }

pub loop-number-init : goal.loop-number-init
loop-number-init c =
    let slots = ap length c.as_slice-slots.ensures in (
      c.in_ok-table.ensures
          ∙ begun c.args.plan.now (length c.as_slice-slots.result.now) c.len.result (omega (arith, slots))
          c.len.ensures,
      omega (arith, slots),
    )

pub loop-number-preserved : goal.loop-number-preserved
loop-number-preserved c = (
  stepped c.args.plan.now c.as_slice-slots.result.now c.loop-number.number nobody c.loop-number.table
      c.put_slot.new.table
      c.as_slice-slots.ensures c.loop-number-test.true c.loop-number.invariant.1 c.loop-number.invariant.0
      c.put_slot.ensures,
  omega (arith, c.loop-number.invariant.1),
)
