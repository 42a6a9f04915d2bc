-- Past the slots of a valid plan nothing is named.
use Rattle.std.proofs.Common.{◌≤◌, length, arith, sym}
use Rattle.std.proofs.lemmas.Bool.{leb-true}
use Rattle.vc_store.proofs.NamingLaws.{none_past}
use Rattle.vc_store.proofs.naming.named_by.Goals as goal

pub returns-in-Err : goal.returns-in-Err
returns-in-Err c =
    let plan = c.args.plan.now in
    let few : length plan.slots ≤ 40 = leb-true (length plan.slots) 40 c.requires.slot_limit in
    sym (none_past plan c.args.choice.instance c.args.choice.characteristic.now
    (omega (arith, few, c.in-Err.ensures)))
