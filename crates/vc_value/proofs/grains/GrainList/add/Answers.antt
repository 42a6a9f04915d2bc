use Rattle.std.proofs.Common.{◌∙◌, ap, arith, length}
use Rattle.std.specs.List.{list_all}
use Rattle.vc_value.specs.Grains.{is_ascending, is_below}
use Rattle.vc_value.proofs.GrainLemmas.{ascending_more}
use Rattle.vc_value.proofs.grains.GrainList.add.Goals as goal

pub invariant_of-self-2 : goal.invariant_of-self-2
invariant_of-self-2 c =
    let above = ap (list_all (is_below c.args.grain.low)) c.self.view_is ∙ c.requires.above in (
      ap is_ascending c.in_ok-push.ensures.items
          ∙ ascending_more c.self.inside.grains.items c.args.grain c.self.invariant.0 above c.requires.ordered,
      let old = ap length c.self.view_is in omega (arith, c.in_ok-push.ensures.len, c.requires.room),
    )
