use Rattle.std.proofs.Common.{◌≡◌, ◌-◌, ◌∙◌, ap, arith, length, get_or}
use Rattle.std.specs.List.{list_all}
use Rattle.vc_value.specs.Grains.{is_below}
use Rattle.vc_value.proofs.GrainLemmas.{last_below}
use Rattle.vc_value.proofs.grains.GrainList.ends_below.Goals as goal

pub returns-in-Some : goal.returns-in-Some
returns-in-Some c =
    let grains = c.self.inside.grains.items in
    let last = c.in-Some.last.now in
    let is_last : last ≡ get_or grains (length grains - 1) last
    = cc (c.in-Some.ensures.item.1, c.deref.ensures.value) in
    c.lies_below.ensures ∙ ap (is_below c.args.number) is_last
    ∙ last_below c.args.number grains last c.self.invariant.0
    (omega (arith, c.in-Some.ensures.item.3.0, ap length c.deref.ensures.value))
    ∙ ap (list_all (is_below c.args.number)) c.self.view_is
