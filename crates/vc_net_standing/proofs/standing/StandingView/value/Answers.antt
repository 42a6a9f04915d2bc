-- The number at the place of a variable's value is that of the fact.
use Rattle.std.proofs.Common.{◌∙◌, ap}
use Rattle.vc_plan.specs.Seen.{value_in}
use Rattle.vc_net_standing.specs.Standing.{Stood, atoms_of}
use Rattle.vc_net_standing.proofs.StandingLaws.{value_read}
use Rattle.vc_net_standing.proofs.standing.StandingView.value.Goals as goal

pub returns : goal.returns
returns c =
    let s = c.self.inside in
    c.value_if_of.ensures
    ∙ (value_read s.places s.numbers s.facts c.self.invariant c.args.var c.as_slice.result.now c.as_slice-2.result.now
    c.first.result c.number_at-number.result c.as_slice.ensures c.first.ensures.place c.number_at-number.ensures
    c.as_slice-2.ensures
    ∙ ap (λ (stood : Stood). value_in (atoms_of stood.facts) c.args.var) c.self.view_is)
