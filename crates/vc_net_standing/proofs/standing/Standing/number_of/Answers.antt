-- The number at an atom's place is that of the fact.
use Rattle.std.proofs.Common.{◌∙◌, ap}
use Rattle.std.specs.Prelude.{position}
use Rattle.vc_plan.specs.Seen.{same_atom}
use Rattle.vc_net_standing.specs.Standing.{Stood, atoms_of}
use Rattle.vc_net_standing.proofs.StandingLaws.{number_read}
use Rattle.vc_net_standing.proofs.standing.Standing.number_of.Goals as goal

pub returns : goal.returns
returns c =
    let s = c.self.inside in
    let n = c.number_at-number.result in
    c.number_if_of.ensures
    ∙ (number_read s.places s.numbers s.facts c.self.invariant c.args.atom c.as_slice.result.now c.as_slice-2.result.now
    c.place_of.result n c.as_slice.ensures c.place_of.ensures c.number_at-number.ensures c.as_slice-2.ensures
    ∙ ap (λ (stood : Stood). position (same_atom c.args.atom) (atoms_of stood.facts)) c.self.view_is)
