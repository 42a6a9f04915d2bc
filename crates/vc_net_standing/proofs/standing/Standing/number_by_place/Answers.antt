-- The number at a place is that of the fact there.
use Rattle.std.proofs.Common.{◌∙◌, ap}
use Rattle.std.specs.Prelude.{nat_eq, position}
use Rattle.vc_net_standing.specs.Standing.{Stood, places_of}
use Rattle.vc_net_standing.proofs.StandingLaws.{numbers_small, place_read}
use Rattle.vc_net_standing.proofs.standing.Standing.number_by_place.Goals as goal

pub returns-clause-number : goal.returns-clause-number
returns-clause-number c =
    let s = c.self.inside in
    c.number_if_at.ensures
    ∙ (place_read s.places s.numbers s.facts c.self.invariant c.args.place c.as_slice.result.now c.as_slice-2.result.now
    c.number_at-number.result c.as_slice.ensures c.number_at-number.ensures c.as_slice-2.ensures
    ∙ ap (λ (stood : Stood). position (nat_eq c.args.place) (places_of stood.index stood.facts)) c.self.view_is)

pub returns-clause-few : goal.returns-clause-few
returns-clause-few c =
    let s = c.self.inside in
    numbers_small s.places s.numbers s.facts c.self.invariant c.args.place c.number_if_at.result
    (c.number_if_at.ensures
    ∙ place_read s.places s.numbers s.facts c.self.invariant c.args.place c.as_slice.result.now c.as_slice-2.result.now
    c.number_at-number.result c.as_slice.ensures c.number_at-number.ensures c.as_slice-2.ensures)
