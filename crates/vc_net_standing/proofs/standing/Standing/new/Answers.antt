-- Nothing stands at first.
use Rattle.std.proofs.Common.{◌≡◌, ◌∙◌, ap, arith, length}
use Rattle.vc_plan.specs.Domains.{atom_count}
use Rattle.vc_net_places.specs.Places.{Index}
use Rattle.vc_net_places.proofs.PlaceLaws.Things.{things_are_counted}
use Rattle.vc_net_standing.proofs.StandingLaws.{nothing_numbered}
use Rattle.vc_net_standing.proofs.standing.Standing.new.Goals as goal

pub invariant_of-result : goal.invariant_of-result
invariant_of-result c =
    let index : Index = c.in_ok-places.places in
    let counted : length index.things ≡ atom_count c.args.plan.now
    = ap (λ (i : Index). length i.things) c.in_ok-places.ensures ∙ things_are_counted c.args.plan.now in
    nothing_numbered index c.in_ok-numbers.numbers c.in_ok-facts.facts c.count-count.result
    (omega (arith, counted, c.requires))
    c.count-count.ensures c.in_ok-numbers.ensures c.in_ok-facts.ensures
