-- The work goes on with the sources, which then are the net's; the steps that come do so behind those that are kept.
use Rattle.std.proofs.Common.{[], sym, subst}
use Rattle.vc_net_going.specs.Going.{IsGoing}
use Rattle.vc_net_going.specs.Behind.{StaysBehind}
use Rattle.vc_net.specs.Costing.{CostsItsWork}
use Rattle.vc_net.specs.Nets.{IsNetOf, Netted}
use Rattle.vc_net.proofs.CostLaws.{renewing_costs}
use Rattle.vc_net.proofs.net.Net.sync.Goals as goal

pub renew-requires-clause-going : goal.renew-requires-clause-going
renew-requires-clause-going g c =
    let of = subst (IsNetOf c.args.plan.now) (sym c.self.view_is) c.requires.of in of.going

pub settle-requires-clause-going : goal.settle-requires-clause-going
settle-requires-clause-going g c =
    subst (λ sources. IsGoing c.args.plan.now sources c.renew.new.work []) (sym c.copy_from.ensures)
    c.renew.ensures.going

pub returns-clause-cost : goal.returns-clause-cost
returns-clause-cost g c =
    let plan = c.args.plan.now in
    let old : Netted = record {
      sources = c.self.inside.sources;
      work = c.self.inside.work;
      rooms = c.self.inside.out.rooms;
    } in
    let new : Netted = record {
      sources = c.copy_from.new.self;
      work = c.settle.new.work;
      rooms = c.settle.new.out.rooms;
    } in
    subst (λ (was : Netted). CostsItsWork plan was new c.args.steps.now c.settle.new.steps) c.self.view_is
    (renewing_costs plan old new c.renew.new.work c.args.steps.now c.settle.new.steps c.requires.valid
    (subst (λ sources. StaysBehind plan old.sources sources old.work c.renew.new.work) (sym c.copy_from.ensures)
    c.renew.ensures.behind)
    c.settle.ensures.paid c.settle.ensures.settled c.settle.ensures.rest)
