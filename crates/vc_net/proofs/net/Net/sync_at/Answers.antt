-- The work goes on as with all variables, since what is written differs nowhere else.
use Rattle.std.proofs.Common.{[], sym, subst}
use Rattle.vc_net_going.specs.Behind.{StaysBehind}
use Rattle.vc_net.specs.Costing.{CostsItsWork}
use Rattle.vc_net.specs.Differing.{SameBeside}
use Rattle.vc_net_going.specs.Going.{IsGoing}
use Rattle.vc_net.specs.Nets.{IsNetOf, Netted}
use Rattle.vc_net.proofs.ChangeLaws.{fits_are_same}
use Rattle.vc_net.proofs.CostLaws.{renewing_costs}
use Rattle.vc_net.proofs.net.Net.sync_at.Goals as goal

pub renew_at-requires-clause-going : goal.renew_at-requires-clause-going
renew_at-requires-clause-going g c =
    let of = subst (IsNetOf c.args.plan.now) (sym c.self.view_is) c.requires.of in of.going

pub renew_at-requires-clause-lengths : goal.renew_at-requires-clause-lengths
renew_at-requires-clause-lengths g c =
    let of = subst (IsNetOf c.args.plan.now) (sym c.self.view_is) c.requires.of in of.sources

pub renew_at-requires-clause-touched : goal.renew_at-requires-clause-touched
renew_at-requires-clause-touched g c =
    subst (λ (net : Netted). SameBeside c.args.touched.now net.sources.user c.args.sources.now.user)
    (sym c.self.view_is) c.requires.touched

pub renew_at-requires-clause-written : goal.renew_at-requires-clause-written
renew_at-requires-clause-written g c =
    let of = subst (IsNetOf c.args.plan.now) (sym c.self.view_is) c.requires.of in
    fits_are_same c.args.plan.now c.self.inside.sources c.args.sources.now c.args.written.now of.fits c.requires.fits
    c.requires.written

pub copy_at-requires-clause-lengths : goal.copy_at-requires-clause-lengths
copy_at-requires-clause-lengths g c =
    let of = subst (IsNetOf c.args.plan.now) (sym c.self.view_is) c.requires.of in of.sources

pub copy_at-requires-clause-touched : goal.copy_at-requires-clause-touched
copy_at-requires-clause-touched g c =
    subst (λ (net : Netted). SameBeside c.args.touched.now net.sources.user c.args.sources.now.user)
    (sym c.self.view_is) c.requires.touched

pub copy_at-requires-clause-written : goal.copy_at-requires-clause-written
copy_at-requires-clause-written g c =
    let of = subst (IsNetOf c.args.plan.now) (sym c.self.view_is) c.requires.of in
    fits_are_same c.args.plan.now c.self.inside.sources c.args.sources.now c.args.written.now of.fits c.requires.fits
    c.requires.written

pub settle-requires-clause-going : goal.settle-requires-clause-going
settle-requires-clause-going g c =
    subst (λ sources. IsGoing c.args.plan.now sources c.renew_at.new.work []) (sym c.copy_at.ensures)
    c.renew_at.ensures.going

pub returns-clause-cost : goal.returns-clause-cost
returns-clause-cost g c =
    let plan = c.args.plan.now in
    let old : Netted = record {
      sources = c.self.inside.sources;
      work = c.self.inside.work;
      rooms = c.self.inside.out.rooms;
    } in
    let new : Netted = record {
      sources = c.copy_at.new.sources;
      work = c.settle.new.work;
      rooms = c.settle.new.out.rooms;
    } in
    subst (λ (was : Netted). CostsItsWork plan was new c.args.steps.now c.settle.new.steps) c.self.view_is
    (renewing_costs plan old new c.renew_at.new.work c.args.steps.now c.settle.new.steps c.requires.valid
    (subst (λ sources. StaysBehind plan old.sources sources old.work c.renew_at.new.work) (sym c.copy_at.ensures)
    c.renew_at.ensures.behind)
    c.settle.ensures.paid c.settle.ensures.settled c.settle.ensures.rest)
