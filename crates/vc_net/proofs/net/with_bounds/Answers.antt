-- The work begins with no sources.
use Rattle.std.proofs.Common.{[], ap, length, subst, sym, ◌∙◌}
use Rattle.std.proofs.lemmas.List.{length-replicate}
use Rattle.vc_plan.specs.Sources.{Sources}
use Rattle.vc_net_going.specs.Going.{IsGoing}
use Rattle.vc_rule_yield.specs.Yielding.{Yielded}
use Rattle.vc_net_laws.specs.Wakings.{things_of}
use Rattle.vc_net_waking.proofs.StartLaws.{beginners_are_on}
use Rattle.vc_net.specs.Costing.{IsBehind}
use Rattle.vc_plan_reasons.specs.Fitting.{sources_fit}
use Rattle.vc_net.proofs.ChangeLaws.{nothing_fits}
use Rattle.vc_net.proofs.EndLaws.{work_restarts}
use Rattle.vc_net.proofs.net.with_bounds.Goals as goal

pub returns-clause-of : goal.returns-clause-of
returns-clause-of c =
    let plan = c.args.plan.now in
    record {
      going = subst (λ work. IsGoing plan c.in_ok-sources.sources work []) (sym c.restart.ensures)
          (work_restarts plan c.in_ok-sources.sources c.in_ok-work.work c.requires.valid c.in_ok-work.ensures);
      rooms = ap (λ (y : Yielded). y.rooms) c.in_ok-out.ensures;
      sources = (
        ap (λ (s : Sources). length s.user) c.in_ok-sources.ensures ∙ length-replicate (length plan.vars) _,
        ap (λ (s : Sources). length s.written) c.in_ok-sources.ensures ∙ length-replicate (length plan.vars) _,
      );
      fits = ap (sources_fit plan) c.in_ok-sources.ensures ∙ nothing_fits plan (length plan.vars);
    }

pub returns-clause-behind : goal.returns-clause-behind
returns-clause-behind c =
    let plan = c.args.plan.now in
    subst (IsBehind plan (things_of plan)) (sym c.restart.ensures)
    (beginners_are_on plan c.in_ok-work.work.agenda c.requires.valid c.in_ok-work.ensures.sizes)
