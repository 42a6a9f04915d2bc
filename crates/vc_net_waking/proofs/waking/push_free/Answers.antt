-- Each of these waits for nothing, so each is met.
use Rattle.std.proofs.Common.{◌∙◌, ap, sym}
use Rattle.std.specs.List.{filter}
use Rattle.vc_net_readers.specs.Filing.{list_at}
use Rattle.vc_net_waking.specs.Waking.{may_say, rules_in, with_givers}
use Rattle.vc_net_waking.proofs.GiverLaws.{free_met}
use Rattle.vc_net_waking.proofs.waking.push_free.Goals as goal

pub returns : goal.returns
returns g c =
    c.push_unless_at_rest.ensures
    ∙ (ap (λ rules. with_givers c.args.agenda.now
    (rules_in (filter (may_say c.args.plan.now (g.V.View.seen c.args.view.now)) rules)))
    (c.free.ensures ∙ ap (λ r. list_at r.free c.args.var) c.requires.readers)
    ∙ ap (with_givers c.args.agenda.now)
    (sym (free_met c.args.plan.now (g.V.View.seen c.args.view.now) c.args.var)))
