-- The counts of grains tell which atoms may come.
use Rattle.std.proofs.Common.{◌∙◌, ap, sym}
use Rattle.vc_net_standing.specs.Coming.{may_come}
use Rattle.vc_net_standing.specs.Standing.{seen_by}
use Rattle.vc_net_log.proofs.ComingLaws.{here_comes, may_come_told, out_comes}
use Rattle.vc_net_log.proofs.log.Log.may_come.Goals as goal

pub returns-in-Here : goal.returns-in-Here
returns-in-Here c =
    let s = c.self.inside in
    c.may_come_here.ensures
    ∙ here_comes s.standing s.cells s.counts s.premises s.outs c.self.invariant c.args.self.now c.self.view_is
    c.args.plan.now c.requires.index c.requires.clear c.args.atom c.in-Here.slot c.as_slice-outs.result.now
    c.as_slice-outs.ensures c.in-Here.is

pub returns-in-Out : goal.returns-in-Out
returns-in-Out c =
    let s = c.self.inside in
    c.may_come_out.ensures
    ∙ out_comes s.standing s.cells s.counts s.premises s.outs c.self.invariant c.args.self.now c.self.view_is
    c.args.plan.now c.requires.index c.requires.clear c.args.atom c.in-Out.var c.in-Out.grain c.as_slice-outs.result.now
    c.as_slice-outs.ensures c.in-Out.is

pub returns-in-Is : goal.returns-in-Is
returns-in-Is c =
    let s = c.self.inside in
    c.may_come_is.ensures
    ∙ (ap (may_come c.args.plan.now (seen_by s.standing)) (sym c.in-Is.is)
    ∙ may_come_told s.standing s.cells s.counts s.premises s.outs c.self.invariant c.args.self.now c.self.view_is
    c.args.plan.now c.requires.index c.requires.clear c.args.atom)
