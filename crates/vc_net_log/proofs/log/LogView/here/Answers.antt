-- The steps conclude what stands.
use Rattle.std.proofs.Common.{◌∙◌, List, ap}
use Rattle.vc_plan.specs.Seen.{seen_of}
use Rattle.vc_plan_reasons.specs.Checking.{set_with}
use Rattle.vc_plan.specs.declared.atoms.Atom.{Atom}
use Rattle.vc_net_log.proofs.KeptLaws.{concludes}
use Rattle.vc_net_log.proofs.log.LogView.here.Goals as goal

pub returns : goal.returns
returns c =
    let s = c.self.inside in
    c.here.ensures
    ∙ ap (λ (atoms : List Atom). (seen_of (set_with atoms)).here c.args.slot)
    (concludes s.standing s.cells s.counts s.premises c.args.self.now c.self.view_is)
