-- The steps conclude what stands.
use Rattle.std.proofs.Common.{◌∙◌, List, ap}
use Rattle.vc_plan.specs.Seen.{seen_of}
use Rattle.vc_plan_reasons.specs.Checking.{set_with}
use Rattle.vc_plan.specs.declared.atoms.Atom.{Atom}
use Rattle.vc_net_log.proofs.KeptLaws.{concludes}
use Rattle.vc_net_log.proofs.log.LogView.value.Goals as goal

pub returns : goal.returns
returns c =
    let s = c.self.inside in
    c.value.ensures
    ∙ ap (λ (atoms : List Atom). (seen_of (set_with atoms)).value c.args.var)
    (concludes s.standing s.cells s.counts s.premises c.args.self.now c.self.view_is)
