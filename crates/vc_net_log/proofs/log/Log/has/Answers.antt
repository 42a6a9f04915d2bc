-- The steps conclude what stands.
use Rattle.std.proofs.Common.{◌∙◌, List, ap}
use Rattle.vc_base.specs.Sets.{has}
use Rattle.vc_plan.specs.Seen.{same_atom}
use Rattle.vc_plan.specs.declared.atoms.Atom.{Atom}
use Rattle.vc_net_log.proofs.KeptLaws.{concludes}
use Rattle.vc_net_log.proofs.log.Log.has.Goals as goal

pub returns : goal.returns
returns c =
    let s = c.self.inside in
    c.has.ensures
    ∙ ap (λ (atoms : List Atom). has same_atom atoms c.args.atom)
    (concludes s.standing s.cells s.counts s.premises c.args.self.now c.self.view_is)
