-- The steps conclude what stands.
use Rattle.std.proofs.Common.{◌∙◌, List, ap}
use Rattle.std.specs.Prelude.{position}
use Rattle.vc_plan.specs.Seen.{same_atom}
use Rattle.vc_plan.specs.declared.atoms.Atom.{Atom}
use Rattle.vc_net_log.proofs.KeptLaws.{concludes}
use Rattle.vc_net_log.proofs.log.Log.number_of.Goals as goal

pub returns : goal.returns
returns c =
    let s = c.self.inside in
    c.number_of.ensures
    ∙ ap (λ (atoms : List Atom). position (same_atom c.args.atom) atoms)
    (concludes s.standing s.cells s.counts s.premises c.args.self.now c.self.view_is)
