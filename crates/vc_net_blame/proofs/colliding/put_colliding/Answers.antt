-- Where each variable has a grain left a pair is put.
use Rattle.std.proofs.Common.{sym, ◌∙◌, ap, ◌++◌, ◌∷◌, []}
use Rattle.vc_plan_blame.specs.Blame.{beside_atom, colliding_by}
use Rattle.vc_net_standing.specs.Standing.{atoms_of}
use Rattle.vc_net_blame.specs.Searching.{pushed_all}
use Rattle.vc_net_blame.proofs.colliding.put_colliding.Goals as goal

pub returns-in-None : goal.returns-in-None
returns-in-None c =
    let plan = c.args.plan.now in
    let atom = c.args.atom in
    let stand = atoms_of c.args.standing.now.facts ++ atom ∷ [] in
    c.put_pair.ensures
    ∙ (ap (λ facts. pushed_all c.args.premises.now (beside_atom plan (atoms_of facts ++ atom ∷ []) atom))
    c.facts.ensures
    ∙ ap (λ o. pushed_all c.args.premises.now (colliding_by plan stand atom o))
    (sym c.in-None.is ∙ c.exhausted.ensures))
