-- No grain holds a value that is too large to be stored.
use Rattle.std.proofs.Common.{cond, ap, sym, ◌∙◌}
use Rattle.std.specs.Prelude.{[], ◌∷◌}
use Rattle.vc_base.specs.Rounds.{clash, atoms}
use Rattle.vc_plan.specs.declared.atoms.Atom.TheVariants.{Is}
use Rattle.vc_plan_values.specs.Values.{meant}
use Rattle.vc_plan_values.proofs.StoredLemmas.{not_stored}
use Rattle.vc_rule_sides.proofs.assigning.assign.Goals as goal

pub returns-in-None : goal.returns-in-None
returns-in-None c =
    let a = meant c.args.value in
    sym (ap (λ b. cond b (atoms (Is c.args.var a ∷ [])) clash)
    (not_stored c.args.plan.now c.requires c.args.var a (sym c.stored_value.ensures ∙ c.in-None.is)))
