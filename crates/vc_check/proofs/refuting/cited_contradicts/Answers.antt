-- All is there that the clash cites.
use Rattle.std.proofs.Common.{rules, ◌≡◌, true, [], ◌∷◌}
use Rattle.vc_base.specs.Chains.{cited}
use Rattle.vc_plan.specs.declared.atoms.Atom.TheVariants.{Here}
use Rattle.vc_plan_reasons.specs.Checking.{concluded}
use Rattle.vc_check.specs.Citing.{if_there, with_cited}
use Rattle.vc_check.proofs.ClashLemmas.{contradicts_there}
use Rattle.vc_check.proofs.refuting.cited_contradicts.Goals as goal

pub returns : goal.returns
returns c =
    let clash = c.args.clash.now in
    let told : if_there true c.cite.new.set
    ≡ with_cited (Here 0 ∷ []) (cited (concluded clash.steps) clash.premises) = search rules in
    contradicts_there c.args.plan.now c.args.sources.now clash c.cite.new.set c.in_ok-r.r told (search rules)
