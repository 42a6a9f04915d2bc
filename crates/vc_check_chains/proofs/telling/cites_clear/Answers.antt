-- All is there that the numbers cite.
use Rattle.std.proofs.Common.{rules, ◌≡◌, ◌∙◌, true, [], ◌∷◌}
use Rattle.vc_base.specs.Chains.{cited}
use Rattle.vc_plan.specs.declared.atoms.Atom.TheVariants.{Here}
use Rattle.vc_plan.specs.Clear.{is_clear}
use Rattle.vc_plan_reasons.specs.Checking.{concluded}
use Rattle.vc_check.specs.Citing.{if_there, with_cited}
use Rattle.vc_check_chains.proofs.TellingLemmas.{clear_there}
use Rattle.vc_check_chains.proofs.telling.cites_clear.Goals as goal

pub returns : goal.returns
returns c =
    let told : if_there true c.cite.new.set
    ≡ with_cited (Here 0 ∷ []) (cited (concluded c.args.steps.now) c.args.numbers.now) = search rules in
    let clear : c.in_ok-r.r ≡ is_clear c.args.plan.now c.cite.new.set = search rules in
    clear
    ∙ clear_there (is_clear c.args.plan.now) c.cite.new.set (cited (concluded c.args.steps.now) c.args.numbers.now) told
