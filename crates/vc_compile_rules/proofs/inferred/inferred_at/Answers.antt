use Rattle.std.proofs.Common.{◌∙◌, ap, map, sym}
use Rattle.std.proofs.lemmas.List.{drop_all}
use Rattle.vc_compile_plan.specs.Sites.{var_meant}
use Rattle.vc_compile_layout.specs.Standing.{layout_seen}
use Rattle.vc_compile_sites.specs.Standing.{site_seen}
use Rattle.vc_compile_rules.specs.Inferring.{with_numbers}
use Rattle.vc_compile_rules.proofs.InferringLemmas.{met_is_distinct}
use Rattle.vc_compile_rules.proofs.inferred.inferred_at.Goals as goal

pub returns : goal.returns
returns c =
    let var = var_meant (layout_seen c.args.layout.now) (site_seen c.args.site.now) in
    let operands = c.args.inferences.now in
    let gone = drop_all c.loop-operand.operand-index operands c.loop-operand-test.false in
    ap (λ rest. with_numbers c.loop-operand.vars (map var rest)) (sym gone) ∙ c.loop-operand.invariant.1
    ∙ met_is_distinct (map var operands)
