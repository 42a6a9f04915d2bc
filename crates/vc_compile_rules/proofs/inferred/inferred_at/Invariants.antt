use Rattle.std.proofs.Common.{◌≡◌, [], drop, map}
use Rattle.vc_compile_plan.specs.Sites.{var_meant}
use Rattle.vc_compile_layout.specs.Standing.{layout_seen}
use Rattle.vc_compile_sites.specs.Standing.{site_seen}
use Rattle.vc_compile_rules.specs.Inferring.{with_numbers}
use Rattle.vc_compile_rules.proofs.inferred.inferred_at.Given as goal

abbrev pub invariant-loop-operand : goal.invariant-loop-operand
invariant-loop-operand l =
    (l.met.keys ≡ l.vars)
    × (with_numbers l.vars
    (map (var_meant (layout_seen l.layout) (site_seen l.site)) (drop l.operand-index l.inferences))
    ≡ with_numbers [] (map (var_meant (layout_seen l.layout) (site_seen l.site)) l.inferences))
