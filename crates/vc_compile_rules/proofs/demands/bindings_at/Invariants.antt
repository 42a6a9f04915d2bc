use Rattle.std.proofs.Common.{◌≡◌, ◌++◌, drop, map}
use Rattle.vc_syntax_tree.specs.Trees.{binding_of}
use Rattle.vc_compile_plan.specs.Rules.{binding_at}
use Rattle.vc_compile_layout.specs.Standing.{layout_seen}
use Rattle.vc_compile_sites.specs.Standing.{site_seen}
use Rattle.vc_compile_rules.proofs.demands.bindings_at.Given as goal

abbrev pub invariant-loop-binding : goal.invariant-loop-binding
invariant-loop-binding l =
    l.given ++ map (binding_at (layout_seen l.layout) (site_seen l.site) l.table)
    (map binding_of (drop l.binding-index l.bindings))
    ≡ map (binding_at (layout_seen l.layout) (site_seen l.site) l.table) (map binding_of l.bindings)
