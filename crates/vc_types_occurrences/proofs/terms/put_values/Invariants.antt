use Rattle.std.proofs.Common.{◌≡◌, ◌++◌, drop, map, flat_map}
use Rattle.vc_syntax_tree.specs.Trees.{binding_of}
use Rattle.vc_types_occurrences.specs.Seen.{terms_seen}
use Rattle.vc_types_occurrences.proofs.terms.put_values.Given as goal

abbrev pub invariant-loop-binding : goal.invariant-loop-binding
invariant-loop-binding l =
    terms_seen l.out ++ map (λ b. b.value) (map binding_of (drop l.binding-index l.bindings))
    ≡ terms_seen l.fn.out ++ map (λ b. b.value) (map binding_of l.bindings)
