use Rattle.std.proofs.Common.{◌≡◌, ◌++◌, drop, map}
use Rattle.vc_types_dependency.specs.DeclaredNames.{names_seen}
use Rattle.vc_types_dependency.proofs.doubles.put_aliases.Given as goal

abbrev pub invariant-loop-alias : goal.invariant-loop-alias
invariant-loop-alias l = names_seen l.out ++ map (λ alias. alias.variable.name) (drop l.alias-index l.aliases)
    ≡ names_seen l.fn.out ++ map (λ alias. alias.variable.name) l.aliases
