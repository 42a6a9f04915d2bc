use Rattle.std.proofs.Common.{◌≡◌, ℕ, List, drop, map}
use Rattle.std.specs.Option.{option_or}
use Rattle.vc_types.specs.Meanings.{alias_of}
use Rattle.vc_types_names.specs.FirstNames.{value_of}
use Rattle.vc_types_meanings.specs.Referents.{referent_among}
use Rattle.vc_types_meanings.proofs.variables.add_aliases.Given as goal

abbrev pub invariant-loop-alias : goal.invariant-loop-alias
invariant-loop-alias l = (name : List ℕ) →
    option_or (value_of l.variables name)
    (referent_among (map (alias_of l.names.model.now l.class) (drop l.alias-index l.aliases)) name)
    ≡ option_or (value_of l.fn.variables name)
    (referent_among (map (alias_of l.names.model.now l.class) l.aliases) name)
