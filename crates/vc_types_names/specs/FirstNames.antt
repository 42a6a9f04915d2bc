-- Values by names, as a function from names.
use Rattle.std.specs.Prelude.{ℕ, List, Option, nat_eq}
use Rattle.std.specs.Cmp.Lexicographic.{pointwise}
use Rattle.std.specs.Map.{lookup}
use Rattle.vc_types_names.specs.declared.first_named.FirstNamed.{FirstNamed}

-- the value of a name
abbrev pub value_of : {V : Type 0} → FirstNamed V → List ℕ → Option V
value_of values name = lookup (λ key. pointwise nat_eq name key.items) values.met.entries
