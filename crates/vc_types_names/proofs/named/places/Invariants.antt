use Rattle.std.proofs.Common.{◌≡◌, ℕ, List, take}
use Rattle.std.specs.List.{position}
use Rattle.std.specs.Str.{bytes_eq}
use Rattle.vc_types_names.specs.FirstNames.{value_of}
use Rattle.vc_types_names.proofs.named.places.Given as goal

abbrev pub invariant-loop-number : goal.invariant-loop-number
invariant-loop-number g l = (name : List ℕ)
    → value_of l.index name ≡ position (λ x. bytes_eq (g.T.Named.name_of x) name) (take l.number l.list)
