use Rattle.std.proofs.Common.{◌≡◌, ℕ, List, false, take, is_some}
use Rattle.std.specs.List.{list_any}
use Rattle.std.specs.Str.{bytes_eq}
use Rattle.vc_types.specs.NameFaults.{some_twice}
use Rattle.vc_types_names.specs.FirstNames.{value_of}
use Rattle.vc_types_dependency.specs.DeclaredNames.{names_seen}
use Rattle.vc_types_dependency.proofs.doubles.some_twice.Given as goal

abbrev pub invariant-loop-leaf : goal.invariant-loop-leaf
invariant-loop-leaf l = record {
  met : (name : List ℕ)
      → is_some (value_of l.met name) ≡ list_any (λ n. bytes_eq n name) (names_seen (take l.leaf-index l.leaves));
  none : some_twice (names_seen (take l.leaf-index l.leaves)) ≡ false;
}
