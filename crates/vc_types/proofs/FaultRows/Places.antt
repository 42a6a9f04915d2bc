-- What may not be asked where the dependency stands.
use Rattle.std.proofs.Common.{◌≡◌, ℕ, List, [], ◌∷◌, refl}
use Rattle.std.specs.Prelude.{None, Some, codes}
use Rattle.vc_syntax_tree.specs.declared.Operator.TheVariants.{Plus}
use Rattle.vc_syntax_tree.specs.declared.Owner.TheVariants.{Itself}
use Rattle.vc_syntax_tree.specs.declared.Relator.TheVariants.{Equal}
use Rattle.vc_syntax_tree.specs.Trees.{Binding, Condition, And, Or, Not, PartOf, Specified, Operand, Negated, Combined}
use Rattle.vc_syntax_tree.specs.Trees.{SumOfParts, CountOfParts, Precondition, Selection, Procedure, Counts}
use Rattle.vc_syntax_tree.specs.Trees.{Constrains, Holds, Never, Assign, Calls, Dependency}
use Rattle.vc_types.specs.Faults.{fault_of}
use Rattle.vc_types.specs.declared.fault.TypeFaultKind.TheVariants.{NotMonotone, SelfInConstraint, SelfInLine, NoKey}
use Rattle.vc_types.specs.declared.fault.TypeFaultKind.TheVariants.{NotATerm, SumPlace, PartOfPlace}
use Rattle.vc_types.proofs.FaultRows.Small.{Quantity, small, in_net, at_root, by_root, at_line, at_plain_line}
use Rattle.vc_types.proofs.FaultRows.Small.{at_operation, leaf, plain, owned, member, text, number, related, equals}
use Rattle.vc_types.proofs.FaultRows.Small.{of_class, restricts}

-- SPECIFIED under NOT: in a net and at a configurable line, whatever stands between, also under two
denied : (q : Quantity)
    → fault_of (small q) in_net
    (restricts (of_class (codes "X") (codes "K") ∷ []) (Not (Specified (member (codes "X") (codes "A")))))
    ≡ Some NotMonotone
denied q = refl

denied_twice : (q : Quantity)
    → fault_of (small q) in_net
    (restricts (of_class (codes "X") (codes "K") ∷ []) (Not (Not (Specified (member (codes "X") (codes "A"))))))
    ≡ Some NotMonotone
denied_twice q = refl

denied_deep : (q : Quantity)
    → fault_of (small q) at_line
    (Selection (And (Specified (plain (codes "A")))
    (Not (Or (equals (plain (codes "A")) (text (codes "X"))) (Specified (plain (codes "N"))))))) ≡ Some NotMonotone
denied_deep q = refl

not_denied : (q : Quantity)
    → fault_of (small q) at_line
    (Selection (And (Not (equals (plain (codes "A")) (text (codes "X")))) (Specified (plain (codes "A"))))) ≡ None
not_denied q = refl

denied_at_plain_line : (q : Quantity)
    → fault_of (small q) at_plain_line (Selection (Not (Specified (plain (codes "A"))))) ≡ None
denied_at_plain_line q = refl

denied_at_characteristic : (q : Quantity)
    → fault_of (small q) at_root (Precondition (Not (Specified (plain (codes "A"))))) ≡ None
denied_at_characteristic q = refl

set_at_line : (q : Quantity)
    → fault_of (small q) at_line (Selection (equals (plain (codes "S")) (text (codes "X")))) ≡ Some NotMonotone
set_at_line q = refl

set_at_plain_line : (q : Quantity)
    → fault_of (small q) at_plain_line (Selection (equals (plain (codes "S")) (text (codes "X")))) ≡ None
set_at_plain_line q = refl

-- a look-up has all keys, another column, and gives that to a characteristic of the instance
abbrev looks_up : List ℕ → List Binding → Dependency
looks_up table bindings =
    Procedure (record { action = Calls (record { table = leaf table; bindings = bindings }); condition = None } ∷ [])

abbrev key_a : Binding
key_a = record { column = leaf (codes "A"); value = text (codes "X") }

abbrev own_n : Binding
own_n = record { column = leaf (codes "N"); value = Operand (owned Itself (codes "N")) }

keyed : (q : Quantity) → fault_of (small q) by_root (looks_up (codes "T") (key_a ∷ own_n ∷ [])) ≡ None
keyed q = refl

without_key : (q : Quantity)
    → fault_of (small q) by_root
    (looks_up (codes "U")
    (record { column = leaf (codes "A"); value = Operand (owned Itself (codes "A")) } ∷ own_n ∷ [])) ≡ Some NoKey
without_key q = refl

key_missing : (q : Quantity) → fault_of (small q) by_root (looks_up (codes "T") (own_n ∷ [])) ≡ Some NoKey
key_missing q = refl

no_other : (q : Quantity) → fault_of (small q) by_root (looks_up (codes "T") (key_a ∷ [])) ≡ Some NoKey
no_other q = refl

other_plain : (q : Quantity)
    → fault_of (small q) by_root
    (looks_up (codes "T") (key_a ∷ record { column = leaf (codes "N"); value = Operand (plain (codes "N")) } ∷ []))
    ≡ Some NoKey
other_plain q = refl

other_literal : (q : Quantity)
    → fault_of (small q) by_root
    (looks_up (codes "T") (key_a ∷ record { column = leaf (codes "N"); value = number 5 } ∷ [])) ≡ Some NoKey
other_literal q = refl

-- a constraint's table has characteristics and literals, and needs no key
abbrev demands : List ℕ → List Binding → Dependency
demands table bindings = Constrains (record {
  objects = of_class (codes "X") (codes "K") ∷ [];
  condition = None;
  restrictions = record { demand = Holds (record { table = leaf table; bindings = bindings }); condition = None } ∷ [];
  inferences = [];
})

abbrev of_n : Binding
of_n = record { column = leaf (codes "N"); value = Operand (member (codes "X") (codes "N")) }

keyless : (q : Quantity) → fault_of (small q) in_net (demands (codes "U") (of_n ∷ key_a ∷ [])) ≡ None
keyless q = refl

minus_literal : (q : Quantity)
    → fault_of (small q) in_net
    (demands (codes "U") (record { column = leaf (codes "N"); value = Negated (number 5) } ∷ [])) ≡ None
minus_literal q = refl

computed : (q : Quantity)
    → fault_of (small q) in_net
    (demands (codes "U") (record { column = leaf (codes "N"); value = Combined (number 5) Plus (number 5) } ∷ []))
    ≡ Some NotATerm
computed q = refl

minus_operand : (q : Quantity)
    → fault_of (small q) in_net
    (demands (codes "U")
    (record { column = leaf (codes "N"); value = Negated (Operand (member (codes "X") (codes "N"))) } ∷ []))
    ≡ Some NotATerm
minus_operand q = refl

-- part sums: in a procedure, its IF too; nowhere else, and in a net or a line they speak of $SELF, whatever they sum
sum_in_if : (q : Quantity)
    → fault_of (small q) by_root
    (Procedure (record {
      action = Assign (leaf (codes "N")) (number 1);
      condition =
          Some (related (SumOfParts (leaf (codes "W"))) Equal (number 1));
    } ∷ [])) ≡ None
sum_in_if q = refl

sum_in_quantity : (q : Quantity)
    → fault_of (small q) at_line (Counts (Combined (number 1) Plus (SumOfParts (leaf (codes "Q"))))) ≡ Some SelfInLine
sum_in_quantity q = refl

count_in_line : (q : Quantity)
    → fault_of (small q) at_plain_line (Selection (related (number 1) Equal CountOfParts)) ≡ Some SelfInLine
count_in_line q = refl

count_in_time : (q : Quantity) → fault_of (small q) at_operation (Counts CountOfParts) ≡ Some SumPlace
count_in_time q = refl

sum_in_precondition : (q : Quantity)
    → fault_of (small q) at_root
    (Precondition (related (number 1) Equal (Combined (number 1) Plus (SumOfParts (leaf (codes "W")))))) ≡ Some SumPlace
sum_in_precondition q = refl

sum_in_net : (q : Quantity)
    → fault_of (small q) in_net
    (restricts (of_class (codes "X") (codes "K") ∷ []) (related (number 1) Equal (SumOfParts (leaf (codes "Q")))))
    ≡ Some SelfInConstraint
sum_in_net q = refl

-- PART_OF: as CONDITION, or as a part that AND joins there, also deeper to the left or right; not under OR, NOT, nor in
-- IF
abbrev parts : Condition
parts = PartOf (leaf (codes "X")) (leaf (codes "Y"))

abbrev with_parts : Condition → Dependency
with_parts condition = restricts (of_class (codes "X") (codes "D") ∷ of_class (codes "Y") (codes "K") ∷ []) condition

abbrev is_x : Condition
is_x = equals (member (codes "Y") (codes "A")) (text (codes "X"))

part_alone : (q : Quantity) → fault_of (small q) in_net (with_parts parts) ≡ None
part_alone q = refl

part_joined : (q : Quantity) → fault_of (small q) in_net (with_parts (And (And is_x parts) is_x)) ≡ None
part_joined q = refl

part_joined_right : (q : Quantity) → fault_of (small q) in_net (with_parts (And is_x (And is_x parts))) ≡ None
part_joined_right q = refl

part_under_or : (q : Quantity) → fault_of (small q) in_net (with_parts (Or parts is_x)) ≡ Some PartOfPlace
part_under_or q = refl

part_under_not : (q : Quantity) → fault_of (small q) in_net (with_parts (And parts (Not parts))) ≡ Some PartOfPlace
part_under_not q = refl

part_under_and_in_or : (q : Quantity)
    → fault_of (small q) in_net (with_parts (Or is_x (And parts is_x))) ≡ Some PartOfPlace
part_under_and_in_or q = refl

part_in_if : (q : Quantity) → fault_of (small q) in_net (Constrains (record {
  objects = of_class (codes "X") (codes "D") ∷ of_class (codes "Y") (codes "K") ∷ [];
  condition = None;
  restrictions = record { demand = Never; condition = Some parts } ∷ [];
  inferences = [];
})) ≡ Some PartOfPlace
part_in_if q = refl
