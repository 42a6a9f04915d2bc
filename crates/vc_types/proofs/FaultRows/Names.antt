-- What isn't there, what stands twice, and whose characteristic is meant.
use Rattle.std.proofs.Common.{◌≡◌, [], ◌∷◌, refl}
use Rattle.std.specs.Prelude.{None, Some, codes}
use Rattle.vc_syntax_tree.specs.declared.ObjectKind.TheVariants as objects
use Rattle.vc_syntax_tree.specs.declared.Owner.TheVariants.{Itself, Parent, Root}
use Rattle.vc_syntax_tree.specs.Trees.{Operand, SumOfParts, PartOf, Precondition, Selection, Procedure, Counts, Assign}
use Rattle.vc_syntax_tree.specs.Trees.{Calls}
use Rattle.vc_types.specs.Faults.{fault_of}
use Rattle.vc_types.specs.declared.fault.TypeFaultKind.TheVariants.{UnknownName, DoubleName, SelfInConstraint, NoParent}
use Rattle.vc_types.specs.declared.fault.TypeFaultKind.TheVariants.{SelfInLine, VariableOutside, TooManyObjects}
use Rattle.vc_types.proofs.FaultRows.Small.{Quantity, small, in_net, at_root, at_part, by_root, at_line, at_plain_line}
use Rattle.vc_types.proofs.FaultRows.Small.{at_operation, at_part_operation, leaf, plain, owned, member, variable, text}
use Rattle.vc_types.proofs.FaultRows.Small.{number, equals, of_class, of_class_where, restricts}

-- A = 'X' stands at the root, and at the part, which has A too; W is the part's alone
sound : (q : Quantity)
    → fault_of (small q) at_root (Precondition (equals (plain (codes "A")) (text (codes "X")))) ≡ None
sound q = refl

sound_at_part : (q : Quantity)
    → fault_of (small q) at_part (Precondition (equals (plain (codes "W")) (number 1_000_000))) ≡ None
sound_at_part q = refl

unknown_at_root : (q : Quantity)
    → fault_of (small q) at_root (Precondition (equals (plain (codes "W")) (number 1_000_000))) ≡ Some UnknownName
unknown_at_root q = refl

unknown_nowhere : (q : Quantity)
    → fault_of (small q) at_root (Precondition (equals (plain (codes "Q")) (text (codes "X")))) ≡ Some UnknownName
unknown_nowhere q = refl

-- a text that no list has is no fault
unlisted : (q : Quantity)
    → fault_of (small q) at_root (Precondition (equals (plain (codes "A")) (text (codes "Z")))) ≡ None
unlisted q = refl

-- $PARENT and $ROOT are the machine, of which the part is
parent : (q : Quantity)
    → fault_of (small q) at_part (Precondition (equals (owned Parent (codes "N")) (number 0))) ≡ None
parent q = refl

root : (q : Quantity) → fault_of (small q) at_part (Precondition (equals (owned Root (codes "N")) (number 0))) ≡ None
root q = refl

itself : (q : Quantity)
    → fault_of (small q) at_part (Precondition (equals (owned Itself (codes "N")) (number 0))) ≡ Some UnknownName
itself q = refl

-- the root has no parent, and that alone is told; in a line $PARENT is the owner of the bill
no_parent : (q : Quantity)
    → fault_of (small q) at_root (Precondition (equals (owned Parent (codes "Q")) (number 0))) ≡ Some NoParent
no_parent q = refl

parent_of_line : (q : Quantity)
    → fault_of (small q) at_line (Selection (equals (owned Parent (codes "N")) (number 0))) ≡ None
parent_of_line q = refl

owner_of_line : (q : Quantity) → fault_of (small q) at_line (Selection (equals (plain (codes "N")) (number 0))) ≡ None
owner_of_line q = refl

self_in_line : (q : Quantity)
    → fault_of (small q) at_plain_line (Counts (Operand (owned Itself (codes "Q")))) ≡ Some SelfInLine
self_in_line q = refl

self_in_operation : (q : Quantity)
    → fault_of (small q) at_operation (Counts (Operand (owned Itself (codes "N")))) ≡ None
self_in_operation q = refl

parent_of_operation : (q : Quantity)
    → fault_of (small q) at_part_operation (Counts (Operand (owned Parent (codes "N")))) ≡ None
parent_of_operation q = refl

own_of_operation : (q : Quantity)
    → fault_of (small q) at_part_operation (Counts (Operand (owned Parent (codes "W")))) ≡ Some UnknownName
own_of_operation q = refl

root_of_line : (q : Quantity)
    → fault_of (small q) at_line (Selection (equals (owned Root (codes "N")) (number 0))) ≡ None
root_of_line q = refl

-- a constraint speaks by variables alone, and they are its own
by_variable : (q : Quantity)
    → fault_of (small q) in_net
    (restricts (of_class (codes "X") (codes "K") ∷ []) (equals (member (codes "X") (codes "A")) (text (codes "X"))))
    ≡ None
by_variable q = refl

by_self : (q : Quantity)
    → fault_of (small q) in_net
    (restricts (of_class (codes "X") (codes "K") ∷ []) (equals (owned Root (codes "Q")) (text (codes "X"))))
    ≡ Some SelfInConstraint
by_self q = refl

by_name : (q : Quantity)
    → fault_of (small q) in_net
    (restricts (of_class (codes "X") (codes "K") ∷ []) (equals (plain (codes "A")) (text (codes "X"))))
    ≡ Some SelfInConstraint
by_name q = refl

undeclared : (q : Quantity)
    → fault_of (small q) in_net
    (restricts (of_class (codes "X") (codes "K") ∷ []) (equals (member (codes "Y") (codes "A")) (text (codes "X"))))
    ≡ Some UnknownName
undeclared q = refl

outside : (q : Quantity)
    → fault_of (small q) at_root (Precondition (equals (member (codes "X") (codes "Q")) (text (codes "X"))))
    ≡ Some VariableOutside
outside q = refl

outside_in_line : (q : Quantity)
    → fault_of (small q) at_line (Selection (equals (variable (codes "V")) (number 0))) ≡ Some VariableOutside
outside_in_line q = refl

outside_in_operation : (q : Quantity)
    → fault_of (small q) at_operation (Counts (Operand (member (codes "X") (codes "N")))) ≡ Some VariableOutside
outside_in_operation q = refl

outside_in_procedure : (q : Quantity)
    → fault_of (small q) by_root
    (Procedure (record {
      action = Assign (leaf (codes "N")) (Operand (member (codes "X") (codes "N")));
      condition =
          None;
    } ∷ [])) ≡ Some VariableOutside
outside_in_procedure q = refl

part_outside : (q : Quantity)
    → fault_of (small q) at_root (Precondition (PartOf (leaf (codes "X")) (leaf (codes "Y")))) ≡ Some VariableOutside
part_outside q = refl

-- the class, and the object, must be there; the number of an object is its material in upper case
no_class : (q : Quantity)
    → fault_of (small q) in_net
    (restricts (of_class (codes "X") (codes "L") ∷ []) (equals (variable (codes "X")) (text (codes "X"))))
    ≡ Some UnknownName
no_class q = refl

of_material : (q : Quantity)
    → fault_of (small q) in_net
    (restricts (record {
      variable = leaf (codes "X");
      kind =
          objects.Material (record { text = codes "P"; start = 0; end = 0 });
      aliases = [];
    } ∷ [])
    (equals (member (codes "X") (codes "W")) (number 0))) ≡ None
of_material q = refl

of_lower_material : (q : Quantity)
    → fault_of (small q) in_net
    (restricts (record {
      variable = leaf (codes "X");
      kind =
          objects.Material (record { text = codes "p"; start = 0; end = 0 });
      aliases = [];
    } ∷ [])
    (equals (member (codes "X") (codes "W")) (number 0))) ≡ Some UnknownName
of_lower_material q = refl

-- WHERE names a characteristic of its object
where_known : (q : Quantity)
    → fault_of (small q) in_net
    (restricts (of_class_where (codes "X") (codes "K") (codes "V") (codes "A") ∷ [])
    (equals (variable (codes "V")) (text (codes "X")))) ≡ None
where_known q = refl

where_unknown : (q : Quantity)
    → fault_of (small q) in_net
    (restricts (of_class_where (codes "X") (codes "K") (codes "V") (codes "W") ∷ [])
    (equals (member (codes "X") (codes "A")) (text (codes "X")))) ≡ Some UnknownName
where_unknown q = refl

-- twice: two objects, an object and a value, a column
two_objects : (q : Quantity)
    → fault_of (small q) in_net
    (restricts (of_class (codes "X") (codes "K") ∷ of_class (codes "X") (codes "D") ∷ [])
    (equals (member (codes "X") (codes "A")) (text (codes "X")))) ≡ Some DoubleName
two_objects q = refl

object_and_value : (q : Quantity)
    → fault_of (small q) in_net
    (restricts (of_class_where (codes "X") (codes "K") (codes "X") (codes "A") ∷ [])
    (equals (member (codes "X") (codes "A")) (text (codes "X")))) ≡ Some DoubleName
object_and_value q = refl

-- part sums look at the parts: W is there, N isn't, in the part itself nothing is
sum_of_parts : (q : Quantity)
    → fault_of (small q) by_root
    (Procedure (record { action = Assign (leaf (codes "N")) (SumOfParts (leaf (codes "W"))); condition = None } ∷ []))
    ≡ None
sum_of_parts q = refl

sum_of_own : (q : Quantity)
    → fault_of (small q) by_root
    (Procedure (record { action = Assign (leaf (codes "N")) (SumOfParts (leaf (codes "N"))); condition = None } ∷ []))
    ≡ Some UnknownName
sum_of_own q = refl

-- tables and columns
no_table : (q : Quantity)
    → fault_of (small q) by_root
    (Procedure (record { action = Calls (record { table = leaf (codes "V"); bindings = [] }); condition = None } ∷ []))
    ≡ Some UnknownName
no_table q = refl

no_column : (q : Quantity)
    → fault_of (small q) by_root
    (Procedure (record {
      action =
          Calls (record {
            table = leaf (codes "T");
            bindings = record { column = leaf (codes "W"); value = number 0 }
                ∷ [];
          });
      condition = None;
    } ∷ [])) ≡ Some UnknownName
no_column q = refl

column_twice : (q : Quantity)
    → fault_of (small q) by_root
    (Procedure (record {
      action =
          Calls (record {
            table = leaf (codes "T");
            bindings = record { column = leaf (codes "A"); value = text (codes "X") }
                ∷ record { column = leaf (codes "A"); value = text (codes "X") } ∷ [];
          });
      condition = None;
    } ∷ []))
    ≡ Some DoubleName
column_twice q = refl

-- four variables of objects are allowed, five are not
four : (q : Quantity)
    → fault_of (small q) in_net
    (restricts (of_class (codes "X") (codes "K") ∷ of_class (codes "Y") (codes "K") ∷ of_class (codes "Z") (codes "K")
    ∷ of_class_where (codes "U") (codes "K") (codes "V") (codes "A") ∷ [])
    (equals (member (codes "X") (codes "A")) (text (codes "X")))) ≡ None
four q = refl

five : (q : Quantity)
    → fault_of (small q) in_net
    (restricts (of_class (codes "X") (codes "K") ∷ of_class (codes "Y") (codes "K") ∷ of_class (codes "Z") (codes "K")
    ∷ of_class (codes "U") (codes "K") ∷ of_class (codes "V") (codes "K") ∷ [])
    (equals (member (codes "X") (codes "A")) (text (codes "X")))) ≡ Some TooManyObjects
five q = refl
