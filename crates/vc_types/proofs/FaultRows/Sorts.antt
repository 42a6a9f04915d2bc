-- Texts and numbers that meet, sets, and what stands for something else.
use Rattle.std.proofs.Common.{◌≡◌, pos, true, List, [], ◌∷◌, refl}
use Rattle.std.specs.Prelude.{None, Some, codes}
use Rattle.vc_syntax_tree.specs.declared.Function.TheVariants.{Abs}
use Rattle.vc_syntax_tree.specs.declared.Item.{Item}
use Rattle.vc_syntax_tree.specs.declared.Item.TheVariants as items
use Rattle.vc_syntax_tree.specs.declared.Operator.TheVariants.{Plus}
use Rattle.vc_syntax_tree.specs.declared.SignedNumber.{SignedNumber}
use Rattle.vc_syntax_tree.specs.declared.Relator.TheVariants.{Equal, Unequal, Less}
use Rattle.vc_syntax_tree.specs.Trees.{Related, Within, PartOf, Specified, Operand, Negated, Combined, Applied}
use Rattle.vc_syntax_tree.specs.Trees.{SumOfParts, Precondition, Procedure, Counts, Constrains, Assign, SetDefault}
use Rattle.vc_syntax_tree.specs.Trees.{DelDefault, Calls}
use Rattle.vc_types.specs.Faults.{fault_of}
use Rattle.vc_types.specs.declared.fault.TypeFaultKind.TheVariants.{WrongKind, NotMonotone}
use Rattle.vc_types.proofs.FaultRows.Small.{Quantity, small, in_net, at_root, by_root, at_operation, leaf, plain}
use Rattle.vc_types.proofs.FaultRows.Small.{member, variable, text, number, related, equals, of_class, of_class_where}
use Rattle.vc_types.proofs.FaultRows.Small.{restricts}

abbrev listed_text : List Item
listed_text = items.Text (record { text = codes "X"; start = 0; end = 0 }) ∷ []

abbrev minus_five : SignedNumber
minus_five = record { negative = true; leaf = record { number = record { millionths = pos 5 }; start = 0; end = 0 } }

abbrev listed_number : List Item
listed_number = items.Number minus_five ∷ []

abbrev listed_interval : List Item
listed_interval = items.Interval minus_five minus_five ∷ []

-- a text meets a number, on either side, and in a list
text_for_number : (q : Quantity)
    → fault_of (small q) at_root (Precondition (equals (plain (codes "N")) (text (codes "X")))) ≡ Some WrongKind
text_for_number q = refl

number_for_text : (q : Quantity)
    → fault_of (small q) at_root (Precondition (related (number 5) Equal (Operand (plain (codes "A")))))
    ≡ Some WrongKind
number_for_text q = refl

two_literals : (q : Quantity)
    → fault_of (small q) at_root (Precondition (related (number 5) Equal (text (codes "X")))) ≡ Some WrongKind
two_literals q = refl

text_in_list : (q : Quantity)
    → fault_of (small q) at_root (Precondition (Related (Within (plain (codes "N")) listed_text))) ≡ Some WrongKind
text_in_list q = refl

number_in_list : (q : Quantity)
    → fault_of (small q) at_root (Precondition (Related (Within (plain (codes "N")) listed_number))) ≡ None
number_in_list q = refl

number_in_texts : (q : Quantity)
    → fault_of (small q) at_root (Precondition (Related (Within (plain (codes "A")) listed_number))) ≡ Some WrongKind
number_in_texts q = refl

interval_in_list : (q : Quantity)
    → fault_of (small q) at_root (Precondition (Related (Within (plain (codes "N")) listed_interval))) ≡ None
interval_in_list q = refl

interval_in_texts : (q : Quantity)
    → fault_of (small q) at_root (Precondition (Related (Within (plain (codes "A")) listed_interval))) ≡ Some WrongKind
interval_in_texts q = refl

-- an order of texts, and of numbers; texts may differ
order_of_texts : (q : Quantity)
    → fault_of (small q) at_root (Precondition (related (Operand (plain (codes "A"))) Less (text (codes "X"))))
    ≡ Some WrongKind
order_of_texts q = refl

order_of_numbers : (q : Quantity)
    → fault_of (small q) at_root (Precondition (related (Operand (plain (codes "N"))) Less (number 5))) ≡ None
order_of_numbers q = refl

texts_differ : (q : Quantity)
    → fault_of (small q) at_root (Precondition (related (Operand (plain (codes "A"))) Unequal (text (codes "X"))))
    ≡ None
texts_differ q = refl

-- arithmetic with a text: a sum, a minus, a function
sum_of_texts : (q : Quantity)
    → fault_of (small q) at_operation (Counts (Combined (number 1) Plus (Operand (plain (codes "A"))))) ≡ Some WrongKind
sum_of_texts q = refl

minus_text : (q : Quantity) → fault_of (small q) at_operation (Counts (Negated (text (codes "X")))) ≡ Some WrongKind
minus_text q = refl

function_of_text : (q : Quantity)
    → fault_of (small q) at_operation (Counts (Applied Abs (Operand (plain (codes "A"))))) ≡ Some WrongKind
function_of_text q = refl

-- a quantity or time that is a text
text_as_time : (q : Quantity) → fault_of (small q) at_operation (Counts (Operand (plain (codes "A")))) ≡ Some WrongKind
text_as_time q = refl

number_as_time : (q : Quantity) → fault_of (small q) at_operation (Counts (Operand (plain (codes "N")))) ≡ None
number_as_time q = refl

-- statements of each kind give a characteristic what it may have
assigns : (q : Quantity)
    → fault_of (small q) by_root
    (Procedure (record { action = Assign (leaf (codes "A")) (number 1); condition = None } ∷ [])) ≡ Some WrongKind
assigns q = refl

sets_default : (q : Quantity)
    → fault_of (small q) by_root
    (Procedure (record { action = SetDefault (leaf (codes "N")) (text (codes "X")); condition = None } ∷ []))
    ≡ Some WrongKind
sets_default q = refl

deletes_default : (q : Quantity)
    → fault_of (small q) by_root
    (Procedure (record { action = DelDefault (leaf (codes "N")) (text (codes "X")); condition = None } ∷ []))
    ≡ Some WrongKind
deletes_default q = refl

assigns_right : (q : Quantity)
    → fault_of (small q) by_root
    (Procedure (record { action = Assign (leaf (codes "A")) (text (codes "X")); condition = None } ∷ [])) ≡ None
assigns_right q = refl

-- a column meets its cells
column_of_texts : (q : Quantity)
    → fault_of (small q) by_root
    (Procedure (record {
      action =
          Calls (record {
            table = leaf (codes "T");
            bindings = record { column = leaf (codes "A"); value = number 1 }
                ∷ [];
          });
      condition = None;
    } ∷ [])) ≡ Some WrongKind
column_of_texts q = refl

-- a set may be compared with a literal at its right, listed and SPECIFIED; nothing else
set_equals : (q : Quantity)
    → fault_of (small q) at_root (Precondition (equals (plain (codes "S")) (text (codes "X")))) ≡ None
set_equals q = refl

set_differs : (q : Quantity)
    → fault_of (small q) at_root (Precondition (related (Operand (plain (codes "S"))) Unequal (text (codes "X"))))
    ≡ None
set_differs q = refl

set_listed : (q : Quantity)
    → fault_of (small q) at_root (Precondition (Related (Within (plain (codes "S")) listed_text))) ≡ None
set_listed q = refl

set_specified : (q : Quantity) → fault_of (small q) at_root (Precondition (Specified (plain (codes "S")))) ≡ None
set_specified q = refl

set_at_right : (q : Quantity)
    → fault_of (small q) at_root (Precondition (related (text (codes "X")) Equal (Operand (plain (codes "S")))))
    ≡ Some WrongKind
set_at_right q = refl

set_with_value : (q : Quantity)
    → fault_of (small q) at_root (Precondition (equals (plain (codes "S")) (Operand (plain (codes "A")))))
    ≡ Some WrongKind
set_with_value q = refl

set_written : (q : Quantity)
    → fault_of (small q) by_root
    (Procedure (record { action = Assign (leaf (codes "S")) (text (codes "X")); condition = None } ∷ []))
    ≡ Some WrongKind
set_written q = refl

-- in a net a set is not monotone where it may stand, and of the wrong kind where it may not: behind WHERE, under
-- INFERENCES
set_in_net : (q : Quantity)
    → fault_of (small q) in_net
    (restricts (of_class (codes "X") (codes "K") ∷ []) (equals (member (codes "X") (codes "S")) (text (codes "X"))))
    ≡ Some NotMonotone
set_in_net q = refl

set_behind_where : (q : Quantity)
    → fault_of (small q) in_net
    (restricts (of_class_where (codes "X") (codes "K") (codes "V") (codes "S") ∷ [])
    (equals (member (codes "X") (codes "A")) (text (codes "X")))) ≡ Some WrongKind
set_behind_where q = refl

-- an object for a value, a value for an object
object_for_value : (q : Quantity)
    → fault_of (small q) in_net
    (restricts (of_class (codes "X") (codes "K") ∷ []) (equals (variable (codes "X")) (text (codes "X"))))
    ≡ Some WrongKind
object_for_value q = refl

value_for_object : (q : Quantity)
    → fault_of (small q) in_net
    (restricts (of_class_where (codes "X") (codes "K") (codes "V") (codes "A") ∷ [])
    (equals (member (codes "V") (codes "A")) (text (codes "X")))) ≡ Some WrongKind
value_for_object q = refl

part_of_value : (q : Quantity)
    → fault_of (small q) in_net
    (restricts (of_class_where (codes "X") (codes "K") (codes "V") (codes "A") ∷ [])
    (PartOf (leaf (codes "X")) (leaf (codes "V")))) ≡ Some WrongKind
part_of_value q = refl

infers_object : (q : Quantity)
    → fault_of (small q) in_net
    (Constrains (record {
      objects = of_class (codes "X") (codes "K")
          ∷ [];
      condition = None;
      restrictions = [];
      inferences = variable (codes "X") ∷ [];
    })) ≡ Some WrongKind
infers_object q = refl

infers_value : (q : Quantity)
    → fault_of (small q) in_net
    (Constrains (record {
      objects = of_class (codes "X") (codes "K")
          ∷ [];
      condition = None;
      restrictions = [];
      inferences = member (codes "X") (codes "A") ∷ [];
    })) ≡ None
infers_value q = refl

-- a sum of texts
sums_texts : (q : Quantity)
    → fault_of (small q) by_root
    (Procedure (record { action = Assign (leaf (codes "N")) (SumOfParts (leaf (codes "A"))); condition = None } ∷ []))
    ≡ Some WrongKind
sums_texts q = refl
