-- The likeliest slips of the typing. Beside what is so stands what would be so by the slip, and isn't; where only the
-- slip stands, what is so stands in vc_types FaultRows, in the row that is named.
use Rattle.std.proofs.Common.{◌≡◌, ℕ, ◌+◌, ◌-◌, ◌^◌, pos, neg_ℤ, true, false, List, [], ◌∷◌, map, refl}
use Rattle.std.specs.Prelude.{Option, None, Some, ◌==◌, ◌≢◌, codes}
use Rattle.vc_value.specs.declared.decimal.Dec.{Dec}
use Rattle.vc_model_parts.specs.declared.parts.Model.{Model}
use Rattle.vc_model_parts.specs.declared.parts.NumberValue.{NumberValue}
use Rattle.vc_model_parts.specs.declared.parts.Values.TheVariants as values
use Rattle.vc_syntax_tree.specs.declared.Function.TheVariants.{Ceil, Floor, Trunc}
use Rattle.vc_syntax_tree.specs.declared.Item.TheVariants as items
use Rattle.vc_syntax_tree.specs.declared.Object.{Object}
use Rattle.vc_syntax_tree.specs.declared.Operand.{Operand as Name}
use Rattle.vc_syntax_tree.specs.declared.Operand.TheVariants as operands
use Rattle.vc_syntax_tree.specs.declared.Operator.TheVariants.{Minus, Over, Plus, Times}
use Rattle.vc_syntax_tree.specs.declared.Owner.TheVariants.{Itself, Parent, Root}
use Rattle.vc_syntax_tree.specs.declared.Relator.TheVariants.{Equal}
use Rattle.vc_syntax_tree.specs.Trees.{Action, And, Applied, Assign, Binding, Calls, Combined, Condition, Constrains}
use Rattle.vc_syntax_tree.specs.Trees.{Counts, Dependency, Never, Not, Operand, Or, PartOf, Precondition, Procedure}
use Rattle.vc_syntax_tree.specs.Trees.{Related, Selection, Specified, SumOfParts, Term, Within}
use Rattle.vc_types.specs.Faults.{all_kinds, fault_of, faults_of}
use Rattle.vc_types.specs.Kinds.{number_of}
use Rattle.vc_types.specs.RangeFaults.{size_of, size_of_values}
use Rattle.vc_types.specs.Settings.{setting_of}
use Rattle.vc_types.specs.declared.fault.TypeFaultKind.{TypeFaultKind}
use Rattle.vc_types.specs.declared.fault.TypeFaultKind.TheVariants.{DoubleName, NoKey, NoParent, NotATerm, NotMonotone}
use Rattle.vc_types.specs.declared.fault.TypeFaultKind.TheVariants.{PartOfPlace, RangeTooWide, SelfInConstraint}
use Rattle.vc_types.specs.declared.fault.TypeFaultKind.TheVariants.{SumPlace, TooManyObjects, UnknownName}
use Rattle.vc_types.specs.declared.fault.TypeFaultKind.TheVariants.{WrongKind}
use Rattle.vc_types.specs.declared.place.At.TheVariants as at
use Rattle.vc_types.specs.declared.place.Place.{Place}
use Rattle.vc_types.proofs.FaultRows.Small.{Quantity, at_line, at_operation, at_part_operation, at_root, by_root}
use Rattle.vc_types.proofs.FaultRows.Small.{equals, in_net, leaf, member, number, of_class, of_class_where, owned}
use Rattle.vc_types.proofs.FaultRows.Small.{plain, related, restricts, small, text, variable}
use Rattle.vc_types_dependency.specs.Instances.{instance_of}
use Rattle.vc_types_dependency.specs.declared.instances.Instance.TheVariants as instances

abbrev told : Quantity → Place → Dependency → Option TypeFaultKind
told q place dependency = fault_of (small q) place dependency

-- N of the machine and W of the part are numbers, against nought
abbrev is_nought : Name → Condition
is_nought operand = equals operand (number 0)

-- a line of the part, and a procedure of it
abbrev at_part_line : Place
at_part_line = record { object = 0; parent = Some 1; at = at.Line false }

abbrev by_part : Place
by_part = record { object = 0; parent = Some 1; at = at.Procedure }

-- in a line `$PARENT` is the owner of the bill, and not the one above it
parent_of_line : (q : Quantity) → told q at_part_line (Selection (is_nought (owned Parent (codes "W")))) ≡ None
parent_of_line q = refl

superior_of_line : (q : Quantity) → told q at_part_line (Selection (is_nought (owned Parent (codes "N")))) ≢ None
superior_of_line q e = cc

plain_of_line : (q : Quantity) → told q at_part_line (Selection (is_nought (plain (codes "W")))) ≡ None
plain_of_line q = refl

-- `$ROOT` is the root at each place, and not the owner
root_of_line : (q : Quantity) → told q at_part_line (Selection (is_nought (owned Root (codes "N")))) ≡ None
root_of_line q = refl

owner_for_root : (q : Quantity) → told q at_part_line (Selection (is_nought (owned Root (codes "W")))) ≢ None
owner_for_root q e = cc

root_of_operation : (q : Quantity) → told q at_part_operation (Counts (Operand (owned Root (codes "N")))) ≡ None
root_of_operation q = refl

own_for_root : (q : Quantity) → told q at_part_operation (Counts (Operand (owned Root (codes "W")))) ≢ None
own_for_root q e = cc

-- a statement writes to the instance itself, and reads what is above it
abbrev gives : List ℕ → Term → Dependency
gives c term = Procedure (record { action = Assign (leaf c) term; condition = None } ∷ [])

reads_parent : (q : Quantity) → told q by_part (gives (codes "W") (Operand (owned Parent (codes "N")))) ≡ None
reads_parent q = refl

reads_root : (q : Quantity) → told q by_part (gives (codes "W") (Operand (owned Root (codes "N")))) ≡ None
reads_root q = refl

writes_to_parent : (q : Quantity) → told q by_part (gives (codes "N") (number 0)) ≢ None
writes_to_parent q e = cc

-- the root has no parent at an operation and in the profile either, and isn't its own
parentless_operation : (q : Quantity)
    → told q at_operation (Counts (Operand (owned Parent (codes "N")))) ≡ Some NoParent
parentless_operation q = refl

parentless_procedure : (q : Quantity)
    → told q by_root (gives (codes "N") (Operand (owned Parent (codes "N")))) ≡ Some NoParent
parentless_procedure q = refl

own_parent : (q : Quantity) → told q at_operation (Counts (Operand (owned Parent (codes "N")))) ≢ None
own_parent q e = cc

-- in a constraint `$PARENT` speaks of an instance; whether there is one isn't asked. What is inferred is asked too
abbrev of_x : Condition → Dependency
of_x condition = restricts (of_class (codes "X") (codes "K") ∷ []) condition

abbrev infers : List Name → Dependency
infers operands = Constrains (record {
  objects = of_class (codes "X") (codes "K") ∷ [];
  condition = None;
  restrictions = [];
  inferences = operands;
})

parent_in_net : (q : Quantity) → told q in_net (of_x (is_nought (owned Parent (codes "N")))) ≡ Some SelfInConstraint
parent_in_net q = refl

parentless_net : (q : Quantity) → told q in_net (of_x (is_nought (owned Parent (codes "N")))) ≢ Some NoParent
parentless_net q e = cc

infers_own : (q : Quantity) → told q in_net (infers (plain (codes "A") ∷ [])) ≡ Some SelfInConstraint
infers_own q = refl

-- a variable has what the class of its own object has, and so has a WHERE: ?X is of K, ?Y of D
abbrev of_both : Condition → Dependency
of_both condition = restricts (of_class (codes "X") (codes "K") ∷ of_class (codes "Y") (codes "D") ∷ []) condition

second_class : (q : Quantity) → told q in_net (of_both (is_nought (member (codes "Y") (codes "W")))) ≡ None
second_class q = refl

first_class : (q : Quantity) → told q in_net (of_both (is_nought (member (codes "Y") (codes "N")))) ≢ None
first_class q e = cc

any_class : (q : Quantity) → told q in_net (of_both (is_nought (member (codes "X") (codes "W")))) ≢ None
any_class q e = cc

abbrev second_where : List ℕ → Dependency
second_where c =
    restricts (of_class (codes "X") (codes "K") ∷ of_class_where (codes "Y") (codes "D") (codes "V") c ∷ [])
    (is_nought (variable (codes "V")))

where_second : (q : Quantity) → told q in_net (second_where (codes "W")) ≡ None
where_second q = refl

where_first : (q : Quantity) → told q in_net (second_where (codes "N")) ≢ None
where_first q e = cc

-- what isn't there is told wherever it stands: in PART_OF, SPECIFIED and IN, inferred, written, and given to a column
abbrev parts_of : List ℕ → Condition
parts_of whole = PartOf (leaf (codes "X")) (leaf whole)

part_of_none : (q : Quantity) → told q in_net (of_both (parts_of (codes "Z"))) ≡ Some UnknownName
part_of_none q = refl

part_unasked : (q : Quantity) → told q in_net (of_both (parts_of (codes "Z"))) ≢ None
part_unasked q e = cc

specifies_none : (q : Quantity) → told q at_root (Precondition (Specified (plain (codes "W")))) ≡ Some UnknownName
specifies_none q = refl

lists_none : (q : Quantity)
    → told q at_root (Precondition (Related (Within (plain (codes "W")) []))) ≡ Some UnknownName
lists_none q = refl

infers_none : (q : Quantity) → told q in_net (infers (member (codes "X") (codes "W") ∷ [])) ≡ Some UnknownName
infers_none q = refl

inferred_unasked : (q : Quantity) → told q in_net (infers (member (codes "X") (codes "W") ∷ [])) ≢ None
inferred_unasked q e = cc

-- look-ups in T, whose key is A
abbrev looks_up : List ℕ → List Binding → Action
looks_up table bindings = Calls (record { table = leaf table; bindings = bindings })

abbrev does : Action → Dependency
does action = Procedure (record { action = action; condition = None } ∷ [])

abbrev key_a : Binding
key_a = record { column = leaf (codes "A"); value = text (codes "X") }

abbrev column_n : Term → Binding
column_n term = record { column = leaf (codes "N"); value = term }

abbrev own_n : Binding
own_n = column_n (Operand (owned Itself (codes "N")))

fills_none : (q : Quantity)
    → told q by_root (does (looks_up (codes "T") (key_a ∷ column_n (Operand (owned Itself (codes "W"))) ∷ [])))
    ≡ Some UnknownName
fills_none q = refl

filled_unasked : (q : Quantity)
    → told q by_root (does (looks_up (codes "T") (key_a ∷ column_n (Operand (owned Itself (codes "W"))) ∷ []))) ≢ None
filled_unasked q e = cc

-- a part sum asks the components of the instance itself: the part has none
sum_at_part : (q : Quantity) → told q by_part (gives (codes "W") (SumOfParts (leaf (codes "W")))) ≡ Some UnknownName
sum_at_part q = refl

sum_at_root : (q : Quantity) → told q by_part (gives (codes "W") (SumOfParts (leaf (codes "W")))) ≢ None
sum_at_root q e = cc

-- a variable may not be declared twice, with another between; a column may stand in two calls, and be inferred twice
abbrev x_y_x : Dependency
x_y_x = restricts
    (of_class (codes "X") (codes "K") ∷ of_class (codes "Y") (codes "K") ∷ of_class (codes "X") (codes "K") ∷ [])
    (equals (member (codes "Y") (codes "A")) (text (codes "X")))

twice_apart : (q : Quantity) → told q in_net x_y_x ≡ Some DoubleName
twice_apart q = refl

neighbours_alone : (q : Quantity) → told q in_net x_y_x ≢ None
neighbours_alone q e = cc

abbrev two_calls : Dependency
two_calls = Procedure (record { action = looks_up (codes "T") (key_a ∷ own_n ∷ []); condition = None }
    ∷ record { action = looks_up (codes "T") (key_a ∷ own_n ∷ []); condition = None } ∷ [])

in_two_calls : (q : Quantity) → told q by_root two_calls ≡ None
in_two_calls q = refl

over_all_calls : (q : Quantity) → told q by_root two_calls ≢ Some DoubleName
over_all_calls q e = cc

abbrev infers_twice : Dependency
infers_twice = infers (member (codes "X") (codes "A") ∷ member (codes "X") (codes "A") ∷ [])

twice_inferred : (q : Quantity) → told q in_net infers_twice ≡ None
twice_inferred q = refl

inferred_once : (q : Quantity) → told q in_net infers_twice ≢ Some DoubleName
inferred_once q e = cc

-- arithmetic meets a text at either side, however deep, also in a relation
abbrev a : Term
a = Operand (plain (codes "A"))

abbrev plus : Term → Term → Term
plus left right = Combined left Plus right

text_at_left : (q : Quantity) → told q at_operation (Counts (plus a (number 1))) ≡ Some WrongKind
text_at_left q = refl

right_alone : (q : Quantity) → told q at_operation (Counts (plus a (number 1))) ≢ None
right_alone q e = cc

text_below : (q : Quantity) → told q at_operation (Counts (plus (number 1) (plus (number 1) a))) ≡ Some WrongKind
text_below q = refl

top_alone : (q : Quantity) → told q at_operation (Counts (plus (number 1) (plus (number 1) a))) ≢ None
top_alone q e = cc

text_in_side : (q : Quantity)
    → told q at_root (Precondition (related (number 1) Equal (plus (number 1) a))) ≡ Some WrongKind
text_in_side q = refl

-- `literal = C` with a MULTIPLE C (set_at_right); under INFERENCES a set is of the wrong kind, and asked for by
-- SPECIFIED or IN it isn't monotone
set_turned : (q : Quantity)
    → told q at_root (Precondition (related (text (codes "X")) Equal (Operand (plain (codes "S"))))) ≢ None
set_turned q e = cc

infers_set : (q : Quantity) → told q in_net (infers (member (codes "X") (codes "S") ∷ [])) ≡ Some WrongKind
infers_set q = refl

set_inferred : (q : Quantity) → told q in_net (infers (member (codes "X") (codes "S") ∷ [])) ≢ Some NotMonotone
set_inferred q e = cc

specifies_set : (q : Quantity)
    → told q in_net (of_x (Specified (member (codes "X") (codes "S")))) ≡ Some NotMonotone
specifies_set q = refl

equalities_alone : (q : Quantity) → told q in_net (of_x (Specified (member (codes "X") (codes "S")))) ≢ None
equalities_alone q e = cc

lists_set : (q : Quantity)
    → told q at_line (Selection (Related (Within (plain (codes "S"))
    (items.Text (record { text = codes "X"; start = 0; end = 0 }) ∷ [])))) ≡ Some NotMonotone
lists_set q = refl

-- SPECIFIED under two NOTs isn't let through in a net (denied_twice), also not behind IF, and isn't refused elsewhere
abbrev denied_twice : Name → Condition
denied_twice operand = Not (Not (Specified operand))

two_nots : (q : Quantity) → told q in_net (of_x (denied_twice (member (codes "X") (codes "A")))) ≢ None
two_nots q e = cc

twice_elsewhere : (q : Quantity) → told q at_root (Precondition (denied_twice (plain (codes "A")))) ≡ None
twice_elsewhere q = refl

asked_elsewhere : (q : Quantity) → told q at_root (Precondition (denied_twice (plain (codes "A")))) ≢ Some NotMonotone
asked_elsewhere q e = cc

abbrev never_if : Condition → Dependency
never_if condition = Constrains (record {
  objects = of_class (codes "X") (codes "K") ∷ [];
  condition = None;
  restrictions = record { demand = Never; condition = Some condition } ∷ [];
  inferences = [];
})

denied_in_if : (q : Quantity)
    → told q in_net (never_if (Not (Specified (member (codes "X") (codes "A"))))) ≡ Some NotMonotone
denied_in_if q = refl

condition_alone : (q : Quantity) → told q in_net (never_if (Not (Specified (member (codes "X") (codes "A"))))) ≢ None
condition_alone q e = cc

-- a look-up gives all keys; `$ROOT.N` isn't `$SELF.N`, though it is the root's. This table has the keys A and B, and N
abbrev two_keys : Quantity → Model
two_keys q = record (small q) {
  tables = record {
    name = codes "T2";
    file = [];
    columns = record { characteristic = 0; key = true } ∷ record { characteristic = 3; key = true }
        ∷ record { characteristic = 1; key = false } ∷ [];
  } ∷ [];
}

abbrev key_b : Term → Binding
key_b term = record { column = leaf (codes "B"); value = term }

both_keys : (q : Quantity)
    → fault_of (two_keys q) by_root (does (looks_up (codes "T2") (own_n ∷ key_b (number 1) ∷ key_a ∷ []))) ≡ None
both_keys q = refl

one_key : (q : Quantity)
    → fault_of (two_keys q) by_root (does (looks_up (codes "T2") (key_a ∷ own_n ∷ []))) ≡ Some NoKey
one_key q = refl

some_key : (q : Quantity)
    → fault_of (two_keys q) by_root (does (looks_up (codes "T2") (key_a ∷ own_n ∷ []))) ≢ None
some_key q e = cc

fills_root : (q : Quantity)
    → told q by_root (does (looks_up (codes "T") (key_a ∷ column_n (Operand (owned Root (codes "N"))) ∷ [])))
    ≡ Some NoKey
fills_root q = refl

any_owner : (q : Quantity)
    → told q by_root (does (looks_up (codes "T") (key_a ∷ column_n (Operand (owned Root (codes "N"))) ∷ []))) ≢ None
any_owner q e = cc

-- kinds that are asked at other places alone: what a key is given may be computed in a procedure, a part sum may stand
-- behind its IF (sum_in_if), and four objects with a WHERE are no five (four)
computed_key : (q : Quantity)
    → fault_of (two_keys q) by_root
    (does (looks_up (codes "T2") (key_a ∷ key_b (plus (number 1) (number 1)) ∷ own_n ∷ []))) ≡ None
computed_key q = refl

term_in_procedure : (q : Quantity)
    → fault_of (two_keys q) by_root
    (does (looks_up (codes "T2") (key_a ∷ key_b (plus (number 1) (number 1)) ∷ own_n ∷ []))) ≢ Some NotATerm
term_in_procedure q e = cc

sum_behind_if : (q : Quantity)
    → told q by_root
    (Procedure (record {
      action = Assign (leaf (codes "N")) (number 1);
      condition = Some (related (SumOfParts (leaf (codes "W"))) Equal (number 1));
    } ∷ [])) ≢ Some SumPlace
sum_behind_if q e = cc

where_counted : (q : Quantity)
    → told q in_net
    (restricts (of_class (codes "X") (codes "K") ∷ of_class (codes "Y") (codes "K") ∷ of_class (codes "Z") (codes "K")
    ∷ of_class_where (codes "U") (codes "K") (codes "V") (codes "A") ∷ [])
    (equals (member (codes "X") (codes "A")) (text (codes "X")))) ≢ Some TooManyObjects
where_counted q e = cc

-- PART_OF joined by AND at the top, below another AND (part_joined_right), isn't out of place
part_below_and : (q : Quantity)
    → told q in_net
    (of_both (And (is_nought (member (codes "Y") (codes "W"))) (And (is_nought (member (codes "Y") (codes "W")))
    (parts_of (codes "Y"))))) ≢ Some PartOfPlace
part_below_and q e = cc

-- bounds: a product has one more, and is tested before it is divided; a quotient isn't divided by what divides it
abbrev n : Term
n = Operand (plain (codes "N"))

abbrev times : Term → Term → Term
times left right = Combined left Times right

abbrev size : Quantity → Term → ℕ
size q term = size_of (setting_of (small q) by_root (Counts term)) term

not_plus_one : (q : Quantity) → (size q (times n (number 3_000_000)) == 300_000_000) ≡ false
not_plus_one q = refl

divided : (q : Quantity) → (size q (Combined n Over (number 5_000_000)) == 20_000_000) ≡ false
divided q = refl

differences : (q : Quantity) → (size q (Combined n Minus (number 5)) == 99_999_995) ≡ false
differences q = refl

-- the limit is 10^36 less 10^6, and is met: by a product, a sum, and a function that adds
abbrev limit : ℕ
limit = 10 ^ 36 - 10 ^ 6

abbrev told_of : Quantity → Term → Option TypeFaultKind
told_of q term = told q at_operation (Counts term)

product_at_limit : (q : Quantity) → told_of q (times (number 1) (number limit)) ≡ None
product_at_limit q = refl

product_past_limit : (q : Quantity) → told_of q (times (number 1) (number (limit + 1))) ≡ Some RangeTooWide
product_past_limit q = refl

limit_left_out : (q : Quantity) → told_of q (times (number 1) (number limit)) ≢ Some RangeTooWide
limit_left_out q e = cc

one_more_let_in : (q : Quantity) → told_of q (times (number 1) (number (limit + 1))) ≢ None
one_more_let_in q e = cc

sum_at_limit : (q : Quantity) → told_of q (plus (number limit) (number 0)) ≡ None
sum_at_limit q = refl

sum_past_limit : (q : Quantity) → told_of q (plus (number limit) (number 1)) ≡ Some RangeTooWide
sum_past_limit q = refl

sums_untested : (q : Quantity) → told_of q (plus (number limit) (number 1)) ≢ None
sums_untested q e = cc

floor_past_limit : (q : Quantity) → told_of q (Applied Floor (number limit)) ≡ Some RangeTooWide
floor_past_limit q = refl

trunc_at_limit : (q : Quantity) → told_of q (Applied Trunc (number limit)) ≡ None
trunc_at_limit q = refl

functions_untested : (q : Quantity) → told_of q (Applied Ceil (number limit)) ≢ None
functions_untested q e = cc

-- the largest of a list, whichever end and entry it is
abbrev minus : ℕ → Dec
minus n = record { millionths = neg_ℤ (pos n) }

abbrev entry : ℕ → ℕ → NumberValue
entry low high = record { low = minus low; high = minus high; uses = [] }

largest_first : size_of_values (values.Numbers 0 None (entry 9 8 ∷ entry 3 2 ∷ [])) ≡ 9
largest_first = refl

last_alone : size_of_values (values.Numbers 0 None (entry 9 8 ∷ entry 3 2 ∷ [])) ≢ 3
last_alone e = cc

highest_alone : size_of_values (values.Numbers 0 None (entry 9 8 ∷ entry 3 2 ∷ [])) ≢ 2
highest_alone e = cc

-- the least kind is told, wherever it stands: here the first statement's look-up has no key, and the second's table
-- isn't there
abbrev two_faults : Dependency
two_faults = Procedure (record { action = looks_up (codes "T") (own_n ∷ []); condition = None }
    ∷ record { action = looks_up (codes "V") (own_n ∷ []); condition = None } ∷ [])

least : (q : Quantity) → told q by_root two_faults ≡ Some UnknownName
least q = refl

first_met : (q : Quantity) → told q by_root two_faults ≢ Some NoKey
first_met q e = cc

all_told : (q : Quantity) → faults_of (small q) by_root two_faults ≡ UnknownName ∷ NoKey ∷ []
all_told q = refl

-- what is unknown has no other fault: neither is it no number, nor is it outside
unknown_alone : (q : Quantity)
    → faults_of (small q) at_root (Precondition (is_nought (plain (codes "Q")))) ≡ UnknownName ∷ []
unknown_alone q = refl

-- five objects, and PART_OF under OR
abbrev five_objects : Dependency
five_objects = restricts
    (of_class (codes "X") (codes "K") ∷ of_class (codes "Y") (codes "K") ∷ of_class (codes "Z") (codes "K")
    ∷ of_class (codes "U") (codes "K") ∷ of_class (codes "V") (codes "K") ∷ [])
    (Or (parts_of (codes "Y")) (parts_of (codes "Y")))

thirteen_first : (q : Quantity) → told q in_net five_objects ≡ Some PartOfPlace
thirteen_first q = refl

fourteen_first : (q : Quantity) → told q in_net five_objects ≢ Some TooManyObjects
fourteen_first q e = cc

-- all kinds are asked for, in the order of their numbers
kinds_in_order : map number_of all_kinds
    ≡ 1 ∷ 2 ∷ 3 ∷ 4 ∷ 5 ∷ 6 ∷ 7 ∷ 8 ∷ 9 ∷ 10 ∷ 11 ∷ 12 ∷ 13 ∷ 14 ∷ []
kinds_in_order = refl

-- an operand's instance: at a line `$PARENT` is the owner (owner_of_a_line), and so is a name alone
superior_at_line : instance_of (at.Line true) [] (owned Parent (codes "A")) ≢ instances.Superior
superior_at_line e = cc

plain_at_line : instance_of (at.Line true) [] (plain (codes "A")) ≡ instances.Own
plain_at_line = refl

own_for_superior : instance_of at.Procedure [] (owned Parent (codes "A")) ≢ instances.Own
own_for_superior e = cc

abbrev x_and_y : List Object
x_and_y = of_class (codes "X") (codes "K") ∷ of_class_where (codes "Y") (codes "K") (codes "V") (codes "A") ∷ []

-- a WHERE's variable is of the object that declares it (by_a_value)
first_object : instance_of at.Constraint x_and_y (operands.Variable (leaf (codes "V"))) ≢ instances.Object 0
first_object e = cc
