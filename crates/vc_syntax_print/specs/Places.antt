-- Trees without the places of their leaves in the text.
use Rattle.std.specs.Prelude.{map, option_map}
use Rattle.vc_syntax_tree.specs.declared.NameLeaf.{NameLeaf}
use Rattle.vc_syntax_tree.specs.declared.TextLeaf.{TextLeaf}
use Rattle.vc_syntax_tree.specs.declared.NumberLeaf.{NumberLeaf}
use Rattle.vc_syntax_tree.specs.declared.Operand.{Operand}
use Rattle.vc_syntax_tree.specs.declared.Operand.TheVariants as operands
use Rattle.vc_syntax_tree.specs.declared.SignedNumber.{SignedNumber}
use Rattle.vc_syntax_tree.specs.declared.Item.{Item}
use Rattle.vc_syntax_tree.specs.declared.Item.TheVariants as items
use Rattle.vc_syntax_tree.specs.declared.ObjectKind.{ObjectKind}
use Rattle.vc_syntax_tree.specs.declared.ObjectKind.TheVariants as kinds
use Rattle.vc_syntax_tree.specs.declared.Alias.{Alias}
use Rattle.vc_syntax_tree.specs.declared.Object.{Object}
use Rattle.vc_syntax_tree.specs.Trees.{Term, Number, Text, Operand as Operand', Negated, Combined, Applied, SumOfParts}
use Rattle.vc_syntax_tree.specs.Trees.{CountOfParts, Relation, Compared, Within, Condition, Or, And, Not, Related}
use Rattle.vc_syntax_tree.specs.Trees.{Specified, PartOf, Binding, TableCall, Action, Assign, SetDefault, DelDefault}
use Rattle.vc_syntax_tree.specs.Trees.{Calls, Statement, Demand, Relates, Holds, Never, Restriction, Constraint}
use Rattle.vc_syntax_tree.specs.Trees.{Dependency, Precondition, Selection, Procedure, Constrains, Counts}

abbrev pub bare_name : NameLeaf → NameLeaf
bare_name leaf = record { name = leaf.name; start = 0; end = 0 }

abbrev pub bare_text : TextLeaf → TextLeaf
bare_text leaf = record { text = leaf.text; start = 0; end = 0 }

abbrev pub bare_number : NumberLeaf → NumberLeaf
bare_number leaf = record { number = leaf.number; start = 0; end = 0 }

abbrev pub bare_operand : Operand → Operand
bare_operand (operands.Plain name) = operands.Plain (bare_name name)
bare_operand (operands.Owned owner name) = operands.Owned owner (bare_name name)
bare_operand (operands.Member variable name) = operands.Member (bare_name variable) (bare_name name)
bare_operand (operands.Variable name) = operands.Variable (bare_name name)

abbrev pub bare_term : Term → Term
bare_term (Number leaf) = Number (bare_number leaf)
bare_term (Text leaf) = Text (bare_text leaf)
bare_term (Operand' operand) = Operand' (bare_operand operand)
bare_term (Negated term) = Negated (bare_term term)
bare_term (Combined left operator right) = Combined (bare_term left) operator (bare_term right)
bare_term (Applied function term) = Applied function (bare_term term)
bare_term (SumOfParts name) = SumOfParts (bare_name name)
bare_term CountOfParts = CountOfParts

abbrev pub bare_signed : SignedNumber → SignedNumber
bare_signed signed = record { negative = signed.negative; leaf = bare_number signed.leaf }

abbrev pub bare_item : Item → Item
bare_item (items.Text leaf) = items.Text (bare_text leaf)
bare_item (items.Number number) = items.Number (bare_signed number)
bare_item (items.Interval low high) = items.Interval (bare_signed low) (bare_signed high)

abbrev pub bare_relation : Relation → Relation
bare_relation (Compared left relator right) = Compared (bare_term left) relator (bare_term right)
bare_relation (Within operand items) = Within (bare_operand operand) (map bare_item items)

abbrev pub bare_condition : Condition → Condition
bare_condition (Or left right) = Or (bare_condition left) (bare_condition right)
bare_condition (And left right) = And (bare_condition left) (bare_condition right)
bare_condition (Not condition) = Not (bare_condition condition)
bare_condition (Related relation) = Related (bare_relation relation)
bare_condition (Specified operand) = Specified (bare_operand operand)
bare_condition (PartOf part whole) = PartOf (bare_name part) (bare_name whole)

abbrev pub bare_binding : Binding → Binding
bare_binding binding = record { column = bare_name binding.column; value = bare_term binding.value }

abbrev pub bare_call : TableCall → TableCall
bare_call call = record { table = bare_name call.table; bindings = map bare_binding call.bindings }

abbrev pub bare_action : Action → Action
bare_action (Assign name term) = Assign (bare_name name) (bare_term term)
bare_action (SetDefault name term) = SetDefault (bare_name name) (bare_term term)
bare_action (DelDefault name term) = DelDefault (bare_name name) (bare_term term)
bare_action (Calls call) = Calls (bare_call call)

abbrev pub bare_statement : Statement → Statement
bare_statement statement =
    record { action = bare_action statement.action; condition = option_map bare_condition statement.condition }

abbrev pub bare_demand : Demand → Demand
bare_demand (Relates relation) = Relates (bare_relation relation)
bare_demand (Holds call) = Holds (bare_call call)
bare_demand Never = Never

abbrev pub bare_restriction : Restriction → Restriction
bare_restriction restriction =
    record { demand = bare_demand restriction.demand; condition = option_map bare_condition restriction.condition }

abbrev pub bare_kind : ObjectKind → ObjectKind
bare_kind (kinds.Class name) = kinds.Class (bare_name name)
bare_kind (kinds.Material text) = kinds.Material (bare_text text)

abbrev pub bare_alias : Alias → Alias
bare_alias alias = record { variable = bare_name alias.variable; characteristic = bare_name alias.characteristic }

abbrev pub bare_object : Object → Object
bare_object object =
    record {
      variable = bare_name object.variable;
      kind = bare_kind object.kind;
      aliases =
          map bare_alias object.aliases;
    }

abbrev pub bare_constraint : Constraint → Constraint
bare_constraint constraint = record {
  objects = map bare_object constraint.objects;
  condition = option_map bare_condition constraint.condition;
  restrictions = map bare_restriction constraint.restrictions;
  inferences = map bare_operand constraint.inferences;
}

-- the tree with each place 0
abbrev pub bare : Dependency → Dependency
bare (Precondition condition) = Precondition (bare_condition condition)
bare (Selection condition) = Selection (bare_condition condition)
bare (Procedure statements) = Procedure (map bare_statement statements)
bare (Constrains constraint) = Constrains (bare_constraint constraint)
bare (Counts term) = Counts (bare_term term)
