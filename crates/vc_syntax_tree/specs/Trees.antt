-- The trees of dependencies, without the places of their nodes in memory.
use Rattle.std.specs.Prelude.{List, map, Option, option_map}
use Rattle.vc_syntax_tree.specs.declared.NameLeaf.{NameLeaf}
use Rattle.vc_syntax_tree.specs.declared.TextLeaf.{TextLeaf}
use Rattle.vc_syntax_tree.specs.declared.NumberLeaf.{NumberLeaf}
use Rattle.vc_syntax_tree.specs.declared.Operand.{Operand as OperandLeaf}
use Rattle.vc_syntax_tree.specs.declared.Operator.{Operator}
use Rattle.vc_syntax_tree.specs.declared.Function.{Function}
use Rattle.vc_syntax_tree.specs.declared.Relator.{Relator}
use Rattle.vc_syntax_tree.specs.declared.Item.{Item}
use Rattle.vc_syntax_tree.specs.declared.Binding.{Binding as StoredBinding}
use Rattle.vc_syntax_tree.specs.declared.TableCall.{TableCall as StoredTableCall}
use Rattle.vc_syntax_tree.specs.declared.Action.{Action as StoredAction}
use Rattle.vc_syntax_tree.specs.declared.Action.TheVariants as stored_actions
use Rattle.vc_syntax_tree.specs.declared.Statement.{Statement as StoredStatement}
use Rattle.vc_syntax_tree.specs.declared.Demand.{Demand as StoredDemand}
use Rattle.vc_syntax_tree.specs.declared.Demand.TheVariants as stored_demands
use Rattle.vc_syntax_tree.specs.declared.Restriction.{Restriction as StoredRestriction}
use Rattle.vc_syntax_tree.specs.declared.Object.{Object}
use Rattle.vc_syntax_tree.specs.declared.Constraint.{Constraint as StoredConstraint}
use Rattle.vc_syntax_tree.specs.declared.Dependency.{Dependency as StoredDependency}
use Rattle.vc_syntax_tree.specs.declared.Dependency.TheVariants as stored_dependencies
use Rattle.vc_syntax_tree.specs.declared.Relation.{Relation as StoredRelation}
use Rattle.vc_syntax_tree.specs.declared.Relation.TheVariants.{Compared as StoredCompared, Within as StoredWithin}
use Rattle.vc_syntax_tree.specs.declared.Condition.{Condition as StoredCondition, Or' as StoredOr}
use Rattle.vc_syntax_tree.specs.declared.Condition.{And' as StoredAnd, Not' as StoredNot}
use Rattle.vc_syntax_tree.specs.declared.Condition.{Relation as StoredRelated, Specified as StoredSpecified}
use Rattle.vc_syntax_tree.specs.declared.Condition.{PartOf as StoredPartOf}
use Rattle.vc_syntax_tree.specs.declared.Term.{Term as StoredTerm, Number as StoredNumber, Text as StoredText}
use Rattle.vc_syntax_tree.specs.declared.Term.{Operand as StoredOperand, Negated' as StoredNegated}
use Rattle.vc_syntax_tree.specs.declared.Term.{Combined' as StoredCombined, Applied' as StoredApplied}
use Rattle.vc_syntax_tree.specs.declared.Term.{SumOfParts as StoredSum, CountOfParts as StoredCount}

-- a term
pub data Term : Type 0 where
  Number : NumberLeaf → Term
  Text : TextLeaf → Term
  Operand : OperandLeaf → Term
  Negated : Term → Term
  Combined : Term → Operator → Term → Term
  Applied : Function → Term → Term
  SumOfParts : NameLeaf → Term
  CountOfParts : Term

-- the tree that is kept in memory
abbrev pub term_of : StoredTerm → Term
term_of (StoredNumber leaf) = Number leaf
term_of (StoredText leaf) = Text leaf
term_of (StoredOperand operand) = Operand operand
term_of (StoredNegated p term) = Negated (term_of term)
term_of (StoredCombined p left operator q right) = Combined (term_of left) operator (term_of right)
term_of (StoredApplied function p term) = Applied function (term_of term)
term_of (StoredSum name) = SumOfParts name
term_of StoredCount = CountOfParts

-- a relation
pub data Relation : Type 0 where
  Compared : Term → Relator → Term → Relation
  Within : OperandLeaf → List Item → Relation

-- a condition
pub data Condition : Type 0 where
  Or : Condition → Condition → Condition
  And : Condition → Condition → Condition
  Not : Condition → Condition
  Related : Relation → Condition
  Specified : OperandLeaf → Condition
  PartOf : NameLeaf → NameLeaf → Condition

-- the relation and the condition that are kept in memory
abbrev pub relation_of : StoredRelation → Relation
relation_of (StoredCompared left relator right) = Compared (term_of left.value) relator (term_of right.value)
relation_of (StoredWithin operand items) = Within operand items

abbrev pub condition_of : StoredCondition → Condition
condition_of (StoredOr p left q right) = Or (condition_of left) (condition_of right)
condition_of (StoredAnd p left q right) = And (condition_of left) (condition_of right)
condition_of (StoredNot p condition) = Not (condition_of condition)
condition_of (StoredRelated relation) = Related (relation_of relation)
condition_of (StoredSpecified operand) = Specified operand
condition_of (StoredPartOf part whole) = PartOf part whole

-- a column with what it is to be
pub record Binding : Type 0 where
  pub column : NameLeaf
  pub value : Term

-- a table with its columns
pub record TableCall : Type 0 where
  pub table : NameLeaf
  pub bindings : List Binding

pub data Action : Type 0 where
  Assign : NameLeaf → Term → Action
  SetDefault : NameLeaf → Term → Action
  DelDefault : NameLeaf → Term → Action
  Calls : TableCall → Action

-- an action, and when it is done
pub record Statement : Type 0 where
  pub action : Action
  pub condition : Option Condition

pub data Demand : Type 0 where
  Relates : Relation → Demand
  Holds : TableCall → Demand
  Never : Demand

-- a demand, and when it is made
pub record Restriction : Type 0 where
  pub demand : Demand
  pub condition : Option Condition

-- the same as they are kept in memory
abbrev pub binding_of : StoredBinding → Binding
binding_of binding = record { column = binding.column; value = term_of binding.value.value }

abbrev pub table_call_of : StoredTableCall → TableCall
table_call_of call = record { table = call.table; bindings = map binding_of call.bindings }

abbrev pub action_of : StoredAction → Action
action_of (stored_actions.Assign name term) = Assign name (term_of term.value)
action_of (stored_actions.SetDefault name term) = SetDefault name (term_of term.value)
action_of (stored_actions.DelDefault name term) = DelDefault name (term_of term.value)
action_of (stored_actions.Table call) = Calls (table_call_of call)

abbrev pub statement_of : StoredStatement → Statement
statement_of statement =
    record {
      action = action_of statement.action;
      condition =
          option_map (λ boxed. condition_of boxed.value) statement.condition;
    }

abbrev pub demand_of : StoredDemand → Demand
demand_of (stored_demands.Relation relation) = Relates (relation_of relation)
demand_of (stored_demands.Table call) = Holds (table_call_of call)
demand_of stored_demands.False = Never

abbrev pub restriction_of : StoredRestriction → Restriction
restriction_of restriction =
    record {
      demand = demand_of restriction.demand;
      condition =
          option_map (λ boxed. condition_of boxed.value) restriction.condition;
    }

-- a constraint
pub record Constraint : Type 0 where
  pub objects : List Object
  pub condition : Option Condition
  pub restrictions : List Restriction
  pub inferences : List OperandLeaf

pub data Dependency : Type 0 where
  Precondition : Condition → Dependency
  Selection : Condition → Dependency
  Procedure : List Statement → Dependency
  Constrains : Constraint → Dependency
  Counts : Term → Dependency

abbrev pub constraint_of : StoredConstraint → Constraint
constraint_of constraint = record {
  objects = constraint.objects;
  condition = option_map (λ boxed. condition_of boxed.value) constraint.condition;
  restrictions = map restriction_of constraint.restrictions;
  inferences = constraint.inferences;
}

abbrev pub dependency_of : StoredDependency → Dependency
dependency_of (stored_dependencies.Precondition condition) = Precondition (condition_of condition.value)
dependency_of (stored_dependencies.Selection condition) = Selection (condition_of condition.value)
dependency_of (stored_dependencies.Procedure statements) = Procedure (map statement_of statements)
dependency_of (stored_dependencies.Constraint constraint) = Constrains (constraint_of constraint)
dependency_of (stored_dependencies.Term term) = Counts (term_of term.value)
