-- What restrictions become, and which faults of a constraint are told though it isn't active.
use Rattle.std.proofs.Common.{◌≡◌, pos, neg_ℤ, true, false, List, [], ◌∷◌, ◌++◌, map, refl}
use Rattle.std.specs.Prelude.{None, Some, codes}
use Rattle.vc_value.specs.declared.value.Value.TheVariants.{Num}
use Rattle.vc_model_parts.specs.declared.parts.Component.TheVariants as components
use Rattle.vc_model_parts.specs.declared.parts.Model.{Model}
use Rattle.vc_syntax_tree.specs.declared.Action.TheVariants as actions
use Rattle.vc_syntax_tree.specs.declared.Demand.TheVariants as demands
use Rattle.vc_syntax_tree.specs.declared.Operator.TheVariants as operators
use Rattle.vc_syntax_tree.specs.declared.Relator.TheVariants as relators
use Rattle.vc_syntax_tree.specs.declared.Restriction.{Restriction}
use Rattle.vc_syntax_tree.specs.declared.Term.{Term}
use Rattle.vc_syntax_tree.specs.declared.Term.TheVariants as terms
use Rattle.vc_types.specs.declared.fault.TypeFaultKind.TheVariants as kinds
use Rattle.vc_plan.specs.declared.conditions.Relation.TheVariants as relations
use Rattle.vc_plan.specs.declared.plans.Plan.{Plan}
use Rattle.vc_plan.specs.declared.procedures.Action.TheVariants.{Assign}
use Rattle.vc_plan.specs.declared.procedures.Trigger.TheVariants.{Anyway}
use Rattle.vc_plan.specs.declared.rules.Kind.TheVariants.{Among, Compare, Equate, ByTable, Never}
use Rattle.vc_plan.specs.declared.rules.Operand.TheVariants.{Constant, Variable}
use Rattle.vc_plan.specs.declared.rules.Restriction.TheVariants.{Against}
use Rattle.vc_plan.specs.declared.terms.Operator.TheVariants.{Minus}
use Rattle.vc_plan.specs.declared.terms.Term.TheVariants.{Literal, Read, Joined'}
use Rattle.vc_plan.proofs.PlanRows.Models as plans
use Rattle.vc_compile_plan.specs.PlanOf.{plan_of}
use Rattle.vc_compile_plan.specs.Refusals.{compile_fault}
use Rattle.vc_compile_plan.specs.declared.fault.CompileFault.TheVariants as faults
use Rattle.vc_compile_plan.proofs.PlanRows.Cutting.{lists, restricted, relates, a, b}
use Rattle.vc_compile_plan.proofs.PlanRows.Words.{Spots, whole, plain, of_class, binds, calls, always, constraint}
use Rattle.vc_compile_plan.proofs.PlanRows.Words.{called, term_box, object, procedure, does, leaf, line}

-- variable 0 is A, variable 1 is B
abbrev twice_five : Spots → Term
twice_five p = terms.Combined' p.node (whole 7) operators.Minus p.node (whole 5)

abbrev demanded : Spots → List Restriction
demanded p =
    relates p (whole 5) relators.GreaterEqual a
    ∷ relates p a relators.Unequal (terms.Negated' p.node (whole 5))
    ∷ relates p a relators.Equal b
    ∷ relates p (twice_five p) relators.Greater a
    ∷ always (demands.Table (calls (codes "T") (binds p (codes "B") a ∷ binds p (codes "A") (whole 5) ∷ [])))
    ∷ always demands.False
    ∷ []

abbrev demanded_plan : Spots → Plan
demanded_plan p = plan_of p.node (restricted (demanded p)) []

-- a relation of one characteristic and a literal is Among, turned round where the literal stands first; `=` of others
-- is
-- Equate, and any other relation Compare; the call's columns have their places in the table
demanded_kinds : (p : Spots)
    → map (λ rule. rule.kind) (demanded_plan p).rules
    ≡ Among 0 (Against relations.AtMost (plans.whole 5))
    ∷ Among 0 (Against relations.Unequal (Num (record { millionths = neg_ℤ (pos 5_000_000) })))
    ∷ Equate 0 1
    ∷ Compare relations.Greater 2 3
    ∷ ByTable 0 (record { column = 1; operand = Variable 0 } ∷ record { column = 0; operand = Constant (plans.whole 5) }
    ∷ [])
    ∷ Never
    ∷ map (λ rule. rule.kind) (plans.last 0 ∷ plans.last 1 ∷ [])
demanded_kinds p = refl

demanded_numbers : (p : Spots)
    → map (λ rule. rule.number) (demanded_plan p).rules ≡ 1 ∷ 2 ∷ 3 ∷ 4 ∷ 5 ∷ 6 ∷ 0 ∷ 0 ∷ []
demanded_numbers p = refl

demanded_terms : (p : Spots)
    → (demanded_plan p).terms
    ≡ Read 0 ∷ Read 1 ∷ Joined' Minus p.node (Literal (plans.whole 7)) p.node (Literal (plans.whole 5)) ∷ Read 0 ∷ []
demanded_terms p = refl

-- the terms of a line, of an operation and of a procedure come behind those of the rules
abbrev taken : Spots → Plan
taken p = plan_of p.node (record (restricted (demanded p)) {
  dependencies = (restricted (demanded p)).dependencies
      ++ procedure (codes "P") (does (actions.Assign (leaf (codes "A")) (term_box p (whole 3))) ∷ []) ∷ [];
  objects = record (object (codes "M") 0 (line p 10 (components.Plain (codes "SEAL")) 1 [] ∷ [])) {
    nets = 0 ∷ [];
    procedures = 1 ∷ [];
    operations = record {
      number = 10;
      centre = codes "ASSY";
      unit = codes "MIN";
      time = term_box p (whole 2);
      uses =
          [];
      line = 0;
    } ∷ [];
  } ∷ [];
}) []

taken_line : (p : Spots) → map (λ line. line.quantity) (taken p).lines ≡ 4 ∷ []
taken_line p = refl

taken_operation : (p : Spots) → map (λ operation. operation.time) (taken p).operations ≡ 5 ∷ []
taken_operation p = refl

taken_procedure : (p : Spots)
    → (taken p).procedures
    ≡ record {
      slot = 0;
      dependency = 1;
      trigger = Anyway;
      statements = record { action = Assign 0 6; condition = 0 }
          ∷ [];
    } ∷ []
taken_procedure p = refl

-- which columns of a table are keys
table_columns : (p : Spots)
    → map (λ table. map (λ column. column.key) table.columns)
    (plan_of p.node (record (restricted []) {
      tables = record {
        name = codes "T";
        file = [];
        columns = record { characteristic = 1; key = true }
            ∷ record { characteristic = 0; key = false } ∷ [];
      } ∷ [];
    }) []).tables
    ≡ (true ∷ false ∷ []) ∷ []
table_columns p = refl

-- a constraint is typed where some net uses it, whether that is active or not; one of no net isn't
abbrev unknown : Spots → Model
unknown p = record lists {
  dependencies = record (called (codes "C") (constraint (of_class (codes "X") (codes "NONE") ∷ []) None [] []))
      { line = 4 } ∷ [];
  objects = object (codes "M") 0 [] ∷ [];
}

of_idle_net : (p : Spots) → compile_fault p.node (unknown p) [] ≡ Some (faults.Typing kinds.UnknownName 4)
of_idle_net p = refl

of_no_net : (p : Spots) → compile_fault p.node (record (unknown p) { nets = [] }) [] ≡ None
of_no_net p = refl

-- an operation's time
of_time : (p : Spots)
    → compile_fault p.node (record lists {
      nets = [];
      objects = record (object (codes "M") 0 []) {
        operations = record {
          number = 10;
          centre = codes "ASSY";
          unit = codes "MIN";
          time =
              term_box p (plain (codes "NONE"));
          uses = [];
          line = 6;
        } ∷ [];
      } ∷ [];
    }) []
    ≡ Some (faults.Typing kinds.UnknownName 6)
of_time p = refl
