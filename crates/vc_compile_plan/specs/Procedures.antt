-- The procedures of a model, with their conditions and terms as trees.
use Rattle.std.specs.Prelude.{ℕ, if◌then◌else◌, List, [], ◌∷◌, ◌++◌, map, flat_map, slice_get, Option, None, Some}
use Rattle.std.specs.Prelude.{option_map, filter_map}
use Rattle.vc_model_parts.specs.declared.parts.Characteristic.{Characteristic}
use Rattle.vc_model_parts.specs.declared.parts.Object.{Object}
use Rattle.vc_syntax_tree.specs.declared.NameLeaf.{NameLeaf}
use Rattle.vc_syntax_tree.specs.declared.Operand.TheVariants.{Owned}
use Rattle.vc_syntax_tree.specs.declared.Owner.TheVariants.{Itself}
use Rattle.vc_syntax_tree.specs.Trees as syntax
use Rattle.vc_types.specs.Looking.{column_in, table_named}
use Rattle.vc_types.specs.PlaceFaults.{is_key}
use Rattle.vc_plan.specs.declared.conditions.Piece.{Piece}
use Rattle.vc_plan.specs.declared.plans.Named.{Named}
use Rattle.vc_plan.specs.declared.plans.Named.TheVariants.{Var, Set}
use Rattle.vc_plan.specs.declared.plans.Slot.{Slot}
use Rattle.vc_plan.specs.declared.procedures.FilledColumn.{FilledColumn}
use Rattle.vc_plan.specs.declared.procedures.Trigger.{Trigger}
use Rattle.vc_plan.specs.declared.procedures.Trigger.TheVariants.{Anyway, ValueIn, TextIn}
use Rattle.vc_compile_plan.specs.Conditions.{condition_at, text_in_piece}
use Rattle.vc_compile_plan.specs.Layouts.{Layout, tree_of}
use Rattle.vc_compile_plan.specs.Places.{procedure_site, statements_in}
use Rattle.vc_compile_plan.specs.Shown.{Entry, entries_of}
use Rattle.vc_compile_plan.specs.Sites.{Site, var_meant, named_at}
use Rattle.vc_compile_plan.specs.Tables.{table_number, column_number}
use Rattle.vc_compile_plan.specs.Terms.{term_at}
use Rattle.vc_compile_plan.specs.Trees as plan
use Rattle.vc_compile_plan.specs.Variables.{by_slot, members_of}

-- a key column with the term that is looked up in it
pub record KeyDraft : Type 0 where
  pub column : ℕ
  pub term : plan.Term

pub data Action : Type 0 where
  assign : ℕ → plan.Term → Action
  set_default : ℕ → plan.Term → Action
  delete_default : ℕ → plan.Term → Action
  look_up : ℕ → List KeyDraft → List FilledColumn → Action

pub record StatementDraft : Type 0 where
  pub action : Action
  pub condition : Option plan.Condition

pub record ProcedureDraft : Type 0 where
  pub slot : ℕ
  pub dependency : ℕ
  pub trigger : Trigger
  pub statements : List StatementDraft

-- a statement writes to the instance itself
abbrev pub target : Layout → Site → NameLeaf → ℕ
target layout site name = var_meant layout site (Owned Itself name)

-- a call's columns: the keys with what is looked up, and the others with what gets their cells; each in the order of
-- the call
abbrev pub key_of : Layout → Site → List ℕ → syntax.Binding → List KeyDraft
key_of layout site table binding =
    let key : KeyDraft
    = record {
      column = column_number layout.model table binding.column.name;
      term =
          term_at layout site binding.value;
    } in
    if is_key (column_in layout.model binding.column.name (table_named layout.model table)) then key ∷ [] else []

abbrev pub operand_in : syntax.Term → NameLeaf → NameLeaf
operand_in (syntax.Operand (Owned owner name)) column = name
operand_in term column = column

abbrev pub filled_by : Layout → Site → List ℕ → syntax.Binding → List FilledColumn
filled_by layout site table binding =
    let filled : FilledColumn = record {
      column = column_number layout.model table binding.column.name;
      var = target layout site (operand_in binding.value binding.column);
    } in
    if is_key (column_in layout.model binding.column.name (table_named layout.model table)) then [] else filled ∷ []

abbrev pub action_at : Layout → Site → syntax.Action → Action
action_at layout site (syntax.Assign name term) = assign (target layout site name) (term_at layout site term)
action_at layout site (syntax.SetDefault name term) = set_default (target layout site name) (term_at layout site term)
action_at layout site (syntax.DelDefault name term) =
    delete_default (target layout site name) (term_at layout site term)
action_at layout site (syntax.Calls call) =
    look_up (table_number layout.model call.table.name)
    (flat_map (key_of layout site call.table.name) call.bindings)
    (flat_map (filled_by layout site call.table.name) call.bindings)

abbrev pub statement_at : Layout → Site → syntax.Statement → StatementDraft
statement_at layout site statement = record {
  action = action_at layout site statement.action;
  condition = option_map (condition_at layout site) statement.condition;
}

-- the procedures among what is used at a place
abbrev pub procedure_at : Layout → ℕ → Slot → Trigger → ℕ → List syntax.Statement → ProcedureDraft
procedure_at layout i slot trigger d statements = record {
  slot = i;
  dependency = d;
  trigger = trigger;
  statements = map (statement_at layout (procedure_site layout i slot)) statements;
}

abbrev pub procedures_among : Layout → ℕ → Slot → Trigger → List ℕ → List ProcedureDraft
procedures_among layout i slot trigger uses =
    filter_map (λ d. option_map (procedure_at layout i slot trigger d) (statements_in (tree_of layout.model d))) uses

-- where the procedure of a value runs
abbrev pub trigger_of : Named → Piece → Trigger
trigger_of (Var v) piece = ValueIn v piece
trigger_of (Set set) piece = TextIn set (text_in_piece piece)

abbrev pub profile_in : Option Object → List ℕ
profile_in None = []
profile_in (Some object) = object.procedures

abbrev pub uses_in : Option Characteristic → List ℕ
uses_in None = []
uses_in (Some c) = c.uses

abbrev pub entries_in : Option Characteristic → List Entry
entries_in None = []
entries_in (Some c) = entries_of c.values

abbrev pub value_procedures : Layout → ℕ → Slot → ℕ → List ProcedureDraft
value_procedures layout i slot c =
    flat_map (λ entry. procedures_among layout i slot (trigger_of (named_at layout i c) entry.piece) entry.uses)
    (entries_in (slice_get layout.model.characteristics c))

-- those of the profile, then those of characteristics in class order, then those of values in class order and list
-- order
abbrev pub procedures_at : Layout → ℕ → Slot → List ProcedureDraft
procedures_at layout i slot =
    procedures_among layout i slot Anyway (profile_in (slice_get layout.model.objects slot.object))
    ++ (flat_map (λ c. procedures_among layout i slot Anyway (uses_in (slice_get layout.model.characteristics c)))
    (members_of layout.model slot.object)
    ++ flat_map (value_procedures layout i slot) (members_of layout.model slot.object))

abbrev pub procedure_drafts : Layout → List ProcedureDraft
procedure_drafts layout = by_slot (procedures_at layout) 0 layout.slots
