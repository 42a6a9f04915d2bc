-- What statements write and look up, and the keys of tables.
use Rattle.std.specs.Prelude.{ℕ, Bool, true, false, not, ◌&&◌, ◌||◌, ◌==◌, nat_lt, List, [], ◌∷◌, length, map}
use Rattle.std.specs.Prelude.{slice_get, Option, None, Some}
use Rattle.std.specs.List.{filter, list_all}
use Rattle.vc_value.specs.declared.value.Value.{Value}
use Rattle.vc_plan.specs.declared.conditions.Piece.{Piece}
use Rattle.vc_plan.specs.declared.conditions.Piece.TheVariants.{OneText}
use Rattle.vc_plan.specs.declared.plans.Guard.{Guard}
use Rattle.vc_plan.specs.declared.plans.Named.{Named}
use Rattle.vc_plan.specs.declared.plans.Named.TheVariants.{Var, Set}
use Rattle.vc_plan.specs.declared.plans.Plan.{Plan}
use Rattle.vc_plan.specs.declared.plans.Table.{Table}
use Rattle.vc_plan.specs.declared.plans.TableColumn.{TableColumn}
use Rattle.vc_plan.specs.declared.procedures.Action.{Action}
use Rattle.vc_plan.specs.declared.procedures.Action.TheVariants.{Assign, SetDefault, DeleteDefault, LookUp}
use Rattle.vc_plan.specs.declared.procedures.FilledColumn.{FilledColumn}
use Rattle.vc_plan.specs.declared.procedures.KeyTerm.{KeyTerm}
use Rattle.vc_plan.specs.declared.procedures.Procedure.{Procedure}
use Rattle.vc_plan.specs.declared.procedures.Trigger.{Trigger}
use Rattle.vc_plan.specs.declared.procedures.Trigger.TheVariants.{Anyway, ValueIn, TextIn}
use Rattle.vc_plan.specs.Classes.{list_at}
use Rattle.vc_plan.specs.Domains.{numbers_below}
use Rattle.vc_plan.specs.Lists.{is_entry}
use Rattle.vc_plan.specs.Pieces.{same_value}
use Rattle.vc_plan.specs.Orders.{are_apart, is_number}
use Rattle.vc_plan.specs.RuleShapes.{is_at}
use Rattle.vc_plan.specs.Showing.{slot_of_named}

-- the variables that an action names: those that it writes, and the one whose default it takes away
abbrev pub named_by : Action → List ℕ
named_by (Assign v term) = v ∷ []
named_by (SetDefault v term) = v ∷ []
named_by (DeleteDefault v term) = v ∷ []
named_by (LookUp table keys filled) = map (λ column. column.var) filled

-- those for which it can enter a term or a cell, in the order of its text; to take a default away enters nothing
abbrev pub action_writes : Action → List ℕ
action_writes (Assign v term) = v ∷ []
action_writes (SetDefault v term) = v ∷ []
action_writes (DeleteDefault v term) = []
action_writes (LookUp table keys filled) = map (λ column. column.var) filled

-- whether a procedure's statements name variables of its own slot alone, so that no entry of another's is made or taken
-- away
abbrev pub writes_own : Plan → Procedure → Bool
writes_own plan procedure =
    list_all (λ statement. list_all (is_at plan (procedure.slot ∷ [])) (named_by statement.action)) procedure.statements

-- a value's procedure stands at a listed value of its own slot, and a value's precondition at a listed value
abbrev pub is_value_of : Plan → ℕ → Named → Piece → Bool
is_value_of plan i named piece = is_number i (slot_of_named plan named) && is_entry (list_at plan named) piece

abbrev pub trigger_listed : Plan → ℕ → Trigger → Bool
trigger_listed plan i Anyway = true
trigger_listed plan i (ValueIn v piece) = is_value_of plan i (Var v) piece
trigger_listed plan i (TextIn set text) = is_value_of plan i (Set set) (OneText text)

abbrev pub value_listed : Plan → Named → Option Piece → Bool
value_listed plan named None = true
value_listed plan named (Some piece) = is_entry (list_at plan named) piece

abbrev pub guard_listed : Plan → Guard → Bool
guard_listed plan guard = value_listed plan guard.at guard.value

-- whether the table's column of this number is a key
abbrev pub is_key_column : Option TableColumn → Bool
is_key_column None = false
is_key_column (Some column) = column.key

abbrev pub is_key : Table → ℕ → Bool
is_key table c = is_key_column (slice_get table.columns c)

abbrev pub keys_of : Table → List ℕ
keys_of table = filter (is_key table) (numbers_below (length table.columns))

-- whether two rows agree in these columns
abbrev pub same_cell : Option Value → Option Value → Bool
same_cell None b = false
same_cell (Some a) None = false
same_cell (Some a) (Some b) = same_value a b

abbrev pub rows_agree : List ℕ → List Value → List Value → Bool
rows_agree columns row other = list_all (λ c. same_cell (slice_get row c) (slice_get other c)) columns

-- no two rows of a table with keys have the same key cells
abbrev pub keys_apart : Table → Bool
keys_apart table = (length (keys_of table) == 0) || are_apart (rows_agree (keys_of table)) table.rows

-- a look-up gives a term to each key column, of which there is one, and fills other columns, each once
abbrev pub looks_up : List KeyTerm → List FilledColumn → Option Table → Bool
looks_up keys filled None = false
looks_up keys filled (Some table) =
    ((nat_lt 0 (length keys) && are_apart (λ a b. a.column == b.column) keys)
    && ((length keys == length (keys_of table)) && list_all (λ key. is_key table key.column) keys))
    && ((nat_lt 0 (length filled) && are_apart (λ a b. a.column == b.column) filled)
    && list_all (λ column. not (is_key table column.column)) filled)

abbrev pub action_proper : Plan → Action → Bool
action_proper plan (Assign v term) = true
action_proper plan (SetDefault v term) = true
action_proper plan (DeleteDefault v term) = true
action_proper plan (LookUp table keys filled) = looks_up keys filled (slice_get plan.tables table)
