-- That texts meet texts and numbers numbers.
use Rattle.std.specs.Prelude.{ℕ, Bool, true, false, not, ◌&&◌, ◌||◌, slice_get, Option, None, Some}
use Rattle.std.specs.List.{list_all}
use Rattle.vc_value.specs.declared.table_header.Domain.{Domain}
use Rattle.vc_value.specs.declared.table_header.Domain.TheVariants.{Texts, Nums}
use Rattle.vc_value.specs.declared.value.Value.{Value}
use Rattle.vc_value.specs.declared.value.Value.TheVariants.{Text, Num}
use Rattle.vc_plan.specs.declared.conditions.Condition.{Condition}
use Rattle.vc_plan.specs.declared.conditions.Condition.TheVariants.{Always, Compared, IsIn, Specified, Holds, Filled}
use Rattle.vc_plan.specs.declared.conditions.Condition.TheVariants.{Not', And', Or'}
use Rattle.vc_plan.specs.declared.conditions.Piece.{Piece}
use Rattle.vc_plan.specs.declared.conditions.Piece.TheVariants.{OneText, Stretch}
use Rattle.vc_plan.specs.declared.conditions.Relation.{Relation}
use Rattle.vc_plan.specs.declared.conditions.Relation.TheVariants.{Equal, Unequal, Less, AtMost, Greater, AtLeast}
use Rattle.vc_plan.specs.declared.plans.Plan.{Plan}
use Rattle.vc_plan.specs.declared.plans.Table.{Table}
use Rattle.vc_plan.specs.declared.plans.TableColumn.{TableColumn}
use Rattle.vc_plan.specs.declared.procedures.Action.{Action}
use Rattle.vc_plan.specs.declared.procedures.Action.TheVariants.{Assign, SetDefault, DeleteDefault, LookUp}
use Rattle.vc_plan.specs.declared.procedures.FilledColumn.{FilledColumn}
use Rattle.vc_plan.specs.declared.procedures.KeyTerm.{KeyTerm}
use Rattle.vc_plan.specs.declared.procedures.Statement.{Statement}
use Rattle.vc_plan.specs.declared.rules.Binding.{Binding}
use Rattle.vc_plan.specs.declared.rules.Kind.{Kind}
use Rattle.vc_plan.specs.declared.rules.Kind.TheVariants.{Among, Compare, Equate, ByTable, Never, Last, Line}
use Rattle.vc_plan.specs.declared.rules.Operand.{Operand}
use Rattle.vc_plan.specs.declared.rules.Operand.TheVariants.{Constant, Variable}
use Rattle.vc_plan.specs.declared.rules.Restriction.{Restriction}
use Rattle.vc_plan.specs.declared.rules.Restriction.TheVariants.{Against, OneOf}
use Rattle.vc_plan.specs.declared.terms.Term.{Term}
use Rattle.vc_plan.specs.declared.terms.Term.TheVariants.{Literal, Read, PartSum, PartCount, Applied', Joined'}
use Rattle.vc_plan.specs.Domains.{domain_of}
use Rattle.vc_plan.specs.Lists.{list_of}

-- whether a domain is one of numbers, and whether it is one of texts
abbrev pub has_numbers : Option Domain → Bool
has_numbers None = false
has_numbers (Some (Texts texts)) = false
has_numbers (Some (Nums decimals grains)) = true

abbrev pub has_texts : Option Domain → Bool
has_texts None = false
has_texts (Some (Texts texts)) = true
has_texts (Some (Nums decimals grains)) = false

abbrev pub is_number_var : Plan → ℕ → Bool
is_number_var plan v = has_numbers (domain_of plan (slice_get plan.vars v))

abbrev pub is_text_var : Plan → ℕ → Bool
is_text_var plan v = has_texts (domain_of plan (slice_get plan.vars v))

abbrev pub is_number : Value → Bool
is_number (Text t) = false
is_number (Num a) = true

-- whether a term is a number made of numbers, and whether it is a lone text
abbrev pub is_numeric : Plan → Term → Bool
is_numeric plan (Literal a) = is_number a
is_numeric plan (Read v) = is_number_var plan v
is_numeric plan (PartSum slot characteristic) = true
is_numeric plan (PartCount slot) = true
is_numeric plan (Applied' function p a) = is_numeric plan a
is_numeric plan (Joined' operator p a q b) = is_numeric plan a && is_numeric plan b

abbrev pub is_textual : Plan → Term → Bool
is_textual plan (Literal a) = not (is_number a)
is_textual plan (Read v) = is_text_var plan v
is_textual plan (PartSum slot characteristic) = false
is_textual plan (PartCount slot) = false
is_textual plan (Applied' function p a) = false
is_textual plan (Joined' operator p a q b) = false

-- whether a relation is one of texts too
abbrev pub is_of_texts : Relation → Bool
is_of_texts Equal = true
is_of_texts Unequal = true
is_of_texts Less = false
is_of_texts AtMost = false
is_of_texts Greater = false
is_of_texts AtLeast = false

-- whether two terms may stand in the relation
abbrev pub meet : Plan → Relation → Term → Term → Bool
meet plan r a b = (is_numeric plan a && is_numeric plan b)
    || ((is_textual plan a && is_textual plan b) && is_of_texts r)

-- the same of a plan's terms
abbrev pub meet_if : Plan → Relation → Option Term → Option Term → Bool
meet_if plan r None b = false
meet_if plan r (Some a) None = false
meet_if plan r (Some a) (Some b) = meet plan r a b

-- whether the variable may be in the piece
abbrev pub is_piece_of : Plan → ℕ → Piece → Bool
is_piece_of plan v (OneText t) = is_text_var plan v
is_piece_of plan v (Stretch grain) = is_number_var plan v

abbrev pub condition_typed : Plan → Condition → Bool
condition_typed plan Always = true
condition_typed plan (Compared r a b) = meet plan r a b
condition_typed plan (IsIn v pieces) = list_all (is_piece_of plan v) pieces
condition_typed plan (Specified v) = true
condition_typed plan (Holds set text) = true
condition_typed plan (Filled set) = true
condition_typed plan (Not' p c) = condition_typed plan c
condition_typed plan (And' p c q d) = condition_typed plan c && condition_typed plan d
condition_typed plan (Or' p c q d) = condition_typed plan c && condition_typed plan d

abbrev pub restriction_typed : Plan → ℕ → Restriction → Bool
restriction_typed plan v (Against r a) = meet plan r (Read v) (Literal a)
restriction_typed plan v (OneOf pieces) = list_all (is_piece_of plan v) pieces

-- the list of the column's characteristic
abbrev pub characteristic_of_column : Option TableColumn → Option ℕ
characteristic_of_column None = None
characteristic_of_column (Some column) = Some column.characteristic

abbrev pub column_in : ℕ → Option Table → Option TableColumn
column_in c None = None
column_in c (Some table) = slice_get table.columns c

abbrev pub column_list : Plan → ℕ → ℕ → Option Domain
column_list plan table c = list_of plan (characteristic_of_column (column_in c (slice_get plan.tables table)))

-- whether a term may meet the values of a list
abbrev pub meets_list : Plan → Option Domain → Term → Bool
meets_list plan list term = (has_numbers list && is_numeric plan term) || (has_texts list && is_textual plan term)

abbrev pub meets_list_if : Plan → Option Domain → Option Term → Bool
meets_list_if plan list None = false
meets_list_if plan list (Some term) = meets_list plan list term

-- whether what a column is given may meet its cells
abbrev pub operand_term : Operand → Term
operand_term (Constant a) = Literal a
operand_term (Variable v) = Read v

abbrev pub binding_typed : Plan → ℕ → Binding → Bool
binding_typed plan table binding =
    meets_list plan (column_list plan table binding.column) (operand_term binding.operand)

-- a comparison is none of equality: that is Equate
abbrev pub is_equality : Relation → Bool
is_equality Equal = true
is_equality Unequal = false
is_equality Less = false
is_equality AtMost = false
is_equality Greater = false
is_equality AtLeast = false

abbrev pub kind_typed : Plan → Kind → Bool
kind_typed plan (Among v restriction) = restriction_typed plan v restriction
kind_typed plan (Compare r a b) = not (is_equality r)
    && meet_if plan r (slice_get plan.terms a) (slice_get plan.terms b)
kind_typed plan (Equate a b) = meet_if plan Equal (slice_get plan.terms a) (slice_get plan.terms b)
kind_typed plan (ByTable table columns) = list_all (binding_typed plan table) columns
kind_typed plan Never = true
kind_typed plan (Last v) = true
kind_typed plan (Line i) = true

-- whether a key's term, and the variable that a column fills, may meet the column's cells
abbrev pub key_typed : Plan → ℕ → KeyTerm → Bool
key_typed plan table key = meets_list_if plan (column_list plan table key.column) (slice_get plan.terms key.term)

abbrev pub filled_typed : Plan → ℕ → FilledColumn → Bool
filled_typed plan table filled = meets_list plan (column_list plan table filled.column) (Read filled.var)

abbrev pub action_typed : Plan → Action → Bool
action_typed plan (Assign v term) = meet_if plan Equal (Some (Read v)) (slice_get plan.terms term)
action_typed plan (SetDefault v term) = meet_if plan Equal (Some (Read v)) (slice_get plan.terms term)
action_typed plan (DeleteDefault v term) = meet_if plan Equal (Some (Read v)) (slice_get plan.terms term)
action_typed plan (LookUp table keys filled) = list_all (key_typed plan table) keys
    && list_all (filled_typed plan table) filled

abbrev pub statement_typed : Plan → Statement → Bool
statement_typed plan statement = action_typed plan statement.action
