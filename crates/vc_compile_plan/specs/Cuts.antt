-- The numbers at which characteristics are cut, and the domains that this leaves.
use Rattle.std.specs.Prelude.{ℕ, suc, Bool, true, false, ◌==◌, if◌then◌else◌, List, [], ◌∷◌, ◌++◌, map, flat_map}
use Rattle.std.specs.Prelude.{slice_get, Option, None, Some}
use Rattle.std.specs.List.{filter}
use Rattle.vc_value.specs.Grains.{cut_at}
use Rattle.vc_value.specs.declared.decimal.Dec.{Dec}
use Rattle.vc_value.specs.declared.grains.Grain.{Grain}
use Rattle.vc_value.specs.declared.table_header.Domain.{Domain}
use Rattle.vc_value.specs.declared.table_header.Domain.TheVariants as domains
use Rattle.vc_value.specs.declared.value.Value.{Value}
use Rattle.vc_value.specs.declared.value.Value.TheVariants as values
use Rattle.vc_value.specs.Millionths.{rounded}
use Rattle.vc_model_parts.specs.declared.parts.Characteristic.{Characteristic}
use Rattle.vc_model_parts.specs.declared.parts.Model.{Model}
use Rattle.vc_model_parts.specs.Headers.{domain_of}
use Rattle.vc_syntax_tree.specs.declared.Item.{Item}
use Rattle.vc_syntax_tree.specs.declared.Item.TheVariants as items
use Rattle.vc_syntax_tree.specs.declared.Operand.{Operand as OperandLeaf}
use Rattle.vc_syntax_tree.specs.declared.Operand.TheVariants as operands
use Rattle.vc_syntax_tree.specs.declared.Relator.TheVariants as relators
use Rattle.vc_syntax_tree.specs.Trees.{Term, Relation, Compared, Within, TableCall, Binding, Dependency, Constrains}
use Rattle.vc_table.specs.declared.table.VariantTable.{VariantTable}
use Rattle.vc_types.specs.Looking.{characteristic_named}
use Rattle.vc_types.specs.Meanings.{Variable, referent_of, variable_named}
use Rattle.vc_types.specs.declared.meaning.Referent.{Referent}
use Rattle.vc_types.specs.declared.meaning.Referent.TheVariants as referents
use Rattle.vc_types.specs.Occurrences.{conditions_in, relations_of, demanded_relations, calls_in}
use Rattle.vc_types.specs.Settings.{variables_in}
use Rattle.vc_plan.specs.Domains.{decimals_in}
use Rattle.vc_compile_plan.specs.Conditions.{number_of}
use Rattle.vc_compile_plan.specs.Layouts.{Layout, tree_of}
use Rattle.vc_compile_plan.specs.Tables.{column_cells, column_number, table_number}
use Rattle.vc_compile_plan.specs.Terms.{lone_of, literal_of}
use Rattle.vc_compile_plan.specs.Uses.{used_dependencies}

-- a number at which a characteristic is cut
pub record Mark : Type 0 where
  pub characteristic : ℕ
  pub number : Dec

-- the characteristic that an operand names, whatever object it is of
abbrev pub of_referent : Option Referent → Option ℕ
of_referent None = None
of_referent (Some (referents.Object class)) = None
of_referent (Some (referents.Value c)) = c

abbrev pub characteristic_of : Model → List Variable → OperandLeaf → Option ℕ
characteristic_of model variables (operands.Plain leaf) = characteristic_named model leaf.name
characteristic_of model variables (operands.Owned owner leaf) = characteristic_named model leaf.name
characteristic_of model variables (operands.Member variable leaf) = characteristic_named model leaf.name
characteristic_of model variables (operands.Variable leaf) =
    of_referent (referent_of (variable_named variables leaf.name))

-- the numbers, as cuts of what the operand names; of nothing where a side is no lone operand
abbrev pub marks_at : Option ℕ → List Dec → List Mark
marks_at None numbers = []
marks_at (Some c) numbers = map (λ number. record { characteristic = c; number = number }) numbers

abbrev pub marks_of : Model → List Variable → Option OperandLeaf → List Dec → List Mark
marks_of model variables None numbers = []
marks_of model variables (Some operand) numbers = marks_at (characteristic_of model variables operand) numbers

-- the number of a literal
abbrev pub number_in : Option Value → List Dec
number_in None = []
number_in (Some (values.Text t)) = []
number_in (Some (values.Num a)) = a ∷ []

abbrev pub literal_number : Term → List Dec
literal_number term = number_in (literal_of [] term)

abbrev pub item_numbers : Item → List Dec
item_numbers (items.Text leaf) = []
item_numbers (items.Number number) = number_of number ∷ []
item_numbers (items.Interval low high) = number_of low ∷ number_of high ∷ []

-- what a relation puts beside a characteristic: a literal as a whole side, or all that IN names, ends of intervals too
abbrev pub relation_marks : Model → List Variable → Relation → List Mark
relation_marks model variables (Compared left relator right) =
    marks_of model variables (lone_of left) (literal_number right)
    ++ marks_of model variables (lone_of right) (literal_number left)
relation_marks model variables (Within operand listed) =
    marks_of model variables (Some operand) (flat_map item_numbers listed)

-- an `=` that is a restriction cuts at its literal rounded to the characteristic's decimals too
abbrev pub decimals_of : Option Characteristic → ℕ
decimals_of None = 6
decimals_of (Some c) = decimals_in (Some (domain_of c.values))

abbrev pub rounded_mark : Model → Mark → Mark
rounded_mark model mark = record mark {
  number = record {
    millionths =
        rounded (decimals_of (slice_get model.characteristics mark.characteristic)) mark.number.millionths;
  };
}

abbrev pub is_equation : Relation → Bool
is_equation (Compared left relators.Equal right) = true
is_equation (Compared left relators.Unequal right) = false
is_equation (Compared left relators.Less right) = false
is_equation (Compared left relators.LessEqual right) = false
is_equation (Compared left relators.Greater right) = false
is_equation (Compared left relators.GreaterEqual right) = false
is_equation (Within operand listed) = false

abbrev pub restriction_marks : Model → List Variable → Relation → List Mark
restriction_marks model variables relation =
    let marks = relation_marks model variables relation in
    let rounded_too = map (rounded_mark model) marks in
    marks ++ (if is_equation relation then rounded_too else [])

-- what is given to a column is cut at the column's cells
abbrev pub cell_numbers : Value → List Dec
cell_numbers a = number_in (Some a)

abbrev pub binding_marks : Model → List VariantTable → List Variable → TableCall → Binding → List Mark
binding_marks model tables variables call binding =
    marks_of model variables (lone_of binding.value)
    (flat_map cell_numbers
    (column_cells tables (table_number model call.table.name)
    (column_number model call.table.name binding.column.name)))

abbrev pub call_marks : Model → List VariantTable → List Variable → TableCall → List Mark
call_marks model tables variables call = flat_map (binding_marks model tables variables call) call.bindings

-- all cuts of a dependency: of its conditions, and of a constraint's restrictions and table calls
abbrev pub constraint_calls : Dependency → List TableCall
constraint_calls (Constrains constraint) = calls_in (Constrains constraint)
constraint_calls dependency = []

abbrev pub dependency_marks : Model → List VariantTable → Dependency → List Mark
dependency_marks model tables dependency =
    flat_map (relation_marks model (variables_in model dependency)) (flat_map relations_of (conditions_in dependency))
    ++ (flat_map (restriction_marks model (variables_in model dependency)) (demanded_relations dependency)
    ++ flat_map (call_marks model tables (variables_in model dependency)) (constraint_calls dependency))

abbrev pub marks_if : Model → List VariantTable → Option Dependency → List Mark
marks_if model tables None = []
marks_if model tables (Some dependency) = dependency_marks model tables dependency

abbrev pub all_marks : Layout → List VariantTable → List Mark
all_marks layout tables =
    flat_map (λ d. marks_if layout.model tables (tree_of layout.model d)) (used_dependencies layout)

-- a domain cut at numbers, one after another: what lies outside cuts nothing, nor does what has cut before
abbrev pub cut_all : ℕ → List Grain → List Dec → List Grain
cut_all decimals grains [] = grains
cut_all decimals grains (number ∷ numbers) = cut_all decimals (cut_at decimals number grains) numbers

abbrev pub cut_domain : List Dec → Domain → Domain
cut_domain numbers (domains.Texts texts) = domains.Texts texts
cut_domain numbers (domains.Nums decimals grains) = domains.Nums decimals (cut_all decimals grains numbers)

abbrev pub cuts_at : List Mark → ℕ → List Dec
cuts_at marks c = map (λ mark. mark.number) (filter (λ mark. mark.characteristic == c) marks)

-- the domain of each characteristic, by its number: its list, cut
abbrev pub domains_from : List Mark → ℕ → List Characteristic → List Domain
domains_from marks c [] = []
domains_from marks c (characteristic ∷ characteristics) =
    cut_domain (cuts_at marks c) (domain_of characteristic.values) ∷ domains_from marks (suc c) characteristics

abbrev pub domains_of : Layout → List VariantTable → List Domain
domains_of layout tables = domains_from (all_marks layout tables) 0 layout.model.characteristics
