-- The rules of a model, with their conditions and terms as trees, before these have numbers.
use Rattle.std.specs.Prelude.{ℕ, suc, true, not, ◌==◌, List, [], ◌∷◌, ◌++◌, length, map, flat_map, slice_get, Option}
use Rattle.std.specs.Prelude.{None, Some, option_map}
use Rattle.std.specs.List.{filter}
use Rattle.vc_value.specs.declared.value.Value.{Value}
use Rattle.vc_model_parts.specs.declared.parts.BillItem.{BillItem}
use Rattle.vc_syntax_tree.specs.declared.Operand.{Operand as OperandLeaf}
use Rattle.vc_syntax_tree.specs.declared.Relator.{Relator}
use Rattle.vc_syntax_tree.specs.declared.Relator.TheVariants as relators
use Rattle.vc_syntax_tree.specs.Trees as syntax
use Rattle.vc_plan.specs.Domains.{numbers_below}
use Rattle.vc_types.specs.Settings.{setting_of}
use Rattle.vc_types.specs.declared.place.At.TheVariants as at
use Rattle.vc_types.specs.declared.place.Place.{Place}
use Rattle.vc_plan.specs.Pieces.{turned}
use Rattle.vc_plan.specs.declared.conditions.Relation.{Relation}
use Rattle.vc_plan.specs.declared.plans.Slot.{Slot}
use Rattle.vc_plan.specs.declared.rules.Binding.{Binding}
use Rattle.vc_plan.specs.declared.rules.Operand.{Operand}
use Rattle.vc_plan.specs.declared.rules.Operand.TheVariants as operands
use Rattle.vc_plan.specs.declared.rules.Restriction.{Restriction}
use Rattle.vc_plan.specs.declared.rules.Restriction.TheVariants.{Against, OneOf}
use Rattle.vc_compile_plan.specs.Conditions.{condition_at, relation_of, piece_of}
use Rattle.vc_compile_plan.specs.Layouts.{Layout, tree_of, object_at}
use Rattle.vc_compile_plan.specs.Places.{Asked, selections_among, site_at}
use Rattle.vc_compile_plan.specs.Sites.{Site, var_meant}
use Rattle.vc_compile_plan.specs.declared.standings.Standing.{Standing}
use Rattle.vc_compile_plan.specs.Slots.{bill_if}
use Rattle.vc_compile_plan.specs.Tables.{table_number, column_number}
use Rattle.vc_compile_plan.specs.Terms.{term_at, lone_of, literal_of}
use Rattle.vc_compile_plan.specs.Trees as plan
use Rattle.vc_compile_plan.specs.Tuples.{tuples_of, both, asked_of}
use Rattle.vc_compile_plan.specs.Uses.{active_constraints}

-- what a rule says where it acts
pub data Demand : Type 0 where
  among : ℕ → Restriction → Demand
  compare : Relation → plan.Term → plan.Term → Demand
  equate : plan.Term → plan.Term → Demand
  by_table : ℕ → List Binding → Demand
  never : Demand
  last : ℕ → Demand
  line : ℕ → Demand

-- a rule; it asks nothing where it has no condition
pub record Draft : Type 0 where
  pub dependency : Option ℕ
  pub number : ℕ
  pub slots : List ℕ
  pub condition : Option plan.Condition
  pub inferred : List ℕ
  pub demand : Demand

-- a constraint stands in a net, at the slots of a tuple
abbrev pub in_net : Place
in_net = record { object = 0; parent = None; at = at.Constraint }

abbrev pub constraint_site : Layout → syntax.Constraint → List ℕ → Site
constraint_site layout constraint tuple = record {
  setting = setting_of layout.model in_net (syntax.Constrains constraint);
  own = 0;
  parent = 0;
  objects = constraint.objects;
  slots = tuple;
}

-- a relation of terms: one lone operand against a literal restricts it to what is so related, turned round where it is
-- the right side
abbrev pub of_terms : Layout → Site → Relator → syntax.Term → syntax.Term → Demand
of_terms layout site relators.Equal left right = equate (term_at layout site left) (term_at layout site right)
of_terms layout site relator left right =
    compare (relation_of relator) (term_at layout site left) (term_at layout site right)

abbrev pub against : Layout → Site → Relation → OperandLeaf → Value → Demand
against layout site relation operand a = among (var_meant layout site operand) (Against relation a)

abbrev pub of_right_operand : Layout → Site → Option OperandLeaf → Option Value → Relator → syntax.Term → syntax.Term
    → Demand
of_right_operand layout site None a relator left right = of_terms layout site relator left right
of_right_operand layout site (Some operand) None relator left right = of_terms layout site relator left right
of_right_operand layout site (Some operand) (Some a) relator left right =
    against layout site (turned (relation_of relator)) operand a

abbrev pub of_left_operand : Layout → Site → Option OperandLeaf → Option Value → Relator → syntax.Term → syntax.Term
    → Demand
of_left_operand layout site (Some operand) (Some a) relator left right =
    against layout site (relation_of relator) operand a
of_left_operand layout site (Some operand) None relator left right = of_terms layout site relator left right
of_left_operand layout site None a relator left right =
    of_right_operand layout site (lone_of right) (literal_of layout.texts left) relator left right

abbrev pub relation_demand : Layout → Site → syntax.Relation → Demand
relation_demand layout site (syntax.Compared left relator right) =
    of_left_operand layout site (lone_of left) (literal_of layout.texts right) relator left right
relation_demand layout site (syntax.Within operand listed) =
    among (var_meant layout site operand) (OneOf (map (piece_of layout.texts) listed))

-- a table call: literals and variables, each for the place of its column
abbrev pub given_operand : Layout → Site → Option Value → Option OperandLeaf → Operand
given_operand layout site (Some a) operand = operands.Constant a
given_operand layout site None (Some operand) = operands.Variable (var_meant layout site operand)
given_operand layout site None None = operands.Variable 0

abbrev pub binding_at : Layout → Site → List ℕ → syntax.Binding → Binding
binding_at layout site table binding = record {
  column = column_number layout.model table binding.column.name;
  operand = given_operand layout site (literal_of layout.texts binding.value) (lone_of binding.value);
}

abbrev pub demand_at : Layout → Site → syntax.Demand → Demand
demand_at layout site (syntax.Relates relation) = relation_demand layout site relation
demand_at layout site (syntax.Holds call) =
    by_table (table_number layout.model call.table.name) (map (binding_at layout site call.table.name) call.bindings)
demand_at layout site syntax.Never = never

-- each number once, where it stands first
abbrev pub distinct : List ℕ → List ℕ
distinct [] = []
distinct (n ∷ numbers) = n ∷ filter (λ m. not (n == m)) (distinct numbers)

-- a rule for each restriction of a constraint, at a tuple; the first has this number
abbrev pub restriction_draft : Layout → ℕ → syntax.Constraint → List ℕ → ℕ → syntax.Restriction → Draft
restriction_draft layout d constraint tuple number restriction =
    let site = constraint_site layout constraint tuple in
    record {
      dependency = Some d;
      number = number;
      slots = tuple;
      condition = option_map (condition_at layout site) (both (asked_of constraint.condition) restriction.condition);
      inferred = distinct (map (var_meant layout site) constraint.inferences);
      demand = demand_at layout site restriction.demand;
    }

abbrev pub restriction_drafts : Layout → ℕ → syntax.Constraint → List ℕ → ℕ → List syntax.Restriction → List Draft
restriction_drafts layout d constraint tuple number [] = []
restriction_drafts layout d constraint tuple number (restriction ∷ restrictions) =
    restriction_draft layout d constraint tuple number restriction
    ∷ restriction_drafts layout d constraint tuple (suc number) restrictions

-- for each tuple that matches, in ascending order
abbrev pub constraint_drafts : Layout → ℕ → Option syntax.Dependency → List Draft
constraint_drafts layout d (Some (syntax.Constrains constraint)) =
    flat_map (λ tuple. restriction_drafts layout d constraint tuple 1 constraint.restrictions)
    (tuples_of layout constraint)
constraint_drafts layout d dependency = []

abbrev pub constraints_drafts : Layout → List Draft
constraints_drafts layout =
    flat_map (λ d. constraint_drafts layout d (tree_of layout.model d)) (active_constraints layout)

-- Last, by variable
abbrev pub own_draft : Demand → Draft
own_draft demand = record {
  dependency = None;
  number = 0;
  slots = [];
  condition = None;
  inferred = [];
  demand =
      demand;
}

abbrev pub last_drafts : Layout → List Draft
last_drafts layout = map (λ v. own_draft (last v)) (numbers_below (length layout.vars))

-- Line, by slot and selection condition of the line that the slot stands for; one that asks nothing where the line has
-- none
abbrev pub line_draft : Layout → Site → ℕ → ℕ → Asked → Draft
line_draft layout site i number asked = record (own_draft (line i)) {
  dependency = Some asked.dependency;
  number = number;
  condition = Some (condition_at layout site asked.condition);
}

abbrev pub line_drafts_from : Layout → Site → ℕ → ℕ → List Asked → List Draft
line_drafts_from layout site i number [] = []
line_drafts_from layout site i number (asked ∷ more) =
    line_draft layout site i number asked ∷ line_drafts_from layout site i (suc number) more

abbrev pub line_drafts : Layout → Site → ℕ → List Asked → List Draft
line_drafts layout site i [] = own_draft (line i) ∷ []
line_drafts layout site i (asked ∷ more) = line_drafts_from layout site i 1 (asked ∷ more)

-- the line is one of the bill of the slot above, and its conditions are asked there
abbrev pub drafts_of_line : Layout → ℕ → ℕ → Option Slot → Option BillItem → List Draft
drafts_of_line layout p i owner None = []
drafts_of_line layout p i None item = []
drafts_of_line layout p i (Some owner) (Some item) =
    line_drafts layout (site_at layout p owner (at.Line true)) i (selections_among layout.model item.uses)

abbrev pub drafts_of_slot : Layout → ℕ → Standing → Option ℕ → List Draft
drafts_of_slot layout i standing None = []
drafts_of_slot layout i standing (Some p) =
    drafts_of_line layout p i (slice_get layout.slots p)
    (slice_get (bill_if layout.model (object_at layout p)) standing.item)

abbrev pub slot_drafts_from : Layout → ℕ → List Standing → List Draft
slot_drafts_from layout i [] = []
slot_drafts_from layout i (standing ∷ standings) =
    drafts_of_slot layout i standing standing.parent ++ slot_drafts_from layout (suc i) standings

-- all rules, in the order of their numbers
abbrev pub rule_drafts : Layout → List Draft
rule_drafts layout = constraints_drafts layout ++ (last_drafts layout ++ slot_drafts_from layout 0 layout.standings)
