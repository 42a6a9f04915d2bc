-- Rules name conditions, terms, slots, variables, tables and columns that the plan has.
use Rattle.std.proofs.Common.{◌≡◌, ℕ, suc, ◌<◌, Bool, true, false, ◌&&◌, nat_lt, List, [], ◌∷◌, ◌++◌, length, map}
use Rattle.std.proofs.Common.{flat_map, Option, Some, None, refl, sym, ap, ◌∙◌, arith, subst, if◌then◌else◌}
use Rattle.std.specs.Prelude.{◌==◌, is_none, is_some, nat_le, option_map, slice_get}
use Rattle.std.specs.List.{list_all, list_any}
use Rattle.std.proofs.lemmas.Bool.{and_from, and_parts, eqb-true, lt-ltb, or_parts}
use Rattle.std.proofs.lemmas.List.{length-map}
use Rattle.std.proofs.lemmas.List.Folds.{list_all-append}
use Rattle.std.proofs.lemmas.Option.{slice_get_within}
use Rattle.vc_value.specs.declared.value.Value.{Value}
use Rattle.vc_model_parts.specs.declared.parts.Model.{Model}
use Rattle.vc_model_parts.specs.declared.parts.NamedDependency.{NamedDependency}
use Rattle.vc_plan.specs.Orders.{are_apart}
use Rattle.vc_plan.specs.Ranges.{is_of, is_of_if, piece_there, value_there}
use Rattle.vc_plan.specs.RuleRanges.{binding_there, kind_there, operand_there, restriction_there, rule_there, width_of}
use Rattle.vc_plan.specs.RuleShapes.{is_among, is_at, is_of_constraint, kind_vars, operand_vars, rule_vars}
use Rattle.vc_plan.specs.RuleShapes.{stays_at_its_slots}
use Rattle.vc_plan.specs.Reads.{vars_of_condition}
use Rattle.vc_plan.specs.Seen.{slot_in}
use Rattle.vc_plan.specs.declared.plans.Plan.{Plan}
use Rattle.vc_plan.specs.declared.plans.Var.{Var}
use Rattle.vc_plan.specs.declared.rules.Binding.{Binding}
use Rattle.vc_plan.specs.declared.rules.Operand.{Operand}
use Rattle.vc_plan.specs.declared.rules.Operand.TheVariants as operands
use Rattle.vc_plan.specs.declared.rules.Rule.{Rule}
use Rattle.vc_syntax_tree.specs.declared.Operand.{Operand as Name}
use Rattle.vc_syntax_tree.specs.declared.Relator.{Relator}
use Rattle.vc_syntax_tree.specs.declared.Relator.TheVariants as relators
use Rattle.vc_syntax_tree.specs.Trees as syntax
use Rattle.vc_table.specs.declared.table.VariantTable.{VariantTable}
use Rattle.vc_types.specs.Looking.{table_named}
use Rattle.vc_types.specs.NameFaults.{is_unknown_call, is_unknown_column}
use Rattle.vc_types.specs.Occurrences.{call_of_demand, calls_in, conditions_in, demanded_relations, own_terms}
use Rattle.vc_types.specs.Occurrences.{relation_of_demand, relations_in, relations_of, sides_of, values_in}
use Rattle.vc_compile_plan.specs.Conditions.{piece_of}
use Rattle.vc_compile_plan.specs.Layouts.{layout_of, tree_of}
use Rattle.vc_compile_plan.specs.Numbering.{conditions_of, demand_terms, drafts_of, if_asked, kind_from, number_for}
use Rattle.vc_compile_plan.specs.Numbering.{rule_from, terms_of}
use Rattle.vc_compile_plan.specs.PlanOf.{IsPlanOf}
use Rattle.vc_compile_plan.specs.Rules.{Demand, Draft, among, binding_at, by_table, compare, constraint_site, demand_at}
use Rattle.vc_compile_plan.specs.Rules.{equate, given_operand, last, line, never, of_left_operand, of_right_operand}
use Rattle.vc_compile_plan.specs.Rules.{of_terms, restriction_draft}
use Rattle.vc_compile_plan.specs.Sites.{Site}
use Rattle.vc_compile_plan.specs.Slots.{slots_of}
use Rattle.vc_compile_plan.specs.Tables.{column_number, table_number}
use Rattle.vc_compile_plan.specs.Terms.{literal_of, lone_of}
use Rattle.vc_compile_plan.specs.Texts.{texts_of}
use Rattle.vc_compile_plan.specs.Trees as trees
use Rattle.vc_compile_valid.proofs.EachLaws.{Each, each_both, each_more, each_passes}
use Rattle.vc_compile_valid.proofs.ListLaws.{weaker}
use Rattle.vc_compile_valid.proofs.NumberingLaws.{StandFrom, condition_count, stand_within, term_count}
use Rattle.vc_compile_meant.proofs.ComponentLaws.{condition_if, condition_stands}
use Rattle.vc_compile_meant.proofs.FaultLaws.{each_false, each_here, each_split, each_unflat, names_known}
use Rattle.vc_compile_meant.proofs.TupleLaws.{IsOfNet}
use Rattle.vc_compile_origins.proofs.OriginLaws.{RulesMade}
use Rattle.vc_compile_origins.proofs.Origins.{StandsIn}
use Rattle.vc_compile_origins.proofs.StandingLaws.{OfRules}
use Rattle.vc_compile_ranges.specs.Numbers.{KeepsNumbers, listed_in}
use Rattle.vc_compile_ranges.proofs.ColumnLaws.{column_below, table_there}
use Rattle.vc_compile_ranges.proofs.MeantLaws.{fit_in}
use Rattle.vc_compile_ranges.proofs.SaidLaws.{IsSaid, IsSaidItem, literal_there, pieces_there}

-- a dependency of the model is one of the plan
pub dependency_there : (model : Model) (tables : List VariantTable) (plan : Plan) → IsPlanOf model tables plan → (d : ℕ)
    (tree : syntax.Dependency) → tree_of model d ≡ Some tree → is_of plan.dependencies d ≡ true
dependency_there model tables plan is d tree e = by (slice_get model.dependencies d) refl
  where
    by : (o : Option NamedDependency) → slice_get model.dependencies d ≡ o → is_of plan.dependencies d ≡ true
    by None f = absurd (let gone : None ≡ Some tree = sym (ap (option_map (λ named. syntax.dependency_of named.tree)) f)
        ∙ e in cc)
    by (Some x) f =
        ap (λ xs. nat_lt d (length xs)) is.dependencies
        ∙ ap (nat_lt d) (length-map model.dependencies (λ dependency. dependency.name))
        ∙ lt-ltb d (length model.dependencies) (slice_get_within model.dependencies d x f)

-- a number below the count of slots, as the plan has them
pub slot_there : (model : Model) (tables : List VariantTable) (plan : Plan) → IsPlanOf model tables plan → (i : ℕ)
    → nat_lt i (length (slots_of model)) ≡ true → is_of plan.slots i ≡ true
slot_there model tables plan is i h = ap (λ xs. nat_lt i (length xs)) is.slots ∙ h

-- a variable that stands at a slot is there
pub var_there : (plan : Plan) (slots : List ℕ) (v : ℕ) → is_at plan slots v ≡ true → is_of plan.vars v ≡ true
var_there plan slots v h = by (slice_get plan.vars v) refl h
  where
    by : (o : Option Var) → slice_get plan.vars v ≡ o → is_among slots (slot_in o) ≡ true → is_of plan.vars v ≡ true
    by None e k = absurd (cc)
    by (Some x) e k = lt-ltb v (length plan.vars) (slice_get_within plan.vars v x e)

-- conditions and terms that a draft brings are there, by their numbers
pub condition_number : (model : Model) (tables : List VariantTable) (plan : Plan) → IsPlanOf model tables plan → (c : ℕ)
    (o : Option trees.Condition) → StandFrom (conditions_of (drafts_of (layout_of model))) c (if_asked o)
    → is_of plan.conditions (number_for c o) ≡ true
condition_number model tables plan is c o cs =
    let drafts = drafts_of (layout_of model) in
    ap (nat_lt (number_for c o)) (condition_count (layout_of model) drafts tables plan is)
    ∙ lt-ltb (number_for c o) (length (conditions_of drafts))
    (slice_get_within (conditions_of drafts) (number_for c o) (condition_if o) (condition_stands drafts c o cs))

pub term_number : (model : Model) (tables : List VariantTable) (plan : Plan) → IsPlanOf model tables plan → (n : ℕ)
    → n < length (terms_of (drafts_of (layout_of model))) → is_of plan.terms n ≡ true
term_number model tables plan is n h =
    ap (nat_lt n) (term_count (layout_of model) (drafts_of (layout_of model)) tables plan is)
    ∙ lt-ltb n (length (terms_of (drafts_of (layout_of model)))) h

two_terms : (model : Model) (tables : List VariantTable) (plan : Plan) → IsPlanOf model tables plan
    → (t : ℕ) (left right : trees.Term)
    → StandFrom (terms_of (drafts_of (layout_of model))) t (left ∷ right ∷ [])
    → (is_of plan.terms t && is_of plan.terms (suc t)) ≡ true
two_terms model tables plan is t left right ts =
    let most = stand_within (terms_of (drafts_of (layout_of model))) t (left ∷ right ∷ []) ts in
    and_from (is_of plan.terms t) (is_of plan.terms (suc t)) (term_number model tables plan is t (omega (arith, most)))
    (term_number model tables plan is (suc t) (omega (arith, most)))

-- what a demand names beside variables
abbrev pub GivesThere : Plan → Operand → Type 0
GivesThere plan (operands.Constant a) = value_there plan a ≡ true
GivesThere plan (operands.Variable v) = Unit {0}

abbrev pub ColumnNamed : Plan → ℕ → Binding → Type 0
ColumnNamed plan table b = (nat_lt b.column (width_of plan table) ≡ true) × GivesThere plan b.operand

abbrev pub DemandNamed : Plan → Demand → Type 0
DemandNamed plan (among v restriction) = restriction_there plan restriction ≡ true
DemandNamed plan (compare relation left right) = Unit {0}
DemandNamed plan (equate left right) = Unit {0}
DemandNamed plan (by_table table columns) = (is_of plan.tables table ≡ true) × Each (ColumnNamed plan table) columns
DemandNamed plan never = Unit {0}
DemandNamed plan (last v) = is_of plan.vars v ≡ true
DemandNamed plan (line i) = is_of plan.slots i ≡ true

module _ (model : Model) (tables : List VariantTable) (plan : Plan) (is : IsPlanOf model tables plan) where
  terms_named : (site : Site) (relator : Relator) (left right : syntax.Term)
      → DemandNamed plan (of_terms (layout_of model) site relator left right)
  terms_named site relators.Equal left right = tt
  terms_named site relators.Unequal left right = tt
  terms_named site relators.Less left right = tt
  terms_named site relators.LessEqual left right = tt
  terms_named site relators.Greater left right = tt
  terms_named site relators.GreaterEqual left right = tt

  right_named : (site : Site) (o : Option Name) (a : Option Value) (relator : Relator) (left right : syntax.Term)
      → IsSaid model left
      → literal_of (texts_of model) left ≡ a
      → DemandNamed plan (of_right_operand (layout_of model) site o a relator left right)
  right_named site None a relator left right said e = terms_named site relator left right
  right_named site (Some operand) None relator left right said e = terms_named site relator left right
  right_named site (Some operand) (Some a) relator left right said e = literal_there model tables plan is left said a e

  left_named : (site : Site) (o : Option Name) (a : Option Value) (relator : Relator) (left right : syntax.Term)
      → IsSaid model left
      → IsSaid model right → literal_of (texts_of model) right ≡ a
      → DemandNamed plan (of_left_operand (layout_of model) site o a relator left right)
  left_named site (Some operand) (Some a) relator left right said other e =
      literal_there model tables plan is right other a e
  left_named site (Some operand) None relator left right said other e = terms_named site relator left right
  left_named site None a relator left right said other e =
      right_named site (lone_of right) (literal_of (texts_of model) left) relator left right said refl

  given_named : (site : Site) (value : syntax.Term) → IsSaid model value → (a : Option Value)
      → literal_of (texts_of model) value ≡ a
      → (o : Option Name) → GivesThere plan (given_operand (layout_of model) site a o)
  given_named site value said (Some a) e o = literal_there model tables plan is value said a e
  given_named site value said None e (Some operand) = tt
  given_named site value said None e None = tt

  columns_named : (site : Site) (table : List ℕ) (bindings : List syntax.Binding)
      → Each (IsSaid model) (map (λ binding. binding.value) bindings)
      → Each (λ b. nat_lt (column_number model table b.column.name) (width_of plan (table_number model table)) ≡ true)
      bindings
      → Each (ColumnNamed plan (table_number model table)) (map (binding_at (layout_of model) site table) bindings)
  columns_named site table [] said below = tt
  columns_named site table (b ∷ bindings) said below = (
    (below.0, given_named site b.value said.0 (literal_of (texts_of model) b.value) refl (lone_of b.value)),
    columns_named site table bindings said.1 below.1,
  )

  demand_named : (site : Site) → site.setting.model ≡ model → (demand : syntax.Demand)
      → Each (λ r. Each (IsSaid model) (sides_of r) × Each (IsSaidItem model) (listed_in r)) (relation_of_demand demand)
      → Each (λ call. Each (IsSaid model) (values_in call)) (call_of_demand demand)
      → Each (λ call. is_unknown_call site.setting call ≡ false) (call_of_demand demand)
      → DemandNamed plan (demand_at (layout_of model) site demand)
  demand_named site of (syntax.Relates (syntax.Compared left relator right)) said values known =
      let sides = said.0.0 in
      left_named site (lone_of left) (literal_of (texts_of model) right) relator left right sides.0 sides.1.0 refl
  demand_named site of (syntax.Relates (syntax.Within operand listed)) said values known =
      each_passes (λ p. piece_there plan p ≡ true) (piece_there plan) (λ p h. h)
      (map (piece_of (texts_of model)) listed)
      (pieces_there model tables plan is listed said.0.1)
  demand_named site of (syntax.Holds call) said values known =
      let unknown : is_unknown_call (record site.setting { model = model }) call ≡ false = subst
      (λ m. is_unknown_call (record site.setting { model = m }) call ≡ false) of known.0 in
      let parts = or_parts (is_none (table_named model call.table.name))
      (list_any (is_unknown_column (record site.setting { model = model }) call) call.bindings) unknown in (
        table_there model tables plan is call.table.name parts.0,
        columns_named site call.table.name call.bindings values.0
            (each_more (λ b. is_unknown_column (record site.setting { model = model }) call b ≡ false)
            (λ b. nat_lt (column_number model call.table.name b.column.name)
            (width_of plan (table_number model call.table.name)) ≡ true)
            (λ b h. column_below model tables plan is call.table.name b.column.name h) call.bindings
            (each_false (is_unknown_column (record site.setting { model = model }) call) call.bindings parts.1)),
      )
  demand_named site of syntax.Never said values known = tt

-- a draft of a rule
pub record IsNamedRule (plan : Plan) (d : Draft) : Type 0 where
  pub dependency : is_of_if plan.dependencies d.dependency ≡ true
  pub slots : list_all (is_of plan.slots) d.slots ≡ true
  pub demand : DemandNamed plan d.demand

net_named : (model : Model) (tables : List VariantTable) (plan : Plan) → IsPlanOf model tables plan → KeepsNumbers model
    → (d : ℕ)
    (constraint : syntax.Constraint) (tuple : List ℕ) (number : ℕ) (restriction : syntax.Restriction)
    → IsOfNet model d constraint tuple restriction → StandsIn model constraint tuple
    → IsNamedRule plan (restriction_draft (layout_of model) d constraint tuple number restriction)
net_named model tables plan is keeps d constraint tuple number restriction of stands =
    let site = constraint_site (layout_of model) constraint tuple in
    let tree = syntax.Constrains constraint in
    let rs = constraint.restrictions in
    let fit = fit_in model tables plan is keeps constraint tuple stands in
    let Said : syntax.Relation → Type 0 = λ r. Each (IsSaid model) (sides_of r) × Each (IsSaidItem model)
    (listed_in r) in
    let terms = each_split (IsSaid model) (flat_map sides_of (relations_in tree))
    (own_terms tree ++ flat_map values_in (calls_in tree)) fit.terms in
    let sides = each_unflat (IsSaid model) sides_of (relations_in tree) terms.0 in
    let demanded = (each_split Said (flat_map relations_of (conditions_in tree)) (demanded_relations tree)
    (each_both (λ r. Each (IsSaid model) (sides_of r)) (λ r. Each (IsSaidItem model) (listed_in r))
    (relations_in tree) sides fit.items)).1 in
    let relations = each_here (λ r. Each Said (relation_of_demand r.demand)) rs of.place restriction
    (each_unflat Said (λ r. relation_of_demand r.demand) rs demanded) of.there in
    let calls = flat_map (λ r. call_of_demand r.demand) rs in
    let values = each_here (λ r. Each (λ call. Each (IsSaid model) (values_in call))
    (call_of_demand r.demand)) rs of.place restriction
    (each_unflat (λ call. Each (IsSaid model) (values_in call)) (λ r. call_of_demand r.demand) rs
    (each_unflat (IsSaid model) values_in calls terms.1)) of.there in
    let known = each_here (λ r. Each (λ call. is_unknown_call site.setting call ≡ false)
    (call_of_demand r.demand)) rs of.place restriction
    (each_unflat (λ call. is_unknown_call site.setting call ≡ false) (λ r. call_of_demand r.demand) rs
    (each_false (is_unknown_call site.setting) calls (names_known site.setting tree fit.sound).1)) of.there in
    record {
      dependency = dependency_there model tables plan is d tree of.tree;
      slots = each_passes (λ i. nat_lt i (length (slots_of model)) ≡ true) (is_of plan.slots)
          (slot_there model tables plan is) tuple stands.slots;
      demand = demand_named model tables plan is site refl restriction.demand relations values known;
    }

pub rules_named : (model : Model) (tables : List VariantTable) (plan : Plan) → IsPlanOf model tables plan
    → KeepsNumbers model
    → OfRules (IsNamedRule plan) model
rules_named model tables plan is keeps = record {
  of_net = net_named model tables plan is keeps;
  of_var = λ v low. record { dependency = refl; slots = refl; demand = ap (λ xs. nat_lt v (length xs)) is.vars ∙ low };
  of_slot = λ i low. record { dependency = refl; slots = refl; demand = slot_there model tables plan is i low };
  of_line = λ p owner i number a low h. record {
    dependency = dependency_there model tables plan is a.dependency (syntax.Selection a.condition) h.tree;
    slots = refl;
    demand = slot_there model tables plan is i low;
  };
}

-- the variables of a rule that stays at its slots
abbrev HasVars : Plan → List ℕ → Type 0
HasVars plan vs = list_all (is_of plan.vars) vs ≡ true

at_there : (plan : Plan) (slots vs : List ℕ) → list_all (is_at plan slots) vs ≡ true → HasVars plan vs
at_there plan slots vs h = weaker (is_at plan slots) (is_of plan.vars) vs (λ v k. var_there plan slots v k) h

record HasOwnVars (plan : Plan) (rule : Rule) : Type 0 where
  kind : is_of_constraint rule.kind ≡ true → HasVars plan (kind_vars plan rule.kind)
  inferred : HasVars plan rule.inferred

own_vars : (plan : Plan) (rule : Rule) → stays_at_its_slots plan rule ≡ true → HasOwnVars plan rule
own_vars plan rule h = by (is_of_constraint rule.kind) refl h
  where
    front : Bool
    front = (nat_lt 0 (length rule.slots) && nat_le (length rule.slots) 4) && are_apart (λ i j. i == j) rule.slots

    middle : Bool
    middle = list_all (is_at plan rule.slots) (rule_vars plan rule) && list_all (is_at plan rule.slots) rule.inferred

    back : Bool
    back = is_some rule.dependency && are_apart (λ v w. v == w) rule.inferred

    none : (vs : List ℕ) → (length vs == 0) ≡ true → HasVars plan vs
    none [] e = refl
    none (v ∷ vs) e = absurd (let same = eqb-true (length (v ∷ vs)) 0 e in omega (arith, same))

    by : (b : Bool) → is_of_constraint rule.kind ≡ b
        → (if b then (front && middle) && back else ((length rule.slots == 0) && (length rule.inferred == 0))) ≡ true
        → HasOwnVars plan rule
    by true e k =
        let inner = and_parts front middle (and_parts (front && middle) back k).0 in
        let parts = and_parts (list_all (is_at plan rule.slots) (rule_vars plan rule))
        (list_all (is_at plan rule.slots) rule.inferred) inner.1 in
        let conditions = vars_of_condition (slice_get plan.conditions rule.condition) in
        let vars = and_parts (list_all (is_at plan rule.slots) conditions)
        (list_all (is_at plan rule.slots) (kind_vars plan rule.kind))
        (sym (list_all-append (is_at plan rule.slots) conditions (kind_vars plan rule.kind)) ∙ parts.0) in
        record {
          kind = λ f. at_there plan rule.slots (kind_vars plan rule.kind) vars.1;
          inferred = at_there plan rule.slots rule.inferred parts.1;
        }
    by false e k = record {
      kind = λ f. absurd (let both : true ≡ false = sym f ∙ e in cc);
      inferred = none rule.inferred (and_parts (length rule.slots == 0) (length rule.inferred == 0) k).1;
    }

bindings_there : (plan : Plan) (table : ℕ) (columns : List Binding) → Each (ColumnNamed plan table) columns
    → HasVars plan (flat_map (λ b. operand_vars b.operand) columns) → list_all (binding_there plan table) columns ≡ true
bindings_there plan table [] named vars = refl
bindings_there plan table (b ∷ columns) named vars =
    let rest = flat_map (λ b. operand_vars b.operand) columns in
    let parts = and_parts (list_all (is_of plan.vars) (operand_vars b.operand)) (list_all (is_of plan.vars) rest)
    (sym (list_all-append (is_of plan.vars) (operand_vars b.operand) rest) ∙ vars) in
    and_from (binding_there plan table b) (list_all (binding_there plan table) columns)
    (and_from (nat_lt b.column (width_of plan table)) (operand_there plan b.operand) named.0.0
    (of b.operand named.0.1 parts.0))
    (bindings_there plan table columns named.1 parts.1)
  where
    of : (operand : Operand) → GivesThere plan operand → HasVars plan (operand_vars operand)
        → operand_there plan operand ≡ true
    of (operands.Constant a) h k = h
    of (operands.Variable v) h k = (and_parts (is_of plan.vars v) true k).0

kind_is : (model : Model) (tables : List VariantTable) (plan : Plan) → IsPlanOf model tables plan
    → (t : ℕ) (demand : Demand)
    → DemandNamed plan demand → StandFrom (terms_of (drafts_of (layout_of model))) t (demand_terms demand)
    → (is_of_constraint (kind_from t demand) ≡ true → HasVars plan (kind_vars plan (kind_from t demand)))
    → kind_there plan (kind_from t demand) ≡ true
kind_is model tables plan is t (among v restriction) named ts vars =
    and_from (is_of plan.vars v) _ (and_parts (is_of plan.vars v) true (vars refl)).0 named
kind_is model tables plan is t (compare relation left right) named ts vars =
    two_terms model tables plan is t left right ts
kind_is model tables plan is t (equate left right) named ts vars = two_terms model tables plan is t left right ts
kind_is model tables plan is t (by_table table columns) named ts vars =
    and_from (is_of plan.tables table) (list_all (binding_there plan table) columns) named.0
    (bindings_there plan table columns named.1 (vars refl))
kind_is model tables plan is t never named ts vars = refl
kind_is model tables plan is t (last v) named ts vars = named
kind_is model tables plan is t (line i) named ts vars = named

-- so a rule that stays at its slots names what is there
pub rule_made : (model : Model) (tables : List VariantTable) (plan : Plan) → IsPlanOf model tables plan
    → RulesMade (IsNamedRule plan) (λ rule. stays_at_its_slots plan rule ≡ true → rule_there plan rule ≡ true) model
rule_made model tables plan is c t d named cs ts stays =
    let own = own_vars plan (rule_from c t d) stays in
    let kind = kind_from t d.demand in
    let number = number_for c d.condition in
    and_from ((is_of_if plan.dependencies d.dependency && is_of plan.conditions number)
    && (list_all (is_of plan.slots) d.slots && list_all (is_of plan.vars) d.inferred)) (kind_there plan kind)
    (and_from (is_of_if plan.dependencies d.dependency && is_of plan.conditions number)
    (list_all (is_of plan.slots) d.slots && list_all (is_of plan.vars) d.inferred)
    (and_from (is_of_if plan.dependencies d.dependency) (is_of plan.conditions number) named.dependency
    (condition_number model tables plan is c d.condition cs))
    (and_from (list_all (is_of plan.slots) d.slots) (list_all (is_of plan.vars) d.inferred) named.slots own.inferred))
    (kind_is model tables plan is t d.demand named.demand ts own.kind)
