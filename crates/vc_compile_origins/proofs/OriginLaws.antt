-- What holds of all conditions, terms, demands and actions of a plan: what holds of each where it stands.
use Rattle.std.proofs.Common.{◌≡◌, ℕ, Bool, true, false, List, [], ◌∷◌, ◌++◌, map, flat_map, Option, Some, None, sym}
use Rattle.std.proofs.Common.{subst, if◌then◌else◌}
use Rattle.std.specs.Prelude.{option_map}
use Rattle.std.specs.List.{list_all}
use Rattle.vc_value.specs.declared.value.Value.{Value}
use Rattle.vc_model_parts.specs.declared.parts.Component.{Component}
use Rattle.vc_model_parts.specs.declared.parts.Component.TheVariants as components
use Rattle.vc_model_parts.specs.declared.parts.Model.{Model}
use Rattle.vc_plan.specs.declared.conditions.Condition as stored
use Rattle.vc_plan.specs.declared.plans.Plan.{Plan}
use Rattle.vc_plan.specs.declared.plans.Slot.{Slot}
use Rattle.vc_plan.specs.declared.procedures.Procedure.{Procedure}
use Rattle.vc_plan.specs.declared.procedures.Statement.{Statement}
use Rattle.vc_plan.specs.declared.rules.Rule.{Rule}
use Rattle.vc_plan.specs.declared.terms.Term as kept
use Rattle.vc_syntax_tree.specs.declared.Operand.{Operand}
use Rattle.vc_syntax_tree.specs.declared.Relator.{Relator}
use Rattle.vc_syntax_tree.specs.declared.Relator.TheVariants as relators
use Rattle.vc_syntax_tree.specs.Trees as syntax
use Rattle.vc_table.specs.declared.table.VariantTable.{VariantTable}
use Rattle.vc_types.specs.Looking.{column_in, table_named}
use Rattle.vc_types.specs.Occurrences.{call_of_action, condition_of_restriction, condition_of_statement, if_there}
use Rattle.vc_types.specs.Occurrences.{relation_of_demand, sides_of, term_of_action, values_in}
use Rattle.vc_types.specs.PlaceFaults.{is_key}
use Rattle.vc_types.specs.declared.place.At.{At}
use Rattle.vc_types.specs.declared.place.At.TheVariants as at
use Rattle.vc_compile_plan.specs.Conditions.{condition_at}
use Rattle.vc_compile_plan.specs.Layouts.{Layout, layout_of}
use Rattle.vc_compile_plan.specs.Numbering.{action_terms, brought_conditions, brought_terms, conditions_of}
use Rattle.vc_compile_plan.specs.Numbering.{demand_terms, drafts_of, guard_brings, if_asked, item_brings, numbered}
use Rattle.vc_compile_plan.specs.Numbering.{procedure_brings, procedure_from, procedure_terms_begin, procedures_begin}
use Rattle.vc_compile_plan.specs.Numbering.{requirement_brings, rule_brings, rule_from, statement_brings}
use Rattle.vc_compile_plan.specs.Numbering.{statement_from, terms_of}
use Rattle.vc_compile_plan.specs.PlanOf.{IsPlanOf}
use Rattle.vc_compile_plan.specs.Places.{Asked, procedure_site, selections_among, site_at}
use Rattle.vc_compile_plan.specs.Procedures.{Action, KeyDraft, ProcedureDraft, StatementDraft, action_at, key_of}
use Rattle.vc_compile_plan.specs.Procedures.{statement_at}
use Rattle.vc_compile_plan.specs.Rules.{Demand, Draft, constraint_site, demand_at, of_left_operand, of_right_operand}
use Rattle.vc_compile_plan.specs.Rules.{of_terms, restriction_draft}
use Rattle.vc_compile_plan.specs.Shown.{choice_at, is_configurable, line_choices}
use Rattle.vc_compile_plan.specs.Sites.{Site}
use Rattle.vc_compile_plan.specs.Tables.{column_number}
use Rattle.vc_compile_plan.specs.Terms.{literal_of, lone_of, term_at}
use Rattle.vc_compile_plan.specs.Trees as trees
use Rattle.vc_compile_plan.specs.Tuples.{asked_of, both, without_parts}
use Rattle.vc_compile_valid.proofs.EachLaws.{Each, each_flat, each_joined, each_mapped, each_more, each_passes}
use Rattle.vc_compile_valid.proofs.EntryLaws.{each_unmapped}
use Rattle.vc_compile_valid.proofs.NumberingLaws.{StandFrom, numbered_each, procedure_conditions, procedure_terms}
use Rattle.vc_compile_valid.proofs.NumberingLaws.{rule_conditions, rule_terms}
use Rattle.vc_compile_meant.specs.Scopes.{IsTyped}
use Rattle.vc_compile_meant.proofs.FaultLaws.{each_here, each_split, each_unflat}
use Rattle.vc_compile_meant.proofs.TupleLaws.{IsOfNet}
use Rattle.vc_compile_origins.proofs.Origins.{HoldsOfActions, HoldsOfConditions, HoldsOfDemands, HoldsOfTerms, StandsIn}
use Rattle.vc_compile_origins.proofs.StandingLaws.{OfItems, OfProcedures, OfRules, StandsAsked, each_guard, each_line}
use Rattle.vc_compile_origins.proofs.StandingLaws.{each_operation, each_procedure, each_requirement, each_rule}

-- what is asked, if anything is
abbrev IfAsked : (trees.Condition → Type 0) → Layout → Site → Option syntax.Condition → Type 0
IfAsked Q layout site None = Unit {0}
IfAsked Q layout site (Some c) = Q (condition_at layout site c)

if_each : (Q : trees.Condition → Type 0) (layout : Layout) (site : Site) (o : Option syntax.Condition)
    → IfAsked Q layout site o
    → Each Q (if_asked (option_map (condition_at layout site) o))
if_each Q layout site None h = tt
if_each Q layout site (Some c) h = (h, tt)

if_own : (Q : trees.Condition → Type 0) (layout : Layout) (site : Site) (o : Option syntax.Condition)
    → Each (λ c. Q (condition_at layout site c)) (if_there (λ c. c ∷ []) o) → IfAsked Q layout site o
if_own Q layout site None h = tt
if_own Q layout site (Some c) h = h.0

-- conditions
module _ (Q : trees.Condition → Type 0) (model : Model) (holds : HoldsOfConditions Q model) where
  both_asked : (site : Site) (a b : Option syntax.Condition) → IfAsked Q (layout_of model) site a
      → IfAsked Q (layout_of model) site b
      → IfAsked Q (layout_of model) site (both a b)
  both_asked site None b h k = k
  both_asked site (Some a) None h k = h
  both_asked site (Some a) (Some b) h k =
      holds.whole (condition_at (layout_of model) site a) (condition_at (layout_of model) site b) h k

  without_asked : (site : Site) (c : syntax.Condition) → Q (condition_at (layout_of model) site c)
      → IfAsked Q (layout_of model) site (without_parts c)
  without_asked site (syntax.And left right) h =
      let sides = holds.parts (condition_at (layout_of model) site left)
      (condition_at (layout_of model) site right) h in
      both_asked site (without_parts left) (without_parts right) (without_asked site left sides.0)
      (without_asked site right sides.1)
  without_asked site (syntax.PartOf part whole) h = tt
  without_asked site (syntax.Or left right) h = h
  without_asked site (syntax.Not condition) h = h
  without_asked site (syntax.Related relation) h = h
  without_asked site (syntax.Specified operand) h = h

  values_asked : (site : Site) (o : Option syntax.Condition)
      → Each (λ c. Q (condition_at (layout_of model) site c)) (if_there (λ c. c ∷ []) o)
      → IfAsked Q (layout_of model) site (asked_of o)
  values_asked site None h = tt
  values_asked site (Some c) h = without_asked site c h.0

  net_asked : (d : ℕ) (constraint : syntax.Constraint) (tuple : List ℕ) (number : ℕ) (restriction : syntax.Restriction)
      → IsOfNet model d constraint tuple restriction → StandsIn model constraint tuple
      → Each Q (rule_brings.conditions (restriction_draft (layout_of model) d constraint tuple number restriction))
  net_asked d constraint tuple number restriction of stands =
      let site = constraint_site (layout_of model) constraint tuple in
      let rs = constraint.restrictions in
      let Holds : syntax.Condition → Type 0 = λ c. Q
      (condition_at (layout_of model) (constraint_site (layout_of model) constraint tuple) c) in
      let parts = each_split Holds (if_there (λ c. c ∷ []) constraint.condition) (flat_map condition_of_restriction rs)
      (holds.at_tuple constraint tuple stands) in
      let own = each_here (λ r. Each Holds (condition_of_restriction r)) rs of.place restriction
      (each_unflat Holds condition_of_restriction rs parts.1) of.there in
      if_each Q (layout_of model) site (both (asked_of constraint.condition) restriction.condition)
      (both_asked site (asked_of constraint.condition) restriction.condition
      (values_asked site constraint.condition parts.0)
      (if_own Q (layout_of model) site restriction.condition own))

  rules_ask : OfRules (λ d. Each Q (rule_brings.conditions d)) model
  rules_ask = record {
    of_net = net_asked;
    of_var = λ v low. tt;
    of_slot = λ i low. tt;
    of_line = λ p owner i number a low h. (
      (holds.at_slot p owner (at.Line true) (syntax.Selection a.condition) h.stands).0,
      tt,
    );
  }

  choices_ask : (i : ℕ) (slot : Slot) (at : At) (asks : List Asked)
      → Each (StandsAsked model syntax.Selection i slot at) asks
      → Each Q (map (λ choice. choice.condition)
      (map (choice_at (layout_of model) (site_at (layout_of model) i slot at)) asks))
  choices_ask i slot at [] h = tt
  choices_ask i slot at (a ∷ asks) h = (
    (holds.at_slot i slot at (syntax.Selection a.condition) h.0.stands).0,
    choices_ask i slot at asks h.1,
  )

  line_asks : (i : ℕ) (slot : Slot) (b : Bool) (x : Component) (uses : List ℕ)
      → Each (StandsAsked model syntax.Selection i slot (at.Line b)) (selections_among model uses)
      → Each Q (map (λ choice. choice.condition)
      (line_choices (layout_of model) (site_at (layout_of model) i slot (at.Line b)) x uses))
  line_asks i slot b (components.Object o) uses h = tt
  line_asks i slot b (components.Plain material) uses h = choices_ask i slot (at.Line b) (selections_among model uses) h

  items_ask : OfItems (λ d. Each Q (item_brings.conditions d)) (λ d. Each Q (item_brings.conditions d)) model
  items_ask = (
    λ i slot item counts asks. line_asks i slot (is_configurable item.component) item.component item.uses asks,
    λ i slot x counts asks. choices_ask i slot at.Operation (selections_among model x.uses) asks,
  )

  statements_ask : (site : Site) (ss : List syntax.Statement)
      → Each (λ c. Q (condition_at (layout_of model) site c)) (flat_map condition_of_statement ss)
      → Each (λ s. Each Q (statement_brings.conditions s)) (map (statement_at (layout_of model) site) ss)
  statements_ask site ss h =
      each_mapped (λ s. Each Q (statement_brings.conditions s)) (statement_at (layout_of model) site) ss
      (each_more (λ s. Each (λ c. Q (condition_at (layout_of model) site c)) (condition_of_statement s))
      (λ s. Each Q (if_asked (option_map (condition_at (layout_of model) site) s.condition)))
      (λ s k. if_each Q (layout_of model) site s.condition (if_own Q (layout_of model) site s.condition k)) ss
      (each_unflat (λ c. Q (condition_at (layout_of model) site c)) condition_of_statement ss h))

  procedures_ask : OfProcedures (λ d. Each Q (procedure_brings.conditions d)) model
  procedures_ask i slot trigger d ss tree stands =
      let site = procedure_site (layout_of model) i slot in
      each_flat Q statement_brings.conditions (map (statement_at (layout_of model) site) ss)
      (statements_ask site ss (holds.at_slot i slot at.Procedure (syntax.Procedure ss) stands))

  pub each_condition : IsTyped model → Each Q (conditions_of (drafts_of (layout_of model)))
  each_condition sound =
      let drafts = drafts_of (layout_of model) in
      let rules = brought_conditions rule_brings drafts.rules in
      let guards = brought_conditions guard_brings drafts.guards in
      let requirements = brought_conditions requirement_brings drafts.requirements in
      let lines = brought_conditions item_brings drafts.lines in
      let operations = brought_conditions item_brings drafts.operations in
      let procedures = brought_conditions procedure_brings drafts.procedures in (
        holds.always,
        each_joined Q rules (guards ++ (requirements ++ (lines ++ (operations ++ procedures))))
            (each_flat Q rule_brings.conditions drafts.rules
            (each_rule (λ d. Each Q (rule_brings.conditions d)) model rules_ask sound))
            (each_joined Q guards (requirements ++ (lines ++ (operations ++ procedures)))
            (each_flat Q guard_brings.conditions drafts.guards
            (each_guard (λ d. Each Q (guard_brings.conditions d)) model
            (λ i slot n value a h. (
              (holds.at_slot i slot at.Characteristic
                  (syntax.Precondition a.condition) h.stands).0,
              tt,
            )) sound))
            (each_joined Q requirements (lines ++ (operations ++ procedures))
            (each_flat Q requirement_brings.conditions drafts.requirements
            (each_requirement (λ d. Each Q (requirement_brings.conditions d)) model
            (λ i slot n a h. (
              (holds.at_slot i slot at.Characteristic
                  (syntax.Selection a.condition) h.stands).0,
              tt,
            )) sound))
            (each_joined Q lines (operations ++ procedures)
            (each_flat Q item_brings.conditions drafts.lines
            (each_line (λ d. Each Q (item_brings.conditions d))
            (λ d. Each Q (item_brings.conditions d)) model items_ask sound))
            (each_joined Q operations procedures
            (each_flat Q item_brings.conditions drafts.operations
            (each_operation (λ d. Each Q (item_brings.conditions d))
            (λ d. Each Q (item_brings.conditions d)) model items_ask sound))
            (each_flat Q procedure_brings.conditions drafts.procedures
            (each_procedure (λ d. Each Q (procedure_brings.conditions d)) model procedures_ask sound)))))),
      )

-- terms: those of demands, and of actions
module _ (P : trees.Term → Type 0) (layout : Layout) (site : Site) where
  terms_mean : (relator : Relator) (left right : syntax.Term) → P (term_at layout site left)
      → P (term_at layout site right)
      → Each P (demand_terms (of_terms layout site relator left right))
  terms_mean relators.Equal left right h k = (h, (k, tt))
  terms_mean relators.Unequal left right h k = (h, (k, tt))
  terms_mean relators.Less left right h k = (h, (k, tt))
  terms_mean relators.LessEqual left right h k = (h, (k, tt))
  terms_mean relators.Greater left right h k = (h, (k, tt))
  terms_mean relators.GreaterEqual left right h k = (h, (k, tt))

  right_means : (o : Option Operand) (a : Option Value) (relator : Relator) (left right : syntax.Term)
      → P (term_at layout site left)
      → P (term_at layout site right) → Each P (demand_terms (of_right_operand layout site o a relator left right))
  right_means None a relator left right h k = terms_mean relator left right h k
  right_means (Some operand) None relator left right h k = terms_mean relator left right h k
  right_means (Some operand) (Some a) relator left right h k = tt

  left_means : (o : Option Operand) (a : Option Value) (relator : Relator) (left right : syntax.Term)
      → P (term_at layout site left)
      → P (term_at layout site right) → Each P (demand_terms (of_left_operand layout site o a relator left right))
  left_means (Some operand) (Some a) relator left right h k = tt
  left_means (Some operand) None relator left right h k = terms_mean relator left right h k
  left_means None a relator left right h k = right_means (lone_of right)
      (literal_of layout.texts left) relator left right h k

  demand_means : (demand : syntax.Demand)
      → Each (λ r. Each (λ t. P (term_at layout site t)) (sides_of r)) (relation_of_demand demand)
      → Each P (demand_terms (demand_at layout site demand))
  demand_means (syntax.Relates (syntax.Compared left relator right)) h =
      let sides = h.0 in left_means (lone_of left) (literal_of layout.texts right) relator left right sides.0 sides.1.0
  demand_means (syntax.Relates (syntax.Within operand listed)) h = tt
  demand_means (syntax.Holds call) h = tt
  demand_means syntax.Never h = tt

  keys_mean : (table : List ℕ) (bindings : List syntax.Binding)
      → Each (λ t. P (term_at layout site t)) (map (λ binding. binding.value) bindings)
      → Each P (map (λ key. key.term) (flat_map (key_of layout site table) bindings))
  keys_mean table [] h = tt
  keys_mean table (b ∷ bindings) h =
      by (is_key (column_in layout.model b.column.name (table_named layout.model table))) (keys_mean table bindings h.1)
    where
      key : KeyDraft
      key = record { column = column_number layout.model table b.column.name; term = term_at layout site b.value }

      by : (k : Bool) → Each P (map (λ key. key.term) (flat_map (key_of layout site table) bindings))
          → Each P (map (λ key. key.term)
          ((if k then key ∷ [] else []) ++ flat_map (key_of layout site table) bindings))
      by true more = (h.0, more)
      by false more = more

  action_means : (a : syntax.Action) → Each (λ t. P (term_at layout site t)) (term_of_action a)
      → Each (λ call. Each (λ t. P (term_at layout site t)) (values_in call)) (call_of_action a)
      → Each P (action_terms (action_at layout site a))
  action_means (syntax.Assign name term) h k = (h.0, tt)
  action_means (syntax.SetDefault name term) h k = (h.0, tt)
  action_means (syntax.DelDefault name term) h k = (h.0, tt)
  action_means (syntax.Calls call) h k = keys_mean call.table.name call.bindings k.0

  actions_mean : (ss : List syntax.Statement)
      → Each (λ s. Each (λ t. P (term_at layout site t)) (term_of_action s.action)) ss
      → Each (λ s. Each (λ call. Each (λ t. P (term_at layout site t)) (values_in call)) (call_of_action s.action)) ss
      → Each (λ s. Each P (statement_brings.terms s)) (map (statement_at layout site) ss)
  actions_mean [] h k = tt
  actions_mean (s ∷ ss) h k = (action_means s.action h.0 k.0, actions_mean ss h.1 k.1)

module _ (P : trees.Term → Type 0) (model : Model) (holds : HoldsOfTerms P model) where
  net_means : (d : ℕ) (constraint : syntax.Constraint) (tuple : List ℕ) (number : ℕ) (restriction : syntax.Restriction)
      → IsOfNet model d constraint tuple restriction → StandsIn model constraint tuple
      → Each P (rule_brings.terms (restriction_draft (layout_of model) d constraint tuple number restriction))
  net_means d constraint tuple number restriction of stands =
      let site = constraint_site (layout_of model) constraint tuple in
      let rs = constraint.restrictions in
      let Means : syntax.Term → Type 0 = λ t. P (term_at (layout_of model)
      (constraint_site (layout_of model) constraint tuple) t) in
      demand_means P (layout_of model) site restriction.demand
      (each_here (λ r. Each (λ x. Each Means (sides_of x)) (relation_of_demand r.demand)) rs of.place restriction
      (each_unflat (λ x. Each Means (sides_of x)) (λ r. relation_of_demand r.demand) rs
      (each_unflat Means sides_of (flat_map (λ r. relation_of_demand r.demand) rs)
      (holds.at_tuple constraint tuple stands))) of.there)

  rules_mean : OfRules (λ d. Each P (rule_brings.terms d)) model
  rules_mean = record {
    of_net = net_means;
    of_var = λ v low. tt;
    of_slot = λ i low. tt;
    of_line = λ p owner i number a low h. tt;
  }

  items_mean : OfItems (λ d. Each P (item_brings.terms d)) (λ d. Each P (item_brings.terms d)) model
  items_mean = (
    λ i slot item counts asks. (
      (holds.at_slot i slot (at.Line (is_configurable item.component))
          (syntax.Counts (syntax.term_of item.quantity.value)) counts).0,
      tt,
    ),
    λ i slot x counts asks. (
      (holds.at_slot i slot at.Operation
          (syntax.Counts (syntax.term_of x.time.value)) counts).0,
      tt,
    ),
  )

  procedures_mean : OfProcedures (λ d. Each P (procedure_brings.terms d)) model
  procedures_mean i slot trigger d ss tree stands =
      let site = procedure_site (layout_of model) i slot in
      let Means : syntax.Term → Type 0 = λ t. P (term_at (layout_of model)
      (procedure_site (layout_of model) i slot) t) in
      let calls = flat_map (λ s. call_of_action s.action) ss in
      let parts = each_split Means (flat_map (λ s. term_of_action s.action) ss) (flat_map values_in calls)
      (holds.at_slot i slot at.Procedure (syntax.Procedure ss) stands) in
      each_flat P statement_brings.terms (map (statement_at (layout_of model) site) ss)
      (actions_mean P (layout_of model) site ss (each_unflat Means (λ s. term_of_action s.action) ss parts.0)
      (each_unflat (λ call. Each Means (values_in call)) (λ s. call_of_action s.action) ss
      (each_unflat Means values_in calls parts.1)))

  pub each_term : IsTyped model → Each P (terms_of (drafts_of (layout_of model)))
  each_term sound =
      let drafts = drafts_of (layout_of model) in
      let rules = brought_terms rule_brings drafts.rules in
      let lines = brought_terms item_brings drafts.lines in
      let operations = brought_terms item_brings drafts.operations in
      let procedures = brought_terms procedure_brings drafts.procedures in
      each_joined P rules (lines ++ (operations ++ procedures))
      (each_flat P rule_brings.terms drafts.rules (each_rule
      (λ d. Each P (rule_brings.terms d)) model rules_mean sound))
      (each_joined P lines (operations ++ procedures)
      (each_flat P item_brings.terms drafts.lines
      (each_line (λ d. Each P (item_brings.terms d)) (λ d. Each P (item_brings.terms d)) model items_mean sound))
      (each_joined P operations procedures
      (each_flat P item_brings.terms drafts.operations
      (each_operation (λ d. Each P (item_brings.terms d)) (λ d. Each P (item_brings.terms d)) model items_mean sound))
      (each_flat P procedure_brings.terms drafts.procedures
      (each_procedure (λ d. Each P (procedure_brings.terms d)) model procedures_mean sound))))

-- the trees that a plan keeps in memory
stored_pass : {X Y : Type 0} (Q : Y → Type 0) (f : X → Y) (test : X → Bool) → ((x : X) → Q (f x) → test x ≡ true)
    → (xs : List X)
    (ys : List Y) → map f xs ≡ ys → Each Q ys → list_all test xs ≡ true
stored_pass Q f test of xs ys e h = each_passes (λ x. Q (f x)) test of xs
    (each_unmapped Q f xs (subst (Each Q) (sym e) h))

pub conditions_pass : (Q : trees.Condition → Type 0) (test : stored.Condition → Bool)
    → ((c : stored.Condition) → Q (trees.condition_of c) → test c ≡ true)
    → (model : Model) (tables : List VariantTable) (plan : Plan)
    → IsPlanOf model tables plan → IsTyped model → HoldsOfConditions Q model → list_all test plan.conditions ≡ true
conditions_pass Q test of model tables plan is sound holds =
    stored_pass Q trees.condition_of test of plan.conditions (conditions_of (drafts_of (layout_of model))) is.conditions
    (each_condition Q model holds sound)

pub terms_pass : (P : trees.Term → Type 0) (test : kept.Term → Bool)
    → ((t : kept.Term) → P (trees.term_of t) → test t ≡ true)
    → (model : Model) (tables : List VariantTable) (plan : Plan) → IsPlanOf model tables plan → IsTyped model
    → HoldsOfTerms P model
    → list_all test plan.terms ≡ true
terms_pass P test of model tables plan is sound holds =
    stored_pass P trees.term_of test of plan.terms (terms_of (drafts_of (layout_of model))) is.terms
    (each_term P model holds sound)

-- rules, by their drafts and the numbers of what these bring
abbrev pub RulesMade : (Draft → Type 0) → (Rule → Type 0) → Model → Type 0
RulesMade P R model =
    (c t : ℕ) (d : Draft) → P d → StandFrom (conditions_of (drafts_of (layout_of model))) c (rule_brings.conditions d)
    → StandFrom (terms_of (drafts_of (layout_of model))) t (rule_brings.terms d) → R (rule_from c t d)

pub rules_hold : (P : Draft → Type 0) (R : Rule → Type 0) (model : Model) (tables : List VariantTable) (plan : Plan)
    → IsPlanOf model tables plan → IsTyped model → OfRules P model → RulesMade P R model → Each R plan.rules
rules_hold P R model tables plan is sound of made =
    let drafts = drafts_of (layout_of model) in
    subst (Each R) (sym is.rules)
    (numbered_each rule_brings rule_from P R (conditions_of drafts) (terms_of drafts) made 1 0 drafts.rules
    (each_rule P model of sound)
    (rule_conditions drafts) (rule_terms drafts))

demands_hold : (K : Demand → Type 0) (model : Model) → HoldsOfDemands K model → OfRules (λ d. K d.demand) model
demands_hold K model holds = record {
  of_net = λ d constraint tuple number restriction of stands.
      each_here (λ r. K (demand_at (layout_of model) (constraint_site (layout_of model) constraint tuple) r.demand))
      constraint.restrictions of.place restriction (holds.at_tuple constraint tuple stands) of.there;
  of_var = holds.of_var;
  of_slot = holds.of_slot;
  of_line = λ p owner i number a low h. holds.of_slot i low;
}

pub rules_pass : (K : Demand → Type 0) (test : Rule → Bool) (model : Model) (tables : List VariantTable) (plan : Plan)
    → IsPlanOf model tables plan → IsTyped model → HoldsOfDemands K model
    → RulesMade (λ d. K d.demand) (λ x. test x ≡ true) model → list_all test plan.rules ≡ true
rules_pass K test model tables plan is sound holds made =
    each_passes (λ x. test x ≡ true) test (λ x h. h) plan.rules
    (rules_hold (λ d. K d.demand) (λ x. test x ≡ true) model tables plan is sound (demands_hold K model holds) made)

-- procedures and their statements
abbrev pub ProceduresMade : (ProcedureDraft → Type 0) → (Procedure → Type 0) → Model → Type 0
ProceduresMade P R model =
    (c t : ℕ) (d : ProcedureDraft) → P d → StandFrom (conditions_of (drafts_of (layout_of model))) c
    (procedure_brings.conditions d)
    → StandFrom (terms_of (drafts_of (layout_of model))) t (procedure_brings.terms d) → R (procedure_from c t d)

pub procedures_hold : (P : ProcedureDraft → Type 0) (R : Procedure
    → Type 0) (model : Model) (tables : List VariantTable) (plan : Plan)
    → IsPlanOf model tables plan → IsTyped model → OfProcedures P model → ProceduresMade P R model
    → Each R plan.procedures
procedures_hold P R model tables plan is sound of made =
    let drafts = drafts_of (layout_of model) in
    subst (Each R) (sym is.procedures)
    (numbered_each procedure_brings procedure_from P R (conditions_of drafts) (terms_of drafts) made
    (procedures_begin drafts)
    (procedure_terms_begin drafts) drafts.procedures (each_procedure P model of sound) (procedure_conditions drafts)
    (procedure_terms drafts))

abbrev pub StatementsMade : (StatementDraft → Type 0) → (Statement → Type 0) → Model → Type 0
StatementsMade P R model =
    (c t : ℕ) (d : StatementDraft) → P d → StandFrom (conditions_of (drafts_of (layout_of model))) c
    (statement_brings.conditions d)
    → StandFrom (terms_of (drafts_of (layout_of model))) t (statement_brings.terms d) → R (statement_from c t d)

pub statements_hold : (P : StatementDraft → Type 0) (R : Statement → Type 0) (model : Model) → StatementsMade P R model
    → (c t : ℕ) (drafts : List StatementDraft) → Each P drafts
    → StandFrom (conditions_of (drafts_of (layout_of model))) c (flat_map statement_brings.conditions drafts)
    → StandFrom (terms_of (drafts_of (layout_of model))) t (flat_map statement_brings.terms drafts)
    → Each R (numbered statement_brings statement_from c t drafts)
statements_hold P R model made c t drafts all cs ts =
    numbered_each statement_brings statement_from P R (conditions_of (drafts_of (layout_of model)))
    (terms_of (drafts_of (layout_of model))) made c t drafts all cs ts

pub statements_pass : (A : Action → Type 0) (test : Statement
    → Bool) (model : Model) (tables : List VariantTable) (plan : Plan)
    → IsPlanOf model tables plan → IsTyped model → HoldsOfActions A model
    → StatementsMade (λ s. A s.action) (λ x. test x ≡ true) model
    → list_all (λ procedure. list_all test procedure.statements) plan.procedures ≡ true
statements_pass A test model tables plan is sound holds made =
    each_passes (λ x. list_all test x.statements ≡ true) (λ x. list_all test x.statements) (λ x h. h) plan.procedures
    (procedures_hold (λ d. Each (λ s. A s.action) d.statements)
    (λ x. list_all test x.statements ≡ true) model tables plan is sound
    (λ i slot trigger d ss tree stands. each_mapped (λ s. A s.action)
    (statement_at (layout_of model) (procedure_site (layout_of model) i slot)) ss (holds.at_slot i slot ss stands))
    (λ c t d all cs ts. each_passes (λ x. test x ≡ true) test (λ x h. h)
    (numbered statement_brings statement_from c t d.statements)
    (statements_hold (λ s. A s.action) (λ x. test x ≡ true) model made c t d.statements all cs ts)))
