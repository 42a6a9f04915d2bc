-- Rules of a plan: numbered, none twice, one Last a variable, and Lines for each slot but the root.
use Rattle.std.proofs.Common.{◌≡◌, ℕ, zero, suc, ◌+◌, ◌<◌, ◌≤◌, Bool, true, false, cond, not, ◌&&◌, ◌||◌, nat_lt, List}
use Rattle.std.proofs.Common.{[], ◌∷◌, ◌++◌, length, map, flat_map}
use Rattle.std.proofs.Common.{Option, Some, None, refl, sym, ap, ◌∙◌, arith, subst, if◌then◌else◌, append_assoc}
use Rattle.std.proofs.Common.{append-nil, inl, inr}
use Rattle.std.specs.Prelude.{◌==◌, is_none, is_some, option_map, slice_get}
use Rattle.std.specs.List.{filter, list_all, list_any, range_with_len}
use Rattle.std.proofs.lemmas.Bool.{and_from, and_left, and_right, cases_order, eq-eqb, eqb-false, eqb-true, lt-ltb}
use Rattle.std.proofs.lemmas.Bool.{ne_eqb, not-true, not_from_false, or_from, or_left, or_right}
use Rattle.std.proofs.lemmas.List.{length-map}
use Rattle.std.proofs.lemmas.List.Folds.{list_any-append}
use Rattle.vc_syntax_tree.specs.Trees as syntax
use Rattle.vc_model_parts.specs.declared.parts.BillItem.{BillItem}
use Rattle.vc_model_parts.specs.declared.parts.Model.{Model}
use Rattle.vc_plan.specs.Domains.{numbers_below}
use Rattle.vc_plan.specs.Orders.{are_apart, are_in_order, same_number_if, same_numbers}
use Rattle.vc_plan.specs.RuleShapes.{are_one_line, are_one_rule, are_with_and_without, asks_by_right, asks_nothing}
use Rattle.vc_plan.specs.RuleShapes.{has_its_lines, has_one_last, is_last, is_last_of, is_line_of, is_literal}
use Rattle.vc_plan.specs.RuleShapes.{is_not_among, is_numbered, is_of_constraint, line_slot}
use Rattle.vc_plan.specs.Restrictions.{lone_in}
use Rattle.vc_plan.specs.declared.conditions.Condition.{Condition as StoredCondition}
use Rattle.vc_plan.specs.declared.conditions.Condition.TheVariants as conditions
use Rattle.vc_plan.specs.declared.plans.Plan.{Plan}
use Rattle.vc_plan.specs.declared.plans.Slot.{Slot}
use Rattle.vc_plan.specs.declared.rules.Rule.{Rule}
use Rattle.vc_plan.specs.declared.terms.Term.{Term as StoredTerm}
use Rattle.vc_plan.specs.declared.terms.Term.TheVariants as terms
use Rattle.vc_table.specs.declared.table.VariantTable.{VariantTable}
use Rattle.vc_types.specs.declared.place.At.TheVariants as at
use Rattle.vc_compile_plan.specs.Layouts.{Layout, layout_of, object_at, tree_of}
use Rattle.vc_compile_plan.specs.Numbering.{Brings, Drafts, conditions_of, demand_terms, drafts_of, kind_from, numbered}
use Rattle.vc_compile_plan.specs.Numbering.{number_for, rule_brings, rule_from, terms_of}
use Rattle.vc_compile_plan.specs.Places.{Asked, selections_among, site_at}
use Rattle.vc_compile_plan.specs.PlanOf.{IsPlanOf}
use Rattle.vc_compile_plan.specs.Rules.{Demand, Draft, among, by_table, compare, constraint_drafts, constraint_site}
use Rattle.vc_compile_plan.specs.Rules.{constraints_drafts, drafts_of_line, drafts_of_slot, equate, last, last_drafts}
use Rattle.vc_compile_plan.specs.Rules.{line, line_draft, line_drafts, line_drafts_from, never, own_draft}
use Rattle.vc_compile_plan.specs.Rules.{restriction_draft, restriction_drafts, rule_drafts, slot_drafts_from}
use Rattle.vc_compile_plan.specs.Sites.{Site}
use Rattle.vc_compile_plan.specs.Slots.{bill_if, bill_of, for_lines, slot_of, slots_of, standings_from, standings_of}
use Rattle.vc_compile_plan.specs.Trees as trees
use Rattle.vc_compile_plan.specs.Trees.{condition_of, term_of}
use Rattle.vc_compile_plan.specs.Tuples.{matches, tuples_from, tuples_of}
use Rattle.vc_compile_plan.specs.Uses.{active_constraints, is_active}
use Rattle.vc_compile_plan.specs.declared.standings.Standing.{Standing}
use Rattle.vc_compile_valid.specs.Rules.{HasRules}
use Rattle.vc_compile_valid.proofs.DraftLaws.{are_apart_terms, constraint_same, demand_constrains, demand_kept}
use Rattle.vc_compile_valid.proofs.DraftLaws.{each_constraint, each_last, each_of_slot, each_restriction}
use Rattle.vc_compile_valid.proofs.DraftLaws.{each_slot_draft, is_lone, is_value, keeps_apart, kind_of, last_of_same}
use Rattle.vc_compile_valid.proofs.DraftLaws.{last_same, line_of_same, never_last, no_last, no_line, no_slot, slot_same}
use Rattle.vc_compile_valid.proofs.EachLaws.{Each, each_joined, each_more, each_of_all, each_passes, order_joined}
use Rattle.vc_compile_valid.proofs.ListLaws.{made_from, none_past}
use Rattle.vc_compile_valid.proofs.NumberingLaws.{StandFrom, numbered_each, rule_conditions, rule_terms}
use Rattle.vc_compile_valid.proofs.OrderedLaws.{apart_from_order, flat_ordered, numbered_ordered, order_free}
use Rattle.vc_compile_valid.proofs.OrderedLaws.{order_left, order_mapped, order_weaker, range_apart}
use Rattle.vc_compile_valid.proofs.PlacedLaws.{IsPart, IsPlacedBelow, placed_at, slot_at, stand_first, stand_rest}
use Rattle.vc_compile_valid.proofs.SlotwiseLaws.{below_count, left_append, left_numbered, none_left}

-- a draft is numbered from 1 where it is of a dependency, and asks nothing where it isn't
abbrev IsAsked : Option ℕ → Option trees.Condition → Demand → Type 0
IsAsked None condition demand = condition ≡ None
IsAsked (Some d) condition demand = is_last (kind_of demand) ≡ false

record IsDraft (draft : Draft) : Type 0 where
  number : (if is_some draft.dependency then nat_lt 0 draft.number else (draft.number == 0)) ≡ true
  asked : IsAsked draft.dependency draft.condition draft.demand
  apart : keeps_apart draft.demand ≡ true

all_drafts : (layout : Layout) → Each IsDraft (rule_drafts layout)
all_drafts layout =
    each_joined IsDraft (constraints_drafts layout) (last_drafts layout ++ slot_drafts_from layout 0 layout.standings)
    (each_constraint IsDraft layout (λ d constraint tuple number restriction some. record {
      number = lt-ltb 0 number some;
      asked = never_last (restriction_draft layout d constraint tuple number restriction).demand
          (demand_constrains layout (constraint_site layout constraint tuple) restriction.demand);
      apart = demand_kept layout (constraint_site layout constraint tuple) restriction.demand;
    }))
    (each_joined IsDraft (last_drafts layout) (slot_drafts_from layout 0 layout.standings)
    (each_last IsDraft layout (λ v. record { number = refl; asked = refl; apart = refl }))
    (each_slot_draft IsDraft layout (λ i. (
      record { number = refl; asked = refl; apart = refl },
      λ site number asked some. record { number = lt-ltb 0 number some; asked = refl; apart = refl },
    )) 0 layout.standings))

-- condition 0 asks nothing
nothing_asked : (c : StoredCondition) → condition_of c ≡ trees.Always → asks_nothing (Some c) ≡ true
nothing_asked conditions.Always h = refl
nothing_asked (conditions.Compared r a b) h = absurd (cc)
nothing_asked (conditions.IsIn v pieces) h = absurd (cc)
nothing_asked (conditions.Specified v) h = absurd (cc)
nothing_asked (conditions.Holds set text) h = absurd (cc)
nothing_asked (conditions.Filled set) h = absurd (cc)
nothing_asked (conditions.Not' p c) h = absurd (cc)
nothing_asked (conditions.And' p c q d) h = absurd (cc)
nothing_asked (conditions.Or' p c q d) h = absurd (cc)

first_asks_nothing : (plan : Plan) (drafts : Drafts) → map condition_of plan.conditions ≡ conditions_of drafts
    → asks_nothing (slice_get plan.conditions 0) ≡ true
first_asks_nothing plan drafts e =
    let found = made_from condition_of plan.conditions (conditions_of drafts) e 0 trees.Always refl in
    ap asks_nothing found.1 ∙ nothing_asked found.0 found.2

-- a term in memory is a variable, and a literal, where its tree is
lone_same : (term : StoredTerm) → is_some (lone_in (Some term)) ≡ is_lone (term_of term)
lone_same (terms.Literal a) = refl
lone_same (terms.Read v) = refl
lone_same (terms.PartSum slot c) = refl
lone_same (terms.PartCount slot) = refl
lone_same (terms.Applied' function p a) = refl
lone_same (terms.Joined' operator p a q b) = refl

literal_same : (term : StoredTerm) → is_literal (Some term) ≡ is_value (term_of term)
literal_same (terms.Literal a) = refl
literal_same (terms.Read v) = refl
literal_same (terms.PartSum slot c) = refl
literal_same (terms.PartCount slot) = refl
literal_same (terms.Applied' function p a) = refl
literal_same (terms.Joined' operator p a q b) = refl

not_among_terms : (plan : Plan) (drafts : Drafts) → map term_of plan.terms ≡ terms_of drafts
    → (t : ℕ) (left right : trees.Term)
    → StandFrom (terms_of drafts) t (left ∷ right ∷ []) → are_apart_terms left right ≡ true
    → not ((is_some (lone_in (slice_get plan.terms t)) && is_literal (slice_get plan.terms (suc t)))
    || (is_literal (slice_get plan.terms t) && is_some (lone_in (slice_get plan.terms (suc t))))) ≡ true
not_among_terms plan drafts e t left right stand apart =
    let first
    = made_from term_of plan.terms (terms_of drafts) e t left
    (stand_first (terms_of drafts) t left (right ∷ []) stand) in
    let second = made_from term_of plan.terms (terms_of drafts) e (suc t) right
    (stand_first (terms_of drafts) (suc t) right [] (stand_rest (terms_of drafts) t left (right ∷ []) stand)) in
    let test : Bool → Bool → Bool → Bool → Bool = λ a b c d. not ((a && b) || (c && d)) in
    let lone_first = ap (λ o. is_some (lone_in o)) first.1 ∙ lone_same first.0 ∙ ap is_lone first.2 in
    let value_first = ap is_literal first.1 ∙ literal_same first.0 ∙ ap is_value first.2 in
    let lone_second = ap (λ o. is_some (lone_in o)) second.1 ∙ lone_same second.0 ∙ ap is_lone second.2 in
    let value_second = ap is_literal second.1 ∙ literal_same second.0 ∙ ap is_value second.2 in
    ap (λ a. test a (is_literal (slice_get plan.terms (suc t))) (is_literal (slice_get plan.terms t))
    (is_some (lone_in (slice_get plan.terms (suc t))))) lone_first
    ∙ ap (λ b. test (is_lone left) b (is_literal (slice_get plan.terms t))
    (is_some (lone_in (slice_get plan.terms (suc t))))) value_second
    ∙ ap (λ c. test (is_lone left) (is_value right) c (is_some (lone_in (slice_get plan.terms (suc t))))) value_first
    ∙ ap (λ d. test (is_lone left) (is_value right) (is_value left) d) lone_second
    ∙ apart

not_among_kind : (plan : Plan) (drafts : Drafts) → map term_of plan.terms ≡ terms_of drafts → (t : ℕ) (demand : Demand)
    → StandFrom (terms_of drafts) t (demand_terms demand) → keeps_apart demand ≡ true
    → is_not_among plan (kind_from t demand) ≡ true
not_among_kind plan drafts e t (among v restriction) stand apart = refl
not_among_kind plan drafts e t (compare relation left right) stand apart =
    not_among_terms plan drafts e t left right stand apart
not_among_kind plan drafts e t (equate left right) stand apart = not_among_terms plan drafts e t left right stand apart
not_among_kind plan drafts e t (by_table table columns) stand apart = refl
not_among_kind plan drafts e t never stand apart = refl
not_among_kind plan drafts e t (last v) stand apart = refl
not_among_kind plan drafts e t (line i) stand apart = refl

-- what each rule has by itself
record IsRule (plan : Plan) (rule : Rule) : Type 0 where
  number : is_numbered rule ≡ true
  asked : asks_by_right plan rule ≡ true
  apart : is_not_among plan rule.kind ≡ true

asked_is : (plan : Plan) (drafts : Drafts) → map condition_of plan.conditions ≡ conditions_of drafts
    → (c t : ℕ) (o : Option ℕ)
    (condition : Option trees.Condition) (demand : Demand) → IsAsked o condition demand
    → (if is_some o then not (is_last (kind_from t demand))
    else asks_nothing (slice_get plan.conditions (number_for c condition)))
    ≡ true
asked_is plan drafts e c t None condition demand h =
    ap (λ x. asks_nothing (slice_get plan.conditions (number_for c x))) h ∙ first_asks_nothing plan drafts e
asked_is plan drafts e c t (Some d) condition demand h =
    not_from_false (is_last (kind_from t demand)) (last_same t demand ∙ h)

all_rules : (model : Model) (tables : List VariantTable) (plan : Plan) → IsPlanOf model tables plan
    → Each (IsRule plan) plan.rules
all_rules model tables plan is =
    let drafts = drafts_of (layout_of model) in
    subst (Each (IsRule plan)) (sym is.rules)
    (numbered_each rule_brings rule_from IsDraft (IsRule plan) (conditions_of drafts) (terms_of drafts)
    (λ c t draft h cs ts. record {
      number = h.number;
      asked = asked_is plan drafts is.conditions c t draft.dependency draft.condition draft.demand h.asked;
      apart = not_among_kind plan drafts is.terms t draft.demand ts h.apart;
    }) 1 0 drafts.rules (all_drafts (layout_of model)) (rule_conditions drafts) (rule_terms drafts))

-- rules in an order in which their drafts are
rules_ordered : (model : Model) (tables : List VariantTable) (plan : Plan) → IsPlanOf model tables plan
    → (same : Rule → Rule → Bool) (alike : Draft → Draft → Bool)
    → ((c t m n : ℕ) (a b : Draft) → alike a b ≡ same (rule_from c t a) (rule_from m n b))
    → are_in_order (λ a b. not (alike a b)) (rule_drafts (layout_of model)) ≡ true → are_apart same plan.rules ≡ true
rules_ordered model tables plan is same alike of h =
    ap (are_apart same) is.rules
    ∙ apart_from_order same (numbered rule_brings rule_from 1 0 (rule_drafts (layout_of model)))
    (numbered_ordered rule_brings rule_from (λ a b. not (same a b)) (λ a b. not (alike a b))
    (λ c t m n a b e. ap not (sym (of c t m n a b)) ∙ e) 1 0 (rule_drafts (layout_of model)) h)

-- two drafts of one restriction at one tuple
abbrev are_one_draft : Draft → Draft → Bool
are_one_draft a b =
    (is_of_constraint (kind_of a.demand) && is_of_constraint (kind_of b.demand))
    && (same_number_if a.dependency b.dependency && ((a.number == b.number) && same_numbers a.slots b.slots))

one_rule_same : (c t m n : ℕ) (a b : Draft) → are_one_draft a b ≡ are_one_rule (rule_from c t a) (rule_from m n b)
one_rule_same c t m n a b =
    let rest = same_number_if a.dependency b.dependency && ((a.number == b.number) && same_numbers a.slots b.slots) in
    ap (λ x. (x && is_of_constraint (kind_of b.demand)) && rest) (sym (constraint_same t a.demand))
    ∙ ap (λ x. (is_of_constraint (kind_from t a.demand) && x) && rest) (sym (constraint_same n b.demand))

-- tuples differ
same_more : (i : ℕ) (s t : List ℕ) → not (same_numbers s t) ≡ true → not (same_numbers (i ∷ s) (i ∷ t)) ≡ true
same_more i s t h =
    not_from_false ((i == i) && same_numbers s t)
    (and_right (i == i) (same_numbers s t) (not-true (same_numbers s t) h))

tuples_differ : (numbers : List ℕ) → are_in_order (λ i j. not (i == j)) numbers ≡ true → (n : ℕ)
    → are_in_order (λ s t. not (same_numbers s t)) (tuples_from numbers n) ≡ true
tuples_differ numbers apart zero = refl
tuples_differ numbers apart (suc n) =
    let shorter = tuples_from numbers n in
    flat_ordered (λ s t. not (same_numbers s t)) (λ i j. not (i == j)) (λ i t. (rest : List ℕ) × (t ≡ i ∷ rest))
    (λ i. map (λ tuple. i ∷ tuple) shorter)
    (λ i j s t different h k.
    ap (λ l. not (same_numbers l t)) h.1 ∙ ap (λ l. not (same_numbers (i ∷ h.0) l)) k.1
    ∙ not_from_false ((i == j) && same_numbers h.0 k.0)
    (and_left (i == j) (same_numbers h.0 k.0) (not-true (i == j) different)))
    numbers
    (each_of_all (λ i. Each (λ t. (rest : List ℕ) × (t ≡ i ∷ rest)) (map (λ tuple. i ∷ tuple) shorter))
    (λ i. heads i shorter) numbers)
    (each_of_all (λ i. are_in_order (λ s t. not (same_numbers s t)) (map (λ tuple. i ∷ tuple) shorter) ≡ true)
    (λ i. order_mapped (λ s t. not (same_numbers s t)) (λ tuple. i ∷ tuple) shorter
    ∙ order_weaker (λ s t. not (same_numbers s t)) (λ s t. not (same_numbers (i ∷ s) (i ∷ t))) shorter (same_more i)
    (tuples_differ numbers apart n)) numbers)
    apart
  where
    heads : (i : ℕ) (ts : List (List ℕ)) → Each (λ t. (rest : List ℕ) × (t ≡ i ∷ rest)) (map (λ tuple. i ∷ tuple) ts)
    heads i [] = tt
    heads i (t ∷ ts) = ((t, refl), heads i ts)

-- drafts of one tuple have numbers that ascend
restriction_numbers : (layout : Layout) (d : ℕ) (constraint : syntax.Constraint) (tuple : List ℕ) (number m : ℕ)
    → m ≤ number
    → (restrictions : List syntax.Restriction)
    → Each (λ x. m ≤ x.number) (restriction_drafts layout d constraint tuple number restrictions)
restriction_numbers layout d constraint tuple number m low [] = tt
restriction_numbers layout d constraint tuple number m low (r ∷ rs) =
    (low, restriction_numbers layout d constraint tuple (suc number) m (omega (arith, low)) rs)

differ_by_number : (a b : Draft) → (a.number ≡ b.number → ⊥) → not (are_one_draft a b) ≡ true
differ_by_number a b apart =
    not_from_false (are_one_draft a b)
    (and_right (is_of_constraint (kind_of a.demand) && is_of_constraint (kind_of b.demand))
    (same_number_if a.dependency b.dependency && ((a.number == b.number) && same_numbers a.slots b.slots))
    (and_right (same_number_if a.dependency b.dependency) ((a.number == b.number) && same_numbers a.slots b.slots)
    (and_left (a.number == b.number) (same_numbers a.slots b.slots) (ne_eqb a.number b.number apart))))

restrictions_differ : (layout : Layout) (d : ℕ) (constraint : syntax.Constraint) (tuple : List ℕ) (number : ℕ)
    → (restrictions : List syntax.Restriction)
    → are_in_order (λ a b. not (are_one_draft a b)) (restriction_drafts layout d constraint tuple number restrictions)
    ≡ true
restrictions_differ layout d constraint tuple number [] = refl
restrictions_differ layout d constraint tuple number (r ∷ rs) =
    let first = restriction_draft layout d constraint tuple number r in
    let rest = restriction_drafts layout d constraint tuple (suc number) rs in
    and_from (list_all (λ b. not (are_one_draft first b)) rest) (are_in_order (λ a b. not (are_one_draft a b)) rest)
    (each_passes (λ x. suc number ≤ x.number) (λ b. not (are_one_draft first b))
    (λ b h. differ_by_number first b (λ e. omega (arith, h, e))) rest
    (restriction_numbers layout d constraint tuple (suc number) (suc number) (omega arith) rs))
    (restrictions_differ layout d constraint tuple (suc number) rs)

-- a draft of a dependency, and of a tuple
record IsOf (d : ℕ) (x : Draft) : Type 0 where
  dependency : x.dependency ≡ Some d

record IsAt (tuple : List ℕ) (x : Draft) : Type 0 where
  slots : x.slots ≡ tuple

differ_by_tuple : (s t : List ℕ) (a b : Draft) → not (same_numbers s t) ≡ true → IsAt s a → IsAt t b
    → not (are_one_draft a b) ≡ true
differ_by_tuple s t a b different h k =
    let apart : same_numbers a.slots b.slots ≡ false =
    ap (λ l. same_numbers l b.slots) h.slots ∙ ap (same_numbers s) k.slots ∙ not-true (same_numbers s t) different in
    not_from_false (are_one_draft a b)
    (and_right (is_of_constraint (kind_of a.demand) && is_of_constraint (kind_of b.demand))
    (same_number_if a.dependency b.dependency && ((a.number == b.number) && same_numbers a.slots b.slots))
    (and_right (same_number_if a.dependency b.dependency) ((a.number == b.number) && same_numbers a.slots b.slots)
    (and_right (a.number == b.number) (same_numbers a.slots b.slots) apart)))

differ_by_dependency : (d e : ℕ) (a b : Draft) → not (d == e) ≡ true → IsOf d a → IsOf e b
    → not (are_one_draft a b) ≡ true
differ_by_dependency d e a b different h k =
    let apart : same_number_if a.dependency b.dependency ≡ false =
    ap (λ o. same_number_if o b.dependency) h.dependency ∙ ap (same_number_if (Some d)) k.dependency
    ∙ not-true (d == e) different in
    not_from_false (are_one_draft a b)
    (and_right (is_of_constraint (kind_of a.demand) && is_of_constraint (kind_of b.demand))
    (same_number_if a.dependency b.dependency && ((a.number == b.number) && same_numbers a.slots b.slots))
    (and_left (same_number_if a.dependency b.dependency) ((a.number == b.number) && same_numbers a.slots b.slots)
    apart))

tree_differs : (layout : Layout) (d : ℕ) (tree : Option syntax.Dependency)
    → are_in_order (λ a b. not (are_one_draft a b)) (constraint_drafts layout d tree) ≡ true
tree_differs layout d None = refl
tree_differs layout d (Some (syntax.Precondition condition)) = refl
tree_differs layout d (Some (syntax.Selection condition)) = refl
tree_differs layout d (Some (syntax.Procedure statements)) = refl
tree_differs layout d (Some (syntax.Counts term)) = refl
tree_differs layout d (Some (syntax.Constrains constraint)) =
    let drafts : List ℕ → List Draft
    = λ tuple. restriction_drafts layout d constraint tuple 1 constraint.restrictions in
    flat_ordered (λ a b. not (are_one_draft a b)) (λ s t. not (same_numbers s t)) IsAt drafts differ_by_tuple
    (tuples_of layout constraint)
    (each_of_all (λ tuple. Each (IsAt tuple) (drafts tuple))
    (λ tuple. each_restriction (IsAt tuple) layout d constraint tuple (λ number r some. record { slots = refl }) 1
    (omega arith)
    constraint.restrictions) (tuples_of layout constraint))
    (each_of_all (λ tuple. are_in_order (λ a b. not (are_one_draft a b)) (drafts tuple) ≡ true)
    (λ tuple. restrictions_differ layout d constraint tuple 1 constraint.restrictions) (tuples_of layout constraint))
    (order_left (λ s t. not (same_numbers s t)) (matches layout constraint)
    (tuples_from (numbers_below (length layout.slots)) (length constraint.objects))
    (tuples_differ (numbers_below (length layout.slots)) (range_apart 0 (length layout.slots))
    (length constraint.objects)))

constraints_differ : (layout : Layout)
    → are_in_order (λ a b. not (are_one_draft a b)) (constraints_drafts layout) ≡ true
constraints_differ layout =
    let drafts : ℕ → List Draft = λ d. constraint_drafts layout d (tree_of layout.model d) in
    flat_ordered (λ a b. not (are_one_draft a b)) (λ d e. not (d == e)) IsOf drafts differ_by_dependency
    (active_constraints layout)
    (each_of_all (λ d. Each (IsOf d) (drafts d)) (λ d. of_tree d (tree_of layout.model d)) (active_constraints layout))
    (each_of_all (λ d. are_in_order (λ a b. not (are_one_draft a b)) (drafts d) ≡ true)
    (λ d. tree_differs layout d (tree_of layout.model d)) (active_constraints layout))
    (order_left (λ d e. not (d == e)) (is_active layout) (numbers_below (length layout.model.dependencies))
    (range_apart 0 (length layout.model.dependencies)))
  where
    of_tree : (d : ℕ) (tree : Option syntax.Dependency) → Each (IsOf d) (constraint_drafts layout d tree)
    of_tree d None = tt
    of_tree d (Some (syntax.Precondition condition)) = tt
    of_tree d (Some (syntax.Selection condition)) = tt
    of_tree d (Some (syntax.Procedure statements)) = tt
    of_tree d (Some (syntax.Counts term)) = tt
    of_tree d (Some (syntax.Constrains constraint)) = of_tuples d constraint (tuples_of layout constraint)
      where
        of_tuples : (d : ℕ) (constraint : syntax.Constraint) (tuples : List (List ℕ))
            → Each (IsOf d) (flat_map (λ tuple. restriction_drafts layout d constraint tuple 1 constraint.restrictions)
            tuples)
        of_tuples d constraint [] = tt
        of_tuples d constraint (tuple ∷ tuples) =
            each_joined (IsOf d) (restriction_drafts layout d constraint tuple 1 constraint.restrictions)
            (flat_map (λ tuple. restriction_drafts layout d constraint tuple 1 constraint.restrictions) tuples)
            (each_restriction (IsOf d) layout d constraint tuple (λ number r some. record { dependency = refl }) 1
            (omega arith)
            constraint.restrictions) (of_tuples d constraint tuples)

-- what is of no constraint differs from all
own_differs : (a : Draft) → is_of_constraint (kind_of a.demand) ≡ false → (b : Draft) → not (are_one_draft a b) ≡ true
own_differs a own b =
    not_from_false (are_one_draft a b)
    (and_left (is_of_constraint (kind_of a.demand) && is_of_constraint (kind_of b.demand))
    (same_number_if a.dependency b.dependency && ((a.number == b.number) && same_numbers a.slots b.slots))
    (and_left (is_of_constraint (kind_of a.demand)) (is_of_constraint (kind_of b.demand)) own))

differs_own : (a b : Draft) → is_of_constraint (kind_of b.demand) ≡ false → not (are_one_draft a b) ≡ true
differs_own a b own =
    not_from_false (are_one_draft a b)
    (and_left (is_of_constraint (kind_of a.demand) && is_of_constraint (kind_of b.demand))
    (same_number_if a.dependency b.dependency && ((a.number == b.number) && same_numbers a.slots b.slots))
    (and_right (is_of_constraint (kind_of a.demand)) (is_of_constraint (kind_of b.demand)) own))

abbrev IsOwn : Draft → Type 0
IsOwn a = is_of_constraint (kind_of a.demand) ≡ false

owns : (layout : Layout) → Each IsOwn (last_drafts layout ++ slot_drafts_from layout 0 layout.standings)
owns layout =
    each_joined IsOwn (last_drafts layout) (slot_drafts_from layout 0 layout.standings)
    (each_last IsOwn layout (λ v. refl))
    (each_slot_draft IsOwn layout (λ i. (refl, λ site number asked some. refl)) 0 layout.standings)

drafts_differ : (layout : Layout) → are_in_order (λ a b. not (are_one_draft a b)) (rule_drafts layout) ≡ true
drafts_differ layout =
    let before : Draft → Draft → Bool = λ a b. not (are_one_draft a b) in
    let rest = last_drafts layout ++ slot_drafts_from layout 0 layout.standings in
    order_joined before (constraints_drafts layout) rest (constraints_differ layout)
    (all_free before rest
    (each_more IsOwn (λ a. (b : Draft) → before a b ≡ true) (λ a own b. own_differs a own b) rest (owns layout)))
    (each_constraint (λ a. list_all (before a) rest ≡ true) layout
    (λ d constraint tuple number r some. each_passes IsOwn
    (before (restriction_draft layout d constraint tuple number r))
    (λ b own. differs_own (restriction_draft layout d constraint tuple number r) b own) rest (owns layout)))
  where
    all_free : (before : Draft → Draft → Bool) (xs : List Draft) → Each (λ a. (b : Draft) → before a b ≡ true) xs
        → are_in_order before xs ≡ true
    all_free before [] free = refl
    all_free before (x ∷ xs) free =
        and_from (list_all (before x) xs) (are_in_order before xs)
        (each_passes (λ b. Unit {0}) (before x) (λ b u. free.0 b) xs
        (each_of_all (λ b. Unit {0}) (λ b. tt) xs)) (all_free before xs free.1)

-- two Lines of one slot with one number, and of which one is of no selection condition
abbrev are_one_line_draft : Draft → Draft → Bool
are_one_line_draft a b =
    is_some (line_slot (kind_of a.demand))
    && (same_number_if (line_slot (kind_of a.demand)) (line_slot (kind_of b.demand)) && (a.number == b.number))

abbrev are_mixed : Draft → Draft → Bool
are_mixed a b =
    (is_some (line_slot (kind_of a.demand))
    && same_number_if (line_slot (kind_of a.demand)) (line_slot (kind_of b.demand)))
    && (is_none a.dependency || is_none b.dependency)

one_line_same : (c t m n : ℕ) (a b : Draft) → are_one_line_draft a b ≡ are_one_line (rule_from c t a) (rule_from m n b)
one_line_same c t m n a b =
    ap (λ x. is_some x && (same_number_if x (line_slot (kind_of b.demand)) && (a.number == b.number)))
    (sym (slot_same t a.demand))
    ∙ ap (λ y. is_some (line_slot (kind_from t a.demand))
    && (same_number_if (line_slot (kind_from t a.demand)) y && (a.number == b.number)))
    (sym (slot_same n b.demand))

mixed_same : (c t m n : ℕ) (a b : Draft) → are_mixed a b ≡ are_with_and_without (rule_from c t a) (rule_from m n b)
mixed_same c t m n a b =
    ap (λ x. (is_some x && same_number_if x (line_slot (kind_of b.demand)))
    && (is_none a.dependency || is_none b.dependency))
    (sym (slot_same t a.demand))
    ∙ ap (λ y. (is_some (line_slot (kind_from t a.demand)) && same_number_if (line_slot (kind_from t a.demand)) y)
    && (is_none a.dependency || is_none b.dependency)) (sym (slot_same n b.demand))

-- a draft of the Line of a slot
abbrev IsLineOf : ℕ → Draft → Type 0
IsLineOf i x = line_slot (kind_of x.demand) ≡ Some i

abbrev IsLineFrom : ℕ → Draft → Type 0
IsLineFrom i x = (j : ℕ) × (i ≤ j) × (line_slot (kind_of x.demand) ≡ Some j)

of_its_slot : (layout : Layout) (i : ℕ) (s : Standing) (parent : Option ℕ)
    → Each (IsLineOf i) (drafts_of_slot layout i s parent)
of_its_slot layout i s parent = each_of_slot (IsLineOf i) layout i (refl, λ site number asked some. refl) s parent

of_later_slots : (layout : Layout) (i : ℕ) (standings : List Standing)
    → Each (IsLineFrom i) (slot_drafts_from layout i standings)
of_later_slots layout i [] = tt
of_later_slots layout i (s ∷ standings) =
    each_joined (IsLineFrom i) (drafts_of_slot layout i s s.parent) (slot_drafts_from layout (suc i) standings)
    (each_more (IsLineOf i) (IsLineFrom i) (λ x h. (i, omega arith, h)) (drafts_of_slot layout i s s.parent)
    (of_its_slot layout i s s.parent))
    (each_more (IsLineFrom (suc i)) (IsLineFrom i) (λ x h. let low = h.1 in (h.0, omega (arith, low), h.2))
    (slot_drafts_from layout (suc i) standings) (of_later_slots layout (suc i) standings))

slots_apart : (before : Draft → Draft → Bool) (layout : Layout)
    → ((i j : ℕ) (a b : Draft) → i < j → IsLineOf i a → IsLineOf j b → before a b ≡ true)
    → ((site : Site) (i : ℕ) (asks : List Asked) → are_in_order before (line_drafts layout site i asks) ≡ true)
    → (i : ℕ) (standings : List Standing) → are_in_order before (slot_drafts_from layout i standings) ≡ true
slots_apart before layout across within i [] = refl
slots_apart before layout across within i (s ∷ standings) =
    order_joined before (drafts_of_slot layout i s s.parent) (slot_drafts_from layout (suc i) standings)
    (of_slot s.parent)
    (slots_apart before layout across within (suc i) standings)
    (each_more (IsLineOf i) (λ a. list_all (before a) (slot_drafts_from layout (suc i) standings) ≡ true)
    (λ a h. each_passes (IsLineFrom (suc i)) (before a)
    (λ b k. let low = k.1 in across i k.0 a b (omega (arith, low)) h k.2)
    (slot_drafts_from layout (suc i) standings) (of_later_slots layout (suc i) standings))
    (drafts_of_slot layout i s s.parent) (of_its_slot layout i s s.parent))
  where
    of_owner : (p : ℕ) (owner : Option Slot) (item : Option BillItem)
        → are_in_order before (drafts_of_line layout p i owner item) ≡ true
    of_owner p None None = refl
    of_owner p (Some owner) None = refl
    of_owner p None (Some item) = refl
    of_owner p (Some owner) (Some item) =
        within (site_at layout p owner (at.Line true)) i (selections_among layout.model item.uses)

    of_slot : (parent : Option ℕ) → are_in_order before (drafts_of_slot layout i s parent) ≡ true
    of_slot None = refl
    of_slot (Some p) = of_owner p (slice_get layout.slots p)
        (slice_get (bill_if layout.model (object_at layout p)) s.item)

other_slots : (i j : ℕ) (a b : Draft) → i < j → IsLineOf i a → IsLineOf j b
    → same_number_if (line_slot (kind_of a.demand)) (line_slot (kind_of b.demand)) ≡ false
other_slots i j a b less h k =
    ap (λ o. same_number_if o (line_slot (kind_of b.demand))) h ∙ ap (same_number_if (Some i)) k
    ∙ ne_eqb i j (λ e. omega (arith, e, less))

lines_across : (i j : ℕ) (a b : Draft) → i < j → IsLineOf i a → IsLineOf j b → not (are_one_line_draft a b) ≡ true
lines_across i j a b less h k =
    let same = same_number_if (line_slot (kind_of a.demand)) (line_slot (kind_of b.demand)) in
    not_from_false (are_one_line_draft a b)
    (and_right (is_some (line_slot (kind_of a.demand))) (same && (a.number == b.number))
    (and_left same (a.number == b.number) (other_slots i j a b less h k)))

mixed_across : (i j : ℕ) (a b : Draft) → i < j → IsLineOf i a → IsLineOf j b → not (are_mixed a b) ≡ true
mixed_across i j a b less h k =
    let same = same_number_if (line_slot (kind_of a.demand)) (line_slot (kind_of b.demand)) in
    not_from_false (are_mixed a b)
    (and_left (is_some (line_slot (kind_of a.demand)) && same) (is_none a.dependency || is_none b.dependency)
    (and_right (is_some (line_slot (kind_of a.demand))) same (other_slots i j a b less h k)))

-- at one slot numbers ascend, and all are of selection conditions or there is one
line_numbers : (layout : Layout) (site : Site) (i number m : ℕ) → m ≤ number → (asks : List Asked)
    → Each (λ x. m ≤ x.number) (line_drafts_from layout site i number asks)
line_numbers layout site i number m low [] = tt
line_numbers layout site i number m low (a ∷ asks) =
    (low, line_numbers layout site i (suc number) m (omega (arith, low)) asks)

lines_ascend : (layout : Layout) (site : Site) (i number : ℕ) (asks : List Asked)
    → are_in_order (λ a b. not (are_one_line_draft a b)) (line_drafts_from layout site i number asks) ≡ true
lines_ascend layout site i number [] = refl
lines_ascend layout site i number (a ∷ asks) =
    let first = line_draft layout site i number a in
    let rest = line_drafts_from layout site i (suc number) asks in
    and_from (list_all (λ b. not (are_one_line_draft first b)) rest)
    (are_in_order (λ a b. not (are_one_line_draft a b)) rest)
    (each_passes (λ x. suc number ≤ x.number) (λ b. not (are_one_line_draft first b))
    (λ b h. not_from_false (are_one_line_draft first b)
    (and_right true (same_number_if (Some i) (line_slot (kind_of b.demand)) && (number == b.number))
    (and_right (same_number_if (Some i) (line_slot (kind_of b.demand))) (number == b.number)
    (ne_eqb number b.number (λ e. omega (arith, e, h)))))) rest
    (line_numbers layout site i (suc number) (suc number) (omega arith) asks))
    (lines_ascend layout site i (suc number) asks)

lines_within : (layout : Layout) (site : Site) (i : ℕ) (asks : List Asked)
    → are_in_order (λ a b. not (are_one_line_draft a b)) (line_drafts layout site i asks) ≡ true
lines_within layout site i [] = refl
lines_within layout site i (a ∷ asks) = lines_ascend layout site i 1 (a ∷ asks)

abbrev IsOfSome : Draft → Type 0
IsOfSome x = is_none x.dependency ≡ false

of_some : (layout : Layout) (site : Site) (i number : ℕ) (asks : List Asked)
    → Each IsOfSome (line_drafts_from layout site i number asks)
of_some layout site i number [] = tt
of_some layout site i number (a ∷ asks) = (refl, of_some layout site i (suc number) asks)

unmixed : (layout : Layout) (site : Site) (i number : ℕ) (asks : List Asked)
    → are_in_order (λ a b. not (are_mixed a b)) (line_drafts_from layout site i number asks) ≡ true
unmixed layout site i number [] = refl
unmixed layout site i number (a ∷ asks) =
    let first = line_draft layout site i number a in
    let rest = line_drafts_from layout site i (suc number) asks in
    and_from (list_all (λ b. not (are_mixed first b)) rest) (are_in_order (λ a b. not (are_mixed a b)) rest)
    (each_passes IsOfSome (λ b. not (are_mixed first b))
    (λ b h. not_from_false (are_mixed first b)
    (and_right (true && same_number_if (Some i) (line_slot (kind_of b.demand))) (false || is_none b.dependency)
    (or_from false (is_none b.dependency) refl h))) rest (of_some layout site i (suc number) asks))
    (unmixed layout site i (suc number) asks)

mixed_within : (layout : Layout) (site : Site) (i : ℕ) (asks : List Asked)
    → are_in_order (λ a b. not (are_mixed a b)) (line_drafts layout site i asks) ≡ true
mixed_within layout site i [] = refl
mixed_within layout site i (a ∷ asks) = unmixed layout site i 1 (a ∷ asks)

-- what is no Line stands before all
no_lines : (layout : Layout)
    → Each (λ x. line_slot (kind_of x.demand) ≡ None) (constraints_drafts layout ++ last_drafts layout)
no_lines layout =
    each_joined (λ x. line_slot (kind_of x.demand) ≡ None) (constraints_drafts layout) (last_drafts layout)
    (each_constraint (λ x. line_slot (kind_of x.demand) ≡ None) layout
    (λ d constraint tuple number r some. no_slot (restriction_draft layout d constraint tuple number r).demand
    (demand_constrains layout (constraint_site layout constraint tuple) r.demand)))
    (each_last (λ x. line_slot (kind_of x.demand) ≡ None) layout (λ v. refl))

lines_differ : (layout : Layout) → are_in_order (λ a b. not (are_one_line_draft a b)) (rule_drafts layout) ≡ true
lines_differ layout =
    let before : Draft → Draft → Bool = λ a b. not (are_one_line_draft a b) in
    ap (are_in_order before)
    (sym (append_assoc (constraints_drafts layout) (last_drafts layout)
    (slot_drafts_from layout 0 layout.standings)))
    ∙ order_free before (constraints_drafts layout ++ last_drafts layout) (slot_drafts_from layout 0 layout.standings)
    (each_more (λ x. line_slot (kind_of x.demand) ≡ None) (λ a. (b : Draft) → before a b ≡ true)
    (λ a h b. ap (λ o. not (is_some o && (same_number_if o (line_slot (kind_of b.demand)) && (a.number == b.number))))
    h)
    (constraints_drafts layout ++ last_drafts layout) (no_lines layout))
    (slots_apart before layout lines_across (lines_within layout) 0 layout.standings)

none_mixed : (layout : Layout) → are_in_order (λ a b. not (are_mixed a b)) (rule_drafts layout) ≡ true
none_mixed layout =
    let before : Draft → Draft → Bool = λ a b. not (are_mixed a b) in
    ap (are_in_order before)
    (sym (append_assoc (constraints_drafts layout) (last_drafts layout)
    (slot_drafts_from layout 0 layout.standings)))
    ∙ order_free before (constraints_drafts layout ++ last_drafts layout) (slot_drafts_from layout 0 layout.standings)
    (each_more (λ x. line_slot (kind_of x.demand) ≡ None) (λ a. (b : Draft) → before a b ≡ true)
    (λ a h b. ap (λ o. not
    ((is_some o && same_number_if o (line_slot (kind_of b.demand))) && (is_none a.dependency || is_none b.dependency)))
    h)
    (constraints_drafts layout ++ last_drafts layout) (no_lines layout))
    (slots_apart before layout mixed_across (mixed_within layout) 0 layout.standings)

-- one Last a variable
one_of_range : (v a n : ℕ) → a ≤ v → v < a + n
    → length (filter (λ x. is_last_of v (kind_of x.demand)) (map (λ w. own_draft (last w)) (range_with_len a n))) ≡ 1
one_of_range v a zero low high = absurd (omega (arith, low, high))
one_of_range v a (suc n) low high = by (v == a) refl (λ more. one_of_range v (a + 1) n more (omega (arith, high)))
  where
    test : Draft → Bool
    test x = is_last_of v (kind_of x.demand)

    rest : List Draft
    rest = map (λ w. own_draft (last w)) (range_with_len (a + 1) n)

    others : (b k : ℕ) → v < b → Each (λ x. test x ≡ false) (map (λ w. own_draft (last w)) (range_with_len b k))
    others b zero above = tt
    others b (suc k) above = (ne_eqb v b (λ e. omega (arith, e, above)), others (b + 1) k (omega (arith, above)))

    above : (v ≡ a → ⊥) → a + 1 ≤ v
    above other = elim (cases_order v a) [
      | inl same ↦ absurd (other same)
      | inr (inl less) ↦ absurd (omega (arith, less, low))
      | inr (inr more) ↦ omega (arith, more)
    ]

    by : (t : Bool) → (v == a) ≡ t → (a + 1 ≤ v → length (filter test rest) ≡ 1)
        → length (cond t (own_draft (last a) ∷ filter test rest) (filter test rest)) ≡ 1
    by true e later =
        let same = eqb-true v a e in
        ap (λ l. length (own_draft (last a) ∷ l)) (none_left test rest (others (a + 1) n (omega (arith, same))))
    by false e later = later (above (eqb-false v a e))

last_is : (layout : Layout) (v : ℕ) → v < length layout.vars
    → length (filter (λ x. is_last_of v (kind_of x.demand)) (rule_drafts layout)) ≡ 1
last_is layout v below =
    let test : Draft → Bool = λ x. is_last_of v (kind_of x.demand) in
    let lines = slot_drafts_from layout 0 layout.standings in
    ap length (left_append test (constraints_drafts layout) (last_drafts layout ++ lines)
    ∙ ap (λ l. l ++ filter test (last_drafts layout ++ lines))
    (none_left test (constraints_drafts layout) (each_constraint (λ x. test x ≡ false) layout
    (λ d constraint tuple number r some. no_last v (restriction_draft layout d constraint tuple number r).demand
    (demand_constrains layout (constraint_site layout constraint tuple) r.demand))))
    ∙ left_append test (last_drafts layout) lines
    ∙ ap (λ l. filter test (last_drafts layout) ++ l)
    (none_left test lines
    (each_slot_draft (λ x. test x ≡ false) layout (λ i. (refl, λ site number asked some. refl)) 0 layout.standings))
    ∙ append-nil (filter test (last_drafts layout)))
    ∙ one_of_range v 0 (length layout.vars) (omega arith) (omega (arith, below))

-- a Line for each slot but the root
any_numbered : {D X : Type 0} (brings : Brings D) (make : ℕ → ℕ → D → X) (test : X → Bool) (earlier : D → Bool)
    → ((c t : ℕ) (d : D) → test (make c t d) ≡ earlier d) → (c t : ℕ) (drafts : List D)
    → list_any test (numbered brings make c t drafts) ≡ list_any earlier drafts
any_numbered brings make test earlier of c t [] = refl
any_numbered brings make test earlier of c t (d ∷ drafts) =
    let rest = numbered brings make (c + length (brings.conditions d)) (t + length (brings.terms d)) drafts in
    ap (λ b. b || list_any test rest) (of c t d)
    ∙ ap (λ b. earlier d || b)
    (any_numbered brings make test earlier of (c + length (brings.conditions d)) (t + length (brings.terms d)) drafts)

none_any : {X : Type 0} (test : X → Bool) (xs : List X) → Each (λ x. test x ≡ false) xs → list_any test xs ≡ false
none_any test [] h = refl
none_any test (x ∷ xs) h = or_from (test x) (list_any test xs) h.0 (none_any test xs h.1)

abbrev is_line_draft : ℕ → Draft → Bool
is_line_draft i x = is_line_of i (kind_of x.demand)

has_line : (layout : Layout) (site : Site) (i : ℕ) (asks : List Asked)
    → list_any (is_line_draft i) (line_drafts layout site i asks) ≡ true
has_line layout site i [] = or_left (i == i) false (eq-eqb i i refl)
has_line layout site i (a ∷ asks) =
    or_left (i == i) (list_any (is_line_draft i) (line_drafts_from layout site i 2 asks)) (eq-eqb i i refl)

any_at : (layout : Layout) (i k n : ℕ) (s : Standing) → n ≡ i + k → (standings : List Standing)
    → slice_get standings k ≡ Some s
    → list_any (is_line_draft n) (drafts_of_slot layout n s s.parent) ≡ true
    → list_any (is_line_draft n) (slot_drafts_from layout i standings) ≡ true
any_at layout i k n s is [] e h = absurd (cc)
any_at layout i zero n s is (x ∷ standings) e h =
    let same : x ≡ s = cc in
    let here : i ≡ n = omega (arith, is) in
    list_any-append (is_line_draft n) (drafts_of_slot layout i x x.parent) (slot_drafts_from layout (suc i) standings)
    ∙ or_left (list_any (is_line_draft n) (drafts_of_slot layout i x x.parent))
    (list_any (is_line_draft n) (slot_drafts_from layout (suc i) standings))
    (ap (λ y. list_any (is_line_draft n) (drafts_of_slot layout i y y.parent)) same
    ∙ ap (λ m. list_any (is_line_draft n) (drafts_of_slot layout m s s.parent)) here ∙ h)
any_at layout i (suc k) n s is (x ∷ standings) e h =
    list_any-append (is_line_draft n) (drafts_of_slot layout i x x.parent) (slot_drafts_from layout (suc i) standings)
    ∙ or_right (list_any (is_line_draft n) (drafts_of_slot layout i x x.parent))
    (list_any (is_line_draft n) (slot_drafts_from layout (suc i) standings))
    (any_at layout (suc i) k n s (omega (arith, is)) standings e h)

-- the slot above, and the line of its object
line_there : (model : Model) (i p : ℕ) (s : Standing) → IsPart model (standings_of model) i p s
    → list_any (is_line_draft i) (drafts_of_slot (layout_of model) i s (Some p)) ≡ true
line_there model i p s part =
    let layout = layout_of model in
    let owner = slot_of model (standings_of model) part.above in
    let there = slot_at model p part.above part.there in
    let object : object_at layout p ≡ Some part.above.object = ap (option_map (λ slot. slot.object)) there in
    ap (λ o. list_any (is_line_draft i)
    (drafts_of_line layout p i o (slice_get (bill_if model (object_at layout p)) s.item))) there
    ∙ ap (λ o. list_any (is_line_draft i) (drafts_of_line layout p i (Some owner) (slice_get (bill_if model o) s.item)))
    object
    ∙ ap (λ o. list_any (is_line_draft i) (drafts_of_line layout p i (Some owner) o)) part.listed
    ∙ has_line layout (site_at layout p owner (at.Line true)) i (selections_among model part.line.uses)

line_of_slot : (model : Model) (i : ℕ) → suc i < length (slots_of model)
    → list_any (is_line_draft (suc i)) (slot_drafts_from (layout_of model) 0 (standings_of model)) ≡ true
line_of_slot model i below = by (slice_get (standings_of model) (suc i)) refl
  where
    size : length (slots_of model) ≡ length (standings_of model)
    size = length-map (standings_of model) (slot_of model (standings_of model))

    of_parent : (s : Standing) → slice_get (standings_of model) (suc i) ≡ Some s → (parent : Option ℕ)
        → s.parent ≡ parent
        → IsPlacedBelow model (standings_of model) (suc i) s parent
        → list_any (is_line_draft (suc i)) (drafts_of_slot (layout_of model) (suc i) s parent) ≡ true
    of_parent s e None is placed = absurd (let none = placed.0 in omega (arith, none))
    of_parent s e (Some p) is placed = line_there model (suc i) p s placed

    by : (o : Option Standing) → slice_get (standings_of model) (suc i) ≡ o
        → list_any (is_line_draft (suc i)) (slot_drafts_from (layout_of model) 0 (standings_of model)) ≡ true
    by None e = absurd (let past = none_past (standings_of model) (suc i) e in omega (arith, past, below, size))
    by (Some s) e =
        any_at (layout_of model) 0 (suc i) (suc i) s (omega arith) (standings_of model) e
        (of_parent s e s.parent refl (placed_at model (suc i) s e))

no_line_of_root : (model : Model)
    → list_any (is_line_draft 0) (slot_drafts_from (layout_of model) 0 (standings_of model)) ≡ false
no_line_of_root model =
    none_any (is_line_draft 0) (slot_drafts_from (layout_of model) 1 below)
    (each_more (IsLineFrom 1) (λ x. is_line_draft 0 x ≡ false) (λ x h. other x.demand h.0 h.1 h.2)
    (slot_drafts_from (layout_of model) 1 below) (of_later_slots (layout_of model) 1 below))
  where
    below : List Standing
    below = for_lines (standings_from model 3 (Some 0) 1) 0 1 (bill_of model model.root)

    other : (demand : Demand) (j : ℕ) → 1 ≤ j → line_slot (kind_of demand) ≡ Some j
        → is_line_of 0 (kind_of demand) ≡ false
    other (among v restriction) j low h = refl
    other (compare relation left right) j low h = refl
    other (equate left right) j low h = refl
    other (by_table table columns) j low h = refl
    other never j low h = refl
    other (last w) j low h = refl
    other (line i) j low h = let same : i ≡ j = cc in ne_eqb 0 i (λ e. omega (arith, e, low, same))

any_line : (model : Model) (tables : List VariantTable) (plan : Plan) → IsPlanOf model tables plan → (i : ℕ)
    → list_any (λ rule. is_line_of i rule.kind) plan.rules
    ≡ list_any (is_line_draft i) (slot_drafts_from (layout_of model) 0 (standings_of model))
any_line model tables plan is i =
    let layout = layout_of model in
    let lines = slot_drafts_from layout 0 (standings_of model) in
    ap (list_any (λ rule. is_line_of i rule.kind)) is.rules
    ∙ any_numbered rule_brings rule_from (λ rule. is_line_of i rule.kind) (is_line_draft i)
    (λ c t d. line_of_same i t d.demand) 1 0
    (rule_drafts layout)
    ∙ list_any-append (is_line_draft i) (constraints_drafts layout) (last_drafts layout ++ lines)
    ∙ ap (λ b. b || list_any (is_line_draft i) (last_drafts layout ++ lines))
    (none_any (is_line_draft i) (constraints_drafts layout) (each_constraint (λ x. is_line_draft i x ≡ false) layout
    (λ d constraint tuple number r some. no_line i (restriction_draft layout d constraint tuple number r).demand
    (demand_constrains layout (constraint_site layout constraint tuple) r.demand))))
    ∙ list_any-append (is_line_draft i) (last_drafts layout) lines
    ∙ ap (λ b. b || list_any (is_line_draft i) lines)
    (none_any (is_line_draft i) (last_drafts layout) (each_last (λ x. is_line_draft i x ≡ false) layout (λ v. refl)))

slot_has_lines : (model : Model) (tables : List VariantTable) (plan : Plan) → IsPlanOf model tables plan → (i : ℕ)
    → i < length plan.slots → has_its_lines plan i ≡ true
slot_has_lines model tables plan is zero below =
    not_from_false (list_any (λ rule. is_line_of 0 rule.kind) plan.rules)
    (any_line model tables plan is 0 ∙ no_line_of_root model)
slot_has_lines model tables plan is (suc i) below =
    any_line model tables plan is (suc i)
    ∙ line_of_slot model i (let size = ap length is.slots in omega (arith, below, size))

pub has_rules : (model : Model) (tables : List VariantTable) (plan : Plan) → IsPlanOf model tables plan → HasRules plan
has_rules model tables plan is =
    let layout = layout_of model in
    let all = all_rules model tables plan is in
    record {
      numbered = each_passes (IsRule plan) is_numbered (λ x h. h.number) plan.rules all;
      rules_once = rules_ordered model tables plan is are_one_rule are_one_draft one_rule_same (drafts_differ layout);
      lines_once = rules_ordered model tables plan is are_one_line are_one_line_draft one_line_same
          (lines_differ layout);
      lasts = each_passes (λ v. v < 0 + length plan.vars) (has_one_last plan)
          (λ v below. let size = ap length is.vars in
          eq-eqb (length (filter (λ rule. is_last_of v rule.kind) plan.rules)) 1
          (ap (λ rs. length (filter (λ rule. is_last_of v rule.kind) rs)) is.rules
          ∙ left_numbered rule_brings rule_from (λ rule. is_last_of v rule.kind) (λ x. is_last_of v (kind_of x.demand))
          (λ c t d. last_of_same v t d.demand) 1 0 (rule_drafts layout)
          ∙ last_is layout v (omega (arith, below, size))))
          (numbers_below (length plan.vars)) (below_count 0 (length plan.vars));
      slot_lines = each_passes (λ i. i < 0 + length plan.slots) (has_its_lines plan)
          (λ i below. slot_has_lines model tables plan is i (omega (arith, below)))
          (numbers_below (length plan.slots)) (below_count 0 (length plan.slots));
      lone_lines = rules_ordered model tables plan is are_with_and_without are_mixed mixed_same (none_mixed layout);
      asked_by_right = each_passes (IsRule plan) (asks_by_right plan) (λ x h. h.asked) plan.rules all;
      not_among = each_passes (IsRule plan) (λ rule. is_not_among plan rule.kind) (λ x h. h.apart) plan.rules all;
    }
