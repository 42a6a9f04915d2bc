-- Conditions and terms that no statement has are without sums over parts.
use Rattle.std.proofs.Common.{◌≡◌, ℕ, suc, ◌+◌, Bool, true, false, not, ◌&&◌, List, [], ◌∷◌, ◌++◌, map, flat_map}
use Rattle.std.proofs.Common.{Option, Some, None, refl, sym, ap, ◌∙◌, subst, if◌then◌else◌}
use Rattle.std.specs.Prelude.{option_map, slice_get}
use Rattle.std.specs.List.{list_all}
use Rattle.std.proofs.lemmas.Bool.{and_from, not_from_false, or_from, or_parts}
use Rattle.std.proofs.lemmas.List.Folds.{list_all-append, list_all-map}
use Rattle.vc_value.specs.declared.value.Value.{Value}
use Rattle.vc_model_parts.specs.declared.parts.BillItem.{BillItem}
use Rattle.vc_model_parts.specs.declared.parts.Characteristic.{Characteristic}
use Rattle.vc_model_parts.specs.declared.parts.Component.{Component}
use Rattle.vc_model_parts.specs.declared.parts.Component.TheVariants as components
use Rattle.vc_model_parts.specs.declared.parts.Model.{Model}
use Rattle.vc_model_parts.specs.declared.parts.Operation as parts
use Rattle.vc_plan.specs.Monotone.{condition_sums, has_part_sum}
use Rattle.vc_plan.specs.Outside.{kind_terms}
use Rattle.vc_plan.specs.Valid.{asks, condition_passes, means, term_passes}
use Rattle.vc_plan.specs.declared.conditions.Condition.{Condition as StoredCondition}
use Rattle.vc_plan.specs.declared.conditions.Condition.TheVariants as conditions
use Rattle.vc_plan.specs.declared.conditions.Piece.{Piece}
use Rattle.vc_plan.specs.declared.plans.Line as bill
use Rattle.vc_plan.specs.declared.plans.Named.{Named}
use Rattle.vc_plan.specs.declared.plans.Operation.{Operation}
use Rattle.vc_plan.specs.declared.plans.Plan.{Plan}
use Rattle.vc_plan.specs.declared.plans.Slot.{Slot}
use Rattle.vc_plan.specs.declared.rules.Rule.{Rule}
use Rattle.vc_plan.specs.declared.terms.Term.{Term as StoredTerm}
use Rattle.vc_plan.specs.declared.terms.Term.TheVariants as terms
use Rattle.vc_syntax_tree.specs.declared.Operand.{Operand as Name}
use Rattle.vc_syntax_tree.specs.declared.Relator.{Relator}
use Rattle.vc_syntax_tree.specs.declared.Relator.TheVariants as relators
use Rattle.vc_syntax_tree.specs.Trees as syntax
use Rattle.vc_table.specs.declared.table.VariantTable.{VariantTable}
use Rattle.vc_types.specs.Faults.{fault_of}
use Rattle.vc_types.specs.Occurrences.{asks_sum, calls_in, condition_of_restriction, conditions_in, demanded_relations}
use Rattle.vc_types.specs.Occurrences.{has_sum, if_there, own_terms, relation_of_demand, relations_in, relations_of}
use Rattle.vc_types.specs.Occurrences.{sides_of, terms_in, values_in}
use Rattle.vc_types.specs.PlaceFaults.{is_procedure}
use Rattle.vc_types.specs.declared.place.At.TheVariants as at
use Rattle.vc_types.specs.declared.place.Place.{Place}
use Rattle.vc_compile_plan.specs.Conditions.{compared_at, condition_at, holds_one, or_each, piece_of, relation_at}
use Rattle.vc_compile_plan.specs.Conditions.{relation_of, set_against, text_in, text_in_piece}
use Rattle.vc_compile_plan.specs.Layouts.{Layout, layout_of}
use Rattle.vc_compile_plan.specs.Numbering.{conditions_of, demand_terms, drafts_of, guard_brings, guard_from}
use Rattle.vc_compile_plan.specs.Numbering.{guards_begin, item_brings, kind_from, line_from, line_terms_begin}
use Rattle.vc_compile_plan.specs.Numbering.{lines_begin, number_for, operation_from, operation_terms_begin}
use Rattle.vc_compile_plan.specs.Numbering.{operations_begin, requirement_brings, requirement_from, requirements_begin}
use Rattle.vc_compile_plan.specs.Numbering.{rule_brings, rule_from, selections_from, terms_of}
use Rattle.vc_compile_plan.specs.PlanOf.{IsPlanOf}
use Rattle.vc_compile_plan.specs.Places.{characteristic_site, operation_site, precondition_in, preconditions_among}
use Rattle.vc_compile_plan.specs.Places.{selection_in, selections_among, site_at}
use Rattle.vc_compile_plan.specs.Rules.{Demand, Draft, among, by_table, compare, constraint_site, constraints_drafts}
use Rattle.vc_compile_plan.specs.Rules.{demand_at, equate, in_net, last, last_drafts, line, never, of_left_operand}
use Rattle.vc_compile_plan.specs.Rules.{of_right_operand, of_terms, restriction_draft, rule_drafts, slot_drafts_from}
use Rattle.vc_compile_plan.specs.Shown.{Choice, GuardDraft, ItemDraft, RequirementDraft, choice_at, entries_of}
use Rattle.vc_compile_plan.specs.Shown.{guard_drafts, guards_among, guards_at, guards_of, is_configurable, line_at}
use Rattle.vc_compile_plan.specs.Shown.{line_choices, line_drafts as bill_drafts, operation_at, operation_drafts}
use Rattle.vc_compile_plan.specs.Shown.{operations_in, requirement_drafts, requirements_at, requirements_of}
use Rattle.vc_compile_plan.specs.Sites.{Site, is_set_meant, named_at, set_meant, var_meant}
use Rattle.vc_compile_plan.specs.Slots.{bill_of, slots_of}
use Rattle.vc_compile_plan.specs.Terms.{literal_of, lone_of, minus, minus_literal, term_at}
use Rattle.vc_compile_plan.specs.Trees as trees
use Rattle.vc_compile_plan.specs.Trees.{condition_of}
use Rattle.vc_compile_plan.specs.Tuples.{asked_of, both, without_parts}
use Rattle.vc_compile_plan.specs.Uses.{uses_of_characteristic, uses_of_values}
use Rattle.vc_compile_plan.specs.Variables.{members_of}
use Rattle.vc_compile_valid.proofs.DraftLaws.{each_last}
use Rattle.vc_compile_valid.proofs.EachLaws.{Each, each_by_slot, each_flat, each_joined, each_mapped, each_more}
use Rattle.vc_compile_valid.proofs.EachLaws.{each_passes}
use Rattle.vc_compile_valid.proofs.ListLaws.{all_flat, made_from}
use Rattle.vc_compile_valid.proofs.NumberingLaws.{StandFrom, guard_conditions, line_conditions, line_terms, no_terms}
use Rattle.vc_compile_valid.proofs.NumberingLaws.{numbered_each, operation_conditions, operation_terms}
use Rattle.vc_compile_valid.proofs.NumberingLaws.{requirement_conditions, rule_conditions, rule_terms}
use Rattle.vc_compile_valid.proofs.PlacedLaws.{stand_first, stand_rest}
use Rattle.vc_compile_meant.specs.Scopes.{IsTyped}
use Rattle.vc_compile_meant.specs.Sums.{HasNoSums}
use Rattle.vc_compile_meant.proofs.ComponentLaws.{condition_if, condition_stands}
use Rattle.vc_compile_meant.proofs.FaultLaws.{IsTypedAt, each_false, each_here, each_split, each_unflat, is_sound}
use Rattle.vc_compile_meant.proofs.ScopeLaws.{precondition_is, selection_is}
use Rattle.vc_compile_meant.proofs.SlotRuleLaws.{OfLines, slot_rules}
use Rattle.vc_compile_meant.proofs.SoundLaws.{IsSoundLine, IsSoundOperation, asked_typed, entry_uses, line_place}
use Rattle.vc_compile_meant.proofs.SoundLaws.{operation_place, own_place, sound_at}
use Rattle.vc_compile_meant.proofs.TreeLaws.{ConditionHas, TermHas}
use Rattle.vc_compile_meant.proofs.TupleLaws.{IsOfNet, each_of_nets}

-- no sum at all
abbrev Any : ℕ → Type 0
Any v = Unit {0}

abbrev NoSlot : ℕ → Type 0
NoSlot slot = ⊥

abbrev Bare : trees.Term → Type 0
Bare t = TermHas Any NoSlot t

abbrev Plain : trees.Condition → Type 0
Plain c = ConditionHas Any NoSlot Any c

minus_bare : (a : Option Value) (t : trees.Term) → Bare t → Bare (minus a t)
minus_bare None t h = h
minus_bare (Some a) t h = tt

term_bare : (layout : Layout) (site : Site) (t : syntax.Term) → has_sum t ≡ false → Bare (term_at layout site t)
term_bare layout site (syntax.Number leaf) h = tt
term_bare layout site (syntax.Text leaf) h = tt
term_bare layout site (syntax.Operand operand) h = tt
term_bare layout site (syntax.Negated t) h =
    minus_bare (minus_literal t) (term_at layout site t) (term_bare layout site t h)
term_bare layout site (syntax.Combined left operator right) h =
    let parts
    = or_parts (has_sum left) (has_sum right) h in
    (term_bare layout site left parts.0, term_bare layout site right parts.1)
term_bare layout site (syntax.Applied function t) h = term_bare layout site t h
term_bare layout site (syntax.SumOfParts name) h = absurd (cc)
term_bare layout site syntax.CountOfParts h = absurd (cc)

against_plain : (relator : Relator) (set text : ℕ) → Plain (set_against relator (trees.Holds set text))
against_plain relators.Equal set text = tt
against_plain relators.Unequal set text = tt
against_plain relators.Less set text = tt
against_plain relators.LessEqual set text = tt
against_plain relators.Greater set text = tt
against_plain relators.GreaterEqual set text = tt

or_each_plain : (before : trees.Condition) (set : ℕ) (texts : List ℕ) → Plain before → Plain (or_each before set texts)
or_each_plain before set [] h = h
or_each_plain before set (text ∷ texts) h = or_each_plain (trees.Or before (trees.Holds set text)) set texts (h, tt)

holds_plain : (set : ℕ) (texts : List ℕ) → Plain (holds_one set texts)
holds_plain set [] = tt
holds_plain set (text ∷ texts) = or_each_plain (trees.Holds set text) set texts tt

compared_plain : (layout : Layout) (site : Site) (o : Option Name) (left : syntax.Term) (relator : Relator)
    (right : syntax.Term)
    → Bare (term_at layout site left) → Bare (term_at layout site right)
    → Plain (compared_at layout site o left relator right)
compared_plain layout site None left relator right h k = (h, k)
compared_plain layout site (Some operand) left relator right h k = by (is_set_meant site operand)
  where
    by : (b : Bool) → Plain
        (if b then set_against relator
        (trees.Holds (set_meant layout site operand) (text_in (literal_of layout.texts right)))
        else trees.Compared (relation_of relator) (term_at layout site left) (term_at layout site right))
    by true = against_plain relator (set_meant layout site operand) (text_in (literal_of layout.texts right))
    by false = (h, k)

-- sides without sums
abbrev HasNoSum : syntax.Relation → Type 0
HasNoSum relation = Each (λ t. has_sum t ≡ false) (sides_of relation)

relation_plain : (layout : Layout) (site : Site) (relation : syntax.Relation) → HasNoSum relation
    → Plain (relation_at layout site relation)
relation_plain layout site (syntax.Compared left relator right) h =
    compared_plain layout site (lone_of left) left relator right (term_bare layout site left h.0)
    (term_bare layout site right h.1.0)
relation_plain layout site (syntax.Within operand listed) h = by (is_set_meant site operand)
  where
    by : (b : Bool) → Plain
        (if b then holds_one (set_meant layout site operand) (map text_in_piece (map (piece_of layout.texts) listed))
        else trees.IsIn (var_meant layout site operand) (map (piece_of layout.texts) listed))
    by true = holds_plain (set_meant layout site operand) (map text_in_piece (map (piece_of layout.texts) listed))
    by false = tt

specified_plain : (layout : Layout) (site : Site) (operand : Name) (b : Bool)
    → Plain (if b then trees.Filled (set_meant layout site operand)
    else trees.Specified (var_meant layout site operand))
specified_plain layout site operand true = tt
specified_plain layout site operand false = tt

condition_plain : (layout : Layout) (site : Site) (c : syntax.Condition) → Each HasNoSum (relations_of c)
    → Plain (condition_at layout site c)
condition_plain layout site (syntax.Or left right) h =
    let both = each_split HasNoSum (relations_of left) (relations_of right) h in
    (condition_plain layout site left both.0, condition_plain layout site right both.1)
condition_plain layout site (syntax.And left right) h =
    let both = each_split HasNoSum (relations_of left) (relations_of right) h in
    (condition_plain layout site left both.0, condition_plain layout site right both.1)
condition_plain layout site (syntax.Not condition) h = condition_plain layout site condition h
condition_plain layout site (syntax.Related relation) h = relation_plain layout site relation h.0
condition_plain layout site (syntax.Specified operand) h =
    specified_plain layout site operand (is_set_meant site operand)
condition_plain layout site (syntax.PartOf part whole) h = tt

-- a dependency that is no procedure has none
record IsPlain (tree : syntax.Dependency) : Type 0 where
  conditions : Each (λ c. Each HasNoSum (relations_of c)) (conditions_in tree)
  demanded : Each HasNoSum (demanded_relations tree)
  own : Each (λ t. has_sum t ≡ false) (own_terms tree)

is_plain : (model : Model) (place : Place) (tree : syntax.Dependency) → is_procedure tree ≡ false
    → fault_of model place tree ≡ None → IsPlain tree
is_plain model place tree is_none typed =
    let sound = is_sound model place tree typed in
    let none : asks_sum tree ≡ false = sym (ap (λ b. not b && asks_sum tree) is_none) ∙ sound.sums in
    let all = each_false has_sum (terms_in tree) none in
    let front
    = each_split (λ t. has_sum t ≡ false) (flat_map sides_of (relations_in tree))
    (own_terms tree ++ flat_map values_in (calls_in tree)) all in
    let relations = each_split HasNoSum (flat_map relations_of (conditions_in tree)) (demanded_relations tree)
    (each_unflat (λ t. has_sum t ≡ false) sides_of (relations_in tree) front.0) in
    record {
      conditions = each_unflat HasNoSum relations_of (conditions_in tree) relations.0;
      demanded = relations.1;
      own = (each_split (λ t. has_sum t ≡ false) (own_terms tree) (flat_map values_in (calls_in tree)) front.1).0;
    }

precondition_plain : (model : Model) (place : Place) (layout : Layout) (site : Site) (c : syntax.Condition)
    → fault_of model place (syntax.Precondition c) ≡ None → Plain (condition_at layout site c)
precondition_plain model place layout site c typed =
    condition_plain layout site c (is_plain model place (syntax.Precondition c) refl typed).conditions.0

selection_plain : (model : Model) (place : Place) (layout : Layout) (site : Site) (c : syntax.Condition)
    → fault_of model place (syntax.Selection c) ≡ None → Plain (condition_at layout site c)
selection_plain model place layout site c typed =
    condition_plain layout site c (is_plain model place (syntax.Selection c) refl typed).conditions.0

counts_bare : (model : Model) (place : Place) (layout : Layout) (site : Site) (t : syntax.Term)
    → fault_of model place (syntax.Counts t) ≡ None → Bare (term_at layout site t)
counts_bare model place layout site t typed =
    term_bare layout site t (is_plain model place (syntax.Counts t) refl typed).own.0

-- preconditions and requirements
abbrev GuardPlain : GuardDraft → Type 0
GuardPlain d = Plain d.choice.condition

abbrev RequirementPlain : RequirementDraft → Type 0
RequirementPlain d = Plain d.choice.condition

guards_plain : (model : Model) (slot : Slot) (site : Site) (n : Named) (value : Option Piece) (uses : List ℕ)
    → Each (IsTypedAt model (own_place model slot)) uses
    → Each GuardPlain (guards_among (layout_of model) site n value uses)
guards_plain model slot site n value uses typed =
    each_mapped GuardPlain (λ asked. record { at = n; value = value; choice = choice_at (layout_of model) site asked })
    (preconditions_among model uses)
    (each_more (λ a. fault_of model (own_place model slot (syntax.Precondition a.condition))
    (syntax.Precondition a.condition) ≡ None)
    (λ a. Plain (condition_at (layout_of model) site a.condition))
    (λ a h. precondition_plain model (own_place model slot (syntax.Precondition a.condition)) (layout_of model) site
    a.condition h)
    (preconditions_among model uses)
    (asked_typed precondition_in syntax.Precondition precondition_is refl model (own_place model slot) uses typed))

selections_plain : (model : Model) (place : syntax.Dependency → Place) (site : Site) (uses : List ℕ)
    → Each (IsTypedAt model place) uses
    → Each (λ a. Plain (condition_at (layout_of model) site a.condition)) (selections_among model uses)
selections_plain model place site uses typed =
    each_more (λ a. fault_of model (place (syntax.Selection a.condition)) (syntax.Selection a.condition) ≡ None)
    (λ a. Plain (condition_at (layout_of model) site a.condition))
    (λ a h. selection_plain model (place (syntax.Selection a.condition)) (layout_of model) site a.condition h)
    (selections_among model uses)
    (asked_typed selection_in syntax.Selection selection_is refl model place uses typed)

characteristic_plain : (model : Model) (slot : Slot) (site : Site) (n : Named) (o : Option Characteristic)
    → Each (IsTypedAt model (own_place model slot)) (uses_of_characteristic o)
    → Each GuardPlain (guards_of (layout_of model) site n o)
    × Each RequirementPlain (requirements_of (layout_of model) site n o)
characteristic_plain model slot site n None typed = (tt, tt)
characteristic_plain model slot site n (Some x) typed =
    let Typed : ℕ → Type 0 = IsTypedAt model (own_place model slot) in
    let parts = each_split Typed x.uses (uses_of_values x.values) typed in (
      each_joined GuardPlain (guards_among (layout_of model) site n None x.uses)
          (flat_map (λ entry. guards_among (layout_of model) site n (Some entry.piece) entry.uses)
          (entries_of x.values))
          (guards_plain model slot site n None x.uses parts.0)
          (each_flat GuardPlain (λ entry. guards_among (layout_of model) site n (Some entry.piece) entry.uses)
          (entries_of x.values)
          (each_more (λ e. Each Typed e.uses)
          (λ e. Each GuardPlain (guards_among (layout_of model) site n (Some e.piece) e.uses))
          (λ e h. guards_plain model slot site n (Some e.piece) e.uses h) (entries_of x.values)
          (entry_uses Typed x.values parts.1))),
      each_mapped RequirementPlain (λ asked. record { at = n; choice = choice_at (layout_of model) site asked })
          (selections_among model x.uses)
          (selections_plain model (own_place model slot) site x.uses parts.0),
    )

all_guards_plain : (model : Model) → IsTyped model → Each GuardPlain (guard_drafts (layout_of model))
all_guards_plain model sound =
    each_by_slot GuardPlain (guards_at (layout_of model)) 0 (slots_of model) (λ k slot e.
    let site = characteristic_site (layout_of model) (0 + k) slot in
    each_flat GuardPlain
    (λ c. guards_of (layout_of model) site (named_at (layout_of model) (0 + k) c)
    (slice_get model.characteristics c))
    (members_of model slot.object)
    (each_more (λ c. Each (IsTypedAt model (own_place model slot))
    (uses_of_characteristic (slice_get model.characteristics c)))
    (λ c. Each GuardPlain
    (guards_of (layout_of model) site (named_at (layout_of model) (0 + k) c) (slice_get model.characteristics c)))
    (λ c h. (characteristic_plain model slot site (named_at (layout_of model) (0 + k) c)
    (slice_get model.characteristics c) h).0)
    (members_of model slot.object) (sound_at model sound k slot e).members))

all_requirements_plain : (model : Model) → IsTyped model → Each RequirementPlain (requirement_drafts (layout_of model))
all_requirements_plain model sound =
    each_by_slot RequirementPlain (requirements_at (layout_of model)) 0 (slots_of model) (λ k slot e.
    let site = characteristic_site (layout_of model) (0 + k) slot in
    each_flat RequirementPlain
    (λ c. requirements_of (layout_of model) site (named_at (layout_of model) (0 + k) c)
    (slice_get model.characteristics c))
    (members_of model slot.object)
    (each_more (λ c. Each (IsTypedAt model (own_place model slot))
    (uses_of_characteristic (slice_get model.characteristics c)))
    (λ c. Each RequirementPlain
    (requirements_of (layout_of model) site (named_at (layout_of model) (0 + k) c) (slice_get model.characteristics c)))
    (λ c h. (characteristic_plain model slot site (named_at (layout_of model) (0 + k) c)
    (slice_get model.characteristics c) h).1)
    (members_of model slot.object) (sound_at model sound k slot e).members))

-- lines and operations
record IsPlainItem (d : ItemDraft) : Type 0 where
  term : Bare d.term
  choices : Each (λ choice. Plain choice.condition) d.choices

choices_plain : (model : Model) (place : syntax.Dependency → Place) (site : Site) (uses : List ℕ)
    → Each (IsTypedAt model place) uses
    → Each (λ choice. Plain choice.condition) (map (choice_at (layout_of model) site) (selections_among model uses))
choices_plain model place site uses typed =
    each_mapped (λ choice. Plain choice.condition) (choice_at (layout_of model) site) (selections_among model uses)
    (selections_plain model place site uses typed)

line_plain : (model : Model) (i : ℕ) (slot : Slot) (item : BillItem) → IsSoundLine model slot item
    → IsPlainItem (line_at (layout_of model) i slot item)
line_plain model i slot item sound = record {
  term = counts_bare model (line_place model slot (is_configurable item.component)) (layout_of model)
      (site_at (layout_of model) i slot (at.Line (is_configurable item.component))) (syntax.term_of item.quantity.value)
      sound.quantity;
  choices = by item.component (is_configurable item.component) sound.uses;
}
  where
    by : (x : Component) (b : Bool) → Each (IsTypedAt model (λ tree. line_place model slot b)) item.uses
        → Each (λ choice. Plain choice.condition)
        (line_choices (layout_of model) (site_at (layout_of model) i slot (at.Line b)) x item.uses)
    by (components.Object o) b typed = tt
    by (components.Plain material) b typed =
        choices_plain model (λ tree. line_place model slot b) (site_at (layout_of model) i slot (at.Line b)) item.uses
        typed

operation_plain : (model : Model) (i : ℕ) (slot : Slot) (x : parts.Operation) → IsSoundOperation model slot x
    → IsPlainItem (operation_at (layout_of model) i slot x)
operation_plain model i slot x sound = record {
  term = counts_bare model (operation_place model slot) (layout_of model) (operation_site (layout_of model) i slot)
      (syntax.term_of x.time.value) sound.time;
  choices = choices_plain model (λ tree. operation_place model slot) (operation_site (layout_of model) i slot) x.uses
      sound.uses;
}

all_lines_plain : (model : Model) → IsTyped model → Each IsPlainItem (bill_drafts (layout_of model))
all_lines_plain model sound =
    each_by_slot IsPlainItem (λ i slot. map (line_at (layout_of model) i slot) (bill_of model slot.object)) 0
    (slots_of model)
    (λ k slot e. each_mapped IsPlainItem (line_at (layout_of model) (0 + k) slot) (bill_of model slot.object)
    (each_more (IsSoundLine model slot) (λ item. IsPlainItem (line_at (layout_of model) (0 + k) slot item))
    (line_plain model (0 + k) slot)
    (bill_of model slot.object) (sound_at model sound k slot e).lines))

all_operations_plain : (model : Model) → IsTyped model → Each IsPlainItem (operation_drafts (layout_of model))
all_operations_plain model sound =
    each_by_slot IsPlainItem
    (λ i slot. map (operation_at (layout_of model) i slot) (operations_in (slice_get model.objects slot.object))) 0
    (slots_of model)
    (λ k slot e. each_mapped IsPlainItem (operation_at (layout_of model) (0 + k) slot)
    (operations_in (slice_get model.objects slot.object))
    (each_more (IsSoundOperation model slot) (λ x. IsPlainItem (operation_at (layout_of model) (0 + k) slot x))
    (operation_plain model (0 + k) slot)
    (operations_in (slice_get model.objects slot.object)) (sound_at model sound k slot e).operations))

-- rules
record IsPlainRule (d : Draft) : Type 0 where
  condition : Plain (condition_if d.condition)
  terms : Each Bare (demand_terms d.demand)

slot_lines_plain : (model : Model) → OfLines IsPlainRule model
slot_lines_plain model = record {
  always = λ i. record { condition = tt; terms = tt };
  asked = λ p owner i number a selected. record {
    condition = selection_plain model (line_place model owner true) (layout_of model)
        (site_at (layout_of model) p owner (at.Line true)) a.condition selected;
    terms = tt;
  };
}

-- a constraint's rules
abbrev IfPlain : Option syntax.Condition → Type 0
IfPlain None = Unit {0}
IfPlain (Some c) = Each HasNoSum (relations_of c)

both_plain : (a b : Option syntax.Condition) → IfPlain a → IfPlain b → IfPlain (both a b)
both_plain None b h k = k
both_plain (Some a) None h k = h
both_plain (Some a) (Some b) h k = each_joined HasNoSum (relations_of a) (relations_of b) h k

without_plain : (c : syntax.Condition) → Each HasNoSum (relations_of c) → IfPlain (without_parts c)
without_plain (syntax.And left right) h =
    let parts = each_split HasNoSum (relations_of left) (relations_of right) h in
    both_plain (without_parts left) (without_parts right) (without_plain left parts.0) (without_plain right parts.1)
without_plain (syntax.PartOf part whole) h = tt
without_plain (syntax.Or left right) h = h
without_plain (syntax.Not condition) h = h
without_plain (syntax.Related relation) h = h
without_plain (syntax.Specified operand) h = h

asked_plain : (o : Option syntax.Condition) → Each (λ c. Each HasNoSum (relations_of c)) (if_there (λ c. c ∷ []) o)
    → IfPlain (asked_of o)
asked_plain None h = tt
asked_plain (Some c) h = without_plain c h.0

own_plain : (o : Option syntax.Condition) → Each (λ c. Each HasNoSum (relations_of c)) (if_there (λ c. c ∷ []) o)
    → IfPlain o
own_plain None h = tt
own_plain (Some c) h = h.0

if_plain : (layout : Layout) (site : Site) (o : Option syntax.Condition) → IfPlain o
    → Plain (condition_if (option_map (condition_at layout site) o))
if_plain layout site None h = tt
if_plain layout site (Some c) h = condition_plain layout site c h

terms_plain : (layout : Layout) (site : Site) (relator : Relator) (left right : syntax.Term) → has_sum left ≡ false
    → has_sum right ≡ false
    → Each Bare (demand_terms (of_terms layout site relator left right))
terms_plain layout site relators.Equal left right h k =
    (term_bare layout site left h, (term_bare layout site right k, tt))
terms_plain layout site relators.Unequal left right h k =
    (term_bare layout site left h, (term_bare layout site right k, tt))
terms_plain layout site relators.Less left right h k =
    (term_bare layout site left h, (term_bare layout site right k, tt))
terms_plain layout site relators.LessEqual left right h k =
    (term_bare layout site left h, (term_bare layout site right k, tt))
terms_plain layout site relators.Greater left right h k =
    (term_bare layout site left h, (term_bare layout site right k, tt))
terms_plain layout site relators.GreaterEqual left right h k =
    (term_bare layout site left h, (term_bare layout site right k, tt))

right_plain : (layout : Layout) (site : Site) (o : Option Name) (a : Option Value) (relator : Relator)
    (left right : syntax.Term)
    → has_sum left ≡ false → has_sum right ≡ false
    → Each Bare (demand_terms (of_right_operand layout site o a relator left right))
right_plain layout site None a relator left right h k = terms_plain layout site relator left right h k
right_plain layout site (Some operand) None relator left right h k = terms_plain layout site relator left right h k
right_plain layout site (Some operand) (Some a) relator left right h k = tt

left_plain : (layout : Layout) (site : Site) (o : Option Name) (a : Option Value) (relator : Relator)
    (left right : syntax.Term)
    → has_sum left ≡ false → has_sum right ≡ false
    → Each Bare (demand_terms (of_left_operand layout site o a relator left right))
left_plain layout site (Some operand) (Some a) relator left right h k = tt
left_plain layout site (Some operand) None relator left right h k = terms_plain layout site relator left right h k
left_plain layout site None a relator left right h k =
    right_plain layout site (lone_of right) (literal_of layout.texts left) relator left right h k

demand_plain : (layout : Layout) (site : Site) (demand : syntax.Demand) → Each HasNoSum (relation_of_demand demand)
    → Each Bare (demand_terms (demand_at layout site demand))
demand_plain layout site (syntax.Relates (syntax.Compared left relator right)) h =
    let sides
    = h.0 in left_plain layout site (lone_of left) (literal_of layout.texts right) relator left right sides.0
    sides.1.0
demand_plain layout site (syntax.Relates (syntax.Within operand listed)) h = tt
demand_plain layout site (syntax.Holds call) h = tt
demand_plain layout site syntax.Never h = tt

net_plain : (model : Model) (d : ℕ) (constraint : syntax.Constraint) (tuple : List ℕ) (number : ℕ)
    (restriction : syntax.Restriction)
    → IsOfNet model d constraint tuple restriction
    → IsPlainRule (restriction_draft (layout_of model) d constraint tuple number restriction)
net_plain model d constraint tuple number restriction of =
    let layout = layout_of model in
    let site = constraint_site (layout_of model) constraint tuple in
    let rs = constraint.restrictions in
    let Bareness : syntax.Condition → Type 0 = λ c. Each HasNoSum (relations_of c) in
    let all = is_plain model in_net (syntax.Constrains constraint) refl of.sound in
    let parts
    = each_split Bareness (if_there (λ c. c ∷ []) constraint.condition) (flat_map condition_of_restriction rs)
    all.conditions in
    let own = each_here (λ r. Each Bareness (condition_of_restriction r)) rs of.place restriction
    (each_unflat Bareness condition_of_restriction rs parts.1) of.there in
    let demanded = each_here (λ r. Each HasNoSum (relation_of_demand r.demand)) rs of.place restriction
    (each_unflat HasNoSum (λ r. relation_of_demand r.demand) rs all.demanded) of.there in
    record {
      condition = if_plain layout site (both (asked_of constraint.condition) restriction.condition)
          (both_plain (asked_of constraint.condition) restriction.condition (asked_plain constraint.condition parts.0)
          (own_plain restriction.condition own));
      terms = demand_plain layout site restriction.demand demanded;
    }

all_rules_plain : (model : Model) → IsTyped model → Each IsPlainRule (rule_drafts (layout_of model))
all_rules_plain model sound =
    let layout = layout_of model in
    each_joined IsPlainRule (constraints_drafts layout)
    (last_drafts layout ++ slot_drafts_from layout 0 layout.standings)
    (each_of_nets IsPlainRule model sound (net_plain model))
    (each_joined IsPlainRule (last_drafts layout) (slot_drafts_from layout 0 layout.standings)
    (each_last IsPlainRule layout (λ v. record { condition = tt; terms = tt }))
    (slot_rules IsPlainRule model sound (slot_lines_plain model)))

-- trees in memory
stored_bare : (t : StoredTerm) → Bare (trees.term_of t) → has_part_sum t ≡ false
stored_bare (terms.Literal a) h = refl
stored_bare (terms.Read v) h = refl
stored_bare (terms.PartSum slot c) h = absurd h
stored_bare (terms.PartCount slot) h = absurd h
stored_bare (terms.Applied' function p a) h = stored_bare a h
stored_bare (terms.Joined' operator p a q b) h =
    or_from (has_part_sum a) (has_part_sum b) (stored_bare a h.0) (stored_bare b h.1)

stored_plain : (c : StoredCondition) → Plain (condition_of c) → condition_sums c ≡ false
stored_plain conditions.Always h = refl
stored_plain (conditions.Compared r a b) h =
    or_from (has_part_sum a) (has_part_sum b) (stored_bare a h.0) (stored_bare b h.1)
stored_plain (conditions.IsIn v pieces) h = refl
stored_plain (conditions.Specified v) h = refl
stored_plain (conditions.Holds set text) h = refl
stored_plain (conditions.Filled set) h = refl
stored_plain (conditions.Not' p c) h = stored_plain c h
stored_plain (conditions.And' p c q d) h =
    or_from (condition_sums c) (condition_sums d) (stored_plain c h.0) (stored_plain d h.1)
stored_plain (conditions.Or' p c q d) h =
    or_from (condition_sums c) (condition_sums d) (stored_plain c h.0) (stored_plain d h.1)

abbrev asks_plain : Plan → ℕ → Bool
asks_plain plan = asks plan (λ c. not (condition_sums c))

abbrev means_bare : Plan → ℕ → Bool
means_bare plan = means plan (λ term. not (has_part_sum term))

plain_at : (model : Model) (tables : List VariantTable) (plan : Plan) → IsPlanOf model tables plan
    → (n : ℕ) (c : trees.Condition)
    → slice_get (conditions_of (drafts_of (layout_of model))) n ≡ Some c → Plain c → asks_plain plan n ≡ true
plain_at model tables plan is n c e h =
    let found
    = made_from condition_of plan.conditions (conditions_of (drafts_of (layout_of model))) is.conditions n c e in
    ap (condition_passes (λ c. not (condition_sums c))) found.1
    ∙ not_from_false (condition_sums found.0) (stored_plain found.0 (subst Plain (sym found.2) h))

bare_at : (model : Model) (tables : List VariantTable) (plan : Plan) → IsPlanOf model tables plan
    → (n : ℕ) (t : trees.Term)
    → slice_get (terms_of (drafts_of (layout_of model))) n ≡ Some t → Bare t → means_bare plan n ≡ true
bare_at model tables plan is n t e h =
    let found = made_from trees.term_of plan.terms (terms_of (drafts_of (layout_of model))) is.terms n t e in
    ap (term_passes (λ term. not (has_part_sum term))) found.1
    ∙ not_from_false (has_part_sum found.0) (stored_bare found.0 (subst Bare (sym found.2) h))

selected_plain : (model : Model) (tables : List VariantTable) (plan : Plan) → IsPlanOf model tables plan
    → (c : ℕ) (choices : List Choice)
    → Each (λ choice. Plain choice.condition) choices
    → StandFrom (conditions_of (drafts_of (layout_of model))) c (map (λ choice. choice.condition) choices)
    → list_all (asks_plain plan) (map (λ selection. selection.condition) (selections_from c choices)) ≡ true
selected_plain model tables plan is c [] h cs = refl
selected_plain model tables plan is c (choice ∷ choices) h cs =
    let all = conditions_of (drafts_of (layout_of model)) in
    let rest = map (λ choice. choice.condition) choices in
    and_from (asks_plain plan c)
    (list_all (asks_plain plan) (map (λ selection. selection.condition) (selections_from (suc c) choices)))
    (plain_at model tables plan is c choice.condition (stand_first all c choice.condition rest cs) h.0)
    (selected_plain model tables plan is (suc c) choices h.1 (stand_rest all c choice.condition rest cs))

two_bare : (model : Model) (tables : List VariantTable) (plan : Plan) → IsPlanOf model tables plan
    → (t : ℕ) (left right : trees.Term)
    → StandFrom (terms_of (drafts_of (layout_of model))) t (left ∷ right ∷ []) → Each Bare (left ∷ right ∷ [])
    → list_all (means_bare plan) (t ∷ suc t ∷ []) ≡ true
two_bare model tables plan is t left right ts h =
    let all = terms_of (drafts_of (layout_of model)) in
    and_from (means_bare plan t) (list_all (means_bare plan) (suc t ∷ []))
    (bare_at model tables plan is t left (stand_first all t left (right ∷ []) ts) h.0)
    (and_from (means_bare plan (suc t)) true
    (bare_at model tables plan is (suc t) right
    (stand_first all (suc t) right [] (stand_rest all t left (right ∷ []) ts)) h.1.0) refl)

demand_bare : (model : Model) (tables : List VariantTable) (plan : Plan) → IsPlanOf model tables plan
    → (t : ℕ) (demand : Demand)
    → StandFrom (terms_of (drafts_of (layout_of model))) t (demand_terms demand) → Each Bare (demand_terms demand)
    → list_all (means_bare plan) (kind_terms (kind_from t demand)) ≡ true
demand_bare model tables plan is t (among v restriction) ts h = refl
demand_bare model tables plan is t (compare relation left right) ts h = two_bare model tables plan is t left right ts h
demand_bare model tables plan is t (equate left right) ts h = two_bare model tables plan is t left right ts h
demand_bare model tables plan is t (by_table table columns) ts h = refl
demand_bare model tables plan is t never ts h = refl
demand_bare model tables plan is t (last v) ts h = refl
demand_bare model tables plan is t (line i) ts h = refl

both_all : {X : Type 0} (p : X → Bool) (xs ys : List X) → list_all p xs ≡ true → list_all p ys ≡ true
    → list_all p (xs ++ ys) ≡ true
both_all p xs ys a b = list_all-append p xs ys ∙ and_from (list_all p xs) (list_all p ys) a b

pub has_no_sums : (model : Model) (tables : List VariantTable) (plan : Plan) → IsPlanOf model tables plan
    → IsTyped model → HasNoSums plan
has_no_sums model tables plan is sound =
    let drafts = drafts_of (layout_of model) in
    let Ruled : Rule → Type 0
    = λ x. (asks_plain plan x.condition ≡ true) × (list_all (means_bare plan) (kind_terms x.kind) ≡ true) in
    let Lined : bill.Line → Type 0
    = λ x. (list_all (asks_plain plan) (map (λ selection. selection.condition) x.selections) ≡ true)
    × (means_bare plan x.quantity ≡ true) in
    let Operated : Operation → Type 0
    = λ x. (list_all (asks_plain plan) (map (λ selection. selection.condition) x.selections) ≡ true)
    × (means_bare plan x.time ≡ true) in
    let rules = subst (Each Ruled) (sym is.rules)
    (numbered_each rule_brings rule_from IsPlainRule Ruled (conditions_of drafts) (terms_of drafts)
    (λ c t d h cs ts. (
      plain_at model tables plan is (number_for c d.condition) (condition_if d.condition)
          (condition_stands drafts c d.condition cs) h.condition,
      demand_bare model tables plan is t d.demand ts h.terms,
    )) 1 0 drafts.rules (all_rules_plain model sound) (rule_conditions drafts) (rule_terms drafts)) in
    let guards = subst (Each (λ x. asks_plain plan x.condition ≡ true)) (sym is.guards)
    (numbered_each guard_brings guard_from GuardPlain (λ x. asks_plain plan x.condition ≡ true) (conditions_of drafts)
    (terms_of drafts)
    (λ c t d h cs ts. plain_at model tables plan is c d.choice.condition
    (stand_first (conditions_of drafts) c d.choice.condition [] cs) h)
    (guards_begin drafts) 0 drafts.guards (all_guards_plain model sound) (guard_conditions drafts)
    (no_terms (terms_of drafts) drafts.guards)) in
    let requirements = subst (Each (λ x. asks_plain plan x.selection.condition ≡ true)) (sym is.requirements)
    (numbered_each requirement_brings requirement_from RequirementPlain
    (λ x. asks_plain plan x.selection.condition ≡ true)
    (conditions_of drafts) (terms_of drafts)
    (λ c t d h cs ts. plain_at model tables plan is c d.choice.condition
    (stand_first (conditions_of drafts) c d.choice.condition [] cs) h)
    (requirements_begin drafts) 0 drafts.requirements (all_requirements_plain model sound)
    (requirement_conditions drafts)
    (no_terms (terms_of drafts) drafts.requirements)) in
    let lines = subst (Each Lined) (sym is.lines)
    (numbered_each item_brings line_from IsPlainItem Lined (conditions_of drafts) (terms_of drafts)
    (λ c t d h cs ts. (
      selected_plain model tables plan is c d.choices h.choices cs,
      bare_at model tables plan is t d.term (stand_first (terms_of drafts) t d.term [] ts) h.term,
    )) (lines_begin drafts) (line_terms_begin drafts) drafts.lines (all_lines_plain model sound)
    (line_conditions drafts) (line_terms drafts)) in
    let operations = subst (Each Operated) (sym is.operations)
    (numbered_each item_brings operation_from IsPlainItem Operated (conditions_of drafts) (terms_of drafts)
    (λ c t d h cs ts. (
      selected_plain model tables plan is c d.choices h.choices cs,
      bare_at model tables plan is t d.term (stand_first (terms_of drafts) t d.term [] ts) h.term,
    )) (operations_begin drafts) (operation_terms_begin drafts) drafts.operations (all_operations_plain model sound)
    (operation_conditions drafts) (operation_terms drafts)) in
    let asked : ℕ → Bool = asks_plain plan in
    let meant : ℕ → Bool = means_bare plan in
    record {
      no_sum_asked =
          both_all asked (map (λ x. x.condition) plan.rules ++ map (λ x. x.condition) plan.guards)
          (map (λ x. x.selection.condition) plan.requirements
          ++ (flat_map (λ x. map (λ s. s.condition) x.selections) plan.lines
          ++ flat_map (λ x. map (λ s. s.condition) x.selections) plan.operations))
          (both_all asked (map (λ x. x.condition) plan.rules) (map (λ x. x.condition) plan.guards)
          (list_all-map asked (λ x. x.condition) plan.rules
          ∙ each_passes Ruled (λ x. asked x.condition) (λ x h. h.0) plan.rules rules)
          (list_all-map asked (λ x. x.condition) plan.guards
          ∙ each_passes (λ x. asks_plain plan x.condition ≡ true) (λ x. asked x.condition) (λ x h. h) plan.guards
          guards))
          (both_all asked (map (λ x. x.selection.condition) plan.requirements)
          (flat_map (λ x. map (λ s. s.condition) x.selections) plan.lines
          ++ flat_map (λ x. map (λ s. s.condition) x.selections) plan.operations)
          (list_all-map asked (λ x. x.selection.condition) plan.requirements
          ∙ each_passes (λ x. asks_plain plan x.selection.condition ≡ true) (λ x. asked x.selection.condition)
          (λ x h. h) plan.requirements requirements)
          (both_all asked (flat_map (λ x. map (λ s. s.condition) x.selections) plan.lines)
          (flat_map (λ x. map (λ s. s.condition) x.selections) plan.operations)
          (all_flat asked (λ x. map (λ s. s.condition) x.selections) plan.lines
          (each_passes Lined (λ x. list_all asked (map (λ s. s.condition) x.selections)) (λ x h. h.0) plan.lines lines))
          (all_flat asked (λ x. map (λ s. s.condition) x.selections) plan.operations
          (each_passes Operated (λ x. list_all asked (map (λ s. s.condition) x.selections)) (λ x h. h.0) plan.operations
          operations))));
      no_sum_meant =
          both_all meant (flat_map (λ x. kind_terms x.kind) plan.rules)
          (map (λ x. x.quantity) plan.lines ++ map (λ x. x.time) plan.operations)
          (all_flat meant (λ x. kind_terms x.kind) plan.rules
          (each_passes Ruled (λ x. list_all meant (kind_terms x.kind)) (λ x h. h.1) plan.rules rules))
          (both_all meant (map (λ x. x.quantity) plan.lines) (map (λ x. x.time) plan.operations)
          (list_all-map meant (λ x. x.quantity) plan.lines
          ∙ each_passes Lined (λ x. meant x.quantity) (λ x h. h.1) plan.lines lines)
          (list_all-map meant (λ x. x.time) plan.operations
          ∙ each_passes Operated (λ x. meant x.time) (λ x h. h.1) plan.operations operations));
    }
