-- What a net asks is monotone: no set, and SPECIFIED under no NOT.
use Rattle.std.proofs.Common.{◌≡◌, ℕ, Bool, true, false, not, List, [], ◌∷◌, ◌++◌, map, flat_map, Option, Some, None}
use Rattle.std.proofs.Common.{refl, sym, ap, ◌∙◌, subst, if◌then◌else◌}
use Rattle.std.specs.Prelude.{option_map, slice_get}
use Rattle.std.specs.List.{list_any}
use Rattle.std.proofs.lemmas.Bool.{and_from, not_from_false, or_from, or_parts}
use Rattle.vc_model_parts.specs.declared.parts.Model.{Model}
use Rattle.vc_plan.specs.Monotone.{asks_specified, is_for_nets}
use Rattle.vc_plan.specs.Valid.{asks, condition_passes}
use Rattle.vc_plan.specs.declared.conditions.Condition.{Condition as StoredCondition}
use Rattle.vc_plan.specs.declared.conditions.Condition.TheVariants as conditions
use Rattle.vc_plan.specs.declared.plans.Plan.{Plan}
use Rattle.vc_plan.specs.declared.plans.Slot.{Slot}
use Rattle.vc_syntax_tree.specs.declared.Operand.{Operand as Name}
use Rattle.vc_syntax_tree.specs.declared.Relator.{Relator}
use Rattle.vc_syntax_tree.specs.declared.Relator.TheVariants as relators
use Rattle.vc_syntax_tree.specs.Trees as syntax
use Rattle.vc_table.specs.declared.table.VariantTable.{VariantTable}
use Rattle.vc_types.specs.Faults.{fault_of}
use Rattle.vc_types.specs.NameFaults.{has_some}
use Rattle.vc_types.specs.Occurrences.{Use, condition_of_restriction, conditions_in, if_there, specified_in, uses_in}
use Rattle.vc_types.specs.PlaceFaults.{denies_specified, uses_set}
use Rattle.vc_types.specs.Settings.{is_multiple, is_set}
use Rattle.vc_types.specs.declared.place.At.TheVariants as at
use Rattle.vc_compile_plan.specs.Conditions.{compared_at, condition_at, holds_one, or_each, piece_of, relation_at}
use Rattle.vc_compile_plan.specs.Conditions.{relation_of, set_against, text_in, text_in_piece}
use Rattle.vc_compile_plan.specs.Layouts.{Layout, layout_of}
use Rattle.vc_compile_plan.specs.Numbering.{conditions_of, drafts_of, number_for, rule_brings, rule_from, terms_of}
use Rattle.vc_compile_plan.specs.PlanOf.{IsPlanOf}
use Rattle.vc_compile_plan.specs.Places.{site_at}
use Rattle.vc_compile_plan.specs.Rules.{Draft, constraint_site, constraints_drafts, in_net, last_drafts}
use Rattle.vc_compile_plan.specs.Rules.{restriction_draft, rule_drafts, slot_drafts_from}
use Rattle.vc_compile_plan.specs.Sites.{Site, characteristic_in, is_set_meant, set_meant, var_meant}
use Rattle.vc_compile_plan.specs.Terms.{literal_of, lone_of, term_at}
use Rattle.vc_compile_plan.specs.Trees as trees
use Rattle.vc_compile_plan.specs.Trees.{condition_of}
use Rattle.vc_compile_plan.specs.Tuples.{asked_of, both, without_parts}
use Rattle.vc_compile_valid.proofs.DraftLaws.{each_last}
use Rattle.vc_compile_valid.proofs.EachLaws.{Each, each_both, each_joined, each_more, each_passes}
use Rattle.vc_compile_valid.proofs.ListLaws.{made_from}
use Rattle.vc_compile_valid.proofs.NumberingLaws.{numbered_each, rule_conditions, rule_terms}
use Rattle.vc_compile_meant.specs.Scopes.{HasNets, IsTyped}
use Rattle.vc_compile_meant.proofs.ComponentLaws.{condition_if, condition_stands}
use Rattle.vc_compile_meant.proofs.FaultLaws.{IsUsed, all_used, each_false, each_here, each_split, each_unflat}
use Rattle.vc_compile_meant.proofs.FaultLaws.{is_sound}
use Rattle.vc_compile_meant.proofs.ScopeLaws.{AnySum}
use Rattle.vc_compile_meant.proofs.SlotRuleLaws.{OfLines, slot_rules}
use Rattle.vc_compile_meant.proofs.SoundLaws.{line_place}
use Rattle.vc_compile_meant.proofs.TreeLaws.{ConditionHas, IsGoodUse, condition_has, uses_by_condition}
use Rattle.vc_compile_meant.proofs.TupleLaws.{AreGood, IfGood, IsOfNet, NoSet, asked_good, both_good, each_of_nets}
use Rattle.vc_compile_meant.proofs.TupleLaws.{own_good}

-- SPECIFIED is nowhere, and under no NOT
abbrev AsksNone : trees.Condition → Type 0
AsksNone trees.Always = Unit {0}
AsksNone (trees.Compared r a b) = Unit {0}
AsksNone (trees.IsIn v pieces) = Unit {0}
AsksNone (trees.Specified v) = ⊥
AsksNone (trees.Holds set text) = Unit {0}
AsksNone (trees.Filled set) = ⊥
AsksNone (trees.Not c) = AsksNone c
AsksNone (trees.And c d) = AsksNone c × AsksNone d
AsksNone (trees.Or c d) = AsksNone c × AsksNone d

abbrev DeniesNone : trees.Condition → Type 0
DeniesNone trees.Always = Unit {0}
DeniesNone (trees.Compared r a b) = Unit {0}
DeniesNone (trees.IsIn v pieces) = Unit {0}
DeniesNone (trees.Specified v) = Unit {0}
DeniesNone (trees.Holds set text) = Unit {0}
DeniesNone (trees.Filled set) = Unit {0}
DeniesNone (trees.Not c) = AsksNone c × DeniesNone c
DeniesNone (trees.And c d) = DeniesNone c × DeniesNone d
DeniesNone (trees.Or c d) = DeniesNone c × DeniesNone d

-- what asks none denies none
denies_less : (c : trees.Condition) → AsksNone c → DeniesNone c
denies_less trees.Always h = tt
denies_less (trees.Compared r a b) h = tt
denies_less (trees.IsIn v pieces) h = tt
denies_less (trees.Specified v) h = tt
denies_less (trees.Holds set text) h = tt
denies_less (trees.Filled set) h = tt
denies_less (trees.Not c) h = (h, denies_less c h)
denies_less (trees.And c d) h = (denies_less c h.0, denies_less d h.1)
denies_less (trees.Or c d) h = (denies_less c h.0, denies_less d h.1)

-- a relation asks none
against_none : (relator : Relator) (set text : ℕ) → AsksNone (set_against relator (trees.Holds set text))
against_none relators.Equal set text = tt
against_none relators.Unequal set text = tt
against_none relators.Less set text = tt
against_none relators.LessEqual set text = tt
against_none relators.Greater set text = tt
against_none relators.GreaterEqual set text = tt

or_each_none : (before : trees.Condition) (set : ℕ) (texts : List ℕ) → AsksNone before
    → AsksNone (or_each before set texts)
or_each_none before set [] h = h
or_each_none before set (text ∷ texts) h = or_each_none (trees.Or before (trees.Holds set text)) set texts (h, tt)

holds_none : (set : ℕ) (texts : List ℕ) → AsksNone (holds_one set texts)
holds_none set [] = tt
holds_none set (text ∷ texts) = or_each_none (trees.Holds set text) set texts tt

compared_none : (layout : Layout) (site : Site) (o : Option Name) (left : syntax.Term) (relator : Relator)
    (right : syntax.Term)
    → AsksNone (compared_at layout site o left relator right)
compared_none layout site None left relator right = tt
compared_none layout site (Some operand) left relator right = by (is_set_meant site operand)
  where
    by : (b : Bool) → AsksNone
        (if b then set_against relator
        (trees.Holds (set_meant layout site operand) (text_in (literal_of layout.texts right)))
        else trees.Compared (relation_of relator) (term_at layout site left) (term_at layout site right))
    by true = against_none relator (set_meant layout site operand) (text_in (literal_of layout.texts right))
    by false = tt

relation_none : (layout : Layout) (site : Site) (relation : syntax.Relation)
    → AsksNone (relation_at layout site relation)
relation_none layout site (syntax.Compared left relator right) =
    compared_none layout site (lone_of left) left relator right
relation_none layout site (syntax.Within operand listed) = by (is_set_meant site operand)
  where
    by : (b : Bool) → AsksNone
        (if b then holds_one (set_meant layout site operand) (map text_in_piece (map (piece_of layout.texts) listed))
        else trees.IsIn (var_meant layout site operand) (map (piece_of layout.texts) listed))
    by true = holds_none (set_meant layout site operand) (map text_in_piece (map (piece_of layout.texts) listed))
    by false = tt

no_some : {X : Type 0} (xs ys : List X) → has_some (xs ++ ys) ≡ false → (has_some xs ≡ false) × (has_some ys ≡ false)
no_some [] ys h = (refl, h)
no_some (x ∷ xs) ys h = absurd (cc)

asks_none : (layout : Layout) (site : Site) (c : syntax.Condition) → has_some (specified_in c) ≡ false
    → AsksNone (condition_at layout site c)
asks_none layout site (syntax.Or left right) h =
    let both = no_some (specified_in left) (specified_in right) h in
    (asks_none layout site left both.0, asks_none layout site right both.1)
asks_none layout site (syntax.And left right) h =
    let both = no_some (specified_in left) (specified_in right) h in
    (asks_none layout site left both.0, asks_none layout site right both.1)
asks_none layout site (syntax.Not condition) h = asks_none layout site condition h
asks_none layout site (syntax.Related relation) h = relation_none layout site relation
asks_none layout site (syntax.Specified operand) h = absurd (cc)
asks_none layout site (syntax.PartOf part whole) h = tt

filled_or : (layout : Layout) (site : Site) (operand : Name) (b : Bool)
    → DeniesNone (if b then trees.Filled (set_meant layout site operand)
    else trees.Specified (var_meant layout site operand))
filled_or layout site operand true = tt
filled_or layout site operand false = tt

denies_none : (layout : Layout) (site : Site) (c : syntax.Condition) → denies_specified c ≡ false
    → DeniesNone (condition_at layout site c)
denies_none layout site (syntax.Or left right) h =
    let parts = or_parts (denies_specified left) (denies_specified right) h in
    (denies_none layout site left parts.0, denies_none layout site right parts.1)
denies_none layout site (syntax.And left right) h =
    let parts = or_parts (denies_specified left) (denies_specified right) h in
    (denies_none layout site left parts.0, denies_none layout site right parts.1)
denies_none layout site (syntax.Not condition) h =
    let none = asks_none layout site condition h in (none, denies_less (condition_at layout site condition) none)
denies_none layout site (syntax.Related relation) h =
    denies_less (relation_at layout site relation) (relation_none layout site relation)
denies_none layout site (syntax.Specified operand) h = filled_or layout site operand (is_set_meant site operand)
denies_none layout site (syntax.PartOf part whole) h = tt

-- a condition in memory that asks no set and denies no SPECIFIED
stored_none : (c : StoredCondition) → AsksNone (condition_of c) → asks_specified c ≡ false
stored_none conditions.Always h = refl
stored_none (conditions.Compared r a b) h = refl
stored_none (conditions.IsIn v pieces) h = refl
stored_none (conditions.Specified v) h = absurd h
stored_none (conditions.Holds set text) h = refl
stored_none (conditions.Filled set) h = absurd h
stored_none (conditions.Not' p c) h = stored_none c h
stored_none (conditions.And' p c q d) h =
    or_from (asks_specified c) (asks_specified d) (stored_none c h.0) (stored_none d h.1)
stored_none (conditions.Or' p c q d) h =
    or_from (asks_specified c) (asks_specified d) (stored_none c h.0) (stored_none d h.1)

stored_nets : (V : ℕ → Type 0) (c : StoredCondition) → ConditionHas V AnySum NoSet (condition_of c)
    → DeniesNone (condition_of c)
    → is_for_nets c ≡ true
stored_nets V conditions.Always h k = refl
stored_nets V (conditions.Compared r a b) h k = refl
stored_nets V (conditions.IsIn v pieces) h k = refl
stored_nets V (conditions.Specified v) h k = refl
stored_nets V (conditions.Holds set text) h k = absurd h
stored_nets V (conditions.Filled set) h k = absurd h
stored_nets V (conditions.Not' p c) h k =
    and_from (not (asks_specified c)) (is_for_nets c) (not_from_false (asks_specified c) (stored_none c k.0))
    (stored_nets V c h k.1)
stored_nets V (conditions.And' p c q d) h k =
    and_from (is_for_nets c) (is_for_nets d) (stored_nets V c h.0 k.0) (stored_nets V d h.1 k.1)
stored_nets V (conditions.Or' p c q d) h k =
    and_from (is_for_nets c) (is_for_nets d) (stored_nets V c h.0 k.0) (stored_nets V d h.1 k.1)

-- what a draft asks is for nets
abbrev Trivial : ℕ → Type 0
Trivial v = Unit {0}

record IsForNets (c : trees.Condition) : Type 0 where
  sets : ConditionHas Trivial AnySum NoSet c
  denies : DeniesNone c

abbrev AsksForNets : Draft → Type 0
AsksForNets d = IsForNets (condition_if d.condition)

-- operands that are no sets
no_set : (layout : Layout) (site : Site) (u : Use) → IsUsed site.setting u → uses_set site.setting u ≡ false
    → IsGoodUse Trivial NoSet layout site u
no_set layout site u used none =
    let same : is_set_meant site u.operand ≡ is_multiple site.setting.model used.c =
    ap (λ m. is_multiple site.setting.model (characteristic_in m)) used.means in
    let single : is_multiple site.setting.model used.c ≡ false
    = sym (ap (is_set site.setting.model) used.means) ∙ none in
    record {
      good = record { value = λ s. tt; set = λ s. let both : true ≡ false = sym s ∙ same ∙ single in cc };
      single = λ value. same ∙ single;
    }

all_no_set : (layout : Layout) (site : Site) (uses : List Use) → Each (IsUsed site.setting) uses
    → list_any (uses_set site.setting) uses ≡ false
    → Each (IsGoodUse Trivial NoSet layout site) uses
all_no_set layout site uses used none =
    each_more (λ u. IsUsed site.setting u × (uses_set site.setting u ≡ false)) (IsGoodUse Trivial NoSet layout site)
    (λ u h. no_set layout site u h.0 h.1) uses
    (each_both (IsUsed site.setting) (λ u. uses_set site.setting u ≡ false) uses used
    (each_false (uses_set site.setting) uses none))

-- a selection condition of a line that brings a component
selection_nets : (model : Model) (p : ℕ) (owner : Slot) (c : syntax.Condition)
    → fault_of model (line_place model owner true) (syntax.Selection c) ≡ None
    → IsForNets (condition_at (layout_of model) (site_at (layout_of model) p owner (at.Line true)) c)
selection_nets model p owner c h =
    let layout = layout_of model in
    let site = site_at (layout_of model) p owner (at.Line true) in
    let tree = syntax.Selection c in
    let sound = is_sound model (line_place model owner true) tree h in
    let parts
    = or_parts (list_any denies_specified (conditions_in tree)) (list_any (uses_set site.setting) (uses_in tree))
    sound.monotone in
    let good = (uses_by_condition (IsGoodUse Trivial NoSet layout site) tree
    (all_no_set layout site (uses_in tree) (all_used site.setting tree sound) parts.1)).0 in
    record {
      sets = condition_has Trivial AnySum NoSet layout site tt c good.0 good.1;
      denies = denies_none layout site c (or_parts (denies_specified c) false parts.0).0;
    }

slot_lines_net : (model : Model) → OfLines AsksForNets model
slot_lines_net model = record {
  always = λ i. record { sets = tt; denies = tt };
  asked = λ p owner i number a selected. selection_nets model p owner a.condition selected;
}

-- a constraint
abbrev IfDeniesNone : Option syntax.Condition → Type 0
IfDeniesNone None = Unit {0}
IfDeniesNone (Some c) = denies_specified c ≡ false

both_denies : (a b : Option syntax.Condition) → IfDeniesNone a → IfDeniesNone b → IfDeniesNone (both a b)
both_denies None b h k = k
both_denies (Some a) None h k = h
both_denies (Some a) (Some b) h k = or_from (denies_specified a) (denies_specified b) h k

without_denies : (c : syntax.Condition) → denies_specified c ≡ false → IfDeniesNone (without_parts c)
without_denies (syntax.And left right) h =
    let parts = or_parts (denies_specified left) (denies_specified right) h in
    both_denies (without_parts left) (without_parts right) (without_denies left parts.0) (without_denies right parts.1)
without_denies (syntax.PartOf part whole) h = tt
without_denies (syntax.Or left right) h = h
without_denies (syntax.Not condition) h = h
without_denies (syntax.Related relation) h = h
without_denies (syntax.Specified operand) h = h

asked_denies : (o : Option syntax.Condition) → Each (λ c. denies_specified c ≡ false) (if_there (λ c. c ∷ []) o)
    → IfDeniesNone (asked_of o)
asked_denies None h = tt
asked_denies (Some c) h = without_denies c h.0

own_denies : (o : Option syntax.Condition) → Each (λ c. denies_specified c ≡ false) (if_there (λ c. c ∷ []) o)
    → IfDeniesNone o
own_denies None h = tt
own_denies (Some c) h = h.0

for_nets : (layout : Layout) (site : Site) (o : Option syntax.Condition) → IfGood Trivial layout site o → IfDeniesNone o
    → IsForNets (condition_if (option_map (condition_at layout site) o))
for_nets layout site None h k = record { sets = tt; denies = tt }
for_nets layout site (Some c) h k = record {
  sets = condition_has Trivial AnySum NoSet layout site tt c h.0 h.1;
  denies = denies_none layout site c k;
}

net_nets : (model : Model) (d : ℕ) (constraint : syntax.Constraint) (tuple : List ℕ) (number : ℕ)
    (restriction : syntax.Restriction)
    → IsOfNet model d constraint tuple restriction
    → AsksForNets (restriction_draft (layout_of model) d constraint tuple number restriction)
net_nets model d constraint tuple number restriction of =
    let layout = layout_of model in
    let site = constraint_site (layout_of model) constraint tuple in
    let tree = syntax.Constrains constraint in
    let rs = constraint.restrictions in
    let sound = is_sound model in_net tree of.sound in
    let parts
    = or_parts (list_any denies_specified (conditions_in tree)) (list_any (uses_set site.setting) (uses_in tree))
    sound.monotone in
    let good = all_no_set layout site (uses_in tree) (all_used site.setting tree sound) parts.1 in
    let denies = each_false denies_specified (conditions_in tree) parts.0 in
    let conditions
    = each_split (AreGood Trivial layout site) (if_there (λ c. c ∷ []) constraint.condition)
    (flat_map condition_of_restriction rs)
    (uses_by_condition (IsGoodUse Trivial NoSet layout site) tree good) in
    let denied = each_split (λ c. denies_specified c ≡ false) (if_there (λ c. c ∷ []) constraint.condition)
    (flat_map condition_of_restriction rs) denies in
    let own = each_here (λ r. Each (AreGood Trivial layout site) (condition_of_restriction r)) rs of.place restriction
    (each_unflat (AreGood Trivial layout site) condition_of_restriction rs conditions.1) of.there in
    let own_denied
    = each_here (λ r. Each (λ c. denies_specified c ≡ false) (condition_of_restriction r)) rs of.place restriction
    (each_unflat (λ c. denies_specified c ≡ false) condition_of_restriction rs denied.1) of.there in
    for_nets layout site (both (asked_of constraint.condition) restriction.condition)
    (both_good Trivial layout site (asked_of constraint.condition) restriction.condition
    (asked_good Trivial layout site constraint.condition conditions.0)
    (own_good Trivial layout site restriction.condition own))
    (both_denies (asked_of constraint.condition) restriction.condition (asked_denies constraint.condition denied.0)
    (own_denies restriction.condition own_denied))

all_nets : (model : Model) → IsTyped model → Each AsksForNets (rule_drafts (layout_of model))
all_nets model sound =
    let layout = layout_of model in
    each_joined AsksForNets (constraints_drafts layout)
    (last_drafts layout ++ slot_drafts_from layout 0 layout.standings)
    (each_of_nets AsksForNets model sound (net_nets model))
    (each_joined AsksForNets (last_drafts layout) (slot_drafts_from layout 0 layout.standings)
    (each_last AsksForNets layout (λ v. record { sets = tt; denies = tt }))
    (slot_rules AsksForNets model sound (slot_lines_net model)))

nets_at : (model : Model) (tables : List VariantTable) (plan : Plan) → IsPlanOf model tables plan
    → (n : ℕ) (c : trees.Condition)
    → slice_get (conditions_of (drafts_of (layout_of model))) n ≡ Some c → IsForNets c → asks plan is_for_nets n ≡ true
nets_at model tables plan is n c e h =
    let found
    = made_from condition_of plan.conditions (conditions_of (drafts_of (layout_of model))) is.conditions n c e in
    ap (condition_passes is_for_nets) found.1
    ∙ stored_nets Trivial found.0 (subst (ConditionHas Trivial AnySum NoSet) (sym found.2) h.sets)
    (subst DeniesNone (sym found.2) h.denies)

pub has_nets : (model : Model) (tables : List VariantTable) (plan : Plan) → IsPlanOf model tables plan → IsTyped model
    → HasNets plan
has_nets model tables plan is sound =
    let drafts = drafts_of (layout_of model) in
    record {
      nets = each_passes (λ x. asks plan is_for_nets x.condition ≡ true) (λ x. asks plan is_for_nets x.condition)
          (λ x h. h) plan.rules
          (subst (Each (λ x. asks plan is_for_nets x.condition ≡ true)) (sym is.rules)
          (numbered_each rule_brings rule_from AsksForNets (λ x. asks plan is_for_nets x.condition ≡ true)
          (conditions_of drafts) (terms_of drafts)
          (λ c t d h cs ts. nets_at model tables plan is (number_for c d.condition) (condition_if d.condition)
          (condition_stands drafts c d.condition cs) h) 1 0 drafts.rules (all_nets model sound) (rule_conditions drafts)
          (rule_terms drafts)));
    }
