-- Where a dependency stands without a fault all that it names is there.
use Rattle.std.proofs.Common.{◌≡◌, ℕ, ◌⊎◌, inl, inr, Bool, true, false, not, ◌&&◌, ◌||◌, nat_lt, List, ◌++◌, length}
use Rattle.std.proofs.Common.{map, flat_map, Option, Some, None, refl, sym, ap, ◌∙◌, subst}
use Rattle.std.specs.Prelude.{is_some, slice_get}
use Rattle.std.specs.List.{list_all, list_any, position_or_len}
use Rattle.std.specs.Str.{bytes_eq}
use Rattle.std.proofs.lemmas.Bool.{and_parts, lt-ltb, or_left, or_parts}
use Rattle.std.proofs.lemmas.Option.{cond_some, slice_get_within}
use Rattle.vc_model_parts.specs.declared.parts.Characteristic.{Characteristic}
use Rattle.vc_model_parts.specs.declared.parts.Model.{Model}
use Rattle.vc_model_parts.specs.declared.parts.Values.{Values}
use Rattle.vc_model_parts.specs.declared.parts.Values.TheVariants as listed_values
use Rattle.vc_plan.specs.Ranges.{is_of}
use Rattle.vc_plan.specs.declared.plans.Plan.{Plan}
use Rattle.vc_plan.specs.declared.plans.Slot.{Slot}
use Rattle.vc_syntax_tree.specs.declared.Item.{Item}
use Rattle.vc_syntax_tree.specs.declared.Item.TheVariants as items
use Rattle.vc_syntax_tree.specs.declared.NameLeaf.{NameLeaf}
use Rattle.vc_syntax_tree.specs.declared.Operand.{Operand as Name}
use Rattle.vc_syntax_tree.specs.declared.Relator.{Relator}
use Rattle.vc_syntax_tree.specs.Trees as syntax
use Rattle.vc_syntax_tree.specs.Trees.{Term, Number, Text, Operand, Negated, Combined, Applied, SumOfParts}
use Rattle.vc_syntax_tree.specs.Trees.{CountOfParts}
use Rattle.vc_syntax_tree.specs.Trees.{Relation, Compared, Within}
use Rattle.vc_table.specs.declared.table.VariantTable.{VariantTable}
use Rattle.vc_types.specs.Looking.{characteristic_named, member_in, member_of}
use Rattle.vc_types.specs.NameFaults.{is_of_no_part}
use Rattle.vc_types.specs.Occurrences.{Use, as_set, as_value, asks_sum, calls_in, conditions_in, demanded_relations}
use Rattle.vc_types.specs.Occurrences.{is_equality, is_literal, own_terms, relations_in, relations_of, sides_of}
use Rattle.vc_types.specs.Occurrences.{specified_in, summed_in, summed_names, terms_in, uses_in, uses_of_left}
use Rattle.vc_types.specs.Occurrences.{uses_of_relation, uses_of_term, values_in}
use Rattle.vc_types.specs.PlaceFaults.{denies_specified, is_procedure, uses_set}
use Rattle.vc_types.specs.Settings.{Setting, component_classes, has_instance, is_multiple, are_multiple, is_set}
use Rattle.vc_types.specs.Settings.{meaning, multiple_in, sort_in, sort_meant, sort_of_characteristic, sort_of_values}
use Rattle.vc_types.specs.SortFaults.{computes_with_text, differ, is_text, relates_wrongly, sort_of, sort_of_item}
use Rattle.vc_types.specs.SortFaults.{sums_texts}
use Rattle.vc_types.specs.declared.meaning.Meaning.TheVariants as meanings
use Rattle.vc_types.specs.declared.meaning.Sort.TheVariants.{Texts as of_texts}
use Rattle.vc_types.specs.declared.place.At.{At}
use Rattle.vc_compile_plan.specs.Conditions.{condition_at, piece_of, text_in, text_in_piece}
use Rattle.vc_compile_plan.specs.Layouts.{layout_of}
use Rattle.vc_compile_plan.specs.PlanOf.{IsPlanOf}
use Rattle.vc_compile_plan.specs.Places.{site_at}
use Rattle.vc_compile_plan.specs.Rules.{constraint_site}
use Rattle.vc_compile_plan.specs.Sites.{Site, characteristic_in, is_set_meant, number_or_zero, set_meant, var_meant}
use Rattle.vc_compile_plan.specs.Slots.{slots_of}
use Rattle.vc_compile_plan.specs.Terms.{literal_of, lone_of, term_at}
use Rattle.vc_compile_plan.specs.Texts.{texts_in_item, texts_in_term, texts_of}
use Rattle.vc_compile_plan.specs.Tuples.{are_different, are_of_kinds, are_parts_met}
use Rattle.vc_compile_plan.specs.Uses.{is_active, stands_somewhere}
use Rattle.vc_compile_valid.proofs.EachLaws.{Each, each_both, each_flat, each_more, each_tested}
use Rattle.vc_compile_valid.proofs.ListLaws.{some_there}
use Rattle.vc_compile_meant.proofs.FaultLaws.{IsSound, IsUsed, all_used, each_false, each_split, each_unflat}
use Rattle.vc_compile_meant.proofs.MeaningLaws.{IsMeant, meant_at, set_is, var_is}
use Rattle.vc_compile_meant.proofs.NetLaws.{meant_in}
use Rattle.vc_compile_meant.proofs.SortLaws.{right_kinds}
use Rattle.vc_compile_meant.proofs.TreeLaws.{IsGoodUse, TermHas, condition_has, left_uses, lone_good, used_term_has}
use Rattle.vc_compile_meant.proofs.TreeLaws.{uses_by_condition, uses_by_demand, uses_by_term}
use Rattle.vc_compile_origins.proofs.Origins.{IsTreeOf, StandsAt, StandsIn}
use Rattle.vc_compile_origins.proofs.StandingLaws.{tree_passes}
use Rattle.vc_compile_origins.proofs.SiteLaws.{slot_sound, tuple_sound}
use Rattle.vc_compile_origins.proofs.SumLaws.{no_sums, not_of_parts}
use Rattle.vc_compile_ranges.specs.Numbers.{KeepsNumbers, has_stored_numbers, is_stored_item, listed_in, stores_numbers}
use Rattle.vc_compile_ranges.proofs.LiteralLaws.{no_texts, texts_by_item, texts_by_term}
use Rattle.vc_compile_ranges.proofs.SaidLaws.{ConditionNames, HasSet, HasSlot, HasVar, IsSaid, IsSaidItem}
use Rattle.vc_compile_ranges.proofs.SaidLaws.{IsSaidRelation, IsSummed, SetSaid, TermNames, condition_says, term_says}
use Rattle.vc_compile_ranges.proofs.SaidLaws.{text_there}
use Rattle.vc_compile_ranges.proofs.TextLaws.{IsNumbered, texts_numbered}

-- a characteristic with sets has texts
texts_of_set : (model : Model) (c : ℕ) → is_multiple model c ≡ true → sort_of_characteristic model c ≡ Some of_texts
texts_of_set model c h = by (slice_get model.characteristics c) h
  where
    of : (v : Values) → are_multiple v ≡ true → Some (sort_of_values v) ≡ Some of_texts
    of (listed_values.Texts size multiple listed) e = refl
    of (listed_values.Numbers decimals unit listed) e = absurd (cc)

    by : (o : Option Characteristic) → multiple_in o ≡ true → sort_in o ≡ Some of_texts
    by None e = absurd (cc)
    by (Some x) e = of x.values e

-- the sort of an operand that is a set
set_sort : (setting : Setting) (operand : Name) (c : ℕ) → meaning setting operand ≡ meanings.Characteristic c
    → is_multiple setting.model c ≡ true → sort_meant setting.model (meaning setting operand) ≡ Some of_texts
set_sort setting operand c means multiple = ap (sort_meant setting.model) means ∙ texts_of_set setting.model c multiple

set_meant_is : (site : Site) (operand : Name) (c : ℕ) → meaning site.setting operand ≡ meanings.Characteristic c
    → is_set_meant site operand ≡ is_multiple site.setting.model c
set_meant_is site operand c means = ap (λ m. is_multiple site.setting.model (characteristic_in m)) means

-- the first use of a relation's left side
lone_used : (P : Use → Type 0) (b : Bool) (operand : Name) → Each P (uses_of_left b (Operand operand))
    → (b ≡ true) × P (as_set operand) ⊎ P (as_value operand)
lone_used P true operand h = inl (refl, h.0)
lone_used P false operand h = inr h.0

-- what is there of a dependency at a site
pub record IsFit (model : Model) (plan : Plan) (site : Site) (tree : syntax.Dependency) : Type 0 where
  pub sound : IsSound site.setting tree
  pub good : Each (IsGoodUse (HasVar plan) (HasSet plan) (layout_of model) site) (uses_in tree)
  pub own : HasSlot plan site.own
  pub terms : Each (IsSaid model) (terms_in tree)
  pub items : Each (λ r. Each (IsSaidItem model) (listed_in r)) (relations_in tree)

module _ (model : Model) (tables : List VariantTable) (plan : Plan) (is : IsPlanOf model tables plan) where
  -- what is compared with a set is a text
  literal_text : (setting : Setting) (right : Term) → is_literal right ≡ true
      → differ (Some of_texts) (sort_of setting right) ≡ false
      → IsSaid model right → is_of plan.texts (text_in (literal_of (texts_of model) right)) ≡ true
  literal_text setting (Text leaf) literal same said = text_there model tables plan is leaf.text said.texts.0
  literal_text setting (Number leaf) literal same said = absurd (cc)
  literal_text setting (Negated (Number leaf)) literal same said = absurd (cc)
  literal_text setting (Negated (Text leaf)) literal same said = absurd (cc)
  literal_text setting (Negated (Operand operand)) literal same said = absurd (cc)
  literal_text setting (Negated (Negated t)) literal same said = absurd (cc)
  literal_text setting (Negated (Combined left operator right)) literal same said = absurd (cc)
  literal_text setting (Negated (Applied function t)) literal same said = absurd (cc)
  literal_text setting (Negated (SumOfParts name)) literal same said = absurd (cc)
  literal_text setting (Negated CountOfParts) literal same said = absurd (cc)
  literal_text setting (Operand operand) literal same said = absurd (cc)
  literal_text setting (Combined left operator right) literal same said = absurd (cc)
  literal_text setting (Applied function t) literal same said = absurd (cc)
  literal_text setting (SumOfParts name) literal same said = absurd (cc)
  literal_text setting CountOfParts literal same said = absurd (cc)

  item_text : (item : Item) → differ (Some of_texts) (sort_of_item item) ≡ false → IsSaidItem model item
      → is_of plan.texts (text_in_piece (piece_of (texts_of model) item)) ≡ true
  item_text (items.Text leaf) same said = text_there model tables plan is leaf.text said.texts.0
  item_text (items.Number number) same said = absurd (cc)
  item_text (items.Interval low high) same said = absurd (cc)

  and_right_is : (a b : Bool) → (a && b) ≡ true → b ≡ true
  and_right_is a b h = (and_parts a b h).1

  compared_set : (site : Site) (left : Term) (relator : Relator) (right : Term)
      → Each (IsUsed site.setting) (uses_of_left (is_equality relator && is_literal right) left)
      → differ (sort_of site.setting left) (sort_of site.setting right) ≡ false → IsSaid model right → (operand : Name)
      → lone_of left ≡ Some operand → is_set_meant site operand ≡ true
      → is_of plan.texts (text_in (literal_of (texts_of model) right)) ≡ true
  compared_set site (Number leaf) relator right used same said operand lone set = absurd (cc)
  compared_set site (Text leaf) relator right used same said operand lone set = absurd (cc)
  compared_set site (Negated t) relator right used same said operand lone set = absurd (cc)
  compared_set site (Combined a operator b) relator right used same said operand lone set = absurd (cc)
  compared_set site (Applied function t) relator right used same said operand lone set = absurd (cc)
  compared_set site (SumOfParts name) relator right used same said operand lone set = absurd (cc)
  compared_set site CountOfParts relator right used same said operand lone set = absurd (cc)
  compared_set site (Operand o) relator right used same said operand lone set =
      let one : operand ≡ o = cc in
      by (lone_used (IsUsed site.setting) (is_equality relator && is_literal right) o used)
      (ap (is_set_meant site) (sym one) ∙ set)
    where
      by : ((is_equality relator && is_literal right) ≡ true) × IsUsed site.setting (as_set o) ⊎ IsUsed site.setting
          (as_value o)
          → is_set_meant site o ≡ true → is_of plan.texts (text_in (literal_of (texts_of model) right)) ≡ true
      by (inr used) set = absurd (let both : true ≡ false = sym set ∙ set_meant_is site o used.c used.means
          ∙ used.single refl in cc)
      by (inl (literal, used)) set =
          literal_text site.setting right (and_right_is (is_equality relator) (is_literal right) literal)
          (sym (ap (λ s. differ s (sort_of site.setting right))
          (set_sort site.setting o used.c used.means (sym (set_meant_is site o used.c used.means) ∙ set))) ∙ same) said

  sets_said : (site : Site) (r : Relation) → Each (IsUsed site.setting) (uses_of_relation r)
      → relates_wrongly site.setting r ≡ false
      → Each (IsSaid model) (sides_of r) → Each (IsSaidItem model) (listed_in r) → SetSaid model tables plan is site r
  sets_said site (Compared left relator right) used right_kind sides items =
      let uses = each_split (IsUsed site.setting) (uses_of_left (is_equality relator && is_literal right) left)
      (uses_of_term right) used in
      let same = or_parts (differ (sort_of site.setting left) (sort_of site.setting right))
      (not (is_equality relator) && (is_text (sort_of site.setting left) || is_text
      (sort_of site.setting right))) right_kind in
      compared_set site left relator right uses.0 same.0 sides.1.0
  sets_said site (Within operand listed) used right_kind sides items = λ set.
      let first = used.0 in
      let sort = set_sort site.setting operand first.c first.means
      (sym (set_meant_is site operand first.c first.means) ∙ set) in
      each_more (λ item. (differ (sort_meant site.setting.model (meaning site.setting operand))
      (sort_of_item item) ≡ false) × IsSaidItem model item)
      (λ item. is_of plan.texts (text_in_piece (piece_of (texts_of model) item)) ≡ true)
      (λ item h. item_text item (sym (ap (λ s. differ s (sort_of_item item)) sort) ∙ h.0) h.1) listed
      (each_both (λ item. differ (sort_meant site.setting.model (meaning site.setting operand))
      (sort_of_item item) ≡ false)
      (IsSaidItem model) listed
      (each_false (λ item. differ (sort_meant site.setting.model (meaning site.setting operand))
      (sort_of_item item)) listed right_kind) items)

  -- so its conditions name what is there
  relations_said : (site : Site) (tree : syntax.Dependency) → IsFit model plan site tree
      → Each (IsSaidRelation model tables plan is site) (relations_in tree)
  relations_said site tree fit =
      let Used : Relation → Type 0 = λ r. Each (IsUsed site.setting) (uses_of_relation r) in
      let Right : Relation → Type 0 = λ r. relates_wrongly site.setting r ≡ false in
      let Sides : Relation → Type 0 = λ r. Each (IsSaid model) (sides_of r) in
      let Items : Relation → Type 0 = λ r. Each (IsSaidItem model) (listed_in r) in
      let used = each_split (IsUsed site.setting) (flat_map uses_of_relation (relations_in tree) ++ map as_set
      (flat_map specified_in (conditions_in tree)))
      _ (all_used site.setting tree fit.sound) in
      let relations = each_unflat (IsUsed site.setting) uses_of_relation (relations_in tree)
      (each_split (IsUsed site.setting) (flat_map uses_of_relation (relations_in tree))
      (map as_set (flat_map specified_in (conditions_in tree))) used.0).0 in
      let kinds = each_false (relates_wrongly site.setting) (relations_in tree)
      (right_kinds site.setting tree fit.sound).relations in
      let sides = each_unflat (IsSaid model) sides_of (relations_in tree)
      (each_split (IsSaid model) (flat_map sides_of (relations_in tree))
      (own_terms tree ++ flat_map values_in (calls_in tree)) fit.terms).0 in
      each_more (λ r. (Used r × Right r) × (Sides r × Items r)) (IsSaidRelation model tables plan is site)
      (λ r h. record { sides = h.1.0; items = h.1.1; sets = sets_said site r h.0.0 h.0.1 h.1.0 h.1.1 })
      (relations_in tree)
      (each_both (λ r. Used r × Right r) (λ r. Sides r × Items r) (relations_in tree)
      (each_both Used Right (relations_in tree) relations kinds)
      (each_both Sides Items (relations_in tree) sides fit.items))

  pub names_asked : (site : Site) (tree : syntax.Dependency) → IsFit model plan site tree
      → Each (λ c. ConditionNames plan (condition_at (layout_of model) site c)) (conditions_in tree)
  names_asked site tree fit =
      let Good : Use → Type 0 = IsGoodUse (HasVar plan) (HasSet plan) (layout_of model) site in
      let Uses : syntax.Condition → Type 0 = λ c. (Each (λ r. Each Good (uses_of_relation r)) (relations_of c))
      × (Each (λ o. Good (as_set o)) (specified_in c)) in
      let Said : syntax.Condition → Type 0 = λ c. Each (IsSaidRelation model tables plan is site) (relations_of c) in
      let said = each_unflat (IsSaidRelation model tables plan is site) relations_of (conditions_in tree)
      (each_split (IsSaidRelation model tables plan is site) (flat_map relations_of (conditions_in tree))
      (demanded_relations tree)
      (relations_said site tree fit)).0 in
      each_more (λ c. Uses c × Said c) (λ c. ConditionNames plan (condition_at (layout_of model) site c))
      (λ c h. (
        condition_has (HasVar plan) (HasSlot plan) (HasSet plan) (layout_of model) site fit.own c h.0.0 h.0.1,
        condition_says model tables plan is site c h.1,
      )) (conditions_in tree)
      (each_both Uses Said (conditions_in tree) (uses_by_condition Good tree fit.good) said)

  -- and so do its terms
  pub names_meant : (site : Site) (tree : syntax.Dependency) → IsFit model plan site tree
      → Each (λ t. TermNames plan (term_at (layout_of model) site t))
      (own_terms tree ++ flat_map values_in (calls_in tree))
  names_meant site tree fit =
      let terms = own_terms tree ++ flat_map values_in (calls_in tree) in
      let Good : Use → Type 0 = IsGoodUse (HasVar plan) (HasSet plan) (layout_of model) site in
      let Uses : Term → Type 0 = λ t. Each Good (uses_of_term t) in
      let said = (each_split (IsSaid model) (flat_map sides_of (relations_in tree)) terms fit.terms).1 in
      each_more (λ t. Uses t × IsSaid model t) (λ t. TermNames plan (term_at (layout_of model) site t))
      (λ t h. (
        used_term_has (HasVar plan) (HasSlot plan) (HasSet plan) (layout_of model) site fit.own t h.0,
        term_says model tables plan is site t h.1,
      )) terms
      (each_both Uses (IsSaid model) terms (uses_by_term Good tree fit.good) said)

  -- where no set stands both sides of a relation are terms
  left_has : (site : Site) → HasSlot plan site.own → (b : Bool) (t : Term)
      → Each (IsGoodUse (HasVar plan) (HasSet plan) (layout_of model) site) (uses_of_left b t)
      → Each (λ u. is_set_meant site u.operand ≡ false) (uses_of_left b t)
      → TermHas (HasVar plan) (HasSlot plan) (term_at (layout_of model) site t)
  left_has site own b (Operand operand) good single =
      (lone_good (HasVar plan) (HasSet plan) (layout_of model) site b operand good).value (of b single)
    where
      of : (b : Bool) → Each (λ u. is_set_meant site u.operand ≡ false) (uses_of_left b (Operand operand))
          → is_set_meant site operand ≡ false
      of true h = h.0
      of false h = h.0
  left_has site own b (Number leaf) good single = tt
  left_has site own b (Text leaf) good single = tt
  left_has site own b (Negated t) good single =
      used_term_has (HasVar plan) (HasSlot plan) (HasSet plan) (layout_of model) site own (Negated t)
      (left_uses (IsGoodUse (HasVar plan) (HasSet plan) (layout_of model) site) b (Negated t) refl good)
  left_has site own b (Combined x operator y) good single =
      used_term_has (HasVar plan) (HasSlot plan) (HasSet plan) (layout_of model) site own (Combined x operator y)
      (left_uses (IsGoodUse (HasVar plan) (HasSet plan) (layout_of model) site) b (Combined x operator y) refl good)
  left_has site own b (Applied function t) good single =
      used_term_has (HasVar plan) (HasSlot plan) (HasSet plan) (layout_of model) site own (Applied function t)
      (left_uses (IsGoodUse (HasVar plan) (HasSet plan) (layout_of model) site) b (Applied function t) refl good)
  left_has site own b (SumOfParts name) good single = own
  left_has site own b CountOfParts good single = own

  sides_have : (site : Site) → HasSlot plan site.own → (r : Relation)
      → Each (IsGoodUse (HasVar plan) (HasSet plan) (layout_of model) site) (uses_of_relation r)
      → Each (λ u. is_set_meant site u.operand ≡ false) (uses_of_relation r) → Each (IsSaid model) (sides_of r)
      → Each (λ t. TermNames plan (term_at (layout_of model) site t)) (sides_of r)
  sides_have site own (Within operand listed) good single said = tt
  sides_have site own (Compared left relator right) good single said =
      let b = is_equality relator && is_literal right in
      let uses = each_split (IsGoodUse (HasVar plan) (HasSet plan) (layout_of model) site) (uses_of_left b left)
      (uses_of_term right) good in
      let singles = each_split (λ u. is_set_meant site u.operand ≡ false) (uses_of_left b left)
      (uses_of_term right) single in (
        (left_has site own b left uses.0 singles.0, term_says model tables plan is site left said.0),
        (
          (
            used_term_has (HasVar plan) (HasSlot plan) (HasSet plan) (layout_of model) site own right uses.1,
            term_says model tables plan is site right said.1.0,
          ),
          tt,
        ),
      )

  pub names_demanded : (site : Site) (tree : syntax.Dependency) → IsFit model plan site tree
      → Each (λ u. is_set_meant site u.operand ≡ false) (uses_in tree)
      → Each (λ t. TermNames plan (term_at (layout_of model) site t)) (flat_map sides_of (demanded_relations tree))
  names_demanded site tree fit single =
      let Good : Relation → Type 0 = λ r. Each (IsGoodUse (HasVar plan) (HasSet plan) (layout_of model) site)
      (uses_of_relation r) in
      let Single : Relation → Type 0 = λ r. Each (λ u. is_set_meant site u.operand ≡ false) (uses_of_relation r) in
      let Said : Relation → Type 0 = λ r. Each (IsSaid model) (sides_of r) in
      let sides = each_unflat (IsSaid model) sides_of (relations_in tree)
      (each_split (IsSaid model) (flat_map sides_of (relations_in tree))
      (own_terms tree ++ flat_map values_in (calls_in tree)) fit.terms).0 in
      let said = (each_split Said (flat_map relations_of (conditions_in tree)) (demanded_relations tree) sides).1 in
      each_flat (λ t. TermNames plan (term_at (layout_of model) site t)) sides_of (demanded_relations tree)
      (each_more (λ r. Good r × (Single r × Said r))
      (λ r. Each (λ t. TermNames plan (term_at (layout_of model) site t)) (sides_of r))
      (λ r h. sides_have site fit.own r h.0 h.1.0 h.1.1) (demanded_relations tree)
      (each_both Good (λ r. Single r × Said r) (demanded_relations tree)
      (uses_by_demand (IsGoodUse (HasVar plan) (HasSet plan) (layout_of model) site) tree fit.good)
      (each_both Single Said (demanded_relations tree)
      (uses_by_demand (λ u. is_set_meant site u.operand ≡ false) tree single) said)))

  -- an operand that means a characteristic of a slot's class is a variable or a set that is there
  good_meant : (site : Site) → site.setting.model ≡ model → (u : Use) (used : IsUsed site.setting u)
      → IsMeant model site u.operand used.c
      → IsGoodUse (HasVar plan) (HasSet plan) (layout_of model) site u
  good_meant site of u used meant =
      let same : is_set_meant site u.operand ≡ is_multiple model used.c =
      set_meant_is site u.operand used.c used.means ∙ ap (λ m. is_multiple m used.c) of in
      record {
        good = record {
          value = λ single.
              let found = var_is model site u.operand used.c used.means meant (sym same ∙ single) in
              ap (λ xs. nat_lt (var_meant (layout_of model) site u.operand) (length xs)) is.vars
              ∙ lt-ltb (var_meant (layout_of model) site u.operand) (length (layout_of model).vars)
              (slice_get_within (layout_of model).vars (var_meant (layout_of model) site u.operand) found.0 found.1);
          set = λ multiple.
              let found = set_is model site u.operand used.c used.means meant (sym same ∙ multiple) in
              ap (λ xs. nat_lt (set_meant (layout_of model) site u.operand) (length xs)) is.sets
              ∙ lt-ltb (set_meant (layout_of model) site u.operand) (length (layout_of model).sets)
              (slice_get_within (layout_of model).sets (set_meant (layout_of model) site u.operand) found.0 found.1);
        };
        single = λ value. set_meant_is site u.operand used.c used.means ∙ used.single value;
      }

-- the texts of a tree of the model
counts_texts : (model : Model) (setting : Setting) (tree : syntax.Dependency) (t : Term) → tree ≡ syntax.Counts t
    → IsSound setting tree
    → Each (λ x. Each (IsNumbered model) (texts_in_term x)) (terms_in tree)
    × Each (λ r. Each (λ item. Each (IsNumbered model) (texts_in_item item)) (listed_in r)) (relations_in tree)
counts_texts model setting tree t counts sound =
    subst (λ x. IsSound setting x → Each (λ x. Each (IsNumbered model) (texts_in_term x)) (terms_in x)
    × Each (λ r. Each (λ item. Each (IsNumbered model) (texts_in_item item)) (listed_in r)) (relations_in x))
    (sym counts) of_term sound
  where
    of_term : IsSound setting (syntax.Counts t)
        → Each (λ x. Each (IsNumbered model) (texts_in_term x)) (terms_in (syntax.Counts t))
        × Each (λ r. Each (λ item. Each (IsNumbered model) (texts_in_item item)) (listed_in r))
        (relations_in (syntax.Counts t))
    of_term s =
        let kinds = right_kinds setting (syntax.Counts t) s in
        let computes = each_false (computes_with_text setting) (terms_in (syntax.Counts t)) kinds.terms in
        ((no_texts (IsNumbered model) setting t kinds.acts computes.0, tt), tt)

tree_texts : (model : Model) (setting : Setting) (tree : syntax.Dependency) → IsTreeOf model tree → IsSound setting tree
    → Each (λ x. Each (IsNumbered model) (texts_in_term x)) (terms_in tree)
    × Each (λ r. Each (λ item. Each (IsNumbered model) (texts_in_item item)) (listed_in r)) (relations_in tree)
tree_texts model setting tree (inl d) sound =
    let texts = texts_numbered model d.0 tree d.1 in
    (texts_by_term (IsNumbered model) tree texts, texts_by_item (IsNumbered model) tree texts)
tree_texts model setting tree (inr (inl q)) sound = counts_texts model setting tree
    (syntax.term_of q.item.quantity.value) q.counts sound
tree_texts model setting tree (inr (inr q)) sound = counts_texts model setting tree
    (syntax.term_of q.operation.time.value) q.counts sound

-- a part sum is of a characteristic that the model has
member_there : (model : Model) (name : NameLeaf) (class : ℕ) → is_some (member_of model name.name (Some class)) ≡ true
    → IsSummed model name
member_there model name class h = by (characteristic_named model name.name) refl h
  where
    count : ℕ
    count = length model.characteristics

    by : (o : Option ℕ) → characteristic_named model name.name ≡ o
        → is_some (member_in (slice_get model.classes class) o) ≡ true
        → nat_lt (number_or_zero (characteristic_named model name.name)) count ≡ true
    by None e k = absurd (cc)
    by (Some c) e k =
        let place = position_or_len (λ x. bytes_eq x.name name.name) model.characteristics in
        let parts = cond_some (nat_lt place count) place c e in
        ap (λ o. nat_lt (number_or_zero o) count) e ∙ ap (λ n. nat_lt n count) (sym parts.1) ∙ parts.0

part_there : (setting : Setting) (name : NameLeaf) → has_instance setting.place.at ≡ true
    → is_of_no_part setting name ≡ false
    → IsSummed setting.model name
part_there setting name instance h =
    let classes = component_classes setting in
    let none : not (list_any (λ class. is_some (member_of setting.model name.name (Some class))) classes) ≡ false =
    sym (ap (λ b. b && not (list_any (λ class. is_some
    (member_of setting.model name.name (Some class))) classes)) instance) ∙ h in
    by (list_any (λ class. is_some (member_of setting.model name.name (Some class))) classes) refl none
  where
    by : (b : Bool) → list_any (λ class. is_some (member_of setting.model name.name (Some class)))
        (component_classes setting) ≡ b
        → not b ≡ false → IsSummed setting.model name
    by true e k =
        let found = some_there (λ class. is_some (member_of setting.model name.name (Some class)))
        (component_classes setting) e in
        member_there setting.model name found.1 found.3
    by false e k = absurd (cc)

tree_sums : (setting : Setting) (tree : syntax.Dependency) → IsSound setting tree
    → (is_procedure tree ≡ true → has_instance setting.place.at ≡ true)
    → Each (λ t. Each (IsSummed setting.model) (summed_in t)) (terms_in tree)
tree_sums setting tree sound acts = each_unflat (IsSummed setting.model) summed_in (terms_in tree)
    (by (is_procedure tree) refl)
  where
    by : (b : Bool) → is_procedure tree ≡ b → Each (IsSummed setting.model) (summed_names tree)
    by true e =
        each_more (λ name. (is_of_no_part setting name ≡ false) × (sums_texts setting name ≡ false))
        (IsSummed setting.model)
        (λ name h. part_there setting name (acts e) h.0) (summed_names tree) (not_of_parts setting tree sound)
    by false e = no_sums (IsSummed setting.model) tree (sym (ap (λ b. not b && asks_sum tree) e) ∙ sound.sums)

-- all that is said in a tree of the model
record IsSaidTree (model : Model) (tree : syntax.Dependency) : Type 0 where
  terms : Each (IsSaid model) (terms_in tree)
  items : Each (λ r. Each (IsSaidItem model) (listed_in r)) (relations_in tree)

said_tree : (model : Model) (setting : Setting) (tree : syntax.Dependency) → setting.model ≡ model → KeepsNumbers model
    → IsTreeOf model tree
    → IsSound setting tree → (is_procedure tree ≡ true → has_instance setting.place.at ≡ true) → IsSaidTree model tree
said_tree model setting tree of keeps origin sound acts =
    let texts = tree_texts model setting tree origin sound in
    let numbers = and_parts (list_all stores_numbers (terms_in tree))
    (list_all is_stored_item (flat_map listed_in (relations_in tree)))
    (tree_passes has_stored_numbers model keeps tree origin) in
    let sums = subst (λ m. Each (λ t. Each (IsSummed m) (summed_in t)) (terms_in tree)) of
    (tree_sums setting tree sound acts) in
    let stored = each_unflat (λ item. is_stored_item item ≡ true) listed_in (relations_in tree)
    (each_tested is_stored_item (flat_map listed_in (relations_in tree)) numbers.1) in
    let Texts : Term → Type 0 = λ t. Each (IsNumbered model) (texts_in_term t) in
    let Sums : Term → Type 0 = λ t. Each (IsSummed model) (summed_in t) in
    let ItemTexts : Relation → Type 0 = λ r. Each (λ item. Each (IsNumbered model) (texts_in_item item))
    (listed_in r) in
    let Stored : Relation → Type 0 = λ r. Each (λ item. is_stored_item item ≡ true) (listed_in r) in
    record {
      terms = each_more (λ t. Texts t × ((stores_numbers t ≡ true) × Sums t)) (IsSaid model)
          (λ t h. record { texts = h.0; numbers = h.1.0; sums = h.1.1 }) (terms_in tree)
          (each_both Texts (λ t. (stores_numbers t ≡ true) × Sums t) (terms_in tree) texts.0
          (each_both (λ t. stores_numbers t ≡ true) Sums (terms_in tree)
          (each_tested stores_numbers (terms_in tree) numbers.0) sums));
      items = each_more (λ r. ItemTexts r × Stored r) (λ r. Each (IsSaidItem model) (listed_in r))
          (λ r h. each_more (λ item. Each (IsNumbered model) (texts_in_item item) × (is_stored_item item ≡ true))
          (IsSaidItem model)
          (λ item k. record { texts = k.0; numbers = k.1 }) (listed_in r)
          (each_both (λ item. Each (IsNumbered model) (texts_in_item item)) (λ item. is_stored_item item ≡ true)
          (listed_in r) h.0 h.1))
          (relations_in tree) (each_both ItemTexts Stored (relations_in tree) texts.1 stored);
    }

-- at a slot, and at a tuple
pub fit_at : (model : Model) (tables : List VariantTable) (plan : Plan) → IsPlanOf model tables plan
    → KeepsNumbers model → (i : ℕ)
    (slot : Slot) (at : At) (tree : syntax.Dependency) → StandsAt model i slot at tree → IsFit model plan
    (site_at (layout_of model) i slot at) tree
fit_at model tables plan is keeps i slot at tree stands =
    let site = site_at (layout_of model) i slot at in
    let sound = slot_sound model i slot at tree stands in
    let said = said_tree model (site_at (layout_of model) i slot at).setting tree refl keeps stands.origin sound
    (λ e. ap has_instance (stands.acts e)) in
    record {
      sound = sound;
      good = each_more (IsUsed (site_at (layout_of model) i slot at).setting)
          (IsGoodUse (HasVar plan) (HasSet plan) (layout_of model) (site_at (layout_of model) i slot at))
          (λ u used. good_meant model tables plan is (site_at (layout_of model) i slot at) refl u used
          (meant_at model i slot stands.there at stands.apart u.operand used.c used.means).meant) (uses_in tree)
          (all_used (site_at (layout_of model) i slot at).setting tree sound);
      own = ap (λ xs. nat_lt i (length xs)) is.slots
          ∙ lt-ltb i (length (slots_of model)) (slice_get_within (slots_of model) i slot stands.there);
      terms = said.terms;
      items = said.items;
    }

pub fit_in : (model : Model) (tables : List VariantTable) (plan : Plan) → IsPlanOf model tables plan
    → KeepsNumbers model
    → (constraint : syntax.Constraint) (tuple : List ℕ) → StandsIn model constraint tuple
    → IsFit model plan (constraint_site (layout_of model) constraint tuple) (syntax.Constrains constraint)
fit_in model tables plan is keeps constraint tuple stands =
    let layout = layout_of model in
    let tree = syntax.Constrains constraint in
    let sound = tuple_sound model constraint tuple stands in
    let said = said_tree model (constraint_site (layout_of model) constraint tuple).setting tree refl keeps
    (inl (
      stands.d,
      stands.tree,
      or_left (is_active layout stands.d)
          (stands_somewhere layout stands.d) stands.active,
    )) sound
    (λ e. absurd (cc)) in
    let root : (s : Slot) × (slice_get (slots_of model) 0 ≡ Some s) = (_, refl) in
    let parts = and_parts (are_of_kinds layout constraint.objects tuple && are_different tuple)
    (are_parts_met layout constraint.objects constraint.condition tuple) stands.matching in
    let kinds = and_parts (are_of_kinds layout constraint.objects tuple) (are_different tuple) parts.0 in
    record {
      sound = sound;
      good = each_more (IsUsed (constraint_site (layout_of model) constraint tuple).setting)
          (IsGoodUse (HasVar plan) (HasSet plan) (layout_of model) (constraint_site (layout_of model) constraint tuple))
          (λ u used. good_meant model tables plan is (constraint_site (layout_of model) constraint tuple) refl u used
          (meant_in model constraint tuple kinds.0 u.operand used.c used.means).meant) (uses_in tree)
          (all_used (constraint_site (layout_of model) constraint tuple).setting tree sound);
      own = ap (λ xs. nat_lt 0 (length xs)) is.slots
          ∙ lt-ltb 0 (length (slots_of model)) (slice_get_within (slots_of model) 0 root.0 root.1);
      terms = said.terms;
      items = said.items;
    }

-- no set stands in a constraint
pub no_sets_in : (model : Model) (constraint : syntax.Constraint) (tuple : List ℕ) → StandsIn model constraint tuple
    → Each (λ u. is_set_meant (constraint_site (layout_of model) constraint tuple) u.operand ≡ false)
    (uses_in (syntax.Constrains constraint))
no_sets_in model constraint tuple stands =
    let site = constraint_site (layout_of model) constraint tuple in
    let setting = (constraint_site (layout_of model) constraint tuple).setting in
    let tree = syntax.Constrains constraint in
    let sound = tuple_sound model constraint tuple stands in
    let sets = or_parts (list_any denies_specified (conditions_in tree))
    (list_any (uses_set setting) (uses_in tree)) sound.monotone in
    each_more (λ u. IsUsed setting u × (uses_set setting u ≡ false)) (λ u. is_set_meant site u.operand ≡ false)
    (λ u h. let used = h.0 in set_meant_is site u.operand used.c used.means ∙ sym (ap (is_set model) used.means) ∙ h.1)
    (uses_in tree)
    (each_both (IsUsed setting) (λ u. uses_set setting u ≡ false) (uses_in tree) (all_used setting tree sound)
    (each_false (uses_set setting) (uses_in tree) sets.1))
