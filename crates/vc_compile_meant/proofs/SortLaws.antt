-- The sorts of a plan's variables and terms are those of the model's.
use Rattle.std.proofs.Common.{◌≡◌, ℕ, ◌+◌, Bool, true, false, not, ◌&&◌, ◌||◌, List, [], map, Some, None, refl, sym, ap}
use Rattle.std.proofs.Common.{◌∙◌, arith, subst}
use Rattle.std.specs.Prelude.{slice_get}
use Rattle.std.specs.List.{list_any}
use Rattle.std.proofs.lemmas.Bool.{and_from, or_parts}
use Rattle.vc_value.specs.declared.decimal.Dec.{Dec}
use Rattle.vc_model_parts.specs.Headers.{domain_of}
use Rattle.vc_model_parts.specs.declared.parts.Model.{Model}
use Rattle.vc_model_parts.specs.declared.parts.Values.{Values}
use Rattle.vc_model_parts.specs.declared.parts.Values.TheVariants as values
use Rattle.vc_plan.specs.Domains as domains
use Rattle.vc_plan.specs.Typing as typing
use Rattle.vc_plan.specs.Typing.{has_numbers, has_texts, is_number_var, is_numeric}
use Rattle.vc_plan.specs.Valid.{means, term_passes}
use Rattle.vc_plan.specs.declared.plans.Plan.{Plan}
use Rattle.vc_plan.specs.declared.plans.Slot.{Slot}
use Rattle.vc_plan.specs.declared.plans.Var.{Var}
use Rattle.vc_plan.specs.declared.terms.Term.{Term as StoredTerm}
use Rattle.vc_plan.specs.declared.terms.Term.TheVariants as terms
use Rattle.vc_syntax_tree.specs.declared.Operand.{Operand as Name}
use Rattle.vc_syntax_tree.specs.Trees as syntax
use Rattle.vc_syntax_tree.specs.Trees.{Term, Number, Text, Operand, Negated, Combined, Applied, SumOfParts}
use Rattle.vc_syntax_tree.specs.Trees.{CountOfParts, Counts}
use Rattle.vc_table.specs.declared.table.VariantTable.{VariantTable}
use Rattle.vc_types.specs.Faults.{fault_of}
use Rattle.vc_types.specs.NameFaults.{objects_in, some_operand}
use Rattle.vc_types.specs.Occurrences.{as_value, calls_in, operands_of, parted_names, relations_in, summed_names}
use Rattle.vc_types.specs.Occurrences.{terms_in, uses_in}
use Rattle.vc_types.specs.Settings.{Setting, is_constraint, meaning, sort_in, sort_meant, sort_of_characteristic}
use Rattle.vc_types.specs.Settings.{sort_of_values}
use Rattle.vc_types.specs.SortFaults.{acts_or_counts_wrongly, calls_wrongly, computes_with_text, declares_set}
use Rattle.vc_types.specs.SortFaults.{is_number, is_other_variable, is_text, misuses_set, parts_a_value}
use Rattle.vc_types.specs.SortFaults.{relates_wrongly, sort_of, sums_texts}
use Rattle.vc_types.specs.declared.meaning.Meaning.TheVariants as meanings
use Rattle.vc_types.specs.declared.place.At.{At}
use Rattle.vc_types.specs.declared.place.At.TheVariants as at
use Rattle.vc_compile_plan.specs.Cuts.{all_marks, cut_domain, cuts_at}
use Rattle.vc_compile_plan.specs.Layouts.{layout_of}
use Rattle.vc_compile_plan.specs.Numbering.{conditions_of, drafts_of, item_brings, line_from, line_terms_begin}
use Rattle.vc_compile_plan.specs.Numbering.{lines_begin, operation_from, operation_terms_begin, operations_begin}
use Rattle.vc_compile_plan.specs.Numbering.{terms_of}
use Rattle.vc_compile_plan.specs.PlanOf.{IsPlanOf}
use Rattle.vc_compile_plan.specs.Places.{place_at, site_at}
use Rattle.vc_compile_plan.specs.Shown.{ItemDraft, is_configurable, line_at, line_drafts, operation_at}
use Rattle.vc_compile_plan.specs.Shown.{operation_drafts, operations_in}
use Rattle.vc_compile_plan.specs.Sites.{Site, var_meant}
use Rattle.vc_compile_plan.specs.Slots.{bill_of, slots_of}
use Rattle.vc_compile_plan.specs.Terms.{minus, minus_literal, term_at}
use Rattle.vc_compile_plan.specs.Trees as trees
use Rattle.vc_compile_valid.specs.Domains.{HasLists}
use Rattle.vc_compile_valid.proofs.DomainLaws as listed
use Rattle.vc_compile_valid.proofs.EachLaws.{Each, each_by_slot, each_mapped, each_more, each_passes}
use Rattle.vc_compile_valid.proofs.EntryLaws.{each_unmapped}
use Rattle.vc_compile_valid.proofs.ListLaws.{made_from}
use Rattle.vc_compile_valid.proofs.NumberingLaws.{line_conditions, line_terms, numbered_each, operation_conditions}
use Rattle.vc_compile_valid.proofs.NumberingLaws.{operation_terms}
use Rattle.vc_compile_valid.proofs.PlacedLaws.{stand_first}
use Rattle.vc_compile_meant.specs.Scopes.{IsTyped}
use Rattle.vc_compile_meant.specs.Sorts.{HasAmounts}
use Rattle.vc_compile_meant.proofs.FaultLaws.{IsSound, IsUsed, all_used, each_split, is_sound}
use Rattle.vc_compile_meant.proofs.MeaningLaws.{meant_at, var_is}
use Rattle.vc_compile_meant.proofs.SoundLaws.{IsSoundLine, IsSoundOperation, sound_at}
use Rattle.vc_compile_meant.proofs.TreeLaws.{uses_by_term}

-- a variable of the plan that an operand means
pub record IsRead (model : Model) (plan : Plan) (site : Site) (operand : Name) : Type 0 where
  pub x : Var
  pub there : slice_get plan.vars (var_meant (layout_of model) site operand) ≡ Some x
  pub means : meaning site.setting operand ≡ meanings.Characteristic x.characteristic

pub read_at : (model : Model) (tables : List VariantTable) (plan : Plan) → IsPlanOf model tables plan
    → (i : ℕ) (slot : Slot)
    → slice_get (slots_of model) i ≡ Some slot → (at : At) → is_constraint at ≡ false → (operand : Name)
    → IsUsed (site_at (layout_of model) i slot at).setting (as_value operand)
    → IsRead model plan (site_at (layout_of model) i slot at) operand
read_at model tables plan is i slot there at place operand used =
    let site = site_at (layout_of model) i slot at in
    let meant = meant_at model i slot there at place operand used.c used.means in
    let found = var_is model site operand used.c used.means meant.meant (used.single refl) in
    record {
      x = found.0;
      there = ap (λ xs. slice_get xs (var_meant (layout_of model) site operand)) is.vars ∙ found.1;
      means = used.means ∙ ap meanings.Characteristic (sym found.3);
    }

-- the sort of a variable's domain is that of its characteristic
numbers_same : (numbers : List Dec) (v : Values)
    → has_numbers (Some (cut_domain numbers (domain_of v))) ≡ is_number (Some (sort_of_values v))
numbers_same numbers (values.Texts size multiple texts) = refl
numbers_same numbers (values.Numbers decimals unit grains) = refl

texts_same : (numbers : List Dec) (v : Values)
    → has_texts (Some (cut_domain numbers (domain_of v))) ≡ is_text (Some (sort_of_values v))
texts_same numbers (values.Texts size multiple texts) = refl
texts_same numbers (values.Numbers decimals unit grains) = refl

either : (v : Values) → is_text (Some (sort_of_values v)) ≡ not (is_number (Some (sort_of_values v)))
either (values.Texts size multiple texts) = refl
either (values.Numbers decimals unit grains) = refl

pub record HasSort (model : Model) (plan : Plan) (v : ℕ) (c : ℕ) : Type 0 where
  pub numbers : is_number_var plan v ≡ is_number (sort_of_characteristic model c)
  pub texts : typing.is_text_var plan v ≡ is_text (sort_of_characteristic model c)
  pub one : is_text (sort_of_characteristic model c) ≡ not (is_number (sort_of_characteristic model c))

pub var_sort : (model : Model) (tables : List VariantTable) (plan : Plan) → IsPlanOf model tables plan → HasLists plan
    → (v : ℕ) (x : Var)
    → slice_get plan.vars v ≡ Some x → HasSort model plan v x.characteristic
var_sort model tables plan is lists v x e =
    let var = listed.var_is model tables plan is lists v x e in
    let cuts = cuts_at (all_marks (layout_of model) tables) (0 + x.characteristic) in
    let sort : sort_of_characteristic model x.characteristic ≡ Some (sort_of_values var.known.x.values)
    = ap sort_in var.known.at in
    record {
      numbers = ap (λ o. has_numbers (domains.domain_of plan o)) e ∙ ap has_numbers var.domain
          ∙ numbers_same cuts var.known.x.values ∙ sym (ap is_number sort);
      texts = ap (λ o. has_texts (domains.domain_of plan o)) e ∙ ap has_texts var.domain
          ∙ texts_same cuts var.known.x.values ∙ sym (ap is_text sort);
      one = ap is_text sort ∙ either var.known.x.values ∙ sym (ap (λ s. not (is_number s)) sort);
    }

-- whether a tree is a number made of numbers
abbrev pub is_numeric_tree : Plan → trees.Term → Bool
is_numeric_tree plan (trees.Literal a) = typing.is_number a
is_numeric_tree plan (trees.Read v) = is_number_var plan v
is_numeric_tree plan (trees.PartSum slot c) = true
is_numeric_tree plan (trees.PartCount slot) = true
is_numeric_tree plan (trees.Applied function a) = is_numeric_tree plan a
is_numeric_tree plan (trees.Joined operator a b) = is_numeric_tree plan a && is_numeric_tree plan b

pub numeric_same : (plan : Plan) (t : StoredTerm) → is_numeric plan t ≡ is_numeric_tree plan (trees.term_of t)
numeric_same plan (terms.Literal a) = refl
numeric_same plan (terms.Read v) = refl
numeric_same plan (terms.PartSum slot c) = refl
numeric_same plan (terms.PartCount slot) = refl
numeric_same plan (terms.Applied' function p a) = numeric_same plan a
numeric_same plan (terms.Joined' operator p a q b) =
    ap (λ x. x && is_numeric plan b) (numeric_same plan a)
    ∙ ap (λ x. is_numeric_tree plan (trees.term_of a) && x) (numeric_same plan b)

-- a term that is no text, and computes with none, is one
minus_numeric : (plan : Plan) (t : Term) (compiled : trees.Term) → is_numeric_tree plan compiled ≡ true
    → is_numeric_tree plan (minus (minus_literal t) compiled) ≡ true
minus_numeric plan (Number leaf) compiled h = refl
minus_numeric plan (Text leaf) compiled h = h
minus_numeric plan (Operand operand) compiled h = h
minus_numeric plan (Negated t) compiled h = h
minus_numeric plan (Combined left operator right) compiled h = h
minus_numeric plan (Applied function t) compiled h = h
minus_numeric plan (SumOfParts name) compiled h = h
minus_numeric plan CountOfParts compiled h = h

not_text : (a b : Bool) → a ≡ not b → a ≡ false → b ≡ true
not_text a true e f = refl
not_text a false e f = absurd (let both : true ≡ false = sym e ∙ f in cc)

pub numeric_term : (model : Model) (tables : List VariantTable) (plan : Plan) → IsPlanOf model tables plan
    → HasLists plan → (site : Site)
    → site.setting.model ≡ model → (t : Term) → is_text (sort_of site.setting t) ≡ false
    → computes_with_text site.setting t ≡ false
    → Each (IsRead model plan site) (operands_of t) → is_numeric_tree plan (term_at (layout_of model) site t) ≡ true
numeric_term model tables plan is lists site of (Number leaf) text computes reads = refl
numeric_term model tables plan is lists site of (Text leaf) text computes reads = absurd (cc)
numeric_term model tables plan is lists site of (Operand operand) text computes reads =
    let read = reads.0 in
    let sort = var_sort model tables plan is lists (var_meant (layout_of model) site operand) read.x read.there in
    sort.numbers
    ∙ not_text (is_text (sort_of_characteristic model read.x.characteristic))
    (is_number (sort_of_characteristic model read.x.characteristic))
    sort.one
    (sym (ap (λ m. is_text (sort_of_characteristic m read.x.characteristic)) of)
    ∙ sym (ap (λ m. is_text (sort_meant site.setting.model m)) read.means) ∙ text)
numeric_term model tables plan is lists site of (Negated t) text computes reads =
    let parts = or_parts (is_text (sort_of site.setting t)) (computes_with_text site.setting t) computes in
    minus_numeric plan t (term_at (layout_of model) site t)
    (numeric_term model tables plan is lists site of t parts.0 parts.1 reads)
numeric_term model tables plan is lists site of (Combined left operator right) text computes reads =
    let parts = or_parts (is_text (sort_of site.setting left) || is_text (sort_of site.setting right))
    (computes_with_text site.setting left || computes_with_text site.setting right) computes in
    let sorts = or_parts (is_text (sort_of site.setting left)) (is_text (sort_of site.setting right)) parts.0 in
    let more = or_parts (computes_with_text site.setting left) (computes_with_text site.setting right) parts.1 in
    let both = each_split (IsRead model plan site) (operands_of left) (operands_of right) reads in
    and_from (is_numeric_tree plan (term_at (layout_of model) site left))
    (is_numeric_tree plan (term_at (layout_of model) site right))
    (numeric_term model tables plan is lists site of left sorts.0 more.0 both.0)
    (numeric_term model tables plan is lists site of right sorts.1 more.1 both.1)
numeric_term model tables plan is lists site of (Applied function t) text computes reads =
    let parts = or_parts (is_text (sort_of site.setting t)) (computes_with_text site.setting t) computes in
    numeric_term model tables plan is lists site of t parts.0 parts.1 reads
numeric_term model tables plan is lists site of (SumOfParts name) text computes reads = refl
numeric_term model tables plan is lists site of CountOfParts text computes reads = refl

-- no fault of kind, one by one
pub record HasRightKinds (setting : Setting) (tree : syntax.Dependency) : Type 0 where
  pub relations : list_any (relates_wrongly setting) (relations_in tree) ≡ false
  pub terms : list_any (computes_with_text setting) (terms_in tree) ≡ false
  pub acts : acts_or_counts_wrongly setting tree ≡ false
  pub calls : list_any (calls_wrongly setting) (calls_in tree) ≡ false

pub right_kinds : (setting : Setting) (tree : syntax.Dependency) → IsSound setting tree → HasRightKinds setting tree
right_kinds setting tree sound =
    let first
    = list_any (relates_wrongly setting) (relations_in tree)
    || list_any (computes_with_text setting) (terms_in tree) in
    let second = acts_or_counts_wrongly setting tree || list_any (calls_wrongly setting) (calls_in tree) in
    let rest = (some_operand is_other_variable setting tree || list_any (parts_a_value setting) (parted_names tree))
    || ((list_any (misuses_set setting) (uses_in tree) || list_any (declares_set setting) (objects_in tree))
    || list_any (sums_texts setting) (summed_names tree)) in
    let all = or_parts (first || second) rest sound.kinds in
    let two = or_parts first second all.0 in
    let one
    = or_parts (list_any (relates_wrongly setting) (relations_in tree))
    (list_any (computes_with_text setting) (terms_in tree)) two.0 in
    let other
    = or_parts (acts_or_counts_wrongly setting tree) (list_any (calls_wrongly setting) (calls_in tree)) two.1 in
    record { relations = one.0; terms = one.1; acts = other.0; calls = other.1 }

-- a quantity and a time
counted : (model : Model) (tables : List VariantTable) (plan : Plan) → IsPlanOf model tables plan → HasLists plan
    → (i : ℕ) (slot : Slot)
    → slice_get (slots_of model) i ≡ Some slot → (at : At) → is_constraint at ≡ false → (t : Term)
    → fault_of model (place_at (layout_of model) slot at) (Counts t) ≡ None
    → is_numeric_tree plan (term_at (layout_of model) (site_at (layout_of model) i slot at) t) ≡ true
counted model tables plan is lists i slot there at place t h =
    let site = site_at (layout_of model) i slot at in
    let sound = is_sound model (place_at (layout_of model) slot at) (Counts t) h in
    let kinds = right_kinds site.setting (Counts t) sound in
    let used = (uses_by_term (IsUsed site.setting) (Counts t) (all_used site.setting (Counts t) sound)).0 in
    numeric_term model tables plan is lists site refl t kinds.acts
    (or_parts (computes_with_text site.setting t) false kinds.terms).0
    (each_more (λ o. IsUsed site.setting (as_value o)) (IsRead model plan site)
    (read_at model tables plan is i slot there at place)
    (operands_of t) (each_unmapped (IsUsed site.setting) as_value (operands_of t) used))

abbrev IsAmount : Plan → ItemDraft → Type 0
IsAmount plan d = is_numeric_tree plan d.term ≡ true

no_front : (m : ℕ) → m ≡ 0 + m
no_front m = omega arith

line_amounts : (model : Model) (tables : List VariantTable) (plan : Plan) → IsPlanOf model tables plan → HasLists plan
    → IsTyped model
    → Each (IsAmount plan) (line_drafts (layout_of model))
line_amounts model tables plan is lists sound =
    each_by_slot (IsAmount plan) (λ i slot. map (line_at (layout_of model) i slot) (bill_of model slot.object)) 0
    (slots_of model)
    (λ k slot e. each_mapped (IsAmount plan) (line_at (layout_of model) (0 + k) slot) (bill_of model slot.object)
    (each_more (IsSoundLine model slot) (λ item. IsAmount plan (line_at (layout_of model) (0 + k) slot item))
    (λ item h. counted model tables plan is lists (0 + k) slot
    (subst (λ m. slice_get (slots_of model) m ≡ Some slot) (no_front k) e)
    (at.Line (is_configurable item.component)) refl (syntax.term_of item.quantity.value) h.quantity)
    (bill_of model slot.object) (sound_at model sound k slot e).lines))

operation_amounts : (model : Model) (tables : List VariantTable) (plan : Plan) → IsPlanOf model tables plan
    → HasLists plan → IsTyped model
    → Each (IsAmount plan) (operation_drafts (layout_of model))
operation_amounts model tables plan is lists sound =
    each_by_slot (IsAmount plan)
    (λ i slot. map (operation_at (layout_of model) i slot) (operations_in (slice_get model.objects slot.object))) 0
    (slots_of model)
    (λ k slot e. each_mapped (IsAmount plan) (operation_at (layout_of model) (0 + k) slot)
    (operations_in (slice_get model.objects slot.object))
    (each_more (IsSoundOperation model slot) (λ x. IsAmount plan (operation_at (layout_of model) (0 + k) slot x))
    (λ x h. counted model tables plan is lists (0 + k) slot
    (subst (λ m. slice_get (slots_of model) m ≡ Some slot) (no_front k) e)
    at.Operation refl (syntax.term_of x.time.value) h.time)
    (operations_in (slice_get model.objects slot.object)) (sound_at model sound k slot e).operations))

numeric_at : (model : Model) (tables : List VariantTable) (plan : Plan) → IsPlanOf model tables plan
    → (n : ℕ) (t : trees.Term)
    → slice_get (terms_of (drafts_of (layout_of model))) n ≡ Some t → is_numeric_tree plan t ≡ true
    → means plan (is_numeric plan) n ≡ true
numeric_at model tables plan is n t e h =
    let found = made_from trees.term_of plan.terms (terms_of (drafts_of (layout_of model))) is.terms n t e in
    ap (term_passes (is_numeric plan)) found.1 ∙ numeric_same plan found.0 ∙ ap (is_numeric_tree plan) found.2 ∙ h

pub has_amounts : (model : Model) (tables : List VariantTable) (plan : Plan) → IsPlanOf model tables plan
    → HasLists plan → IsTyped model
    → HasAmounts plan
has_amounts model tables plan is lists sound =
    let drafts = drafts_of (layout_of model) in
    record {
      quantities = each_passes (λ x. means plan (is_numeric plan) x.quantity ≡ true)
          (λ x. means plan (is_numeric plan) x.quantity) (λ x h. h)
          plan.lines
          (subst (Each (λ x. means plan (is_numeric plan) x.quantity ≡ true)) (sym is.lines)
          (numbered_each item_brings line_from (IsAmount plan) (λ x. means plan (is_numeric plan) x.quantity ≡ true)
          (conditions_of drafts)
          (terms_of drafts) (λ c t d h cs ts. numeric_at model tables plan is t d.term
          (stand_first (terms_of drafts) t d.term [] ts) h)
          (lines_begin drafts) (line_terms_begin drafts) drafts.lines (line_amounts model tables plan is lists sound)
          (line_conditions drafts) (line_terms drafts)));
      times = each_passes (λ x. means plan (is_numeric plan) x.time ≡ true) (λ x. means plan (is_numeric plan) x.time)
          (λ x h. h)
          plan.operations
          (subst (Each (λ x. means plan (is_numeric plan) x.time ≡ true)) (sym is.operations)
          (numbered_each item_brings operation_from (IsAmount plan) (λ x. means plan (is_numeric plan) x.time ≡ true)
          (conditions_of drafts)
          (terms_of drafts) (λ c t d h cs ts. numeric_at model tables plan is t d.term
          (stand_first (terms_of drafts) t d.term [] ts) h)
          (operations_begin drafts) (operation_terms_begin drafts) drafts.operations
          (operation_amounts model tables plan is lists sound)
          (operation_conditions drafts) (operation_terms drafts)));
    }
