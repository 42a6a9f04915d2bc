-- The variables and sets of a plan, slot by slot, are those of its objects' classes.
use Rattle.std.proofs.Common.{◌≡◌, ℕ, ◌+◌, ◌<◌, Bool, true, false, not, ◌&&◌, ◌||◌, nat_lt, List}
use Rattle.std.proofs.Common.{length, map}
use Rattle.std.proofs.Common.{Option, Some, None, refl, sym, ap, ◌∙◌, arith}
use Rattle.std.specs.Prelude.{◌==◌, nat_le, slice_get}
use Rattle.std.specs.List.{filter, list_all, list_any}
use Rattle.std.proofs.lemmas.Bool.{and_from, eqb-true, eq-eqb, lt-ltb, ltb-true, not-true}
use Rattle.std.proofs.lemmas.List.{length-map}
use Rattle.std.proofs.lemmas.List.Folds.{list_all-map}
use Rattle.std.proofs.lemmas.Option.{slice_get_within}
use Rattle.vc_value.specs.declared.decimal.Dec.{Dec}
use Rattle.vc_model_parts.specs.Headers.{domain_of}
use Rattle.vc_model_parts.specs.declared.parts.Characteristic.{Characteristic}
use Rattle.vc_model_parts.specs.declared.parts.Model.{Model}
use Rattle.vc_model_parts.specs.declared.parts.Values.{Values}
use Rattle.vc_model_parts.specs.declared.parts.Values.TheVariants as values
use Rattle.vc_model_drafts.specs.Seen.{seen_model}
use Rattle.vc_model_laws.specs.Headers.{whole_domain}
use Rattle.vc_model_laws.specs.Indices.{are_below}
use Rattle.vc_model_laws.specs.Keeps.{Keeps}
use Rattle.vc_model_laws.specs.Kinds.{is_single}
use Rattle.vc_model_laws.specs.Lists as listed
use Rattle.vc_model_laws.specs.Rows.{list_at}
use Rattle.vc_model_laws.proofs.HeadersLaws.{there}
use Rattle.vc_model_laws.proofs.SpelledLaws.{spelled_keeps_all}
use Rattle.vc_model_laws.proofs.TextsLaws.{passes_at, weaker}
use Rattle.vc_plan.specs.Alike.{are_of_one_domain, sets_of_one_domain}
use Rattle.vc_plan.specs.Lists.{has_its_texts, has_listed_texts, list_of}
use Rattle.vc_plan.specs.Orders.{are_in_order}
use Rattle.vc_plan.specs.Ranges.{is_of, set_there, var_there}
use Rattle.vc_plan.specs.declared.plans.Plan.{Plan}
use Rattle.vc_plan.specs.declared.plans.TextSet.{TextSet}
use Rattle.vc_plan.specs.declared.plans.Var.{Var}
use Rattle.vc_table.specs.declared.table.VariantTable.{VariantTable}
use Rattle.vc_types.specs.Settings.{are_multiple, is_multiple, multiple_in}
use Rattle.vc_compile_plan.specs.Cuts.{all_marks, cut_domain, cuts_at, domains_from}
use Rattle.vc_compile_plan.specs.Layouts.{layout_of}
use Rattle.vc_compile_plan.specs.PlanOf.{IsPlanOf}
use Rattle.vc_compile_plan.specs.Slots.{slots_of}
use Rattle.vc_compile_plan.specs.Tables.{characteristic_from, column_from}
use Rattle.vc_compile_plan.specs.Variables.{members_of, restrictable_in, set_at, sets_at, sets_of, var_at, vars_at}
use Rattle.vc_compile_plan.specs.Variables.{vars_of}
use Rattle.vc_compile_laws.specs.Compiles.{CompiledKeeps}
use Rattle.vc_compile_laws.specs.Variables.{HasVariables}
use Rattle.vc_compile_valid.proofs.EachLaws.{Each, each_by_slot, each_left, each_mapped, each_more, each_of_all}
use Rattle.vc_compile_valid.proofs.EachLaws.{each_passes, each_tested, order_by_slot}
use Rattle.vc_compile_valid.proofs.ListLaws.{none_from}
use Rattle.vc_compile_valid.proofs.DomainLaws.{domain_at, domain_count, numbers_same}
use Rattle.vc_compile_laws.proofs.ListedLaws.{list_same}
use Rattle.vc_compile_laws.proofs.ThingLaws.{members_pass, tables_pass}

-- a variable, and a set, of a slot of so many and a characteristic of its class
pub record IsVar (model : Model) (slots : ℕ) (x : Var) : Type 0 where
  pub slot : x.slot < slots
  pub characteristic : x.characteristic < length model.characteristics
  pub domain : x.domain ≡ x.characteristic
  pub restrictable : x.restrictable ≡ restrictable_in (slice_get model.characteristics x.characteristic)
  pub single : is_multiple model x.characteristic ≡ false

pub record IsSet (model : Model) (slots : ℕ) (x : TextSet) : Type 0 where
  pub slot : x.slot < slots
  pub characteristic : x.characteristic < length model.characteristics
  pub domain : x.domain ≡ x.characteristic
  pub multiple : is_multiple model x.characteristic ≡ true

members_there : (model : Model) → Keeps (seen_model model) → (o : ℕ)
    → Each (λ c. nat_lt c (length model.characteristics) ≡ true) (members_of model o)
members_there model keeps o =
    each_tested (λ c. nat_lt c (length model.characteristics)) (members_of model o)
    (members_pass model (are_below (length model.characteristics)) refl keeps.indices.members o)

pub all_vars : (model : Model) → Keeps (seen_model model)
    → Each (IsVar model (length (slots_of model))) (vars_of model (slots_of model))
all_vars model keeps =
    each_by_slot (IsVar model (length (slots_of model))) (vars_at model) 0 (slots_of model)
    (λ k slot e.
    let below = slice_get_within (slots_of model) k slot e in
    each_mapped (IsVar model (length (slots_of model))) (var_at model (0 + k))
    (filter (λ c. not (is_multiple model c)) (members_of model slot.object))
    (each_more (λ c. (not (is_multiple model c) ≡ true) × (nat_lt c (length model.characteristics) ≡ true))
    (λ c. IsVar model (length (slots_of model)) (var_at model (0 + k) c))
    (λ c h. record {
      slot = omega (arith, below);
      characteristic = ltb-true c (length model.characteristics) h.1;
      domain = refl;
      restrictable = refl;
      single = not-true (is_multiple model c) h.0;
    })
    (filter (λ c. not (is_multiple model c)) (members_of model slot.object))
    (each_left (λ c. nat_lt c (length model.characteristics) ≡ true) (λ c. not (is_multiple model c))
    (members_of model slot.object) (members_there model keeps slot.object))))

pub all_sets : (model : Model) → Keeps (seen_model model)
    → Each (IsSet model (length (slots_of model))) (sets_of model (slots_of model))
all_sets model keeps =
    each_by_slot (IsSet model (length (slots_of model))) (sets_at model) 0 (slots_of model)
    (λ k slot e.
    let below = slice_get_within (slots_of model) k slot e in
    each_mapped (IsSet model (length (slots_of model))) (set_at (0 + k))
    (filter (is_multiple model) (members_of model slot.object))
    (each_more (λ c. (is_multiple model c ≡ true) × (nat_lt c (length model.characteristics) ≡ true))
    (λ c. IsSet model (length (slots_of model)) (set_at (0 + k) c))
    (λ c h. record {
      slot = omega (arith, below);
      characteristic = ltb-true c (length model.characteristics) h.1;
      domain = refl;
      multiple = h.0;
    })
    (filter (is_multiple model) (members_of model slot.object))
    (each_left (λ c. nat_lt c (length model.characteristics) ≡ true) (is_multiple model)
    (members_of model slot.object) (members_there model keeps slot.object))))

-- a list of texts isn't cut
texts_kept : (numbers : List Dec) (v : Values) → are_multiple v ≡ true
    → has_listed_texts (Some (whole_domain v)) (Some (cut_domain numbers (domain_of v))) ≡ true
texts_kept numbers (values.Texts size multiple listed) h = numbers_same (map (λ value. value.text) listed)
texts_kept numbers (values.Numbers decimals unit listed) h = absurd (cc)

-- two variables of one characteristic are alike
one_domain : (model : Model) (slots : ℕ) (x y : Var) → IsVar model slots x → IsVar model slots y
    → are_of_one_domain x y ≡ true
one_domain model slots x y a b = by (x.characteristic == y.characteristic) refl
  where
    alike : (p q : Bool) → p ≡ q → ((p && q) || not (p || q)) ≡ true
    alike true true e = refl
    alike false false e = refl
    alike true false e = absurd (cc)
    alike false true e = absurd (cc)

    by : (t : Bool) → (x.characteristic == y.characteristic) ≡ t
        → (not t || ((x.domain == y.domain)
        && ((x.restrictable && y.restrictable) || not (x.restrictable || y.restrictable)))) ≡ true
    by false e = refl
    by true e =
        let same = eqb-true x.characteristic y.characteristic e in
        and_from (x.domain == y.domain) ((x.restrictable && y.restrictable) || not (x.restrictable || y.restrictable))
        (eq-eqb x.domain y.domain (a.domain ∙ same ∙ sym b.domain))
        (alike x.restrictable y.restrictable
        (a.restrictable ∙ ap (λ c. restrictable_in (slice_get model.characteristics c)) same ∙ sym b.restrictable))

one_text_list : (model : Model) (slots : ℕ) (x y : TextSet) → IsSet model slots x → IsSet model slots y
    → sets_of_one_domain x y ≡ true
one_text_list model slots x y a b = by (x.characteristic == y.characteristic) refl
  where
    by : (t : Bool) → (x.characteristic == y.characteristic) ≡ t → (not t || (x.domain == y.domain)) ≡ true
    by false e = refl
    by true e =
        eq-eqb x.domain y.domain (a.domain ∙ eqb-true x.characteristic y.characteristic e ∙ sym b.domain)

-- the texts of a set are its characteristic's
set_texts_are : (model : Model) (tables : List VariantTable) (plan : Plan) → Keeps (seen_model model)
    → IsPlanOf model tables plan → (slots : ℕ) (x : TextSet) → IsSet model slots x → has_its_texts plan x ≡ true
set_texts_are model tables plan keeps is slots x set =
    let marks = all_marks (layout_of model) tables in
    let found =
    there model.characteristics x.characteristic
    (lt-ltb x.characteristic (length model.characteristics) set.characteristic) in
    let list : list_of plan (Some x.characteristic) ≡ Some (whole_domain found.0.values) =
    list_same model tables plan keeps is x.characteristic ∙ ap list_at found.1 in
    let cut : slice_get plan.domains x.domain
    ≡ Some (cut_domain (cuts_at marks (0 + x.characteristic)) (domain_of found.0.values)) =
    ap (λ ds. slice_get ds x.domain) is.domains ∙ ap (slice_get (domains_from marks 0 model.characteristics)) set.domain
    ∙ domain_at marks 0 model.characteristics x.characteristic found.0 found.1 in
    ap (λ o. has_listed_texts o (slice_get plan.domains x.domain)) list
    ∙ ap (has_listed_texts (Some (whole_domain found.0.values))) cut
    ∙ texts_kept (cuts_at marks (0 + x.characteristic)) found.0.values (sym (ap multiple_in found.1) ∙ set.multiple)

-- a characteristic of one value has no sets
pub no_sets : (model : Model) (slots c : ℕ) (sets : List TextSet) → Each (IsSet model slots) sets
    → is_multiple model c ≡ false
    → not (list_any (λ x. x.characteristic == c) sets) ≡ true
no_sets model slots c sets all single =
    none_from (λ x. x.characteristic == c) sets
    (each_passes (IsSet model slots) (λ x. not (x.characteristic == c))
    (λ x set. by x set (x.characteristic == c) refl) sets all)
  where
    by : (x : TextSet) → IsSet model slots x → (b : Bool) → (x.characteristic == c) ≡ b → not b ≡ true
    by x set false e = refl
    by x set true e =
        let both = sym set.multiple ∙ ap (is_multiple model) (eqb-true x.characteristic c e) ∙ single in absurd (cc)

single_is : (model : Model) (c : ℕ) → is_single (slice_get model.characteristics c) ≡ true → is_multiple model c ≡ false
single_is model c h = by (slice_get model.characteristics c) h
  where
    of_values : (v : Values) → not (listed.is_multiple v) ≡ true → are_multiple v ≡ false
    of_values (values.Texts size multiple texts) h = not-true multiple h
    of_values (values.Numbers decimals unit numbers) h = refl

    by : (o : Option Characteristic) → is_single o ≡ true → multiple_in o ≡ false
    by None h = refl
    by (Some x) h = of_values x.values h

pub slots_same : (model : Model) (tables : List VariantTable) (plan : Plan) → IsPlanOf model tables plan
    → length plan.slots ≡ length (slots_of model)
slots_same model tables plan is = ap length is.slots

variables : (model : Model) (tables : List VariantTable) (plan : Plan) → Keeps (seen_model model)
    → IsPlanOf model tables plan → HasVariables plan
variables model tables plan keeps is = record {
  vars_there = ap (list_all (var_there plan)) is.vars
      ∙ each_passes (IsVar model slots) (var_there plan)
      (λ x h. all_there x.slot x.characteristic x.domain h.slot h.characteristic h.domain)
      (vars_of model (slots_of model)) (all_vars model keeps);
  sets_there = ap (list_all (set_there plan)) is.sets
      ∙ each_passes (IsSet model slots) (set_there plan)
      (λ x h. all_there x.slot x.characteristic x.domain h.slot h.characteristic h.domain)
      (sets_of model (slots_of model)) (all_sets model keeps);
  vars_by_slot = ap (are_in_order (λ a b. nat_le a.slot b.slot)) is.vars
      ∙ order_by_slot (λ x. x.slot) (vars_at model)
      (λ i slot. each_mapped (λ x. x.slot ≡ i) (var_at model i)
      (filter (λ c. not (is_multiple model c)) (members_of model slot.object))
      (each_of_all (λ c. i ≡ i) (λ c. refl) (filter (λ c. not (is_multiple model c)) (members_of model slot.object))))
      0 (slots_of model);
  sets_by_slot = ap (are_in_order (λ a b. nat_le a.slot b.slot)) is.sets
      ∙ order_by_slot (λ x. x.slot) (sets_at model)
      (λ i slot. each_mapped (λ x. x.slot ≡ i) (set_at i) (filter (is_multiple model) (members_of model slot.object))
      (each_of_all (λ c. i ≡ i) (λ c. refl) (filter (is_multiple model) (members_of model slot.object))))
      0 (slots_of model);
  one_domain = ap (λ xs. list_all (λ x. list_all (are_of_one_domain x) xs) xs) is.vars
      ∙ each_passes (IsVar model slots) (λ x. list_all (are_of_one_domain x) (vars_of model (slots_of model)))
      (λ x h. each_passes (IsVar model slots) (are_of_one_domain x) (λ y k. one_domain model slots x y h k)
      (vars_of model (slots_of model)) (all_vars model keeps))
      (vars_of model (slots_of model)) (all_vars model keeps);
  one_text_list = ap (λ xs. list_all (λ x. list_all (sets_of_one_domain x) xs) xs) is.sets
      ∙ each_passes (IsSet model slots) (λ x. list_all (sets_of_one_domain x) (sets_of model (slots_of model)))
      (λ x h. each_passes (IsSet model slots) (sets_of_one_domain x) (λ y k. one_text_list model slots x y h k)
      (sets_of model (slots_of model)) (all_sets model keeps))
      (sets_of model (slots_of model)) (all_sets model keeps);
  set_texts = ap (list_all (has_its_texts plan)) is.sets
      ∙ each_passes (IsSet model slots) (has_its_texts plan) (set_texts_are model tables plan keeps is slots)
      (sets_of model (slots_of model)) (all_sets model keeps);
  single_columns = ap (λ xs. list_all
      (λ t. list_all (λ c. not (list_any (λ x. x.characteristic == c.characteristic) xs)) t.columns) plan.tables)
      is.sets
      ∙ ap (list_all (λ t. list_all (λ c. not (list_any (λ x. x.characteristic == c.characteristic) sets)) t.columns))
      is.tables
      ∙ tables_pass tables
      (λ t. list_all (λ c. not (list_any (λ x. x.characteristic == c.characteristic) sets)) t.columns) 0 model.tables
      (λ k table e. list_all-map (λ c. not (list_any (λ x. x.characteristic == c.characteristic) sets)) column_from
      table.columns
      ∙ weaker (λ c. is_single (slice_get model.characteristics c.characteristic))
      (λ c. not (list_any (λ x. x.characteristic == c.characteristic) sets)) table.columns
      (λ c h. no_sets model slots c.characteristic sets (all_sets model keeps) (single_is model c.characteristic h))
      (passes_at (λ t. list_all (λ c. is_single (slice_get model.characteristics c.characteristic)) t.columns)
      model.tables k table
      keeps.kinds.columns e));
}
  where
    slots : ℕ
    slots = length (slots_of model)

    sets : List TextSet
    sets = sets_of model (slots_of model)

    all_there : (i c d : ℕ) → i < length (slots_of model) → c < length model.characteristics → d ≡ c
        → (is_of plan.slots i && (is_of plan.characteristics c && is_of plan.domains d)) ≡ true
    all_there i c d a b same =
        let slot_size = slots_same model tables plan is in
        let size = ap length is.characteristics ∙ length-map model.characteristics characteristic_from in
        let domain_size =
        ap length is.domains ∙ domain_count (all_marks (layout_of model) tables) 0 model.characteristics in
        and_from (is_of plan.slots i) (is_of plan.characteristics c && is_of plan.domains d)
        (lt-ltb i (length plan.slots) (omega (arith, a, slot_size)))
        (and_from (is_of plan.characteristics c) (is_of plan.domains d)
        (lt-ltb c (length plan.characteristics) (omega (arith, b, size)))
        (lt-ltb d (length plan.domains) (omega (arith, b, same, domain_size))))

pub has_variables : CompiledKeeps HasVariables
has_variables text model tables plan spells read compiles =
    variables model tables plan (spelled_keeps_all text (seen_model model) spells) compiles.is_its
