-- The domains of a plan are the lists of its characteristics, cut up.
use Rattle.std.proofs.Common.{◌≡◌, ℕ, zero, suc, ◌+◌, ◌<◌, Bool, true, false, not, ◌&&◌, nat_lt, List, [], ◌∷◌, length}
use Rattle.std.proofs.Common.{map, Some, refl, sym, ap, ◌∙◌, arith, subst}
use Rattle.std.specs.Prelude.{◌==◌, nat_le, option_map, slice_get}
use Rattle.std.specs.List.{filter, list_all}
use Rattle.std.proofs.lemmas.Bool.{and_from, and_parts, eq-eqb, lt-ltb, ltb-true}
use Rattle.std.proofs.lemmas.List.{length-map}
use Rattle.std.proofs.lemmas.Option.{slice_get-map, slice_get_within}
use Rattle.vc_value.specs.Grains.{has_decimals, hold, is_ascending}
use Rattle.vc_value.specs.declared.decimal.Dec.{Dec}
use Rattle.vc_value.specs.declared.grains.Grain.{Grain}
use Rattle.vc_value.specs.declared.table_header.Domain.{Domain}
use Rattle.vc_value.specs.declared.table_header.Domain.TheVariants as domains
use Rattle.vc_model_parts.specs.Headers.{domain_of, grain_of}
use Rattle.vc_model_parts.specs.declared.parts.Characteristic.{Characteristic}
use Rattle.vc_model_parts.specs.declared.parts.Model.{Model}
use Rattle.vc_model_parts.specs.declared.parts.Values.{Values}
use Rattle.vc_model_parts.specs.declared.parts.Values.TheVariants as values
use Rattle.vc_plan.specs.Alike.{is_proper}
use Rattle.vc_plan.specs.Domains as plans
use Rattle.vc_plan.specs.Domains.{count_of, grains_in, numbers_below}
use Rattle.vc_plan.specs.Lists.{are_cut_up, has_its_list, is_cut_from, list_in}
use Rattle.vc_plan.specs.Orders.{same_numbers}
use Rattle.vc_plan.specs.Ranges.{domain_there, grain_there, is_of, var_there}
use Rattle.vc_plan.specs.declared.plans.Plan.{Plan}
use Rattle.vc_plan.specs.declared.plans.Var.{Var}
use Rattle.vc_table.specs.declared.table.VariantTable.{VariantTable}
use Rattle.vc_types.specs.Settings.{is_multiple}
use Rattle.vc_compile_plan.specs.Cuts.{Mark, all_marks, cut_all, cut_domain, cuts_at, domains_from}
use Rattle.vc_compile_plan.specs.Layouts.{layout_of}
use Rattle.vc_compile_plan.specs.PlanOf.{IsPlanOf}
use Rattle.vc_compile_plan.specs.Slots.{slots_of}
use Rattle.vc_compile_plan.specs.Tables.{characteristic_from}
use Rattle.vc_compile_plan.specs.Variables.{members_of, var_at, vars_at, vars_of}
use Rattle.vc_compile_valid.specs.Domains.{HasDomains, HasLists}
use Rattle.vc_compile_valid.specs.Models as models
use Rattle.vc_compile_valid.specs.Models.{KeepsValues, all_values}
use Rattle.vc_compile_valid.proofs.CuttingLaws.{cuts_are, cuts_ascend, cuts_ends, cuts_hold, cuts_there, has_ends}
use Rattle.vc_compile_valid.proofs.CuttingLaws.{holds_first}
use Rattle.vc_compile_valid.proofs.EachLaws.{Each, each_by_slot, each_mapped, each_of_all, each_passes}
use Rattle.vc_compile_valid.proofs.ListLaws.{from_each, passes_there, there}
use Rattle.vc_compile_valid.proofs.SlotwiseLaws.{below_count}

-- the domain of a characteristic
pub domain_at : (marks : List Mark) (c : ℕ) (xs : List Characteristic) (k : ℕ) (x : Characteristic)
    → slice_get xs k ≡ Some x
    → slice_get (domains_from marks c xs) k ≡ Some (cut_domain (cuts_at marks (c + k)) (domain_of x.values))
domain_at marks c [] k x e = absurd (cc)
domain_at marks c (y ∷ xs) zero x e =
    let same : y ≡ x = cc in
    ap (λ z. Some (cut_domain (cuts_at marks c) (domain_of z.values))) same
    ∙ ap (λ n. Some (cut_domain (cuts_at marks n) (domain_of x.values))) (no_more c)
  where
    no_more : (n : ℕ) → n ≡ n + 0
    no_more n = omega arith
domain_at marks c (y ∷ xs) (suc k) x e =
    domain_at marks (suc c) xs k x e
    ∙ ap (λ n. Some (cut_domain (cuts_at marks n) (domain_of x.values))) (one_more c k)
  where
    one_more : (n k : ℕ) → suc n + k ≡ n + suc k
    one_more n k = omega arith

pub domain_count : (marks : List Mark) (c : ℕ) (xs : List Characteristic) → length (domains_from marks c xs) ≡ length xs
domain_count marks c [] = refl
domain_count marks c (x ∷ xs) = ap suc (domain_count marks (suc c) xs)

-- what each list keeps when it is cut
cut_there : (plan : Plan) (numbers : List Dec) (domain : Domain) → domain_there plan domain ≡ true
    → domain_there plan (cut_domain numbers domain) ≡ true
cut_there plan numbers (domains.Texts texts) h = h
cut_there plan numbers (domains.Nums decimals grains) h =
    let parts = and_parts (nat_le decimals 6) (list_all grain_there grains) h in
    and_from (nat_le decimals 6) (list_all grain_there (cut_all decimals grains numbers)) parts.0
    (cuts_there decimals grains numbers parts.1)

cut_proper : (numbers : List Dec) (domain : Domain) → is_proper domain ≡ true
    → is_proper (cut_domain numbers domain) ≡ true
cut_proper numbers (domains.Texts texts) h = h
cut_proper numbers (domains.Nums decimals grains) h =
    let parts = and_parts (is_ascending grains) (list_all (has_ends decimals) grains) h in
    and_from (is_ascending (cut_all decimals grains numbers))
    (list_all (has_ends decimals) (cut_all decimals grains numbers))
    (cuts_ascend decimals grains numbers parts.0) (cuts_ends decimals grains numbers parts.1)

pub numbers_same : (ns : List ℕ) → same_numbers ns ns ≡ true
numbers_same [] = refl
numbers_same (n ∷ ns) = and_from (n == n) (same_numbers ns ns) (eq-eqb n n refl) (numbers_same ns)

cut_whole : (numbers : List Dec) (domain : Domain) → is_proper domain ≡ true
    → is_cut_from (Some domain) (Some (cut_domain numbers domain)) ≡ true
cut_whole numbers (domains.Texts texts) h = numbers_same texts
cut_whole numbers (domains.Nums decimals grains) h =
    let parts = and_parts (is_ascending grains) (list_all (has_ends decimals) grains) h in
    and_from (decimals == decimals) (are_cut_up decimals grains (cut_all decimals grains numbers))
    (eq-eqb decimals decimals refl) (cuts_are decimals grains numbers parts.0 parts.1)

some_length : {X : Type 0} (xs : List X) → (xs ≡ [] → ⊥) → nat_lt 0 (length xs) ≡ true
some_length [] h = absurd (h refl)
some_length (x ∷ xs) h = lt-ltb 0 (length (x ∷ xs)) (omega arith)

-- a list of grains that has one has one when it is cut
cut_some : (decimals : ℕ) (grains : List Grain) (numbers : List Dec) → is_ascending grains ≡ true
    → list_all (has_ends decimals) grains ≡ true → nat_lt 0 (length grains) ≡ true
    → nat_lt 0 (length (cut_all decimals grains numbers)) ≡ true
cut_some decimals [] numbers ascend ends some = absurd (cc)
cut_some decimals (g ∷ grains) numbers ascend ends some =
    some_length (cut_all decimals (g ∷ grains) numbers) (λ none.
    let low = (and_parts (has_decimals decimals g.low) (has_decimals decimals g.high)
    (and_parts (has_ends decimals g) (list_all (has_ends decimals) grains) ends).0).0 in
    let held = cuts_hold g.low decimals (g ∷ grains) numbers low ∙ holds_first g grains ascend in
    let clash : false ≡ true = sym (ap (hold g.low) none) ∙ held in cc)

domain_some : (numbers : List Dec) (v : Values) → is_proper (all_values v) ≡ true → nat_lt 0 (models.count_of v) ≡ true
    → nat_lt 0 (length (grains_in (Some (cut_domain numbers (all_values v))))) ≡ true
domain_some numbers (values.Texts size multiple listed) proper some =
    ap (nat_lt 0) (length-map (map (λ value. value.text) listed) _ ∙ length-map listed (λ value. value.text)) ∙ some
domain_some numbers (values.Numbers decimals unit listed) proper some =
    let parts
    = and_parts (is_ascending (map grain_of listed)) (list_all (has_ends decimals) (map grain_of listed)) proper in
    ap (nat_lt 0) (length-map (cut_all decimals (map grain_of listed) numbers) _)
    ∙ cut_some decimals (map grain_of listed) numbers parts.0 parts.1
    (ap (nat_lt 0) (length-map listed grain_of) ∙ some)

-- what a characteristic's list and domain are
pub record IsListed (model : Model) (tables : List VariantTable) (plan : Plan) (c : ℕ) : Type 0 where
  pub x : Characteristic
  pub at : slice_get model.characteristics c ≡ Some x
  pub list : slice_get plan.characteristics c ≡ Some (characteristic_from x)
  pub domain : slice_get plan.domains c
      ≡ Some (cut_domain (cuts_at (all_marks (layout_of model) tables) (0 + c)) (domain_of x.values))

listed : (model : Model) (tables : List VariantTable) (plan : Plan) → IsPlanOf model tables plan → (c : ℕ)
    → c < length plan.characteristics → IsListed model tables plan c
listed model tables plan is c below =
    let size = ap length is.characteristics ∙ length-map model.characteristics characteristic_from in
    let found = there model.characteristics c (omega (arith, below, size)) in
    record {
      x = found.0;
      at = found.1;
      list = ap (λ cs. slice_get cs c) is.characteristics ∙ slice_get-map characteristic_from model.characteristics c
          ∙ ap (option_map characteristic_from) found.1;
      domain = ap (λ ds. slice_get ds c) is.domains
          ∙ domain_at (all_marks (layout_of model) tables) 0 model.characteristics c found.0 found.1;
    }

-- domains pass what each list does that is cut
domains_pass : (model : Model) (tables : List VariantTable) (plan : Plan) → IsPlanOf model tables plan
    → (p : Domain → Bool)
    → ((numbers : List Dec) (domain : Domain) → p domain ≡ true → p (cut_domain numbers domain) ≡ true)
    → list_all (λ characteristic. p characteristic.list) plan.characteristics ≡ true → list_all p plan.domains ≡ true
domains_pass model tables plan is p of all =
    from_each p plan.domains (λ k domain e.
    let low = slice_get_within plan.domains k domain e in
    let first = ap length is.characteristics ∙ length-map model.characteristics characteristic_from in
    let second = ap length is.domains ∙ domain_count (all_marks (layout_of model) tables) 0 model.characteristics in
    let known = listed model tables plan is k (omega (arith, low, first, second)) in
    let same : Some domain
    ≡ Some (cut_domain (cuts_at (all_marks (layout_of model) tables) (0 + k)) (domain_of known.x.values)) =
    sym e ∙ known.domain in
    let cut : domain ≡ cut_domain (cuts_at (all_marks (layout_of model) tables) (0 + k)) (domain_of known.x.values)
    = cc in
    ap p cut ∙ of (cuts_at (all_marks (layout_of model) tables) (0 + k)) (domain_of known.x.values)
    (passes_there (λ characteristic. p characteristic.list) plan.characteristics k (characteristic_from known.x) all
    known.list))

-- all slots have the domain of the characteristic's own number
own_domains : (model : Model) → Each (λ x. x.domain ≡ x.characteristic) (vars_of model (slots_of model))
own_domains model =
    each_by_slot (λ x. x.domain ≡ x.characteristic) (vars_at model) 0 (slots_of model) (λ k slot e.
    each_mapped (λ x. x.domain ≡ x.characteristic) (var_at model (0 + k))
    (filter (λ c. not (is_multiple model c)) (members_of model slot.object))
    (each_of_all (λ c. c ≡ c) (λ c. refl) (filter (λ c. not (is_multiple model c)) (members_of model slot.object))))

each_there : {X : Type 0} (P : X → Type 0) (xs : List X) (k : ℕ) (x : X) → Each P xs → slice_get xs k ≡ Some x → P x
each_there P [] k x h e = absurd (cc)
each_there P (y ∷ xs) zero x h e = let same : y ≡ x = cc in subst P same h.0
each_there P (y ∷ xs) (suc k) x h e = each_there P xs k x h.1 e

-- what is known of a variable
pub record IsVarOf (model : Model) (tables : List VariantTable) (plan : Plan) (x : Var) : Type 0 where
  pub known : IsListed model tables plan x.characteristic
  pub domain : slice_get plan.domains x.domain
      ≡ Some (cut_domain (cuts_at (all_marks (layout_of model) tables) (0 + x.characteristic))
      (domain_of known.x.values))

pub var_is : (model : Model) (tables : List VariantTable) (plan : Plan) → IsPlanOf model tables plan → HasLists plan
    → (v : ℕ) (x : Var)
    → slice_get plan.vars v ≡ Some x → IsVarOf model tables plan x
var_is model tables plan is lists v x e =
    let parts
    = and_parts (is_of plan.slots x.slot)
    (is_of plan.characteristics x.characteristic && is_of plan.domains x.domain)
    (passes_there (var_there plan) plan.vars v x lists.vars_there e) in
    let below = ltb-true x.characteristic (length plan.characteristics)
    (and_parts (is_of plan.characteristics x.characteristic) (is_of plan.domains x.domain) parts.1).0 in
    let known = listed model tables plan is x.characteristic below in
    let own = each_there (λ x. x.domain ≡ x.characteristic) (vars_of model (slots_of model)) v x (own_domains model)
    (ap (λ xs. slice_get xs v) (sym is.vars) ∙ e) in
    record { known = known; domain = ap (slice_get plan.domains) own ∙ known.domain }

pub has_domains : (model : Model) (tables : List VariantTable) (plan : Plan) → IsPlanOf model tables plan
    → KeepsValues model
    → HasLists plan → HasDomains plan
has_domains model tables plan is keeps lists = record {
  domains_there = domains_pass model tables plan is (domain_there plan) (cut_there plan) lists.characteristics_there;
  some_grain = each_passes (λ v. v < 0 + length plan.vars) (λ v. nat_lt 0 (count_of plan v))
      (λ v below. let found = there plan.vars v (omega (arith, below)) in some v found.0 found.1)
      (numbers_below (length plan.vars)) (below_count 0 (length plan.vars));
  proper = domains_pass model tables plan is is_proper cut_proper lists.lists;
  whole = from_each (has_its_list plan) plan.vars (λ v x e.
      let var = var_is model tables plan is lists v x e in
      ap (λ o. is_cut_from (list_in o) (slice_get plan.domains x.domain)) var.known.list
      ∙ ap (is_cut_from (Some (domain_of var.known.x.values))) var.domain
      ∙ cut_whole (cuts_at (all_marks (layout_of model) tables) (0 + x.characteristic)) (domain_of var.known.x.values)
      (passes_there (λ characteristic. is_proper characteristic.list) plan.characteristics x.characteristic
      (characteristic_from var.known.x) lists.lists var.known.list));
}
  where
    some : (v : ℕ) (x : Var) → slice_get plan.vars v ≡ Some x → nat_lt 0 (count_of plan v) ≡ true
    some v x e =
        let var = var_is model tables plan is lists v x e in
        let numbers = cuts_at (all_marks (layout_of model) tables) (0 + x.characteristic) in
        let same = keeps.domains x.characteristic var.known.x var.known.at in
        ap (λ o. nat_lt 0 (length (grains_in (plans.domain_of plan o)))) e
        ∙ ap (λ o. nat_lt 0 (length (grains_in o))) var.domain
        ∙ ap (λ d. nat_lt 0 (length (grains_in (Some (cut_domain numbers d))))) same
        ∙ domain_some numbers var.known.x.values
        (ap is_proper (sym same)
        ∙ passes_there (λ characteristic. is_proper characteristic.list) plan.characteristics x.characteristic
        (characteristic_from var.known.x) lists.lists var.known.list)
        (passes_there (λ c. nat_lt 0 (models.count_of c.values)) model.characteristics x.characteristic var.known.x
        keeps.some_values var.known.at)
