-- The lists of characteristics, and the classes of objects, of a plan are its model's.
use Rattle.std.proofs.Common.{◌≡◌, ℕ, ◌+◌, ◌<◌, Bool, true, nat_lt, List, [], ◌∷◌, length, map}
use Rattle.std.proofs.Common.{Option, Some, None, refl, sym, ap, ◌∙◌, arith, length-append, inl, inr, ℤ, unsigned_abs}
use Rattle.std.specs.Prelude.{◌==◌, ◌^◌, nat_le, slice_get, option_map}
use Rattle.std.specs.List.{list_all, list_any}
use Rattle.std.specs.Int.Signed.{le_z}
use Rattle.std.proofs.lemmas.Bool.{and_parts, and_from, eqb-true, lt-ltb, ltb-true, or_cases}
use Rattle.std.proofs.lemmas.Int.{ints}
use Rattle.std.proofs.lemmas.List.{length-map}
use Rattle.std.proofs.lemmas.List.Folds.{list_all-map}
use Rattle.std.proofs.lemmas.Option.{slice_get-map}
use Rattle.vc_value.specs.Grains.{has_decimals, hold, holds}
use Rattle.vc_value.specs.declared.grains.Grain.{Grain}
use Rattle.vc_value.specs.declared.table_header.Domain.{Domain}
use Rattle.vc_value.specs.declared.table_header.Domain.TheVariants.{Texts, Nums}
use Rattle.vc_value.specs.declared.value.Value.{Value}
use Rattle.vc_value.specs.declared.value.Value.TheVariants.{Text, Num}
use Rattle.vc_model_parts.specs.Headers.{domain_of, grain_of}
use Rattle.vc_model_parts.specs.declared.parts.Characteristic.{Characteristic}
use Rattle.vc_model_parts.specs.declared.parts.Model.{Model}
use Rattle.vc_model_parts.specs.declared.parts.Values.{Values}
use Rattle.vc_model_parts.specs.declared.parts.Values.TheVariants as values
use Rattle.vc_model_drafts.specs.Seen.{seen_model}
use Rattle.vc_model_laws.specs.Headers.{whole_domain}
use Rattle.vc_model_laws.specs.Indices.{are_below, are_texts_there}
use Rattle.vc_model_laws.specs.Keeps.{Keeps}
use Rattle.vc_model_laws.specs.Limits.{count_of, is_in_range}
use Rattle.vc_model_laws.specs.Lists.{are_different, are_proper}
use Rattle.vc_model_laws.specs.Numbers.{are_small}
use Rattle.vc_model_laws.specs.Rows.{list_at}
use Rattle.vc_model_laws.proofs.SpelledLaws.{spelled_keeps_all}
use Rattle.vc_model_laws.proofs.TextsLaws.{passes_at, weaker}
use Rattle.vc_plan.specs.Alike.{is_proper}
use Rattle.vc_plan.specs.Domains.{grains_in}
use Rattle.vc_plan.specs.Lists.{is_listed, list_in, list_of}
use Rattle.vc_plan.specs.Ranges.{domain_there, grain_there, is_of, is_stored, value_there}
use Rattle.vc_plan.specs.declared.plans.Plan.{Plan}
use Rattle.vc_table.specs.declared.table.VariantTable.{VariantTable}
use Rattle.vc_compile_plan.specs.PlanOf.{IsPlanOf}
use Rattle.vc_compile_plan.specs.Tables.{characteristic_from}
use Rattle.vc_compile_plan.specs.Texts.{unlisted_texts}
use Rattle.vc_compile_laws.specs.Compiles.{CompiledKeeps}
use Rattle.vc_compile_laws.specs.Lists.{HasLists}
use Rattle.vc_compile_valid.proofs.ListLaws.{from_each}
use Rattle.vc_compile_laws.proofs.ThingLaws.{objects_pass}

-- a number of a text of the model is one of the plan's
pub text_there : (model : Model) (tables : List VariantTable) (plan : Plan) → IsPlanOf model tables plan → (t : ℕ)
    → nat_lt t (length model.texts) ≡ true → is_of plan.texts t ≡ true
text_there model tables plan is t h =
    let below = ltb-true t (length model.texts) h in
    let all : length plan.texts ≡ length model.texts + length (unlisted_texts model) =
    ap length is.texts ∙ length-append model.texts (unlisted_texts model) in
    lt-ltb t (length plan.texts) (omega (arith, below, all))

-- the values of a characteristic name texts of the plan, and numbers that are small enough
whole_there : (model : Model) (tables : List VariantTable) (plan : Plan) → IsPlanOf model tables plan → (v : Values)
    → are_texts_there (length model.texts) v ≡ true → is_in_range v ≡ true → are_small v ≡ true
    → domain_there plan (whole_domain v) ≡ true
whole_there model tables plan is (values.Texts size multiple listed) texts range small =
    list_all-map (is_of plan.texts) (λ value. value.text) listed
    ∙ weaker (λ value. nat_lt value.text (length model.texts)) (λ value. is_of plan.texts value.text) listed
    (λ value h. text_there model tables plan is value.text h) texts
whole_there model tables plan is (values.Numbers decimals unit listed) texts range small =
    and_from (nat_le decimals 6) (list_all grain_there (map grain_of listed)) range
    (list_all-map grain_there grain_of listed ∙ small)

pub list_there : (model : Model) (tables : List VariantTable) (plan : Plan) → Keeps (seen_model model)
    → IsPlanOf model tables plan → (k : ℕ) (c : Characteristic) → slice_get model.characteristics k ≡ Some c
    → domain_there plan (whole_domain c.values) ≡ true
list_there model tables plan keeps is k c e =
    whole_there model tables plan is c.values
    (passes_at (λ c. are_texts_there (length model.texts) c.values) model.characteristics k c keeps.indices.texts e)
    (passes_at (λ c. is_in_range c.values) model.characteristics k c keeps.limits.ranges e)
    (passes_at (λ c. are_small c.values) model.characteristics k c keeps.numbers.numbers e)

-- the list of a characteristic in the plan is all that the model lists
pub list_same : (model : Model) (tables : List VariantTable) (plan : Plan) → Keeps (seen_model model)
    → IsPlanOf model tables plan → (c : ℕ) → list_of plan (Some c) ≡ list_at (slice_get model.characteristics c)
list_same model tables plan keeps is c =
    ap (λ cs. list_in (slice_get cs c)) is.characteristics
    ∙ ap list_in (slice_get-map characteristic_from model.characteristics c)
    ∙ by (slice_get model.characteristics c) refl
  where
    by : (o : Option Characteristic) → slice_get model.characteristics c ≡ o
        → list_in (option_map characteristic_from o) ≡ list_at o
    by None e = refl
    by (Some x) e = ap Some (keeps.headers.domains c x e)

-- a value of a list that is there is one that is there
pub listed_there : (plan : Plan) (domain : Domain) (a : Value) → domain_there plan domain ≡ true
    → is_listed (Some domain) a ≡ true → value_there plan a ≡ true
listed_there plan (Texts texts) (Text t) all h = one texts all h
  where
    one : (ts : List ℕ) → list_all (is_of plan.texts) ts ≡ true → list_any (λ s. s == t) ts ≡ true
        → is_of plan.texts t ≡ true
    one [] all h = absurd (cc)
    one (s ∷ ts) all h =
        let parts = and_parts (is_of plan.texts s) (list_all (is_of plan.texts) ts) all in
        elim (or_cases (s == t) (list_any (λ s. s == t) ts) h) [
          | inl is ↦ ap (is_of plan.texts) (sym (eqb-true s t is)) ∙ parts.0
          | inr later ↦ one ts parts.1 later
        ]
listed_there plan (Texts texts) (Num a) all h = absurd (cc)
listed_there plan (Nums decimals grains) (Text t) all h = absurd (cc)
listed_there plan (Nums decimals grains) (Num a) all h =
    one grains (and_parts (nat_le decimals 6) (list_all grain_there grains) all).1
    (and_parts (hold a grains) (has_decimals decimals a) h).0
  where
    between : (low z high : ℤ) (m : ℕ) → le_z low z ≡ true → le_z z high ≡ true → unsigned_abs low < m
        → unsigned_abs high < m → unsigned_abs z < m
    between low z high m p q r s = grind (arith, ints)

    one : (gs : List Grain) → list_all grain_there gs ≡ true → list_any (holds a) gs ≡ true → is_stored a ≡ true
    one [] all h = absurd (cc)
    one (grain ∷ gs) all h =
        let parts = and_parts (grain_there grain) (list_all grain_there gs) all in
        let ends = and_parts (is_stored grain.low) (is_stored grain.high) parts.0 in
        elim (or_cases (holds a grain) (list_any (holds a) gs) h) [
          | inl is ↦
              let k = and_parts (le_z grain.low.millionths a.millionths) (le_z a.millionths grain.high.millionths) is in
              lt-ltb (unsigned_abs a.millionths) (10 ^ 15)
              (between grain.low.millionths a.millionths grain.high.millionths (10 ^ 15) k.0 k.1
              (ltb-true (unsigned_abs grain.low.millionths) (10 ^ 15) ends.0)
              (ltb-true (unsigned_abs grain.high.millionths) (10 ^ 15) ends.1))
          | inr later ↦ one gs parts.1 later
        ]

whole_proper : (v : Values) → are_proper v ≡ true → is_proper (whole_domain v) ≡ true
whole_proper (values.Texts size multiple listed) h = h
whole_proper (values.Numbers decimals unit listed) h = h

whole_few : (v : Values) → nat_le (count_of v) 1_000 ≡ true
    → nat_le (length (grains_in (Some (whole_domain v)))) 1_000 ≡ true
whole_few (values.Texts size multiple listed) h =
    ap (λ n. nat_le n 1_000) (length-map (map (λ value. value.text) listed) _ ∙ length-map listed (λ value. value.text))
    ∙ h
whole_few (values.Numbers decimals unit listed) h =
    ap (λ n. nat_le n 1_000) (length-map (map grain_of listed) _ ∙ length-map listed grain_of) ∙ h

-- lists pass what all that the model lists does
lists_pass : (model : Model) (tables : List VariantTable) (plan : Plan) → Keeps (seen_model model)
    → IsPlanOf model tables plan → (p : Domain → Bool)
    → ((k : ℕ) (c : Characteristic) → slice_get model.characteristics k ≡ Some c → p (whole_domain c.values) ≡ true)
    → list_all (λ c. p c.list) plan.characteristics ≡ true
lists_pass model tables plan keeps is p h =
    ap (list_all (λ c. p c.list)) is.characteristics
    ∙ list_all-map (λ c. p c.list) characteristic_from model.characteristics
    ∙ from_each (λ c. p (domain_of c.values)) model.characteristics
    (λ k c e. ap p (keeps.headers.domains k c e) ∙ h k c e)

lists : (model : Model) (tables : List VariantTable) (plan : Plan) → Keeps (seen_model model)
    → IsPlanOf model tables plan
    → HasLists plan
lists model tables plan keeps is = record {
  characteristics_there =
      lists_pass model tables plan keeps is (domain_there plan) (list_there model tables plan keeps is);
  objects_there = ap (λ n. list_all (λ o. list_all (λ c. nat_lt c n) o.characteristics) plan.objects)
      (ap length is.characteristics ∙ length-map model.characteristics characteristic_from)
      ∙ ap (list_all (λ o. are_below (length model.characteristics) o.characteristics)) is.objects
      ∙ objects_pass model (are_below (length model.characteristics)) refl keeps.indices.members 0 model.objects;
  classes = ap (list_all (λ o. are_different o.characteristics)) is.objects
      ∙ objects_pass model are_different refl keeps.lists.members 0 model.objects;
  lists = lists_pass model tables plan keeps is is_proper
      (λ k c e. whole_proper c.values
      (passes_at (λ c. are_proper c.values) model.characteristics k c keeps.lists.values e));
  list_limit = lists_pass model tables plan keeps is (λ d. nat_le (length (grains_in (Some d))) 1_000)
      (λ k c e. whole_few c.values
      (passes_at (λ c. nat_le (count_of c.values) 1_000) model.characteristics k c keeps.limits.values e));
}

pub has_lists : CompiledKeeps HasLists
has_lists text model tables plan spells read compiles =
    lists model tables plan (spelled_keeps_all text (seen_model model) spells) compiles.is_its
