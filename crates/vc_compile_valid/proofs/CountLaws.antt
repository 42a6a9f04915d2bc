-- A plan has fewer procedures than 2^32: a slot has at most 50,050,100.
use Rattle.std.proofs.Common.{◌≡◌, ℕ, suc, ◌+◌, ◌*◌, ◌≤◌, true, List, [], ◌∷◌, ◌++◌, length, flat_map, Option, Some}
use Rattle.std.proofs.Common.{None, refl, sym, ap, ◌∙◌, arith, length-append}
use Rattle.std.specs.Prelude.{◌^◌, nat_le, slice_get, option_map}
use Rattle.std.specs.List.{cons_option}
use Rattle.std.proofs.Math.Nat.{mul-suc}
use Rattle.std.proofs.lemmas.Bool.{leb-true, lt-ltb}
use Rattle.std.proofs.lemmas.List.{length-map}
use Rattle.std.proofs.lemmas.Option.{slice_get-map}
use Rattle.vc_model_parts.specs.declared.parts.Characteristic.{Characteristic}
use Rattle.vc_model_parts.specs.declared.parts.Model.{Model}
use Rattle.vc_model_parts.specs.declared.parts.Object as configurable
use Rattle.vc_model_parts.specs.declared.parts.Values.{Values}
use Rattle.vc_model_parts.specs.declared.parts.Values.TheVariants as values
use Rattle.vc_plan.specs.Classes.{class_in}
use Rattle.vc_plan.specs.Domains.{grains_in}
use Rattle.vc_plan.specs.Valid.{list_length}
use Rattle.vc_plan.specs.declared.plans.Object.{Object}
use Rattle.vc_plan.specs.declared.plans.Plan.{Plan}
use Rattle.vc_plan.specs.declared.plans.Slot.{Slot}
use Rattle.vc_plan.specs.declared.procedures.Trigger.{Trigger}
use Rattle.vc_plan.specs.declared.procedures.Trigger.TheVariants.{Anyway}
use Rattle.vc_syntax_tree.specs.Trees.{Statement}
use Rattle.vc_table.specs.declared.table.VariantTable.{VariantTable}
use Rattle.vc_compile_plan.specs.Layouts.{Layout, layout_of, tree_of}
use Rattle.vc_compile_plan.specs.Numbering.{Brings, drafts_of, numbered, procedure_brings, procedure_from}
use Rattle.vc_compile_plan.specs.Numbering.{procedure_terms_begin, procedures_begin}
use Rattle.vc_compile_plan.specs.PlanOf.{IsPlanOf}
use Rattle.vc_compile_plan.specs.Places.{statements_in}
use Rattle.vc_compile_plan.specs.Procedures.{ProcedureDraft, entries_in, procedure_at, procedures_among, procedures_at}
use Rattle.vc_compile_plan.specs.Procedures.{profile_in, trigger_of, uses_in, value_procedures}
use Rattle.vc_compile_plan.specs.Shown.{Entry, entries_of, entry_of_numbers, entry_of_text}
use Rattle.vc_compile_plan.specs.Sites.{named_at}
use Rattle.vc_compile_plan.specs.Slots.{slots_of}
use Rattle.vc_compile_plan.specs.Tables.{characteristic_from}
use Rattle.vc_compile_plan.specs.Variables.{by_slot, members_of}
use Rattle.vc_compile_valid.specs.Models.{KeepsUses, KeepsValues, have_few_uses}
use Rattle.vc_compile_valid.specs.Places.{HasFew, HasFewProcedures}
use Rattle.vc_compile_valid.proofs.EachLaws.{Each, each_mapped, each_more, each_tested}
use Rattle.vc_compile_valid.proofs.EntryLaws.{pieces_are}
use Rattle.vc_compile_valid.proofs.ListLaws.{passes_there}
use Rattle.vc_compile_valid.proofs.PlaceLaws.{class_same}

-- as many as each brings at most
flat_few : {X Y : Type 0} (most : ℕ) (f : X → List Y) (xs : List X) → Each (λ x. length (f x) ≤ most) xs
    → length (flat_map f xs) ≤ most * length xs
flat_few most f [] h = omega arith
flat_few most f (x ∷ xs) h =
    let first = h.0 in
    let rest = flat_few most f xs h.1 in
    let size = length-append (f x) (flat_map f xs) in
    let grown = mul-suc most (length xs) in
    omega (arith, first, rest, size, grown)

slots_few : {X : Type 0} (most : ℕ) (has : ℕ → Slot → List X) → ((i : ℕ) (slot : Slot) → length (has i slot) ≤ most)
    → (i : ℕ)
    (slots : List Slot) → length (by_slot has i slots) ≤ most * length slots
slots_few most has few i [] = omega arith
slots_few most has few i (slot ∷ slots) =
    let first = few i slot in
    let rest = slots_few most has few (suc i) slots in
    let size = length-append (has i slot) (by_slot has (suc i) slots) in
    let grown = mul-suc most (length slots) in
    omega (arith, first, rest, size, grown)

among_few : (layout : Layout) (i : ℕ) (slot : Slot) (trigger : Trigger) (uses : List ℕ)
    → length (procedures_among layout i slot trigger uses) ≤ length uses
among_few layout i slot trigger [] = omega arith
among_few layout i slot trigger (d ∷ uses) =
    by (statements_in (tree_of layout.model d)) (among_few layout i slot trigger uses)
  where
    by : (o : Option (List Statement)) → length (procedures_among layout i slot trigger uses) ≤ length uses
        → length (cons_option (option_map (procedure_at layout i slot trigger d) o)
        (procedures_among layout i slot trigger uses))
        ≤ suc (length uses)
    by None few = omega (arith, few)
    by (Some statements) few = omega (arith, few)

-- few values, each of few uses
entries_few : (v : Values) → have_few_uses v ≡ true → Each (λ e. length e.uses ≤ 100) (entries_of v)
entries_few (values.Texts size multiple listed) h =
    each_mapped (λ e. length e.uses ≤ 100) entry_of_text listed
    (each_more (λ value. nat_le (length value.uses) 100 ≡ true) (λ value. length value.uses ≤ 100)
    (λ value k. leb-true (length value.uses) 100 k) listed
    (each_tested (λ value. nat_le (length value.uses) 100) listed h))
entries_few (values.Numbers decimals unit listed) h =
    each_mapped (λ e. length e.uses ≤ 100) entry_of_numbers listed
    (each_more (λ value. nat_le (length value.uses) 100 ≡ true) (λ value. length value.uses ≤ 100)
    (λ value k. leb-true (length value.uses) 100 k) listed
    (each_tested (λ value. nat_le (length value.uses) 100) listed h))

entry_count : (model : Model) (tables : List VariantTable) (plan : Plan) → IsPlanOf model tables plan
    → KeepsValues model → HasFew plan
    → (c : ℕ) (x : Characteristic) → slice_get model.characteristics c ≡ Some x → length (entries_of x.values) ≤ 1_000
entry_count model tables plan is keeps few c x e =
    let all = leb-true (list_length (characteristic_from x)) 1_000
    (passes_there (λ characteristic. nat_le (list_length characteristic) 1_000) plan.characteristics c
    (characteristic_from x)
    few.list_limit
    (ap (λ cs. slice_get cs c) is.characteristics ∙ slice_get-map characteristic_from model.characteristics c
    ∙ ap (option_map characteristic_from) e)) in
    let size = sym (length-map (entries_of x.values) (λ e. e.piece)) ∙ ap length (pieces_are x.values)
    ∙ ap (λ d. length (grains_in (Some d))) (sym (keeps.domains c x e)) in
    omega (arith, all, size)

values_few : (model : Model) (tables : List VariantTable) (plan : Plan) → IsPlanOf model tables plan → KeepsValues model
    → KeepsUses model → HasFew plan → (i : ℕ) (slot : Slot) (c : ℕ)
    → length (value_procedures (layout_of model) i slot c) ≤ 100_000
values_few model tables plan is keeps uses few i slot c = by (slice_get model.characteristics c) refl
  where
    of_entry : Entry → List ProcedureDraft
    of_entry entry = procedures_among (layout_of model) i slot (trigger_of (named_at (layout_of model) i c) entry.piece)
        entry.uses

    by : (o : Option Characteristic) → slice_get model.characteristics c ≡ o
        → length (flat_map (λ entry. procedures_among (layout_of model) i slot
        (trigger_of (named_at (layout_of model) i c) entry.piece)
        entry.uses) (entries_in o)) ≤ 100_000
    by None e = omega arith
    by (Some x) e =
        let all = flat_few 100 of_entry (entries_of x.values)
        (each_more (λ e. length e.uses ≤ 100) (λ e. length (of_entry e) ≤ 100)
        (λ e h. let fewer = among_few (layout_of model) i slot (trigger_of (named_at (layout_of model) i c) e.piece)
        e.uses in
        omega (arith, h, fewer)) (entries_of x.values)
        (entries_few x.values
        (passes_there (λ c. have_few_uses c.values) model.characteristics c x uses.value_uses e))) in
        let count = entry_count model tables plan is keeps few c x e in
        omega (arith, all, count)

own_few : (model : Model) → KeepsUses model → (c : ℕ) → length (uses_in (slice_get model.characteristics c)) ≤ 100
own_few model uses c = by (slice_get model.characteristics c) refl
  where
    by : (o : Option Characteristic) → slice_get model.characteristics c ≡ o → length (uses_in o) ≤ 100
    by None e = omega arith
    by (Some x) e = leb-true (length x.uses) 100
        (passes_there (λ c. nat_le (length c.uses) 100) model.characteristics c x uses.uses e)

profile_few : (model : Model) → KeepsUses model → (o : ℕ) → length (profile_in (slice_get model.objects o)) ≤ 100
profile_few model uses o = by (slice_get model.objects o) refl
  where
    by : (x : Option configurable.Object) → slice_get model.objects o ≡ x → length (profile_in x) ≤ 100
    by None e = omega arith
    by (Some x) e =
        leb-true (length x.procedures) 100
        (passes_there (λ object. nat_le (length object.procedures) 100) model.objects o x uses.profiles e)

members_few : (model : Model) (tables : List VariantTable) (plan : Plan) → IsPlanOf model tables plan → HasFew plan
    → (o : ℕ)
    → length (members_of model o) ≤ 500
members_few model tables plan is few o =
    let same = ap length (sym (class_same model o)) ∙ ap (λ os. length (class_in (slice_get os o))) (sym is.objects) in
    let all = by (slice_get plan.objects o) refl in
    omega (arith, same, all)
  where
    by : (x : Option Object) → slice_get plan.objects o ≡ x → length (class_in x) ≤ 500
    by None e = omega arith
    by (Some x) e =
        leb-true (length x.characteristics) 500
        (passes_there (λ object. nat_le (length object.characteristics) 500) plan.objects o x few.class_limit e)

slot_few : (model : Model) (tables : List VariantTable) (plan : Plan) → IsPlanOf model tables plan → KeepsValues model
    → KeepsUses model → HasFew plan → (i : ℕ) (slot : Slot)
    → length (procedures_at (layout_of model) i slot) ≤ 50_050_100
slot_few model tables plan is keeps uses few i slot =
    let layout = layout_of model in
    let members = members_of model slot.object in
    let profile = procedures_among layout i slot Anyway (profile_in (slice_get model.objects slot.object)) in
    let of_own : ℕ → List ProcedureDraft
    = λ c. procedures_among (layout_of model) i slot Anyway (uses_in (slice_get model.characteristics c)) in
    let size = length-append profile (flat_map of_own members ++ flat_map (value_procedures layout i slot) members) in
    let more = length-append (flat_map of_own members) (flat_map (value_procedures layout i slot) members) in
    let count = members_few model tables plan is few slot.object in
    let first = among_few layout i slot Anyway (profile_in (slice_get model.objects slot.object)) in
    let most = profile_few model uses slot.object in
    let own = flat_few 100 of_own members (all (λ c. length (of_own c) ≤ 100)
    (λ c. let fewer = among_few layout i slot Anyway (uses_in (slice_get model.characteristics c)) in
    let most = own_few model uses c in omega (arith, fewer, most)) members) in
    let values = flat_few 100_000 (value_procedures layout i slot) members
    (all (λ c. length (value_procedures layout i slot c) ≤ 100_000)
    (values_few model tables plan is keeps uses few i slot) members) in
    omega (arith, size, more, count, first, most, own, values)
  where
    all : (P : ℕ → Type 0) → ((c : ℕ) → P c) → (cs : List ℕ) → Each P cs
    all P of [] = tt
    all P of (c ∷ cs) = (of c, all P of cs)

numbered_count : {D X : Type 0} (brings : Brings D) (make : ℕ → ℕ → D → X) (c t : ℕ) (drafts : List D)
    → length (numbered brings make c t drafts) ≡ length drafts
numbered_count brings make c t [] = refl
numbered_count brings make c t (d ∷ drafts) =
    ap suc (numbered_count brings make (c + length (brings.conditions d)) (t + length (brings.terms d)) drafts)

pub has_few_procedures : (model : Model) (tables : List VariantTable) (plan : Plan) → IsPlanOf model tables plan
    → KeepsValues model → KeepsUses model → HasFew plan → HasFewProcedures plan
has_few_procedures model tables plan is keeps uses few =
    let drafts = drafts_of (layout_of model) in
    let count = ap length is.procedures
    ∙ numbered_count procedure_brings procedure_from (procedures_begin drafts) (procedure_terms_begin drafts)
    drafts.procedures in
    let all
    = slots_few 50_050_100 (procedures_at (layout_of model)) (slot_few model tables plan is keeps uses few) 0
    (slots_of model) in
    let slots = leb-true (length plan.slots) 40 few.slot_limit in
    let same = ap length is.slots in
    record { procedure_limit = lt-ltb (length plan.procedures) (2 ^ 32) (omega (arith, count, all, slots, same)) }
