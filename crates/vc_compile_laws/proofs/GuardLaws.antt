-- The preconditions and requirements of a plan are those of its slots' characteristics and their values.
use Rattle.std.proofs.Common.{◌≡◌, ℕ, ◌+◌, ◌<◌, true, ◌&&◌, List, [], ◌∷◌, length, map, flat_map}
use Rattle.std.proofs.Common.{Option, Some, None, refl, sym, ap, ◌∙◌, arith, subst, ℤ}
use Rattle.std.specs.Prelude.{◌==◌, nat_le, slice_get}
use Rattle.std.specs.List.{list_all, list_any}
use Rattle.std.specs.Int.Signed.{le_z}
use Rattle.std.proofs.lemmas.Bool.{and_from, and_parts, eq-eqb, lt-ltb}
use Rattle.std.proofs.lemmas.Int.{ints}
use Rattle.std.proofs.lemmas.List.{length-map}
use Rattle.vc_value.specs.declared.grains.Grain.{Grain}
use Rattle.vc_model_parts.specs.Headers.{grain_of}
use Rattle.vc_model_parts.specs.declared.parts.Characteristic.{Characteristic}
use Rattle.vc_model_parts.specs.declared.parts.Model.{Model}
use Rattle.vc_model_parts.specs.declared.parts.Values.{Values}
use Rattle.vc_model_parts.specs.declared.parts.Values.TheVariants as values
use Rattle.vc_model_drafts.specs.Seen.{seen_model}
use Rattle.vc_model_laws.specs.Headers.{whole_domain}
use Rattle.vc_model_laws.specs.Keeps.{Keeps}
use Rattle.vc_model_laws.specs.Rows.{list_at}
use Rattle.vc_model_laws.proofs.SpelledLaws.{spelled_keeps_all}
use Rattle.vc_plan.specs.BillRanges.{guard_there, named_there, piece_there_if, requirement_there}
use Rattle.vc_plan.specs.Classes as classes
use Rattle.vc_plan.specs.Domains.{grains_in}
use Rattle.vc_plan.specs.Lists.{is_entry, is_same_piece, list_of}
use Rattle.vc_plan.specs.LookUps.{guard_listed, value_listed}
use Rattle.vc_plan.specs.Pieces.{is_part}
use Rattle.vc_plan.specs.Ranges.{domain_there, grain_there, is_of, piece_there}
use Rattle.vc_plan.specs.declared.conditions.Piece.{Piece}
use Rattle.vc_plan.specs.declared.conditions.Piece.TheVariants.{OneText, Stretch}
use Rattle.vc_plan.specs.declared.plans.Guard.{Guard}
use Rattle.vc_plan.specs.declared.plans.Named.{Named}
use Rattle.vc_plan.specs.declared.plans.Plan.{Plan}
use Rattle.vc_plan.specs.declared.plans.Requirement.{Requirement}
use Rattle.vc_table.specs.declared.table.VariantTable.{VariantTable}
use Rattle.vc_compile_plan.specs.Layouts.{layout_of}
use Rattle.vc_compile_plan.specs.Numbering.{drafts_of, conditions_of, guard_brings, guard_from, guards_begin}
use Rattle.vc_compile_plan.specs.Numbering.{requirement_brings, requirement_from, requirements_begin, terms_of}
use Rattle.vc_compile_plan.specs.PlanOf.{IsPlanOf}
use Rattle.vc_compile_plan.specs.Places.{characteristic_site, precondition_in, preconditions_among, selection_in}
use Rattle.vc_compile_plan.specs.Places.{selections_among}
use Rattle.vc_compile_plan.specs.Shown.{Choice, GuardDraft, RequirementDraft, choice_at, entries_of}
use Rattle.vc_compile_plan.specs.Shown.{guard_drafts, guards_among, guards_at, guards_of}
use Rattle.vc_compile_plan.specs.Shown.{requirement_drafts, requirements_at, requirements_of}
use Rattle.vc_compile_plan.specs.Sites.{Site, named_at}
use Rattle.vc_compile_plan.specs.Slots.{slots_of}
use Rattle.vc_compile_plan.specs.Variables.{members_of}
use Rattle.vc_compile_laws.specs.Compiles.{CompiledKeeps}
use Rattle.vc_compile_laws.specs.Guards.{HasGuards}
use Rattle.vc_compile_laws.proofs.BillLaws.{asked_there}
use Rattle.vc_compile_valid.proofs.EachLaws.{Each, each_both, each_by_slot, each_flat, each_joined, each_mapped}
use Rattle.vc_compile_valid.proofs.EachLaws.{each_more, each_passes}
use Rattle.vc_compile_laws.proofs.ListedLaws.{list_same, list_there}
use Rattle.vc_compile_valid.proofs.NamedLaws.{IsNamed, each_among, named_found}
use Rattle.vc_compile_valid.proofs.NumberingLaws.{StandFrom, condition_count, guard_conditions, no_terms, numbered_each}
use Rattle.vc_compile_valid.proofs.NumberingLaws.{requirement_conditions, stand_within}
use Rattle.vc_compile_valid.proofs.EntryLaws.{text_pieces, each_unmapped, number_pieces}

-- a piece is the same as itself
not_above : (z : ℤ) → le_z z z ≡ true
not_above z = grind (arith, ints)

same_itself : (p : Piece) → is_same_piece p p ≡ true
same_itself (OneText t) = and_from (t == t) (t == t) (eq-eqb t t refl) (eq-eqb t t refl)
same_itself (Stretch grain) =
    let one
    = and_from (le_z grain.low.millionths grain.low.millionths) (le_z grain.high.millionths grain.high.millionths)
    (not_above grain.low.millionths) (not_above grain.high.millionths) in
    and_from (is_part (Stretch grain) (Stretch grain)) (is_part (Stretch grain) (Stretch grain)) one one

pieces_are : (v : Values) → map (λ e. e.piece) (entries_of v) ≡ grains_in (Some (whole_domain v))
pieces_are (values.Texts size multiple listed) = text_pieces listed
pieces_are (values.Numbers decimals unit listed) = number_pieces listed

-- the grains of a list that is there are there
texts_there : (plan : Plan) (ts : List ℕ) → list_all (is_of plan.texts) ts ≡ true
    → Each (λ p. piece_there plan p ≡ true) (map OneText ts)
texts_there plan [] h = tt
texts_there plan (t ∷ ts) h =
    let parts
    = and_parts (is_of plan.texts t) (list_all (is_of plan.texts) ts) h in (parts.0, texts_there plan ts parts.1)

stretches_there : (plan : Plan) (gs : List Grain) → list_all grain_there gs ≡ true
    → Each (λ p. piece_there plan p ≡ true) (map Stretch gs)
stretches_there plan [] h = tt
stretches_there plan (g ∷ gs) h =
    let parts = and_parts (grain_there g) (list_all grain_there gs) h in (parts.0, stretches_there plan gs parts.1)

grains_there : (plan : Plan) (v : Values) → domain_there plan (whole_domain v) ≡ true
    → Each (λ p. piece_there plan p ≡ true) (grains_in (Some (whole_domain v)))
grains_there plan (values.Texts size multiple listed) h = texts_there plan (map (λ value. value.text) listed) h
grains_there plan (values.Numbers decimals unit listed) h =
    stretches_there plan (map grain_of listed)
    (and_parts (nat_le decimals 6) (list_all grain_there (map grain_of listed)) h).1

entries_good : (plan : Plan) (v : Values) → domain_there plan (whole_domain v) ≡ true
    → Each (λ e. (piece_there plan e.piece ≡ true) × (is_entry (Some (whole_domain v)) e.piece ≡ true)) (entries_of v)
entries_good plan v h =
    let Good : Piece → Type 0 = λ p. (piece_there plan p ≡ true) × (is_entry (Some (whole_domain v)) p ≡ true) in
    each_unmapped Good (λ e. e.piece) (entries_of v)
    (subst (Each Good) (sym (pieces_are v))
    (each_both (λ p. piece_there plan p ≡ true) (λ p. is_entry (Some (whole_domain v)) p ≡ true)
    (grains_in (Some (whole_domain v))) (grains_there plan v h)
    (each_among is_same_piece same_itself (grains_in (Some (whole_domain v))))))

-- a precondition of a name that is there, at one of its values, and a requirement
pub record IsGuard (plan : Plan) (dependencies : ℕ) (draft : GuardDraft) : Type 0 where
  pub at : named_there plan draft.at ≡ true
  pub value : piece_there_if plan draft.value ≡ true
  pub listed : value_listed plan draft.at draft.value ≡ true
  pub dependency : draft.choice.dependency < dependencies

pub record IsRequirement (plan : Plan) (dependencies : ℕ) (draft : RequirementDraft) : Type 0 where
  pub at : named_there plan draft.at ≡ true
  pub dependency : draft.choice.dependency < dependencies

among_good : (model : Model) (plan : Plan) (site : Site) (n : Named) (value : Option Piece) (uses : List ℕ)
    → named_there plan n ≡ true → piece_there_if plan value ≡ true → value_listed plan n value ≡ true
    → Each (IsGuard plan (length model.dependencies)) (guards_among (layout_of model) site n value uses)
among_good model plan site n value uses at there listed =
    each_mapped (IsGuard plan (length model.dependencies))
    (λ asked. record { at = n; value = value; choice = choice_at (layout_of model) site asked })
    (preconditions_among model uses)
    (each_more (λ a. a.dependency < length model.dependencies)
    (λ a. IsGuard plan (length model.dependencies)
    (record { at = n; value = value; choice = choice_at (layout_of model) site a }))
    (λ a h. record { at = at; value = there; listed = listed; dependency = h }) (preconditions_among model uses)
    (asked_there precondition_in refl model uses))

guards_good : (model : Model) (tables : List VariantTable) (plan : Plan) → Keeps (seen_model model)
    → IsPlanOf model tables plan → (site : Site) (n : Named) (c : ℕ) → IsNamed plan c n → (o : Option Characteristic)
    → slice_get model.characteristics c ≡ o
    → Each (IsGuard plan (length model.dependencies)) (guards_of (layout_of model) site n o)
guards_good model tables plan keeps is site n c named None at = tt
guards_good model tables plan keeps is site n c named (Some x) at =
    let list : classes.list_at plan n ≡ Some (whole_domain x.values) =
    ap (list_of plan) named.characteristic ∙ (list_same model tables plan keeps is c ∙ ap list_at at) in
    each_joined (IsGuard plan (length model.dependencies)) (guards_among (layout_of model) site n None x.uses)
    (flat_map (λ entry. guards_among (layout_of model) site n (Some entry.piece) entry.uses) (entries_of x.values))
    (among_good model plan site n None x.uses named.is_there refl refl)
    (each_flat (IsGuard plan (length model.dependencies))
    (λ entry. guards_among (layout_of model) site n (Some entry.piece) entry.uses) (entries_of x.values)
    (each_more (λ e. (piece_there plan e.piece ≡ true) × (is_entry (Some (whole_domain x.values)) e.piece ≡ true))
    (λ e. Each (IsGuard plan (length model.dependencies)) (guards_among (layout_of model) site n (Some e.piece) e.uses))
    (λ e h. among_good model plan site n (Some e.piece) e.uses named.is_there h.0
    (ap (λ l. is_entry l e.piece) list ∙ h.1))
    (entries_of x.values) (entries_good plan x.values (list_there model tables plan keeps is c x at))))

requirements_good : (model : Model) (plan : Plan) (site : Site) (n : Named) → named_there plan n ≡ true
    → (o : Option Characteristic)
    → Each (IsRequirement plan (length model.dependencies)) (requirements_of (layout_of model) site n o)
requirements_good model plan site n at None = tt
requirements_good model plan site n at (Some x) =
    each_mapped (IsRequirement plan (length model.dependencies))
    (λ asked. record { at = n; choice = choice_at (layout_of model) site asked }) (selections_among model x.uses)
    (each_more (λ a. a.dependency < length model.dependencies)
    (λ a. IsRequirement plan (length model.dependencies)
    (record { at = n; choice = choice_at (layout_of model) site a }))
    (λ a h. record { at = at; dependency = h }) (selections_among model x.uses)
    (asked_there selection_in refl model x.uses))

all_guards : (model : Model) (tables : List VariantTable) (plan : Plan) → Keeps (seen_model model)
    → IsPlanOf model tables plan → Each (IsGuard plan (length model.dependencies)) (guard_drafts (layout_of model))
all_guards model tables plan keeps is =
    each_by_slot (IsGuard plan (length model.dependencies)) (guards_at (layout_of model)) 0 (slots_of model)
    (λ k slot e.
    each_flat (IsGuard plan (length model.dependencies))
    (λ c. guards_of (layout_of model) (characteristic_site (layout_of model) (0 + k) slot)
    (named_at (layout_of model) (0 + k) c)
    (slice_get model.characteristics c)) (members_of model slot.object)
    (each_more (λ c. list_any (λ d. c == d) (members_of model slot.object) ≡ true)
    (λ c. Each (IsGuard plan (length model.dependencies))
    (guards_of (layout_of model) (characteristic_site (layout_of model) (0 + k) slot)
    (named_at (layout_of model) (0 + k) c)
    (slice_get model.characteristics c)))
    (λ c h. guards_good model tables plan keeps is (characteristic_site (layout_of model) (0 + k) slot)
    (named_at (layout_of model) (0 + k) c) c (named_found model tables plan is k slot e c h)
    (slice_get model.characteristics c) refl)
    (members_of model slot.object) (each_among (λ c d. c == d) (λ c. eq-eqb c c refl) (members_of model slot.object))))

all_requirements : (model : Model) (tables : List VariantTable) (plan : Plan) → IsPlanOf model tables plan
    → Each (IsRequirement plan (length model.dependencies)) (requirement_drafts (layout_of model))
all_requirements model tables plan is =
    each_by_slot (IsRequirement plan (length model.dependencies)) (requirements_at (layout_of model)) 0 (slots_of model)
    (λ k slot e.
    each_flat (IsRequirement plan (length model.dependencies))
    (λ c. requirements_of (layout_of model) (characteristic_site (layout_of model) (0 + k) slot)
    (named_at (layout_of model) (0 + k) c)
    (slice_get model.characteristics c)) (members_of model slot.object)
    (each_more (λ c. list_any (λ d. c == d) (members_of model slot.object) ≡ true)
    (λ c. Each (IsRequirement plan (length model.dependencies))
    (requirements_of (layout_of model) (characteristic_site (layout_of model) (0 + k) slot)
    (named_at (layout_of model) (0 + k) c)
    (slice_get model.characteristics c)))
    (λ c h. requirements_good model plan (characteristic_site (layout_of model) (0 + k) slot)
    (named_at (layout_of model) (0 + k) c) (named_found model tables plan is k slot e c h).is_there
    (slice_get model.characteristics c))
    (members_of model slot.object) (each_among (λ c d. c == d) (λ c. eq-eqb c c refl) (members_of model slot.object))))

-- what is asked there has numbers that are there
asked_is_there : (model : Model) (tables : List VariantTable) (plan : Plan) → IsPlanOf model tables plan
    → (c : ℕ) (choice : Choice)
    → choice.dependency < length model.dependencies
    → StandFrom (conditions_of (drafts_of (layout_of model))) c (choice.condition ∷ [])
    → (is_of plan.dependencies choice.dependency && is_of plan.conditions c) ≡ true
asked_is_there model tables plan is c choice below cs =
    let drafts = drafts_of (layout_of model) in
    let conditions = condition_count (layout_of model) drafts tables plan is in
    let one = stand_within (conditions_of drafts) c (choice.condition ∷ []) cs in
    let dependencies = ap length is.dependencies ∙ length-map model.dependencies (λ d. d.name) in
    and_from (is_of plan.dependencies choice.dependency) (is_of plan.conditions c)
    (lt-ltb choice.dependency (length plan.dependencies) (omega (arith, below, dependencies)))
    (lt-ltb c (length plan.conditions) (omega (arith, conditions, one)))

guards : (model : Model) (tables : List VariantTable) (plan : Plan) → Keeps (seen_model model)
    → IsPlanOf model tables plan
    → Each (λ guard. (guard_there plan guard ≡ true) × (guard_listed plan guard ≡ true)) plan.guards
guards model tables plan keeps is =
    let drafts = drafts_of (layout_of model) in
    let Good : Guard → Type 0 = λ guard. (guard_there plan guard ≡ true) × (guard_listed plan guard ≡ true) in
    subst (Each Good) (sym is.guards)
    (numbered_each guard_brings guard_from (IsGuard plan (length model.dependencies)) Good (conditions_of drafts)
    (terms_of drafts)
    (λ c t draft guard cs ts. (
      and_from (named_there plan draft.at && piece_there_if plan draft.value)
          (is_of plan.dependencies draft.choice.dependency && is_of plan.conditions c)
          (and_from (named_there plan draft.at) (piece_there_if plan draft.value) guard.at guard.value)
          (asked_is_there model tables plan is c draft.choice guard.dependency cs),
      guard.listed,
    )) (guards_begin drafts) 0 drafts.guards (all_guards model tables plan keeps is) (guard_conditions drafts)
    (no_terms (terms_of drafts) drafts.guards))

requirements : (model : Model) (tables : List VariantTable) (plan : Plan) → IsPlanOf model tables plan
    → Each (λ requirement. requirement_there plan requirement ≡ true) plan.requirements
requirements model tables plan is =
    let drafts = drafts_of (layout_of model) in
    let Good : Requirement → Type 0 = λ requirement. requirement_there plan requirement ≡ true in
    subst (Each Good) (sym is.requirements)
    (numbered_each requirement_brings requirement_from (IsRequirement plan (length model.dependencies)) Good
    (conditions_of drafts)
    (terms_of drafts)
    (λ c t draft requirement cs ts.
    and_from (named_there plan draft.at) (is_of plan.dependencies draft.choice.dependency && is_of plan.conditions c)
    requirement.at
    (asked_is_there model tables plan is c draft.choice requirement.dependency cs)) (requirements_begin drafts) 0
    drafts.requirements
    (all_requirements model tables plan is) (requirement_conditions drafts)
    (no_terms (terms_of drafts) drafts.requirements))

pub has_guards : CompiledKeeps HasGuards
has_guards text model tables plan spells read compiles =
    let all = guards model tables plan (spelled_keeps_all text (seen_model model) spells) compiles.is_its in
    record {
      guards_there = each_passes (λ guard. (guard_there plan guard ≡ true) × (guard_listed plan guard ≡ true))
          (guard_there plan)
          (λ guard h. h.0) plan.guards all;
      requirements_there =
          each_passes (λ requirement. requirement_there plan requirement ≡ true) (requirement_there plan)
          (λ requirement h. h) plan.requirements (requirements model tables plan compiles.is_its);
      guards = each_passes (λ guard. (guard_there plan guard ≡ true) × (guard_listed plan guard ≡ true))
          (guard_listed plan)
          (λ guard h. h.1) plan.guards all;
    }
