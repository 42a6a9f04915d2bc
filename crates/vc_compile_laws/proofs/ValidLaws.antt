-- What plans keep by how they are made, of models that texts spell: what they rest on is what such a model keeps.
use Rattle.std.proofs.Common.{◌≡◌, ℕ, true, false, not, ◌&&◌, ◌||◌, nat_lt, List, [], ◌∷◌, length, map, refl, sym, ap}
use Rattle.std.proofs.Common.{◌∙◌}
use Rattle.std.specs.Prelude.{nat_le}
use Rattle.std.specs.List.{list_all, list_any}
use Rattle.std.proofs.lemmas.Bool.{and_parts}
use Rattle.std.proofs.lemmas.List.Folds.{list_all-map}
use Rattle.vc_value.specs.Words.{same_bytes}
use Rattle.vc_model_parts.specs.declared.parts.Component.{Component}
use Rattle.vc_model_parts.specs.declared.parts.Component.TheVariants as components
use Rattle.vc_model_parts.specs.declared.parts.Model.{Model}
use Rattle.vc_model_parts.specs.declared.parts.Object.{Object}
use Rattle.vc_model_parts.specs.declared.parts.Values.{Values}
use Rattle.vc_model_parts.specs.declared.parts.Values.TheVariants as values
use Rattle.vc_model_drafts.specs.Seen.{seen_item, seen_model, seen_object}
use Rattle.vc_model_laws.specs.Components.{is_plain_apart}
use Rattle.vc_model_laws.specs.Headers.{whole_domain}
use Rattle.vc_model_laws.specs.Keeps.{Keeps}
use Rattle.vc_model_laws.specs.Limits as limits
use Rattle.vc_model_laws.proofs.NameLemmas.{same_turns}
use Rattle.vc_model_laws.proofs.SpelledLaws.{spelled_keeps_all}
use Rattle.vc_compile_plan.specs.Slots.{is_too_deep}
use Rattle.vc_compile_valid.specs.Domains as domains
use Rattle.vc_compile_valid.specs.Domains.{HasDomains}
use Rattle.vc_compile_valid.specs.Models.{KeepsParts, KeepsUses, KeepsValues, all_values, count_of, have_few_uses}
use Rattle.vc_compile_valid.specs.Models.{is_plain}
use Rattle.vc_compile_valid.specs.Places.{HasFewProcedures, HasPlaces}
use Rattle.vc_compile_valid.specs.Rules.{HasRules}
use Rattle.vc_compile_valid.specs.Slots.{HasLineSlots, HasOneBill, HasPreorder}
use Rattle.vc_compile_valid.proofs.CountLaws as counts
use Rattle.vc_compile_valid.proofs.DomainLaws as domain_laws
use Rattle.vc_compile_valid.proofs.LineSlotLaws as line_slots
use Rattle.vc_compile_valid.proofs.ListLaws.{weaker}
use Rattle.vc_compile_valid.proofs.OneBillLaws as one_bill
use Rattle.vc_compile_valid.proofs.PlaceLaws as places
use Rattle.vc_compile_valid.proofs.PreorderLaws as preorder
use Rattle.vc_compile_valid.proofs.RuleLaws as rules
use Rattle.vc_compile_meant.specs.Calls.{HasColumns}
use Rattle.vc_compile_meant.specs.Scopes.{HasNets, HasOwnSlots, HasScopes}
use Rattle.vc_compile_meant.specs.Sorts.{HasAmounts}
use Rattle.vc_compile_meant.specs.Sums.{HasNoSums}
use Rattle.vc_compile_meant.proofs.ColumnLaws as columns
use Rattle.vc_compile_meant.proofs.MonotoneLaws as monotone
use Rattle.vc_compile_meant.proofs.ScopeRecords as scopes
use Rattle.vc_compile_meant.proofs.SortLaws as sorts
use Rattle.vc_compile_meant.proofs.SumLaws as sums
use Rattle.vc_tree_laws.proofs.ModelTreeLaws.{spelled_keeps_trees}
use Rattle.vc_compile_laws.specs.Compiles.{CompiledKeeps}
use Rattle.vc_compile_laws.proofs.GrammarLaws.{keeps_bindings, keeps_objects}
use Rattle.vc_compile_laws.proofs.ListedLaws.{has_lists}
use Rattle.vc_compile_laws.proofs.SizeLaws.{is_within}
use Rattle.vc_compile_laws.proofs.SlotLaws.{has_slots}
use Rattle.vc_compile_laws.proofs.VariableLaws.{has_variables}
use Rattle.vc_compile_laws.proofs.WordLaws.{has_counts}

-- the model
any_turned : (material : List ℕ) (objects : List Object)
    → list_any (λ object. same_bytes material object.material) (map seen_object objects)
    ≡ list_any (λ object. same_bytes object.material material) objects
any_turned material [] = refl
any_turned material (object ∷ objects) =
    ap (λ b. b || list_any (λ object. same_bytes material object.material) (map seen_object objects))
    (same_turns material object.material)
    ∙ ap (λ b. same_bytes object.material material || b) (any_turned material objects)

plain_same : (objects : List Object) (x : Component) → is_plain_apart (map seen_object objects) x ≡ true
    → is_plain objects x ≡ true
plain_same objects (components.Object o) h = refl
plain_same objects (components.Plain material) h = sym (ap not (any_turned material objects)) ∙ h

pub keeps_parts : (model : Model) → Keeps (seen_model model) → is_too_deep model ≡ false → KeepsParts model
keeps_parts model keeps levels = record {
  plain = weaker (λ object. list_all (λ item. is_plain_apart (map seen_object model.objects) item.component)
      (map seen_item object.bill))
      (λ object. list_all (λ item. is_plain model.objects item.component) object.bill) model.objects
      (λ object h. weaker (λ item. is_plain_apart (map seen_object model.objects) item.component)
      (λ item. is_plain model.objects item.component)
      object.bill (λ item k. plain_same model.objects item.component k)
      (sym (list_all-map (λ item. is_plain_apart (map seen_object model.objects) item.component) seen_item object.bill)
      ∙ h))
      (sym (list_all-map (λ object. list_all (λ item. is_plain_apart (map seen_object model.objects) item.component)
      object.bill)
      seen_object model.objects) ∙ keeps.components.plain);
  levels = levels;
}

values_same : (v : Values) → whole_domain v ≡ all_values v
values_same (values.Texts size multiple listed) = refl
values_same (values.Numbers decimals unit listed) = refl

count_same : (v : Values) → nat_lt 0 (limits.count_of v) ≡ true → nat_lt 0 (count_of v) ≡ true
count_same (values.Texts size multiple listed) h = h
count_same (values.Numbers decimals unit listed) h = h

few_same : (v : Values) → limits.have_few_uses v ≡ true → have_few_uses v ≡ true
few_same (values.Texts size multiple listed) h = h
few_same (values.Numbers decimals unit listed) h = h

keeps_values : (model : Model) → Keeps (seen_model model) → KeepsValues model
keeps_values model keeps = record {
  domains = λ k c e. keeps.headers.domains k c e ∙ values_same c.values;
  some_values = weaker (λ c. nat_lt 0 (limits.count_of c.values)) (λ c. nat_lt 0 (count_of c.values))
      model.characteristics
      (λ c h. count_same c.values h) keeps.lists.some_values;
}

keeps_uses : (model : Model) → Keeps (seen_model model) → KeepsUses model
keeps_uses model keeps = record {
  uses = keeps.limits.uses;
  value_uses = weaker (λ c. limits.have_few_uses c.values) (λ c. have_few_uses c.values) model.characteristics
      (λ c h. few_same c.values h) keeps.limits.value_uses;
  profiles = weaker (λ object. nat_le (length object.nets) 100 && nat_le (length object.procedures) 100)
      (λ object. nat_le (length object.procedures) 100) model.objects
      (λ object h. (and_parts (nat_le (length object.nets) 100) (nat_le (length object.procedures) 100) h).1)
      (sym (list_all-map (λ object. nat_le (length object.nets) 100 && nat_le (length object.procedures) 100)
      seen_object model.objects)
      ∙ keeps.limits.profiles);
}

-- its plan
pub has_rules : CompiledKeeps HasRules
has_rules text model tables plan spells read compiles = rules.has_rules model tables plan compiles.is_its

pub has_preorder : CompiledKeeps HasPreorder
has_preorder text model tables plan spells read compiles = preorder.has_preorder model tables plan compiles.is_its

pub has_line_slots : CompiledKeeps HasLineSlots
has_line_slots text model tables plan spells read compiles =
    line_slots.has_line_slots model tables plan
    (keeps_parts model (spelled_keeps_all text (seen_model model) spells) compiles.levels) compiles.is_its
    (has_slots text model tables plan spells read compiles).slots_there

pub has_one_bill : CompiledKeeps HasOneBill
has_one_bill text model tables plan spells read compiles = one_bill.has_one_bill model tables plan compiles.is_its

pub has_places : CompiledKeeps HasPlaces
has_places text model tables plan spells read compiles =
    let lists = has_lists text model tables plan spells read compiles in
    places.has_places model tables plan compiles.is_its
    (keeps_values model (spelled_keeps_all text (seen_model model) spells))
    (record { classes = lists.classes; lists = lists.lists })

pub has_few_procedures : CompiledKeeps HasFewProcedures
has_few_procedures text model tables plan spells read compiles =
    let keeps = spelled_keeps_all text (seen_model model) spells in
    counts.has_few_procedures model tables plan compiles.is_its (keeps_values model keeps) (keeps_uses model keeps)
    (record {
      class_limit = (has_counts text model tables plan spells read compiles).class_limit;
      list_limit = (has_lists text model tables plan spells read compiles).list_limit;
      slot_limit = (is_within text model tables plan spells read compiles).slot_limit;
    })

pub plan_lists : CompiledKeeps domains.HasLists
plan_lists text model tables plan spells read compiles =
    let lists = has_lists text model tables plan spells read compiles in
    record {
      characteristics_there = lists.characteristics_there;
      vars_there = (has_variables text model tables plan spells read compiles).vars_there;
      lists = lists.lists;
    }

pub has_domains : CompiledKeeps HasDomains
has_domains text model tables plan spells read compiles =
    domain_laws.has_domains model tables plan compiles.is_its
    (keeps_values model (spelled_keeps_all text (seen_model model) spells))
    (plan_lists text model tables plan spells read compiles)

pub has_scopes : CompiledKeeps HasScopes
has_scopes text model tables plan spells read compiles =
    scopes.has_scopes model tables plan compiles.is_its compiles.typed

pub has_amounts : CompiledKeeps HasAmounts
has_amounts text model tables plan spells read compiles =
    sorts.has_amounts model tables plan compiles.is_its (plan_lists text model tables plan spells read compiles)
    compiles.typed

pub has_nets : CompiledKeeps HasNets
has_nets text model tables plan spells read compiles =
    monotone.has_nets model tables plan compiles.is_its compiles.typed

pub has_no_sums : CompiledKeeps HasNoSums
has_no_sums text model tables plan spells read compiles =
    sums.has_no_sums model tables plan compiles.is_its compiles.typed

pub has_own_slots : CompiledKeeps HasOwnSlots
has_own_slots text model tables plan spells read compiles =
    scopes.has_own_slots model tables plan compiles.is_its
    (keeps_objects model (spelled_keeps_trees text (seen_model model) spells)) compiles.typed

pub has_columns : CompiledKeeps HasColumns
has_columns text model tables plan spells read compiles =
    columns.has_columns model tables plan compiles.is_its
    (keeps_bindings model (spelled_keeps_trees text (seen_model model) spells)) compiles.typed
