-- The names and counts of a plan are those of its model.
use Rattle.std.proofs.Common.{◌≡◌, ℕ, Bool, true, not, ◌&&◌, List, length, map, refl, sym, ap, ◌∙◌}
use Rattle.std.specs.Prelude.{nat_le, nat_lt, slice_get, Some}
use Rattle.std.specs.List.{list_all}
use Rattle.std.proofs.lemmas.Bool.{and_parts}
use Rattle.std.proofs.lemmas.List.{length-map}
use Rattle.std.proofs.lemmas.List.Folds.{list_all-map}
use Rattle.vc_value.specs.Words.{same_bytes}
use Rattle.vc_model_lines.specs.WordSpellings.{is_reserved}
use Rattle.vc_model_parts.specs.declared.parts.Characteristic.{Characteristic}
use Rattle.vc_model_parts.specs.declared.parts.Model.{Model}
use Rattle.vc_model_drafts.specs.Seen.{seen_dependency, seen_model, seen_object}
use Rattle.vc_model_laws.specs.Keeps.{Keeps}
use Rattle.vc_model_laws.specs.Names.{is_characteristic_spelled, unit_of}
use Rattle.vc_model_laws.proofs.SpelledLaws.{spelled_keeps_all}
use Rattle.vc_model_laws.proofs.TextsLaws.{passes_at, weaker}
use Rattle.vc_plan.specs.Orders.{are_apart}
use Rattle.vc_plan.specs.Spelling.{is_upper_name, is_material, is_unit}
use Rattle.vc_plan.specs.declared.plans.Plan.{Plan}
use Rattle.vc_table.specs.declared.table.VariantTable.{VariantTable}
use Rattle.vc_compile_plan.specs.PlanOf.{IsPlanOf}
use Rattle.vc_compile_plan.specs.Tables as made
use Rattle.vc_compile_laws.specs.Compiles.{CompiledKeeps}
use Rattle.vc_compile_laws.specs.Sizes.{HasCounts}
use Rattle.vc_compile_laws.specs.Words.{HasWords}
use Rattle.vc_compile_valid.proofs.ListLaws.{apart_mapped}
use Rattle.vc_compile_laws.proofs.ThingLaws.{objects_pass, object_materials, object_count, table_names, table_count}
use Rattle.vc_compile_laws.proofs.ThingLaws.{tables_pass}

-- an order of names or materials is that of what has them
by_names : {X Y : Type 0} (f : X → List ℕ) (g : Y → List ℕ) (xs : List X) (ys : List Y) → map f xs ≡ map g ys
    → are_apart (λ a b. same_bytes (g a) (g b)) ys ≡ true → are_apart (λ a b. same_bytes (f a) (f b)) xs ≡ true
by_names f g xs ys same h =
    sym (apart_mapped same_bytes f xs) ∙ ap (are_apart same_bytes) same ∙ apart_mapped same_bytes g ys ∙ h

-- and tests of them
by_tests : {X Y : Type 0} (p : List ℕ → Bool) (f : X → List ℕ) (g : Y → List ℕ) (xs : List X) (ys : List Y)
    → map f xs ≡ map g ys → list_all (λ y. p (g y)) ys ≡ true → list_all (λ x. p (f x)) xs ≡ true
by_tests p f g xs ys same h = sym (list_all-map p f xs) ∙ ap (list_all p) same ∙ list_all-map p g ys ∙ h

words : (model : Model) (tables : List VariantTable) (plan : Plan) → Keeps (seen_model model)
    → IsPlanOf model tables plan
    → HasWords plan
words model tables plan keeps is = record {
  name = ap is_upper_name is.name ∙ keeps.names.name;
  version = ap (λ n. (nat_lt 0 n && nat_lt n 1_000_000)) is.version ∙ keeps.names.version;
  names = ap (list_all (λ c. is_upper_name c.name)) is.characteristics
      ∙ list_all-map (λ c. is_upper_name c.name) made.characteristic_from model.characteristics
      ∙ weaker is_characteristic_spelled (λ c. is_upper_name c.name) model.characteristics (λ c h. (spelled c h).0)
      keeps.names.characteristics;
  units = ap (list_all (λ c. is_unit c.unit)) is.characteristics
      ∙ list_all-map (λ c. is_unit c.unit) made.characteristic_from model.characteristics
      ∙ weaker is_characteristic_spelled (λ c. is_unit (made.unit_of c.values)) model.characteristics
      (λ c h. (spelled c h).1) keeps.names.characteristics;
  dependency_names = ap (list_all is_upper_name) is.dependencies
      ∙ list_all-map is_upper_name (λ d. d.name) model.dependencies
      ∙ sym (list_all-map (λ d. is_upper_name d.name) seen_dependency model.dependencies) ∙ keeps.names.dependencies;
  table_names = ap (list_all (λ t. is_upper_name t.name)) is.tables
      ∙ by_tests is_upper_name (λ t. t.name) (λ t. t.name) (made.tables_of model tables) model.tables
      (table_names tables 0 model.tables)
      keeps.names.tables;
  materials = ap (list_all (λ o. is_material o.material)) is.objects
      ∙ by_tests is_material (λ o. o.material) (λ o. o.material) (made.objects_of model) model.objects
      (object_materials model 0 model.objects)
      (sym (list_all-map (λ o. is_material o.material) seen_object model.objects) ∙ keeps.names.materials);
  names_once = ap (are_apart (λ a b. same_bytes a.name b.name)) is.characteristics
      ∙ apart_mapped (λ a b. same_bytes a.name b.name) made.characteristic_from model.characteristics
      ∙ keeps.names.characteristics_once;
  dependencies_once = ap (are_apart same_bytes) is.dependencies
      ∙ apart_mapped same_bytes (λ d. d.name) model.dependencies
      ∙ sym (apart_mapped (λ a b. same_bytes a.name b.name) seen_dependency model.dependencies)
      ∙ keeps.names.dependencies_once;
  tables_once = ap (are_apart (λ a b. same_bytes a.name b.name)) is.tables
      ∙ by_names (λ t. t.name) (λ t. t.name) (made.tables_of model tables) model.tables
      (table_names tables 0 model.tables)
      keeps.names.tables_once;
  materials_once = ap (are_apart (λ a b. same_bytes a.material b.material)) is.objects
      ∙ by_names (λ o. o.material) (λ o. o.material) (made.objects_of model) model.objects
      (object_materials model 0 model.objects)
      (sym (apart_mapped (λ a b. same_bytes a.material b.material) seen_object model.objects)
      ∙ keeps.names.materials_once);
}
  where
    spelled : (c : Characteristic) → is_characteristic_spelled c ≡ true
        → (is_upper_name c.name ≡ true) × (is_unit (made.unit_of c.values) ≡ true)
    spelled c h =
        let parts = and_parts (is_upper_name c.name) (not (is_reserved c.name) && is_unit (unit_of c.values)) h in
        (parts.0, unit c.values (and_parts (not (is_reserved c.name)) (is_unit (unit_of c.values)) parts.1).1)
      where
        unit : (v : _) → is_unit (unit_of v) ≡ true → is_unit (made.unit_of v) ≡ true
        unit v h = h

counts : (model : Model) (tables : List VariantTable) (plan : Plan) → Keeps (seen_model model)
    → IsPlanOf model tables plan
    → HasCounts plan
counts model tables plan keeps is = record {
  characteristic_limit =
      few 2_000 (ap length is.characteristics ∙ length-map model.characteristics made.characteristic_from)
      keeps.limits.characteristics;
  class_limit = ap (list_all (λ o. nat_le (length o.characteristics) 500)) is.objects
      ∙ objects_pass model (λ cs. nat_le (length cs) 500) refl keeps.limits.members 0 model.objects;
  object_limit = few 500
      (ap length is.objects ∙ object_count model 0 model.objects ∙ sym (length-map model.objects seen_object))
      keeps.limits.objects;
  dependency_limit = few 2_000 (ap length is.dependencies ∙ length-map model.dependencies (λ d. d.name)
      ∙ sym (length-map model.dependencies seen_dependency)) keeps.limits.dependencies;
  table_limit = few 200 (ap length is.tables ∙ table_count tables 0 model.tables) keeps.limits.tables;
  column_limit = ap (list_all (λ t. nat_le (length t.columns) 20)) is.tables
      ∙ tables_pass tables (λ t. nat_le (length t.columns) 20) 0 model.tables
      (λ k x e. few 20 (length-map x.columns made.column_from) (at k x e));
}
  where
    few : (most : ℕ) {m n : ℕ} → m ≡ n → nat_le n most ≡ true → nat_le m most ≡ true
    few most e h = ap (λ n. nat_le n most) e ∙ h

    at : (k : ℕ) (x : _) → slice_get model.tables k ≡ Some x
        → nat_le (length x.columns) 20 ≡ true
    at k x e = passes_at (λ t. nat_le (length t.columns) 20) model.tables k x keeps.limits.columns e

pub has_words : CompiledKeeps HasWords
has_words text model tables plan spells read compiles =
    words model tables plan (spelled_keeps_all text (seen_model model) spells) compiles.is_its

pub has_counts : CompiledKeeps HasCounts
has_counts text model tables plan spells read compiles =
    counts model tables plan (spelled_keeps_all text (seen_model model) spells) compiles.is_its
