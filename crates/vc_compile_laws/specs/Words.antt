-- The names and texts of a plan: spelled, and each once.
use Rattle.std.specs.Prelude.{◌≡◌, ℕ, true, ◌&&◌, nat_lt, List, slice_get, Some, IsUtf8}
use Rattle.std.specs.List.{list_all}
use Rattle.vc_value.specs.Words.{same_bytes}
use Rattle.vc_plan.specs.Orders.{are_apart}
use Rattle.vc_plan.specs.Spelling.{is_upper_name, is_material, is_unit, is_text}
use Rattle.vc_plan.specs.Valid.{has_graphic_texts}
use Rattle.vc_plan.specs.declared.plans.Plan.{Plan}

pub record HasWords (plan : Plan) : Type 0 where
  pub name : is_upper_name plan.name ≡ true
  pub version : (nat_lt 0 plan.version && nat_lt plan.version 1_000_000) ≡ true
  pub names : list_all (λ characteristic. is_upper_name characteristic.name) plan.characteristics ≡ true
  pub units : list_all (λ characteristic. is_unit characteristic.unit) plan.characteristics ≡ true
  pub dependency_names : list_all is_upper_name plan.dependencies ≡ true
  pub table_names : list_all (λ table. is_upper_name table.name) plan.tables ≡ true
  pub materials : list_all (λ object. is_material object.material) plan.objects ≡ true
  pub names_once : are_apart (λ a b. same_bytes a.name b.name) plan.characteristics ≡ true
  pub dependencies_once : are_apart same_bytes plan.dependencies ≡ true
  pub tables_once : are_apart (λ a b. same_bytes a.name b.name) plan.tables ≡ true
  pub materials_once : are_apart (λ a b. same_bytes a.material b.material) plan.objects ≡ true

pub record HasTexts (plan : Plan) : Type 0 where
  pub texts : list_all is_text plan.texts ≡ true
  pub utf8 : (t : ℕ) (text : List ℕ) → slice_get plan.texts t ≡ Some text → IsUtf8 text
  pub listed_texts : list_all (has_graphic_texts plan) plan.characteristics ≡ true
  pub texts_once : are_apart same_bytes plan.texts ≡ true
