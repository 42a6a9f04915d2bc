-- What a model's things keep is kept by the plan's, of which each is made from one of the model's.
use Rattle.std.proofs.Common.{◌≡◌, ℕ, zero, suc, ◌+◌, Bool, true, List, [], ◌∷◌, length, map, Option, Some, None, refl}
use Rattle.std.proofs.Common.{ap, ◌∙◌, arith}
use Rattle.std.specs.Prelude.{slice_get}
use Rattle.std.specs.List.{list_all}
use Rattle.std.proofs.lemmas.Bool.{and_from}
use Rattle.vc_model_parts.specs.declared.parts.Class.{Class}
use Rattle.vc_model_parts.specs.declared.parts.Model.{Model}
use Rattle.vc_model_parts.specs.declared.parts.Object as configurable
use Rattle.vc_model_parts.specs.declared.parts.Table as declared
use Rattle.vc_plan.specs.declared.plans.Table.{Table}
use Rattle.vc_table.specs.declared.table.VariantTable.{VariantTable}
use Rattle.vc_types.specs.Looking.{class_in}
use Rattle.vc_compile_plan.specs.Tables.{objects_from, table_from, tables_from}
use Rattle.vc_compile_plan.specs.Variables.{members_in, members_if, members_of}
use Rattle.vc_model_laws.proofs.TextsLaws.{passes_at}

-- the members of an object's class pass what those of all classes pass
pub members_pass : (model : Model) (p : List ℕ → Bool) → p [] ≡ true
    → list_all (λ class. p class.members) model.classes ≡ true → (o : ℕ) → p (members_of model o) ≡ true
members_pass model p none all o = of_class (class_in (slice_get model.objects o))
  where
    of_there : (k : ℕ) (c : Option Class) → slice_get model.classes k ≡ c → p (members_in c) ≡ true
    of_there k None e = none
    of_there k (Some class) e = passes_at (λ class. p class.members) model.classes k class all e

    of_class : (k : Option ℕ) → p (members_if model k) ≡ true
    of_class None = none
    of_class (Some k) = of_there k (slice_get model.classes k) refl

-- objects have these
pub objects_pass : (model : Model) (p : List ℕ → Bool) → p [] ≡ true
    → list_all (λ class. p class.members) model.classes ≡ true → (o : ℕ) (xs : List configurable.Object)
    → list_all (λ object. p object.characteristics) (objects_from model o xs) ≡ true
objects_pass model p none all o [] = refl
objects_pass model p none all o (x ∷ xs) =
    and_from (p (members_of model o)) (list_all (λ object. p object.characteristics) (objects_from model (suc o) xs))
    (members_pass model p none all o) (objects_pass model p none all (suc o) xs)

-- their materials, and that there is one for each
pub object_materials : (model : Model) (o : ℕ) (xs : List configurable.Object)
    → map (λ object. object.material) (objects_from model o xs) ≡ map (λ object. object.material) xs
object_materials model o [] = refl
object_materials model o (x ∷ xs) = ap (λ ms. x.material ∷ ms) (object_materials model (suc o) xs)

pub object_count : (model : Model) (o : ℕ) (xs : List configurable.Object)
    → length (objects_from model o xs) ≡ length xs
object_count model o [] = refl
object_count model o (x ∷ xs) = ap suc (object_count model (suc o) xs)

-- the names of tables, and that there is one for each
pub table_names : (tables : List VariantTable) (t : ℕ) (xs : List declared.Table)
    → map (λ table. table.name) (tables_from tables t xs) ≡ map (λ table. table.name) xs
table_names tables t [] = refl
table_names tables t (x ∷ xs) = ap (λ ns. x.name ∷ ns) (table_names tables (suc t) xs)

pub table_count : (tables : List VariantTable) (t : ℕ) (xs : List declared.Table)
    → length (tables_from tables t xs) ≡ length xs
table_count tables t [] = refl
table_count tables t (x ∷ xs) = ap suc (table_count tables (suc t) xs)

-- tables pass what each passes that is made from one of the model's with its rows
pub tables_pass : (tables : List VariantTable) (p : Table → Bool) (t : ℕ) (xs : List declared.Table)
    → ((k : ℕ) (x : declared.Table) → slice_get xs k ≡ Some x → p (table_from x (slice_get tables (t + k))) ≡ true)
    → list_all p (tables_from tables t xs) ≡ true
tables_pass tables p t [] h = refl
tables_pass tables p t (x ∷ xs) h =
    and_from (p (table_from x (slice_get tables t))) (list_all p (tables_from tables (suc t) xs))
    (ap (λ n. p (table_from x (slice_get tables n))) (no_more t) ∙ h zero x refl)
    (tables_pass tables p (suc t) xs
    (λ k y e. ap (λ n. p (table_from y (slice_get tables n))) (one_more t k) ∙ h (suc k) y e))
  where
    no_more : (n : ℕ) → n ≡ n + 0
    no_more n = omega arith

    one_more : (n k : ℕ) → suc n + k ≡ n + suc k
    one_more n k = omega arith
