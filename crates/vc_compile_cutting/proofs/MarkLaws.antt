-- Each mark of a used dependency cuts the variables of its characteristic.
use Rattle.std.proofs.Common.{◌≡◌, ℕ, zero, suc, ◌+◌, ◌<◌, ◌≤◌, Bool, true, false, List, [], ◌∷◌, length, Option, Some}
use Rattle.std.proofs.Common.{None, refl, sym, ap, ◌∙◌, arith, subst}
use Rattle.std.specs.Prelude.{◌==◌, option_map, slice_get}
use Rattle.std.specs.List.{filter, list_all, range_with_len}
use Rattle.std.proofs.lemmas.Bool.{eq-eqb, eqb-false, eqb-true}
use Rattle.std.proofs.lemmas.Option.{slice_get_within}
use Rattle.vc_value.specs.declared.decimal.Dec.{Dec}
use Rattle.vc_model_parts.specs.declared.parts.Model.{Model}
use Rattle.vc_model_parts.specs.declared.parts.NamedDependency.{NamedDependency}
use Rattle.vc_model_parts.specs.Headers.{domain_of}
use Rattle.vc_plan.specs.Cuts.{is_cut_at}
use Rattle.vc_plan.specs.Domains as plans
use Rattle.vc_plan.specs.Domains.{grains_in, grains_of, numbers_below}
use Rattle.vc_plan.specs.declared.plans.Plan.{Plan}
use Rattle.vc_plan.specs.declared.plans.Var.{Var}
use Rattle.vc_syntax_tree.specs.Trees.{Dependency, dependency_of}
use Rattle.vc_table.specs.declared.table.VariantTable.{VariantTable}
use Rattle.vc_compile_plan.specs.Cuts.{Mark, all_marks, cut_domain, cuts_at, dependency_marks, marks_if}
use Rattle.vc_compile_plan.specs.Layouts.{layout_of, tree_of}
use Rattle.vc_compile_plan.specs.PlanOf.{IsPlanOf}
use Rattle.vc_compile_plan.specs.Uses.{is_used, used_dependencies}
use Rattle.vc_compile_valid.specs.Domains.{HasLists}
use Rattle.vc_compile_valid.proofs.DomainLaws.{var_is}
use Rattle.vc_compile_valid.proofs.EachLaws.{Each, each_more}
use Rattle.vc_compile_valid.proofs.EntryLaws.{each_unmapped}
use Rattle.vc_compile_meant.proofs.FaultLaws.{each_unflat}
use Rattle.vc_compile_meant.proofs.TupleLaws.{each_unleft}
use Rattle.vc_compile_cutting.proofs.GrainLaws.{domain_cut}

-- a variable is cut at a number
abbrev pub IsCutAt : Plan → ℕ → Dec → Type 0
IsCutAt plan v n = list_all (is_cut_at n) (grains_of plan v) ≡ true

-- a mark cuts each variable of its characteristic
abbrev pub Cuts : Plan → Mark → Type 0
Cuts plan mark = (v : ℕ) (x : Var) → slice_get plan.vars v ≡ Some x → x.characteristic ≡ mark.characteristic
    → IsCutAt plan v mark.number

marks_of_var : (model : Model) (tables : List VariantTable) (plan : Plan) → IsPlanOf model tables plan → HasLists plan
    → (v : ℕ) (x : Var)
    → slice_get plan.vars v ≡ Some x
    → Each (λ mark. (mark.characteristic == 0 + x.characteristic) ≡ true → IsCutAt plan v mark.number)
    (all_marks (layout_of model) tables)
marks_of_var model tables plan is lists v x e =
    let var = var_is model tables plan is lists v x e in
    let marks = all_marks (layout_of model) tables in
    let of_own : Mark → Bool = λ mark. mark.characteristic == 0 + x.characteristic in
    let numbers = cuts_at marks (0 + x.characteristic) in
    each_unleft (λ mark. IsCutAt plan v mark.number) of_own marks
    (each_unmapped (IsCutAt plan v) (λ mark. mark.number) (filter of_own marks)
    (each_more (λ n. list_all (is_cut_at n) (grains_in (Some (cut_domain numbers (domain_of var.known.x.values))))
    ≡ true) (IsCutAt plan v)
    (λ n h. ap (λ o. list_all (is_cut_at n) (grains_in (plans.domain_of plan o))) e
    ∙ ap (λ o. list_all (is_cut_at n) (grains_in o)) var.domain ∙ h) numbers
    (domain_cut numbers (domain_of var.known.x.values))))

-- so each mark cuts
marks_cut : (model : Model) (tables : List VariantTable) (plan : Plan) → IsPlanOf model tables plan → HasLists plan
    → Each (Cuts plan) (all_marks (layout_of model) tables)
marks_cut model tables plan is lists = by (all_marks (layout_of model) tables) (marks_of_var model tables plan is lists)
  where
    by : (marks : List Mark)
        → ((v : ℕ) (x : Var) → slice_get plan.vars v ≡ Some x
        → Each (λ mark. (mark.characteristic == 0 + x.characteristic) ≡ true → IsCutAt plan v mark.number) marks)
        → Each (Cuts plan) marks
    by [] h = tt
    by (mark ∷ marks) h = (
      λ v x e own. (h v x e).0 (eq-eqb mark.characteristic (0 + x.characteristic) (omega (arith, own))),
      by marks (λ v x e. (h v x e).1),
    )

-- what each number below has
each_below : (P : ℕ → Type 0) (a n d : ℕ) → Each P (range_with_len a n) → a ≤ d → d < a + n → P d
each_below P a zero d h low high = absurd (omega (arith, low, high))
each_below P a (suc n) d h low high =
    by (a == d) refl (λ other. each_below P (a + 1) n d h.1 (omega (arith, low, other)) (omega (arith, high)))
  where
    by : (b : Bool) → (a == d) ≡ b → ((a ≡ d → ⊥) → P d) → P d
    by true e later = subst P (eqb-true a d e) h.0
    by false e later = later (eqb-false a d e)

-- those of a dependency that is used
pub used_cut : (model : Model) (tables : List VariantTable) (plan : Plan) → IsPlanOf model tables plan → HasLists plan
    → (d : ℕ)
    (tree : Dependency) → tree_of model d ≡ Some tree → is_used (layout_of model) d ≡ true
    → Each (Cuts plan) (dependency_marks model tables tree)
used_cut model tables plan is lists d tree e used =
    subst (λ o. Each (Cuts plan) (marks_if model tables o)) e
    (each_below (λ d. is_used (layout_of model) d ≡ true → Each (Cuts plan) (marks_if model tables (tree_of model d))) 0
    (length model.dependencies) d
    (each_unleft (λ d. Each (Cuts plan) (marks_if model tables (tree_of model d))) (is_used (layout_of model))
    (numbers_below (length model.dependencies))
    (each_unflat (Cuts plan) (λ d. marks_if model tables (tree_of model d)) (used_dependencies (layout_of model))
    (marks_cut model tables plan is lists)))
    (omega arith) (below (slice_get model.dependencies d) refl) used)
  where
    below : (o : Option NamedDependency) → slice_get model.dependencies d ≡ o → d < 0 + length model.dependencies
    below None f = absurd
        (let gone : None ≡ Some tree = sym (ap (option_map (λ named. dependency_of named.tree)) f) ∙ e in cc)
    below (Some named) f = let within = slice_get_within model.dependencies d named f in omega (arith, within)
