-- Each step that a plan computes stays within the limit.
use Rattle.std.proofs.Common.{◌≡◌, ℕ, ◌^◌, ◌≤◌, Bool, true, false, not, ◌&&◌, ◌||◌, List, [], ◌∷◌, ◌++◌, flat_map}
use Rattle.std.proofs.Common.{Option, Some, None, refl, sym, ap, ◌∙◌, arith, subst, unsigned_abs}
use Rattle.std.specs.Prelude.{nat_le, slice_get}
use Rattle.std.specs.List.{list_all}
use Rattle.std.proofs.Math.Nat.{max-le}
use Rattle.std.proofs.lemmas.Bool.{and_from, and_parts, le-leb, ltb-true}
use Rattle.vc_value.specs.declared.grains.Grain.{Grain}
use Rattle.vc_value.specs.declared.table_header.Domain.{Domain}
use Rattle.vc_value.specs.declared.table_header.Domain.TheVariants as domains
use Rattle.vc_model_parts.specs.declared.parts.Model.{Model}
use Rattle.vc_plan.specs.Domains as plans
use Rattle.vc_plan.specs.Ranges.{condition_there, domain_there, grain_there, is_stored, term_there}
use Rattle.vc_plan.specs.Sizes.{condition_small, domain_size, is_small, size_limit}
use Rattle.vc_plan.specs.declared.conditions.Condition.{Condition as StoredCondition}
use Rattle.vc_plan.specs.declared.conditions.Condition.TheVariants as conditions
use Rattle.vc_plan.specs.declared.plans.Plan.{Plan}
use Rattle.vc_plan.specs.declared.plans.Var.{Var}
use Rattle.vc_syntax_tree.specs.Trees as syntax
use Rattle.vc_table.specs.declared.table.VariantTable.{VariantTable}
use Rattle.vc_types.specs.Faults.{fault_of}
use Rattle.vc_types.specs.Occurrences.{as_value, calls_in, conditions_in, demanded_relations, is_equality, is_literal}
use Rattle.vc_types.specs.Occurrences.{operands_of, own_terms, relations_in, relations_of, sides_of, terms_in, uses_in}
use Rattle.vc_types.specs.Occurrences.{uses_of_left, uses_of_relation, uses_of_term, values_in}
use Rattle.vc_types.specs.RangeFaults.{gets_too_large, range_too_wide}
use Rattle.vc_types.specs.Settings.{setting_of}
use Rattle.vc_types.specs.declared.place.Place.{Place}
use Rattle.vc_compile_plan.specs.Conditions.{condition_at}
use Rattle.vc_compile_plan.specs.Layouts.{layout_of}
use Rattle.vc_compile_plan.specs.Places.{place_at, site_at}
use Rattle.vc_compile_plan.specs.PlanOf.{IsPlanOf}
use Rattle.vc_compile_plan.specs.Rules.{constraint_site, in_net}
use Rattle.vc_compile_plan.specs.Sites.{Site}
use Rattle.vc_compile_plan.specs.Terms.{term_at}
use Rattle.vc_compile_plan.specs.Trees as trees
use Rattle.vc_compile_plan.specs.Trees.{condition_of}
use Rattle.vc_compile_valid.specs.Domains.{HasDomains, HasLists}
use Rattle.vc_compile_valid.proofs.EachLaws.{Each, each_both, each_flat, each_joined, each_more}
use Rattle.vc_compile_valid.proofs.EntryLaws.{each_unmapped}
use Rattle.vc_compile_valid.proofs.ListLaws.{passes_there, weaker}
use Rattle.vc_compile_meant.specs.Scopes.{IsTyped}
use Rattle.vc_compile_meant.proofs.FaultLaws.{IsUsed, all_used, each_false, each_split, is_sound}
use Rattle.vc_compile_meant.proofs.TreeLaws.{uses_by_term}
use Rattle.vc_compile_origins.proofs.OriginLaws.{conditions_pass, terms_pass}
use Rattle.vc_compile_origins.proofs.Origins.{HoldsOfConditions, HoldsOfTerms}
use Rattle.vc_compile_origins.proofs.RelationLaws.{HoldsOfRelations, IsOfRelations, TermsBy, condition_holds, terms_by}
use Rattle.vc_compile_origins.proofs.RelationLaws.{uses_by_relation}
use Rattle.vc_compile_sizes.specs.Sizes.{HasSizes, HasTrees}
use Rattle.vc_compile_sizes.proofs.ListSizeLaws.{greatest_within, is_up_to}
use Rattle.vc_compile_sizes.proofs.TermSizeLaws.{HasStoredVars, IsKnown, term_small, tree_within, within_at}

-- each operand of a term that stands without a fault means a characteristic
pub operands_known : (site : Site) (t : syntax.Term) → Each (IsUsed site.setting) (uses_of_term t)
    → Each (IsKnown site) (operands_of t)
operands_known site t h =
    each_more (λ o. IsUsed site.setting (as_value o)) (IsKnown site)
    (λ o used. record { c = used.c; means = used.means }) (operands_of t)
    (each_unmapped (IsUsed site.setting) as_value (operands_of t) h)

left_known : (site : Site) (b : Bool) (t : syntax.Term) → Each (IsUsed site.setting) (uses_of_left b t)
    → Each (IsKnown site) (operands_of t)
left_known site false t h = operands_known site t h
left_known site true (syntax.Operand operand) h = let used = h.0 in (record { c = used.c; means = used.means }, tt)
left_known site true (syntax.Number leaf) h = operands_known site (syntax.Number leaf) h
left_known site true (syntax.Text leaf) h = operands_known site (syntax.Text leaf) h
left_known site true (syntax.Negated t) h = operands_known site (syntax.Negated t) h
left_known site true (syntax.Combined left operator right) h =
    operands_known site (syntax.Combined left operator right) h
left_known site true (syntax.Applied function t) h = operands_known site (syntax.Applied function t) h
left_known site true (syntax.SumOfParts name) h = operands_known site (syntax.SumOfParts name) h
left_known site true syntax.CountOfParts h = operands_known site syntax.CountOfParts h

pub sides_known : (site : Site) (r : syntax.Relation) → Each (IsUsed site.setting) (uses_of_relation r)
    → Each (λ t. Each (IsKnown site) (operands_of t)) (sides_of r)
sides_known site (syntax.Within operand items) h = tt
sides_known site (syntax.Compared left relator right) h =
    let both
    = each_split (IsUsed site.setting) (uses_of_left (is_equality relator && is_literal right) left)
    (uses_of_term right) h in
    (left_known site (is_equality relator && is_literal right) left both.0, (operands_known site right both.1, tt))

terms_known : (site : Site) (tree : syntax.Dependency) → Each (IsUsed site.setting) (uses_in tree)
    → Each (λ t. Each (IsKnown site) (operands_of t)) (terms_in tree)
terms_known site tree h =
    each_joined (λ t. Each (IsKnown site) (operands_of t)) (flat_map sides_of (relations_in tree))
    (own_terms tree ++ flat_map values_in (calls_in tree))
    (each_flat (λ t. Each (IsKnown site) (operands_of t)) sides_of (relations_in tree)
    (each_more (λ r. Each (IsUsed site.setting) (uses_of_relation r))
    (λ r. Each (λ t. Each (IsKnown site) (operands_of t)) (sides_of r))
    (sides_known site) (relations_in tree) (uses_by_relation (IsUsed site.setting) tree h)))
    (each_more (λ t. Each (IsUsed site.setting) (uses_of_term t)) (λ t. Each (IsKnown site) (operands_of t))
    (operands_known site)
    (own_terms tree ++ flat_map values_in (calls_in tree)) (uses_by_term (IsUsed site.setting) tree h))

-- so all of its terms are within the limit
abbrev FitsAt : Model → Plan → Site → syntax.Term → Type 0
FitsAt model plan site t = tree_within plan (term_at (layout_of model) site t) ≡ true

terms_fit : (model : Model) (tables : List VariantTable) (plan : Plan) → IsPlanOf model tables plan → HasLists plan
    → (place : Place)
    (tree : syntax.Dependency) → fault_of model place tree ≡ None → (site : Site)
    → setting_of model place tree ≡ site.setting
    → TermsBy (FitsAt model plan site) tree
terms_fit model tables plan is lists place tree h site e =
    let sound = is_sound model place tree h in
    let used = subst (λ s. Each (IsUsed s) (uses_in tree)) e (all_used (setting_of model place tree) tree sound) in
    let range : range_too_wide site.setting tree ≡ false = ap (λ s. range_too_wide s tree) (sym e) ∙ sound.range in
    let of : site.setting.model ≡ model = ap (λ s. s.model) (sym e) in
    terms_by (FitsAt model plan site) tree
    (each_more (λ t. (gets_too_large site.setting t ≡ false) × Each (IsKnown site) (operands_of t))
    (FitsAt model plan site)
    (λ t k. (within_at model tables plan is lists site of t k.0 k.1).steps) (terms_in tree)
    (each_both (λ t. gets_too_large site.setting t ≡ false) (λ t. Each (IsKnown site) (operands_of t)) (terms_in tree)
    (each_false (gets_too_large site.setting) (terms_in tree) range) (terms_known site tree used)))

terms_hold : (model : Model) (tables : List VariantTable) (plan : Plan) → IsPlanOf model tables plan → HasLists plan
    → HoldsOfTerms (λ t. tree_within plan t ≡ true) model
terms_hold model tables plan is lists = record {
  at_slot = λ i slot at tree stands.
      (terms_fit model tables plan is lists (place_at (layout_of model) slot at) tree stands.sound
      (site_at (layout_of model) i slot at)
      stands.setting).given;
  at_tuple = λ constraint tuple stands.
      let site = constraint_site (layout_of model) constraint tuple in
      each_flat (FitsAt model plan site) sides_of (demanded_relations (syntax.Constrains constraint))
      (terms_fit model tables plan is lists in_net (syntax.Constrains constraint) stands.sound site refl).demanded;
}

-- and the sides of its conditions
abbrev SidesFit : Plan → trees.Condition → Type 0
SidesFit plan trees.Always = Unit {0}
SidesFit plan (trees.Compared r a b) = (tree_within plan a ≡ true) × (tree_within plan b ≡ true)
SidesFit plan (trees.IsIn v pieces) = Unit {0}
SidesFit plan (trees.Specified v) = Unit {0}
SidesFit plan (trees.Holds set text) = Unit {0}
SidesFit plan (trees.Filled set) = Unit {0}
SidesFit plan (trees.Not c) = SidesFit plan c
SidesFit plan (trees.And c d) = SidesFit plan c × SidesFit plan d
SidesFit plan (trees.Or c d) = SidesFit plan c × SidesFit plan d

of_sides : (plan : Plan) → IsOfRelations (SidesFit plan)
of_sides plan = record {
  always = tt;
  specified = λ v. tt;
  holds = λ set text. tt;
  filled = λ set. tt;
  denied = λ c h. h;
  both = λ c d h k. (h, k);
  either = λ c d h k. (h, k);
}

relations_fit : (model : Model) (plan : Plan) (site : Site)
    → HoldsOfRelations (SidesFit plan) (λ r. Each (FitsAt model plan site) (sides_of r)) (layout_of model) site
relations_fit model plan site =
    record { compared = λ left relator right h single. (h.0, h.1.0); listed = λ operand items h single. tt }

conditions_fit : (model : Model) (plan : Plan) (site : Site) (cs : List syntax.Condition)
    → Each (λ c. Each (λ r. Each (FitsAt model plan site) (sides_of r)) (relations_of c)) cs
    → Each (λ c. SidesFit plan (condition_at (layout_of model) site c)) cs
conditions_fit model plan site cs h =
    each_more (λ c. Each (λ r. Each (FitsAt model plan site) (sides_of r)) (relations_of c))
    (λ c. SidesFit plan (condition_at (layout_of model) site c))
    (condition_holds (SidesFit plan) (λ r. Each (FitsAt model plan site) (sides_of r)) (layout_of model) site
    (of_sides plan)
    (relations_fit model plan site)) cs h

conditions_hold : (model : Model) (tables : List VariantTable) (plan : Plan) → IsPlanOf model tables plan
    → HasLists plan
    → HoldsOfConditions (SidesFit plan) model
conditions_hold model tables plan is lists = record {
  always = tt;
  parts = λ c d h. h;
  whole = λ c d h k. (h, k);
  at_slot = λ i slot at tree stands.
      let site = site_at (layout_of model) i slot at in
      conditions_fit model plan site (conditions_in tree)
      (terms_fit model tables plan is lists (place_at (layout_of model) slot at) tree stands.sound site
      stands.setting).conditions;
  at_tuple = λ constraint tuple stands.
      let site = constraint_site (layout_of model) constraint tuple in
      conditions_fit model plan site (conditions_in (syntax.Constrains constraint))
      (terms_fit model tables plan is lists in_net (syntax.Constrains constraint) stands.sound site refl).conditions;
}

-- variables have numbers that may be stored
stored_within : (grain : Grain) → grain_there grain ≡ true → is_up_to (10 ^ 15) grain ≡ true
stored_within grain h =
    let ends = and_parts (is_stored grain.low) (is_stored grain.high) h in
    let low = ltb-true (unsigned_abs grain.low.millionths) (10 ^ 15) ends.0 in
    let high = ltb-true (unsigned_abs grain.high.millionths) (10 ^ 15) ends.1 in
    le-leb _ (10 ^ 15) (max-le (omega (arith, low)) (omega (arith, high)))

stored_vars : (plan : Plan) → HasDomains plan → HasStoredVars plan
stored_vars plan has = record { stored = λ v. of_var (slice_get plan.vars v) }
  where
    of_domain : (d : Domain) → domain_there plan d ≡ true → domain_size (Some d) ≤ size_limit
    of_domain (domains.Texts texts) h = omega arith
    of_domain (domains.Nums decimals grains) h =
        let few = greatest_within (10 ^ 15) grains
        (weaker grain_there (is_up_to (10 ^ 15)) grains stored_within
        (and_parts (nat_le decimals 6) (list_all grain_there grains) h).1) in
        omega (arith, few)

    at_domain : (k : ℕ) (o : Option Domain) → slice_get plan.domains k ≡ o → domain_size o ≤ size_limit
    at_domain k None e = omega arith
    at_domain k (Some d) e = of_domain d (passes_there (domain_there plan) plan.domains k d has.domains_there e)

    of_var : (o : Option Var) → domain_size (plans.domain_of plan o) ≤ size_limit
    of_var None = omega arith
    of_var (Some x) = at_domain x.domain (slice_get plan.domains x.domain) refl

-- a tree that is there is small
if_there : (b c : Bool) → (b ≡ true → c ≡ true) → (not b || c) ≡ true
if_there true c h = h refl
if_there false c h = refl

both_pass : {X : Type 0} (p q : X → Bool) (xs : List X) → list_all p xs ≡ true
    → list_all (λ x. not (p x) || q x) xs ≡ true
    → list_all q xs ≡ true
both_pass p q [] h k = refl
both_pass p q (x ∷ xs) h k =
    let first = and_parts (p x) (list_all p xs) h in
    let second = and_parts (not (p x) || q x) (list_all (λ x. not (p x) || q x) xs) k in
    and_from (q x) (list_all q xs) (ap (λ b. not b || q x) (sym first.0) ∙ second.0) (both_pass p q xs first.1 second.1)

condition_fits : (plan : Plan) → HasStoredVars plan → (c : StoredCondition) → condition_there plan c ≡ true
    → SidesFit plan (condition_of c) → condition_small plan c ≡ true
condition_fits plan vars conditions.Always there h = refl
condition_fits plan vars (conditions.Compared r a b) there h =
    let here = and_parts (term_there plan a) (term_there plan b) there in
    and_from (is_small plan a) (is_small plan b) (term_small plan vars a here.0 h.0) (term_small plan vars b here.1 h.1)
condition_fits plan vars (conditions.IsIn v pieces) there h = refl
condition_fits plan vars (conditions.Specified v) there h = refl
condition_fits plan vars (conditions.Holds set text) there h = refl
condition_fits plan vars (conditions.Filled set) there h = refl
condition_fits plan vars (conditions.Not' p c) there h = condition_fits plan vars c there h
condition_fits plan vars (conditions.And' p c q d) there h =
    let here = and_parts (condition_there plan c) (condition_there plan d) there in
    and_from (condition_small plan c) (condition_small plan d) (condition_fits plan vars c here.0 h.0)
    (condition_fits plan vars d here.1 h.1)
condition_fits plan vars (conditions.Or' p c q d) there h =
    let here = and_parts (condition_there plan c) (condition_there plan d) there in
    and_from (condition_small plan c) (condition_small plan d) (condition_fits plan vars c here.0 h.0)
    (condition_fits plan vars d here.1 h.1)

pub has_sizes : (model : Model) (tables : List VariantTable) (plan : Plan) → IsPlanOf model tables plan → HasLists plan
    → HasDomains plan
    → HasTrees plan → IsTyped model → HasSizes plan
has_sizes model tables plan is lists domains' there sound =
    let vars = stored_vars plan domains' in
    record {
      terms_small = both_pass (term_there plan) (is_small plan) plan.terms there.terms_there
          (terms_pass (λ t. tree_within plan t ≡ true) (λ t. not (term_there plan t) || is_small plan t)
          (λ t h. if_there (term_there plan t) (is_small plan t) (λ k. term_small plan vars t k h)) model tables plan is
          sound
          (terms_hold model tables plan is lists));
      conditions_small = both_pass (condition_there plan) (condition_small plan) plan.conditions there.conditions_there
          (conditions_pass (SidesFit plan) (λ c. not (condition_there plan c) || condition_small plan c)
          (λ c h. if_there (condition_there plan c) (condition_small plan c) (λ k. condition_fits plan vars c k h))
          model tables plan is sound
          (conditions_hold model tables plan is lists));
    }
