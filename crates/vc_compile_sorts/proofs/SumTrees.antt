-- Conditions and terms whose sums over parts are of numbers, where each sum of their trees is.
use Rattle.std.proofs.Common.{◌≡◌, Bool, true, ◌&&◌, ◌++◌, flat_map, Option, Some, None, refl, ap, ◌∙◌}
use Rattle.std.specs.List.{list_any}
use Rattle.std.proofs.lemmas.Bool.{and_from}
use Rattle.vc_value.specs.declared.value.Value.{Value}
use Rattle.vc_plan.specs.PartSums.{condition_sums_numbers, is_part_number, sums_numbers}
use Rattle.vc_plan.specs.declared.conditions.Condition.{Condition as StoredCondition}
use Rattle.vc_plan.specs.declared.conditions.Condition.TheVariants as conditions
use Rattle.vc_plan.specs.declared.plans.Plan.{Plan}
use Rattle.vc_plan.specs.declared.terms.Term.{Term as StoredTerm}
use Rattle.vc_plan.specs.declared.terms.Term.TheVariants as terms
use Rattle.vc_syntax_tree.specs.declared.NameLeaf.{NameLeaf}
use Rattle.vc_syntax_tree.specs.Trees.{Term, Number, Text, Operand, Negated, Combined, Applied, SumOfParts}
use Rattle.vc_syntax_tree.specs.Trees.{CountOfParts}
use Rattle.vc_syntax_tree.specs.Trees.{Relation, Dependency}
use Rattle.vc_types.specs.Looking.{characteristic_named}
use Rattle.vc_types.specs.Occurrences.{calls_in, conditions_in, demanded_relations, own_terms, relations_of, sides_of}
use Rattle.vc_types.specs.Occurrences.{summed_in, summed_names, terms_in, values_in}
use Rattle.vc_compile_plan.specs.Conditions.{condition_at}
use Rattle.vc_compile_plan.specs.Layouts.{Layout}
use Rattle.vc_compile_plan.specs.Sites.{Site, number_or_zero}
use Rattle.vc_compile_plan.specs.Terms.{minus, minus_literal, term_at}
use Rattle.vc_compile_plan.specs.Trees as trees
use Rattle.vc_compile_plan.specs.Trees.{condition_of}
use Rattle.vc_compile_valid.proofs.EachLaws.{Each, each_flat, each_more}
use Rattle.vc_compile_meant.proofs.FaultLaws.{each_split, each_unflat}
use Rattle.vc_compile_origins.proofs.RelationLaws.{HoldsOfRelations, IsOfRelations, condition_holds, terms_by}

-- whether each sum of a tree is of numbers
abbrev pub sums_tree : Plan → trees.Term → Bool
sums_tree plan (trees.Literal a) = true
sums_tree plan (trees.Read v) = true
sums_tree plan (trees.PartSum slot c) = list_any (is_part_number plan slot c) plan.vars
sums_tree plan (trees.PartCount slot) = true
sums_tree plan (trees.Applied function a) = sums_tree plan a
sums_tree plan (trees.Joined operator a b) = sums_tree plan a && sums_tree plan b

abbrev pub asks_sums : Plan → trees.Condition → Bool
asks_sums plan trees.Always = true
asks_sums plan (trees.Compared r a b) = sums_tree plan a && sums_tree plan b
asks_sums plan (trees.IsIn v pieces) = true
asks_sums plan (trees.Specified v) = true
asks_sums plan (trees.Holds set text) = true
asks_sums plan (trees.Filled set) = true
asks_sums plan (trees.Not c) = asks_sums plan c
asks_sums plan (trees.And c d) = asks_sums plan c && asks_sums plan d
asks_sums plan (trees.Or c d) = asks_sums plan c && asks_sums plan d

pub sums_same : (plan : Plan) (t : StoredTerm) → sums_numbers plan t ≡ sums_tree plan (trees.term_of t)
sums_same plan (terms.Literal a) = refl
sums_same plan (terms.Read v) = refl
sums_same plan (terms.PartSum slot c) = refl
sums_same plan (terms.PartCount slot) = refl
sums_same plan (terms.Applied' function p a) = sums_same plan a
sums_same plan (terms.Joined' operator p a q b) =
    ap (λ x. x && sums_numbers plan b) (sums_same plan a) ∙ ap (λ x. sums_tree plan (trees.term_of a) && x)
    (sums_same plan b)

pub asked_same : (plan : Plan) (c : StoredCondition) → condition_sums_numbers plan c ≡ asks_sums plan (condition_of c)
asked_same plan conditions.Always = refl
asked_same plan (conditions.Compared r a b) =
    ap (λ x. x && sums_numbers plan b) (sums_same plan a) ∙ ap (λ x. sums_tree plan (trees.term_of a) && x)
    (sums_same plan b)
asked_same plan (conditions.IsIn v pieces) = refl
asked_same plan (conditions.Specified v) = refl
asked_same plan (conditions.Holds set text) = refl
asked_same plan (conditions.Filled set) = refl
asked_same plan (conditions.Not' p c) = asked_same plan c
asked_same plan (conditions.And' p c q d) =
    ap (λ x. x && condition_sums_numbers plan d) (asked_same plan c) ∙ ap (λ x. asks_sums plan (condition_of c) && x)
    (asked_same plan d)
asked_same plan (conditions.Or' p c q d) =
    ap (λ x. x && condition_sums_numbers plan d) (asked_same plan c) ∙ ap (λ x. asks_sums plan (condition_of c) && x)
    (asked_same plan d)

-- a characteristic that a part of the site's slot has as a number
abbrev pub IsSummed : Plan → Layout → Site → NameLeaf → Type 0
IsSummed plan layout site name =
    list_any (is_part_number plan site.own (number_or_zero
    (characteristic_named layout.model name.name))) plan.vars ≡ true

-- a term
minus_summed : (plan : Plan) (a : Option Value) (t : trees.Term) → sums_tree plan t ≡ true
    → sums_tree plan (minus a t) ≡ true
minus_summed plan None t h = h
minus_summed plan (Some a) t h = refl

pub term_summed : (plan : Plan) (layout : Layout) (site : Site) (t : Term)
    → Each (IsSummed plan layout site) (summed_in t)
    → sums_tree plan (term_at layout site t) ≡ true
term_summed plan layout site (Number leaf) h = refl
term_summed plan layout site (Text leaf) h = refl
term_summed plan layout site (Operand operand) h = refl
term_summed plan layout site (Negated t) h =
    minus_summed plan (minus_literal t) (term_at layout site t) (term_summed plan layout site t h)
term_summed plan layout site (Combined left operator right) h =
    let both = each_split (IsSummed plan layout site) (summed_in left) (summed_in right) h in
    and_from (sums_tree plan (term_at layout site left)) (sums_tree plan (term_at layout site right))
    (term_summed plan layout site left both.0) (term_summed plan layout site right both.1)
term_summed plan layout site (Applied function t) h = term_summed plan layout site t h
term_summed plan layout site (SumOfParts name) h = h.0
term_summed plan layout site CountOfParts h = refl

-- a condition
summed_of_relations : (plan : Plan) → IsOfRelations (λ c. asks_sums plan c ≡ true)
summed_of_relations plan = record {
  always = refl;
  specified = λ v. refl;
  holds = λ set text. refl;
  filled = λ set. refl;
  denied = λ c h. h;
  both = λ c d h k. and_from (asks_sums plan c) (asks_sums plan d) h k;
  either = λ c d h k. and_from (asks_sums plan c) (asks_sums plan d) h k;
}

relations_summed : (plan : Plan) (layout : Layout) (site : Site)
    → HoldsOfRelations (λ c. asks_sums plan c ≡ true)
    (λ r. Each (λ t. sums_tree plan (term_at layout site t) ≡ true) (sides_of r)) layout site
relations_summed plan layout site = record {
  compared = λ left relator right h single.
      let second = h.1 in
      and_from (sums_tree plan (term_at layout site left)) (sums_tree plan (term_at layout site right)) h.0 second.0;
  listed = λ operand items h single. refl;
}

-- what a tree of such sums asks and means
pub record IsSummedTree (plan : Plan) (layout : Layout) (site : Site) (tree : Dependency) : Type 0 where
  pub conditions : Each (λ c. asks_sums plan (condition_at layout site c) ≡ true) (conditions_in tree)
  pub terms : Each (λ t. sums_tree plan (term_at layout site t) ≡ true)
      (own_terms tree ++ flat_map values_in (calls_in tree))
  pub sides : Each (λ t. sums_tree plan (term_at layout site t) ≡ true) (flat_map sides_of (demanded_relations tree))

pub tree_summed : (plan : Plan) (layout : Layout) (site : Site) (tree : Dependency)
    → Each (IsSummed plan layout site) (summed_names tree)
    → IsSummedTree plan layout site tree
tree_summed plan layout site tree h =
    let Summed : Term → Type 0 = λ t. sums_tree plan (term_at layout site t) ≡ true in
    let Sides : Relation → Type 0 = λ r. Each Summed (sides_of r) in
    let all = terms_by Summed tree
    (each_more (λ t. Each (IsSummed plan layout site) (summed_in t)) Summed (term_summed plan layout site)
    (terms_in tree)
    (each_unflat (IsSummed plan layout site) summed_in (terms_in tree) h)) in
    record {
      conditions = each_more (λ c. Each Sides (relations_of c))
          (λ c. asks_sums plan (condition_at layout site c) ≡ true)
          (condition_holds (λ c. asks_sums plan c ≡ true) Sides layout site (summed_of_relations plan)
          (relations_summed plan layout site))
          (conditions_in tree) all.conditions;
      terms = all.given;
      sides = each_flat Summed sides_of (demanded_relations tree) all.demanded;
    }
