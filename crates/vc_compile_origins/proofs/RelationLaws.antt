-- What conditions have where each of their relations has it, and where the terms of a dependency stand.
use Rattle.std.proofs.Common.{◌≡◌, ℕ, Bool, true, false, cond, List, [], ◌∷◌, ◌++◌, map, flat_map, Option, Some, None}
use Rattle.std.proofs.Common.{refl, sym, ap, ◌∙◌}
use Rattle.vc_syntax_tree.specs.declared.Item.{Item}
use Rattle.vc_syntax_tree.specs.declared.Operand.{Operand as Name}
use Rattle.vc_syntax_tree.specs.declared.Relator.{Relator}
use Rattle.vc_syntax_tree.specs.declared.Relator.TheVariants as relators
use Rattle.vc_syntax_tree.specs.Trees as syntax
use Rattle.vc_types.specs.Occurrences.{Use, as_set, as_value, calls_in, conditions_in, demanded_relations, other_names}
use Rattle.vc_types.specs.Occurrences.{own_terms, relations_in, relations_of, sides_of, specified_in, terms_in, uses_in}
use Rattle.vc_types.specs.Occurrences.{uses_of_relation, uses_of_term, values_in}
use Rattle.vc_compile_plan.specs.Conditions.{compared_at, condition_at, holds_one, or_each, piece_of, relation_of}
use Rattle.vc_compile_plan.specs.Conditions.{set_against, text_in, text_in_piece}
use Rattle.vc_compile_plan.specs.Layouts.{Layout}
use Rattle.vc_compile_plan.specs.Sites.{Site, is_set_meant, set_meant, var_meant}
use Rattle.vc_compile_plan.specs.Terms.{literal_of, lone_of, term_at}
use Rattle.vc_compile_plan.specs.Trees as trees
use Rattle.vc_compile_valid.proofs.EachLaws.{Each}
use Rattle.vc_compile_meant.proofs.FaultLaws.{each_split, each_unflat}

-- a property of conditions that only relations of values may lack
pub record IsOfRelations (Q : trees.Condition → Type 0) : Type 0 where
  pub always : Q trees.Always
  pub specified : (v : ℕ) → Q (trees.Specified v)
  pub holds : (set text : ℕ) → Q (trees.Holds set text)
  pub filled : (set : ℕ) → Q (trees.Filled set)
  pub denied : (c : trees.Condition) → Q c → Q (trees.Not c)
  pub both : (c d : trees.Condition) → Q c → Q d → Q (trees.And c d)
  pub either : (c d : trees.Condition) → Q c → Q d → Q (trees.Or c d)

against_set : (Q : trees.Condition → Type 0) → IsOfRelations Q → (relator : Relator) (set text : ℕ)
    → Q (set_against relator (trees.Holds set text))
against_set Q of relators.Equal set text = of.holds set text
against_set Q of relators.Unequal set text = of.denied (trees.Holds set text) (of.holds set text)
against_set Q of relators.Less set text = of.holds set text
against_set Q of relators.LessEqual set text = of.holds set text
against_set Q of relators.Greater set text = of.holds set text
against_set Q of relators.GreaterEqual set text = of.holds set text

each_or : (Q : trees.Condition → Type 0) → IsOfRelations Q → (before : trees.Condition) (set : ℕ) (texts : List ℕ)
    → Q before
    → Q (or_each before set texts)
each_or Q of before set [] h = h
each_or Q of before set (text ∷ texts) h =
    each_or Q of (trees.Or before (trees.Holds set text)) set texts
    (of.either before (trees.Holds set text) h (of.holds set text))

one_held : (Q : trees.Condition → Type 0) → IsOfRelations Q → (set : ℕ) (texts : List ℕ) → Q (holds_one set texts)
one_held Q of set [] = of.always
one_held Q of set (text ∷ texts) = each_or Q of (trees.Holds set text) set texts (of.holds set text)

-- what each relation of values has where it is compiled: neither its lone operand at the left nor the one before IN is
-- a set
pub record HoldsOfRelations (Q : trees.Condition → Type 0) (R : syntax.Relation → Type 0) (layout : Layout)
    (site : Site) : Type 0 where
  pub compared : (left : syntax.Term) (relator : Relator) (right : syntax.Term) → R (syntax.Compared left relator right)
      → ((operand : Name) → lone_of left ≡ Some operand → is_set_meant site operand ≡ false)
      → Q (trees.Compared (relation_of relator) (term_at layout site left) (term_at layout site right))
  pub listed : (operand : Name) (items : List Item) → R (syntax.Within operand items)
      → is_set_meant site operand ≡ false
      → Q (trees.IsIn (var_meant layout site operand) (map (piece_of layout.texts) items))

pub condition_holds : (Q : trees.Condition → Type 0) (R : syntax.Relation → Type 0) (layout : Layout) (site : Site)
    → IsOfRelations Q
    → HoldsOfRelations Q R layout site → (c : syntax.Condition) → Each R (relations_of c)
    → Q (condition_at layout site c)
condition_holds Q R layout site of made (syntax.Or left right) h =
    let parts = each_split R (relations_of left) (relations_of right) h in
    of.either (condition_at layout site left) (condition_at layout site right)
    (condition_holds Q R layout site of made left parts.0)
    (condition_holds Q R layout site of made right parts.1)
condition_holds Q R layout site of made (syntax.And left right) h =
    let parts = each_split R (relations_of left) (relations_of right) h in
    of.both (condition_at layout site left) (condition_at layout site right)
    (condition_holds Q R layout site of made left parts.0)
    (condition_holds Q R layout site of made right parts.1)
condition_holds Q R layout site of made (syntax.Not condition) h =
    of.denied (condition_at layout site condition) (condition_holds Q R layout site of made condition h)
condition_holds Q R layout site of made (syntax.Related (syntax.Compared left relator right)) h = by (lone_of left) refl
  where
    of_set : (operand : Name) → lone_of left ≡ Some operand → (b : Bool) → is_set_meant site operand ≡ b
        → Q (cond b (set_against relator
        (trees.Holds (set_meant layout site operand) (text_in (literal_of layout.texts right))))
        (trees.Compared (relation_of relator) (term_at layout site left) (term_at layout site right)))
    of_set operand e true set = against_set Q of relator (set_meant layout site operand)
        (text_in (literal_of layout.texts right))
    of_set operand e false single =
        made.compared left relator right h.0 (λ name f.
        let both : Some operand ≡ Some name = sym e ∙ f in
        let same : operand ≡ name = cc in
        ap (is_set_meant site) (sym same) ∙ single)

    by : (o : Option Name) → lone_of left ≡ o → Q (compared_at layout site o left relator right)
    by None e = made.compared left relator right h.0 (λ name f. absurd (let none : None ≡ Some name = sym e ∙ f in cc))
    by (Some operand) e = of_set operand e (is_set_meant site operand) refl
condition_holds Q R layout site of made (syntax.Related (syntax.Within operand items)) h = by
    (is_set_meant site operand) refl
  where
    by : (b : Bool) → is_set_meant site operand ≡ b
        → Q (cond b (holds_one (set_meant layout site operand) (map text_in_piece (map (piece_of layout.texts) items)))
        (trees.IsIn (var_meant layout site operand) (map (piece_of layout.texts) items)))
    by true set = one_held Q of (set_meant layout site operand) (map text_in_piece (map (piece_of layout.texts) items))
    by false single = made.listed operand items h.0 single
condition_holds Q R layout site of made (syntax.Specified operand) h = by (is_set_meant site operand)
  where
    by : (b : Bool)
        → Q (cond b (trees.Filled (set_meant layout site operand)) (trees.Specified (var_meant layout site operand)))
    by true = of.filled (set_meant layout site operand)
    by false = of.specified (var_meant layout site operand)
condition_holds Q R layout site of made (syntax.PartOf part whole) h = of.always

-- the terms of a dependency are the sides of its conditions' relations, of those that it demands, and what is given
pub record TermsBy (P : syntax.Term → Type 0) (tree : syntax.Dependency) : Type 0 where
  pub conditions : Each (λ c. Each (λ r. Each P (sides_of r)) (relations_of c)) (conditions_in tree)
  pub demanded : Each (λ r. Each P (sides_of r)) (demanded_relations tree)
  pub given : Each P (own_terms tree ++ flat_map values_in (calls_in tree))

pub terms_by : (P : syntax.Term → Type 0) (tree : syntax.Dependency) → Each P (terms_in tree) → TermsBy P tree
terms_by P tree h =
    let both = each_split P (flat_map sides_of (relations_in tree))
    (own_terms tree ++ flat_map values_in (calls_in tree)) h in
    let all = each_split (λ r. Each P (sides_of r)) (flat_map relations_of (conditions_in tree))
    (demanded_relations tree)
    (each_unflat P sides_of (relations_in tree) both.0) in
    record {
      conditions = each_unflat (λ r. Each P (sides_of r)) relations_of (conditions_in tree) all.0;
      demanded = all.1;
      given = both.1;
    }

-- what is used is used in relations, one by one
pub uses_by_relation : (P : Use → Type 0) (tree : syntax.Dependency) → Each P (uses_in tree)
    → Each (λ r. Each P (uses_of_relation r)) (relations_in tree)
uses_by_relation P tree h =
    let relations = flat_map uses_of_relation (relations_in tree) in
    let specified = flat_map specified_in (conditions_in tree) in
    let front = each_split P (relations ++ map as_set specified)
    (flat_map uses_of_term (own_terms tree ++ flat_map values_in (calls_in tree)) ++ map as_value
    (other_names tree)) h in
    each_unflat P uses_of_relation (relations_in tree) (each_split P relations (map as_set specified) front.0).0
