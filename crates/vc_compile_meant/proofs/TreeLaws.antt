-- What compiled terms and conditions have, where each operand of their trees has it.
use Rattle.std.proofs.Common.{◌≡◌, ℕ, Bool, true, false, ◌&&◌, List, [], ◌∷◌, ◌++◌, map, flat_map, Option, Some, None}
use Rattle.std.proofs.Common.{refl, ap, ◌∙◌, subst, if◌then◌else◌}
use Rattle.vc_value.specs.declared.value.Value.{Value}
use Rattle.vc_syntax_tree.specs.declared.Item.{Item}
use Rattle.vc_syntax_tree.specs.declared.Operand.{Operand as Name}
use Rattle.vc_syntax_tree.specs.declared.Relator.{Relator}
use Rattle.vc_syntax_tree.specs.declared.Relator.TheVariants as relators
use Rattle.vc_syntax_tree.specs.Trees.{Term, Number, Text, Operand, Negated, Combined, Applied, SumOfParts}
use Rattle.vc_syntax_tree.specs.Trees.{CountOfParts}
use Rattle.vc_syntax_tree.specs.Trees.{Relation, Compared, Within, Condition, Or, And, Not, Related, Specified, PartOf}
use Rattle.vc_syntax_tree.specs.Trees.{Dependency}
use Rattle.vc_types.specs.Occurrences.{Use, as_set, as_value, conditions_in, demanded_relations, is_equality}
use Rattle.vc_types.specs.Occurrences.{is_literal, operands_of, other_names, own_terms, relations_in, relations_of}
use Rattle.vc_types.specs.Occurrences.{specified_in, uses_in, uses_of_left, uses_of_relation, uses_of_term, values_in}
use Rattle.vc_types.specs.Occurrences.{calls_in}
use Rattle.vc_compile_plan.specs.Conditions.{compared_at, condition_at, holds_one, or_each, piece_of, relation_at}
use Rattle.vc_compile_plan.specs.Conditions.{relation_of, set_against, text_in, text_in_piece}
use Rattle.vc_compile_plan.specs.Layouts.{Layout}
use Rattle.vc_compile_plan.specs.Sites.{Site, is_set_meant, set_meant, var_meant}
use Rattle.vc_compile_plan.specs.Terms.{literal_of, lone_of, minus, minus_literal, term_at}
use Rattle.vc_compile_plan.specs.Trees as trees
use Rattle.vc_compile_valid.proofs.EachLaws.{Each, each_both}
use Rattle.vc_compile_valid.proofs.EntryLaws.{each_unmapped}
use Rattle.vc_compile_meant.proofs.FaultLaws.{each_split, each_unflat}

-- each variable that a term reads has this, and each slot over whose parts it sums
abbrev pub TermHas : (ℕ → Type 0) → (ℕ → Type 0) → trees.Term → Type 0
TermHas V W (trees.Literal a) = Unit {0}
TermHas V W (trees.Read v) = V v
TermHas V W (trees.PartSum slot c) = W slot
TermHas V W (trees.PartCount slot) = W slot
TermHas V W (trees.Applied function a) = TermHas V W a
TermHas V W (trees.Joined operator a b) = TermHas V W a × TermHas V W b

-- and each set that a condition reads
abbrev pub ConditionHas : (ℕ → Type 0) → (ℕ → Type 0) → (ℕ → Type 0) → trees.Condition → Type 0
ConditionHas V W S trees.Always = Unit {0}
ConditionHas V W S (trees.Compared r a b) = TermHas V W a × TermHas V W b
ConditionHas V W S (trees.IsIn v pieces) = V v
ConditionHas V W S (trees.Specified v) = V v
ConditionHas V W S (trees.Holds set text) = S set
ConditionHas V W S (trees.Filled set) = S set
ConditionHas V W S (trees.Not c) = ConditionHas V W S c
ConditionHas V W S (trees.And c d) = ConditionHas V W S c × ConditionHas V W S d
ConditionHas V W S (trees.Or c d) = ConditionHas V W S c × ConditionHas V W S d

-- what an operand is at a site has this
pub record IsGood (V : ℕ → Type 0) (S : ℕ → Type 0) (layout : Layout) (site : Site) (operand : Name) : Type 0 where
  pub value : is_set_meant site operand ≡ false → V (var_meant layout site operand)
  pub set : is_set_meant site operand ≡ true → S (set_meant layout site operand)

pub record IsGoodUse (V : ℕ → Type 0) (S : ℕ → Type 0) (layout : Layout) (site : Site) (u : Use) : Type 0 where
  pub good : IsGood V S layout site u.operand
  pub single : u.for_set ≡ false → is_set_meant site u.operand ≡ false

-- a term
minus_has : (V W : ℕ → Type 0) (a : Option Value) (term : trees.Term) → TermHas V W term → TermHas V W (minus a term)
minus_has V W None term h = h
minus_has V W (Some a) term h = tt

pub term_has : (V W : ℕ → Type 0) (layout : Layout) (site : Site) → W site.own → (term : Term)
    → Each (λ o. V (var_meant layout site o)) (operands_of term) → TermHas V W (term_at layout site term)
term_has V W layout site own (Number leaf) h = tt
term_has V W layout site own (Text leaf) h = tt
term_has V W layout site own (Operand operand) h = h.0
term_has V W layout site own (Negated term) h =
    minus_has V W (minus_literal term) (term_at layout site term) (term_has V W layout site own term h)
term_has V W layout site own (Combined left operator right) h =
    let both = each_split (λ o. V (var_meant layout site o)) (operands_of left) (operands_of right) h in
    (term_has V W layout site own left both.0, term_has V W layout site own right both.1)
term_has V W layout site own (Applied function term) h = term_has V W layout site own term h
term_has V W layout site own (SumOfParts name) h = own
term_has V W layout site own CountOfParts h = own

-- operands that stand for values
pub values_of : (V S : ℕ → Type 0) (layout : Layout) (site : Site) (operands : List Name)
    → Each (IsGoodUse V S layout site) (map as_value operands) → Each (λ o. V (var_meant layout site o)) operands
values_of V S layout site [] h = tt
values_of V S layout site (o ∷ operands) h =
    let first = h.0 in (first.good.value (first.single refl), values_of V S layout site operands h.1)

pub used_term_has : (V W S : ℕ → Type 0) (layout : Layout) (site : Site) → W site.own → (term : Term)
    → Each (IsGoodUse V S layout site) (uses_of_term term) → TermHas V W (term_at layout site term)
used_term_has V W S layout site own term h =
    term_has V W layout site own term (values_of V S layout site (operands_of term) h)

-- the left side of a comparison
pub left_uses : (P : Use → Type 0) (b : Bool) (term : Term) → lone_of term ≡ None → Each P (uses_of_left b term)
    → Each P (uses_of_term term)
left_uses P false term none h = h
left_uses P true (Number leaf) none h = h
left_uses P true (Text leaf) none h = h
left_uses P true (Operand operand) none h = absurd (cc)
left_uses P true (Negated term) none h = h
left_uses P true (Combined left operator right) none h = h
left_uses P true (Applied function term) none h = h
left_uses P true (SumOfParts name) none h = h
left_uses P true CountOfParts none h = h

pub lone_good : (V S : ℕ → Type 0) (layout : Layout) (site : Site) (b : Bool) (operand : Name)
    → Each (IsGoodUse V S layout site) (uses_of_left b (Operand operand)) → IsGood V S layout site operand
lone_good V S layout site true operand h = let first = h.0 in first.good
lone_good V S layout site false operand h = let first = h.0 in first.good

against_has : (V W S : ℕ → Type 0) (relator : Relator) (set text : ℕ) → S set
    → ConditionHas V W S (set_against relator (trees.Holds set text))
against_has V W S relators.Equal set text h = h
against_has V W S relators.Unequal set text h = h
against_has V W S relators.Less set text h = h
against_has V W S relators.LessEqual set text h = h
against_has V W S relators.Greater set text h = h
against_has V W S relators.GreaterEqual set text h = h

or_each_has : (V W S : ℕ → Type 0) (before : trees.Condition) (set : ℕ) (texts : List ℕ) → S set
    → ConditionHas V W S before
    → ConditionHas V W S (or_each before set texts)
or_each_has V W S before set [] h b = b
or_each_has V W S before set (text ∷ texts) h b =
    or_each_has V W S (trees.Or before (trees.Holds set text)) set texts h (b, h)

holds_has : (V W S : ℕ → Type 0) (set : ℕ) (texts : List ℕ) → S set → ConditionHas V W S (holds_one set texts)
holds_has V W S set [] h = tt
holds_has V W S set (text ∷ texts) h = or_each_has V W S (trees.Holds set text) set texts h h

compared_has : (V W S : ℕ → Type 0) (layout : Layout) (site : Site) → W site.own
    → (left : Term) (relator : Relator) (right : Term)
    → Each (IsGoodUse V S layout site) (uses_of_relation (Compared left relator right)) → (o : Option Name)
    → lone_of left ≡ o
    → ConditionHas V W S (compared_at layout site o left relator right)
compared_has V W S layout site own left relator right h None none =
    let both
    = each_split (IsGoodUse V S layout site) (uses_of_left (is_equality relator && is_literal right) left)
    (uses_of_term right) h in (
      used_term_has V W S layout site own left
          (left_uses (IsGoodUse V S layout site) (is_equality relator && is_literal right) left none both.0),
      used_term_has V W S layout site own right both.1,
    )
compared_has V W S layout site own left relator right h (Some operand) lone = of_left left lone h
  where
    of_left : (term : Term) → lone_of term ≡ Some operand
        → Each (IsGoodUse V S layout site) (uses_of_relation (Compared term relator right))
        → ConditionHas V W S (compared_at layout site (Some operand) term relator right)
    of_left (Number leaf) e h = absurd (cc)
    of_left (Text leaf) e h = absurd (cc)
    of_left (Negated term) e h = absurd (cc)
    of_left (Combined first operator second) e h = absurd (cc)
    of_left (Applied function term) e h = absurd (cc)
    of_left (SumOfParts name) e h = absurd (cc)
    of_left CountOfParts e h = absurd (cc)
    of_left (Operand o) e h =
        let both
        = each_split (IsGoodUse V S layout site)
        (uses_of_left (is_equality relator && is_literal right) (Operand o))
        (uses_of_term right) h in
        let same : o ≡ operand = cc in
        by o same (lone_good V S layout site (is_equality relator && is_literal right) o both.0)
        (used_term_has V W S layout site own right both.1) (is_set_meant site operand) refl
      where
        by : (o : Name) → o ≡ operand → IsGood V S layout site o → TermHas V W (term_at layout site right) → (b : Bool)
            → is_set_meant site operand ≡ b
            → ConditionHas V W S
            (if b then set_against relator
            (trees.Holds (set_meant layout site operand) (text_in (literal_of layout.texts right)))
            else trees.Compared (relation_of relator) (term_at layout site (Operand o)) (term_at layout site right))
        by o same good later true is =
            against_has V W S relator (set_meant layout site operand) (text_in (literal_of layout.texts right))
            (subst (λ x. S (set_meant layout site x)) same (good.set (ap (is_set_meant site) same ∙ is)))
        by o same good later false is = (good.value (ap (is_set_meant site) same ∙ is), later)

within_has : (V W S : ℕ → Type 0) (layout : Layout) (site : Site) (operand : Name) (listed : List Item)
    → IsGood V S layout site operand
    → (b : Bool) → is_set_meant site operand ≡ b
    → ConditionHas V W S
    (if b then holds_one (set_meant layout site operand) (map text_in_piece (map (piece_of layout.texts) listed))
    else trees.IsIn (var_meant layout site operand) (map (piece_of layout.texts) listed))
within_has V W S layout site operand listed good true is =
    holds_has V W S (set_meant layout site operand) (map text_in_piece (map (piece_of layout.texts) listed))
    (good.set is)
within_has V W S layout site operand listed good false is = good.value is

relation_has : (V W S : ℕ → Type 0) (layout : Layout) (site : Site) → W site.own → (relation : Relation)
    → Each (IsGoodUse V S layout site) (uses_of_relation relation)
    → ConditionHas V W S (relation_at layout site relation)
relation_has V W S layout site own (Compared left relator right) h =
    compared_has V W S layout site own left relator right h (lone_of left) refl
relation_has V W S layout site own (Within operand listed) h =
    let first = h.0 in within_has V W S layout site operand listed first.good (is_set_meant site operand) refl

specified_has : (V W S : ℕ → Type 0) (layout : Layout) (site : Site) (operand : Name) → IsGood V S layout site operand
    → (b : Bool)
    → is_set_meant site operand ≡ b
    → ConditionHas V W S
    (if b then trees.Filled (set_meant layout site operand) else trees.Specified (var_meant layout site operand))
specified_has V W S layout site operand good true is = good.set is
specified_has V W S layout site operand good false is = good.value is

-- a condition
pub record AreGood (V S : ℕ → Type 0) (layout : Layout) (site : Site) (c : Condition) : Type 0 where
  pub relations : Each (λ r. Each (IsGoodUse V S layout site) (uses_of_relation r)) (relations_of c)
  pub specified : Each (λ o. IsGoodUse V S layout site (as_set o)) (specified_in c)

pub condition_has : (V W S : ℕ → Type 0) (layout : Layout) (site : Site) → W site.own → (c : Condition)
    → Each (λ r. Each (IsGoodUse V S layout site) (uses_of_relation r)) (relations_of c)
    → Each (λ o. IsGoodUse V S layout site (as_set o)) (specified_in c)
    → ConditionHas V W S (condition_at layout site c)
condition_has V W S layout site own (Or left right) h k =
    let rs
    = each_split (λ r. Each (IsGoodUse V S layout site) (uses_of_relation r)) (relations_of left)
    (relations_of right) h in
    let os = each_split (λ o. IsGoodUse V S layout site (as_set o)) (specified_in left) (specified_in right) k in
    (condition_has V W S layout site own left rs.0 os.0, condition_has V W S layout site own right rs.1 os.1)
condition_has V W S layout site own (And left right) h k =
    let rs
    = each_split (λ r. Each (IsGoodUse V S layout site) (uses_of_relation r)) (relations_of left)
    (relations_of right) h in
    let os = each_split (λ o. IsGoodUse V S layout site (as_set o)) (specified_in left) (specified_in right) k in
    (condition_has V W S layout site own left rs.0 os.0, condition_has V W S layout site own right rs.1 os.1)
condition_has V W S layout site own (Not condition) h k = condition_has V W S layout site own condition h k
condition_has V W S layout site own (Related relation) h k = relation_has V W S layout site own relation h.0
condition_has V W S layout site own (Specified operand) h k =
    let first = k.0 in specified_has V W S layout site operand first.good (is_set_meant site operand) refl
condition_has V W S layout site own (PartOf part whole) h k = tt

-- the uses of a dependency are those of its conditions, and of its terms
pub uses_by_condition : (P : Use → Type 0) (tree : Dependency) → Each P (uses_in tree)
    → Each (λ c. (Each (λ r. Each P (uses_of_relation r)) (relations_of c))
    × (Each (λ o. P (as_set o)) (specified_in c))) (conditions_in tree)
uses_by_condition P tree h =
    let relations = flat_map uses_of_relation (relations_in tree) in
    let specified = flat_map specified_in (conditions_in tree) in
    let front = each_split P (relations ++ map as_set specified)
    (flat_map uses_of_term (own_terms tree ++ flat_map values_in (calls_in tree)) ++ map as_value (other_names tree))
    h in
    let both = each_split P relations (map as_set specified) front.0 in
    let all = each_unflat P uses_of_relation (relations_in tree) both.0 in
    let own
    = each_split (λ r. Each P (uses_of_relation r)) (flat_map relations_of (conditions_in tree))
    (demanded_relations tree) all in
    each_both (λ c. Each (λ r. Each P (uses_of_relation r)) (relations_of c))
    (λ c. Each (λ o. P (as_set o)) (specified_in c))
    (conditions_in tree)
    (each_unflat (λ r. Each P (uses_of_relation r)) relations_of (conditions_in tree) own.0)
    (each_unflat (λ o. P (as_set o)) specified_in (conditions_in tree) (each_unmapped P as_set specified both.1))

pub uses_by_demand : (P : Use → Type 0) (tree : Dependency) → Each P (uses_in tree)
    → Each (λ r. Each P (uses_of_relation r)) (demanded_relations tree)
uses_by_demand P tree h =
    let relations = flat_map uses_of_relation (relations_in tree) in
    let specified = flat_map specified_in (conditions_in tree) in
    let front = each_split P (relations ++ map as_set specified)
    (flat_map uses_of_term (own_terms tree ++ flat_map values_in (calls_in tree)) ++ map as_value (other_names tree))
    h in
    let all
    = each_unflat P uses_of_relation (relations_in tree)
    (each_split P relations (map as_set specified) front.0).0 in
    (each_split (λ r. Each P (uses_of_relation r)) (flat_map relations_of (conditions_in tree))
    (demanded_relations tree) all).1

pub uses_by_term : (P : Use → Type 0) (tree : Dependency) → Each P (uses_in tree)
    → Each (λ t. Each P (uses_of_term t)) (own_terms tree ++ flat_map values_in (calls_in tree))
uses_by_term P tree h =
    let relations = flat_map uses_of_relation (relations_in tree) in
    let specified = flat_map specified_in (conditions_in tree) in
    let terms = own_terms tree ++ flat_map values_in (calls_in tree) in
    let back
    = each_split P (relations ++ map as_set specified)
    (flat_map uses_of_term terms ++ map as_value (other_names tree)) h in
    each_unflat P uses_of_term terms
    (each_split P (flat_map uses_of_term terms) (map as_value (other_names tree)) back.1).0

pub uses_by_name : (P : Use → Type 0) (tree : Dependency) → Each P (uses_in tree)
    → Each (λ o. P (as_value o)) (other_names tree)
uses_by_name P tree h =
    let relations = flat_map uses_of_relation (relations_in tree) in
    let specified = flat_map specified_in (conditions_in tree) in
    let terms = own_terms tree ++ flat_map values_in (calls_in tree) in
    let back
    = each_split P (relations ++ map as_set specified)
    (flat_map uses_of_term terms ++ map as_value (other_names tree)) h in
    each_unmapped P as_value (other_names tree)
    (each_split P (flat_map uses_of_term terms) (map as_value (other_names tree)) back.1).1
