-- What compiled terms and conditions say: values, texts and characteristics that the plan has.
use Rattle.std.proofs.Common.{◌≡◌, ℕ, Bool, true, false, nat_lt, ◌^◌, List, [], ◌∷◌, length, map, Option, Some, None}
use Rattle.std.proofs.Common.{refl, ap, ◌∙◌, subst, if◌then◌else◌}
use Rattle.std.specs.List.{list_all}
use Rattle.std.proofs.lemmas.Bool.{and_from, and_parts}
use Rattle.std.proofs.lemmas.List.{length-map}
use Rattle.vc_value.specs.declared.decimal.Dec.{Dec}
use Rattle.vc_value.specs.declared.value.Value.{Value}
use Rattle.vc_value.specs.declared.value.Value.TheVariants as values
use Rattle.vc_model_parts.specs.declared.parts.Model.{Model}
use Rattle.vc_plan.specs.Ranges.{condition_there, is_of, is_stored, piece_there, term_there, value_there}
use Rattle.vc_plan.specs.declared.conditions.Condition.{Condition as StoredCondition}
use Rattle.vc_plan.specs.declared.conditions.Condition.TheVariants as conditions
use Rattle.vc_plan.specs.declared.plans.Plan.{Plan}
use Rattle.vc_plan.specs.declared.terms.Term.{Term as StoredTerm}
use Rattle.vc_plan.specs.declared.terms.Term.TheVariants as terms
use Rattle.vc_syntax_tree.specs.declared.Item.{Item}
use Rattle.vc_syntax_tree.specs.declared.Item.TheVariants as items
use Rattle.vc_syntax_tree.specs.declared.NameLeaf.{NameLeaf}
use Rattle.vc_syntax_tree.specs.declared.Operand.{Operand as Name}
use Rattle.vc_syntax_tree.specs.declared.Relator.{Relator}
use Rattle.vc_syntax_tree.specs.declared.Relator.TheVariants as relators
use Rattle.vc_syntax_tree.specs.declared.SignedNumber.{SignedNumber}
use Rattle.vc_syntax_tree.specs.Trees.{Term, Number, Text, Operand, Negated, Combined, Applied, SumOfParts}
use Rattle.vc_syntax_tree.specs.Trees.{CountOfParts}
use Rattle.vc_syntax_tree.specs.Trees.{Relation, Compared, Within, Condition, Or, And, Not, Related, Specified, PartOf}
use Rattle.vc_table.specs.declared.table.VariantTable.{VariantTable}
use Rattle.vc_types.specs.Looking.{characteristic_named}
use Rattle.vc_types.specs.Occurrences.{relations_of, sides_of, summed_in}
use Rattle.vc_compile_plan.specs.Conditions.{compared_at, condition_at, holds_one, number_of, or_each, piece_of}
use Rattle.vc_compile_plan.specs.Conditions.{relation_at, relation_of, set_against, text_in, text_in_piece}
use Rattle.vc_compile_plan.specs.Layouts.{layout_of}
use Rattle.vc_compile_plan.specs.PlanOf.{IsPlanOf}
use Rattle.vc_compile_plan.specs.Sites.{Site, is_set_meant, number_or_zero, set_meant, var_meant}
use Rattle.vc_compile_plan.specs.Tables.{characteristic_from}
use Rattle.vc_compile_plan.specs.Terms.{literal_of, lone_of, minus, minus_literal, opposite, term_at}
use Rattle.vc_compile_plan.specs.Texts.{text_number, texts_in_item, texts_in_term, texts_of}
use Rattle.vc_compile_plan.specs.Trees as trees
use Rattle.vc_compile_valid.proofs.EachLaws.{Each, each_mapped, each_more, each_passes}
use Rattle.vc_compile_meant.proofs.FaultLaws.{each_split}
use Rattle.vc_compile_meant.proofs.TreeLaws.{ConditionHas, TermHas}
use Rattle.vc_compile_origins.proofs.SignLaws.{minus_size}
use Rattle.vc_compile_ranges.specs.Numbers.{is_stored_item, listed_in, stores_numbers}
use Rattle.vc_compile_ranges.proofs.TextLaws.{IsNumbered}

-- a variable, a set and a slot that the plan has
abbrev pub HasVar : Plan → ℕ → Type 0
HasVar plan v = is_of plan.vars v ≡ true

abbrev pub HasSet : Plan → ℕ → Type 0
HasSet plan s = is_of plan.sets s ≡ true

abbrev pub HasSlot : Plan → ℕ → Type 0
HasSlot plan i = is_of plan.slots i ≡ true

-- what a term, and a condition, says beside what it reads
abbrev pub TermSays : Plan → trees.Term → Type 0
TermSays plan (trees.Literal a) = value_there plan a ≡ true
TermSays plan (trees.Read v) = Unit {0}
TermSays plan (trees.PartSum slot c) = is_of plan.characteristics c ≡ true
TermSays plan (trees.PartCount slot) = Unit {0}
TermSays plan (trees.Applied function a) = TermSays plan a
TermSays plan (trees.Joined operator a b) = TermSays plan a × TermSays plan b

abbrev pub ConditionSays : Plan → trees.Condition → Type 0
ConditionSays plan trees.Always = Unit {0}
ConditionSays plan (trees.Compared r a b) = TermSays plan a × TermSays plan b
ConditionSays plan (trees.IsIn v pieces) = Each (λ p. piece_there plan p ≡ true) pieces
ConditionSays plan (trees.Specified v) = Unit {0}
ConditionSays plan (trees.Holds set text) = is_of plan.texts text ≡ true
ConditionSays plan (trees.Filled set) = Unit {0}
ConditionSays plan (trees.Not c) = ConditionSays plan c
ConditionSays plan (trees.And c d) = ConditionSays plan c × ConditionSays plan d
ConditionSays plan (trees.Or c d) = ConditionSays plan c × ConditionSays plan d

-- all that a term, and a condition, names is there
abbrev pub TermNames : Plan → trees.Term → Type 0
TermNames plan t = TermHas (HasVar plan) (HasSlot plan) t × TermSays plan t

abbrev pub ConditionNames : Plan → trees.Condition → Type 0
ConditionNames plan c = ConditionHas (HasVar plan) (HasSlot plan) (HasSet plan) c × ConditionSays plan c

pub stored_term : (plan : Plan) (t : StoredTerm) → TermHas (HasVar plan) (HasSlot plan) (trees.term_of t)
    → TermSays plan (trees.term_of t)
    → term_there plan t ≡ true
stored_term plan (terms.Literal a) h k = k
stored_term plan (terms.Read v) h k = h
stored_term plan (terms.PartSum slot c) h k = and_from (is_of plan.slots slot) (is_of plan.characteristics c) h k
stored_term plan (terms.PartCount slot) h k = h
stored_term plan (terms.Applied' function p a) h k = stored_term plan a h k
stored_term plan (terms.Joined' operator p a q b) h k =
    and_from (term_there plan a) (term_there plan b) (stored_term plan a h.0 k.0) (stored_term plan b h.1 k.1)

pub stored_condition : (plan : Plan) (c : StoredCondition)
    → ConditionHas (HasVar plan) (HasSlot plan) (HasSet plan) (trees.condition_of c)
    → ConditionSays plan (trees.condition_of c) → condition_there plan c ≡ true
stored_condition plan conditions.Always h k = refl
stored_condition plan (conditions.Compared r a b) h k =
    and_from (term_there plan a) (term_there plan b) (stored_term plan a h.0 k.0) (stored_term plan b h.1 k.1)
stored_condition plan (conditions.IsIn v pieces) h k =
    and_from (is_of plan.vars v) (list_all (piece_there plan) pieces) h
    (each_passes (λ p. piece_there plan p ≡ true) (piece_there plan) (λ p e. e) pieces k)
stored_condition plan (conditions.Specified v) h k = h
stored_condition plan (conditions.Holds set text) h k = and_from (is_of plan.sets set) (is_of plan.texts text) h k
stored_condition plan (conditions.Filled set) h k = h
stored_condition plan (conditions.Not' p c) h k = stored_condition plan c h k
stored_condition plan (conditions.And' p c q d) h k =
    and_from (condition_there plan c) (condition_there plan d) (stored_condition plan c h.0 k.0)
    (stored_condition plan d h.1 k.1)
stored_condition plan (conditions.Or' p c q d) h k =
    and_from (condition_there plan c) (condition_there plan d) (stored_condition plan c h.0 k.0)
    (stored_condition plan d h.1 k.1)

-- a number with a minus
opposite_stored : (n : Dec) → is_stored n ≡ true → is_stored (opposite n) ≡ true
opposite_stored n h = ap (λ size. nat_lt size (10 ^ 15)) (minus_size n.millionths) ∙ h

signed_stored : (number : SignedNumber) → is_stored number.leaf.number ≡ true → is_stored (number_of number) ≡ true
signed_stored number h = by number.negative
  where
    by : (b : Bool) → is_stored (if b then opposite number.leaf.number else number.leaf.number) ≡ true
    by true = opposite_stored number.leaf.number h
    by false = h

-- the characteristic of a sum over parts
abbrev pub IsSummed : Model → NameLeaf → Type 0
IsSummed model name = nat_lt (number_or_zero (characteristic_named model name.name))
    (length model.characteristics) ≡ true

-- a term and an item of a dependency, of which texts, numbers and sums are there
pub record IsSaid (model : Model) (t : Term) : Type 0 where
  pub texts : Each (IsNumbered model) (texts_in_term t)
  pub numbers : stores_numbers t ≡ true
  pub sums : Each (IsSummed model) (summed_in t)

pub record IsSaidItem (model : Model) (item : Item) : Type 0 where
  pub texts : Each (IsNumbered model) (texts_in_item item)
  pub numbers : is_stored_item item ≡ true

module _ (model : Model) (tables : List VariantTable) (plan : Plan) (is : IsPlanOf model tables plan) where
  pub text_there : (x : List ℕ) → IsNumbered model x → is_of plan.texts (text_number (texts_of model) x) ≡ true
  text_there x h = ap (λ xs. nat_lt (text_number (texts_of model) x) (length xs)) is.texts ∙ h

  sum_there : (name : NameLeaf) → IsSummed model name
      → is_of plan.characteristics (number_or_zero (characteristic_named model name.name)) ≡ true
  sum_there name h =
      ap (λ xs. nat_lt (number_or_zero (characteristic_named model name.name)) (length xs)) is.characteristics
      ∙ ap (nat_lt (number_or_zero (characteristic_named model name.name)))
      (length-map model.characteristics characteristic_from) ∙ h

  minus_says : (t : Term) (compiled : trees.Term) → stores_numbers t ≡ true → TermSays plan compiled
      → TermSays plan (minus (minus_literal t) compiled)
  minus_says (Number leaf) compiled n h = opposite_stored leaf.number n
  minus_says (Text leaf) compiled n h = h
  minus_says (Operand operand) compiled n h = h
  minus_says (Negated t) compiled n h = h
  minus_says (Combined left operator right) compiled n h = h
  minus_says (Applied function t) compiled n h = h
  minus_says (SumOfParts name) compiled n h = h
  minus_says CountOfParts compiled n h = h

  says : (site : Site) (t : Term) → Each (IsNumbered model) (texts_in_term t) → stores_numbers t ≡ true
      → Each (IsSummed model) (summed_in t)
      → TermSays plan (term_at (layout_of model) site t)
  says site (Number leaf) x n s = n
  says site (Text leaf) x n s = text_there leaf.text x.0
  says site (Operand operand) x n s = tt
  says site (Negated t) x n s = minus_says t (term_at (layout_of model) site t) n (says site t x n s)
  says site (Combined left operator right) x n s =
      let xs = each_split (IsNumbered model) (texts_in_term left) (texts_in_term right) x in
      let ns = and_parts (stores_numbers left) (stores_numbers right) n in
      let ss = each_split (IsSummed model) (summed_in left) (summed_in right) s in
      (says site left xs.0 ns.0 ss.0, says site right xs.1 ns.1 ss.1)
  says site (Applied function t) x n s = says site t x n s
  says site (SumOfParts name) x n s = sum_there name s.0
  says site CountOfParts x n s = tt

  pub term_says : (site : Site) (t : Term) → IsSaid model t → TermSays plan (term_at (layout_of model) site t)
  term_says site t said = says site t said.texts said.numbers said.sums

  -- the value of a literal
  pub literal_there : (t : Term) → IsSaid model t → (a : Value) → literal_of (texts_of model) t ≡ Some a
      → value_there plan a ≡ true
  literal_there (Number leaf) said a e =
      let same : values.Num leaf.number ≡ a = cc in subst (λ v. value_there plan v ≡ true) same said.numbers
  literal_there (Text leaf) said a e =
      let same : values.Text (text_number (texts_of model) leaf.text) ≡ a = cc in
      subst (λ v. value_there plan v ≡ true) same (text_there leaf.text said.texts.0)
  literal_there (Negated (Number leaf)) said a e =
      let same : values.Num (opposite leaf.number) ≡ a = cc in
      subst (λ v. value_there plan v ≡ true) same (opposite_stored leaf.number said.numbers)
  literal_there (Negated (Text leaf)) said a e = absurd (cc)
  literal_there (Negated (Operand operand)) said a e = absurd (cc)
  literal_there (Negated (Negated t)) said a e = absurd (cc)
  literal_there (Negated (Combined left operator right)) said a e = absurd (cc)
  literal_there (Negated (Applied function t)) said a e = absurd (cc)
  literal_there (Negated (SumOfParts name)) said a e = absurd (cc)
  literal_there (Negated CountOfParts) said a e = absurd (cc)
  literal_there (Operand operand) said a e = absurd (cc)
  literal_there (Combined left operator right) said a e = absurd (cc)
  literal_there (Applied function t) said a e = absurd (cc)
  literal_there (SumOfParts name) said a e = absurd (cc)
  literal_there CountOfParts said a e = absurd (cc)

  -- what is listed behind IN
  item_there : (item : Item) → IsSaidItem model item → piece_there plan (piece_of (texts_of model) item) ≡ true
  item_there (items.Text leaf) said = text_there leaf.text said.texts.0
  item_there (items.Number number) said =
      let stored = signed_stored number said.numbers in and_from (is_stored (number_of number))
      (is_stored (number_of number)) stored stored
  item_there (items.Interval low high) said =
      let parts = and_parts (is_stored low.leaf.number) (is_stored high.leaf.number) said.numbers in
      and_from (is_stored (number_of low)) (is_stored (number_of high)) (signed_stored low parts.0)
      (signed_stored high parts.1)

  pub pieces_there : (listed : List Item) → Each (IsSaidItem model) listed
      → Each (λ p. piece_there plan p ≡ true) (map (piece_of (texts_of model)) listed)
  pieces_there listed h =
      each_mapped (λ p. piece_there plan p ≡ true) (piece_of (texts_of model)) listed
      (each_more (IsSaidItem model) (λ item. piece_there plan
      (piece_of (texts_of model) item) ≡ true) item_there listed h)

  -- a relation: what is compared with a set is a text
  abbrev pub SetSaid : Site → Relation → Type 0
  SetSaid site (Compared left relator right) =
      (operand : Name) → lone_of left ≡ Some operand → is_set_meant site operand ≡ true
      → is_of plan.texts (text_in (literal_of (texts_of model) right)) ≡ true
  SetSaid site (Within operand listed) =
      is_set_meant site operand ≡ true → Each (λ item. is_of plan.texts
      (text_in_piece (piece_of (texts_of model) item)) ≡ true) listed

  pub record IsSaidRelation (site : Site) (r : Relation) : Type 0 where
    pub sides : Each (IsSaid model) (sides_of r)
    pub items : Each (IsSaidItem model) (listed_in r)
    pub sets : SetSaid site r

  against_says : (relator : Relator) (set text : ℕ) → is_of plan.texts text ≡ true
      → ConditionSays plan (set_against relator (trees.Holds set text))
  against_says relators.Equal set text h = h
  against_says relators.Unequal set text h = h
  against_says relators.Less set text h = h
  against_says relators.LessEqual set text h = h
  against_says relators.Greater set text h = h
  against_says relators.GreaterEqual set text h = h

  or_each_says : (before : trees.Condition) (set : ℕ) (texts : List ℕ) → ConditionSays plan before
      → Each (λ t. is_of plan.texts t ≡ true) texts → ConditionSays plan (or_each before set texts)
  or_each_says before set [] b h = b
  or_each_says before set (text ∷ texts) b h = or_each_says (trees.Or before (trees.Holds set text)) set texts
      (b, h.0) h.1

  holds_says : (set : ℕ) (texts : List ℕ) → Each (λ t. is_of plan.texts t ≡ true) texts
      → ConditionSays plan (holds_one set texts)
  holds_says set [] h = tt
  holds_says set (text ∷ texts) h = or_each_says (trees.Holds set text) set texts h.0 h.1

  compared_says : (site : Site) (left : Term) (relator : Relator) (right : Term)
      → IsSaidRelation site (Compared left relator right)
      → (o : Option Name) → lone_of left ≡ o
      → ConditionSays plan (compared_at (layout_of model) site o left relator right)
  compared_says site left relator right said None lone =
      let sides = said.sides in (term_says site left sides.0, term_says site right sides.1.0)
  compared_says site left relator right said (Some operand) lone = by (is_set_meant site operand) refl
    where
      by : (b : Bool) → is_set_meant site operand ≡ b
          → ConditionSays plan (if b then set_against relator (trees.Holds (set_meant (layout_of model) site operand)
          (text_in (literal_of (texts_of model) right)))
          else trees.Compared (relation_of relator) (term_at (layout_of model) site left)
          (term_at (layout_of model) site right))
      by true e =
          against_says relator (set_meant (layout_of model) site operand) (text_in (literal_of (texts_of model) right))
          (said.sets operand lone e)
      by false e = let sides = said.sides in (term_says site left sides.0, term_says site right sides.1.0)

  relation_says : (site : Site) (r : Relation) → IsSaidRelation site r
      → ConditionSays plan (relation_at (layout_of model) site r)
  relation_says site (Compared left relator right) said = compared_says site left relator right said (lone_of left) refl
  relation_says site (Within operand listed) said = by (is_set_meant site operand) refl
    where
      by : (b : Bool) → is_set_meant site operand ≡ b
          → ConditionSays plan (if b then holds_one (set_meant (layout_of model) site operand)
          (map text_in_piece (map (piece_of (texts_of model)) listed))
          else trees.IsIn (var_meant (layout_of model) site operand) (map (piece_of (texts_of model)) listed))
      by true e =
          holds_says (set_meant (layout_of model) site operand)
          (map text_in_piece (map (piece_of (texts_of model)) listed))
          (each_mapped (λ t. is_of plan.texts t ≡ true) text_in_piece (map (piece_of (texts_of model)) listed)
          (each_mapped (λ p. is_of plan.texts (text_in_piece p) ≡ true) (piece_of (texts_of model)) listed
          (said.sets e)))
      by false e = pieces_there listed said.items

  specified_says : (site : Site) (operand : Name) (b : Bool)
      → ConditionSays plan (if b then trees.Filled (set_meant (layout_of model) site operand)
      else trees.Specified (var_meant (layout_of model) site operand))
  specified_says site operand true = tt
  specified_says site operand false = tt

  pub condition_says : (site : Site) (c : Condition) → Each (IsSaidRelation site) (relations_of c)
      → ConditionSays plan (condition_at (layout_of model) site c)
  condition_says site (Or left right) h =
      let both = each_split (IsSaidRelation site) (relations_of left) (relations_of right) h in
      (condition_says site left both.0, condition_says site right both.1)
  condition_says site (And left right) h =
      let both = each_split (IsSaidRelation site) (relations_of left) (relations_of right) h in
      (condition_says site left both.0, condition_says site right both.1)
  condition_says site (Not condition) h = condition_says site condition h
  condition_says site (Related relation) h = relation_says site relation h.0
  condition_says site (Specified operand) h = specified_says site operand (is_set_meant site operand)
  condition_says site (PartOf part whole) h = tt
