-- A term without a fault is a number made of numbers, or a lone text.
use Rattle.std.proofs.Common.{◌≡◌, ℕ, Bool, true, false, not, ◌&&◌, ◌||◌, List, [], ◌∷◌, map, Option, Some, None, refl}
use Rattle.std.proofs.Common.{sym, ap, ◌∙◌}
use Rattle.std.specs.Prelude.{slice_get}
use Rattle.std.proofs.lemmas.Bool.{and_from, or_left, or_parts, or_right}
use Rattle.vc_model_parts.specs.declared.parts.Model.{Model}
use Rattle.vc_plan.specs.Pieces.{turned}
use Rattle.vc_plan.specs.Typing as typing
use Rattle.vc_plan.specs.Typing.{is_numeric, is_of_texts, is_text_var, is_textual, meet}
use Rattle.vc_plan.specs.declared.conditions.Relation.{Relation}
use Rattle.vc_plan.specs.declared.conditions.Relation.TheVariants as relations
use Rattle.vc_plan.specs.declared.plans.Plan.{Plan}
use Rattle.vc_plan.specs.declared.terms.Term.{Term as StoredTerm}
use Rattle.vc_plan.specs.declared.terms.Term.TheVariants as terms
use Rattle.vc_syntax_tree.specs.declared.Operand.{Operand as Name}
use Rattle.vc_syntax_tree.specs.declared.Relator.{Relator}
use Rattle.vc_syntax_tree.specs.declared.Relator.TheVariants as relators
use Rattle.vc_syntax_tree.specs.Trees.{Term, Number, Text, Operand, Negated, Combined, Applied, SumOfParts}
use Rattle.vc_syntax_tree.specs.Trees.{CountOfParts, Compared}
use Rattle.vc_table.specs.declared.table.VariantTable.{VariantTable}
use Rattle.vc_types.specs.Occurrences.{Use, as_value, is_equality, operands_of, uses_of_term}
use Rattle.vc_types.specs.Settings.{is_multiple, meaning, sort_meant, sort_of_characteristic}
use Rattle.vc_types.specs.SortFaults.{computes_with_text, differ, is_number, is_text, relates_wrongly, sort_of}
use Rattle.vc_types.specs.declared.meaning.Meaning.TheVariants as meanings
use Rattle.vc_types.specs.declared.meaning.Sort.{Sort}
use Rattle.vc_types.specs.declared.meaning.Sort.TheVariants.{Texts as of_texts, Numbers as of_numbers}
use Rattle.vc_compile_plan.specs.Conditions.{relation_of}
use Rattle.vc_compile_plan.specs.Layouts.{layout_of}
use Rattle.vc_compile_plan.specs.PlanOf.{IsPlanOf}
use Rattle.vc_compile_plan.specs.Sites.{Site, characteristic_in, is_set_meant, var_meant}
use Rattle.vc_compile_plan.specs.Terms.{term_at}
use Rattle.vc_compile_plan.specs.Trees as trees
use Rattle.vc_compile_valid.specs.Domains.{HasLists}
use Rattle.vc_compile_valid.proofs.EachLaws.{Each}
use Rattle.vc_compile_meant.proofs.FaultLaws.{IsUsed}
use Rattle.vc_compile_meant.proofs.MeaningLaws.{IsMeant, var_is}
use Rattle.vc_compile_meant.proofs.SortLaws.{IsRead, is_numeric_tree, numeric_same, numeric_term, var_sort}

-- where each operand that means a characteristic means one of the slot that it names
pub record IsSiteOf (model : Model) (site : Site) : Type 0 where
  pub own : site.setting.model ≡ model
  pub meant : (operand : Name) (c : ℕ) → meaning site.setting operand ≡ meanings.Characteristic c
      → IsMeant model site operand c

-- an operand that is no set reads a variable of the plan
pub record IsReadUse (model : Model) (plan : Plan) (site : Site) (u : Use) : Type 0 where
  pub value : is_set_meant site u.operand ≡ false → IsRead model plan site u.operand
  pub single : u.for_set ≡ false → is_set_meant site u.operand ≡ false

pub read_use : (model : Model) (tables : List VariantTable) (plan : Plan) → IsPlanOf model tables plan → (site : Site)
    → IsSiteOf model site
    → (u : Use) → IsUsed site.setting u → IsReadUse model plan site u
read_use model tables plan is site of u used =
    let same : is_set_meant site u.operand ≡ is_multiple site.setting.model used.c =
    ap (λ m. is_multiple site.setting.model (characteristic_in m)) used.means in
    record {
      value = λ single.
          let found = var_is model site u.operand used.c used.means (of.meant u.operand used.c used.means)
          (sym (ap (λ m. is_multiple m used.c) of.own) ∙ sym same ∙ single) in
          record {
            x = found.0;
            there = ap (λ xs. slice_get xs (var_meant (layout_of model) site u.operand)) is.vars ∙ found.1;
            means = used.means ∙ ap meanings.Characteristic (sym found.3);
          };
      single = λ value. same ∙ used.single value;
    }

-- operands that stand for values
pub values_read : (model : Model) (plan : Plan) (site : Site) (operands : List Name)
    → Each (IsReadUse model plan site) (map as_value operands) → Each (IsRead model plan site) operands
values_read model plan site [] h = tt
values_read model plan site (o ∷ operands) h =
    let first = h.0 in (first.value (first.single refl), values_read model plan site operands h.1)

pub term_reads : (model : Model) (plan : Plan) (site : Site) (t : Term)
    → Each (IsReadUse model plan site) (uses_of_term t)
    → Each (IsRead model plan site) (operands_of t)
term_reads model plan site t h = values_read model plan site (operands_of t) h

-- whether a tree is a lone text, and whether it is of a sort: a number made of numbers, or a lone text
abbrev pub is_textual_tree : Plan → trees.Term → Bool
is_textual_tree plan (trees.Literal a) = not (typing.is_number a)
is_textual_tree plan (trees.Read v) = is_text_var plan v
is_textual_tree plan (trees.PartSum slot c) = false
is_textual_tree plan (trees.PartCount slot) = false
is_textual_tree plan (trees.Applied function a) = false
is_textual_tree plan (trees.Joined operator a b) = false

pub textual_same : (plan : Plan) (t : StoredTerm) → is_textual plan t ≡ is_textual_tree plan (trees.term_of t)
textual_same plan (terms.Literal a) = refl
textual_same plan (terms.Read v) = refl
textual_same plan (terms.PartSum slot c) = refl
textual_same plan (terms.PartCount slot) = refl
textual_same plan (terms.Applied' function p a) = refl
textual_same plan (terms.Joined' operator p a q b) = refl

abbrev pub is_of_sort : Plan → Bool → trees.Term → Bool
is_of_sort plan true t = is_numeric_tree plan t
is_of_sort plan false t = is_textual_tree plan t

-- what is a number is no text, and the other way
abbrev pub IsOne : Option Sort → Type 0
IsOne s = is_text s ≡ not (is_number s)

pub read_one : (model : Model) (tables : List VariantTable) (plan : Plan) → IsPlanOf model tables plan → HasLists plan
    → (site : Site)
    → site.setting.model ≡ model → (operand : Name) → IsRead model plan site operand
    → IsOne (sort_meant site.setting.model (meaning site.setting operand))
read_one model tables plan is lists site own operand read =
    let sort = var_sort model tables plan is lists (var_meant (layout_of model) site operand) read.x read.there in
    ap (λ m. is_text (sort_meant site.setting.model m)) read.means
    ∙ ap (λ m. is_text (sort_of_characteristic m read.x.characteristic)) own
    ∙ sort.one
    ∙ sym (ap (λ m. not (is_number (sort_of_characteristic m read.x.characteristic))) own)
    ∙ sym (ap (λ m. not (is_number (sort_meant site.setting.model m))) read.means)

pub term_one : (model : Model) (tables : List VariantTable) (plan : Plan) → IsPlanOf model tables plan → HasLists plan
    → (site : Site)
    → site.setting.model ≡ model → (t : Term) → Each (IsRead model plan site) (operands_of t)
    → IsOne (sort_of site.setting t)
term_one model tables plan is lists site own (Number leaf) reads = refl
term_one model tables plan is lists site own (Text leaf) reads = refl
term_one model tables plan is lists site own (Operand operand) reads =
    read_one model tables plan is lists site own operand reads.0
term_one model tables plan is lists site own (Negated t) reads = refl
term_one model tables plan is lists site own (Combined left operator right) reads = refl
term_one model tables plan is lists site own (Applied function t) reads = refl
term_one model tables plan is lists site own (SumOfParts name) reads = refl
term_one model tables plan is lists site own CountOfParts reads = refl

textual_term : (model : Model) (tables : List VariantTable) (plan : Plan) → IsPlanOf model tables plan → HasLists plan
    → (site : Site)
    → site.setting.model ≡ model → (t : Term) → is_number (sort_of site.setting t) ≡ false
    → Each (IsRead model plan site) (operands_of t)
    → is_textual_tree plan (term_at (layout_of model) site t) ≡ true
textual_term model tables plan is lists site own (Number leaf) text reads = absurd (cc)
textual_term model tables plan is lists site own (Text leaf) text reads = refl
textual_term model tables plan is lists site own (Operand operand) text reads =
    let read = reads.0 in
    let sort = var_sort model tables plan is lists (var_meant (layout_of model) site operand) read.x read.there in
    sort.texts ∙ sort.one
    ∙ sym (ap (λ m. not (is_number (sort_of_characteristic m read.x.characteristic))) own)
    ∙ sym (ap (λ m. not (is_number (sort_meant site.setting.model m))) read.means)
    ∙ ap not text
textual_term model tables plan is lists site own (Negated t) text reads = absurd (cc)
textual_term model tables plan is lists site own (Combined left operator right) text reads = absurd (cc)
textual_term model tables plan is lists site own (Applied function t) text reads = absurd (cc)
textual_term model tables plan is lists site own (SumOfParts name) text reads = absurd (cc)
textual_term model tables plan is lists site own CountOfParts text reads = absurd (cc)

pub term_sorted : (model : Model) (tables : List VariantTable) (plan : Plan) → IsPlanOf model tables plan
    → HasLists plan
    → (site : Site)
    → site.setting.model ≡ model → (t : Term) → computes_with_text site.setting t ≡ false
    → Each (IsRead model plan site) (operands_of t)
    → is_of_sort plan (is_number (sort_of site.setting t)) (term_at (layout_of model) site t) ≡ true
term_sorted model tables plan is lists site own t computes reads = by (is_number (sort_of site.setting t)) refl
  where
    by : (b : Bool) → is_number (sort_of site.setting t) ≡ b
        → is_of_sort plan b (term_at (layout_of model) site t) ≡ true
    by true e =
        numeric_term model tables plan is lists site own t
        (term_one model tables plan is lists site own t reads ∙ ap not e) computes reads
    by false e = textual_term model tables plan is lists site own t e reads

-- sorts that don't differ are one
pub same_sort : (a b : Option Sort) → IsOne a → IsOne b → differ a b ≡ false → is_number a ≡ is_number b
same_sort None b one other h = absurd (cc)
same_sort (Some of_texts) None one other h = absurd (cc)
same_sort (Some of_texts) (Some of_texts) one other h = refl
same_sort (Some of_texts) (Some of_numbers) one other h = absurd (cc)
same_sort (Some of_numbers) None one other h = absurd (cc)
same_sort (Some of_numbers) (Some of_texts) one other h = absurd (cc)
same_sort (Some of_numbers) (Some of_numbers) one other h = refl

-- two trees of one sort meet, texts by equality alone
abbrev pub meet_trees : Plan → Relation → trees.Term → trees.Term → Bool
meet_trees plan r a b =
    (is_numeric_tree plan a && is_numeric_tree plan b) ||
    ((is_textual_tree plan a && is_textual_tree plan b) && is_of_texts r)

pub meet_same : (plan : Plan) (r : Relation) (a b : StoredTerm)
    → meet plan r a b ≡ meet_trees plan r (trees.term_of a) (trees.term_of b)
meet_same plan r a b =
    ap (λ x. (x && is_numeric plan b) || ((is_textual plan a && is_textual plan b) && is_of_texts r))
    (numeric_same plan a)
    ∙ ap (λ x. (is_numeric_tree plan (trees.term_of a) && x) ||
    ((is_textual plan a && is_textual plan b) && is_of_texts r)) (numeric_same plan b)
    ∙ ap (λ x. (is_numeric_tree plan (trees.term_of a) && is_numeric_tree plan (trees.term_of b)) ||
    ((x && is_textual plan b) && is_of_texts r))
    (textual_same plan a)
    ∙ ap (λ x. (is_numeric_tree plan (trees.term_of a) && is_numeric_tree plan (trees.term_of b))
    || ((is_textual_tree plan (trees.term_of a) && x) && is_of_texts r)) (textual_same plan b)

pub sorts_meet : (plan : Plan) (r : Relation) (number : Bool) (a b : trees.Term) → is_of_sort plan number a ≡ true
    → is_of_sort plan number b ≡ true → (number ≡ false → is_of_texts r ≡ true) → meet_trees plan r a b ≡ true
sorts_meet plan r true a b h k of =
    or_left (is_numeric_tree plan a && is_numeric_tree plan b)
    ((is_textual_tree plan a && is_textual_tree plan b) && is_of_texts r)
    (and_from (is_numeric_tree plan a) (is_numeric_tree plan b) h k)
sorts_meet plan r false a b h k of =
    or_right (is_numeric_tree plan a && is_numeric_tree plan b)
    ((is_textual_tree plan a && is_textual_tree plan b) && is_of_texts r)
    (and_from (is_textual_tree plan a && is_textual_tree plan b) (is_of_texts r)
    (and_from (is_textual_tree plan a) (is_textual_tree plan b) h k) (of refl))

-- a relation of texts is one of equality
equality_texts : (relator : Relator) → is_equality relator ≡ true → is_of_texts (relation_of relator) ≡ true
equality_texts relators.Equal h = refl
equality_texts relators.Unequal h = refl
equality_texts relators.Less h = absurd (cc)
equality_texts relators.LessEqual h = absurd (cc)
equality_texts relators.Greater h = absurd (cc)
equality_texts relators.GreaterEqual h = absurd (cc)

pub turned_texts : (r : Relation) → is_of_texts (turned r) ≡ is_of_texts r
turned_texts relations.Equal = refl
turned_texts relations.Unequal = refl
turned_texts relations.Less = refl
turned_texts relations.AtMost = refl
turned_texts relations.Greater = refl
turned_texts relations.AtLeast = refl

-- both sides of a relation without a fault are of one sort
pub record AreOfOneSort (model : Model) (plan : Plan) (site : Site) (left : Term) (relator : Relator)
    (right : Term) : Type 0 where
  pub number : Bool
  pub first : is_of_sort plan number (term_at (layout_of model) site left) ≡ true
  pub second : is_of_sort plan number (term_at (layout_of model) site right) ≡ true
  pub texts : number ≡ false → is_of_texts (relation_of relator) ≡ true

pub sides_sorted : (model : Model) (tables : List VariantTable) (plan : Plan) → IsPlanOf model tables plan
    → HasLists plan
    → (site : Site)
    → site.setting.model ≡ model → (left : Term) (relator : Relator) (right : Term)
    → relates_wrongly site.setting (Compared left relator right) ≡ false → computes_with_text site.setting left ≡ false
    → computes_with_text site.setting right ≡ false → Each (IsRead model plan site) (operands_of left)
    → Each (IsRead model plan site) (operands_of right) → AreOfOneSort model plan site left relator right
sides_sorted model tables plan is lists site own left relator right wrong computes computes' reads reads' =
    let a = sort_of site.setting left in
    let b = sort_of site.setting right in
    let parts = or_parts (differ a b) (not (is_equality relator) && (is_text a || is_text b)) wrong in
    let one = term_one model tables plan is lists site own left reads in
    let other = term_one model tables plan is lists site own right reads' in
    let same = same_sort a b one other parts.0 in
    record {
      number = is_number a;
      first = term_sorted model tables plan is lists site own left computes reads;
      second = ap (λ n. is_of_sort plan n (term_at (layout_of model) site right)) same
          ∙ term_sorted model tables plan is lists site own right computes' reads';
      texts = λ text. equality_texts relator (by (is_equality relator) refl (is_text a) (one ∙ ap not text) parts.1);
    }
  where
    by : (e : Bool) → is_equality relator ≡ e → (t : Bool) → t ≡ true
        → (not (is_equality relator) && (t || is_text (sort_of site.setting right))) ≡ false
        → is_equality relator ≡ true
    by true e t h k = e
    by false e t h k = absurd (let both : true ≡ false =
        sym (ap (λ x. not x && (t || is_text (sort_of site.setting right))) e
        ∙ ap (λ x. x || is_text (sort_of site.setting right)) h) ∙ k in cc)
