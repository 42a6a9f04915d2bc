-- A condition of relations without a fault compares numbers with numbers and texts with texts.
use Rattle.std.proofs.Common.{◌≡◌, ℕ, Bool, true, false, not, ◌&&◌, List, [], ◌∷◌, ◌++◌, map, flat_map, Option, Some}
use Rattle.std.proofs.Common.{refl, sym, ap, ◌∙◌, subst}
use Rattle.std.specs.List.{list_all, list_any}
use Rattle.std.proofs.lemmas.Bool.{and_from, or_parts}
use Rattle.vc_model_parts.specs.declared.parts.Model.{Model}
use Rattle.vc_plan.specs.Typing.{condition_typed, is_number_var, is_piece_of, is_text_var}
use Rattle.vc_plan.specs.declared.conditions.Condition.{Condition as StoredCondition}
use Rattle.vc_plan.specs.declared.conditions.Condition.TheVariants as conditions
use Rattle.vc_plan.specs.declared.plans.Plan.{Plan}
use Rattle.vc_syntax_tree.specs.declared.Item.{Item}
use Rattle.vc_syntax_tree.specs.declared.Item.TheVariants as items
use Rattle.vc_syntax_tree.specs.declared.Operand.{Operand as Name}
use Rattle.vc_syntax_tree.specs.declared.Relator.{Relator}
use Rattle.vc_syntax_tree.specs.Trees.{Term, Number, Text, Operand, Negated, Combined, Applied, SumOfParts}
use Rattle.vc_syntax_tree.specs.Trees.{CountOfParts}
use Rattle.vc_syntax_tree.specs.Trees.{Relation, Compared, Dependency}
use Rattle.vc_table.specs.declared.table.VariantTable.{VariantTable}
use Rattle.vc_types.specs.Occurrences.{Use, as_set, as_value, calls_in, conditions_in, demanded_relations, is_equality}
use Rattle.vc_types.specs.Occurrences.{is_literal, operands_of, own_terms, relations_in, relations_of, sides_of}
use Rattle.vc_types.specs.Occurrences.{terms_in, uses_in, uses_of_left, uses_of_relation, uses_of_term, values_in}
use Rattle.vc_types.specs.Settings.{meaning, sort_meant, sort_of_characteristic}
use Rattle.vc_types.specs.SortFaults.{computes_with_text, differ, is_number, is_text, relates_wrongly, sort_of_item}
use Rattle.vc_types.specs.declared.meaning.Sort.{Sort}
use Rattle.vc_compile_plan.specs.Conditions.{condition_at, piece_of, relation_of}
use Rattle.vc_compile_plan.specs.Layouts.{layout_of}
use Rattle.vc_compile_plan.specs.PlanOf.{IsPlanOf}
use Rattle.vc_compile_plan.specs.Sites.{Site, is_set_meant, var_meant}
use Rattle.vc_compile_plan.specs.Terms.{lone_of, term_at}
use Rattle.vc_compile_plan.specs.Trees as trees
use Rattle.vc_compile_plan.specs.Trees.{condition_of}
use Rattle.vc_compile_valid.specs.Domains.{HasLists}
use Rattle.vc_compile_valid.proofs.EachLaws.{Each, each_both, each_more}
use Rattle.vc_compile_meant.proofs.FaultLaws.{IsSound, IsUsed, all_used, each_false, each_split, each_unflat}
use Rattle.vc_compile_meant.proofs.SortLaws.{IsRead, right_kinds, var_sort}
use Rattle.vc_compile_meant.proofs.TreeLaws.{left_uses}
use Rattle.vc_compile_origins.proofs.RelationLaws.{HoldsOfRelations, IsOfRelations, condition_holds, uses_by_relation}
use Rattle.vc_compile_sorts.proofs.TermSorts.{IsOne, IsReadUse, IsSiteOf, meet_same, meet_trees, read_one, read_use}
use Rattle.vc_compile_sorts.proofs.TermSorts.{same_sort, sides_sorted, sorts_meet, term_reads}

-- whether the relations of a tree are of terms that meet
abbrev pub typed_tree : Plan → trees.Condition → Bool
typed_tree plan trees.Always = true
typed_tree plan (trees.Compared r a b) = meet_trees plan r a b
typed_tree plan (trees.IsIn v pieces) = list_all (is_piece_of plan v) pieces
typed_tree plan (trees.Specified v) = true
typed_tree plan (trees.Holds set text) = true
typed_tree plan (trees.Filled set) = true
typed_tree plan (trees.Not c) = typed_tree plan c
typed_tree plan (trees.And c d) = typed_tree plan c && typed_tree plan d
typed_tree plan (trees.Or c d) = typed_tree plan c && typed_tree plan d

pub typed_same : (plan : Plan) (c : StoredCondition) → condition_typed plan c ≡ typed_tree plan (condition_of c)
typed_same plan conditions.Always = refl
typed_same plan (conditions.Compared r a b) = meet_same plan r a b
typed_same plan (conditions.IsIn v pieces) = refl
typed_same plan (conditions.Specified v) = refl
typed_same plan (conditions.Holds set text) = refl
typed_same plan (conditions.Filled set) = refl
typed_same plan (conditions.Not' p c) = typed_same plan c
typed_same plan (conditions.And' p c q d) =
    ap (λ x. x && condition_typed plan d) (typed_same plan c) ∙ ap (λ x. typed_tree plan (condition_of c) && x)
    (typed_same plan d)
typed_same plan (conditions.Or' p c q d) =
    ap (λ x. x && condition_typed plan d) (typed_same plan c) ∙ ap (λ x. typed_tree plan (condition_of c) && x)
    (typed_same plan d)

-- a relation whose sides are of one sort, with each of its operands a variable where it is no set
pub record IsSorted (model : Model) (plan : Plan) (site : Site) (r : Relation) : Type 0 where
  pub relates : relates_wrongly site.setting r ≡ false
  pub computes : Each (λ t. computes_with_text site.setting t ≡ false) (sides_of r)
  pub uses : Each (IsReadUse model plan site) (uses_of_relation r)

-- terms on both sides
pub sides_meet : (model : Model) (tables : List VariantTable) (plan : Plan) → IsPlanOf model tables plan → HasLists plan
    → (site : Site)
    → site.setting.model ≡ model → (left : Term) (relator : Relator) (right : Term)
    → relates_wrongly site.setting (Compared left relator right) ≡ false
    → Each (λ t. computes_with_text site.setting t ≡ false) (left ∷ right ∷ [])
    → Each (IsRead model plan site) (operands_of left) → Each (IsRead model plan site) (operands_of right)
    → meet_trees plan (relation_of relator) (term_at (layout_of model) site left) (term_at (layout_of model) site right)
    ≡ true
sides_meet model tables plan is lists site own left relator right wrong computes reads reads' =
    let both = computes.1 in
    let sides
    = sides_sorted model tables plan is lists site own left relator right wrong computes.0 both.0 reads reads' in
    sorts_meet plan (relation_of relator) sides.number (term_at (layout_of model) site left)
    (term_at (layout_of model) site right)
    sides.first sides.second sides.texts

pub lone_use : (P : Use → Type 0) (b : Bool) (operand : Name) → Each P (uses_of_left b (Operand operand))
    → (u : Use) × (u.operand ≡ operand) × P u
lone_use P true operand h = (as_set operand, refl, h.0)
lone_use P false operand h = (as_value operand, refl, h.0)

-- what the left side reads where it is no set
pub left_reads : (model : Model) (plan : Plan) (site : Site) (b : Bool) (left : Term)
    → Each (IsReadUse model plan site) (uses_of_left b left)
    → ((operand : Name) → lone_of left ≡ Some operand → is_set_meant site operand ≡ false)
    → Each (IsRead model plan site) (operands_of left)
left_reads model plan site b (Number leaf) h single = tt
left_reads model plan site b (Text leaf) h single = tt
left_reads model plan site b (Operand operand) h single =
    let found = lone_use (IsReadUse model plan site) b operand h in
    let one = found.2 in
    (subst (IsRead model plan site) found.1 (one.value (ap (is_set_meant site) found.1 ∙ single operand refl)), tt)
left_reads model plan site b (Negated t) h single =
    term_reads model plan site (Negated t) (left_uses (IsReadUse model plan site) b (Negated t) refl h)
left_reads model plan site b (Combined left operator right) h single =
    term_reads model plan site (Combined left operator right)
    (left_uses (IsReadUse model plan site) b (Combined left operator right) refl h)
left_reads model plan site b (Applied function t) h single =
    term_reads model plan site (Applied function t)
    (left_uses (IsReadUse model plan site) b (Applied function t) refl h)
left_reads model plan site b (SumOfParts name) h single = tt
left_reads model plan site b CountOfParts h single = tt

-- each piece behind IN is of the variable's sort
piece_typed : (plan : Plan) (v : ℕ) (texts : List (List ℕ)) (item : Item) (s : Option Sort)
    → is_number_var plan v ≡ is_number s
    → is_text_var plan v ≡ is_text s → IsOne s → differ s (sort_of_item item) ≡ false
    → is_piece_of plan v (piece_of texts item) ≡ true
piece_typed plan v texts (items.Text leaf) s numbers words one h =
    words ∙ one ∙ ap not (same_sort s (sort_of_item (items.Text leaf)) one refl h)
piece_typed plan v texts (items.Number number) s numbers words one h =
    numbers ∙ same_sort s (sort_of_item (items.Number number)) one refl h
piece_typed plan v texts (items.Interval low high) s numbers words one h =
    numbers ∙ same_sort s (sort_of_item (items.Interval low high)) one refl h

pub pieces_typed : (model : Model) (tables : List VariantTable) (plan : Plan) → IsPlanOf model tables plan
    → HasLists plan
    → (site : Site)
    → site.setting.model ≡ model → (operand : Name) → IsRead model plan site operand → (listed : List Item)
    → list_any (λ item. differ (sort_meant site.setting.model (meaning site.setting operand)) (sort_of_item item))
    listed
    ≡ false
    → list_all (is_piece_of plan (var_meant (layout_of model) site operand))
    (map (piece_of (layout_of model).texts) listed) ≡ true
pieces_typed model tables plan is lists site own operand read [] h = refl
pieces_typed model tables plan is lists site own operand read (item ∷ listed) h =
    let v = var_meant (layout_of model) site operand in
    let s = sort_meant site.setting.model (meaning site.setting operand) in
    let parts = or_parts (differ s (sort_of_item item)) (list_any (λ item. differ s (sort_of_item item)) listed) h in
    let sort = var_sort model tables plan is lists v read.x read.there in
    let same : s ≡ sort_of_characteristic model read.x.characteristic =
    ap (sort_meant site.setting.model) read.means ∙ ap (λ m. sort_of_characteristic m read.x.characteristic) own in
    and_from (is_piece_of plan v (piece_of (layout_of model).texts item))
    (list_all (is_piece_of plan v) (map (piece_of (layout_of model).texts) listed))
    (piece_typed plan v (layout_of model).texts item s (sort.numbers ∙ sym (ap is_number same))
    (sort.texts ∙ sym (ap is_text same))
    (read_one model tables plan is lists site own operand read) parts.0)
    (pieces_typed model tables plan is lists site own operand read listed parts.1)

-- a condition of sorted relations
typed_of_relations : (plan : Plan) → IsOfRelations (λ c. typed_tree plan c ≡ true)
typed_of_relations plan = record {
  always = refl;
  specified = λ v. refl;
  holds = λ set text. refl;
  filled = λ set. refl;
  denied = λ c h. h;
  both = λ c d h k. and_from (typed_tree plan c) (typed_tree plan d) h k;
  either = λ c d h k. and_from (typed_tree plan c) (typed_tree plan d) h k;
}

relations_typed : (model : Model) (tables : List VariantTable) (plan : Plan) → IsPlanOf model tables plan
    → HasLists plan
    → (site : Site)
    → site.setting.model ≡ model
    → HoldsOfRelations (λ c. typed_tree plan c ≡ true) (IsSorted model plan site) (layout_of model) site
relations_typed model tables plan is lists site own = record {
  compared = λ left relator right sorted single.
      let b = is_equality relator && is_literal right in
      let sides = each_split (IsReadUse model plan site) (uses_of_left b left) (uses_of_term right) sorted.uses in
      sides_meet model tables plan is lists site own left relator right sorted.relates sorted.computes
      (left_reads model plan site b left sides.0 single) (term_reads model plan site right sides.1);
  listed = λ operand items sorted single.
      let uses = sorted.uses in
      let one = uses.0 in
      pieces_typed model tables plan is lists site own operand (one.value single) items sorted.relates;
}

-- the relations of a tree without a fault
pub all_read : (model : Model) (tables : List VariantTable) (plan : Plan) → IsPlanOf model tables plan → (site : Site)
    → IsSiteOf model site
    → (tree : Dependency) → IsSound site.setting tree → Each (IsReadUse model plan site) (uses_in tree)
all_read model tables plan is site of tree sound =
    each_more (IsUsed site.setting) (IsReadUse model plan site) (read_use model tables plan is site of) (uses_in tree)
    (all_used site.setting tree sound)

pub relations_sorted : (model : Model) (tables : List VariantTable) (plan : Plan) → IsPlanOf model tables plan
    → (site : Site)
    → IsSiteOf model site → (tree : Dependency) → IsSound site.setting tree
    → Each (IsSorted model plan site) (relations_in tree)
relations_sorted model tables plan is site of tree sound =
    let kinds = right_kinds site.setting tree sound in
    let relations = relations_in tree in
    let Read : Use → Type 0 = IsReadUse model plan site in
    let Computed : Term → Type 0 = λ t. computes_with_text site.setting t ≡ false in
    let computes = each_unflat Computed sides_of relations
    (each_split Computed (flat_map sides_of relations) (own_terms tree ++ flat_map values_in (calls_in tree))
    (each_false (computes_with_text site.setting) (terms_in tree) kinds.terms)).0 in
    let Right : Relation → Type 0 = λ r. relates_wrongly site.setting r ≡ false in
    let Computes : Relation → Type 0 = λ r. Each Computed (sides_of r) in
    let Uses : Relation → Type 0 = λ r. Each Read (uses_of_relation r) in
    each_more (λ r. (Right r × Computes r) × Uses r) (IsSorted model plan site)
    (λ r h. let front = h.0 in record { relates = front.0; computes = front.1; uses = h.1 }) relations
    (each_both (λ r. Right r × Computes r) Uses relations
    (each_both Right Computes relations (each_false (relates_wrongly site.setting) relations kinds.relations) computes)
    (uses_by_relation Read tree (all_read model tables plan is site of tree sound)))

pub conditions_sorted : (model : Model) (tables : List VariantTable) (plan : Plan) → IsPlanOf model tables plan
    → HasLists plan
    → (site : Site) → IsSiteOf model site → (tree : Dependency) → IsSound site.setting tree
    → Each (λ c. typed_tree plan (condition_at (layout_of model) site c) ≡ true) (conditions_in tree)
conditions_sorted model tables plan is lists site of tree sound =
    let all
    = each_split (IsSorted model plan site) (flat_map relations_of (conditions_in tree)) (demanded_relations tree)
    (relations_sorted model tables plan is site of tree sound) in
    each_more (λ c. Each (IsSorted model plan site) (relations_of c))
    (λ c. typed_tree plan (condition_at (layout_of model) site c) ≡ true)
    (condition_holds (λ c. typed_tree plan c ≡ true) (IsSorted model plan site) (layout_of model) site
    (typed_of_relations plan)
    (relations_typed model tables plan is lists site of.own)) (conditions_in tree)
    (each_unflat (IsSorted model plan site) relations_of (conditions_in tree) all.0)
