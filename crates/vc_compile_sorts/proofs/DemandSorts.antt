-- What a restriction without a fault demands is of terms that meet.
use Rattle.std.proofs.Common.{◌≡◌, Bool, true, false, not, ◌&&◌, List, [], ◌∷◌, map, Option, Some, None, refl, sym, ap}
use Rattle.std.proofs.Common.{◌∙◌}
use Rattle.std.specs.List.{list_all}
use Rattle.std.proofs.lemmas.Bool.{and_from}
use Rattle.vc_value.specs.declared.value.Value.{Value}
use Rattle.vc_model_parts.specs.declared.parts.Model.{Model}
use Rattle.vc_plan.specs.Pieces.{turned}
use Rattle.vc_plan.specs.Typing as typing
use Rattle.vc_plan.specs.Typing.{binding_typed, column_list, operand_term, restriction_typed}
use Rattle.vc_plan.specs.declared.conditions.Relation.TheVariants as relations
use Rattle.vc_plan.specs.declared.plans.Plan.{Plan}
use Rattle.vc_syntax_tree.specs.declared.Operand.{Operand as Name}
use Rattle.vc_syntax_tree.specs.declared.Relator.{Relator}
use Rattle.vc_syntax_tree.specs.declared.Relator.TheVariants as relators
use Rattle.vc_syntax_tree.specs.Trees as syntax
use Rattle.vc_syntax_tree.specs.Trees.{Term, Number, Text, Operand, Negated, Combined, Applied, SumOfParts}
use Rattle.vc_syntax_tree.specs.Trees.{CountOfParts}
use Rattle.vc_table.specs.declared.table.VariantTable.{VariantTable}
use Rattle.vc_types.specs.NameFaults.{is_unknown_column}
use Rattle.vc_types.specs.Occurrences.{call_of_demand, is_equality, is_literal, operands_of, relation_of_demand}
use Rattle.vc_types.specs.Occurrences.{uses_of_left, uses_of_relation, uses_of_term}
use Rattle.vc_types.specs.PlaceFaults.{is_computed, is_operand}
use Rattle.vc_types.specs.SortFaults.{binds_wrongly, computes_with_text}
use Rattle.vc_compile_plan.specs.Conditions.{relation_of}
use Rattle.vc_compile_plan.specs.Layouts.{Layout, layout_of}
use Rattle.vc_compile_plan.specs.PlanOf.{IsPlanOf}
use Rattle.vc_compile_plan.specs.Rules.{Demand, among, binding_at, by_table, compare, demand_at, equate, given_operand}
use Rattle.vc_compile_plan.specs.Rules.{last, line, never, of_left_operand, of_right_operand, of_terms, relation_demand}
use Rattle.vc_compile_plan.specs.Sites.{Site, is_set_meant, var_meant}
use Rattle.vc_compile_plan.specs.Tables.{column_number, table_number}
use Rattle.vc_compile_plan.specs.Terms.{literal_of, lone_of, term_at}
use Rattle.vc_compile_plan.specs.Trees as trees
use Rattle.vc_compile_valid.specs.Domains.{HasLists}
use Rattle.vc_compile_valid.proofs.EachLaws.{Each}
use Rattle.vc_compile_meant.proofs.FaultLaws.{each_split}
use Rattle.vc_compile_meant.proofs.SortLaws.{IsRead}
use Rattle.vc_compile_sorts.proofs.ColumnSorts.{binding_meets, meets_same, meets_tree}
use Rattle.vc_compile_sorts.proofs.ConditionSorts.{IsSorted, left_reads, pieces_typed}
use Rattle.vc_compile_sorts.proofs.TermSorts.{AreOfOneSort, IsReadUse, meet_trees, sides_sorted, sorts_meet, term_reads}
use Rattle.vc_compile_sorts.proofs.TermSorts.{turned_texts}

-- whether a demand is of terms that meet
abbrev pub demand_typed : Plan → Demand → Bool
demand_typed plan (among v restriction) = restriction_typed plan v restriction
demand_typed plan (compare r a b) = not (typing.is_equality r) && meet_trees plan r a b
demand_typed plan (equate a b) = meet_trees plan relations.Equal a b
demand_typed plan (by_table table columns) = list_all (binding_typed plan table) columns
demand_typed plan never = true
demand_typed plan (last v) = true
demand_typed plan (line i) = true

-- what a restriction's relation, and its call, has
pub record IsSortedDemand (model : Model) (plan : Plan) (site : Site) (r : syntax.Relation) : Type 0 where
  pub sorted : IsSorted model plan site r
  pub single : Each (λ u. is_set_meant site u.operand ≡ false) (uses_of_relation r)

pub record IsSortedBinding (model : Model) (plan : Plan) (site : Site) (call : syntax.TableCall)
    (binding : syntax.Binding) : Type 0 where
  pub known : is_unknown_column site.setting call binding ≡ false
  pub binds : binds_wrongly site.setting call binding ≡ false
  pub computes : computes_with_text site.setting binding.value ≡ false
  pub reads : Each (IsRead model plan site) (operands_of binding.value)

-- the term of a literal, and of a lone operand
literal_term : (layout : Layout) (site : Site) (t : Term) (a : Value) → literal_of layout.texts t ≡ Some a
    → term_at layout site t ≡ trees.Literal a
literal_term layout site (Number leaf) a e = let same : _ ≡ a = cc in ap trees.Literal same
literal_term layout site (Text leaf) a e = let same : _ ≡ a = cc in ap trees.Literal same
literal_term layout site (Operand operand) a e = absurd (cc)
literal_term layout site (Negated (Number leaf)) a e = let same : _ ≡ a = cc in ap trees.Literal same
literal_term layout site (Negated (Text leaf)) a e = absurd (cc)
literal_term layout site (Negated (Operand operand)) a e = absurd (cc)
literal_term layout site (Negated (Negated t)) a e = absurd (cc)
literal_term layout site (Negated (Combined left operator right)) a e = absurd (cc)
literal_term layout site (Negated (Applied function t)) a e = absurd (cc)
literal_term layout site (Negated (SumOfParts name)) a e = absurd (cc)
literal_term layout site (Negated CountOfParts) a e = absurd (cc)
literal_term layout site (Combined left operator right) a e = absurd (cc)
literal_term layout site (Applied function t) a e = absurd (cc)
literal_term layout site (SumOfParts name) a e = absurd (cc)
literal_term layout site CountOfParts a e = absurd (cc)

lone_term : (layout : Layout) (site : Site) (t : Term) (operand : Name) → lone_of t ≡ Some operand
    → term_at layout site t ≡ trees.Read (var_meant layout site operand)
lone_term layout site (Number leaf) operand e = absurd (cc)
lone_term layout site (Text leaf) operand e = absurd (cc)
lone_term layout site (Operand o) operand e =
    let same : o ≡ operand = cc in ap (λ x. trees.Read (var_meant layout site x)) same
lone_term layout site (Negated t) operand e = absurd (cc)
lone_term layout site (Combined left operator right) operand e = absurd (cc)
lone_term layout site (Applied function t) operand e = absurd (cc)
lone_term layout site (SumOfParts name) operand e = absurd (cc)
lone_term layout site CountOfParts operand e = absurd (cc)

-- terms in a relation
terms_typed : (plan : Plan) (layout : Layout) (site : Site) (relator : Relator) (left right : Term)
    → meet_trees plan (relation_of relator) (term_at layout site left) (term_at layout site right) ≡ true
    → demand_typed plan (of_terms layout site relator left right) ≡ true
terms_typed plan layout site relators.Equal left right h = h
terms_typed plan layout site relators.Unequal left right h = h
terms_typed plan layout site relators.Less left right h = h
terms_typed plan layout site relators.LessEqual left right h = h
terms_typed plan layout site relators.Greater left right h = h
terms_typed plan layout site relators.GreaterEqual left right h = h

right_typed : (model : Model) (plan : Plan) (site : Site) (left : Term) (relator : Relator) (right : Term)
    → AreOfOneSort model plan site left relator right → (o : Option Name) → lone_of right ≡ o → (a : Option Value)
    → literal_of (layout_of model).texts left ≡ a
    → demand_typed plan (of_right_operand (layout_of model) site o a relator left right) ≡ true
right_typed model plan site left relator right one None e a f =
    terms_typed plan (layout_of model) site relator left right
    (sorts_meet plan (relation_of relator) one.number (term_at (layout_of model) site left)
    (term_at (layout_of model) site right)
    one.first one.second one.texts)
right_typed model plan site left relator right one (Some operand) e None f =
    terms_typed plan (layout_of model) site relator left right
    (sorts_meet plan (relation_of relator) one.number (term_at (layout_of model) site left)
    (term_at (layout_of model) site right)
    one.first one.second one.texts)
right_typed model plan site left relator right one (Some operand) e (Some a) f =
    let r = turned (relation_of relator) in
    let of_texts = one.texts in
    ap (meet_trees plan r (trees.Read (var_meant (layout_of model) site operand)))
    (sym (literal_term (layout_of model) site left a f))
    ∙ ap (λ t. meet_trees plan r t (term_at (layout_of model) site left))
    (sym (lone_term (layout_of model) site right operand e))
    ∙ sorts_meet plan r one.number (term_at (layout_of model) site right)
    (term_at (layout_of model) site left) one.second one.first
    (λ text. turned_texts (relation_of relator) ∙ of_texts text)

left_typed : (model : Model) (plan : Plan) (site : Site) (left : Term) (relator : Relator) (right : Term)
    → AreOfOneSort model plan site left relator right → (o : Option Name) → lone_of left ≡ o → (a : Option Value)
    → literal_of (layout_of model).texts right ≡ a
    → demand_typed plan (of_left_operand (layout_of model) site o a relator left right) ≡ true
left_typed model plan site left relator right one (Some operand) e (Some a) f =
    let r = relation_of relator in
    ap (meet_trees plan r (trees.Read (var_meant (layout_of model) site operand)))
    (sym (literal_term (layout_of model) site right a f))
    ∙ ap (λ t. meet_trees plan r t (term_at (layout_of model) site right))
    (sym (lone_term (layout_of model) site left operand e))
    ∙ sorts_meet plan r one.number (term_at (layout_of model) site left)
    (term_at (layout_of model) site right) one.first one.second one.texts
left_typed model plan site left relator right one (Some operand) e None f =
    terms_typed plan (layout_of model) site relator left right
    (sorts_meet plan (relation_of relator) one.number (term_at (layout_of model) site left)
    (term_at (layout_of model) site right)
    one.first one.second one.texts)
left_typed model plan site left relator right one None e a f =
    right_typed model plan site left relator right one (lone_of right) refl (literal_of (layout_of model).texts left)
    refl

relation_demand_typed : (model : Model) (tables : List VariantTable) (plan : Plan) → IsPlanOf model tables plan
    → HasLists plan
    → (site : Site) → site.setting.model ≡ model → (r : syntax.Relation) → IsSortedDemand model plan site r
    → demand_typed plan (relation_demand (layout_of model) site r) ≡ true
relation_demand_typed model tables plan is lists site own (syntax.Compared left relator right) demanded =
    let b = is_equality relator && is_literal right in
    let sorted = demanded.sorted in
    let sides = each_split (IsReadUse model plan site) (uses_of_left b left) (uses_of_term right) sorted.uses in
    let single = (each_split (λ u. is_set_meant site u.operand ≡ false) (uses_of_left b left) (uses_of_term right)
    demanded.single).0 in
    let computes = sorted.computes in
    let other = computes.1 in
    left_typed model plan site left relator right
    (sides_sorted model tables plan is lists site own left relator right sorted.relates computes.0 other.0
    (left_reads model plan site b left sides.0 (λ operand e. alone b left operand e single))
    (term_reads model plan site right sides.1))
    (lone_of left) refl (literal_of (layout_of model).texts right) refl
  where
    alone : (b : Bool) (t : Term) (operand : Name) → lone_of t ≡ Some operand
        → Each (λ u. is_set_meant site u.operand ≡ false) (uses_of_left b t)
        → is_set_meant site operand ≡ false
    alone b (Number leaf) operand e h = absurd (cc)
    alone b (Text leaf) operand e h = absurd (cc)
    alone true (Operand o) operand e h = let same : o ≡ operand = cc in ap (is_set_meant site) (sym same) ∙ h.0
    alone false (Operand o) operand e h = let same : o ≡ operand = cc in ap (is_set_meant site) (sym same) ∙ h.0
    alone b (Negated t) operand e h = absurd (cc)
    alone b (Combined first operator second) operand e h = absurd (cc)
    alone b (Applied function t) operand e h = absurd (cc)
    alone b (SumOfParts name) operand e h = absurd (cc)
    alone b CountOfParts operand e h = absurd (cc)
relation_demand_typed model tables plan is lists site own (syntax.Within operand listed) demanded =
    let sorted = demanded.sorted in
    let uses = sorted.uses in
    let one = uses.0 in
    let single = demanded.single in
    pieces_typed model tables plan is lists site own operand (one.value single.0) listed sorted.relates

-- a call is given literals and operands alone
given_term : (layout : Layout) (site : Site) (value : Term) → (not (is_literal value) && not (is_operand value)) ≡ false
    → trees.term_of (operand_term (given_operand layout site (literal_of layout.texts value) (lone_of value)))
    ≡ term_at layout site value
given_term layout site (Number leaf) h = refl
given_term layout site (Text leaf) h = refl
given_term layout site (Operand operand) h = refl
given_term layout site (Negated (Number leaf)) h = refl
given_term layout site (Negated (Text leaf)) h = absurd (cc)
given_term layout site (Negated (Operand operand)) h = absurd (cc)
given_term layout site (Negated (Negated t)) h = absurd (cc)
given_term layout site (Negated (Combined left operator right)) h = absurd (cc)
given_term layout site (Negated (Applied function t)) h = absurd (cc)
given_term layout site (Negated (SumOfParts name)) h = absurd (cc)
given_term layout site (Negated CountOfParts) h = absurd (cc)
given_term layout site (Combined left operator right) h = absurd (cc)
given_term layout site (Applied function t) h = absurd (cc)
given_term layout site (SumOfParts name) h = absurd (cc)
given_term layout site CountOfParts h = absurd (cc)

bindings_typed : (model : Model) (tables : List VariantTable) (plan : Plan) → IsPlanOf model tables plan → HasLists plan
    → (site : Site)
    → site.setting.model ≡ model → (call : syntax.TableCall) (bindings : List syntax.Binding)
    → Each (IsSortedBinding model plan site call) bindings → Each (λ b. is_computed b ≡ false) bindings
    → list_all (binding_typed plan (table_number model call.table.name))
    (map (binding_at (layout_of model) site call.table.name) bindings) ≡ true
bindings_typed model tables plan is lists site own call [] h k = refl
bindings_typed model tables plan is lists site own call (b ∷ bindings) h k =
    let sorted = h.0 in
    let table = table_number model call.table.name in
    let list = column_list plan table (column_number model call.table.name b.column.name) in
    let given = operand_term (given_operand (layout_of model) site (literal_of (layout_of model).texts b.value)
    (lone_of b.value)) in
    and_from (binding_typed plan table (binding_at (layout_of model) site call.table.name b))
    (list_all (binding_typed plan table) (map (binding_at (layout_of model) site call.table.name) bindings))
    (meets_same plan list given
    ∙ ap (meets_tree plan list) (given_term (layout_of model) site b.value k.0)
    ∙ binding_meets model tables plan is lists site own call b sorted.known sorted.binds sorted.computes sorted.reads)
    (bindings_typed model tables plan is lists site own call bindings h.1 k.1)

-- a restriction's demand
pub record HasSortedParts (model : Model) (plan : Plan) (site : Site) (demand : syntax.Demand) : Type 0 where
  pub relations : Each (IsSortedDemand model plan site) (relation_of_demand demand)
  pub bindings : Each (λ call. Each (IsSortedBinding model plan site call) call.bindings) (call_of_demand demand)
  pub plain : Each (λ call. Each (λ b. is_computed b ≡ false) call.bindings) (call_of_demand demand)

pub demand_sorted : (model : Model) (tables : List VariantTable) (plan : Plan) → IsPlanOf model tables plan
    → HasLists plan → (site : Site)
    → site.setting.model ≡ model → (demand : syntax.Demand) → HasSortedParts model plan site demand
    → demand_typed plan (demand_at (layout_of model) site demand) ≡ true
demand_sorted model tables plan is lists site own (syntax.Relates r) parts =
    let relations = parts.relations in relation_demand_typed model tables plan is lists site own r relations.0
demand_sorted model tables plan is lists site own (syntax.Holds call) parts =
    let bindings = parts.bindings in
    let plain = parts.plain in
    bindings_typed model tables plan is lists site own call call.bindings bindings.0 plain.0
demand_sorted model tables plan is lists site own syntax.Never parts = refl
