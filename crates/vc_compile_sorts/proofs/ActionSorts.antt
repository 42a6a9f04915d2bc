-- What a statement without a fault writes is of its target's sort, and so is what it looks up and fills.
use Rattle.std.proofs.Common.{◌≡◌, ℕ, Bool, true, false, ◌&&◌, List, [], ◌∷◌, ◌++◌, flat_map, refl, ap, ◌∙◌}
use Rattle.std.proofs.Common.{if◌then◌else◌}
use Rattle.std.specs.List.{list_all}
use Rattle.std.proofs.lemmas.Bool.{and_from}
use Rattle.vc_model_parts.specs.declared.parts.Model.{Model}
use Rattle.vc_plan.specs.Typing.{column_list, filled_typed}
use Rattle.vc_plan.specs.declared.conditions.Relation.TheVariants as relations
use Rattle.vc_plan.specs.declared.plans.Plan.{Plan}
use Rattle.vc_plan.specs.declared.procedures.FilledColumn.{FilledColumn}
use Rattle.vc_syntax_tree.specs.declared.NameLeaf.{NameLeaf}
use Rattle.vc_syntax_tree.specs.declared.Operand.TheVariants as operands
use Rattle.vc_syntax_tree.specs.declared.Owner.TheVariants as owners
use Rattle.vc_syntax_tree.specs.Trees as syntax
use Rattle.vc_table.specs.declared.table.VariantTable.{VariantTable}
use Rattle.vc_types.specs.Looking.{column_in, table_named}
use Rattle.vc_types.specs.Occurrences.{call_of_action, operands_of, target_of, term_of_action}
use Rattle.vc_types.specs.PlaceFaults.{gives_other, is_key, is_own}
use Rattle.vc_types.specs.SortFaults.{acts_wrongly, computes_with_text, gives_wrongly, is_number, sort_of}
use Rattle.vc_compile_plan.specs.Layouts.{Layout, layout_of}
use Rattle.vc_compile_plan.specs.PlanOf.{IsPlanOf}
use Rattle.vc_compile_plan.specs.Procedures.{Action, KeyDraft, action_at, assign, delete_default, filled_by, key_of}
use Rattle.vc_compile_plan.specs.Procedures.{look_up, operand_in, set_default, target}
use Rattle.vc_compile_plan.specs.Sites.{Site}
use Rattle.vc_compile_plan.specs.Tables.{column_number, table_number}
use Rattle.vc_compile_plan.specs.Terms.{term_at}
use Rattle.vc_compile_plan.specs.Trees as trees
use Rattle.vc_compile_valid.specs.Domains.{HasLists}
use Rattle.vc_compile_valid.proofs.EachLaws.{Each}
use Rattle.vc_compile_meant.proofs.ProcedureLaws.{given_own}
use Rattle.vc_compile_meant.proofs.SortLaws.{IsRead}
use Rattle.vc_compile_sorts.proofs.ColumnSorts.{binding_meets, meets_tree}
use Rattle.vc_compile_sorts.proofs.DemandSorts.{IsSortedBinding}
use Rattle.vc_compile_sorts.proofs.TermSorts.{is_of_sort, meet_trees, same_sort, sorts_meet, term_one, term_sorted}

-- whether what is written, looked up and filled meets what it stands for
abbrev pub key_meets : Plan → ℕ → KeyDraft → Bool
key_meets plan table key = meets_tree plan (column_list plan table key.column) key.term

abbrev pub action_meets : Plan → Action → Bool
action_meets plan (assign v term) = meet_trees plan relations.Equal (trees.Read v) term
action_meets plan (set_default v term) = meet_trees plan relations.Equal (trees.Read v) term
action_meets plan (delete_default v term) = meet_trees plan relations.Equal (trees.Read v) term
action_meets plan (look_up table keys filled) = list_all (key_meets plan table) keys && list_all
    (filled_typed plan table) filled

-- a term that computes with no text, each of its operands a variable
pub record IsSortedTerm (model : Model) (plan : Plan) (site : Site) (t : syntax.Term) : Type 0 where
  pub computes : computes_with_text site.setting t ≡ false
  pub reads : Each (IsRead model plan site) (operands_of t)

-- what an action has
pub record IsSortedAction (model : Model) (plan : Plan) (site : Site) (a : syntax.Action) : Type 0 where
  pub right : acts_wrongly site.setting a ≡ false
  pub terms : Each (IsSortedTerm model plan site) (term_of_action a)
  pub names : Each (IsRead model plan site) (target_of a)
  pub bindings : Each (λ call. Each (IsSortedBinding model plan site call) call.bindings) (call_of_action a)
  pub others : Each (λ call. Each (λ b. gives_other site.setting call b ≡ false) call.bindings) (call_of_action a)

-- a characteristic with what it is given
given_meets : (model : Model) (tables : List VariantTable) (plan : Plan) → IsPlanOf model tables plan → HasLists plan
    → (site : Site)
    → site.setting.model ≡ model → (name : NameLeaf) (t : syntax.Term) → gives_wrongly site.setting name t ≡ false
    → IsSortedTerm model plan site t → IsRead model plan site (operands.Owned owners.Itself name)
    → meet_trees plan relations.Equal (trees.Read (target (layout_of model) site name))
    (term_at (layout_of model) site t)
    ≡ true
given_meets model tables plan is lists site own name t wrong sorted read =
    let named = syntax.Operand (operands.Owned owners.Itself name) in
    let a = sort_of site.setting named in
    let b = sort_of site.setting t in
    let same = same_sort a b (term_one model tables plan is lists site own named (read, tt))
    (term_one model tables plan is lists site own t sorted.reads) wrong in
    sorts_meet plan relations.Equal (is_number a) (trees.Read (target (layout_of model) site name))
    (term_at (layout_of model) site t)
    (term_sorted model tables plan is lists site own named refl (read, tt))
    (ap (λ n. is_of_sort plan n (term_at (layout_of model) site t)) same
    ∙ term_sorted model tables plan is lists site own t sorted.computes sorted.reads)
    (λ text. refl)

-- the keys of a call
keys_meet : (model : Model) (tables : List VariantTable) (plan : Plan) → IsPlanOf model tables plan → HasLists plan
    → (site : Site)
    → site.setting.model ≡ model → (call : syntax.TableCall) (bindings : List syntax.Binding)
    → Each (IsSortedBinding model plan site call) bindings
    → list_all (key_meets plan (table_number model call.table.name))
    (flat_map (key_of (layout_of model) site call.table.name) bindings) ≡ true
keys_meet model tables plan is lists site own call [] h = refl
keys_meet model tables plan is lists site own call (b ∷ bindings) h =
    by (is_key (column_in model b.column.name (table_named model call.table.name)))
    (keys_meet model tables plan is lists site own call bindings h.1)
  where
    key : KeyDraft
    key = record {
      column = column_number model call.table.name b.column.name;
      term = term_at (layout_of model) site b.value;
    }

    here : key_meets plan (table_number model call.table.name) key ≡ true
    here =
        let sorted = h.0 in
        binding_meets model tables plan is lists site own call b sorted.known sorted.binds sorted.computes sorted.reads

    by : (k : Bool)
        → list_all (key_meets plan (table_number model call.table.name))
        (flat_map (key_of (layout_of model) site call.table.name) bindings) ≡ true
        → list_all (key_meets plan (table_number model call.table.name))
        ((if k then key ∷ [] else []) ++ flat_map (key_of (layout_of model) site call.table.name) bindings) ≡ true
    by true more =
        and_from (key_meets plan (table_number model call.table.name) key)
        (list_all (key_meets plan (table_number model call.table.name))
        (flat_map (key_of (layout_of model) site call.table.name) bindings))
        here more
    by false more = more

-- what gets a cell is a variable of the instance
own_term : (layout : Layout) (site : Site) (column : NameLeaf) (value : syntax.Term) → is_own value ≡ true
    → trees.Read (target layout site (operand_in value column)) ≡ term_at layout site value
own_term layout site column (syntax.Number leaf) own = absurd (cc)
own_term layout site column (syntax.Text leaf) own = absurd (cc)
own_term layout site column (syntax.Operand (operands.Plain leaf)) own = absurd (cc)
own_term layout site column (syntax.Operand (operands.Owned owners.Itself leaf)) own = refl
own_term layout site column (syntax.Operand (operands.Owned owners.Parent leaf)) own = absurd (cc)
own_term layout site column (syntax.Operand (operands.Owned owners.Root leaf)) own = absurd (cc)
own_term layout site column (syntax.Operand (operands.Member variable leaf)) own = absurd (cc)
own_term layout site column (syntax.Operand (operands.Variable leaf)) own = absurd (cc)
own_term layout site column (syntax.Negated term) own = absurd (cc)
own_term layout site column (syntax.Combined left operator right) own = absurd (cc)
own_term layout site column (syntax.Applied function term) own = absurd (cc)
own_term layout site column (syntax.SumOfParts name) own = absurd (cc)
own_term layout site column syntax.CountOfParts own = absurd (cc)

fills_meet : (model : Model) (tables : List VariantTable) (plan : Plan) → IsPlanOf model tables plan → HasLists plan
    → (site : Site)
    → site.setting.model ≡ model → (call : syntax.TableCall) (bindings : List syntax.Binding)
    → Each (IsSortedBinding model plan site call) bindings
    → Each (λ b. gives_other site.setting call b ≡ false) bindings
    → list_all (filled_typed plan (table_number model call.table.name))
    (flat_map (filled_by (layout_of model) site call.table.name) bindings) ≡ true
fills_meet model tables plan is lists site own call [] h k = refl
fills_meet model tables plan is lists site own call (b ∷ bindings) h k =
    by (is_key (column_in model b.column.name (table_named model call.table.name))) refl
    (fills_meet model tables plan is lists site own call bindings h.1 k.1)
  where
    filled : FilledColumn
    filled = record {
      column = column_number model call.table.name b.column.name;
      var = target (layout_of model) site (operand_in b.value b.column);
    }

    here : is_key (column_in model b.column.name (table_named model call.table.name)) ≡ false
        → filled_typed plan (table_number model call.table.name) filled ≡ true
    here e =
        let sorted = h.0 in
        let column = column_in site.setting.model b.column.name (table_named site.setting.model call.table.name) in
        let plain : is_key column ≡ false = ap (λ m. is_key
        (column_in m b.column.name (table_named m call.table.name))) own ∙ e in
        ap (meets_tree plan (column_list plan (table_number model call.table.name)
        (column_number model call.table.name b.column.name)))
        (own_term (layout_of model) site b.column b.value (given_own column (is_own b.value) sorted.known plain k.0))
        ∙ binding_meets model tables plan is lists site own call b sorted.known sorted.binds sorted.computes
        sorted.reads

    by : (kind : Bool) → is_key (column_in model b.column.name (table_named model call.table.name)) ≡ kind
        → list_all (filled_typed plan (table_number model call.table.name))
        (flat_map (filled_by (layout_of model) site call.table.name) bindings) ≡ true
        → list_all (filled_typed plan (table_number model call.table.name))
        ((if kind then [] else filled ∷ []) ++ flat_map
        (filled_by (layout_of model) site call.table.name) bindings) ≡ true
    by true e more = more
    by false e more =
        and_from (filled_typed plan (table_number model call.table.name) filled)
        (list_all (filled_typed plan (table_number model call.table.name))
        (flat_map (filled_by (layout_of model) site call.table.name) bindings))
        (here e) more

pub action_sorted : (model : Model) (tables : List VariantTable) (plan : Plan) → IsPlanOf model tables plan
    → HasLists plan → (site : Site)
    → site.setting.model ≡ model → (a : syntax.Action) → IsSortedAction model plan site a
    → action_meets plan (action_at (layout_of model) site a) ≡ true
action_sorted model tables plan is lists site own (syntax.Assign name t) sorted =
    let sorted_terms = sorted.terms in
    let names = sorted.names in
    given_meets model tables plan is lists site own name t sorted.right sorted_terms.0 names.0
action_sorted model tables plan is lists site own (syntax.SetDefault name t) sorted =
    let sorted_terms = sorted.terms in
    let names = sorted.names in
    given_meets model tables plan is lists site own name t sorted.right sorted_terms.0 names.0
action_sorted model tables plan is lists site own (syntax.DelDefault name t) sorted =
    let sorted_terms = sorted.terms in
    let names = sorted.names in
    given_meets model tables plan is lists site own name t sorted.right sorted_terms.0 names.0
action_sorted model tables plan is lists site own (syntax.Calls call) sorted =
    let bindings = sorted.bindings in
    let others = sorted.others in
    let table = table_number model call.table.name in
    and_from (list_all (key_meets plan table) (flat_map (key_of (layout_of model) site call.table.name) call.bindings))
    (list_all (filled_typed plan table) (flat_map (filled_by (layout_of model) site call.table.name) call.bindings))
    (keys_meet model tables plan is lists site own call call.bindings bindings.0)
    (fills_meet model tables plan is lists site own call call.bindings bindings.0 others.0)
