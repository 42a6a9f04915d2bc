-- Procedures read what can be named at their slot, sum over its parts, and write to it alone.
use Rattle.std.proofs.Common.{◌≡◌, ℕ, suc, ◌+◌, Bool, true, false, not, ◌&&◌, ◌||◌, List, [], ◌∷◌, ◌++◌, map, flat_map}
use Rattle.std.proofs.Common.{Option, Some, None, refl, sym, ap, ◌∙◌, arith, subst, if◌then◌else◌}
use Rattle.std.specs.Prelude.{◌==◌, is_none, option_map, slice_get}
use Rattle.std.specs.List.{cons_option, list_all, list_any}
use Rattle.std.proofs.lemmas.Bool.{and_from, eq-eqb, or_left, or_parts}
use Rattle.std.proofs.lemmas.List.Folds.{list_all-append}
use Rattle.vc_model_parts.specs.declared.parts.Characteristic.{Characteristic}
use Rattle.vc_model_parts.specs.declared.parts.Model.{Model}
use Rattle.vc_model_parts.specs.declared.parts.Table.{Table}
use Rattle.vc_model_parts.specs.declared.parts.TableColumn.{TableColumn}
use Rattle.vc_plan.specs.LookUps.{named_by, writes_own}
use Rattle.vc_plan.specs.RuleShapes.{is_among, is_at}
use Rattle.vc_plan.specs.Scopes.{action_own, asks_own_parts, asks_within, means_own_parts, means_within, owners_in}
use Rattle.vc_plan.specs.Scopes.{owners_read, reads_own, scope, statement_own, term_own}
use Rattle.vc_plan.specs.Seen.{slot_in}
use Rattle.vc_plan.specs.declared.conditions.Condition.{Condition as StoredCondition}
use Rattle.vc_plan.specs.declared.conditions.Condition.TheVariants as conditions
use Rattle.vc_plan.specs.declared.plans.Plan.{Plan}
use Rattle.vc_plan.specs.declared.plans.Slot.{Slot}
use Rattle.vc_plan.specs.declared.procedures.FilledColumn.{FilledColumn}
use Rattle.vc_plan.specs.declared.procedures.Statement.{Statement}
use Rattle.vc_plan.specs.declared.procedures.Trigger.{Trigger}
use Rattle.vc_plan.specs.declared.procedures.Trigger.TheVariants.{Anyway}
use Rattle.vc_plan.specs.declared.terms.Term.{Term as StoredTerm}
use Rattle.vc_plan.specs.declared.terms.Term.TheVariants as terms
use Rattle.vc_syntax_tree.specs.declared.NameLeaf.{NameLeaf}
use Rattle.vc_syntax_tree.specs.declared.Operand.TheVariants as operands
use Rattle.vc_syntax_tree.specs.declared.Owner.TheVariants as owners
use Rattle.vc_syntax_tree.specs.Trees as syntax
use Rattle.vc_table.specs.declared.table.VariantTable.{VariantTable}
use Rattle.vc_types.specs.Faults.{fault_of}
use Rattle.vc_types.specs.Looking.{column_in, table_named}
use Rattle.vc_types.specs.NameFaults.{is_unknown_call, is_unknown_column}
use Rattle.vc_types.specs.Occurrences.{Use, as_set, as_value, call_of_action, condition_of_statement, if_there}
use Rattle.vc_types.specs.Occurrences.{relations_of, specified_in, target_of, term_of_action, uses_in, uses_of_relation}
use Rattle.vc_types.specs.Occurrences.{uses_of_term, values_in}
use Rattle.vc_types.specs.PlaceFaults.{bound_column, gives_other, is_key, is_other, is_own, lacks_key, looks_up_wrongly}
use Rattle.vc_types.specs.declared.place.At.TheVariants as at
use Rattle.vc_compile_plan.specs.Conditions.{condition_at}
use Rattle.vc_compile_plan.specs.Layouts.{Layout, layout_of, tree_of}
use Rattle.vc_compile_plan.specs.Numbering.{action_from, action_terms, conditions_of, drafts_of, keys_from, number_for}
use Rattle.vc_compile_plan.specs.Numbering.{numbered, procedure_brings, procedure_from, procedure_terms_begin}
use Rattle.vc_compile_plan.specs.Numbering.{procedures_begin, statement_brings, statement_from, terms_of}
use Rattle.vc_compile_plan.specs.PlanOf.{IsPlanOf}
use Rattle.vc_compile_plan.specs.Places.{place_at, procedure_site, statements_in}
use Rattle.vc_compile_plan.specs.Procedures.{Action, KeyDraft, ProcedureDraft, StatementDraft, action_at, assign}
use Rattle.vc_compile_plan.specs.Procedures.{delete_default, entries_in, filled_by, key_of, look_up, operand_in}
use Rattle.vc_compile_plan.specs.Procedures.{procedure_at, procedure_drafts, procedures_among, procedures_at}
use Rattle.vc_compile_plan.specs.Procedures.{profile_in, set_default, statement_at, target, trigger_of}
use Rattle.vc_compile_plan.specs.Procedures.{uses_in as characteristic_uses, value_procedures}
use Rattle.vc_compile_plan.specs.Refusals as refusals
use Rattle.vc_compile_plan.specs.Refusals.{type_faults}
use Rattle.vc_compile_plan.specs.Sites.{Site, named_at, var_meant}
use Rattle.vc_compile_plan.specs.Slots.{slots_of}
use Rattle.vc_compile_plan.specs.Tables.{column_number}
use Rattle.vc_compile_plan.specs.Terms.{term_at}
use Rattle.vc_compile_plan.specs.Trees as trees
use Rattle.vc_compile_plan.specs.Trees.{condition_of}
use Rattle.vc_compile_plan.specs.Uses.{uses_of_characteristic, uses_of_values}
use Rattle.vc_compile_plan.specs.Variables.{members_of}
use Rattle.vc_compile_valid.proofs.EachLaws.{Each, each_by_slot, each_flat, each_joined, each_mapped, each_more}
use Rattle.vc_compile_valid.proofs.EachLaws.{each_passes}
use Rattle.vc_compile_valid.proofs.ListLaws.{made_from}
use Rattle.vc_compile_valid.proofs.NumberingLaws.{StandFrom, numbered_each, procedure_conditions, procedure_terms}
use Rattle.vc_compile_valid.proofs.PlacedLaws.{stand_first, stand_rest}
use Rattle.vc_compile_meant.proofs.ComponentLaws.{condition_if, condition_stands}
use Rattle.vc_compile_meant.proofs.FaultLaws.{IsTypedAt, IsUsed, all_used, each_false, each_split, each_unflat}
use Rattle.vc_compile_meant.proofs.FaultLaws.{is_sound, names_known}
use Rattle.vc_compile_meant.proofs.MeaningLaws.{meant_at, var_is}
use Rattle.vc_compile_meant.proofs.ScopeLaws.{SetIn, VarIn, asked_within, good_use, in_scope, meant_within, scope_is}
use Rattle.vc_compile_meant.proofs.SoundLaws.{entry_uses, own_place, sound_at}
use Rattle.vc_compile_meant.proofs.TreeLaws.{ConditionHas, IsGoodUse, TermHas, condition_has, used_term_has}
use Rattle.vc_compile_meant.proofs.TreeLaws.{uses_by_condition, uses_by_name, uses_by_term}

-- a sum is over the slot's own parts
abbrev OwnSum : ℕ → ℕ → Type 0
OwnSum i slot = (i == slot) ≡ true

term_owners : (V : ℕ → Type 0) (i : ℕ) (t : StoredTerm) → TermHas V (OwnSum i) (trees.term_of t)
    → list_all (λ j. i == j) (owners_in t) ≡ true
term_owners V i (terms.Literal a) h = refl
term_owners V i (terms.Read v) h = refl
term_owners V i (terms.PartSum slot c) h = and_from (i == slot) true h refl
term_owners V i (terms.PartCount slot) h = and_from (i == slot) true h refl
term_owners V i (terms.Applied' function p a) h = term_owners V i a h
term_owners V i (terms.Joined' operator p a q b) h =
    list_all-append (λ j. i == j) (owners_in a) (owners_in b)
    ∙ and_from (list_all (λ j. i == j) (owners_in a)) (list_all (λ j. i == j) (owners_in b)) (term_owners V i a h.0)
    (term_owners V i b h.1)

condition_owners : (V S : ℕ → Type 0) (i : ℕ) (c : StoredCondition) → ConditionHas V (OwnSum i) S (condition_of c)
    → list_all (λ j. i == j) (owners_read c) ≡ true
condition_owners V S i conditions.Always h = refl
condition_owners V S i (conditions.Compared r a b) h =
    list_all-append (λ j. i == j) (owners_in a) (owners_in b)
    ∙ and_from (list_all (λ j. i == j) (owners_in a)) (list_all (λ j. i == j) (owners_in b)) (term_owners V i a h.0)
    (term_owners V i b h.1)
condition_owners V S i (conditions.IsIn v pieces) h = refl
condition_owners V S i (conditions.Specified v) h = refl
condition_owners V S i (conditions.Holds set text) h = refl
condition_owners V S i (conditions.Filled set) h = refl
condition_owners V S i (conditions.Not' p c) h = condition_owners V S i c h
condition_owners V S i (conditions.And' p c q d) h =
    list_all-append (λ j. i == j) (owners_read c) (owners_read d)
    ∙ and_from (list_all (λ j. i == j) (owners_read c)) (list_all (λ j. i == j) (owners_read d))
    (condition_owners V S i c h.0)
    (condition_owners V S i d h.1)
condition_owners V S i (conditions.Or' p c q d) h =
    list_all-append (λ j. i == j) (owners_read c) (owners_read d)
    ∙ and_from (list_all (λ j. i == j) (owners_read c)) (list_all (λ j. i == j) (owners_read d))
    (condition_owners V S i c h.0)
    (condition_owners V S i d h.1)

-- what a statement asks, means and names
abbrev names_of : Action → List ℕ
names_of (assign v term) = v ∷ []
names_of (set_default v term) = v ∷ []
names_of (delete_default v term) = v ∷ []
names_of (look_up table keys filled) = map (λ column. column.var) filled

record IsOwnStatement (plan : Plan) (i : ℕ) (d : StatementDraft) : Type 0 where
  asks : ConditionHas (VarIn plan (scope plan i)) (OwnSum i) (SetIn plan (scope plan i)) (condition_if d.condition)
  means : Each (TermHas (VarIn plan (scope plan i)) (OwnSum i)) (action_terms d.action)
  names : Each (VarIn plan (i ∷ [])) (names_of d.action)

abbrev IsOwnProcedure : Plan → ProcedureDraft → Type 0
IsOwnProcedure plan d = Each (IsOwnStatement plan d.slot) d.statements

-- what a statement of a tree has
record IsOwnTree (V S : ℕ → Type 0) (plan : Plan) (layout : Layout) (site : Site) (i : ℕ) (s : syntax.Statement) : Type
    0 where
  conditions : Each (λ c. (Each (λ r. Each (IsGoodUse V S layout site) (uses_of_relation r)) (relations_of c))
      × (Each (λ o. IsGoodUse V S layout site (as_set o)) (specified_in c))) (condition_of_statement s)
  terms : Each (λ t. Each (IsGoodUse V S layout site) (uses_of_term t)) (term_of_action s.action)
  values : Each (λ call. Each (λ t. Each (IsGoodUse V S layout site) (uses_of_term t)) (values_in call))
      (call_of_action s.action)
  used : Each (λ call. Each (λ t. Each (IsUsed site.setting) (uses_of_term t)) (values_in call))
      (call_of_action s.action)
  names : Each (λ o. IsUsed site.setting (as_value o)) (target_of s.action)
  right : Each (λ call. looks_up_wrongly site.setting call (table_named site.setting.model call.table.name) ≡ false)
      (call_of_action s.action)
  known : Each (λ call. is_unknown_call site.setting call ≡ false) (call_of_action s.action)

-- a name of the instance itself is a variable of its slot
own_target : (model : Model) (tables : List VariantTable) (plan : Plan) → IsPlanOf model tables plan
    → (i : ℕ) (slot : Slot)
    → slice_get (slots_of model) i ≡ Some slot → (name : NameLeaf)
    → IsUsed (procedure_site (layout_of model) i slot).setting (as_value (operands.Owned owners.Itself name))
    → VarIn plan (i ∷ []) (target (layout_of model) (procedure_site (layout_of model) i slot) name)
own_target model tables plan is i slot there name used =
    let site = procedure_site (layout_of model) i slot in
    let operand = operands.Owned owners.Itself name in
    let meant = meant_at model i slot there at.Procedure refl operand used.c used.means in
    let found = var_is model site operand used.c used.means meant.meant (used.single refl) in
    ap (λ xs. is_among (i ∷ []) (slot_in (slice_get xs (var_meant (layout_of model) site operand)))) is.vars
    ∙ ap (λ o. is_among (i ∷ []) (slot_in o)) found.1
    ∙ ap (λ k. is_among (i ∷ []) (Some k)) found.2
    ∙ or_left (i == i) false (eq-eqb i i refl)

own_value : (model : Model) (tables : List VariantTable) (plan : Plan) → IsPlanOf model tables plan
    → (i : ℕ) (slot : Slot)
    → slice_get (slots_of model) i ≡ Some slot → (column : NameLeaf) (value : syntax.Term) → is_own value ≡ true
    → Each (IsUsed (procedure_site (layout_of model) i slot).setting) (uses_of_term value)
    → VarIn plan (i ∷ []) (target (layout_of model) (procedure_site (layout_of model) i slot) (operand_in value column))
own_value model tables plan is i slot there column (syntax.Number leaf) own used = absurd (cc)
own_value model tables plan is i slot there column (syntax.Text leaf) own used = absurd (cc)
own_value model tables plan is i slot there column (syntax.Operand (operands.Plain leaf)) own used = absurd (cc)
own_value model tables plan is i slot there column (syntax.Operand (operands.Owned owners.Itself leaf)) own used =
    own_target model tables plan is i slot there leaf used.0
own_value model tables plan is i slot there column (syntax.Operand (operands.Owned owners.Parent leaf)) own used =
    absurd (cc)
own_value model tables plan is i slot there column (syntax.Operand (operands.Owned owners.Root leaf)) own used =
    absurd (cc)
own_value model tables plan is i slot there column (syntax.Operand (operands.Member variable leaf)) own used =
    absurd (cc)
own_value model tables plan is i slot there column (syntax.Operand (operands.Variable leaf)) own used = absurd (cc)
own_value model tables plan is i slot there column (syntax.Negated term) own used = absurd (cc)
own_value model tables plan is i slot there column (syntax.Combined left operator right) own used = absurd (cc)
own_value model tables plan is i slot there column (syntax.Applied function term) own used = absurd (cc)
own_value model tables plan is i slot there column (syntax.SumOfParts name) own used = absurd (cc)
own_value model tables plan is i slot there column syntax.CountOfParts own used = absurd (cc)

-- a column that is no key is given the instance's own
pub given_own : (o : Option TableColumn) (own : Bool) → is_none o ≡ false → is_key o ≡ false
    → (is_other o && not own) ≡ false → own ≡ true
given_own None own a b h = absurd (cc)
given_own (Some column) own a b h = by own (ap (λ k. not k && not own) (sym b) ∙ h)
  where
    by : (own : Bool) → not own ≡ false → own ≡ true
    by true h = refl
    by false h = absurd (cc)

all_filled : (model : Model) (tables : List VariantTable) (plan : Plan) → IsPlanOf model tables plan
    → (i : ℕ) (slot : Slot)
    → slice_get (slots_of model) i ≡ Some slot → (call : syntax.TableCall) (bindings : List syntax.Binding)
    → Each (λ t. Each (IsUsed (procedure_site (layout_of model) i slot).setting) (uses_of_term t))
    (map (λ binding. binding.value) bindings)
    → Each (λ binding. gives_other (procedure_site (layout_of model) i slot).setting call binding ≡ false) bindings
    → Each (λ binding. is_unknown_column (procedure_site (layout_of model) i slot).setting call binding ≡ false)
    bindings
    → Each (VarIn plan (i ∷ [])) (map (λ column. column.var)
    (flat_map (filled_by (layout_of model) (procedure_site (layout_of model) i slot) call.table.name) bindings))
all_filled model tables plan is i slot there call [] used other known = tt
all_filled model tables plan is i slot there call (b ∷ bindings) used other known =
    by (is_key (column_in model b.column.name (table_named model call.table.name))) refl
    (all_filled model tables plan is i slot there call bindings used.1 other.1 known.1)
  where
    site : Site
    site = procedure_site (layout_of model) i slot

    filled : FilledColumn
    filled = record {
      column = column_number model call.table.name b.column.name;
      var = target (layout_of model) (procedure_site (layout_of model) i slot) (operand_in b.value b.column);
    }

    by : (k : Bool) → is_key (column_in model b.column.name (table_named model call.table.name)) ≡ k
        → Each (VarIn plan (i ∷ [])) (map (λ column. column.var)
        (flat_map (filled_by (layout_of model) (procedure_site (layout_of model) i slot) call.table.name) bindings))
        → Each (VarIn plan (i ∷ [])) (map (λ column. column.var) ((if k then [] else filled ∷ [])
        ++ flat_map (filled_by (layout_of model) (procedure_site (layout_of model) i slot) call.table.name) bindings))
    by true e more = more
    by false e more = (
      own_value model tables plan is i slot there b.column b.value
          (given_own (column_in model b.column.name (table_named model call.table.name)) (is_own b.value) known.0 e
          other.0) used.0,
      more,
    )

all_keys : (V W S : ℕ → Type 0) (layout : Layout) (site : Site) → W site.own
    → (table : List ℕ) (bindings : List syntax.Binding)
    → Each (λ t. Each (IsGoodUse V S layout site) (uses_of_term t)) (map (λ binding. binding.value) bindings)
    → Each (TermHas V W) (map (λ key. key.term) (flat_map (key_of layout site table) bindings))
all_keys V W S layout site own table [] h = tt
all_keys V W S layout site own table (b ∷ bindings) h =
    by (is_key (column_in layout.model b.column.name (table_named layout.model table)))
    (all_keys V W S layout site own table bindings h.1)
  where
    key : KeyDraft
    key = record { column = column_number layout.model table b.column.name; term = term_at layout site b.value }

    by : (k : Bool) → Each (TermHas V W) (map (λ key. key.term) (flat_map (key_of layout site table) bindings))
        → Each (TermHas V W)
        (map (λ key. key.term) ((if k then key ∷ [] else []) ++ flat_map (key_of layout site table) bindings))
    by true more = (used_term_has V W S layout site own b.value h.0, more)
    by false more = more

pub wrong_parts : (a b c d : Bool) → ((a || b) || (c || d)) ≡ false → d ≡ false
wrong_parts a b c d h = (or_parts c d (or_parts (a || b) (c || d) h).1).1

-- a statement is of its slot
statement_is_own : (model : Model) (tables : List VariantTable) (plan : Plan) → IsPlanOf model tables plan
    → (i : ℕ) (slot : Slot)
    → slice_get (slots_of model) i ≡ Some slot → (s : syntax.Statement)
    → IsOwnTree (VarIn plan (scope plan i)) (SetIn plan (scope plan i)) plan (layout_of model)
    (procedure_site (layout_of model) i slot) i s
    → IsOwnStatement plan i (statement_at (layout_of model) (procedure_site (layout_of model) i slot) s)
statement_is_own model tables plan is i slot there s own = record {
  asks = asked s.condition own.conditions;
  means = meant s.action own.terms own.values;
  names = named s.action own.names own.used own.right own.known;
}
  where
    site : Site
    site = procedure_site (layout_of model) i slot

    V : ℕ → Type 0
    V = VarIn plan (scope plan i)

    S : ℕ → Type 0
    S = SetIn plan (scope plan i)

    here : (i == i) ≡ true
    here = eq-eqb i i refl

    asked : (o : Option syntax.Condition)
        → Each (λ c. (Each (λ r. Each
        (IsGoodUse (VarIn plan (scope plan i)) (SetIn plan (scope plan i)) (layout_of model)
        (procedure_site (layout_of model) i slot)) (uses_of_relation r)) (relations_of c))
        × (Each (λ o. IsGoodUse (VarIn plan (scope plan i)) (SetIn plan (scope plan i)) (layout_of model)
        (procedure_site (layout_of model) i slot) (as_set o)) (specified_in c))) (if_there (λ c. c ∷ []) o)
        → ConditionHas (VarIn plan (scope plan i)) (OwnSum i) (SetIn plan (scope plan i))
        (condition_if (option_map (condition_at (layout_of model) (procedure_site (layout_of model) i slot)) o))
    asked None h = tt
    asked (Some c) h =
        let first = h.0 in
        condition_has (VarIn plan (scope plan i)) (OwnSum i) (SetIn plan (scope plan i)) (layout_of model)
        (procedure_site (layout_of model) i slot) (eq-eqb i i refl) c first.0 first.1

    meant : (a : syntax.Action)
        → Each (λ t. Each (IsGoodUse (VarIn plan (scope plan i)) (SetIn plan (scope plan i)) (layout_of model)
        (procedure_site (layout_of model) i slot)) (uses_of_term t)) (term_of_action a)
        → Each (λ call. Each
        (λ t. Each (IsGoodUse (VarIn plan (scope plan i)) (SetIn plan (scope plan i)) (layout_of model)
        (procedure_site (layout_of model) i slot)) (uses_of_term t)) (values_in call)) (call_of_action a)
        → Each (TermHas (VarIn plan (scope plan i)) (OwnSum i))
        (action_terms (action_at (layout_of model) (procedure_site (layout_of model) i slot) a))
    meant (syntax.Assign name term) h k = (
      used_term_has (VarIn plan (scope plan i)) (OwnSum i) (SetIn plan (scope plan i)) (layout_of model)
          (procedure_site (layout_of model) i slot) (eq-eqb i i refl) term h.0,
      tt,
    )
    meant (syntax.SetDefault name term) h k = (
      used_term_has (VarIn plan (scope plan i)) (OwnSum i) (SetIn plan (scope plan i)) (layout_of model)
          (procedure_site (layout_of model) i slot) (eq-eqb i i refl) term h.0,
      tt,
    )
    meant (syntax.DelDefault name term) h k = (
      used_term_has (VarIn plan (scope plan i)) (OwnSum i) (SetIn plan (scope plan i)) (layout_of model)
          (procedure_site (layout_of model) i slot) (eq-eqb i i refl) term h.0,
      tt,
    )
    meant (syntax.Calls call) h k =
        all_keys (VarIn plan (scope plan i)) (OwnSum i) (SetIn plan (scope plan i)) (layout_of model)
        (procedure_site (layout_of model) i slot) (eq-eqb i i refl) call.table.name call.bindings k.0

    table_right : (call : syntax.TableCall) (o : Option Table) → is_none o ≡ false
        → looks_up_wrongly (procedure_site (layout_of model) i slot).setting call o ≡ false
        → list_any (gives_other (procedure_site (layout_of model) i slot).setting call) call.bindings ≡ false
    table_right call None there h = absurd (cc)
    table_right call (Some table) there h =
        wrong_parts (not (list_any (λ column. column.key) table.columns))
        (list_any (lacks_key (procedure_site (layout_of model) i slot).setting call) table.columns)
        (not (list_any (λ binding. is_other
        (bound_column (procedure_site (layout_of model) i slot).setting call binding)) call.bindings))
        (list_any (gives_other (procedure_site (layout_of model) i slot).setting call) call.bindings) h

    named : (a : syntax.Action)
        → Each (λ o. IsUsed (procedure_site (layout_of model) i slot).setting (as_value o)) (target_of a)
        → Each (λ call. Each (λ t. Each (IsUsed (procedure_site (layout_of model) i slot).setting) (uses_of_term t))
        (values_in call)) (call_of_action a)
        → Each (λ call. looks_up_wrongly (procedure_site (layout_of model) i slot).setting call
        (table_named model call.table.name) ≡ false) (call_of_action a)
        → Each (λ call. is_unknown_call (procedure_site (layout_of model) i slot).setting call ≡ false)
        (call_of_action a)
        → Each (VarIn plan (i ∷ []))
        (names_of (action_at (layout_of model) (procedure_site (layout_of model) i slot) a))
    named (syntax.Assign name term) h used right known = (own_target model tables plan is i slot there name h.0, tt)
    named (syntax.SetDefault name term) h used right known = (own_target model tables plan is i slot there name h.0, tt)
    named (syntax.DelDefault name term) h used right known = (own_target model tables plan is i slot there name h.0, tt)
    named (syntax.Calls call) h used right known =
        let setting = (procedure_site (layout_of model) i slot).setting in
        let parts
        = or_parts (is_none (table_named model call.table.name))
        (list_any (is_unknown_column setting call) call.bindings) known.0 in
        all_filled model tables plan is i slot there call call.bindings used.0
        (each_false (gives_other setting call) call.bindings
        (table_right call (table_named model call.table.name) parts.0 right.0))
        (each_false (is_unknown_column setting call) call.bindings parts.1)

-- all statements of a procedure that is typed
statements_own : (model : Model) (tables : List VariantTable) (plan : Plan) → IsPlanOf model tables plan
    → (i : ℕ) (slot : Slot)
    → slice_get (slots_of model) i ≡ Some slot → (ss : List syntax.Statement)
    → fault_of model (place_at (layout_of model) slot at.Procedure) (syntax.Procedure ss) ≡ None
    → Each (IsOwnStatement plan i) (map (statement_at (layout_of model) (procedure_site (layout_of model) i slot)) ss)
statements_own model tables plan is i slot there ss typed =
    let site = procedure_site (layout_of model) i slot in
    let setting = (procedure_site (layout_of model) i slot).setting in
    let tree = syntax.Procedure ss in
    let slots = scope plan i in
    let Good : Use → Type 0 = IsGoodUse (VarIn plan slots) (SetIn plan slots) (layout_of model) site in
    let sound = is_sound model (place_at (layout_of model) slot at.Procedure) tree typed in
    let used = all_used setting tree sound in
    let good = each_more (IsUsed setting) Good
    (good_use model tables plan is i slot there at.Procedure refl slots
    (λ k w. ap (λ l. is_among l (Some k)) (scope_is model tables plan is i slot there)
    ∙ in_scope i k slot at.Procedure w))
    (uses_in tree) used in
    let Conditions : syntax.Condition → Type 0 = λ c. (Each (λ r. Each Good (uses_of_relation r)) (relations_of c))
    × (Each (λ o. Good (as_set o)) (specified_in c)) in
    let own_terms = flat_map (λ s. term_of_action s.action) ss in
    let calls = flat_map (λ s. call_of_action s.action) ss in
    let conditions = each_unflat Conditions condition_of_statement ss (uses_by_condition Good tree good) in
    let term_parts
    = each_split (λ t. Each Good (uses_of_term t)) own_terms (flat_map values_in calls)
    (uses_by_term Good tree good) in
    let used_parts = each_split (λ t. Each (IsUsed setting) (uses_of_term t)) own_terms (flat_map values_in calls)
    (uses_by_term (IsUsed setting) tree used) in
    let terms = each_unflat (λ t. Each Good (uses_of_term t)) (λ s. term_of_action s.action) ss term_parts.0 in
    let values
    = each_unflat (λ call. Each (λ t. Each Good (uses_of_term t)) (values_in call)) (λ s. call_of_action s.action)
    ss
    (each_unflat (λ t. Each Good (uses_of_term t)) values_in calls term_parts.1) in
    let used_values
    = each_unflat (λ call. Each (λ t. Each (IsUsed setting) (uses_of_term t)) (values_in call))
    (λ s. call_of_action s.action) ss
    (each_unflat (λ t. Each (IsUsed setting) (uses_of_term t)) values_in calls used_parts.1) in
    let names
    = each_unflat (λ o. IsUsed setting (as_value o)) (λ s. target_of s.action) ss
    (uses_by_name (IsUsed setting) tree used) in
    let right
    = each_unflat (λ call. looks_up_wrongly setting call (table_named model call.table.name) ≡ false)
    (λ s. call_of_action s.action) ss
    (each_false (λ call. looks_up_wrongly setting call (table_named model call.table.name)) calls sound.keys) in
    let unknown = names_known setting tree sound in
    let known = each_unflat (λ call. is_unknown_call setting call ≡ false) (λ s. call_of_action s.action) ss
    (each_false (is_unknown_call setting) calls unknown.1) in
    each_mapped (IsOwnStatement plan i) (statement_at (layout_of model) site) ss
    (all ss conditions terms values used_values names right known)
  where
    all : (xs : List syntax.Statement)
        → Each (λ s. Each (λ c.
        (Each (λ r. Each (IsGoodUse (VarIn plan (scope plan i)) (SetIn plan (scope plan i)) (layout_of model)
        (procedure_site (layout_of model) i slot)) (uses_of_relation r)) (relations_of c))
        × (Each (λ o. IsGoodUse (VarIn plan (scope plan i)) (SetIn plan (scope plan i)) (layout_of model)
        (procedure_site (layout_of model) i slot) (as_set o)) (specified_in c))) (condition_of_statement s)) xs
        → Each (λ s. Each (λ t. Each
        (IsGoodUse (VarIn plan (scope plan i)) (SetIn plan (scope plan i)) (layout_of model)
        (procedure_site (layout_of model) i slot)) (uses_of_term t)) (term_of_action s.action)) xs
        → Each (λ s. Each (λ call. Each
        (λ t. Each (IsGoodUse (VarIn plan (scope plan i)) (SetIn plan (scope plan i)) (layout_of model)
        (procedure_site (layout_of model) i slot)) (uses_of_term t)) (values_in call)) (call_of_action s.action)) xs
        → Each (λ s. Each (λ call. Each
        (λ t. Each (IsUsed (procedure_site (layout_of model) i slot).setting) (uses_of_term t)) (values_in call))
        (call_of_action s.action)) xs
        → Each (λ s. Each (λ o. IsUsed (procedure_site (layout_of model) i slot).setting (as_value o))
        (target_of s.action)) xs
        → Each (λ s. Each (λ call. looks_up_wrongly (procedure_site (layout_of model) i slot).setting call
        (table_named model call.table.name) ≡ false)
        (call_of_action s.action)) xs
        → Each (λ s. Each (λ call. is_unknown_call (procedure_site (layout_of model) i slot).setting call ≡ false)
        (call_of_action s.action)) xs
        → Each (λ s. IsOwnStatement plan i (statement_at (layout_of model) (procedure_site (layout_of model) i slot) s))
        xs
    all [] a b c d e f g = tt
    all (s ∷ xs) a b c d e f g = (
      statement_is_own model tables plan is i slot there s
          (record { conditions = a.0; terms = b.0; values = c.0; used = d.0; names = e.0; right = f.0; known = g.0 }),
      all xs a.1 b.1 c.1 d.1 e.1 f.1 g.1,
    )

-- those among what is used at a place
among_own : (model : Model) (tables : List VariantTable) (plan : Plan) → IsPlanOf model tables plan
    → (i : ℕ) (slot : Slot)
    → slice_get (slots_of model) i ≡ Some slot → (trigger : Trigger) (uses : List ℕ)
    → Each (IsTypedAt model (own_place model slot)) uses
    → Each (IsOwnProcedure plan) (procedures_among (layout_of model) i slot trigger uses)
among_own model tables plan is i slot there trigger [] h = tt
among_own model tables plan is i slot there trigger (d ∷ uses) h =
    of_tree (tree_of model d) refl h.0 (among_own model tables plan is i slot there trigger uses h.1)
  where
    of_tree : (tree : Option syntax.Dependency) → tree_of model d ≡ tree → IsTypedAt model (own_place model slot) d
        → Each (IsOwnProcedure plan) (procedures_among (layout_of model) i slot trigger uses)
        → Each (IsOwnProcedure plan)
        (cons_option (option_map (procedure_at (layout_of model) i slot trigger d) (statements_in tree))
        (procedures_among (layout_of model) i slot trigger uses))
    of_tree None e typed more = more
    of_tree (Some (syntax.Precondition c)) e typed more = more
    of_tree (Some (syntax.Selection c)) e typed more = more
    of_tree (Some (syntax.Constrains c)) e typed more = more
    of_tree (Some (syntax.Counts t)) e typed more = more
    of_tree (Some (syntax.Procedure ss)) e typed more =
        (statements_own model tables plan is i slot there ss (typed (syntax.Procedure ss) e), more)

pub own_uses : (P : ℕ → Type 0) (o : Option Characteristic) → Each P (uses_of_characteristic o)
    → Each P (characteristic_uses o) × Each (λ e. Each P e.uses) (entries_in o)
own_uses P None h = (tt, tt)
own_uses P (Some x) h =
    let both = each_split P x.uses (uses_of_values x.values) h in (both.0, entry_uses P x.values both.1)

all_procedures : (model : Model) (tables : List VariantTable) (plan : Plan) → IsPlanOf model tables plan
    → refusals.first_of (type_faults (layout_of model)) ≡ None
    → Each (IsOwnProcedure plan) (procedure_drafts (layout_of model))
all_procedures model tables plan is sound =
    each_by_slot (IsOwnProcedure plan) (procedures_at (layout_of model)) 0 (slots_of model) (λ k slot e.
    let i = 0 + k in
    let there = subst (λ m. slice_get (slots_of model) m ≡ Some slot) (no_front k) e in
    let at_slot = sound_at model sound k slot e in
    let members = members_of model slot.object in
    let Typed : ℕ → Type 0 = IsTypedAt model (own_place model slot) in
    let own : ℕ → List ProcedureDraft = λ c. procedures_among (layout_of model) (0 + k) slot Anyway
    (characteristic_uses (slice_get model.characteristics c)) in
    each_joined (IsOwnProcedure plan)
    (procedures_among (layout_of model) (0 + k) slot Anyway (profile_in (slice_get model.objects slot.object)))
    (flat_map own members ++ flat_map (value_procedures (layout_of model) (0 + k) slot) members)
    (among_own model tables plan is (0 + k) slot there Anyway (profile_in (slice_get model.objects slot.object))
    at_slot.profile)
    (each_joined (IsOwnProcedure plan) (flat_map own members)
    (flat_map (value_procedures (layout_of model) (0 + k) slot) members)
    (each_flat (IsOwnProcedure plan) own members
    (each_more (λ c. Each Typed (uses_of_characteristic (slice_get model.characteristics c)))
    (λ c. Each (IsOwnProcedure plan) (own c))
    (λ c h. among_own model tables plan is (0 + k) slot there Anyway
    (characteristic_uses (slice_get model.characteristics c))
    (own_uses Typed (slice_get model.characteristics c) h).0) members at_slot.members))
    (each_flat (IsOwnProcedure plan) (value_procedures (layout_of model) (0 + k) slot) members
    (each_more (λ c. Each Typed (uses_of_characteristic (slice_get model.characteristics c)))
    (λ c. Each (IsOwnProcedure plan) (value_procedures (layout_of model) (0 + k) slot c))
    (λ c h. each_flat (IsOwnProcedure plan)
    (λ entry. procedures_among (layout_of model) (0 + k) slot
    (trigger_of (named_at (layout_of model) (0 + k) c) entry.piece) entry.uses)
    (entries_in (slice_get model.characteristics c))
    (each_more (λ entry. Each Typed entry.uses)
    (λ entry. Each (IsOwnProcedure plan)
    (procedures_among (layout_of model) (0 + k) slot (trigger_of (named_at (layout_of model) (0 + k) c) entry.piece)
    entry.uses))
    (λ entry j. among_own model tables plan is (0 + k) slot there
    (trigger_of (named_at (layout_of model) (0 + k) c) entry.piece) entry.uses j)
    (entries_in (slice_get model.characteristics c)) (own_uses Typed (slice_get model.characteristics c) h).1)) members
    at_slot.members))))
  where
    no_front : (m : ℕ) → m ≡ 0 + m
    no_front m = omega arith

-- a plan's statements by their drafts
term_is_own : (model : Model) (tables : List VariantTable) (plan : Plan) → IsPlanOf model tables plan
    → (i n : ℕ) (t : trees.Term)
    → slice_get (terms_of (drafts_of (layout_of model))) n ≡ Some t → TermHas (VarIn plan (scope plan i)) (OwnSum i) t
    → term_own plan i n ≡ true
term_is_own model tables plan is i n t e h =
    let found = made_from trees.term_of plan.terms (terms_of (drafts_of (layout_of model))) is.terms n t e in
    and_from (means_within plan (scope plan i) (slice_get plan.terms n)) (means_own_parts i (slice_get plan.terms n))
    (meant_within model tables plan is (scope plan i) (OwnSum i) n t e h)
    (ap (means_own_parts i) found.1
    ∙ term_owners (VarIn plan (scope plan i)) i found.0
    (subst (TermHas (VarIn plan (scope plan i)) (OwnSum i)) (sym found.2) h))

keys_own : (model : Model) (tables : List VariantTable) (plan : Plan) → IsPlanOf model tables plan
    → (i t : ℕ) (keys : List KeyDraft)
    → Each (TermHas (VarIn plan (scope plan i)) (OwnSum i)) (map (λ key. key.term) keys)
    → StandFrom (terms_of (drafts_of (layout_of model))) t (map (λ key. key.term) keys)
    → list_all (λ key. term_own plan i key.term) (keys_from t keys) ≡ true
keys_own model tables plan is i t [] h ts = refl
keys_own model tables plan is i t (key ∷ keys) h ts =
    let all = terms_of (drafts_of (layout_of model)) in
    let rest = map (λ key. key.term) keys in
    and_from (term_own plan i t) (list_all (λ key. term_own plan i key.term) (keys_from (suc t) keys))
    (term_is_own model tables plan is i t key.term (stand_first all t key.term rest ts) h.0)
    (keys_own model tables plan is i (suc t) keys h.1 (stand_rest all t key.term rest ts))

action_is_own : (model : Model) (tables : List VariantTable) (plan : Plan) → IsPlanOf model tables plan
    → (i t : ℕ) (a : Action)
    → Each (TermHas (VarIn plan (scope plan i)) (OwnSum i)) (action_terms a)
    → StandFrom (terms_of (drafts_of (layout_of model))) t (action_terms a) → action_own plan i (action_from t a) ≡ true
action_is_own model tables plan is i t (assign v term) h ts =
    term_is_own model tables plan is i t term (stand_first (terms_of (drafts_of (layout_of model))) t term [] ts) h.0
action_is_own model tables plan is i t (set_default v term) h ts =
    term_is_own model tables plan is i t term (stand_first (terms_of (drafts_of (layout_of model))) t term [] ts) h.0
action_is_own model tables plan is i t (delete_default v term) h ts =
    term_is_own model tables plan is i t term (stand_first (terms_of (drafts_of (layout_of model))) t term [] ts) h.0
action_is_own model tables plan is i t (look_up table keys filled) h ts = keys_own model tables plan is i t keys h ts

names_same : (t : ℕ) (a : Action) → named_by (action_from t a) ≡ names_of a
names_same t (assign v term) = refl
names_same t (set_default v term) = refl
names_same t (delete_default v term) = refl
names_same t (look_up table keys filled) = refl

condition_is_own : (model : Model) (tables : List VariantTable) (plan : Plan) → IsPlanOf model tables plan
    → (i n : ℕ) (c : trees.Condition)
    → slice_get (conditions_of (drafts_of (layout_of model))) n ≡ Some c
    → ConditionHas (VarIn plan (scope plan i)) (OwnSum i) (SetIn plan (scope plan i)) c
    → (asks_within plan (scope plan i) (slice_get plan.conditions n) && asks_own_parts i (slice_get plan.conditions n))
    ≡ true
condition_is_own model tables plan is i n c e h =
    let found
    = made_from condition_of plan.conditions (conditions_of (drafts_of (layout_of model))) is.conditions n c e in
    and_from (asks_within plan (scope plan i) (slice_get plan.conditions n))
    (asks_own_parts i (slice_get plan.conditions n))
    (asked_within model tables plan is (scope plan i) (OwnSum i) n c e h)
    (ap (asks_own_parts i) found.1
    ∙ condition_owners (VarIn plan (scope plan i)) (SetIn plan (scope plan i)) i found.0
    (subst (ConditionHas (VarIn plan (scope plan i)) (OwnSum i) (SetIn plan (scope plan i))) (sym found.2) h))

pub record HasOwnProcedures (plan : Plan) : Type 0 where
  pub procedure_reads : list_all (reads_own plan) plan.procedures ≡ true
  pub own_writes : list_all (writes_own plan) plan.procedures ≡ true

pub own_procedures : (model : Model) (tables : List VariantTable) (plan : Plan) → IsPlanOf model tables plan
    → refusals.first_of (type_faults (layout_of model)) ≡ None → HasOwnProcedures plan
own_procedures model tables plan is sound =
    let drafts = drafts_of (layout_of model) in
    let all = subst (Each (λ x. (reads_own plan x ≡ true) × (writes_own plan x ≡ true))) (sym is.procedures)
    (numbered_each procedure_brings procedure_from (IsOwnProcedure plan)
    (λ x. (reads_own plan x ≡ true) × (writes_own plan x ≡ true))
    (conditions_of drafts) (terms_of drafts) (λ c t d own cs ts. made c t d own cs ts) (procedures_begin drafts)
    (procedure_terms_begin drafts) drafts.procedures (all_procedures model tables plan is sound)
    (procedure_conditions drafts)
    (procedure_terms drafts)) in
    record {
      procedure_reads = each_passes (λ x. (reads_own plan x ≡ true) × (writes_own plan x ≡ true)) (reads_own plan)
          (λ x h. h.0) plan.procedures all;
      own_writes = each_passes (λ x. (reads_own plan x ≡ true) × (writes_own plan x ≡ true)) (writes_own plan)
          (λ x h. h.1) plan.procedures all;
    }
  where
    made : (c t : ℕ) (d : ProcedureDraft) → IsOwnProcedure plan d
        → StandFrom (conditions_of (drafts_of (layout_of model))) c (procedure_brings.conditions d)
        → StandFrom (terms_of (drafts_of (layout_of model))) t (procedure_brings.terms d)
        → (reads_own plan (procedure_from c t d) ≡ true) × (writes_own plan (procedure_from c t d) ≡ true)
    made c t d own cs ts =
        let Good : Statement → Type 0
        = λ s. (statement_own plan d.slot s ≡ true)
        × (list_all (is_at plan (d.slot ∷ [])) (named_by s.action) ≡ true) in
        let statements = numbered statement_brings statement_from c t d.statements in
        let each = numbered_each statement_brings statement_from (IsOwnStatement plan d.slot) Good
        (conditions_of (drafts_of (layout_of model))) (terms_of (drafts_of (layout_of model)))
        (λ m n s h ms ns. (
          and_from (asks_within plan (scope plan d.slot) (slice_get plan.conditions (number_for m s.condition))
              && asks_own_parts d.slot (slice_get plan.conditions (number_for m s.condition)))
              (action_own plan d.slot (action_from n s.action))
              (condition_is_own model tables plan is d.slot (number_for m s.condition) (condition_if s.condition)
              (condition_stands (drafts_of (layout_of model)) m s.condition ms) h.asks)
              (action_is_own model tables plan is d.slot n s.action h.means ns),
          ap (list_all (is_at plan (d.slot ∷ []))) (names_same n s.action)
              ∙ each_passes (VarIn plan (d.slot ∷ [])) (is_at plan (d.slot ∷ [])) (λ v k. k) (names_of s.action)
              h.names,
        )) c t d.statements own cs ts in (
          each_passes Good (statement_own plan d.slot) (λ s h. h.0) statements each,
          each_passes Good (λ s. list_all (is_at plan (d.slot ∷ [])) (named_by s.action)) (λ s h. h.1) statements each,
        )
