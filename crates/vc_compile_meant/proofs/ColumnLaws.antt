-- A table call of a constraint names columns, each once.
use Rattle.std.proofs.Common.{◌≡◌, ℕ, Bool, true, false, cond, not, nat_lt, List, [], ◌∷◌, ◌++◌, length, map, flat_map}
use Rattle.std.proofs.Common.{Option, Some, None, refl, sym, ap, ◌∙◌, subst}
use Rattle.std.specs.Prelude.{◌==◌, find, is_none, option_map, slice_get}
use Rattle.std.specs.Cmp.Lexicographic.{bytes_decides}
use Rattle.std.specs.List.{list_all, list_any, position_or_len}
use Rattle.std.specs.Str.{bytes_eq}
use Rattle.std.proofs.lemmas.Bool.{and_from, eqb-true, ltb-true, ne_eqb, not_from_false, or_parts}
use Rattle.std.proofs.lemmas.List.{length-map}
use Rattle.std.proofs.lemmas.Option.{cond_some}
use Rattle.std.proofs.lemmas.List.Folds.{find_at}
use Rattle.vc_model_parts.specs.declared.parts.Characteristic.{Characteristic}
use Rattle.vc_model_parts.specs.declared.parts.Model.{Model}
use Rattle.vc_model_parts.specs.declared.parts.NamedDependency.{NamedDependency}
use Rattle.vc_model_parts.specs.declared.parts.Table.{Table}
use Rattle.vc_model_parts.specs.declared.parts.TableColumn.{TableColumn}
use Rattle.vc_plan.specs.Orders.{are_apart}
use Rattle.vc_plan.specs.RuleShapes.{columns_once}
use Rattle.vc_plan.specs.declared.plans.Plan.{Plan}
use Rattle.vc_value.specs.declared.value.Value.{Value}
use Rattle.vc_syntax_tree.specs.declared.Operand.{Operand}
use Rattle.vc_syntax_tree.specs.declared.Relator.{Relator}
use Rattle.vc_syntax_tree.specs.declared.Relator.TheVariants as relators
use Rattle.vc_syntax_tree.specs.Trees as syntax
use Rattle.vc_table.specs.declared.table.VariantTable.{VariantTable}
use Rattle.vc_types.specs.Looking.{characteristic_named, column_if, column_in, table_named}
use Rattle.vc_types.specs.NameFaults.{is_unknown_call, is_unknown_column, names_column_twice, some_twice}
use Rattle.vc_types.specs.Occurrences.{call_of_demand}
use Rattle.vc_compile_plan.specs.Layouts.{Layout, layout_of, tree_of}
use Rattle.vc_compile_plan.specs.Numbering.{drafts_of, kind_from, rule_brings, rule_from}
use Rattle.vc_compile_plan.specs.PlanOf.{IsPlanOf}
use Rattle.vc_compile_plan.specs.Rules.{Demand, Draft, binding_at, by_table, constraint_site, constraints_drafts}
use Rattle.vc_compile_plan.specs.Rules.{demand_at, in_net, last_drafts, of_left_operand, of_right_operand, of_terms}
use Rattle.vc_compile_plan.specs.Rules.{relation_demand, restriction_draft, rule_drafts, slot_drafts_from}
use Rattle.vc_compile_plan.specs.Sites.{Site, number_or_zero}
use Rattle.vc_compile_plan.specs.Tables.{column_number, column_place, table_number}
use Rattle.vc_compile_plan.specs.Terms.{literal_of, lone_of}
use Rattle.vc_compile_valid.proofs.DraftLaws.{each_last, each_slot_draft}
use Rattle.vc_compile_valid.proofs.EachLaws.{Each, each_joined, each_more, each_passes, each_tested}
use Rattle.vc_compile_valid.proofs.LineSlotLaws.{numbered_made}
use Rattle.vc_compile_valid.proofs.ListLaws.{none_from, passes_there, there}
use Rattle.vc_compile_meant.specs.Calls.{HasColumns, KeepsBindings, names_columns}
use Rattle.vc_compile_meant.specs.Scopes.{IsTyped}
use Rattle.vc_compile_meant.proofs.FaultLaws.{each_false, each_here, each_unflat, is_sound, names_known}
use Rattle.vc_compile_meant.proofs.TupleLaws.{IsOfNet, each_of_nets}

-- what is found passes
pub found_passes : {X : Type 0} (p : X → Bool) (xs : List X) (x : X) → find p xs ≡ Some x → p x ≡ true
found_passes p [] x e = absurd (cc)
found_passes p (y ∷ xs) x e = by (p y) refl e (λ f. found_passes p xs x f)
  where
    by : (b : Bool) → p y ≡ b → cond b (Some y) (find p xs) ≡ Some x → (find p xs ≡ Some x → p x ≡ true) → p x ≡ true
    by true h f later = let same : y ≡ x = cc in ap p (sym same) ∙ h
    by false h f later = later f

-- names of one characteristic are one
pub named_passes : (model : Model) (name : List ℕ) (c : ℕ) → characteristic_named model name ≡ Some c
    → (x : Characteristic) × (slice_get model.characteristics c ≡ Some x) × (bytes_eq x.name name ≡ true)
named_passes model name c e =
    let p : Characteristic → Bool = λ c. bytes_eq c.name name in
    let k = position_or_len (λ c. bytes_eq c.name name) model.characteristics in
    let parts = cond_some (nat_lt k (length model.characteristics)) k c e in
    let found = there model.characteristics k (ltb-true k (length model.characteristics) parts.0) in (
      found.0,
      sym (ap (slice_get model.characteristics) parts.1) ∙ found.1,
      found_passes p model.characteristics found.0 (find_at p model.characteristics ∙ found.1),
    )

one_name : (model : Model) (a b : List ℕ) (c : ℕ) → characteristic_named model a ≡ Some c
    → characteristic_named model b ≡ Some c
    → bytes_eq a b ≡ true
one_name model a b c e f =
    let first = named_passes model a c e in
    let second = named_passes model b c f in
    let both : Some first.0 ≡ Some second.0 = sym first.1 ∙ second.1 in
    let same : first.0 ≡ second.0 = cc in
    let one = (bytes_decides first.0.name a).0 first.2 in
    let other = (bytes_decides second.0.name b).0 second.2 in
    (bytes_decides a b).1 (sym one ∙ ap (λ x. x.name) same ∙ other)

-- a column that is there
pub record IsColumn (model : Model) (table name : List ℕ) : Type 0 where
  pub c : ℕ
  pub named : characteristic_named model name ≡ Some c
  pub column : TableColumn
  pub tb : Table
  pub table_is : slice_get model.tables (table_number model table) ≡ Some tb
  pub found : find (λ column. column.characteristic == c) tb.columns ≡ Some column

pub column_there : (model : Model) (table name : List ℕ)
    → is_none (column_in model name (table_named model table)) ≡ false
    → IsColumn model table name
column_there model table name h = by (characteristic_named model name) refl (table_named model table) refl h
  where
    of_column : (c : ℕ) → characteristic_named model name ≡ Some c → (tb : Table) → table_named model table ≡ Some tb
        → (o : Option TableColumn) → find (λ column. column.characteristic == c) tb.columns ≡ o → is_none o ≡ false
        → IsColumn model table name
    of_column c e tb f None g k = absurd (cc)
    of_column c e tb f (Some column) g k = record {
      c = c;
      named = e;
      column = column;
      tb = tb;
      table_is = sym (find_at (λ table'. bytes_eq table'.name table) model.tables) ∙ f;
      found = g;
    }

    by : (o : Option ℕ) → characteristic_named model name ≡ o → (t : Option Table) → table_named model table ≡ t
        → is_none (column_if t o) ≡ false → IsColumn model table name
    by None e t f k = absurd (cc)
    by (Some c) e None f k = absurd (cc)
    by (Some c) e (Some tb) f k = of_column c e tb f (find (λ column. column.characteristic == c) tb.columns) refl k

pub column_at : (model : Model) (table name : List ℕ) (column : IsColumn model table name)
    → column_number model table name ≡ position_or_len (λ x. x.characteristic == column.c) column.tb.columns
column_at model table name column =
    ap (λ o. column_place o (number_or_zero (characteristic_named model name))) column.table_is
    ∙ ap (λ o. column_place (Some column.tb) (number_or_zero o)) column.named

-- columns of different names differ
pub columns_differ : (model : Model) (table a b : List ℕ) → IsColumn model table a → IsColumn model table b
    → bytes_eq a b ≡ false
    → column_number model table a ≡ column_number model table b → ⊥
columns_differ model table a b x y apart e =
    let tables : Some x.tb ≡ Some y.tb = sym x.table_is ∙ y.table_is in
    let tb : x.tb ≡ y.tb = cc in
    let first = sym (find_at (λ column. column.characteristic == x.c) x.tb.columns) ∙ x.found in
    let second = sym (find_at (λ column. column.characteristic == y.c) y.tb.columns) ∙ y.found in
    let places = sym (column_at model table a x) ∙ e ∙ column_at model table b y in
    let columns : Some x.column ≡ Some y.column =
    sym first ∙ ap (slice_get x.tb.columns) places
    ∙ ap (λ t. slice_get t.columns (position_or_len (λ column. column.characteristic == y.c) y.tb.columns)) tb
    ∙ second in
    let column : x.column ≡ y.column = cc in
    let one
    = eqb-true x.column.characteristic x.c
    (found_passes (λ column. column.characteristic == x.c) x.tb.columns x.column x.found) in
    let other
    = eqb-true y.column.characteristic y.c
    (found_passes (λ column. column.characteristic == y.c) y.tb.columns y.column y.found) in
    let same : x.c ≡ y.c = sym one ∙ ap (λ k. k.characteristic) column ∙ other in
    let both : true ≡ false = sym (one_name model a b y.c (x.named ∙ ap Some same) y.named) ∙ apart in cc

-- so bindings of a call have columns of their own
none_alike : (model : Model) (site : Site) (table : List ℕ) (b : syntax.Binding) → IsColumn model table b.column.name
    → (bindings : List syntax.Binding) → Each (λ x. IsColumn model table x.column.name) bindings
    → list_any (bytes_eq b.column.name) (map (λ x. x.column.name) bindings) ≡ false
    → list_all (λ y. not (column_number model table b.column.name == y.column))
    (map (binding_at (layout_of model) site table) bindings) ≡ true
none_alike model site table b column [] known apart = refl
none_alike model site table b column (x ∷ bindings) known apart =
    let parts
    = or_parts (bytes_eq b.column.name x.column.name)
    (list_any (bytes_eq b.column.name) (map (λ x. x.column.name) bindings)) apart in
    and_from (not (column_number model table b.column.name == column_number model table x.column.name))
    (list_all (λ y. not (column_number model table b.column.name == y.column))
    (map (binding_at (layout_of model) site table) bindings))
    (not_from_false (column_number model table b.column.name == column_number model table x.column.name)
    (ne_eqb (column_number model table b.column.name) (column_number model table x.column.name)
    (columns_differ model table b.column.name x.column.name column known.0 parts.0)))
    (none_alike model site table b column bindings known.1 parts.1)

pub columns_apart : (model : Model) (site : Site) (table : List ℕ) (bindings : List syntax.Binding)
    → Each (λ x. IsColumn model table x.column.name) bindings → some_twice (map (λ x. x.column.name) bindings) ≡ false
    → are_apart (λ a b. a.column == b.column) (map (binding_at (layout_of model) site table) bindings) ≡ true
columns_apart model site table [] known twice = refl
columns_apart model site table (b ∷ bindings) known twice =
    let names = map (λ x. x.column.name) bindings in
    let parts = or_parts (list_any (bytes_eq b.column.name) names) (some_twice names) twice in
    let rest = map (binding_at (layout_of model) site table) bindings in
    and_from (not (list_any (λ y. column_number model table b.column.name == y.column) rest))
    (are_apart (λ a b. a.column == b.column) rest)
    (none_from (λ y. column_number model table b.column.name == y.column) rest
    (none_alike model site table b known.0 bindings known.1 parts.0))
    (columns_apart model site table bindings known.1 parts.1)

-- a call of a constraint
abbrev HasOwnColumns : Demand → Type 0
HasOwnColumns demand = (t : ℕ) → columns_once (kind_from t demand) ≡ true

terms_once : (layout : Layout) (site : Site) (relator : Relator) (left right : syntax.Term) (t : ℕ)
    → columns_once (kind_from t (of_terms layout site relator left right)) ≡ true
terms_once layout site relators.Equal left right t = refl
terms_once layout site relators.Unequal left right t = refl
terms_once layout site relators.Less left right t = refl
terms_once layout site relators.LessEqual left right t = refl
terms_once layout site relators.Greater left right t = refl
terms_once layout site relators.GreaterEqual left right t = refl

right_once : (layout : Layout) (site : Site) (o : Option Operand) (a : Option Value) (relator : Relator)
    (left right : syntax.Term) (t : ℕ)
    → columns_once (kind_from t (of_right_operand layout site o a relator left right)) ≡ true
right_once layout site None a relator left right t = terms_once layout site relator left right t
right_once layout site (Some operand) None relator left right t = terms_once layout site relator left right t
right_once layout site (Some operand) (Some a) relator left right t = refl

left_once : (layout : Layout) (site : Site) (o : Option Operand) (a : Option Value) (relator : Relator)
    (left right : syntax.Term) (t : ℕ)
    → columns_once (kind_from t (of_left_operand layout site o a relator left right)) ≡ true
left_once layout site (Some operand) (Some a) relator left right t = refl
left_once layout site (Some operand) None relator left right t = terms_once layout site relator left right t
left_once layout site None a relator left right t =
    right_once layout site (lone_of right) (literal_of layout.texts left) relator left right t

relation_once : (layout : Layout) (site : Site) (relation : syntax.Relation)
    → HasOwnColumns (relation_demand layout site relation)
relation_once layout site (syntax.Compared left relator right) t =
    left_once layout site (lone_of left) (literal_of layout.texts right) relator left right t
relation_once layout site (syntax.Within operand listed) t = refl

call_once : (model : Model) (site : Site) (call : syntax.TableCall) → is_unknown_call site.setting call ≡ false
    → site.setting.model ≡ model → names_column_twice call ≡ false → nat_lt 0 (length call.bindings) ≡ true
    → HasOwnColumns (by_table (table_number model call.table.name)
    (map (binding_at (layout_of model) site call.table.name) call.bindings))
call_once model site call known of twice some t =
    let parts
    = or_parts (is_none (table_named site.setting.model call.table.name))
    (list_any (is_unknown_column site.setting call) call.bindings) known in
    let columns
    = each_more (λ b. is_unknown_column site.setting call b ≡ false)
    (λ b. IsColumn model call.table.name b.column.name)
    (λ b h. column_there model call.table.name b.column.name
    (sym (ap (λ m. is_none (column_in m b.column.name (table_named m call.table.name))) of) ∙ h)) call.bindings
    (each_false (is_unknown_column site.setting call) call.bindings parts.1) in
    and_from (nat_lt 0 (length (map (binding_at (layout_of model) site call.table.name) call.bindings)))
    (are_apart (λ a b. a.column == b.column) (map (binding_at (layout_of model) site call.table.name) call.bindings))
    (ap (nat_lt 0) (length-map call.bindings (binding_at (layout_of model) site call.table.name)) ∙ some)
    (columns_apart model site call.table.name call.bindings columns twice)

demand_once : (model : Model) (site : Site) (demand : syntax.Demand) → site.setting.model ≡ model
    → Each (λ call. is_unknown_call site.setting call ≡ false) (call_of_demand demand)
    → Each (λ call. names_column_twice call ≡ false) (call_of_demand demand)
    → Each (λ call. nat_lt 0 (length call.bindings) ≡ true) (call_of_demand demand)
    → HasOwnColumns (demand_at (layout_of model) site demand)
demand_once model site (syntax.Relates relation) of known twice some t = relation_once (layout_of model) site relation t
demand_once model site (syntax.Holds call) of known twice some t = call_once model site call known.0 of twice.0 some.0 t
demand_once model site syntax.Never of known twice some t = refl

bindings_there : (model : Model) → KeepsBindings model → (d : ℕ) (constraint : syntax.Constraint)
    → tree_of model d ≡ Some (syntax.Constrains constraint) → names_columns (syntax.Constrains constraint) ≡ true
bindings_there model keeps d constraint e = by (slice_get model.dependencies d) refl
  where
    by : (o : Option NamedDependency) → slice_get model.dependencies d ≡ o
        → names_columns (syntax.Constrains constraint) ≡ true
    by None f = absurd (let gone : None ≡ Some (syntax.Constrains constraint) =
        sym (ap (option_map (λ named. syntax.dependency_of named.tree)) f) ∙ e in cc)
    by (Some x) f =
        let same : Some (syntax.dependency_of x.tree) ≡ Some (syntax.Constrains constraint) =
        sym (ap (option_map (λ named. syntax.dependency_of named.tree)) f) ∙ e in
        let tree : syntax.dependency_of x.tree ≡ syntax.Constrains constraint = cc in
        sym (ap names_columns tree)
        ∙ passes_there (λ named. names_columns (syntax.dependency_of named.tree)) model.dependencies d x keeps.bindings
        f

net_once : (model : Model) → KeepsBindings model
    → (d : ℕ) (constraint : syntax.Constraint) (tuple : List ℕ) (number : ℕ)
    (restriction : syntax.Restriction) → IsOfNet model d constraint tuple restriction
    → HasOwnColumns (restriction_draft (layout_of model) d constraint tuple number restriction).demand
net_once model keeps d constraint tuple number restriction of =
    let site = constraint_site (layout_of model) constraint tuple in
    let tree = syntax.Constrains constraint in
    let rs = constraint.restrictions in
    let sound = is_sound model in_net tree of.sound in
    let calls = flat_map (λ r. call_of_demand r.demand) rs in
    let doubles
    = or_parts (some_twice (map (λ variable. variable.name) site.setting.variables))
    (list_any names_column_twice calls) sound.double in
    let known
    = each_here (λ r. Each (λ call. is_unknown_call site.setting call ≡ false) (call_of_demand r.demand)) rs
    of.place restriction
    (each_unflat (λ call. is_unknown_call site.setting call ≡ false) (λ r. call_of_demand r.demand) rs
    (each_false (is_unknown_call site.setting) calls (names_known site.setting tree sound).1)) of.there in
    let twice
    = each_here (λ r. Each (λ call. names_column_twice call ≡ false) (call_of_demand r.demand)) rs of.place
    restriction
    (each_unflat (λ call. names_column_twice call ≡ false) (λ r. call_of_demand r.demand) rs
    (each_false names_column_twice calls doubles.1))
    of.there in
    let some
    = each_here (λ r. Each (λ call. nat_lt 0 (length call.bindings) ≡ true) (call_of_demand r.demand)) rs of.place
    restriction
    (each_unflat (λ call. nat_lt 0 (length call.bindings) ≡ true) (λ r. call_of_demand r.demand) rs
    (each_tested (λ call. nat_lt 0 (length call.bindings)) calls (bindings_there model keeps d constraint of.tree)))
    of.there in
    demand_once model site restriction.demand refl known twice some

abbrev HasColumnsOnce : Draft → Type 0
HasColumnsOnce d = HasOwnColumns d.demand

all_once : (model : Model) → KeepsBindings model → IsTyped model → Each HasColumnsOnce (rule_drafts (layout_of model))
all_once model keeps sound =
    let layout = layout_of model in
    each_joined HasColumnsOnce (constraints_drafts layout)
    (last_drafts layout ++ slot_drafts_from layout 0 layout.standings)
    (each_of_nets HasColumnsOnce model sound (net_once model keeps))
    (each_joined HasColumnsOnce (last_drafts layout) (slot_drafts_from layout 0 layout.standings)
    (each_last HasColumnsOnce layout (λ v t. refl))
    (each_slot_draft HasColumnsOnce layout (λ i. (λ t. refl, λ site number asked some t. refl)) 0 layout.standings))

pub has_columns : (model : Model) (tables : List VariantTable) (plan : Plan) → IsPlanOf model tables plan
    → KeepsBindings model
    → IsTyped model → HasColumns plan
has_columns model tables plan is keeps sound =
    let drafts = drafts_of (layout_of model) in
    record {
      columns = each_passes (λ x. columns_once x.kind ≡ true) (λ x. columns_once x.kind) (λ x h. h) plan.rules
          (subst (Each (λ x. columns_once x.kind ≡ true)) (sym is.rules)
          (numbered_made rule_brings rule_from HasColumnsOnce (λ x. columns_once x.kind ≡ true) (λ c t d h. h t) 1 0
          drafts.rules
          (all_once model keeps sound)));
    }
