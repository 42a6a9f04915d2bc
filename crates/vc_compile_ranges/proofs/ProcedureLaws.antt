-- Procedures name slots, dependencies, conditions, terms, variables, tables, columns and listed values that the plan
-- has.
use Rattle.std.proofs.Common.{◌≡◌, ℕ, suc, ℤ, Bool, true, false, ◌&&◌, nat_lt, List, [], ◌∷◌, ◌++◌, length, map}
use Rattle.std.proofs.Common.{flat_map, Option, Some, None, refl, sym, ap, ◌∙◌, arith, subst, if◌then◌else◌}
use Rattle.std.specs.Prelude.{◌==◌, is_none, nat_le, slice_get}
use Rattle.std.specs.List.{list_all, list_any}
use Rattle.std.specs.Int.Signed.{le_z}
use Rattle.std.proofs.lemmas.Bool.{and_from, and_parts, eqb-true, lt-ltb, or_parts}
use Rattle.std.proofs.lemmas.Int.{ints}
use Rattle.std.proofs.lemmas.List.Folds.{list_all-map}
use Rattle.std.proofs.lemmas.Option.{slice_get_within}
use Rattle.vc_value.specs.declared.decimal.Dec.{Dec}
use Rattle.vc_value.specs.declared.table_header.Domain.{Domain}
use Rattle.vc_value.specs.declared.table_header.Domain.TheVariants as domains
use Rattle.vc_model_parts.specs.declared.parts.Model.{Model}
use Rattle.vc_plan.specs.Classes.{characteristic_at}
use Rattle.vc_plan.specs.Domains.{grains_in}
use Rattle.vc_plan.specs.Lists.{is_entry, is_same_piece, list_in, list_of}
use Rattle.vc_plan.specs.LookUps.{named_by, trigger_listed, writes_own}
use Rattle.vc_plan.specs.Orders.{is_number}
use Rattle.vc_plan.specs.Pieces.{is_part}
use Rattle.vc_plan.specs.ProcedureRanges.{action_there, filled_there, key_there, procedure_there, statement_there}
use Rattle.vc_plan.specs.ProcedureRanges.{trigger_there}
use Rattle.vc_plan.specs.Ranges.{characteristic_there, domain_there, grain_there, is_of, is_stored, piece_there}
use Rattle.vc_plan.specs.RuleRanges.{width_of}
use Rattle.vc_plan.specs.RuleShapes.{is_at}
use Rattle.vc_plan.specs.Seen.{slot_in}
use Rattle.vc_plan.specs.Showing.{slot_of_named, slot_of_set}
use Rattle.vc_plan.specs.declared.conditions.Piece.{Piece}
use Rattle.vc_plan.specs.declared.conditions.Piece.TheVariants.{OneText, Stretch}
use Rattle.vc_plan.specs.declared.plans.Characteristic.{Characteristic}
use Rattle.vc_plan.specs.declared.plans.Named.TheVariants as named
use Rattle.vc_plan.specs.declared.plans.Plan.{Plan}
use Rattle.vc_plan.specs.declared.plans.TextSet.{TextSet}
use Rattle.vc_plan.specs.declared.plans.Var.{Var}
use Rattle.vc_plan.specs.declared.procedures.FilledColumn.{FilledColumn}
use Rattle.vc_plan.specs.declared.procedures.Statement.{Statement}
use Rattle.vc_plan.specs.declared.procedures.Trigger.{Trigger}
use Rattle.vc_plan.specs.declared.procedures.Trigger.TheVariants.{Anyway, ValueIn, TextIn}
use Rattle.vc_syntax_tree.specs.Trees as syntax
use Rattle.vc_table.specs.declared.table.VariantTable.{VariantTable}
use Rattle.vc_types.specs.Looking.{column_in, table_named}
use Rattle.vc_types.specs.NameFaults.{is_unknown_call, is_unknown_column}
use Rattle.vc_types.specs.Occurrences.{call_of_action}
use Rattle.vc_types.specs.PlaceFaults.{is_key}
use Rattle.vc_types.specs.declared.place.At.TheVariants as at
use Rattle.vc_compile_plan.specs.Layouts.{layout_of}
use Rattle.vc_compile_plan.specs.Numbering.{action_from, action_terms, drafts_of, keys_from, number_for, numbered}
use Rattle.vc_compile_plan.specs.Numbering.{statement_brings, statement_from, terms_of}
use Rattle.vc_compile_plan.specs.PlanOf.{IsPlanOf}
use Rattle.vc_compile_plan.specs.Places.{place_at, procedure_site}
use Rattle.vc_compile_plan.specs.Procedures.{Action, KeyDraft, ProcedureDraft, action_at, assign, delete_default}
use Rattle.vc_compile_plan.specs.Procedures.{filled_by, key_of, look_up, operand_in, set_default, statement_at, target}
use Rattle.vc_compile_plan.specs.Sites.{Site}
use Rattle.vc_compile_plan.specs.Slots.{slots_of}
use Rattle.vc_compile_plan.specs.Tables.{column_number, table_number}
use Rattle.vc_compile_plan.specs.Terms.{term_at}
use Rattle.vc_compile_plan.specs.Trees as trees
use Rattle.vc_compile_valid.proofs.EachLaws.{Each, each_both, each_mapped, each_more, each_passes, each_tested}
use Rattle.vc_compile_valid.proofs.ListLaws.{passes_there, some_there}
use Rattle.vc_compile_valid.proofs.NumberingLaws.{StandFrom, stand_within}
use Rattle.vc_compile_valid.proofs.PlacedLaws.{stand_rest}
use Rattle.vc_compile_meant.proofs.FaultLaws.{each_false, each_unflat, is_sound, names_known}
use Rattle.vc_compile_origins.proofs.OriginLaws.{ProceduresMade, statements_hold}
use Rattle.vc_compile_origins.proofs.StandingLaws.{OfProcedures}
use Rattle.vc_compile_ranges.proofs.ColumnLaws.{column_below, table_there}
use Rattle.vc_compile_ranges.proofs.RuleLaws.{condition_number, dependency_there, slot_there, term_number, var_there}

-- pieces that are the same name the same
one_stored : (a b : Dec) → le_z a.millionths b.millionths ≡ true → le_z b.millionths a.millionths ≡ true
    → is_stored b ≡ true → is_stored a ≡ true
one_stored a b h k stored = subst (λ (z : ℤ). is_stored (record { millionths = z }) ≡ true)
    (sym (both a.millionths b.millionths h k)) stored
  where
    both : (x y : ℤ) → le_z x y ≡ true → le_z y x ≡ true → x ≡ y
    both x y p q = grind (arith, ints)

same_there : (plan : Plan) (p q : Piece) → is_same_piece p q ≡ true → piece_there plan q ≡ true
    → piece_there plan p ≡ true
same_there plan (OneText s) (OneText t) same h =
    ap (is_of plan.texts) (eqb-true s t (and_parts (s == t) (t == s) same).0) ∙ h
same_there plan (OneText s) (Stretch g) same h = absurd (cc)
same_there plan (Stretch g) (OneText t) same h = absurd (cc)
same_there plan (Stretch g) (Stretch h) same there =
    let parts = and_parts (is_part (Stretch g) (Stretch h)) (is_part (Stretch h) (Stretch g)) same in
    let one = and_parts (le_z h.low.millionths g.low.millionths) (le_z g.high.millionths h.high.millionths) parts.0 in
    let other = and_parts (le_z g.low.millionths h.low.millionths) (le_z h.high.millionths g.high.millionths) parts.1 in
    let stored = and_parts (is_stored h.low) (is_stored h.high) there in
    and_from (is_stored g.low) (is_stored g.high) (one_stored g.low h.low other.0 one.0 stored.0)
    (one_stored g.high h.high one.1 other.1 stored.1)

-- a listed value is there
grains_there : (plan : Plan) (list : Domain) → domain_there plan list ≡ true
    → list_all (piece_there plan) (grains_in (Some list)) ≡ true
grains_there plan (domains.Texts texts) h = list_all-map (piece_there plan) OneText texts ∙ h
grains_there plan (domains.Nums decimals grains) h =
    list_all-map (piece_there plan) Stretch grains ∙ (and_parts (nat_le decimals 6) (list_all grain_there grains) h).1

entry_there : (plan : Plan) → list_all (characteristic_there plan) plan.characteristics ≡ true
    → (o : Option ℕ) (piece : Piece)
    → is_entry (list_of plan o) piece ≡ true → piece_there plan piece ≡ true
entry_there plan listed None piece h = absurd (cc)
entry_there plan listed (Some c) piece h = by (slice_get plan.characteristics c) refl h
  where
    by : (o : Option Characteristic) → slice_get plan.characteristics c ≡ o → is_entry (list_in o) piece ≡ true
        → piece_there plan piece ≡ true
    by None e k = absurd (cc)
    by (Some x) e k =
        let found = some_there (is_same_piece piece) (grains_in (Some x.list)) k in
        same_there plan piece found.1 found.3
        (passes_there (piece_there plan) (grains_in (Some x.list)) found.0 found.1
        (grains_there plan x.list (passes_there (characteristic_there plan) plan.characteristics c x listed e)) found.2)

-- a procedure that stands at a listed value stands at one that is there
var_at : (plan : Plan) (i v : ℕ) → is_number i (slot_in (slice_get plan.vars v)) ≡ true → is_of plan.vars v ≡ true
var_at plan i v h = by (slice_get plan.vars v) refl h
  where
    by : (o : Option Var) → slice_get plan.vars v ≡ o → is_number i (slot_in o) ≡ true → is_of plan.vars v ≡ true
    by None e k = absurd (cc)
    by (Some x) e k = lt-ltb v (length plan.vars) (slice_get_within plan.vars v x e)

set_at : (plan : Plan) (i s : ℕ) → is_number i (slot_of_set (slice_get plan.sets s)) ≡ true → is_of plan.sets s ≡ true
set_at plan i s h = by (slice_get plan.sets s) refl h
  where
    by : (o : Option TextSet) → slice_get plan.sets s ≡ o → is_number i (slot_of_set o) ≡ true
        → is_of plan.sets s ≡ true
    by None e k = absurd (cc)
    by (Some x) e k = lt-ltb s (length plan.sets) (slice_get_within plan.sets s x e)

trigger_is : (plan : Plan) → list_all (characteristic_there plan) plan.characteristics ≡ true
    → (i : ℕ) (trigger : Trigger)
    → trigger_listed plan i trigger ≡ true → trigger_there plan trigger ≡ true
trigger_is plan listed i Anyway h = refl
trigger_is plan listed i (ValueIn v piece) h =
    let parts = and_parts (is_number i (slot_of_named plan (named.Var v)))
    (is_entry (list_of plan (characteristic_at plan (named.Var v))) piece) h in
    and_from (is_of plan.vars v) (piece_there plan piece) (var_at plan i v parts.0)
    (entry_there plan listed (characteristic_at plan (named.Var v)) piece parts.1)
trigger_is plan listed i (TextIn set text) h =
    let parts = and_parts (is_number i (slot_of_named plan (named.Set set)))
    (is_entry (list_of plan (characteristic_at plan (named.Set set))) (OneText text)) h in
    and_from (is_of plan.sets set) (is_of plan.texts text) (set_at plan i set parts.0)
    (entry_there plan listed (characteristic_at plan (named.Set set)) (OneText text) parts.1)

-- what an action names beside terms and variables
abbrev pub ActionNamed : Plan → Action → Type 0
ActionNamed plan (assign v term) = Unit {0}
ActionNamed plan (set_default v term) = Unit {0}
ActionNamed plan (delete_default v term) = Unit {0}
ActionNamed plan (look_up table keys filled) =
    (is_of plan.tables table ≡ true) × Each (λ k. nat_lt k.column (width_of plan table) ≡ true) keys
    × Each (λ f. nat_lt f.column (width_of plan table) ≡ true) filled

module _ (model : Model) (tables : List VariantTable) (plan : Plan) (is : IsPlanOf model tables plan) where
  keys_named : (site : Site) (table : List ℕ) (bindings : List syntax.Binding)
      → Each (λ b. nat_lt (column_number model table b.column.name) (width_of plan (table_number model table)) ≡ true)
      bindings
      → Each (λ k. nat_lt k.column (width_of plan (table_number model table)) ≡ true)
      (flat_map (key_of (layout_of model) site table) bindings)
  keys_named site table [] h = tt
  keys_named site table (b ∷ bindings) h =
      by (is_key (column_in model b.column.name (table_named model table))) (keys_named site table bindings h.1)
    where
      key : KeyDraft
      key = record { column = column_number model table b.column.name; term = term_at (layout_of model) site b.value }

      by : (k : Bool)
          → Each (λ k. nat_lt k.column (width_of plan (table_number model table)) ≡ true)
          (flat_map (key_of (layout_of model) site table) bindings)
          → Each (λ k. nat_lt k.column (width_of plan (table_number model table)) ≡ true)
          ((if k then key ∷ [] else []) ++ flat_map (key_of (layout_of model) site table) bindings)
      by true more = (h.0, more)
      by false more = more

  filled_named : (site : Site) (table : List ℕ) (bindings : List syntax.Binding)
      → Each (λ b. nat_lt (column_number model table b.column.name) (width_of plan (table_number model table)) ≡ true)
      bindings
      → Each (λ f. nat_lt f.column (width_of plan (table_number model table)) ≡ true)
      (flat_map (filled_by (layout_of model) site table) bindings)
  filled_named site table [] h = tt
  filled_named site table (b ∷ bindings) h =
      by (is_key (column_in model b.column.name (table_named model table))) (filled_named site table bindings h.1)
    where
      filled : FilledColumn
      filled = record {
        column = column_number model table b.column.name;
        var = target (layout_of model) site (operand_in b.value b.column);
      }

      by : (k : Bool)
          → Each (λ f. nat_lt f.column (width_of plan (table_number model table)) ≡ true)
          (flat_map (filled_by (layout_of model) site table) bindings)
          → Each (λ f. nat_lt f.column (width_of plan (table_number model table)) ≡ true)
          ((if k then [] else filled ∷ []) ++ flat_map (filled_by (layout_of model) site table) bindings)
      by true more = more
      by false more = (h.0, more)

  action_named : (i : ℕ) (site : Site) → site.setting.model ≡ model → (a : syntax.Action)
      → Each (λ call. is_unknown_call site.setting call ≡ false) (call_of_action a)
      → ActionNamed plan (action_at (layout_of model) site a)
  action_named i site of (syntax.Assign name term) known = tt
  action_named i site of (syntax.SetDefault name term) known = tt
  action_named i site of (syntax.DelDefault name term) known = tt
  action_named i site of (syntax.Calls call) known =
      let parts = or_parts (is_none (table_named site.setting.model call.table.name))
      (list_any (is_unknown_column site.setting call) call.bindings)
      known.0 in
      let below = each_more (λ b. is_unknown_column site.setting call b ≡ false)
      (λ b. nat_lt (column_number model call.table.name b.column.name)
      (width_of plan (table_number model call.table.name)) ≡ true)
      (λ b h. column_below model tables plan is call.table.name b.column.name
      (sym (ap (λ m. is_none (column_in m b.column.name (table_named m call.table.name))) of) ∙ h)) call.bindings
      (each_false (is_unknown_column site.setting call) call.bindings parts.1) in (
        table_there model tables plan is call.table.name
            (sym (ap (λ m. is_none (table_named m call.table.name)) of) ∙ parts.0),
        keys_named site call.table.name call.bindings below,
        filled_named site call.table.name call.bindings below,
      )

-- a draft of a procedure
pub record IsNamedProcedure (plan : Plan) (d : ProcedureDraft) : Type 0 where
  pub slot : is_of plan.slots d.slot ≡ true
  pub dependency : is_of plan.dependencies d.dependency ≡ true
  pub statements : Each (λ s. ActionNamed plan s.action) d.statements

pub procedures_named : (model : Model) (tables : List VariantTable) (plan : Plan) → IsPlanOf model tables plan
    → OfProcedures (IsNamedProcedure plan) model
procedures_named model tables plan is i slot trigger d ss tree stands =
    let site = procedure_site (layout_of model) i slot in
    let sound = is_sound model (place_at (layout_of model) slot at.Procedure) (syntax.Procedure ss) stands.sound in
    let calls = flat_map (λ s. call_of_action s.action) ss in
    let known = each_unflat (λ call. is_unknown_call (procedure_site (layout_of model) i slot).setting call ≡ false)
    (λ s. call_of_action s.action) ss
    (each_false (is_unknown_call (procedure_site (layout_of model) i slot).setting) calls
    (names_known (procedure_site (layout_of model) i slot).setting (syntax.Procedure ss) sound).1) in
    record {
      slot = slot_there model tables plan is i (lt-ltb i (length (slots_of model))
          (slice_get_within (slots_of model) i slot stands.there));
      dependency = dependency_there model tables plan is d (syntax.Procedure ss) tree;
      statements = each_mapped (λ s. ActionNamed plan s.action)
          (statement_at (layout_of model) (procedure_site (layout_of model) i slot)) ss
          (each_more (λ s. Each (λ call. is_unknown_call (procedure_site (layout_of model) i slot).setting call ≡ false)
          (call_of_action s.action))
          (λ s. ActionNamed plan (action_at (layout_of model) (procedure_site (layout_of model) i slot) s.action))
          (λ s h. action_named model tables plan is i
          (procedure_site (layout_of model) i slot) refl s.action h) ss known);
    }

-- so one that writes to its own slot, and stands at a listed value, names what is there
keys_there : (model : Model) (tables : List VariantTable) (plan : Plan) → IsPlanOf model tables plan
    → (table t : ℕ) (keys : List KeyDraft)
    → Each (λ k. nat_lt k.column (width_of plan table) ≡ true) keys
    → StandFrom (terms_of (drafts_of (layout_of model))) t (map (λ key. key.term) keys)
    → list_all (key_there plan table) (keys_from t keys) ≡ true
keys_there model tables plan is table t [] h ts = refl
keys_there model tables plan is table t (key ∷ keys) h ts =
    let rest = map (λ key. key.term) keys in
    let most = stand_within (terms_of (drafts_of (layout_of model))) t (key.term ∷ rest) ts in
    and_from (nat_lt key.column (width_of plan table) && is_of plan.terms t)
    (list_all (key_there plan table) (keys_from (suc t) keys))
    (and_from (nat_lt key.column (width_of plan table)) (is_of plan.terms t) h.0
    (term_number model tables plan is t (omega (arith, most))))
    (keys_there model tables plan is table (suc t) keys h.1
    (stand_rest (terms_of (drafts_of (layout_of model))) t key.term rest ts))

filled_is : (plan : Plan) (slots : List ℕ) (table : ℕ) (filled : List FilledColumn)
    → Each (λ f. nat_lt f.column (width_of plan table) ≡ true) filled
    → list_all (is_at plan slots) (map (λ f. f.var) filled) ≡ true
    → list_all (filled_there plan table) filled ≡ true
filled_is plan slots table [] h own = refl
filled_is plan slots table (f ∷ filled) h own =
    let parts = and_parts (is_at plan slots f.var) (list_all (is_at plan slots) (map (λ f. f.var) filled)) own in
    and_from (nat_lt f.column (width_of plan table) && is_of plan.vars f.var)
    (list_all (filled_there plan table) filled)
    (and_from (nat_lt f.column (width_of plan table)) (is_of plan.vars f.var) h.0 (var_there plan slots f.var parts.0))
    (filled_is plan slots table filled h.1 parts.1)

written : (model : Model) (tables : List VariantTable) (plan : Plan) → IsPlanOf model tables plan
    → (slots : List ℕ) (t v : ℕ)
    (term : trees.Term) → StandFrom (terms_of (drafts_of (layout_of model))) t (term ∷ []) → list_all (is_at plan slots)
    (v ∷ []) ≡ true
    → (is_of plan.vars v && is_of plan.terms t) ≡ true
written model tables plan is slots t v term ts own =
    let most = stand_within (terms_of (drafts_of (layout_of model))) t (term ∷ []) ts in
    and_from (is_of plan.vars v) (is_of plan.terms t)
    (var_there plan slots v (and_parts (is_at plan slots v) true own).0)
    (term_number model tables plan is t (omega (arith, most)))

action_is : (model : Model) (tables : List VariantTable) (plan : Plan) → IsPlanOf model tables plan
    → (slots : List ℕ) (t : ℕ) (a : Action)
    → ActionNamed plan a → StandFrom (terms_of (drafts_of (layout_of model))) t (action_terms a)
    → list_all (is_at plan slots) (named_by (action_from t a)) ≡ true → action_there plan (action_from t a) ≡ true
action_is model tables plan is slots t (assign v term) named ts own = written model tables plan is slots t v term ts own
action_is model tables plan is slots t (set_default v term) named ts own =
    written model tables plan is slots t v term ts own
action_is model tables plan is slots t (delete_default v term) named ts own =
    written model tables plan is slots t v term ts own
action_is model tables plan is slots t (look_up table keys filled) named ts own =
    and_from (is_of plan.tables table) (list_all (key_there plan table) (keys_from t keys) && list_all
    (filled_there plan table) filled) named.0
    (and_from (list_all (key_there plan table) (keys_from t keys)) (list_all (filled_there plan table) filled)
    (keys_there model tables plan is table t keys named.1 ts) (filled_is plan slots table filled named.2 own))

abbrev OwnWrites : Plan → ℕ → Statement → Type 0
OwnWrites plan i s = list_all (is_at plan (i ∷ [])) (named_by s.action) ≡ true

pub procedure_made : (model : Model) (tables : List VariantTable) (plan : Plan) → IsPlanOf model tables plan
    → list_all (characteristic_there plan) plan.characteristics ≡ true
    → ProceduresMade (IsNamedProcedure plan)
    (λ x. (writes_own plan x ≡ true) × (trigger_listed plan x.slot x.trigger ≡ true) → procedure_there plan x ≡ true)
    model
procedure_made model tables plan is listed c t d of cs ts proper =
    let statements = numbered statement_brings statement_from c t d.statements in
    let made = statements_hold (λ s. ActionNamed plan s.action)
    (λ s. OwnWrites plan d.slot s → statement_there plan s ≡ true) model
    (λ m n s h ms ns own.
    and_from (is_of plan.conditions (number_for m s.condition)) (action_there plan (action_from n s.action))
    (condition_number model tables plan is m s.condition ms)
    (action_is model tables plan is (d.slot ∷ []) n s.action h ns own))
    c t d.statements of.statements cs ts in
    let own = each_tested (λ s. list_all (is_at plan (d.slot ∷ [])) (named_by s.action)) statements proper.0 in
    and_from (is_of plan.slots d.slot && is_of plan.dependencies d.dependency)
    (trigger_there plan d.trigger && list_all (statement_there plan) statements)
    (and_from (is_of plan.slots d.slot) (is_of plan.dependencies d.dependency) of.slot of.dependency)
    (and_from (trigger_there plan d.trigger) (list_all (statement_there plan) statements)
    (trigger_is plan listed d.slot d.trigger proper.1)
    (each_passes (λ s. (OwnWrites plan d.slot s → statement_there plan s ≡ true) × OwnWrites plan d.slot s)
    (statement_there plan)
    (λ s h. h.0 h.1) statements
    (each_both (λ s. OwnWrites plan d.slot s → statement_there plan s ≡ true)
    (OwnWrites plan d.slot) statements made own)))
