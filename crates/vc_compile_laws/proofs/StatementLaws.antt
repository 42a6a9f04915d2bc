-- Procedures of a plan have as many statements as the model's.
use Rattle.std.proofs.Common.{◌≡◌, ℕ, suc, ◌+◌, ◌≤◌, true, nat_lt, List, [], ◌∷◌, ◌++◌, length, flat_map, Option, Some}
use Rattle.std.proofs.Common.{None, refl, sym, ap, ◌∙◌, arith, subst}
use Rattle.std.specs.Prelude.{◌^◌, nat_le, slice_get, option_map}
use Rattle.std.specs.List.{cons_option}
use Rattle.std.proofs.lemmas.Bool.{leb-true, lt-ltb}
use Rattle.std.proofs.lemmas.List.{length-map}
use Rattle.std.proofs.lemmas.List.Folds.{list_all-map}
use Rattle.vc_model_parts.specs.declared.parts.Model.{Model}
use Rattle.vc_model_parts.specs.declared.parts.NamedDependency.{NamedDependency}
use Rattle.vc_model_drafts.specs.Seen.{seen_dependency, seen_model}
use Rattle.vc_model_laws.proofs.TextsLaws.{passes_at}
use Rattle.vc_plan.specs.declared.plans.Slot.{Slot}
use Rattle.vc_plan.specs.declared.procedures.Procedure as plans
use Rattle.vc_plan.specs.declared.procedures.Trigger.{Trigger}
use Rattle.vc_plan.specs.declared.procedures.Trigger.TheVariants.{Anyway}
use Rattle.vc_syntax_tree.specs.Trees.{Dependency, Precondition, Selection, Procedure, Constrains, Counts, Statement}
use Rattle.vc_syntax_tree.specs.Trees.{dependency_of}
use Rattle.vc_tree_laws.specs.Statements.{statements_in as count_in, KeepsStatements}
use Rattle.vc_tree_laws.proofs.ModelTreeLaws.{spelled_keeps_statements}
use Rattle.vc_compile_plan.specs.Layouts.{layout_of, tree_of}
use Rattle.vc_compile_plan.specs.Numbering.{conditions_of, drafts_of, numbered, procedure_brings, procedure_from}
use Rattle.vc_compile_plan.specs.Numbering.{procedure_terms_begin, procedures_begin, statement_brings, statement_from}
use Rattle.vc_compile_plan.specs.Numbering.{terms_of}
use Rattle.vc_compile_plan.specs.Places.{procedure_site, statements_in}
use Rattle.vc_compile_plan.specs.Procedures.{ProcedureDraft, StatementDraft, entries_in, procedure_at, procedure_drafts}
use Rattle.vc_compile_plan.specs.Procedures.{procedures_among, procedures_at, profile_in, statement_at, trigger_of}
use Rattle.vc_compile_plan.specs.Procedures.{uses_in, value_procedures}
use Rattle.vc_compile_plan.specs.Sites.{named_at}
use Rattle.vc_compile_plan.specs.Slots.{slots_of}
use Rattle.vc_compile_plan.specs.Variables.{members_of}
use Rattle.vc_compile_laws.specs.Compiles.{CompiledKeeps}
use Rattle.vc_compile_laws.specs.Statements.{HasFewStatements}
use Rattle.vc_compile_valid.proofs.EachLaws.{Each, each_by_slot, each_flat, each_joined, each_of_all, each_passes}
use Rattle.vc_compile_valid.proofs.NumberingLaws.{numbered_each, procedure_conditions, procedure_terms}

abbrev IsShort : ProcedureDraft → Type 0
IsShort draft = length draft.statements ≤ 4_001

few_in : (tree : Dependency) (ss : List Statement) → statements_in (Some tree) ≡ Some ss
    → nat_le (count_in tree) 4_001 ≡ true
    → length ss ≤ 4_001
few_in (Procedure statements) ss e h =
    let same : statements ≡ ss = cc in leb-true (length ss) 4_001 (sym (ap (λ l. nat_le (length l) 4_001) same) ∙ h)
few_in (Precondition condition) ss e h = absurd (cc)
few_in (Selection condition) ss e h = absurd (cc)
few_in (Constrains constraint) ss e h = absurd (cc)
few_in (Counts term) ss e h = absurd (cc)

short_among : (model : Model) → KeepsStatements (seen_model model)
    → (i : ℕ) (slot : Slot) (trigger : Trigger) (uses : List ℕ)
    → Each IsShort (procedures_among (layout_of model) i slot trigger uses)
short_among model keeps i slot trigger [] = tt
short_among model keeps i slot trigger (d ∷ uses) =
    by (slice_get model.dependencies d) refl (short_among model keeps i slot trigger uses)
  where
    made : (o : Option (List Statement)) → ((ss : List Statement) → o ≡ Some ss → length ss ≤ 4_001)
        → Each IsShort (procedures_among (layout_of model) i slot trigger uses)
        → Each IsShort (cons_option (option_map (procedure_at (layout_of model) i slot trigger d) o)
        (procedures_among (layout_of model) i slot trigger uses))
    made None few more = more
    made (Some ss) few more =
        let size = length-map ss (statement_at (layout_of model) (procedure_site (layout_of model) i slot)) in
        let below = few ss refl in (omega (arith, size, below), more)

    by : (x : Option NamedDependency) → slice_get model.dependencies d ≡ x
        → Each IsShort (procedures_among (layout_of model) i slot trigger uses)
        → Each IsShort (procedures_among (layout_of model) i slot trigger (d ∷ uses))
    by x e more =
        made (statements_in (tree_of model d))
        (λ ss f. tree x e ss (sym (ap (λ o. statements_in (option_map (λ n. dependency_of n.tree) o)) e) ∙ f)) more
      where
        tree : (x : Option NamedDependency) → slice_get model.dependencies d ≡ x → (ss : List Statement)
            → statements_in (option_map (λ n. dependency_of n.tree) x) ≡ Some ss → length ss ≤ 4_001
        tree None e ss f = absurd (cc)
        tree (Some n) e ss f =
            few_in (dependency_of n.tree) ss f
            (passes_at (λ n. nat_le (count_in (dependency_of n.tree)) 4_001) model.dependencies d n
            (sym (list_all-map (λ n. nat_le (count_in n.tree) 4_001) seen_dependency model.dependencies)
            ∙ keeps.statements) e)

all_short : (model : Model) → KeepsStatements (seen_model model) → Each IsShort (procedure_drafts (layout_of model))
all_short model keeps =
    each_by_slot IsShort (procedures_at (layout_of model)) 0 (slots_of model) (λ k slot e.
    let layout = layout_of model in
    let members = members_of model slot.object in
    let i = 0 + k in
    let own : ℕ → List ProcedureDraft
    = λ c. procedures_among layout (0 + k) slot Anyway (uses_in (slice_get model.characteristics c)) in
    each_joined IsShort (procedures_among layout i slot Anyway (profile_in (slice_get model.objects slot.object)))
    (flat_map own members ++ flat_map (value_procedures layout i slot) members)
    (short_among model keeps i slot Anyway (profile_in (slice_get model.objects slot.object)))
    (each_joined IsShort (flat_map own members) (flat_map (value_procedures layout i slot) members)
    (each_flat IsShort own members (each_of_all (λ c. Each IsShort (own c))
    (λ c. short_among model keeps i slot Anyway (uses_in (slice_get model.characteristics c))) members))
    (each_flat IsShort (value_procedures layout i slot) members
    (each_of_all (λ c. Each IsShort (value_procedures layout i slot c))
    (λ c. each_flat IsShort
    (λ entry. procedures_among layout i slot (trigger_of (named_at layout i c) entry.piece) entry.uses)
    (entries_in (slice_get model.characteristics c))
    (each_of_all (λ entry. Each IsShort
    (procedures_among layout i slot (trigger_of (named_at layout i c) entry.piece) entry.uses))
    (λ entry. short_among model keeps i slot (trigger_of (named_at layout i c) entry.piece) entry.uses)
    (entries_in (slice_get model.characteristics c)))) members))))

statement_count : (c t : ℕ) (xs : List StatementDraft)
    → length (numbered statement_brings statement_from c t xs) ≡ length xs
statement_count c t [] = refl
statement_count c t (x ∷ xs) =
    ap suc (statement_count (c + length (statement_brings.conditions x)) (t + length (statement_brings.terms x)) xs)

pub has_few_statements : CompiledKeeps HasFewStatements
has_few_statements text model tables plan spells read compiles =
    let drafts = drafts_of (layout_of model) in
    let Few : plans.Procedure → Type 0 = λ procedure. nat_lt (length procedure.statements) (2 ^ 32) ≡ true in
    record {
      statement_limit = each_passes Few (λ procedure. nat_lt (length procedure.statements) (2 ^ 32)) (λ x h. h)
          plan.procedures
          (subst (Each Few) (sym compiles.is_its.procedures)
          (numbered_each procedure_brings procedure_from IsShort Few (conditions_of drafts) (terms_of drafts)
          (λ c t draft short cs ts. let size = statement_count c t draft.statements in
          lt-ltb (length (numbered statement_brings statement_from c t draft.statements)) (2 ^ 32)
          (omega (arith, size, short)))
          (procedures_begin drafts) (procedure_terms_begin drafts) drafts.procedures
          (all_short model (spelled_keeps_statements text (seen_model model) spells)) (procedure_conditions drafts)
          (procedure_terms drafts)));
    }
