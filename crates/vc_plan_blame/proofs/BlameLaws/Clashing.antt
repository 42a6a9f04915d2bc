-- Whoever clashes at what is cited is a constraint's rule, or an entry by a statement, and is to blame.
use Rattle.std.proofs.Common.{◌≡◌, ℕ, ◌<◌, Bool, true, false, cond, ◌&&◌, List, [], ◌∷◌, length, map, refl, sym, ◌∙◌}
use Rattle.std.proofs.Common.{ap, inl, inr, arith}
use Rattle.std.specs.Prelude.{Option, None, Some, nat_eq, slice_get, ◌==◌}
use Rattle.std.specs.List.{list_any}
use Rattle.std.specs.Option.{option_to_list}
use Rattle.std.proofs.lemmas.Bool.{and_from, and_parts, eq-eqb, eqb-true, or_cases, or_left}
use Rattle.vc_base.specs.Chains.{all_pass, cited}
use Rattle.vc_base.specs.Rounds.{Given, clash, atoms, is_clash}
use Rattle.vc_base.proofs.ListLaws.{number_exact, number_itself, range_has}
use Rattle.vc_base.proofs.SetLaws.{both, none_at, told}
use Rattle.vc_value.specs.declared.value.Value.{Value}
use Rattle.vc_plan.specs.declared.atoms.Atom.{Atom}
use Rattle.vc_plan.specs.declared.atoms.Culprit.{Culprit}
use Rattle.vc_plan.specs.declared.atoms.Culprit.TheVariants as culprits
use Rattle.vc_plan.specs.declared.plans.Plan.{Plan}
use Rattle.vc_plan.specs.declared.procedures.Procedure.{Procedure}
use Rattle.vc_plan.specs.declared.rules.Kind.{Kind}
use Rattle.vc_plan.specs.declared.rules.Kind.TheVariants.{Among, Compare, Equate, ByTable, Never, Last, Line}
use Rattle.vc_plan.specs.declared.rules.Rule.{Rule}
use Rattle.vc_plan.specs.Answers.{fresh, nothing}
use Rattle.vc_plan.specs.Clear.{is_clear}
use Rattle.vc_plan.specs.Domains.{numbers_below}
use Rattle.vc_plan.specs.Gives.{Giver, by_rule, by_user, by_entry, acts, entry_says, giver_says, gives, kind_gives}
use Rattle.vc_plan.specs.Gives.{rule_says, value_says}
use Rattle.vc_plan.specs.RuleShapes.{is_among, is_at}
use Rattle.vc_plan.specs.Seen.{Seen, is_here, seen_of, slot_in}
use Rattle.vc_plan.specs.Sources.{Entry, Sources, entry_of, user_of}
use Rattle.vc_plan_reasons.specs.Checking.{are_of, concluded, is_accepted, is_by, set_with}
use Rattle.vc_plan_reasons.specs.Fitting.{entry_fits, mark_fits, procedure_writes, sources_fit, statement_writes}
use Rattle.vc_plan_reasons.specs.Refuting.{contradicts, culprit_clashes, culprit_reads, entry_clashes, is_blamable}
use Rattle.vc_plan_reasons.specs.Refuting.{is_clash_at, is_collision, is_of_constraint, is_restriction}
use Rattle.vc_plan_reasons.specs.Refuting.{slots_of_procedure}
use Rattle.vc_plan_reasons.specs.Things.{giver_reads, slot_at, slots_of_var}
use Rattle.vc_plan_reasons.proofs.ReasonLaws.Givers.{entry_var_there}
use Rattle.vc_plan_blame.specs.Blame.{clash_by, clash_of, culprit_giving, culprit_wrote}
use Rattle.vc_plan_blame.specs.Laws.{ClashingIsBlamed}
use Rattle.vc_plan_blame.proofs.BlameLaws.Sources.{entry_fit_at}

-- whoever clashes
fresh_clash : (s : Seen) (x : Given Atom) → is_clash (fresh s x) ≡ is_clash x
fresh_clash s clash = refl
fresh_clash s (atoms xs) = refl

if_clash : (b : Bool) (x : Given Atom) → is_clash (cond b x nothing) ≡ true → is_clash x ≡ true
if_clash true x e = e
if_clash false x e = absurd (cc)

kind_clashes : (plan : Plan) (s : Seen) (rule : Rule) (kind : Kind) → is_clash (kind_gives plan s rule kind) ≡ true
    → is_restriction kind ≡ true
kind_clashes plan s rule (Among v restriction) e = refl
kind_clashes plan s rule (Compare r a b) e = refl
kind_clashes plan s rule (Equate a b) e = refl
kind_clashes plan s rule (ByTable table columns) e = refl
kind_clashes plan s rule Never e = refl
kind_clashes plan s rule (Last v) e = absurd (cc)
kind_clashes plan s rule (Line i) e = absurd (cc)

rule_clashes : (plan : Plan) (s : Seen) (o : Option Rule) → is_clash (rule_says plan s o) ≡ true
    → is_of_constraint o ≡ true
rule_clashes plan s None e = absurd (cc)
rule_clashes plan s (Some rule) e =
    kind_clashes plan s rule rule.kind (if_clash (acts plan s rule) (kind_gives plan s rule rule.kind) e)

user_calm : (v : ℕ) (o : Option Value) → is_clash (value_says v o) ≡ true → ⊥
user_calm v None e = cc
user_calm v (Some a) e = cc

-- an entry that fits is by a statement that stands at its variable's slot
slot_read : (plan : Plan) (v n : ℕ) (o : Option Procedure) → procedure_writes plan v n o ≡ true
    → slots_of_procedure o ≡ map slot_at (slots_of_var plan v)
slot_read plan v n None e = absurd (cc)
slot_read plan v n (Some procedure) e =
    by (slot_in (slice_get plan.vars v))
    (and_parts (is_at plan (procedure.slot ∷ []) v) (statement_writes v (slice_get procedure.statements n)) e).0
  where
    by : (slot : Option ℕ) → is_among (procedure.slot ∷ []) slot ≡ true
        → slot_at procedure.slot ∷ [] ≡ map slot_at (option_to_list slot)
    by None q = absurd (cc)
    by (Some i) q =
        elim (or_cases (procedure.slot == i) false q) [
          | inl same ↦ ap (λ j. slot_at j ∷ []) (eqb-true procedure.slot i same)
          | inr other ↦ absurd (cc)
        ]

-- so a giver that clashes has a culprit that reads the same, and clashes there
record Guilty (plan : Plan) (sources : Sources) (giver : Giver) (set : List Atom) : Type 0 where
  culprit : Culprit
  is : culprit_giving sources giver ≡ Some culprit
  blamable : is_blamable plan culprit ≡ true
  reads : culprit_reads plan culprit ≡ giver_reads plan giver
  clashes : culprit_clashes plan sources culprit set ≡ true

guilty_entry : (plan : Plan) (sources : Sources) (v : ℕ) (set : List Atom) (o : Option Entry) → entry_of sources v ≡ o
    → entry_fits plan v o ≡ true → is_clash (entry_says v o) ≡ true
    → is_clash (gives plan sources (by_entry v) (seen_of set)) ≡ true
    → Guilty plan sources (by_entry v) set
guilty_entry plan sources v set None q fits said e = absurd (cc)
guilty_entry plan sources v set (Some entry) q fits said e =
    let stands = (and_parts (mark_fits plan v entry.mark)
    (procedure_writes plan v entry.statement (slice_get plan.procedures entry.procedure)) fits).1 in
    let by : is_by entry.procedure entry.statement (entry_of sources v) ≡ true
    = ap (is_by entry.procedure entry.statement) q
    ∙ and_from (entry.procedure == entry.procedure) (entry.statement == entry.statement)
    (eq-eqb entry.procedure entry.procedure refl) (eq-eqb entry.statement entry.statement refl) in
    let test = entry_clashes plan sources entry.procedure entry.statement set in
    let below : v < length plan.vars = entry_var_there plan sources v set e in
    let here : test v ≡ true
    = and_from (is_by entry.procedure entry.statement (entry_of sources v))
    (is_clash (gives plan sources (by_entry v) (seen_of set))) by e in
    record {
      culprit = culprits.Written entry.procedure entry.statement;
      is = ap culprit_wrote q;
      blamable = refl;
      reads = slot_read plan v entry.statement (slice_get plan.procedures entry.procedure) stands;
      clashes = elim (told (list_any test (numbers_below (length plan.vars)))) [
        | inl some ↦ some
        | inr none ↦ absurd (both here
            (none_at nat_eq number_exact number_itself test (numbers_below (length plan.vars)) v none
            (range_has 0 (length plan.vars) v (omega arith) (omega (arith, below)))))
      ];
    }

guilty_giver : (plan : Plan) (sources : Sources) (giver : Giver) (set : List Atom) → sources_fit plan sources ≡ true
    → is_clash (gives plan sources giver (seen_of set)) ≡ true → Guilty plan sources giver set
guilty_giver plan sources (by_rule r) set fit e = record {
  culprit = culprits.Rule r;
  is = refl;
  blamable =
      rule_clashes plan (seen_of set) (slice_get plan.rules r)
      (sym (fresh_clash (seen_of set) (rule_says plan (seen_of set) (slice_get plan.rules r))) ∙ e);
  reads = refl;
  clashes = e;
}
guilty_giver plan sources (by_user v) set fit e =
    absurd (user_calm v (user_of sources v)
    (if_clash (is_here plan (seen_of set) v) (value_says v (user_of sources v))
    (sym (fresh_clash (seen_of set) (giver_says plan sources (by_user v) (seen_of set))) ∙ e)))
guilty_giver plan sources (by_entry v) set fit e =
    guilty_entry plan sources v set (entry_of sources v) refl (entry_fit_at plan sources v fit)
    (if_clash (is_here plan (seen_of set) v) (entry_says v (entry_of sources v))
    (sym (fresh_clash (seen_of set) (giver_says plan sources (by_entry v) (seen_of set))) ∙ e)) e

pub clashing_is_blamed : ClashingIsBlamed
clashing_is_blamed plan sources log numbers premises giver fit accepts cites clear read e =
    let g : Guilty plan sources giver (set_with premises) = guilty_giver plan sources giver (set_with premises) fit e in
    let c = clash_of log numbers g.culprit in
    let reads = are_of (culprit_reads plan g.culprit) premises in
    let clashes = culprit_clashes plan sources g.culprit (set_with premises) in
    let at : is_clash_at plan sources g.culprit premises ≡ true
    = and_from (is_clear plan (set_with premises)) (reads && clashes) clear
    (and_from reads clashes (ap (λ ts. are_of ts premises) g.reads ∙ read) g.clashes) in
    let holds : contradicts plan sources c premises ≡ true
    = or_left (is_clash_at plan sources g.culprit premises)
    (is_collision plan g.culprit premises (cited (map (λ step. step.origin) log) numbers)) at in (
      c,
      ap (clash_by log numbers) g.is,
      and_from (is_accepted plan sources log && is_blamable plan g.culprit)
          (all_pass (contradicts plan sources c) (cited (concluded log) numbers))
          (and_from (is_accepted plan sources log) (is_blamable plan g.culprit) accepts g.blamable)
          (ap (all_pass (contradicts plan sources c)) cites ∙ holds),
    )
