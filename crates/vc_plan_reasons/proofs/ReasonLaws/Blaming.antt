-- Where a giver clashes at what an accepted log concludes, a clash of that log refutes.
use Rattle.std.proofs.Common.{◌≡◌, ℕ, zero, suc, ◌<◌, ◌≤◌, Bool, true, false, cond, ◌&&◌, ◌||◌, List, [], ◌∷◌, ◌++◌}
use Rattle.std.proofs.Common.{length, map, refl, sym, ap, ◌∙◌, subst, inl, inr, arith, length-append, append_assoc}
use Rattle.std.specs.Prelude.{Option, None, Some, slice_get, slice_index_or, nat_eq, ◌==◌}
use Rattle.std.specs.List.{filter, list_all, list_any}
use Rattle.std.specs.Option.{option_to_list}
use Rattle.std.proofs.lemmas.Bool.{and_from, or_left, or_right, and_parts, cases_lt, eqb-true, eq-eqb}
use Rattle.vc_base.specs.Chains.{all_pass, before_all, cited}
use Rattle.vc_base.specs.Rounds.{Given, clash, atoms, is_clash}
use Rattle.vc_base.specs.Sets.{has, Within}
use Rattle.vc_base.proofs.ListLaws.{number_exact, number_itself, range_has}
use Rattle.vc_base.proofs.SetLaws.{all_at, filter_has, has_cases, has_filter, has_first, has_more, same_test}
use Rattle.vc_value.specs.declared.value.Value.{Value}
use Rattle.vc_plan.specs.declared.atoms.Atom.{Atom}
use Rattle.vc_plan.specs.declared.atoms.Atom.TheVariants.{Here}
use Rattle.vc_plan.specs.declared.atoms.Clash.{Clash}
use Rattle.vc_plan.specs.declared.atoms.Culprit.{Culprit}
use Rattle.vc_plan.specs.declared.atoms.Culprit.TheVariants as culprits
use Rattle.vc_plan.specs.declared.plans.Plan.{Plan}
use Rattle.vc_plan.specs.declared.procedures.Procedure.{Procedure}
use Rattle.vc_plan.specs.declared.rules.Kind.{Kind}
use Rattle.vc_plan.specs.declared.rules.Kind.TheVariants.{Among, Compare, Equate, ByTable, Never, Last, Line}
use Rattle.vc_plan.specs.declared.rules.Rule.{Rule}
use Rattle.vc_plan.specs.Answers.{fresh, nothing}
use Rattle.vc_plan.specs.Clear.{is_clear}
use Rattle.vc_plan.specs.Domains.{numbers_below}
use Rattle.vc_plan.specs.Gives.{Giver, by_rule, by_user, by_entry, acts, entry_says, giver_says, gives, kind_gives}
use Rattle.vc_plan.specs.Gives.{rule_says, value_says}
use Rattle.vc_plan.specs.RuleShapes.{is_among, is_at}
use Rattle.vc_plan.specs.Seen.{Seen, is_here, same_atom, seen_of, slot_in}
use Rattle.vc_plan.specs.Sources.{Entry, Sources, entry_of, user_of}
use Rattle.vc_plan.proofs.PlanLaws.Atoms.{atom_exact, atom_itself}
use Rattle.vc_plan.proofs.PlanLaws.Facts.{part_clear}
use Rattle.vc_plan_reasons.specs.Blaming.{ClashesAreBlamed}
use Rattle.vc_plan_reasons.specs.Checking.{are_of, concluded, is_accepted, is_by, set_with}
use Rattle.vc_plan_reasons.specs.Fitting.{entry_fits, mark_fits, procedure_writes, sources_fit, statement_writes}
use Rattle.vc_plan_reasons.specs.Fitting.{value_fits}
use Rattle.vc_plan_reasons.specs.Refuting.{contradicts, culprit_clashes, culprit_reads, entry_clashes, is_blamable}
use Rattle.vc_plan_reasons.specs.Refuting.{is_clash_at, is_collision, is_of_constraint, is_restriction}
use Rattle.vc_plan_reasons.specs.Refuting.{slots_of_procedure}
use Rattle.vc_plan_reasons.specs.Things.{Thing, slot_at, has_thing, thing_of, giver_reads, slots_of_var}
use Rattle.vc_plan_reasons.proofs.ReasonLaws.Dropping.{get_middle}
use Rattle.vc_plan_reasons.proofs.ReasonLaws.Givers.{entry_var_there}
use Rattle.vc_plan_reasons.proofs.ReasonLaws.Local.{says_locally}

-- the numbers of the steps that conclude an atom of the things, and what they cite
abbrev is_of : List Thing → Atom → Bool
is_of things atom = has_thing things (thing_of atom)

numbers_of : List Thing → ℕ → List Atom → List ℕ
numbers_of things n [] = []
numbers_of things n (atom ∷ more) =
    cond (is_of things atom) (n ∷ numbers_of things (suc n) more) (numbers_of things (suc n) more)

numbers_cite : (things : List Thing) (whole before : List Atom) (stand : List Atom) → before ++ stand ≡ whole
    → cited whole (numbers_of things (suc (length before)) stand) ≡ Some (filter (is_of things) stand)
unfolding numbers_of
numbers_cite things whole before [] is = refl
numbers_cite things whole before (atom ∷ more) is =
    let longer : length (before ++ atom ∷ []) ≡ suc (length before) = omega (arith, length-append before (atom ∷ [])) in
    choice (is_of things atom)
    (subst (λ n. cited whole (numbers_of things (suc n) more) ≡ Some (filter (is_of things) more)) longer
    (numbers_cite things whole (before ++ atom ∷ []) more (append_assoc before (atom ∷ []) more ∙ is)))
  where
    choice : (b : Bool) → cited whole (numbers_of things (suc (suc (length before))) more)
        ≡ Some (filter (is_of things) more)
        → cited whole (cond b (suc (length before) ∷ numbers_of things (suc (suc (length before))) more)
        (numbers_of things (suc (suc (length before))) more))
        ≡ Some (cond b (atom ∷ filter (is_of things) more) (filter (is_of things) more))
    choice false later = later
    choice true later =
        let place : slice_get whole (length before) ≡ Some atom
        = ap (λ xs. slice_get xs (length before)) (sym is) ∙ get_middle before more atom in
        ap (λ o. before_all o (cited whole (numbers_of things (suc (suc (length before))) more))) place
        ∙ ap (before_all (Some atom)) later

pub all_filtered : (p : Atom → Bool) (xs : List Atom) → list_all p (filter p xs) ≡ true
all_filtered p [] = refl
all_filtered p (x ∷ xs) = choice (p x) refl (all_filtered p xs)
  where
    choice : (b : Bool) → p x ≡ b → list_all p (filter p xs) ≡ true
        → list_all p (cond b (x ∷ filter p xs) (filter p xs)) ≡ true
    choice true e later = and_from (p x) (list_all p (filter p xs)) e later
    choice false e later = later

-- a clash at what is concluded is one at the part that is read
fresh_clash : (seen : Seen) (x : Given Atom) → is_clash (fresh seen x) ≡ is_clash x
fresh_clash seen clash = refl
fresh_clash seen (atoms xs) = refl

pub part_within : (things : List Thing) (stand : List Atom)
    → Within same_atom (set_with (filter (is_of things) stand)) (set_with stand)
part_within things stand a h =
    elim (has_cases same_atom atom_exact atom_itself (Here 0) (filter (is_of things) stand) a h) [
      | inl e ↦ subst (λ z. has same_atom (set_with stand) z ≡ true) (sym e)
          (has_first same_atom atom_exact atom_itself (Here 0) stand)
      | inr k ↦ has_more same_atom atom_exact atom_itself (Here 0) stand a
          (has_filter same_atom atom_exact atom_itself (is_of things) stand a k).0
    ]

pub part_alike : (things : List Thing) (stand : List Atom) (a : Atom) → has_thing things (thing_of a) ≡ true
    → has same_atom (set_with (filter (is_of things) stand)) a ≡ has same_atom (set_with stand) a
part_alike things stand a h =
    same_test (has same_atom (set_with (filter (is_of things) stand)) a) (has same_atom (set_with stand) a)
    (part_within things stand a)
    (λ k. elim (has_cases same_atom atom_exact atom_itself (Here 0) stand a k) [
      | inl e ↦ subst (λ z. has same_atom (set_with (filter (is_of things) stand)) z ≡ true) (sym e)
          (has_first same_atom atom_exact atom_itself (Here 0) (filter (is_of things) stand))
      | inr q ↦ has_more same_atom atom_exact atom_itself (Here 0) (filter (is_of things) stand) a
          (filter_has same_atom atom_exact atom_itself (is_of things) stand a q h)
    ])

part_clashes : (plan : Plan) (sources : Sources) (giver : Giver) (stand : List Atom)
    → is_clear plan (set_with stand) ≡ true
    → is_clash (gives plan sources giver (seen_of (set_with stand))) ≡ true
    → is_clash (gives plan sources giver (seen_of (set_with (filter (is_of (giver_reads plan giver)) stand)))) ≡ true
part_clashes plan sources giver stand clear e =
    let things = giver_reads plan giver in
    let part = set_with (filter (is_of things) stand) in
    fresh_clash (seen_of part) (giver_says plan sources giver (seen_of part))
    ∙ ap is_clash (says_locally plan sources giver part (set_with stand) clear (part_alike things stand))
    ∙ sym (fresh_clash (seen_of (set_with stand)) (giver_says plan sources giver (seen_of (set_with stand)))) ∙ e

-- whoever clashes: a constraint's rule, or a statement
kind_clashes : (plan : Plan) (seen : Seen) (rule : Rule) (kind : Kind)
    → is_clash (kind_gives plan seen rule kind) ≡ true
    → is_restriction kind ≡ true
kind_clashes plan seen rule (Among v restriction) e = refl
kind_clashes plan seen rule (Compare r a b) e = refl
kind_clashes plan seen rule (Equate a b) e = refl
kind_clashes plan seen rule (ByTable table columns) e = refl
kind_clashes plan seen rule Never e = refl
kind_clashes plan seen rule (Last v) e = absurd (cc e)
kind_clashes plan seen rule (Line i) e = absurd (cc e)

rule_clashes : (plan : Plan) (seen : Seen) (o : Option Rule) → is_clash (rule_says plan seen o) ≡ true
    → is_of_constraint o ≡ true
rule_clashes plan seen None e = absurd (cc e)
rule_clashes plan seen (Some rule) e = choice (acts plan seen rule) e
  where
    choice : (b : Bool) → is_clash (cond b (kind_gives plan seen rule rule.kind) nothing) ≡ true
        → is_restriction rule.kind ≡ true
    choice true h = kind_clashes plan seen rule rule.kind h
    choice false h = absurd (cc h)

user_calm : (b : Bool) (v : ℕ) (a : Option Value) → is_clash (cond b (value_says v a) nothing) ≡ true → ⊥
user_calm true v None e = cc e
user_calm true v (Some a) e = cc e
user_calm false v a e = cc e

entry_there : (b : Bool) (v : ℕ) (o : Option Entry) → is_clash (cond b (entry_says v o) nothing) ≡ true
    → (entry : Entry) × (o ≡ Some entry)
entry_there b v None e = absurd (calm b e)
  where
    calm : (c : Bool) → is_clash (cond c nothing nothing) ≡ true → ⊥
    calm true q = cc q
    calm false q = cc q
entry_there b v (Some entry) e = (entry, refl)

-- an entry that fits is by a statement that stands at the variable's slot
past_none : (xs : List (Option Entry)) (v : ℕ) → length xs ≤ v → slice_index_or xs v None ≡ None
past_none [] v h = refl
past_none (x ∷ xs) zero h = absurd (omega (arith, h))
past_none (x ∷ xs) (suc v) h = past_none xs v (omega (arith, h))

pub entry_fit_at : (plan : Plan) (sources : Sources) (v : ℕ) → sources_fit plan sources ≡ true
    → entry_fits plan v (entry_of sources v) ≡ true
entry_fit_at plan sources v fit =
    let values = list_all (λ w. value_fits plan w (user_of sources w)) (numbers_below (length sources.user)) in
    let entries = list_all (λ w. entry_fits plan w (entry_of sources w)) (numbers_below (length sources.written)) in
    let p = and_parts values entries fit in
    elim (cases_lt v (length sources.written)) [
      | inl below ↦ all_at nat_eq number_exact number_itself (λ w. entry_fits plan w (entry_of sources w))
          (numbers_below (length sources.written)) v p.1
          (range_has 0 (length sources.written) v (omega arith) (omega (arith, below)))
      | inr past ↦ ap (entry_fits plan v) (past_none sources.written v past)
    ]

slot_read : (plan : Plan) (v n : ℕ) (o : Option Procedure) → procedure_writes plan v n o ≡ true
    → slots_of_procedure o ≡ map slot_at (slots_of_var plan v)
slot_read plan v n None e = absurd (cc e)
slot_read plan v n (Some procedure) e =
    by_slot (slot_in (slice_get plan.vars v))
    (and_parts (is_at plan (procedure.slot ∷ []) v) (statement_writes v (slice_get procedure.statements n)) e).0
  where
    first : (b : Bool) → (b || false) ≡ true → b ≡ true
    first true q = refl
    first false q = q

    by_slot : (slot : Option ℕ) → is_among (procedure.slot ∷ []) slot ≡ true
        → slot_at procedure.slot ∷ [] ≡ map slot_at (option_to_list slot)
    by_slot None q = absurd (cc q)
    by_slot (Some i) q = ap (λ j. slot_at j ∷ []) (eqb-true procedure.slot i (first (procedure.slot == i) q))

any_number : (p : ℕ → Bool) (numbers : List ℕ) (v : ℕ) → has nat_eq numbers v ≡ true → p v ≡ true
    → list_any p numbers ≡ true
any_number p [] v h e = absurd (cc h)
any_number p (n ∷ numbers) v h e =
    elim (has_cases nat_eq number_exact number_itself n numbers v h) [
      | inl same ↦ or_left (p n) (list_any p numbers) (ap p (sym same) ∙ e)
      | inr k ↦ or_right (p n) (list_any p numbers) (any_number p numbers v k e)
    ]

-- so it has a culprit that reads the same and clashes where it does
record Blamed (plan : Plan) (sources : Sources) (giver : Giver) : Type 0 where
  culprit : Culprit
  blamable : is_blamable plan culprit ≡ true
  reads : culprit_reads plan culprit ≡ giver_reads plan giver
  clashes : (set : List Atom) → is_clash (gives plan sources giver (seen_of set)) ≡ true
      → culprit_clashes plan sources culprit set ≡ true

blamed : (plan : Plan) (sources : Sources) (giver : Giver) (set : List Atom) → sources_fit plan sources ≡ true
    → is_clash (gives plan sources giver (seen_of set)) ≡ true → Blamed plan sources giver
blamed plan sources (by_rule r) set fit e = record {
  culprit = culprits.Rule r;
  blamable =
      rule_clashes plan (seen_of set) (slice_get plan.rules r)
      (sym (fresh_clash (seen_of set) (rule_says plan (seen_of set) (slice_get plan.rules r))) ∙ e);
  reads = refl;
  clashes = λ other h. h;
}
blamed plan sources (by_user v) set fit e =
    absurd (user_calm (is_here plan (seen_of set) v) v (user_of sources v)
    (sym (fresh_clash (seen_of set) (giver_says plan sources (by_user v) (seen_of set))) ∙ e))
blamed plan sources (by_entry v) set fit e =
    let r = entry_there (is_here plan (seen_of set) v) v (entry_of sources v)
    (sym (fresh_clash (seen_of set) (giver_says plan sources (by_entry v) (seen_of set))) ∙ e) in
    let entry = r.0 in
    let fits : entry_fits plan v (Some entry) ≡ true
    = ap (entry_fits plan v) (sym r.1) ∙ entry_fit_at plan sources v fit in
    let stands = (and_parts (mark_fits plan v entry.mark)
    (procedure_writes plan v entry.statement (slice_get plan.procedures entry.procedure)) fits).1 in
    let by : is_by entry.procedure entry.statement (entry_of sources v) ≡ true
    = ap (is_by entry.procedure entry.statement) r.1
    ∙ and_from (entry.procedure == entry.procedure) (entry.statement == entry.statement)
    (eq-eqb entry.procedure entry.procedure refl) (eq-eqb entry.statement entry.statement refl) in
    record {
      culprit = culprits.Written entry.procedure entry.statement;
      blamable = refl;
      reads = slot_read plan v entry.statement (slice_get plan.procedures entry.procedure) stands;
      clashes = λ other h.
          let below : v < length plan.vars = entry_var_there plan sources v other h in
          any_number (entry_clashes plan sources entry.procedure entry.statement other)
          (numbers_below (length plan.vars)) v
          (range_has 0 (length plan.vars) v (omega arith) (omega (arith, below)))
          (and_from (is_by entry.procedure entry.statement (entry_of sources v))
          (is_clash (gives plan sources (by_entry v) (seen_of other))) by h);
    }

pub clashes_are_blamed : ClashesAreBlamed
clashes_are_blamed plan sources log giver fit accepts clear e =
    let stand = concluded log in
    let things = giver_reads plan giver in
    let premises = filter (is_of things) stand in
    let b : Blamed plan sources giver = blamed plan sources giver (set_with stand) fit e in
    let numbers = numbers_of things 1 stand in
    let refuting : Clash = record { steps = log; culprit = b.culprit; premises = numbers } in
    let cites : cited stand numbers ≡ Some premises = numbers_cite things stand [] stand refl in
    let clear_part : is_clear plan (set_with premises) ≡ true
    = part_clear plan (set_with premises) (set_with stand) clear (part_within things stand) in
    let read : are_of (culprit_reads plan b.culprit) premises ≡ true
    = ap (λ ts. are_of ts premises) b.reads ∙ all_filtered (is_of things) stand in
    let at : is_clash_at plan sources b.culprit premises ≡ true
    = and_from (is_clear plan (set_with premises))
    (are_of (culprit_reads plan b.culprit) premises && culprit_clashes plan sources b.culprit (set_with premises))
    clear_part
    (and_from (are_of (culprit_reads plan b.culprit) premises)
    (culprit_clashes plan sources b.culprit (set_with premises)) read
    (b.clashes (set_with premises) (part_clashes plan sources giver stand clear e))) in
    let holds : contradicts plan sources refuting premises ≡ true
    = or_left (is_clash_at plan sources b.culprit premises)
    (is_collision plan b.culprit premises (cited (map (λ step. step.origin) log) numbers)) at in (
      refuting,
      refl,
      and_from (is_accepted plan sources log && is_blamable plan b.culprit)
          (all_pass (contradicts plan sources refuting) (cited stand numbers))
          (and_from (is_accepted plan sources log) (is_blamable plan b.culprit) accepts b.blamable)
          (ap (all_pass (contradicts plan sources refuting)) cites ∙ holds),
    )
