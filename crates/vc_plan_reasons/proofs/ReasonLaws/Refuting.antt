-- Where a clash refutes, no set is closed, and so settling is broken.
use Rattle.std.proofs.Common.{◌≡◌, ℕ, zero, suc, ◌<◌, Bool, true, false, cond, not, ◌&&◌, ◌||◌, List, [], ◌∷◌, length}
use Rattle.std.proofs.Common.{map, refl, sym, ◌∙◌, ap, inl, inr}
use Rattle.std.specs.Prelude.{Option, None, Some, slice_get, ◌==◌}
use Rattle.std.specs.List.{list_all, list_any}
use Rattle.std.proofs.lemmas.Bool.{and_parts, eqb-true, or_cases, not-true}
use Rattle.vc_base.specs.Chains.{all_pass, cited}
use Rattle.vc_base.specs.Rounds.{atoms_of, broken, settled, is_clash}
use Rattle.vc_base.specs.Sets.{has, Within}
use Rattle.vc_base.proofs.ChainLaws.{accepted_at, accepted_parts, cited_at, cited_within, get_mapped, passed}
use Rattle.vc_base.proofs.SetLaws.{both}
use Rattle.vc_base.proofs.Settling.{any_at, at_any}
use Rattle.vc_plan.specs.declared.atoms.Atom.{Atom}
use Rattle.vc_plan.specs.declared.atoms.Clash.{Clash}
use Rattle.vc_plan.specs.declared.atoms.Culprit.{Culprit}
use Rattle.vc_plan.specs.declared.atoms.Culprit.TheVariants.{Rule, Written, Hidden, HiddenSet}
use Rattle.vc_plan.specs.declared.atoms.Origin.{Origin}
use Rattle.vc_plan.specs.declared.atoms.Origin.TheVariants as origins
use Rattle.vc_plan.specs.declared.atoms.Step.{Step}
use Rattle.vc_plan.specs.declared.plans.Plan.{Plan}
use Rattle.vc_plan.specs.declared.rules.Rule.{Rule as PlanRule}
use Rattle.vc_plan.specs.Clear.{is_clear}
use Rattle.vc_plan.specs.Domains.{numbers_below}
use Rattle.vc_plan.specs.Gives.{Giver, by_rule, by_entry, gives, givers_of}
use Rattle.vc_plan.specs.Laws.{IsClosed}
use Rattle.vc_plan.specs.Seen.{same_atom, seen_of}
use Rattle.vc_plan.specs.Settle.{base, settlement_of}
use Rattle.vc_plan.specs.Sources.{Sources, entry_of}
use Rattle.vc_plan.proofs.PlanLaws.Atoms.{atom_exact, atom_itself}
use Rattle.vc_plan.proofs.PlanLaws.Facts.{part_clear}
use Rattle.vc_plan.proofs.PlanLaws.Givers.{clashes_stay}
use Rattle.vc_plan_reasons.specs.Checking.{are_of, concluded, follows, given_by, giver_from, giver_of, is_accepted}
use Rattle.vc_plan_reasons.specs.Checking.{is_by, set_with, step_form, things_read, var_of}
use Rattle.vc_plan_reasons.specs.Laws.{IsGuilty, RefutingBlames, RefutingBreaks}
use Rattle.vc_plan_reasons.specs.Refuting.{culprit_clashes, culprit_reads, entry_clashes, is_blamable, is_clash_at}
use Rattle.vc_plan_reasons.specs.Refuting.{is_collision, is_of_constraint, is_origin, is_restriction, contradicts}
use Rattle.vc_plan_reasons.specs.Refuting.{refutes, set_without}
use Rattle.vc_plan_reasons.proofs.ReasonLaws.Closed.{Settled, all_stand, conclusions_stand, settled_closed}
use Rattle.vc_plan_reasons.proofs.ReasonLaws.Givers.{clashing_in, following, rooted}

-- the giver that clashes where a culprit does
clashing : (plan : Plan) (sources : Sources) (culprit : Culprit) (set : List Atom)
    → culprit_clashes plan sources culprit set ≡ true
    → (giver : Giver) × (is_clash (gives plan sources giver (seen_of set)) ≡ true)
clashing plan sources (Rule r) set e = (by_rule r, e)
clashing plan sources (Written procedure statement) set e =
    let r = any_at (entry_clashes plan sources procedure statement set) (numbers_below (length plan.vars)) e in
    let p = and_parts (is_by procedure statement (entry_of sources r.0))
    (is_clash (gives plan sources (by_entry r.0) (seen_of set))) r.2 in
    (by_entry r.0, p.1)
clashing plan sources (Hidden dependency v) set e = absurd (cc)
clashing plan sources (HiddenSet dependency other) set e = absurd (cc)

-- no part of a closed set has a clash
calm_part : (plan : Plan) (sources : Sources) (set closed : List Atom) (giver : Giver) → IsClosed plan sources closed
    → Within same_atom set closed
    → is_clash (gives plan sources giver (seen_of set)) ≡ true → ⊥
calm_part plan sources set closed giver c w e =
    both
    (at_any (λ g. is_clash (gives plan sources g (seen_of closed))) giver (givers_of plan)
    (clashing_in plan sources giver set e)
    (clashes_stay plan sources giver set closed c.clear w e))
    c.calm

-- a clash that refutes: its steps are accepted, its premises are concluded by them, and one of the two cases holds
pub record Refuted (plan : Plan) (sources : Sources) (clash : Clash) : Type 0 where
  pub accepted : is_accepted plan sources clash.steps ≡ true
  pub blamable : is_blamable plan clash.culprit ≡ true
  pub premises : List Atom
  pub cites : cited (concluded clash.steps) clash.premises ≡ Some premises
  pub holds : contradicts plan sources clash premises ≡ true

pub refuted : (plan : Plan) (sources : Sources) (clash : Clash) → refutes plan sources clash ≡ true
    → Refuted plan sources clash
refuted plan sources clash e =
    let test = contradicts plan sources clash in
    let p = and_parts (is_accepted plan sources clash.steps && is_blamable plan clash.culprit)
    (all_pass test (cited (concluded clash.steps) clash.premises)) e in
    let q = and_parts (is_accepted plan sources clash.steps) (is_blamable plan clash.culprit) p.0 in
    let r = passed test (cited (concluded clash.steps) clash.premises) p.1 in
    record { accepted = q.0; blamable = q.1; premises = r.0; cites = r.1; holds = r.2 }

-- the parts of both cases
clash_parts : (plan : Plan) (sources : Sources) (culprit : Culprit) (premises : List Atom)
    → is_clash_at plan sources culprit premises ≡ true
    → (is_clear plan (set_with premises) ≡ true) × (culprit_clashes plan sources culprit (set_with premises) ≡ true)
clash_parts plan sources culprit premises e =
    let clear = is_clear plan (set_with premises) in
    let read = are_of (culprit_reads plan culprit) premises in
    let clashes = culprit_clashes plan sources culprit (set_with premises) in
    let p : (clear ≡ true) × ((read && clashes) ≡ true) = and_parts clear (read && clashes) e in
    (p.0, (and_parts read clashes p.1).1)

collision_parts : (plan : Plan) (culprit : Culprit) (premises : List Atom) (by : Option (List Origin))
    → is_collision plan culprit premises by ≡ true
    → (is_clear plan (set_with premises) ≡ false) × (all_pass (list_any (is_origin culprit)) by ≡ true)
collision_parts plan culprit premises by e =
    let clear = is_clear plan (set_with premises) in
    let needed = list_all (λ atom. is_clear plan (set_without atom (set_with premises))) premises in
    let blamed = all_pass (list_any (is_origin culprit)) by in
    let p : (not clear ≡ true) × ((needed && blamed) ≡ true) = and_parts (not clear) (needed && blamed) e in
    (not-true clear p.0, (and_parts needed blamed p.1).1)

-- no set is closed
none_closed : (plan : Plan) (sources : Sources) (clash : Clash) → Refuted plan sources clash → (closed : List Atom)
    → IsClosed plan sources closed
    → Within same_atom base closed → ⊥
none_closed plan sources clash r closed c w =
    let concluded_in = conclusions_stand plan sources clash.steps closed r.accepted c w in
    let premises_in : Within same_atom r.premises closed
    = λ a h. concluded_in a
    (cited_within same_atom atom_exact atom_itself (concluded clash.steps) clash.premises r.premises r.cites a h) in
    let all_in : Within same_atom (set_with r.premises) closed = all_stand plan closed r.premises w premises_in in
    let by = cited (map (λ step. step.origin) clash.steps) clash.premises in
    elim (or_cases (is_clash_at plan sources clash.culprit r.premises) (is_collision plan clash.culprit r.premises by)
    r.holds) [
      | inl e ↦
          let p = clash_parts plan sources clash.culprit r.premises e in
          let g = clashing plan sources clash.culprit (set_with r.premises) p.1 in
          calm_part plan sources (set_with r.premises) closed g.0 c all_in g.1
      | inr e ↦
          let p = collision_parts plan clash.culprit r.premises by e in
          both (part_clear plan (set_with r.premises) closed c.clear all_in) p.0
    ]

-- nothing is cited of no steps
none_cited : {A : Type 0} (numbers : List ℕ) (xs : List A) → cited [] numbers ≡ Some xs → xs ≡ []
none_cited [] xs e = cc
none_cited (zero ∷ numbers) xs e = none_cited numbers xs e
none_cited (suc n ∷ numbers) xs e = absurd (cc)

-- the plan has a root, since a set with it is clear
steps_rooted : (plan : Plan) (sources : Sources) (culprit : Culprit) (steps : List Step) (numbers : List ℕ)
    → is_accepted plan sources steps ≡ true
    → all_pass (list_any (is_origin culprit)) (cited (map (λ step. step.origin) steps) numbers) ≡ true
    → 0 < length plan.slots
steps_rooted plan sources culprit [] numbers e blamed =
    let r = passed (list_any (is_origin culprit)) (cited [] numbers) blamed in
    absurd (both r.2 (ap (list_any (is_origin culprit)) (none_cited numbers r.0 r.1)))
steps_rooted plan sources culprit (step ∷ steps) numbers e blamed =
    let p = accepted_parts step_form (follows plan sources) [] step steps e in
    let f = following plan sources step p.atoms p.from in
    rooted plan p.atoms f.clear

clash_rooted : (plan : Plan) (sources : Sources) (clash : Clash) → Refuted plan sources clash → 0 < length plan.slots
clash_rooted plan sources clash r =
    let by = cited (map (λ step. step.origin) clash.steps) clash.premises in
    elim (or_cases (is_clash_at plan sources clash.culprit r.premises) (is_collision plan clash.culprit r.premises by)
    r.holds) [
      | inl e ↦ rooted plan r.premises (clash_parts plan sources clash.culprit r.premises e).0
      | inr e ↦ steps_rooted plan sources clash.culprit clash.steps clash.premises r.accepted
          (collision_parts plan clash.culprit r.premises by e).1
    ]

pub refuting_breaks : RefutingBreaks
refuting_breaks plan sources clash e =
    let r = refuted plan sources clash e in
    elim (settlement_of plan sources) as (λ s. settlement_of plan sources ≡ s → s ≡ broken) [
      | broken ↦ λ q. refl
      | settled set ↦ λ q.
          let s : Settled plan sources set = settled_closed plan sources set (clash_rooted plan sources clash r) q in
          absurd (none_closed plan sources clash r set s.closed s.root)
    ] refl

-- an origin that a culprit is: a step of it by a statement has an entry of that statement
given_by_statement : (plan : Plan) (sources : Sources) (procedure statement : ℕ) (set : List Atom) (a : Atom)
    (v : Option ℕ)
    → has same_atom (atoms_of (given_by plan sources (giver_from sources (origins.Written procedure statement) v) set))
    a ≡ true
    → (w : ℕ) × (is_by procedure statement (entry_of sources w) ≡ true)
given_by_statement plan sources procedure statement set a None h = absurd (cc)
given_by_statement plan sources procedure statement set a (Some v) h =
    choice (is_by procedure statement (entry_of sources v)) refl h
  where
    choice : (b : Bool) → is_by procedure statement (entry_of sources v) ≡ b
        → has same_atom (atoms_of (given_by plan sources (cond b (Some (by_entry v)) None) set)) a ≡ true
        → (w : ℕ) × (is_by procedure statement (entry_of sources w) ≡ true)
    choice true e k = (v, e)
    choice false e k = absurd (cc)

same_statement : (procedure statement : ℕ) (origin : Origin) → is_origin (Written procedure statement) origin ≡ true
    → origin ≡ origins.Written procedure statement
same_statement procedure statement (origins.Rule q) e = absurd (cc)
same_statement procedure statement origins.User e = absurd (cc)
same_statement procedure statement (origins.Written p s) e =
    let q = and_parts (procedure == p) (statement == s) e in
    ap (λ n. origins.Written n s) (sym (eqb-true procedure p q.0))
    ∙ ap (origins.Written procedure) (sym (eqb-true statement s q.1))

-- so does the statement that an accepted step is by
step_wrote : (plan : Plan) (sources : Sources) (procedure statement : ℕ) (step : Step) (premises : List Atom)
    → follows plan sources step premises ≡ true → is_origin (Written procedure statement) step.origin ≡ true
    → (v : ℕ) × (is_by procedure statement (entry_of sources v) ≡ true)
step_wrote plan sources procedure statement step premises e by =
    let set = set_with premises in
    let given = has same_atom (atoms_of (given_by plan sources (giver_of sources step) set)) step.conclusion in
    let read = is_clear plan set && are_of (things_read plan (giver_of sources step)) premises in
    let p : (read ≡ true) × (given ≡ true) = and_parts read given e in
    given_by_statement plan sources procedure statement set step.conclusion (var_of step.conclusion)
    (ap (λ o. has same_atom
    (atoms_of (given_by plan sources (giver_from sources o (var_of step.conclusion)) set)) step.conclusion)
    (sym (same_statement procedure statement step.origin by)) ∙ p.1)

collision_wrote : (plan : Plan) (sources : Sources) (procedure statement : ℕ) (steps : List Step) (numbers : List ℕ)
    → is_accepted plan sources steps ≡ true
    → all_pass (list_any (is_origin (Written procedure statement))) (cited (map (λ step. step.origin) steps) numbers)
    ≡ true
    → (v : ℕ) × (is_by procedure statement (entry_of sources v) ≡ true)
collision_wrote plan sources procedure statement steps numbers e blamed =
    let origins = map (λ step. step.origin) steps in
    let r = passed (list_any (is_origin (Written procedure statement))) (cited origins numbers) blamed in
    let o = any_at (is_origin (Written procedure statement)) r.0 r.2 in
    let c = cited_at origins numbers r.0 o.0 r.1 o.1 in
    let m = get_mapped (λ step. step.origin) steps c.0 o.0 c.1 in
    let f = accepted_at step_form (follows plan sources) [] steps c.0 m.0 e m.1 in
    step_wrote plan sources procedure statement m.0 f.0 f.1 (ap (is_origin (Written procedure statement)) m.2 ∙ o.2)

clash_wrote : (plan : Plan) (sources : Sources) (procedure statement : ℕ) (set : List Atom)
    → culprit_clashes plan sources (Written procedure statement) set ≡ true
    → (v : ℕ) × (is_by procedure statement (entry_of sources v) ≡ true)
clash_wrote plan sources procedure statement set e =
    let r = any_at (entry_clashes plan sources procedure statement set) (numbers_below (length plan.vars)) e in
    let by = is_by procedure statement (entry_of sources r.0) in
    (r.0, (and_parts by (is_clash (gives plan sources (by_entry r.0) (seen_of set))) r.2).0)

-- a rule that can be to blame is of no last grain and of no line
restriction_guilty : (plan : Plan) (sources : Sources) (r : ℕ) (o : Option PlanRule) → slice_get plan.rules r ≡ o
    → is_of_constraint o ≡ true
    → IsGuilty plan sources (Rule r)
restriction_guilty plan sources r None is blamable = absurd (cc)
restriction_guilty plan sources r (Some rule) is blamable = (
  rule,
  is,
  λ v e. both blamable (ap is_restriction e),
  λ i e. both blamable (ap is_restriction e),
)

-- whoever is to blame is guilty
blamed_guilty : (plan : Plan) (sources : Sources) (culprit : Culprit) (steps : List Step) (numbers : List ℕ)
    (premises : List Atom)
    → is_accepted plan sources steps ≡ true → is_blamable plan culprit ≡ true
    → (is_clash_at plan sources culprit premises
    || is_collision plan culprit premises (cited (map (λ step. step.origin) steps) numbers)) ≡ true
    → IsGuilty plan sources culprit
blamed_guilty plan sources (Rule r) steps numbers premises e blamable h =
    restriction_guilty plan sources r (slice_get plan.rules r) refl blamable
blamed_guilty plan sources (Written procedure statement) steps numbers premises e blamable h =
    let culprit = Written procedure statement in
    let by = cited (map (λ step. step.origin) steps) numbers in
    elim (or_cases (is_clash_at plan sources culprit premises) (is_collision plan culprit premises by) h) [
      | inl k ↦ clash_wrote plan sources procedure statement (set_with premises)
          (clash_parts plan sources culprit premises k).1
      | inr k ↦ collision_wrote plan sources procedure statement steps numbers e
          (collision_parts plan culprit premises by k).1
    ]
blamed_guilty plan sources (Hidden dependency v) steps numbers premises e blamable h = absurd (cc)
blamed_guilty plan sources (HiddenSet dependency set) steps numbers premises e blamable h = absurd (cc)

pub refuting_blames : RefutingBlames
refuting_blames plan sources clash e =
    let r = refuted plan sources clash e in
    blamed_guilty plan sources clash.culprit clash.steps clash.premises r.premises r.accepted r.blamable r.holds
