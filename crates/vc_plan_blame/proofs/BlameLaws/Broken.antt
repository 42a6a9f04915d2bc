-- Where settling is broken, an accepted list grows until a clash refutes: it can't end at a closed set. So each broken
-- evaluation has a status.
use Rattle.std.proofs.Common.{◌≡◌, ℕ, zero, suc, ◌+◌, ◌<◌, ◌≤◌, true, false, List, [], ◌∷◌, ◌++◌, length, refl, sym}
use Rattle.std.proofs.Common.{◌∙◌, ap, subst, inl, inr, arith}
use Rattle.std.specs.List.{IsDistinct}
use Rattle.std.proofs.lemmas.Bool.{and_parts, false_from_ne_true}
use Rattle.vc_base.specs.Rounds.{Settlement, broken, settled, all_given, atoms_of, is_clash, some_clash}
use Rattle.vc_base.specs.Sets.{has, Within}
use Rattle.vc_base.proofs.SetLaws.{both, has_back, has_cases, has_first, has_front, none_from, told, within_cons}
use Rattle.vc_base.proofs.Settling.{any_at}
use Rattle.vc_base.proofs.Settling as settling
use Rattle.vc_plan.specs.declared.atoms.Atom.{Atom}
use Rattle.vc_plan.specs.declared.atoms.Atom.TheVariants.{Here, Out}
use Rattle.vc_plan.specs.declared.atoms.Clash.{Clash}
use Rattle.vc_plan.specs.declared.atoms.Step.{Step}
use Rattle.vc_plan.specs.declared.plans.Plan.{Plan}
use Rattle.vc_plan.specs.declared.shown.Status.{Status}
use Rattle.vc_plan.specs.declared.shown.Status.TheVariants.{Contradiction}
use Rattle.vc_plan.specs.Clear.{are_all_out, collides, is_clear, is_exhausted, is_named}
use Rattle.vc_plan.specs.Domains.{atom_count}
use Rattle.vc_plan.specs.Entries.{Entries, no_entries}
use Rattle.vc_plan.specs.Evaluate.{Evaluated, broken_at, reached, Users, between, evaluation_of, if_settled, last_set}
use Rattle.vc_plan.specs.Evaluate.{sources_of, stages_from}
use Rattle.vc_plan.specs.Gives.{gives, givers_of}
use Rattle.vc_plan.specs.Laws.{IsClosed}
use Rattle.vc_plan.specs.Seen.{is_here, same_atom, seen_of}
use Rattle.vc_plan.specs.Settle.{base, settlement_of, system_of}
use Rattle.vc_plan.specs.Showing.{settled_status}
use Rattle.vc_plan.specs.Shown.{reading_of}
use Rattle.vc_plan.specs.Sources.{Sources}
use Rattle.vc_plan.specs.Valid.{IsValid}
use Rattle.vc_plan.specs.Writes.{last_stage}
use Rattle.vc_plan.proofs.PlanLaws.Atoms.{atom_exact, atom_itself}
use Rattle.vc_plan.proofs.PlanLaws.Bound.{clear_sets_are_small}
use Rattle.vc_plan.proofs.PlanLaws.Facts.{clear_from, part_clear}
use Rattle.vc_plan.proofs.PlanLaws.Givers.{system_laws}
use Rattle.vc_plan.proofs.PlanLaws.Rounds.{settles_below_closed}
use Rattle.vc_plan_reasons.specs.Blaming.{IsStatus, IsStatusAfter}
use Rattle.vc_plan_reasons.specs.Checking.{concluded, is_accepted, set_with}
use Rattle.vc_plan_reasons.specs.Fitting.{sources_at_end, sources_fit}
use Rattle.vc_plan_reasons.specs.Refuting.{refutes}
use Rattle.vc_plan_reasons.proofs.ReasonLaws.Blaming.{clashes_are_blamed}
use Rattle.vc_plan_reasons.proofs.ReasonLaws.Fitting.{evaluations_fit}
use Rattle.vc_plan_blame.specs.Laws.{BrokenIsBlamed, IsSettling, StatusIsThere}
use Rattle.vc_plan_blame.proofs.BlameLaws.Colliding.{grain_out, slot_apart}
use Rattle.vc_plan_blame.proofs.BlameLaws.Growing.{NextStep, given_new, next_step}
use Rattle.vc_plan_blame.proofs.BlameLaws.LastStep.{concluded_next, unclear_is_blamed}
use Rattle.vc_plan_blame.proofs.BlameLaws.Unclear.{exhausted_there, rooted, some_grain}

-- the root alone is clear
root_clear : (plan : Plan) → IsValid plan → is_clear plan base ≡ true
root_clear plan valid =
    clear_from plan base (record {
      named = λ a h. ap (is_named plan) (alone a h) ∙ rooted plan valid;
      apart = λ a b h k. ap (collides plan a) (alone b k) ∙ slot_apart plan a 0;
      room = λ v. false_from_ne_true (is_exhausted plan (seen_of base) v) (λ e.
          let there : v < length plan.vars = exhausted_there plan base v e in
          let p = and_parts (is_here plan (seen_of base) v) (are_all_out plan (seen_of base) v) e in
          let first : has same_atom base (Out v 0) ≡ true
          = grain_out plan base v 0 p.1 (some_grain plan v valid there) in
          no_grain v first);
    })
  where
    alone : (a : Atom) → has same_atom base a ≡ true → a ≡ Here 0
    alone a h = elim (has_cases same_atom atom_exact atom_itself (Here 0) [] a h) [ inl e ↦ e | inr k ↦ absurd (cc) ]

    no_grain : (v : ℕ) → has same_atom base (Out v 0) ≡ true → ⊥
    no_grain v h = cc

-- a list that grows: accepted and clear, with its conclusions as a set in which none stands twice
record Grown (plan : Plan) (sources : Sources) (log : List Step) (set : List Atom) : Type 0 where
  accepts : is_accepted plan sources log ≡ true
  clear : is_clear plan (set_with (concluded log)) ≡ true
  within : Within same_atom set (set_with (concluded log))
  distinct : IsDistinct same_atom set

distinct_next : (set : List Atom) (a : Atom) → IsDistinct same_atom set → has same_atom set a ≡ false
    → IsDistinct same_atom (a ∷ set)
unfolding IsDistinct
distinct_next set a d none = (none_from (same_atom a) set none, d)

distinct_root : IsDistinct same_atom base
unfolding IsDistinct
distinct_root = (tt, tt)

-- how growing ends
data Ending (plan : Plan) (sources : Sources) : Type 0 where
  blamed : (clash : Clash) → refutes plan sources clash ≡ true → Ending plan sources
  closes : (closed : List Atom) → IsClosed plan sources closed → Within same_atom base closed → Ending plan sources

module _ (plan : Plan) (sources : Sources) (valid : IsValid plan) (fit : sources_fit plan sources ≡ true) where
  root_in : (stand : List Atom) → Within same_atom base (set_with stand)
  root_in stand a h = has_front same_atom atom_exact atom_itself base stand a h

  -- nothing more is given
  closing : (log : List Step) → is_clear plan (set_with (concluded log)) ≡ true
      → some_clash (system_of plan sources) (set_with (concluded log)) ≡ false
      → all_given (system_of plan sources) (set_with (concluded log)) ≡ [] → Ending plan sources
  closing log clear calm none =
      closes (set_with (concluded log)) (record {
        clear = clear;
        calm = calm;
        given = λ a h. absurd (no_atom a (ap (λ xs. has same_atom xs a) (sym none) ∙ h));
      }) (root_in (concluded log))
    where
      no_atom : (a : Atom) → has same_atom [] a ≡ true → ⊥
      no_atom a h = cc

  clashing : (log : List Step) → is_accepted plan sources log ≡ true → is_clear plan (set_with (concluded log)) ≡ true
      → some_clash (system_of plan sources) (set_with (concluded log)) ≡ true → Ending plan sources
  clashing log accepts clear some =
      let r
      = any_at (λ giver. is_clash (gives plan sources giver (seen_of (set_with (concluded log))))) (givers_of plan)
      some in
      let b = clashes_are_blamed plan sources log r.0 fit accepts clear r.2 in
      blamed b.0 b.2

  -- one step more: the list grows, or is blamed
  data Onward (log : List Step) (set : List Atom) : Type 0 where
    ends : Ending plan sources → Onward log set
    goes_on : (step : Step) → Grown plan sources (log ++ step ∷ []) (step.conclusion ∷ set) → Onward log set

  stepping : (log : List Step) (set : List Atom) (a : Atom) → Grown plan sources log set
      → has same_atom (all_given (system_of plan sources) (set_with (concluded log))) a ≡ true → Onward log set
  stepping log set a g h =
      let stand = concluded log in
      let r = settling.giver_of (system_of plan sources) (system_laws plan sources)
      (λ giver. atoms_of (gives plan sources giver (seen_of (set_with stand)))) (givers_of plan) a h in
      let n : NextStep plan sources log a = next_step plan sources log r.0 a g.accepts g.clear r.2 in
      let whole = log ++ n.step ∷ [] in
      let new : has same_atom (set_with stand) a ≡ false = given_new plan sources r.0 (set_with stand) g.clear a r.2 in
      let last : has same_atom (set_with (stand ++ n.step.conclusion ∷ [])) n.step.conclusion ≡ true
      = has_back same_atom atom_exact atom_itself (set_with stand) (n.step.conclusion ∷ []) n.step.conclusion
      (has_first same_atom atom_exact atom_itself n.step.conclusion []) in
      elim (told (is_clear plan (set_with (concluded whole)))) [
        | inr unclear ↦
            let settling_log : IsSettling plan sources whole
            = record { valid = valid; fits = fit; accepts = n.accepts } in
            let b = unclear_is_blamed plan sources log n.step settling_log g.clear unclear in
            ends (blamed b.0 b.2)
        | inl clear ↦ goes_on n.step (record {
          accepts = n.accepts;
          clear = clear;
          within = subst (λ xs. Within same_atom (n.step.conclusion ∷ set) (set_with xs))
              (sym (concluded_next log n.step))
              (within_cons same_atom atom_exact atom_itself n.step.conclusion set
              (set_with (stand ++ n.step.conclusion ∷ [])) last
              (λ b k. has_front same_atom atom_exact atom_itself (set_with stand) (n.step.conclusion ∷ []) b
              (g.within b k)));
          distinct = distinct_next set n.step.conclusion g.distinct
              (false_from_ne_true (has same_atom set n.step.conclusion) (λ k.
              both (subst (λ z. has same_atom (set_with stand) z ≡ true) n.concludes (g.within n.step.conclusion k))
              new));
        })
      ]

  -- a clear set without doubles is bounded, so growing ends
  grow : (n : ℕ) (log : List Step) (set : List Atom) → Grown plan sources log set → atom_count plan < length set + n
      → Ending plan sources
  grow zero log set g more =
      let small : length set ≤ atom_count plan
      = clear_sets_are_small plan set (part_clear plan set (set_with (concluded log)) g.clear g.within) g.distinct in
      absurd (omega (arith, small, more))
  grow (suc n) log set g more =
      elim (told (some_clash (system_of plan sources) (set_with (concluded log)))) [
        | inl some ↦ clashing log g.accepts g.clear some
        | inr calm ↦ by (all_given (system_of plan sources) (set_with (concluded log))) refl calm
            (λ step h. grow n (log ++ step ∷ []) (step.conclusion ∷ set) h (omega (arith, more)))
      ]
    where
      by : (given : List Atom) → all_given (system_of plan sources) (set_with (concluded log)) ≡ given
          → some_clash (system_of plan sources) (set_with (concluded log)) ≡ false
          → ((step : Step) → Grown plan sources (log ++ step ∷ []) (step.conclusion ∷ set) → Ending plan sources)
          → Ending plan sources
      by [] e calm next = closing log g.clear calm e
      by (a ∷ given) e calm next =
          onward (stepping log set a g
          (ap (λ xs. has same_atom xs a) e ∙ has_first same_atom atom_exact atom_itself a given))
        where
          onward : Onward log set → Ending plan sources
          onward (ends end) = end
          onward (goes_on step h) = next step h

  grown_end : Ending plan sources
  grown_end =
      grow (atom_count plan) [] base
      (record { accepts = refl; clear = root_clear plan valid; within = λ a h. h; distinct = distinct_root })
      (omega arith)

pub broken_is_blamed : BrokenIsBlamed
broken_is_blamed plan sources valid fit e = by (grown_end plan sources valid fit)
  where
    by : Ending plan sources → (clash : Clash) × (refutes plan sources clash ≡ true)
    by (blamed clash q) = (clash, q)
    by (closes closed c w) =
        let r = settles_below_closed plan sources closed c w in
        let no : broken ≡ settled r.0 = sym e ∙ r.1 in
        absurd (cc)

-- a stage that is broken is one whose sources settling breaks with
broken_stage : (plan : Plan) (users : Users) (n : ℕ) (sets : List (List Atom)) (entries : Entries) (k : ℕ)
    (written : Entries)
    → stages_from plan users n sets entries ≡ broken_at k written
    → settlement_of plan (sources_of users written) ≡ broken
broken_stage plan users zero sets entries k written e = by (settlement_of plan (sources_of users entries)) refl e
  where
    by : (end : Settlement Atom) → settlement_of plan (sources_of users entries) ≡ end
        → if_settled end (broken_at (length sets) entries) (λ set. reached (sets ++ set ∷ []) entries)
        ≡ broken_at k written
        → settlement_of plan (sources_of users written) ≡ broken
    by broken q r =
        let is : entries ≡ written = cc in subst (λ z. settlement_of plan (sources_of users z) ≡ broken) is q
    by (settled set) q r = absurd (cc)
broken_stage plan users (suc n) sets entries k written e =
    by (settlement_of plan (sources_of users entries)) refl e
    (λ set. broken_stage plan users n (sets ++ set ∷ []) (between plan users n sets set entries) k written)
  where
    by : (end : Settlement Atom) → settlement_of plan (sources_of users entries) ≡ end
        → if_settled end (broken_at (length sets) entries)
        (λ set. stages_from plan users n (sets ++ set ∷ []) (between plan users n sets set entries))
        ≡ broken_at k written
        → ((set : List Atom)
        → stages_from plan users n (sets ++ set ∷ []) (between plan users n sets set entries) ≡ broken_at k written
        → settlement_of plan (sources_of users written) ≡ broken)
        → settlement_of plan (sources_of users written) ≡ broken
    by broken q r next =
        let is : entries ≡ written = cc in subst (λ z. settlement_of plan (sources_of users z) ≡ broken) is q
    by (settled set) q r next = next set r

pub status_is_there : StatusIsThere
status_is_there plan users valid fit = by (evaluation_of plan users) refl
  where
    by : (end : Evaluated) → evaluation_of plan users ≡ end → (status : Status) × IsStatus plan users status
    by (broken_at k entries) e =
        let fits : sources_fit plan (sources_of users entries) ≡ true
        = ap (λ z. sources_fit plan (sources_at_end users z)) (sym e)
        ∙ evaluations_fit plan users valid.own_writes fit in
        let b = broken_is_blamed plan (sources_of users entries) valid fits
        (broken_stage plan users (last_stage plan) [] (no_entries plan) k entries e) in (
          Contradiction b.0.culprit,
          subst (λ z. IsStatusAfter plan users z (Contradiction b.0.culprit)) (sym e)
              (b.0, b.1, refl),
        )
    by (reached sets entries) e =
        let seen = seen_of (last_set plan sets) in
        let status = settled_status plan seen (reading_of plan users seen) in
        (status, subst (λ z. IsStatusAfter plan users z status) (sym e) refl)
