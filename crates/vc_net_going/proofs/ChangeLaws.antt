-- Sources that differ: whoever has other things to say than before, by the sources.
use Rattle.std.proofs.Common.{◌≡◌, ℕ, zero, suc, ◌-◌, ◌<◌, ◌≤◌, ◌⊎◌, Bool, true, false, ◌||◌}
use Rattle.std.proofs.Common.{List, [], ◌∷◌, ◌++◌, length, drop, get_or, take, refl, sym, ◌∙◌, ap, subst}
use Rattle.std.proofs.Common.{inl, inr, arith}
use Rattle.std.specs.Prelude.{Option, None, if◌then◌else◌, nat_eq, slice_index_or}
use Rattle.std.proofs.lemmas.Bool.{cases_lt, or_cases, or_left, or_right}
use Rattle.std.proofs.lemmas.List.{take_all}
use Rattle.vc_base.specs.Sets.{has}
use Rattle.vc_base.proofs.ListLaws.{number_exact, number_itself}
use Rattle.vc_base.proofs.SetLaws.{both, has_back, has_cases, has_either, has_front, told}
use Rattle.vc_plan.specs.declared.plans.Plan.{Plan}
use Rattle.vc_plan.specs.Gives.{Giver, by_entry, by_rule, by_user, givers_of}
use Rattle.vc_plan.specs.Sources.{Sources}
use Rattle.vc_plan_reasons.specs.Keeping.{entry_differs, user_differs}
use Rattle.vc_net_agenda.specs.Agendas.{Awaited}
use Rattle.vc_net_laws.specs.Waking.{giver_differs}
use Rattle.vc_net_laws.specs.Working.{same_giver}
use Rattle.vc_net_laws.proofs.NetLaws.Working.{giver_exact, giver_itself}
use Rattle.vc_net_log.proofs.SourceLaws.{entry_stays, user_stays}
use Rattle.vc_net_waking.specs.Waking.{sources_of, with_givers}
use Rattle.vc_net_waking.proofs.GiverLaws.{both_parts}
use Rattle.vc_net_waking.proofs.WakingLaws.{entry_below, entry_in, user_below, user_in}
use Rattle.vc_net_going.specs.Differing.{AreFor, SameBeside}
use Rattle.vc_net_going.specs.Renewing.{changed_among, changed_sources}

-- givers among which each source of the plan is that differs, and which are sources of variables of which one does
pub record AreChanges (plan : Plan) (old new : Sources) (changes : List Giver) : Type 0 where
  pub all : (giver : Giver) → has same_giver (givers_of plan) giver ≡ true → giver_differs old new giver ≡ true
      → has same_giver changes giver ≡ true
  pub only : (giver : Giver) → has same_giver changes giver ≡ true
      → (v : ℕ) × (v < length plan.vars) × ((user_differs old new v || entry_differs old new v) ≡ true)
      × (has same_giver (sources_of v) giver ≡ true)

-- the sources of a variable for which they differ are among those that changed
changed_there : (old new : Sources) (n v : ℕ) (giver : Giver) → v < n
    → (user_differs old new v || entry_differs old new v) ≡ true → has same_giver (sources_of v) giver ≡ true
    → has same_giver (changed_sources old new n) giver ≡ true
changed_there old new zero v giver below differ h = absurd (omega (arith, below))
changed_there old new (suc n) v giver below differ h =
    elim (cases_lt v n) [
      | inl less ↦
          has_front same_giver giver_exact giver_itself (changed_sources old new n) (own n) giver
          (changed_there old new n v giver less differ h)
      | inr past ↦
          let same : v ≡ n = omega (arith, below, past) in
          has_back same_giver giver_exact giver_itself (changed_sources old new n) (own n) giver
          (subst (λ m. has same_giver (own m) giver ≡ true) same
          (ap (λ b. has same_giver (if b then sources_of v else []) giver) differ ∙ h))
    ]
  where
    own : ℕ → List Giver
    own m = if user_differs old new m || entry_differs old new m then sources_of m else []

changed_by : (old new : Sources) (n : ℕ) (giver : Giver) → has same_giver (changed_sources old new n) giver ≡ true
    → (v : ℕ) × (v < n) × ((user_differs old new v || entry_differs old new v) ≡ true)
    × (has same_giver (sources_of v) giver ≡ true)
changed_by old new zero giver h = absurd (cc)
changed_by old new (suc n) giver h =
    by (user_differs old new n || entry_differs old new n) refl
    (has_either same_giver giver_exact giver_itself (changed_sources old new n)
    (if user_differs old new n || entry_differs old new n then sources_of n else []) giver h)
    (changed_by old new n giver)
  where
    by : (b : Bool) → (user_differs old new n || entry_differs old new n) ≡ b
        → (has same_giver (changed_sources old new n) giver ≡ true)
        ⊎ (has same_giver (if b then sources_of n else []) giver ≡ true)
        → (has same_giver (changed_sources old new n) giver ≡ true
        → (v : ℕ) × (v < n) × ((user_differs old new v || entry_differs old new v) ≡ true)
        × (has same_giver (sources_of v) giver ≡ true))
        → (v : ℕ) × (v < suc n) × ((user_differs old new v || entry_differs old new v) ≡ true)
        × (has same_giver (sources_of v) giver ≡ true)
    by b e (inl k) more = let r = more k in let low = r.1 in (r.0, omega (arith, low), r.2, r.3)
    by true e (inr k) more = (n, omega arith, e, k)
    by false e (inr k) more = absurd (cc)

-- those for all variables
pub changes_of_all : (plan : Plan) (old new : Sources)
    → AreChanges plan old new (changed_sources old new (length plan.vars))
changes_of_all plan old new = record { all = all; only = changed_by old new (length plan.vars) }
  where
    all : (giver : Giver) → has same_giver (givers_of plan) giver ≡ true → giver_differs old new giver ≡ true
        → has same_giver (changed_sources old new (length plan.vars)) giver ≡ true
    all (by_rule r) there differs = absurd (cc)
    all (by_user v) there differs =
        changed_there old new (length plan.vars) v (by_user v) (user_below plan v there)
        (or_left (user_differs old new v) (entry_differs old new v) differs) (user_in v)
    all (by_entry v) there differs =
        changed_there old new (length plan.vars) v (by_entry v) (entry_below plan v there)
        (or_right (user_differs old new v) (entry_differs old new v) differs) (entry_in v)

-- the sources of one variable more
pub among_rest : (old new : Sources) (rest : List ℕ) (d : ℕ) (agenda after : Awaited) → 1 ≤ length rest
    → after ≡ with_givers agenda
    (if user_differs old new (get_or rest 0 d) || entry_differs old new (get_or rest 0 d)
    then sources_of (get_or rest 0 d)
    else [])
    → with_givers after (changed_among old new (take (length rest - 1) (drop 1 rest)))
    ≡ with_givers agenda (changed_among old new rest)
among_rest old new [] d agenda after some is = absurd (omega (arith, some))
among_rest old new (v ∷ rest) d agenda after some is =
    ap (λ vars. with_givers after (changed_among old new vars))
    (take_all (length (v ∷ rest) - 1) rest (omega arith))
    ∙ (ap (λ a. with_givers a (changed_among old new rest)) is
    ∙ sym (both_parts agenda (if user_differs old new v || entry_differs old new v then sources_of v else [])
    (changed_among old new rest)))

differing_there : (old new : Sources) (vars : List ℕ) (v : ℕ) (giver : Giver) → has nat_eq vars v ≡ true
    → (user_differs old new v || entry_differs old new v) ≡ true → has same_giver (sources_of v) giver ≡ true
    → has same_giver (changed_among old new vars) giver ≡ true
differing_there old new [] v giver h differ of = absurd (cc)
differing_there old new (u ∷ vars) v giver h differ of =
    elim (has_cases nat_eq number_exact number_itself u vars v h) [
      | inl is ↦
          has_front same_giver giver_exact giver_itself (own u) (changed_among old new vars) giver
          (subst (λ w. has same_giver (own w) giver ≡ true) is
          (ap (λ b. has same_giver (if b then sources_of v else []) giver) differ ∙ of))
      | inr later ↦
          has_back same_giver giver_exact giver_itself (own u) (changed_among old new vars) giver
          (differing_there old new vars v giver later differ of)
    ]
  where
    own : ℕ → List Giver
    own w = if user_differs old new w || entry_differs old new w then sources_of w else []

among_by : (old new : Sources) (vars : List ℕ) (giver : Giver)
    → has same_giver (changed_among old new vars) giver ≡ true
    → (v : ℕ) × ((user_differs old new v || entry_differs old new v) ≡ true)
    × (has same_giver (sources_of v) giver ≡ true)
among_by old new [] giver h = absurd (cc)
among_by old new (u ∷ vars) giver h =
    by (user_differs old new u || entry_differs old new u) refl
    (has_either same_giver giver_exact giver_itself
    (if user_differs old new u || entry_differs old new u then sources_of u else []) (changed_among old new vars) giver
    h)
    (among_by old new vars giver)
  where
    by : (b : Bool) → (user_differs old new u || entry_differs old new u) ≡ b
        → (has same_giver (if b then sources_of u else []) giver ≡ true)
        ⊎ (has same_giver (changed_among old new vars) giver ≡ true)
        → (has same_giver (changed_among old new vars) giver ≡ true
        → (v : ℕ) × ((user_differs old new v || entry_differs old new v) ≡ true)
        × (has same_giver (sources_of v) giver ≡ true))
        → (v : ℕ) × ((user_differs old new v || entry_differs old new v) ≡ true)
        × (has same_giver (sources_of v) giver ≡ true)
    by b e (inr k) more = more k
    by true e (inl k) more = (u, e, k)
    by false e (inl k) more = absurd (cc)

-- past its end a list has nothing
pub nothing_past : {A : Type 0} (xs : List (Option A)) (v : ℕ) → length xs ≤ v → slice_index_or xs v None ≡ None
nothing_past [] v h = refl
nothing_past (x ∷ xs) zero h = absurd (omega (arith, h))
nothing_past (x ∷ xs) (suc v) h = nothing_past xs v (omega (arith, h))

-- nothing differs past the variables
differing_below : (plan : Plan) (old new : Sources) → AreFor plan old → AreFor plan new → (v : ℕ)
    → (user_differs old new v || entry_differs old new v) ≡ true → v < length plan.vars
differing_below plan old new a b v differ =
    elim (cases_lt v (length plan.vars)) [
      | inl below ↦ below
      | inr past ↦ absurd (elim (or_cases (user_differs old new v) (entry_differs old new v) differ) [
        | inl u ↦ both u (user_stays old new v
            (nothing_past old.user v (omega (arith, past, a.0))
            ∙ sym (nothing_past new.user v (omega (arith, past, b.0)))))
        | inr e ↦ both e (entry_stays old new v
            (nothing_past old.written v (omega (arith, past, a.1))
            ∙ sym (nothing_past new.written v (omega (arith, past, b.1)))))
      ])
    ]

-- those for the variables for which they may differ
pub changes_among : (plan : Plan) (old new : Sources) (touched written : List ℕ) → AreFor plan old → AreFor plan new
    → SameBeside touched old.user new.user → SameBeside written old.written new.written
    → AreChanges plan old new (changed_among old new touched ++ changed_among old new written)
changes_among plan old new touched written a b users entries = record { all = all; only = only }
  where
    all : (giver : Giver) → has same_giver (givers_of plan) giver ≡ true → giver_differs old new giver ≡ true
        → has same_giver (changed_among old new touched ++ changed_among old new written) giver ≡ true
    all (by_rule r) there differs = absurd (cc)
    all (by_user v) there differs =
        has_front same_giver giver_exact giver_itself (changed_among old new touched) (changed_among old new written)
        (by_user v)
        (elim (told (has nat_eq touched v)) [
          | inl among ↦ differing_there old new touched v (by_user v) among
              (or_left (user_differs old new v) (entry_differs old new v) differs) (user_in v)
          | inr none ↦ absurd (both differs (user_stays old new v (users v none)))
        ])
    all (by_entry v) there differs =
        has_back same_giver giver_exact giver_itself (changed_among old new touched) (changed_among old new written)
        (by_entry v)
        (elim (told (has nat_eq written v)) [
          | inl among ↦ differing_there old new written v (by_entry v) among
              (or_right (user_differs old new v) (entry_differs old new v) differs) (entry_in v)
          | inr none ↦ absurd (both differs (entry_stays old new v (entries v none)))
        ])

    of : (giver : Giver) (vars : List ℕ) → has same_giver (changed_among old new vars) giver ≡ true
        → (v : ℕ) × (v < length plan.vars) × ((user_differs old new v || entry_differs old new v) ≡ true)
        × (has same_giver (sources_of v) giver ≡ true)
    of giver vars h =
        let r = among_by old new vars giver h in (r.0, differing_below plan old new a b r.0 r.1, r.1, r.2)

    only : (giver : Giver)
        → has same_giver (changed_among old new touched ++ changed_among old new written) giver ≡ true
        → (v : ℕ) × (v < length plan.vars) × ((user_differs old new v || entry_differs old new v) ≡ true)
        × (has same_giver (sources_of v) giver ≡ true)
    only giver h =
        elim (has_either same_giver giver_exact giver_itself (changed_among old new touched)
        (changed_among old new written) giver h) [
          | inl k ↦ of giver touched k
          | inr k ↦ of giver written k
        ]
