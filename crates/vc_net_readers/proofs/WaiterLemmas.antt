-- Lists filled rule by rule, and variable by variable, are those of rules that wait, and of what is waited for.
use Rattle.std.proofs.Common.{◌≡◌, ℕ, ◌+◌, ◌<◌, Bool, true, false, cond, List, [], ◌∷◌, length, map, refl, sym}
use Rattle.std.proofs.Common.{◌∙◌, ap}
use Rattle.std.specs.Prelude.{Option, None, Some, nat_eq, ◌==◌, ◌||◌, ◌&&◌, if◌then◌else◌, replicate, slice_get}
use Rattle.std.specs.List.{filter, flat_map, list_any}
use Rattle.std.proofs.lemmas.List.Folds.{list_any-append}
use Rattle.vc_plan.specs.declared.plans.Plan.{Plan}
use Rattle.vc_plan.specs.Domains.{numbers_below}
use Rattle.vc_plan.specs.Gives.{by_rule}
use Rattle.vc_plan_reasons.specs.Things.{var_at}
use Rattle.vc_net_laws.specs.declared.triggers.Trigger.{Trigger}
use Rattle.vc_net_laws.specs.Triggers.{trigger_by}
use Rattle.vc_net_readers.specs.Filing.{filed_at_each, filed_below, list_at}
use Rattle.vc_net_readers.specs.Readers.{awaited_lists, awaits, free_lists, is_free_at, is_reader, touched_with}
use Rattle.vc_net_readers.specs.Readers.{var_lists, waiter_lists, waiters_of, waits_for}
use Rattle.vc_net_readers.specs.Touched.{vars_by}
use Rattle.vc_net_readers.specs.Waiting.{awaited_by, free_by, is_free, is_own, vars_of_trigger}
use Rattle.vc_net_readers.proofs.FilingLemmas.{filed_all, filed_flat, filed_next, has_place, listed}
use Rattle.vc_net_readers.proofs.TouchedLemmas.{filter_same, map_same, or_false, var_in_rule}

and_true : (a : Bool) → a ≡ (a && true)
and_true true = refl
and_true false = refl

and_false : (a : Bool) → false ≡ (a && false)
and_false true = refl
and_false false = refl

-- lists of the numbers that have each place
filed_as : (places : ℕ → List ℕ) (p : ℕ → ℕ → Bool) (m n : ℕ) → ((t k : ℕ) → list_any (nat_eq t) (places k) ≡ p t k)
    → filed_below places n (replicate m []) ≡ map (λ t. filter (p t) (numbers_below n)) (numbers_below m)
filed_as places p m n same =
    filed_all places m n
    ∙ map_same (λ t. filter (has_place places t) (numbers_below n)) (λ t. filter (p t) (numbers_below n))
    (λ t. filter_same (has_place places t) (p t) (same t) (numbers_below n)) (numbers_below m)

-- those that touch a variable
pub vars_filed : (plan : Plan)
    → filed_below (vars_by plan) (length plan.rules) (replicate (length plan.vars) []) ≡ var_lists plan
vars_filed plan =
    filed_as (vars_by plan) (λ v r. is_reader plan (var_at v) r) (length plan.vars) (length plan.rules)
    (λ v r. var_in_rule plan (slice_get plan.rules r) v)

-- those that touch a variable and wait for nothing
pub free_filed : (plan : Plan)
    → filed_below (free_by plan) (length plan.rules) (replicate (length plan.vars) []) ≡ free_lists plan
free_filed plan = filed_as (free_by plan) (is_free_at plan) (length plan.vars) (length plan.rules) free
  where
    kept : (v : ℕ) (b : Bool) (xs : List ℕ) → list_any (nat_eq v) (if b then xs else []) ≡ (list_any (nat_eq v) xs && b)
    kept v true xs = and_true (list_any (nat_eq v) xs)
    kept v false xs = and_false (list_any (nat_eq v) xs)

    free : (v r : ℕ) → list_any (nat_eq v) (free_by plan r) ≡ is_free_at plan v r
    free v r =
        kept v (is_free (trigger_by plan (by_rule r))) (vars_by plan r)
        ∙ ap (λ b. b && is_free (trigger_by plan (by_rule r))) (var_in_rule plan (slice_get plan.rules r) v)

-- those that wait for a value of a variable
pub waiters_filed : (plan : Plan)
    → filed_below (awaited_by plan) (length plan.rules) (replicate (length plan.vars) []) ≡ waiter_lists plan
waiters_filed plan =
    filed_as (awaited_by plan) (waits_for plan) (length plan.vars) (length plan.rules)
    (λ u r. own u (trigger_by plan (by_rule r)))
  where
    own : (u : ℕ) (o : Option Trigger) → list_any (nat_eq u) (vars_of_trigger o) ≡ is_own u o
    own u None = refl
    own u (Some t) = or_false (u == t.var)

-- and the variables of which a value is waited for
pub awaited_filed : (plan : Plan)
    → filed_below (touched_with plan) (length plan.vars) (replicate (length plan.vars) []) ≡ awaited_lists plan
awaited_filed plan =
    filed_as (touched_with plan) (awaits plan) (length plan.vars) (length plan.vars)
    (λ v u. touched v u (numbers_below (length plan.rules)))
  where
    both : ℕ → ℕ → ℕ → Bool
    both v u r = is_reader plan (var_at v) r && waits_for plan u r

    touched : (v u : ℕ) (ns : List ℕ)
        → list_any (nat_eq v) (flat_map (vars_by plan) (filter (waits_for plan u) ns)) ≡ list_any (both v u) ns
    touched v u [] = refl
    touched v u (n ∷ ns) = step (waits_for plan u n) (touched v u ns)
      where
        step : (b : Bool)
            → list_any (nat_eq v) (flat_map (vars_by plan) (filter (waits_for plan u) ns)) ≡ list_any (both v u) ns
            → list_any (nat_eq v)
            (flat_map (vars_by plan) (cond b (n ∷ filter (waits_for plan u) ns) (filter (waits_for plan u) ns)))
            ≡ ((is_reader plan (var_at v) n && b) || list_any (both v u) ns)
        step true e =
            list_any-append (nat_eq v) (vars_by plan n) (flat_map (vars_by plan) (filter (waits_for plan u) ns))
            ∙ (ap (λ b. b || list_any (nat_eq v) (flat_map (vars_by plan) (filter (waits_for plan u) ns)))
            (var_in_rule plan (slice_get plan.rules n) v ∙ and_true (is_reader plan (var_at v) n))
            ∙ ap (λ b. (is_reader plan (var_at v) n && true) || b) e)
        step false e = e ∙ ap (λ b. b || list_any (both v u) ns) (and_false (is_reader plan (var_at v) n))

pub awaited_next : (plan : Plan) (n : ℕ) (lists : List (List ℕ)) → n < length plan.vars
    → filed_below (touched_with plan) (n + 1) lists
    ≡ filed_at_each (vars_by plan) (filed_below (touched_with plan) n lists) (list_at (waiter_lists plan) n) n
awaited_next plan n lists below =
    let before = filed_below (touched_with plan) n lists in
    filed_next (touched_with plan) n lists
    ∙ (sym (filed_flat (vars_by plan) before (waiters_of plan n) n)
    ∙ ap (λ rules. filed_at_each (vars_by plan) before rules n)
    (sym (listed (waiters_of plan) (length plan.vars) n below)))
