-- What it says that sources fit, a variable at a time.
use Rattle.std.proofs.Common.{◌≡◌, ℕ, zero, suc, ◌≤◌, Bool, true, List, [], ◌∷◌, length, refl, ap, inl, inr, arith}
use Rattle.std.specs.Prelude.{Option, None, nat_eq, slice_index_or}
use Rattle.std.specs.List.{list_all}
use Rattle.std.proofs.lemmas.Bool.{and_parts, cases_lt}
use Rattle.vc_base.proofs.ListLaws.{number_exact, number_itself, range_has}
use Rattle.vc_base.proofs.SetLaws.{all_at}
use Rattle.vc_plan.specs.declared.plans.Plan.{Plan}
use Rattle.vc_plan.specs.Domains.{numbers_below}
use Rattle.vc_plan.specs.Sources.{Sources, entry_of, user_of}
use Rattle.vc_plan_reasons.specs.Fitting.{entry_fits, sources_fit, value_fits}

pub past_none : {X : Type 0} (xs : List (Option X)) (v : ℕ) → length xs ≤ v → slice_index_or xs v None ≡ None
past_none [] v h = refl
past_none (x ∷ xs) zero h = absurd (omega (arith, h))
past_none (x ∷ xs) (suc v) h = past_none xs v (omega (arith, h))

-- a test of all numbers below a length, which is passed past it too
each_number : (p : ℕ → Bool) (n v : ℕ) → list_all p (numbers_below n) ≡ true → (n ≤ v → p v ≡ true) → p v ≡ true
each_number p n v all past =
    elim (cases_lt v n) [
      | inl below ↦ all_at nat_eq number_exact number_itself p (numbers_below n) v all
          (range_has 0 n v (omega arith) (omega (arith, below)))
      | inr h ↦ past h
    ]

pub user_fit_at : (plan : Plan) (sources : Sources) (v : ℕ) → sources_fit plan sources ≡ true
    → value_fits plan v (user_of sources v) ≡ true
user_fit_at plan sources v fit =
    let values = list_all (λ w. value_fits plan w (user_of sources w)) (numbers_below (length sources.user)) in
    let entries = list_all (λ w. entry_fits plan w (entry_of sources w)) (numbers_below (length sources.written)) in
    each_number (λ w. value_fits plan w (user_of sources w)) (length sources.user) v (and_parts values entries fit).0
    (λ past. ap (value_fits plan v) (past_none sources.user v past))

pub entry_fit_at : (plan : Plan) (sources : Sources) (v : ℕ) → sources_fit plan sources ≡ true
    → entry_fits plan v (entry_of sources v) ≡ true
entry_fit_at plan sources v fit =
    let values = list_all (λ w. value_fits plan w (user_of sources w)) (numbers_below (length sources.user)) in
    let entries = list_all (λ w. entry_fits plan w (entry_of sources w)) (numbers_below (length sources.written)) in
    each_number (λ w. entry_fits plan w (entry_of sources w)) (length sources.written) v
    (and_parts values entries fit).1
    (λ past. ap (entry_fits plan v) (past_none sources.written v past))
