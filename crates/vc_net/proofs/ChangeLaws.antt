-- Sources that fit a plan: which differ alone where statements write, and none at all.
use Rattle.std.proofs.Common.{◌≡◌, ℕ, zero, suc, true, false, List, length, replicate, refl, sym, ◌∙◌, ap}
use Rattle.std.specs.Prelude.{Option, None, Some, nat_eq, slice_get, slice_index_or}
use Rattle.std.specs.List.{list_all}
use Rattle.std.proofs.lemmas.Bool.{and_from, and_parts}
use Rattle.vc_base.specs.Sets.{has}
use Rattle.vc_base.proofs.ListLaws.{number_exact, number_itself}
use Rattle.vc_base.proofs.SetLaws.{all_from, both}
use Rattle.vc_plan.specs.declared.plans.Plan.{Plan}
use Rattle.vc_plan.specs.Domains.{numbers_below}
use Rattle.vc_plan.specs.Sources.{Entry, Sources, entry_of, user_of}
use Rattle.vc_plan_reasons.specs.Fitting.{entry_fits, mark_fits, procedure_writes, sources_fit, value_fits}
use Rattle.vc_plan_reasons.proofs.ReasonLaws.Blaming.{entry_fit_at}
use Rattle.vc_plan_sources.specs.Changes.{no_sources}
use Rattle.vc_net.specs.Differing.{AreAllWritten, SameBeside}

-- sources that fit have entries where statements write alone
pub fit_beside : (plan : Plan) (sources : Sources) (vars : List ℕ) → sources_fit plan sources ≡ true
    → AreAllWritten plan vars → (v : ℕ) → has nat_eq vars v ≡ false → entry_of sources v ≡ None
fit_beside plan sources vars fit all v none = by (entry_of sources v) (entry_fit_at plan sources v fit)
  where
    by : (o : Option Entry) → entry_fits plan v o ≡ true → o ≡ None
    by None e = refl
    by (Some entry) e =
        absurd (both (all v entry.procedure entry.statement
        (and_parts (mark_fits plan v entry.mark)
        (procedure_writes plan v entry.statement (slice_get plan.procedures entry.procedure)) e).1) none)

pub fits_are_same : (plan : Plan) (old new : Sources) (vars : List ℕ) → sources_fit plan old ≡ true
    → sources_fit plan new ≡ true → AreAllWritten plan vars → SameBeside vars old.written new.written
fits_are_same plan old new vars one other all v none =
    fit_beside plan old vars one all v none ∙ sym (fit_beside plan new vars other all v none)

-- no sources fit
pub none_in : {A : Type 0} (n v : ℕ) (x : Option A) → x ≡ None → slice_index_or (replicate n x) v None ≡ None
none_in zero v x e = refl
none_in (suc n) zero x e = e
none_in (suc n) (suc v) x e = none_in n v x e

pub nothing_fits : (plan : Plan) (n : ℕ) → sources_fit plan (no_sources n) ≡ true
nothing_fits plan n =
    let none = no_sources n in
    and_from (list_all (λ v. value_fits plan v (user_of none v)) (numbers_below (length none.user)))
    (list_all (λ v. entry_fits plan v (entry_of none v)) (numbers_below (length none.written)))
    (all_from nat_eq number_exact number_itself (λ v. value_fits plan v (user_of none v))
    (numbers_below (length none.user)) (λ v h. ap (value_fits plan v) (none_in n v None refl)))
    (all_from nat_eq number_exact number_itself (λ v. entry_fits plan v (entry_of none v))
    (numbers_below (length none.written)) (λ v h. ap (entry_fits plan v) (none_in n v None refl)))
