-- Whatever a statement writes is among what all statements write.
use Rattle.std.proofs.Common.{◌≡◌, ℕ, zero, suc, true, List, [], ◌∷◌, refl, sym, subst, inl, inr}
use Rattle.std.specs.Prelude.{Option, None, Some, ◌==◌, nat_eq, slice_get}
use Rattle.std.specs.List.{flat_map, list_any}
use Rattle.std.proofs.lemmas.Bool.{and_parts, eqb-true, or_cases}
use Rattle.vc_base.specs.Sets.{has}
use Rattle.vc_base.proofs.ListLaws.{number_exact, number_itself}
use Rattle.vc_base.proofs.SetLaws.{has_back, has_first, has_front, has_more}
use Rattle.vc_plan.specs.declared.plans.Plan.{Plan}
use Rattle.vc_plan.specs.declared.procedures.Procedure.{Procedure}
use Rattle.vc_plan.specs.declared.procedures.Statement.{Statement}
use Rattle.vc_plan.specs.LookUps.{action_writes}
use Rattle.vc_plan.specs.RuleShapes.{is_at}
use Rattle.vc_plan_reasons.specs.Fitting.{procedure_writes, statement_writes}
use Rattle.vc_net.specs.Differing.{AreAllWritten}
use Rattle.vc_session_evaluation.specs.Writing.{all_written, procedure_written, statement_written}

written_there : (v : ℕ) (xs : List ℕ) → list_any (λ w. w == v) xs ≡ true → has nat_eq xs v ≡ true
written_there v [] h = absurd (cc)
written_there v (w ∷ xs) h =
    elim (or_cases (w == v) (list_any (λ u. u == v) xs) h) [
      | inl e ↦
          let same : w ≡ v = eqb-true w v e in
          subst (λ u. has nat_eq (w ∷ xs) u ≡ true) same (has_first nat_eq number_exact number_itself w xs)
      | inr later ↦ has_more nat_eq number_exact number_itself w xs v (written_there v xs later)
    ]

flat_there : {X : Type 0} (f : X → List ℕ) (xs : List X) (n : ℕ) (x : X) (v : ℕ) → slice_get xs n ≡ Some x
    → has nat_eq (f x) v ≡ true → has nat_eq (flat_map f xs) v ≡ true
flat_there f [] n x v at h = absurd (cc at)
flat_there f (y ∷ xs) zero x v at h =
    let same : y ≡ x = cc at in
    has_front nat_eq number_exact number_itself (f y) (flat_map f xs) v
    (subst (λ z. has nat_eq (f z) v ≡ true) (sym same) h)
flat_there f (y ∷ xs) (suc n) x v at h =
    has_back nat_eq number_exact number_itself (f y) (flat_map f xs) v (flat_there f xs n x v at h)

by_statement : (v n : ℕ) (statements : List Statement) (o : Option Statement) → slice_get statements n ≡ o
    → statement_writes v o ≡ true → has nat_eq (flat_map statement_written statements) v ≡ true
by_statement v n statements None at e = absurd (cc e)
by_statement v n statements (Some statement) at e =
    flat_there statement_written statements n statement v at (written_there v (action_writes statement.action) e)

by_procedure : (plan : Plan) (v p n : ℕ) (o : Option Procedure) → slice_get plan.procedures p ≡ o
    → procedure_writes plan v n o ≡ true → has nat_eq (all_written plan) v ≡ true
by_procedure plan v p n None at e = absurd (cc e)
by_procedure plan v p n (Some procedure) at e =
    flat_there procedure_written plan.procedures p procedure v at
    (by_statement v n procedure.statements (slice_get procedure.statements n) refl
    (and_parts (is_at plan (procedure.slot ∷ []) v) (statement_writes v (slice_get procedure.statements n)) e).1)

pub all_are_written : (plan : Plan) → AreAllWritten plan (all_written plan)
all_are_written plan v p n h = by_procedure plan v p n (slice_get plan.procedures p) refl h
