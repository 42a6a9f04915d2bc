-- Lists that have nothing but at some places, and what is written where statements write alone.
use Rattle.std.proofs.Common.{◌≡◌, ℕ, ◌-◌, ◌<◌, ◌≤◌, true, List, length, drop, get_or}
use Rattle.std.proofs.Common.{replicate, take, refl, sym, ap, ◌∙◌}
use Rattle.std.specs.Prelude.{Option, None, Some, option_map, slice_index_or, slice_set}
use Rattle.std.proofs.lemmas.List.{length-replicate}
use Rattle.vc_plan.specs.declared.plans.Plan.{Plan}
use Rattle.vc_plan.specs.Entries.{Entries, Written, entry_in, written_at}
use Rattle.vc_plan.specs.Evaluate.{Users, sources_of}
use Rattle.vc_plan_reasons.specs.Fitting.{sources_fit}
use Rattle.vc_net.specs.Differing.{AreAllWritten}
use Rattle.vc_net.proofs.ChangeLaws.{fit_beside, none_in}
use Rattle.vc_net.proofs.CopyLaws.{beside_next, same_at_end}
use Rattle.vc_session_evaluation.specs.Writing.{IsBlankBeside}
use Rattle.vc_session_evaluation.proofs.FillLemmas.{source_at}

-- one variable more has nothing
pub blank_next : {A : Type 0} (rest : List ℕ) (d : ℕ) (xs after : List (Option A)) → 1 ≤ length rest
    → IsBlankBeside rest xs → after ≡ slice_set xs (get_or rest 0 d) None
    → IsBlankBeside (take (length rest - 1) (drop 1 rest)) after
blank_next {A = A} rest d xs after some blank is v none =
    beside_next rest d xs nothing after some (sym (length-replicate (length xs) empty))
    (λ w apart. blank w apart ∙ sym (none_in (length xs) w empty refl))
    (is ∙ ap (slice_set xs (get_or rest 0 d)) (sym (none_in (length xs) (get_or rest 0 d) empty refl))) v none
    ∙ none_in (length xs) v empty refl
  where
    empty : Option A
    empty = None

    nothing : List (Option A)
    nothing = replicate (length xs) empty

pub blank_at_end : {A : Type 0} (rest : List ℕ) (xs : List (Option A)) (n : ℕ) → length rest < 1 → length xs ≡ n
    → IsBlankBeside rest xs → xs ≡ replicate n None
blank_at_end {A = A} rest xs n last long blank =
    same_at_end rest xs (replicate n empty) last (long ∙ sym (length-replicate n empty))
    (λ v none. blank v none ∙ sym (none_in n v empty refl))
  where
    empty : Option A
    empty = None

-- nothing anywhere
pub none_blank : {A : Type 0} (vars : List ℕ) (xs : List (Option A)) (n : ℕ) → xs ≡ replicate n None
    → IsBlankBeside vars xs
none_blank {A = A} vars xs n is v none = ap (λ ys. slice_index_or ys v empty) is ∙ none_in n v empty refl
  where
    empty : Option A
    empty = None

-- what is written fits, so it is so where statements write alone
no_entry : (o : Option Written) → option_map entry_in o ≡ None → o ≡ None
no_entry None e = refl
no_entry (Some written) e = absurd (cc e)

pub entries_blank : (plan : Plan) (users : Users) (entries : Entries) (vars : List ℕ) → AreAllWritten plan vars
    → sources_fit plan (sources_of users entries) ≡ true → IsBlankBeside vars entries
entries_blank plan users entries vars all fits v none =
    no_entry (written_at entries v)
    (sym (source_at entries v) ∙ fit_beside plan (sources_of users entries) vars fits all v none)
