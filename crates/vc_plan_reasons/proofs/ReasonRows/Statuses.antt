-- The status of broken evaluations, and of others.
use Rattle.std.proofs.Common.{◌≡◌, ℕ, zero, suc, true, [], ◌∷◌, refl, sym, ap, subst}
use Rattle.std.specs.Prelude.{None, Some}
use Rattle.vc_value.specs.declared.value.Value.TheVariants.{Text}
use Rattle.vc_plan.specs.declared.atoms.Atom.TheVariants.{Is}
use Rattle.vc_plan.specs.declared.atoms.Culprit.TheVariants as culprits
use Rattle.vc_plan.specs.declared.atoms.Mark.TheVariants.{Held}
use Rattle.vc_plan.specs.declared.atoms.Origin.TheVariants.{Written}
use Rattle.vc_plan.specs.declared.shown.Status.TheVariants.{Complete, Contradiction}
use Rattle.vc_plan.specs.Evaluate.{Users, sources_of}
use Rattle.vc_plan.specs.Sources.{Sources, entry_of}
use Rattle.vc_plan.proofs.PlanRows.Models.{last, pump}
use Rattle.vc_plan.proofs.StageRows.Paints.{paint}
use Rattle.vc_plan.proofs.StageRows.StageModels.{chosen, breaks_at}
use Rattle.vc_plan_reasons.specs.Blaming.{IsStatus}
use Rattle.vc_plan_reasons.specs.Checking.{is_by}
use Rattle.vc_plan_reasons.specs.Laws.{IsGuilty}
use Rattle.vc_plan_reasons.proofs.ReasonLaws.Refuting.{refuting_blames}
use Rattle.vc_plan_reasons.proofs.ReasonRows.Steps.{step, by_user, clash_of}

-- PAINT: blue by the user, and green by the second procedure, which is to blame
abbrev blue_h : Users
blue_h = chosen (Some (Text 1) ∷ Some (Text 3) ∷ [])

blue_h_stage : breaks_at paint blue_h ≡ Some 1
blue_h_stage = refl

blue_h_status : IsStatus paint blue_h (Contradiction (culprits.Written 1 0))
blue_h_status = (
  clash_of (by_user 0 (Text 1) ∷ step (Is 0 (Text 2)) (Written 1 0) [] ∷ []) (culprits.Written 1 0) (1 ∷ 2 ∷ []),
  refl,
  refl,
)

blue_h_complete : IsStatus paint blue_h Complete → ⊥
blue_h_complete (clash, refuted, is) = cc

-- neither the rule of the last color nor the first procedure is, whatever the steps: that rule is no constraint's, and
-- no
-- entry is by that procedure
abbrev at_1 : Sources
at_1 = sources_of blue_h
    (Some (record { mark = Held (Text 2); hard = true; procedure = 1; statement = 0 }) ∷ None ∷ None ∷ [])

last_blamed : IsStatus paint blue_h (Contradiction (culprits.Rule 0)) → ⊥
last_blamed (clash, refuted, is) =
    let culprit : clash.culprit ≡ culprits.Rule 0 = cc in
    let guilty : IsGuilty paint at_1 (culprits.Rule 0)
    = subst (IsGuilty paint at_1) culprit (refuting_blames paint at_1 clash refuted) in
    let is_first : Some (last 0) ≡ Some guilty.0 = guilty.1 in
    let same : last 0 ≡ guilty.0 = cc is_first in
    guilty.2 0 (ap (λ rule. rule.kind) (sym same))

no_default : (v : ℕ) → is_by 0 0 (entry_of at_1 v) ≡ true → ⊥
no_default zero e = cc
no_default (suc zero) e = cc
no_default (suc (suc zero)) e = cc
no_default (suc (suc (suc v))) e = cc

default_blamed : IsStatus paint blue_h (Contradiction (culprits.Written 0 0)) → ⊥
default_blamed (clash, refuted, is) =
    let culprit : clash.culprit ≡ culprits.Written 0 0 = cc in
    let guilty : IsGuilty paint at_1 (culprits.Written 0 0)
    = subst (IsGuilty paint at_1) culprit (refuting_blames paint at_1 clash refuted) in
    no_default guilty.0 guilty.1

-- LUX where the mode is H: the precondition is violated
abbrev lux_h : Users
lux_h = chosen (None ∷ Some (Text 3) ∷ Some (Text 5) ∷ [])

lux_h_status : IsStatus paint lux_h (Contradiction (culprits.Hidden 0 2))
lux_h_status = refl

lux_h_complete : IsStatus paint lux_h Complete → ⊥
lux_h_complete e = cc

-- PUMP: small with E3, and the table is to blame
abbrev small_e3 : Users
small_e3 = chosen (Some (Text 0) ∷ Some (Text 5) ∷ [])

small_e3_status : IsStatus pump small_e3 (Contradiction (culprits.Rule 0))
small_e3_status = (clash_of (by_user 0 (Text 0) ∷ by_user 1 (Text 5) ∷ []) (culprits.Rule 0) (1 ∷ 2 ∷ []), refl, refl)
