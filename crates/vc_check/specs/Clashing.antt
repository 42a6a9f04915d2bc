-- What the checker asks of a clash, where all is there that it cites.
use Rattle.std.specs.Prelude.{ℕ, zero, suc, Bool, false, ◌&&◌, if◌then◌else◌, List, slice_get, Option, None, Some}
use Rattle.std.specs.List.{list_all, list_any}
use Rattle.vc_plan.specs.declared.atoms.Atom.{Atom}
use Rattle.vc_plan.specs.declared.atoms.Clash.{Clash}
use Rattle.vc_plan.specs.declared.atoms.Culprit.{Culprit}
use Rattle.vc_plan.specs.declared.atoms.Step.{Step}
use Rattle.vc_plan.specs.declared.plans.Plan.{Plan}
use Rattle.vc_plan.specs.Clear.{is_clear}
use Rattle.vc_plan.specs.Sources.{Sources}
use Rattle.vc_plan_reasons.specs.Checking.{are_of}
use Rattle.vc_plan_reasons.specs.Refuting.{culprit_clashes, culprit_reads, is_origin, set_without}

-- whether the set is clear without the atom
abbrev pub is_needed : Plan → List Atom → Atom → Bool
is_needed plan set atom = is_clear plan (set_without atom set)

-- whether the culprit gave the step, if there is one, and the step of the number
abbrev pub is_blamed_by : Culprit → Option Step → Bool
is_blamed_by culprit None = false
is_blamed_by culprit (Some step) = is_origin culprit step.origin

abbrev pub blames : List Step → Culprit → ℕ → Bool
blames steps culprit zero = false
blames steps culprit (suc n) = is_blamed_by culprit (slice_get steps n)

-- a clash at a clear set, or a collision
abbrev pub contradicts_at : Plan → Sources → Clash → List Atom → List Atom → Bool
contradicts_at plan sources clash set premises =
    if is_clear plan set
    then are_of (culprit_reads plan clash.culprit) premises && culprit_clashes plan sources clash.culprit set
    else list_all (is_needed plan set) premises && list_any (blames clash.steps clash.culprit) clash.premises
