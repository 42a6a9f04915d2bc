-- Who is asked besides when sources change, computed on the values of PUMP.
use Rattle.std.proofs.Common.{◌≡◌, ◌≢◌, [], ◌∷◌, ◌++◌, refl}
use Rattle.std.specs.Prelude.{None, Some}
use Rattle.vc_value.specs.declared.value.Value.TheVariants.{Text}
use Rattle.vc_plan.specs.declared.atoms.Atom.TheVariants.{Is, Out}
use Rattle.vc_plan.specs.declared.plans.Plan.{Plan}
use Rattle.vc_plan.specs.Gives.{by_entry, by_user}
use Rattle.vc_plan.specs.Seen.{seen_of}
use Rattle.vc_plan.specs.Sources.{Sources}
use Rattle.vc_plan.proofs.PlanRows.Models.{users}
use Rattle.vc_plan_reasons.specs.Checking.{set_with}
use Rattle.vc_plan_reasons.specs.Things.{var_at}
use Rattle.vc_net_waking.specs.Waking.{waking}
use Rattle.vc_net_going.specs.Renewing.{changed_sources, dropped_wake}

-- a size that was set, and of the others nothing
abbrev small : Sources
small = users (Some (Text 1) ∷ None ∷ None ∷ [])

abbrev large : Sources
large = users (Some (Text 2) ∷ None ∷ None ∷ [])

size_changed : changed_sources small large 3 ≡ by_user 0 ∷ by_entry 0 ∷ []
size_changed = refl

nothing_changed : changed_sources small small 3 ≡ []
nothing_changed = refl

first_left_out : changed_sources small large 3 ≢ []
first_left_out e = cc

-- what still is concluded wakes nobody, what was dropped whoever touches its variable and isn't at rest
kept_wakes_nobody : (plan : Plan) (sources : Sources)
    → dropped_wake plan sources (Is 0 (Text 1) ∷ []) (Is 0 (Text 1) ∷ []) ≡ []
kept_wakes_nobody plan sources = refl

dropped_wakes : (plan : Plan) (sources : Sources)
    → dropped_wake plan sources (Is 0 (Text 1) ∷ []) (Is 0 (Text 1) ∷ Out 1 0 ∷ [])
    ≡ waking plan sources (seen_of (set_with (Is 0 (Text 1) ∷ []))) (var_at 1) ++ []
dropped_wakes plan sources = refl
