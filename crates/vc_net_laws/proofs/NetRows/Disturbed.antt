-- Who is disturbed when the user's size of PUMP changes.
use Rattle.std.proofs.Common.{◌≡◌, true, false, [], ◌∷◌, refl}
use Rattle.std.specs.Prelude.{Some}
use Rattle.vc_value.specs.declared.value.Value.TheVariants.{Text}
use Rattle.vc_plan.specs.declared.atoms.Atom.TheVariants.{Here, Is, Out}
use Rattle.vc_plan.specs.Gives.{by_entry, by_rule, by_user}
use Rattle.vc_plan.specs.Settle.{base}
use Rattle.vc_plan.specs.Sources.{Sources}
use Rattle.vc_plan.proofs.PlanRows.Models.{pump, users}
use Rattle.vc_net_laws.specs.Waking.{giver_differs}
use Rattle.vc_net_laws.specs.Working.{disturbed, is_disturbed}
use Rattle.vc_net_laws.proofs.NetRows.Triggers.{triggered}

abbrev medium : Sources
medium = users (Some (Text 1) ∷ [])

abbrev large : Sources
large = users (Some (Text 2) ∷ [])

-- the user's value of that variable differs, and nothing else does, a rule never
differs : (giver_differs medium large (by_user 0) ≡ true) × (giver_differs medium large (by_user 1) ≡ false)
differs = (refl, refl)

entry_stays : giver_differs medium large (by_entry 0) ≡ false
entry_stays = refl

rule_stays : giver_differs medium large (by_rule 0) ≡ false
rule_stays = refl

-- with nothing dropped the user's value alone is disturbed; with the size, who touches it
nothing_dropped : disturbed pump medium large base [] ≡ by_user 0 ∷ []
nothing_dropped = refl

size_dropped : disturbed pump medium large base (Is 0 (Text 1) ∷ [])
    ≡ by_rule 0 ∷ by_rule 1 ∷ by_user 0 ∷ by_entry 0 ∷ []
size_dropped = refl

-- a rule whose trigger was dropped isn't, nor one that touches nothing dropped; one whose trigger is kept is
trigger_dropped : is_disturbed triggered large large base (Is 0 (Text 2) ∷ []) (by_rule 1) ≡ false
trigger_dropped = refl

trigger_kept : is_disturbed triggered large large (Here 0 ∷ Is 0 (Text 2) ∷ []) (Out 0 1 ∷ []) (by_rule 1) ≡ true
trigger_kept = refl

others_dropped : is_disturbed triggered large large (Here 0 ∷ Is 0 (Text 2) ∷ []) (Out 1 1 ∷ []) (by_rule 1) ≡ false
others_dropped = refl
