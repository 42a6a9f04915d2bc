-- How often PUMP's rules and sources may be asked.
use Rattle.std.proofs.Common.{◌≡◌, [], ◌∷◌, refl}
use Rattle.std.specs.Prelude.{◌≢◌}
use Rattle.vc_value.specs.declared.value.Value.TheVariants.{Text}
use Rattle.vc_plan.specs.declared.atoms.Atom.TheVariants.{Here, Out, Is}
use Rattle.vc_plan.specs.Gives.{givers_of}
use Rattle.vc_plan.specs.Settle.{base}
use Rattle.vc_plan.proofs.PlanRows.Models.{pump}
use Rattle.vc_plan_reasons.specs.Things.{slot_at, var_at}
use Rattle.vc_net_laws.specs.Wakings.{givers_at, most_wakings, rules_at, things_of, turns_left}

things : things_of pump ≡ slot_at 0 ∷ var_at 0 ∷ var_at 1 ∷ var_at 2 ∷ []
things = refl

-- the size has the table, the rule of its last grain and two sources; the flow no table; the slot all
by_size : (rules_at pump (Out 0 1) ≡ 2) × (givers_at pump (Out 0 1) ≡ 4)
by_size = (refl, refl)

by_flow : (rules_at pump (Out 2 0) ≡ 1) × (givers_at pump (Out 2 0) ≡ 3)
by_flow = (refl, refl)

by_slot : (rules_at pump (Here 0) ≡ 4) × (givers_at pump (Here 0) ≡ 10)
by_slot = (refl, refl)

sources_too : givers_at pump (Out 0 1) ≢ 2
sources_too e = cc

-- the table 1 + 4 + 4, the last grains 5, 5 and 3, the sources twice 5, 5 and 3
most : most_wakings pump ≡ 48
most = refl

-- at first all ten are on the agenda, and the slot may wake nobody again; a value of the size wakes four, whoever waits
at_first : turns_left pump base (givers_of pump) ≡ 48
at_first = refl

with_the_size : turns_left pump (Here 0 ∷ Is 0 (Text 2) ∷ []) (givers_of pump) ≡ 44
with_the_size = refl

slot_twice : turns_left pump base (givers_of pump) ≢ 58
slot_twice e = cc
