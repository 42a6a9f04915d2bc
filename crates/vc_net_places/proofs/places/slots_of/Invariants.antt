use Rattle.std.specs.Prelude.{◌≡◌, map}
use Rattle.vc_plan.specs.Domains.{numbers_below}
use Rattle.vc_net_places.specs.declared.places.Thing.TheVariants.{Slot}
use Rattle.vc_net_places.proofs.places.slots_of.Given as goal

abbrev pub invariant-loop-slot : goal.invariant-loop-slot
invariant-loop-slot l = l.things ≡ map Slot (numbers_below l.slot)
