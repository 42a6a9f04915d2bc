use Rattle.std.specs.Prelude.{◌≡◌, map}
use Rattle.vc_plan.specs.Domains.{numbers_below}
use Rattle.vc_net_places.specs.Places.{first_place, things_before}
use Rattle.vc_net_places.proofs.places.Places.new.Given as goal

abbrev pub invariant-loop-var : goal.invariant-loop-var
invariant-loop-var l =
    (l.firsts ≡ map (first_place l.plan) (numbers_below l.var)) × (l.things ≡ things_before l.plan l.var)
