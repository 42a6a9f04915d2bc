use Rattle.std.specs.Prelude.{◌≡◌, ◌++◌, replicate}
use Rattle.vc_net_places.specs.declared.places.Thing.TheVariants.{Var}
use Rattle.vc_net_places.proofs.places.append_var.Given as goal

abbrev pub invariant-loop-grain : goal.invariant-loop-grain
invariant-loop-grain l = l.things ≡ l.initial.things ++ replicate l.grain (Var l.var)
