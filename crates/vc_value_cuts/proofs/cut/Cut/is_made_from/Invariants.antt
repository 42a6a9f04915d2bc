use Rattle.std.proofs.Common.{◌≡◌, drop}
use Rattle.vc_value_cuts.specs.Made.{is_made}
use Rattle.vc_value_cuts.proofs.cut.Cut.is_made_from.Given as goal

abbrev pub invariant-loop-place : goal.invariant-loop-place
invariant-loop-place l = is_made l.self (drop l.place l.grains) ≡ is_made l.self l.grains
