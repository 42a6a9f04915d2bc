-- What the texts from here on say is what all say.
use Rattle.std.proofs.Common.{◌≡◌, length}
use Rattle.std.specs.List.{list_any}
use Rattle.vc_rule_readings.proofs.sets.holds_some.Given as goal

abbrev pub invariant-loop-rest : goal.invariant-loop-rest
invariant-loop-rest g l =
    let holds = g.R.Reading.holdings l.reading l.set in
    list_any holds l.rest ≡ list_any holds l.texts

abbrev pub decreases-loop-rest : goal.decreases-loop-rest
decreases-loop-rest g l = length l.rest
