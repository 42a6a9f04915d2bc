-- What the notes from here on say is what all say.
use Rattle.std.proofs.Common.{◌≡◌, length}
use Rattle.std.specs.List.{list_any}
use Rattle.vc_rule_table_saying.specs.Sharing.{fails_first}
use Rattle.vc_rule_table_saying.proofs.sharing.some_fails_first.Given as goal

abbrev pub invariant-loop-rest : goal.invariant-loop-rest
invariant-loop-rest l =
    list_any (fails_first l.columns l.var) l.rest ≡ list_any (fails_first l.columns l.var) l.notes

abbrev pub decreases-loop-rest : goal.decreases-loop-rest
decreases-loop-rest l = length l.rest
