-- What is put so far, with the piece at hand and those to come, is all of it.
use Rattle.std.proofs.Common.{◌≡◌, ◌++◌, drop}
use Rattle.vc_show_rows.specs.Joining.{joined, joined_from}
use Rattle.vc_show_rows.proofs.joining.joined.Given as goal

abbrev pub invariant-loop-next : goal.invariant-loop-next
invariant-loop-next l =
    l.out ++ joined_from l.unit l.entries l.current (drop l.next-index l.rest) ≡ joined l.unit l.entries l.pieces
