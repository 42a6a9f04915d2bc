-- What was put so far, with the lists from here on, is all.
use Rattle.std.proofs.Common.{◌≡◌, ◌++◌, length}
use Rattle.vc_net_readers.specs.Lists.{all_numbers, spans_from}
use Rattle.vc_net_readers.proofs.lists.Lists.new.Given as goal

abbrev pub invariant-loop-rest : goal.invariant-loop-rest
invariant-loop-rest l =
    (l.spans ++ spans_from (length l.numbers) l.rest ≡ spans_from 0 l.lists)
    × (l.numbers ++ all_numbers l.rest ≡ all_numbers l.lists)

abbrev pub decreases-loop-rest : goal.decreases-loop-rest
decreases-loop-rest l = length l.rest
