-- The lists so far, with the rule put at the places from here on, are those wanted.
use Rattle.std.proofs.Common.{◌≡◌, length}
use Rattle.vc_net_readers.specs.Filing.{filed_at_all}
use Rattle.vc_net_readers.proofs.filing.file_at_all.Given as goal

abbrev pub invariant-loop-rest : goal.invariant-loop-rest
invariant-loop-rest l = filed_at_all l.lists.items l.rest l.rule ≡ filed_at_all l.fn.lists.items l.places l.rule

abbrev pub decreases-loop-rest : goal.decreases-loop-rest
decreases-loop-rest l = length l.rest
