-- The lists so far, with the variable put where the rules from here on touch, are those wanted.
use Rattle.std.proofs.Common.{◌≡◌, length}
use Rattle.vc_net_readers.specs.Filing.{filed_at_each}
use Rattle.vc_net_readers.specs.Touched.{vars_by}
use Rattle.vc_net_readers.proofs.readers.file_at_touched.Given as goal

abbrev pub invariant-loop-rest : goal.invariant-loop-rest
invariant-loop-rest l =
    filed_at_each (vars_by l.plan) l.lists.items l.rest l.var
    ≡ filed_at_each (vars_by l.plan) l.fn.lists.items l.rules l.var

abbrev pub decreases-loop-rest : goal.decreases-loop-rest
decreases-loop-rest l = length l.rest
