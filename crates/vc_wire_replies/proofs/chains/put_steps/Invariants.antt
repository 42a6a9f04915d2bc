-- What is put so far and what is to come are all of it.
use Rattle.std.proofs.Common.{◌≡◌, ◌+◌, ◌++◌, drop}
use Rattle.vc_wire_replies.specs.Chains.{steps_from}
use Rattle.vc_wire_replies.proofs.chains.put_steps.Given as goal

abbrev pub invariant-loop-place : goal.invariant-loop-place
invariant-loop-place l = l.out ++ steps_from l.plan (1 + l.place) (drop l.place l.steps)
    ≡ l.initial.out ++ steps_from l.plan 1 l.steps
