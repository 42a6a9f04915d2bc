-- What is put so far, with the grains to come, is all of it.
use Rattle.std.proofs.Common.{◌≡◌, ◌-◌, ◌≤◌, map}
use Rattle.std.specs.List.{range_with_len}
use Rattle.vc_plan.specs.declared.atoms.Atom.TheVariants.{Out}
use Rattle.vc_net_blame.specs.Searching.{all_out, pushed_all}
use Rattle.vc_net_blame.proofs.colliding.put_grains.Given as goal

abbrev pub invariant-loop-grain : goal.invariant-loop-grain
invariant-loop-grain l =
    (pushed_all l.premises (map (Out l.var) (range_with_len l.grain (l.count - l.grain)))
    ≡ pushed_all l.fn.premises (all_out l.plan l.var)) × (l.grain ≤ l.count)

abbrev pub decreases-loop-grain : goal.decreases-loop-grain
decreases-loop-grain l = l.count - l.grain
