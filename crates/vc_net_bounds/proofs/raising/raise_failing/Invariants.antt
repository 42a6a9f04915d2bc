-- What is raised so far, with the grains from here on, is all.
use Rattle.std.proofs.Common.{◌≡◌, ◌-◌, length}
use Rattle.std.specs.List.{range_with_len}
use Rattle.vc_plan.specs.Domains.{count_of, numbers_below}
use Rattle.vc_net_places.specs.Cells.{all_places}
use Rattle.vc_net_bounds.specs.Raising.{where_failing, raised_grains}
use Rattle.vc_net_bounds.proofs.raising.raise_failing.Given as goal

abbrev pub invariant-loop-grain : goal.invariant-loop-grain
invariant-loop-grain g l =
    let need = where_failing l.plan l.var (g.T.Test.passes l.test) l.bound in
    (raised_grains l.plan l.var need (range_with_len l.grain (count_of l.plan l.var - l.grain)) l.bounds
    ≡ raised_grains l.plan l.var need (numbers_below (count_of l.plan l.var)) l.fn.bounds)
    × (length l.bounds ≡ length (all_places l.plan))
