-- What the grains to come say is what all say: those before are kept or out.
use Rattle.std.proofs.Common.{◌≡◌, ◌-◌, ◌≤◌}
use Rattle.std.specs.List.{list_all, range_with_len}
use Rattle.vc_plan.specs.Domains.{count_of, numbers_below}
use Rattle.vc_check_table.specs.Columns.{kept_or_out}
use Rattle.vc_check_table.proofs.table.dropped_are_out.Given as goal

abbrev pub invariant-loop-grain : goal.invariant-loop-grain
invariant-loop-grain g l =
    let seen = g.V.View.seen l.view in
    (list_all (kept_or_out l.plan seen l.var l.columns l.rows) (range_with_len l.grain (l.count - l.grain))
    ≡ list_all (kept_or_out l.plan seen l.var l.columns l.rows) (numbers_below (count_of l.plan l.var)))
    × (l.grain ≤ l.count)

abbrev pub decreases-loop-grain : goal.decreases-loop-grain
decreases-loop-grain g l = l.count - l.grain
