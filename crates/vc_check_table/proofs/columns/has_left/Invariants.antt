-- What the grains to come say is what all say: those before don't hold the value.
use Rattle.std.proofs.Common.{◌≡◌, ℕ, Bool, ◌-◌, ◌≤◌, ◌&&◌}
use Rattle.std.specs.List.{list_any, range_with_len}
use Rattle.vc_plan.specs.Domains.{is_grain_with}
use Rattle.vc_plan.specs.Pieces.{lies_in}
use Rattle.vc_plan.specs.Seen.{is_left}
use Rattle.vc_plan.specs.TableRows.{has_left}
use Rattle.vc_check_table.proofs.columns.has_left.Given as goal

abbrev pub invariant-loop-grain : goal.invariant-loop-grain
invariant-loop-grain g l =
    let seen = g.V.View.seen l.view in
    let test : ℕ → Bool = λ n. is_left l.plan seen l.var n && is_grain_with l.plan l.var (lies_in l.value) n in
    (list_any test (range_with_len l.grain (l.count - l.grain)) ≡ has_left l.plan seen l.var l.value)
    × (l.grain ≤ l.count)

abbrev pub decreases-loop-grain : goal.decreases-loop-grain
decreases-loop-grain g l = l.count - l.grain
