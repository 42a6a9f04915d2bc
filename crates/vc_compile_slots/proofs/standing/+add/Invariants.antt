use Rattle.std.proofs.Common.{◌≡◌, ◌++◌, ◌-◌, ◌≤◌, suc, length, drop}
use Rattle.std.specs.Prelude.{Some}
use Rattle.vc_compile_plan.specs.Slots.{for_lines, standings_from}
use Rattle.vc_compile_slots.proofs.standing.+add.Given as goal

abbrev pub decreases-add : goal.decreases-add
decreases-add l = l.levels

abbrev pub invariant-loop-item : goal.invariant-loop-item
invariant-loop-item l = record {
  few : length l.standings ≤ 40;
  all : l.standings ++ for_lines (standings_from l.model (l.levels - 1) (Some l.number) (suc l.standing.depth)) l.item
      (length l.standings) (drop l.item l.bill)
      ≡ l.fn.standings ++ standings_from l.model l.levels l.standing.parent l.standing.depth l.standing.item
      (length l.fn.standings) l.standing.object;
}
