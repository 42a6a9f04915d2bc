use Rattle.std.proofs.Common.{◌≡◌, ◌++◌, drop, map, flat_map}
use Rattle.vc_compile_plan.specs.Cuts.{cell_numbers}
use Rattle.vc_compile_cuts.specs.Marks.{marks_on, marks_seen}
use Rattle.vc_compile_cuts.specs.Rows.{cells_in}
use Rattle.vc_compile_cuts.proofs.tables.put_cells.Given as goal

abbrev pub invariant-loop-row : goal.invariant-loop-row
invariant-loop-row l =
    marks_seen l.out ++ marks_on l.characteristic (flat_map cell_numbers (cells_in (drop l.row-index l.rows) l.column))
    ≡ marks_seen l.fn.out ++ marks_on l.characteristic (flat_map cell_numbers (cells_in l.rows l.column))
