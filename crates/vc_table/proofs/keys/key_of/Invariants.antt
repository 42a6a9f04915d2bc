use Rattle.std.proofs.Common.{◌≡◌, ◌++◌, drop}
use Rattle.vc_table.specs.Tables.{key_of}
use Rattle.vc_table.proofs.keys.key_of.Given as goal

abbrev pub invariant-loop-index : goal.invariant-loop-index
invariant-loop-index l = l.key.items ++ key_of (drop l.index l.columns) (drop l.index l.cells)
    ≡ key_of l.columns l.cells
