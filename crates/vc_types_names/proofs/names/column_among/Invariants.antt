use Rattle.std.proofs.Common.{◌≡◌, ◌==◌, drop}
use Rattle.std.specs.List.{find}
use Rattle.vc_types_names.proofs.names.column_among.Given as goal

abbrev pub invariant-loop-column : goal.invariant-loop-column
invariant-loop-column l = find (λ m. m.characteristic == l.characteristic) (drop l.column-index l.columns)
    ≡ find (λ m. m.characteristic == l.characteristic) l.columns
