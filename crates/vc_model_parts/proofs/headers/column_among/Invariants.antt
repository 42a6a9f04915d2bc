use Rattle.std.proofs.Common.{◌≡◌, ◌==◌, ◌+◌, drop}
use Rattle.std.specs.List.{position_or_len}
use Rattle.vc_model_parts.proofs.headers.column_among.Given as goal

abbrev pub invariant-loop-place : goal.invariant-loop-place
invariant-loop-place l =
    l.place + position_or_len (λ c. c.characteristic == l.characteristic) (drop l.place l.columns)
    ≡ position_or_len (λ c. c.characteristic == l.characteristic) l.columns
