use Rattle.std.proofs.Common.{◌≡◌, ◌+◌, drop}
use Rattle.std.specs.List.{position_or_len}
use Rattle.vc_compile_plan.specs.Sites.{is_called}
use Rattle.vc_compile_tuples.proofs.parts.place_called.Given as goal

abbrev pub invariant-loop-place : goal.invariant-loop-place
invariant-loop-place l =
    l.place + position_or_len (is_called l.name) (drop l.place l.objects) ≡ position_or_len (is_called l.name) l.objects
