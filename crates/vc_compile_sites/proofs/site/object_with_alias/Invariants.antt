use Rattle.std.proofs.Common.{◌≡◌, ◌+◌, drop}
use Rattle.std.specs.List.{position_or_len}
use Rattle.vc_compile_plan.specs.Sites.{has_alias}
use Rattle.vc_compile_sites.proofs.site.object_with_alias.Given as goal

abbrev pub invariant-loop-place : goal.invariant-loop-place
invariant-loop-place l =
    l.place + position_or_len (has_alias l.name) (drop l.place l.objects) ≡ position_or_len (has_alias l.name) l.objects
