use Rattle.std.proofs.Common.{◌≡◌, drop}
use Rattle.std.specs.List.{list_any}
use Rattle.vc_compile_layout.specs.Standing.{layout_seen}
use Rattle.vc_compile_typing.specs.Alike.{is_alike}
use Rattle.vc_compile_typing.proofs.skipping.has_alike.Given as goal

abbrev pub invariant-loop-other : goal.invariant-loop-other
invariant-loop-other l =
    list_any (is_alike (layout_seen l.layout) l.slot) (drop l.other-index l.slots)
    ≡ list_any (is_alike (layout_seen l.layout) l.slot) l.slots
