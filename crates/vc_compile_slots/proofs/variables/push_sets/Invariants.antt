use Rattle.std.proofs.Common.{◌≡◌, ◌++◌, drop, map}
use Rattle.std.specs.List.{filter}
use Rattle.vc_types.specs.Settings.{is_multiple}
use Rattle.vc_compile_plan.specs.Variables.{set_at}
use Rattle.vc_compile_slots.proofs.variables.push_sets.Given as goal

abbrev pub invariant-loop-member : goal.invariant-loop-member
invariant-loop-member l =
    l.sets ++ map (set_at l.slot) (filter (is_multiple l.model) (drop l.member-index l.members))
    ≡ l.initial.sets ++ map (set_at l.slot) (filter (is_multiple l.model) l.members)
