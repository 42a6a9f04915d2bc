use Rattle.std.proofs.Common.{◌≡◌, ◌++◌, drop, map, not}
use Rattle.std.specs.List.{filter}
use Rattle.vc_types.specs.Settings.{is_multiple}
use Rattle.vc_compile_plan.specs.Variables.{var_at}
use Rattle.vc_compile_slots.proofs.variables.push_vars.Given as goal

abbrev pub invariant-loop-member : goal.invariant-loop-member
invariant-loop-member l =
    l.vars ++ map (var_at l.model l.slot) (filter (λ c. not (is_multiple l.model c)) (drop l.member-index l.members))
    ≡ l.initial.vars ++ map (var_at l.model l.slot) (filter (λ c. not (is_multiple l.model c)) l.members)
