use Rattle.std.proofs.Common.{◌≡◌, ◌++◌, drop}
use Rattle.vc_compile_plan.specs.Variables.{by_slot, vars_at}
use Rattle.vc_compile_slots.proofs.variables.vars_of.Given as goal

abbrev pub invariant-loop-number : goal.invariant-loop-number
invariant-loop-number l = l.vars ++ by_slot (vars_at l.model) l.number (drop l.number l.slots)
    ≡ by_slot (vars_at l.model) 0 l.slots
