-- The faults of compiling, by their numbers.
use Rattle.std.specs.Prelude.{ℕ, Option, None, Some}
use Rattle.vc_compile_plan.specs.declared.fault.CompileFault.{CompileFault}
use Rattle.vc_compile_plan.specs.declared.fault.CompileFault.TheVariants as faults

-- counted from 1; want of memory has none
abbrev pub number_of : CompileFault → Option ℕ
number_of faults.TooDeep = Some 1
number_of faults.TooManySlots = Some 2
number_of faults.TooManyRules = Some 3
number_of faults.TooManyAtoms = Some 4
number_of faults.TooManyCells = Some 5
number_of (faults.Typing kind line) = Some 6
number_of faults.OutOfMemory = None
