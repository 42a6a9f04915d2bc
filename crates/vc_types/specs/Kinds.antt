-- The kinds of faults of the typing, by their numbers.
use Rattle.std.specs.Prelude.{ℕ}
use Rattle.vc_types.specs.declared.fault.TypeFaultKind.{TypeFaultKind}
use Rattle.vc_types.specs.declared.fault.TypeFaultKind.TheVariants as kinds

-- counted from 1
abbrev pub number_of : TypeFaultKind → ℕ
number_of kinds.UnknownName = 1
number_of kinds.DoubleName = 2
number_of kinds.WrongKind = 3
number_of kinds.NotMonotone = 4
number_of kinds.SelfInConstraint = 5
number_of kinds.NoParent = 6
number_of kinds.SelfInLine = 7
number_of kinds.VariableOutside = 8
number_of kinds.NoKey = 9
number_of kinds.NotATerm = 10
number_of kinds.SumPlace = 11
number_of kinds.RangeTooWide = 12
number_of kinds.PartOfPlace = 13
number_of kinds.TooManyObjects = 14
