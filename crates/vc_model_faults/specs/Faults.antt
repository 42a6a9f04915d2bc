-- The numbers of the kinds of fault.
use Rattle.std.specs.Prelude.{ℕ}
use Rattle.vc_model_faults.specs.declared.fault.ModelFaultKind.{ModelFaultKind}
use Rattle.vc_model_faults.specs.declared.fault.ModelFaultKind.TheVariants as kinds

abbrev pub number_of : ModelFaultKind → ℕ
number_of kinds.NotText = 1
number_of kinds.LineTooLong = 2
number_of kinds.NotALine = 3
number_of kinds.Misplaced = 4
number_of kinds.BadName = 5
number_of kinds.Twice = 6
number_of kinds.Unknown = 7
number_of kinds.BadValue = 8
number_of kinds.Syntax = 9
number_of kinds.WrongDependency = 10
number_of kinds.Action = 11
number_of kinds.NoValues = 12
number_of kinds.TooMany = 13
number_of kinds.NoRoot = 14
number_of kinds.MultipleRestrictable = 15
