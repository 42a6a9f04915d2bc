-- The numbers of the kinds of fault.
use Rattle.std.specs.Prelude.{ℕ}
use Rattle.vc_syntax_tokens.specs.declared.fault.SyntaxKind.{SyntaxKind}
use Rattle.vc_syntax_tokens.specs.declared.fault.SyntaxKind.TheVariants as faults

abbrev pub number_of : SyntaxKind → ℕ
number_of faults.BadByte = 1
number_of faults.OpenText = 2
number_of faults.TextTooLong = 3
number_of faults.NumberTooWide = 4
number_of faults.NameTooLong = 5
number_of faults.UnknownWord = 6
number_of faults.NotADependency = 7
number_of faults.TooDeep = 8
number_of faults.TooLong = 9
