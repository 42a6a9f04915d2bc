use Rattle.std.proofs.Common.{◌∙◌, ap}
use Rattle.std.specs.List.{list_all}
use Rattle.std.specs.Char.{is_ascii_digit}
use Rattle.vc_value.proofs.DigitLemmas.{significant_all}
use Rattle.vc_value.proofs.decimal.millionths_of.Goals as goal

pub number_of-requires-clause-digits : goal.number_of-requires-clause-digits
number_of-requires-clause-digits c = ap (list_all is_ascii_digit) c.significant.ensures
    ∙ significant_all is_ascii_digit c.args.whole.now c.requires.whole
