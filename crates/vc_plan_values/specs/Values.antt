-- What a value of a term is, as a value of a plan: a computed number may have any size there.
use Rattle.std.specs.Prelude.{ℤ, Option, Some, option_map}
use Rattle.vc_value.specs.declared.value.Value.{Value}
use Rattle.vc_value.specs.declared.value.Value.TheVariants.{Text, Num}
use Rattle.vc_value.specs.Millionths.{stored}
use Rattle.vc_value_wide.specs.declared.numbers.Wide.{Wide}
use Rattle.vc_plan_values.specs.declared.values.TermValue.{TermValue}
use Rattle.vc_plan_values.specs.declared.values.TermValue.TheVariants as of_term

abbrev pub meant : TermValue → Value
meant (of_term.Text t) = Text t
meant (of_term.Number wide) = Num (record { millionths = wide.millionths })

abbrev pub meant_if : Option TermValue → Option Value
meant_if a = option_map meant a

-- the count of millionths of a computed number, where there is one
abbrev pub count_if : Option Wide → Option ℤ
count_if number = option_map (λ wide. wide.millionths) number

-- the value, where it is small enough to be stored
abbrev pub stored_value : Value → Option Value
stored_value (Text t) = Some (Text t)
stored_value (Num a) = option_map Num (stored a.millionths)
