-- Marks as they are kept.
use Rattle.std.specs.Prelude.{ℕ, List, map}
use Rattle.vc_value.specs.declared.decimal.Dec.{Dec}
use Rattle.vc_model_parts.specs.declared.parts.Values.{Values}
use Rattle.vc_model_parts.specs.declared.parts.Values.TheVariants as values
use Rattle.vc_compile_plan.specs.Cuts.{Mark}
use Rattle.vc_compile_cuts.specs.declared.marks.Mark.{Mark as Kept}

abbrev pub mark_seen : Kept → Mark
mark_seen kept = record { characteristic = kept.characteristic; number = kept.number }

abbrev pub marks_seen : List Kept → List Mark
marks_seen marks = map mark_seen marks

-- the numbers, as cuts of a characteristic
abbrev pub marks_on : ℕ → List Dec → List Mark
marks_on c numbers = map (λ number. record { characteristic = c; number = number }) numbers

-- how many decimals numbers among these have
abbrev pub decimals_in_values : Values → ℕ
decimals_in_values (values.Texts length multiple listed) = 6
decimals_in_values (values.Numbers decimals unit listed) = decimals
