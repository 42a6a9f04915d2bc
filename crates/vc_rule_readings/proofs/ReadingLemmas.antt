-- A term reads in full what it reads in a net.
use Rattle.std.proofs.Common.{◌≡◌, ℕ, Bool, refl, ap, ◌∙◌}
use Rattle.std.specs.Prelude.{Option, None, Some, option_map, slice_get}
use Rattle.vc_plan.specs.declared.plans.Plan.{Plan}
use Rattle.vc_plan.specs.declared.terms.Term.{Term}
use Rattle.vc_plan.specs.declared.terms.Term.TheVariants.{Literal, Read, PartSum, PartCount, Applied', Joined'}
use Rattle.vc_plan.specs.Numbers.{applied, joined}
use Rattle.vc_plan.specs.Readings.{full_reading, net_reading}
use Rattle.vc_plan.specs.Seen.{Seen}
use Rattle.vc_plan.specs.Truth.{number, term_value, value_in_term}
use Rattle.vc_plan.specs.Truth.{value_of_number}
use Rattle.vc_rule_readings.specs.Laws.{FullValues}

-- a term's number and its value in full are those of a net
number_is : (plan : Plan) (seen : Seen) (holds : ℕ → ℕ → Bool) (term : Term)
    → number (full_reading plan seen holds) term ≡ number (net_reading seen) term
number_is plan seen holds (Literal a) = refl
number_is plan seen holds (Read v) = refl
number_is plan seen holds (PartSum slot characteristic) = refl
number_is plan seen holds (PartCount slot) = refl
number_is plan seen holds (Applied' function p a) = ap (option_map (applied function)) (number_is plan seen holds a)
number_is plan seen holds (Joined' operator p a q b) =
    ap (λ o. joined operator o (number (full_reading plan seen holds) b)) (number_is plan seen holds a)
    ∙ ap (joined operator (number (net_reading seen) a)) (number_is plan seen holds b)

value_is : (plan : Plan) (seen : Seen) (holds : ℕ → ℕ → Bool) (term : Term)
    → term_value (full_reading plan seen holds) term ≡ term_value (net_reading seen) term
value_is plan seen holds (Literal a) = refl
value_is plan seen holds (Read v) = refl
value_is plan seen holds (PartSum slot characteristic) = refl
value_is plan seen holds (PartCount slot) = refl
value_is plan seen holds (Applied' function p a) =
    ap value_of_number (number_is plan seen holds (Applied' function p a))
value_is plan seen holds (Joined' operator p a q b) =
    ap value_of_number (number_is plan seen holds (Joined' operator p a q b))

pub full_values : FullValues
full_values plan seen holds n = by (slice_get plan.terms n)
  where
    by : (o : Option Term) → value_in_term (full_reading plan seen holds) o ≡ value_in_term (net_reading seen) o
    by None = refl
    by (Some term) = value_is plan seen holds term
