-- Readings: what terms and conditions look at.
use Rattle.std.specs.Prelude.{ℕ, ℤ, Bool, List, [], Option, None}
use Rattle.std.specs.List.{filter}
use Rattle.vc_value.specs.declared.value.Value.{Value}
use Rattle.vc_plan.specs.declared.conditions.Kleene.{Kleene}
use Rattle.vc_plan.specs.declared.conditions.Kleene.TheVariants.{False, Unknown}
use Rattle.vc_plan.specs.declared.plans.Plan.{Plan}
use Rattle.vc_plan.specs.Domains.{texts_of}
use Rattle.vc_plan.specs.Seen.{Seen}

-- the value of each variable, the texts of each set, the part sums of a slot, in millionths, and the truth of SPECIFIED
-- where there is no value
pub record Reading : Type 0 where
  pub value : ℕ → Option Value
  pub texts : ℕ → List ℕ
  pub part_sum : ℕ → ℕ → Option ℤ
  pub part_count : ℕ → Option ℤ
  pub unspecified : Kleene

-- what a net reads: values alone, and what has none yet may still get one
abbrev pub net_reading : Seen → Reading
net_reading seen = record {
  value = seen.value;
  texts = λ set. [];
  part_sum = λ slot characteristic. None;
  part_count = λ slot. None;
  unspecified = Unknown;
}

-- what is read elsewhere: the user's sets too, and what has no value hasn't any
abbrev pub full_reading : Plan → Seen → (ℕ → ℕ → Bool) → Reading
full_reading plan seen holds = record {
  value = seen.value;
  texts = λ set. filter (holds set) (texts_of plan set);
  part_sum = λ slot characteristic. None;
  part_count = λ slot. None;
  unspecified = False;
}
