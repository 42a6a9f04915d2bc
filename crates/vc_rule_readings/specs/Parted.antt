-- A full reading with sums over parts.
use Rattle.std.specs.Prelude.{ℕ, Bool}
use Rattle.vc_plan.specs.declared.conditions.Kleene.TheVariants.{False}
use Rattle.vc_plan.specs.declared.plans.Plan.{Plan}
use Rattle.vc_plan.specs.Parts.{count_of_parts, sum_of_parts}
use Rattle.vc_plan.specs.Readings.{Reading, full_reading}
use Rattle.vc_plan.specs.Seen.{Seen}

-- what procedures read, where what was written counts among the values that are seen
abbrev pub parted_reading : Plan → Seen → (ℕ → ℕ → Bool) → Reading
parted_reading plan seen holds =
    let reading = full_reading plan seen holds in record {
      value = reading.value;
      texts = reading.texts;
      part_sum = sum_of_parts plan seen reading;
      part_count = count_of_parts plan seen reading;
      unspecified = False;
    }
