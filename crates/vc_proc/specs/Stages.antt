-- What the procedures of a stage write, by what the stage before says.
use Rattle.std.specs.Prelude.{◌≡◌, ℕ, ◌-◌, ◌^◌, ◌<◌, Bool, true, false, not, ◌&&◌, ◌==◌, nat_lt, if◌then◌else◌, List}
use Rattle.std.specs.Prelude.{length, reverse, flat_map, slice_index_or}
use Rattle.std.specs.List.{filter, list_all}
use Rattle.vc_plan.specs.declared.plans.Plan.{Plan}
use Rattle.vc_plan.specs.Domains.{numbers_below}
use Rattle.vc_plan.specs.Entries.{Entries}
use Rattle.vc_plan.specs.Seen.{Seen}
use Rattle.vc_plan.specs.Writes.{all_run, instances_at, last_stage, procedures_at}
use Rattle.vc_rule_readings.specs.Finding.{stands_by}
use Rattle.vc_rule_readings.specs.Summing.{SumsFit}
use Rattle.vc_rule_table.specs.Cells.{FewGrains}

-- procedures can run: what they read can be computed, numbers of 32 bits tell grains, procedures and statements, and
-- they come by their slots
pub record CanRun (plan : Plan) : Type 0 where
  pub sums : SumsFit plan
  pub grains : FewGrains plan
  pub few_procedures : length plan.procedures < 2 ^ 32
  pub by_slot : stands_by (λ procedure. procedure.slot) plan.procedures ≡ true
  pub few_statements : list_all (λ procedure. nat_lt (length procedure.statements) (2 ^ 32)) plan.procedures ≡ true

-- what the procedures of a depth's instances write
abbrev pub depth_written : Plan → (ℕ → ℕ → Bool) → ℕ → Seen → Entries → Entries
depth_written plan holds depth seen entries =
    all_run plan seen holds (flat_map (procedures_at plan false) (instances_at plan seen depth)) entries

-- the instances that are here, but for those with a flag
abbrev pub unflagged : Plan → List Bool → Seen → List ℕ
unflagged plan late seen =
    filter (λ i. seen.here i && not (slice_index_or late i false)) (numbers_below (length plan.slots))

-- what their summing procedures write, from the last slot to the first
abbrev pub sums_written : Plan → (ℕ → ℕ → Bool) → List Bool → Seen → Entries → Entries
sums_written plan holds late seen entries =
    all_run plan seen holds (flat_map (procedures_at plan true) (reverse (unflagged plan late seen))) entries

-- what is written before a stage of this number: the last takes the sums
abbrev pub stage_written : Plan → (ℕ → ℕ → Bool) → ℕ → List Bool → Seen → Entries → Entries
stage_written plan holds stage late seen entries =
    if stage == last_stage plan
    then sums_written plan holds late seen entries else depth_written plan holds (stage - 1) seen entries
