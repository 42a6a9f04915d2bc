-- What stands in an overlay, as entries.
use Rattle.std.specs.Prelude.{◌≡◌, ℕ, true, Option, None, Some}
use Rattle.vc_value.specs.declared.value.Value.{Value}
use Rattle.vc_plan.specs.declared.plans.Plan.{Plan}
use Rattle.vc_plan.specs.Domains.{grains_of}
use Rattle.vc_plan.specs.Entries.{Entries, value_of_mark, written_at}
use Rattle.vc_plan.specs.Entries as entries
use Rattle.vc_plan.specs.Pieces.{lies_in_some}
use Rattle.vc_proc.specs.declared.overlay.Written.{Written}

-- what was written, as an entry
abbrev pub written_from : Written → entries.Written
written_from told = record { mark = told.mark; hard = told.hard; procedure = told.proc; statement = told.statement }

-- the value that an entry holds, if there is one that holds any
abbrev pub held_by : Option entries.Written → Option Value
held_by None = None
held_by (Some written) = value_of_mark written.mark

-- each value that is held lies in a grain of its variable
abbrev pub EntriesLie : Plan → Entries → Type 0
EntriesLie plan list = (v : ℕ) (a : Value) → held_by (written_at list v) ≡ Some a
    → lies_in_some (grains_of plan v) a ≡ true
