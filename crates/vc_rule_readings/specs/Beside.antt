-- What a stage says beside what statements wrote.
use Rattle.vc_plan.specs.Entries.{Entries, value_read}
use Rattle.vc_plan.specs.Seen.{Seen}

-- what stands for a variable comes first, then its value in the stage
abbrev pub seen_beside : Seen → Entries → Seen
seen_beside seen entries = record { here = seen.here; out = seen.out; value = value_read seen entries }
