-- What was written, with the procedures from here on, is all.
use Rattle.std.proofs.Common.{◌≡◌, ℕ, Bool, ◌-◌, length}
use Rattle.std.specs.Prelude.{slice_get}
use Rattle.std.specs.List.{filter, range_with_len}
use Rattle.vc_plan.specs.Writes.{all_run, is_at, procedures_at}
use Rattle.vc_proc.specs.Overlays.{EntriesLie}
use Rattle.vc_proc.proofs.stages.run_slot.Given as goal

abbrev pub invariant-loop-proc : goal.invariant-loop-proc
invariant-loop-proc g l =
    let seen = g.R.View.seen l.stage in
    let holds = g.R.Reading.holdings l.stage in
    let test : ℕ → Bool = λ p. is_at l.plan l.summing l.slot (slice_get l.plan.procedures p) in
    (all_run l.plan seen holds (filter test (range_with_len l.proc (length l.plan.procedures - l.proc))) l.overlay
    ≡ all_run l.plan seen holds (procedures_at l.plan l.summing l.slot) l.fn.overlay)
    × EntriesLie l.plan l.overlay
