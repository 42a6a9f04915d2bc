-- What was written, with the slots before this one, is all.
use Rattle.std.proofs.Common.{◌≡◌, ℕ, Bool, ◌&&◌, true, false, not}
use Rattle.std.specs.Prelude.{flat_map, reverse, slice_index_or}
use Rattle.std.specs.List.{filter}
use Rattle.vc_plan.specs.Domains.{numbers_below}
use Rattle.vc_plan.specs.Writes.{all_run, procedures_at}
use Rattle.vc_proc.specs.Overlays.{EntriesLie}
use Rattle.vc_proc.specs.Stages.{sums_written}
use Rattle.vc_proc.proofs.stages.run_sums.Given as goal

abbrev pub invariant-loop-slot : goal.invariant-loop-slot
invariant-loop-slot g l =
    let seen = g.R.View.seen l.stage in
    let holds = g.R.Reading.holdings l.stage in
    let test : ℕ → Bool = λ i. seen.here i && not (slice_index_or l.late i false) in
    (all_run l.plan seen holds (flat_map (procedures_at l.plan true) (reverse (filter test (numbers_below l.slot))))
    l.overlay
    ≡ sums_written l.plan holds l.late seen l.fn.overlay)
    × EntriesLie l.plan l.overlay

abbrev pub decreases-loop-slot : goal.decreases-loop-slot
decreases-loop-slot g l = l.slot
