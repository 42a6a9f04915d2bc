-- What was written, with the slots from here on, is all.
use Rattle.std.proofs.Common.{◌≡◌, ℕ, Bool, ◌-◌, ◌&&◌, false, length}
use Rattle.std.specs.Prelude.{◌==◌, flat_map}
use Rattle.std.specs.List.{filter, range_with_len}
use Rattle.vc_plan.specs.Writes.{all_run, depth_of, procedures_at}
use Rattle.vc_proc.specs.Overlays.{EntriesLie}
use Rattle.vc_proc.specs.Stages.{depth_written}
use Rattle.vc_proc.proofs.stages.run_depth.Given as goal

abbrev pub invariant-loop-slot : goal.invariant-loop-slot
invariant-loop-slot g l =
    let seen = g.R.View.seen l.stage in
    let holds = g.R.Reading.holdings l.stage in
    let test : ℕ → Bool = λ i. (depth_of l.plan i == l.depth) && seen.here i in
    (all_run l.plan seen holds
    (flat_map (procedures_at l.plan false) (filter test (range_with_len l.slot (length l.plan.slots - l.slot))))
    l.overlay
    ≡ depth_written l.plan holds l.depth seen l.fn.overlay)
    × EntriesLie l.plan l.overlay
