-- Procedures before the slot's are of lower slots, and those behind them of higher ones.
use Rattle.std.proofs.Common.{ℕ, Bool, ◌-◌, length, ap, sym, ◌∙◌, arith}
use Rattle.std.specs.Prelude.{slice_get}
use Rattle.vc_plan.specs.Writes.{all_run, is_at}
use Rattle.vc_proc.proofs.RunLemmas.{filter_from, filter_past, other_slot, runs_next}
use Rattle.vc_proc.proofs.stages.run_slot.Goals as goal

pub loop-proc-init : goal.loop-proc-init
loop-proc-init g c =
    let plan = c.args.plan.now in
    let seen = g.R.View.seen c.args.stage.now in
    let holds = g.R.Reading.holdings c.args.stage.now in
    let test : ℕ → Bool = λ p. is_at plan c.args.summing c.args.slot (slice_get plan.procedures p) in
    let same = ap length c.as_slice-procedures.ensures in
    let bound = c.begin_of-begin.ensures.bound in (
      ap (λ ps. all_run plan seen holds ps c.args.overlay.now)
          (filter_from test c.begin_of-begin.result (length plan.procedures) (omega (arith, same, bound))
          (λ k low. other_slot plan c.args.summing c.args.slot (slice_get plan.procedures k) (λ procedure e is.
          let lower = c.begin_of-begin.ensures.before k procedure
          (ap (λ list. slice_get list k) c.as_slice-procedures.ensures ∙ e) low in omega (arith, lower, is)))),
      c.requires.lie,
    )

pub loop-proc-preserved : goal.loop-proc-preserved
loop-proc-preserved g c =
    let plan = c.args.plan.now in
    let seen = g.R.View.seen c.args.stage.now in
    let holds = g.R.Reading.holdings c.args.stage.now in
    let test : ℕ → Bool = λ p. is_at plan c.args.summing c.args.slot (slice_get plan.procedures p) in
    let same = ap length c.as_slice-procedures.ensures in
    let bound = c.end_of-end.ensures.bound in (
      runs_next plan seen holds test c.loop-proc.proc (length plan.procedures) c.loop-proc.overlay
          c.run_if_at.new.overlay (omega (arith, same, bound, c.loop-proc-test.true)) c.run_if_at.ensures.is
          ∙ c.loop-proc.invariant.0,
      c.run_if_at.ensures.lie,
    )

pub returns-clause-is : goal.returns-clause-is
returns-clause-is g c =
    let plan = c.args.plan.now in
    let seen = g.R.View.seen c.args.stage.now in
    let holds = g.R.Reading.holdings c.args.stage.now in
    let test : ℕ → Bool = λ p. is_at plan c.args.summing c.args.slot (slice_get plan.procedures p) in
    let proc = c.loop-proc.proc in
    sym (ap (λ ps. all_run plan seen holds ps c.loop-proc.overlay)
    (filter_past test (length plan.procedures - proc) proc
    (λ k past. other_slot plan c.args.summing c.args.slot (slice_get plan.procedures k) (λ procedure e is.
    let higher =
    c.end_of-end.ensures.after k procedure (ap (λ list. slice_get list k) c.as_slice-procedures.ensures ∙ e)
    (omega (arith, past, c.loop-proc-test.false)) in omega (arith, higher, is)))))
    ∙ c.loop-proc.invariant.0
