-- The counts at hand are those of the variable's rows, whether they were kept or are counted anew.
use Rattle.std.proofs.Common.{◌≡◌, ◌∙◌, Some, sym}
use Rattle.vc_net_bounds.specs.Keeping.{column_counts}
use Rattle.vc_net_bounds.proofs.KeepingLemmas.{counts_rows}
use Rattle.vc_net_bounds.proofs.tables.raise_with_rows.Goals as goal

pub returns-in_ok-place-in-Some-clause-is : goal.returns-in_ok-place-in-Some-clause-is
returns-in_ok-place-in-Some-clause-is c =
    let plan = c.args.plan.now in
    let some : Some c.counts_at.result.now ≡ Some (column_counts plan c.in-Some.column)
    = sym c.counts_at.ensures ∙ c.in_ok-place-in-Some.ensures.counts in
    let same : c.counts_at.result.now ≡ column_counts plan c.in-Some.column = cc in
    c.raise_with_counts.ensures.is
    ∙ counts_rows plan c.args.table c.args.columns.now c.args.var c.args.bound c.counts_at.result.now c.args.bounds.now
    (same ∙ sym c.in-Some.ensures.counts)

pub returns-in_ok-counts-in-None-clause-is : goal.returns-in_ok-counts-in-None-clause-is
returns-in_ok-counts-in-None-clause-is c =
    c.raise_with_counts-in-None.ensures.is
    ∙ counts_rows c.args.plan.now c.args.table c.args.columns.now c.args.var c.args.bound c.as_slice.result.now
    c.args.bounds.now
    (c.as_slice.ensures ∙ c.in_ok-counts-in-None.ensures)
