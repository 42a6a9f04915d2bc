-- The notes so far are cleared, the others are to be.
use Rattle.std.proofs.Common.{◌≡◌}
use Rattle.vc_rule_table.specs.Noting.{each_changed, no_misfit}
use Rattle.vc_rule_table.proofs.ChangingLemmas.{changed_from}
use Rattle.vc_rule_table.proofs.notes.clear_notes.Given as goal

abbrev pub invariant-loop-at : goal.invariant-loop-at
invariant-loop-at l =
    changed_from (λ row note. no_misfit l.columns) l.at l.rows l.notes
    ≡ each_changed (λ row note. no_misfit l.columns) l.rows l.fn.notes
