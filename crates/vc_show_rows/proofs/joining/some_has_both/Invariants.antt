-- Whether one of the entries to come has both is whether one of all does.
use Rattle.std.proofs.Common.{◌≡◌, drop}
use Rattle.std.specs.List.{list_any}
use Rattle.vc_show_rows.specs.Joining.{has_both}
use Rattle.vc_show_rows.proofs.joining.some_has_both.Given as goal

abbrev pub invariant-loop-entry : goal.invariant-loop-entry
invariant-loop-entry l =
    list_any (has_both l.piece l.next) (drop l.entry-index l.entries) ≡ list_any (has_both l.piece l.next) l.entries
