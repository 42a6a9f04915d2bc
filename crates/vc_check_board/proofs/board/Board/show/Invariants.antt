-- The atoms from here on are on the board.
use Rattle.std.proofs.Common.{◌≡◌, ◌≤◌, drop, length}
use Rattle.vc_plan.specs.Seen.{seen_of}
use Rattle.vc_check_board.specs.Boards.{seen_by}
use Rattle.vc_check_board.proofs.board.Board.show.Given as goal

abbrev pub invariant-loop-left : goal.invariant-loop-left
invariant-loop-left l = (seen_by l.self ≡ seen_of (drop l.left l.set)) × (l.left ≤ length l.set)

abbrev pub decreases-loop-left : goal.decreases-loop-left
decreases-loop-left l = l.left
