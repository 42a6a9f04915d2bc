-- The atom before those that are on the board comes before them.
use Rattle.std.proofs.Common.{◌≡◌, ◌-◌, ◌<◌, ◌≤◌, length, suc, arith}
use Rattle.vc_check_board.specs.Boards.{seen_by}
use Rattle.vc_check_board.proofs.BoardLemmas.{shown_next}
use Rattle.vc_check_board.proofs.board.Board.show.Goals as goal

pub loop-left-preserved : goal.loop-left-preserved
loop-left-preserved c =
    let set = c.args.set.now in
    let n = c.loop-left.left in
    let more : n ≡ suc (n - 1) = omega (arith, c.loop-left-test.true) in
    let within : n ≤ length set = c.loop-left.invariant.1 in
    let below : n - 1 < length set = omega (arith, more, within) in (
      shown_next set (n - 1) n _ (seen_by c.loop-left.self) (seen_by c.put.new.self) more below
          c.loop-left.invariant.0 c.in_ok-put.ensures,
      omega (arith, within),
    )
