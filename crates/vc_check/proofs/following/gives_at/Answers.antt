-- What a clear set says lies in grains, and what the board says is what the set does.
use Rattle.vc_check_board.specs.Boards.{seen_by}
use Rattle.vc_check.proofs.FollowingLemmas.{clear_lies}
use Rattle.vc_check.proofs.following.gives_at.Goals as goal

pub gives-requires-clause-values : goal.gives-requires-clause-values
gives-requires-clause-values c =
    clear_lies c.args.plan.now c.args.set.now (seen_by c.args.board.now) c.requires.shown c.requires.clear
