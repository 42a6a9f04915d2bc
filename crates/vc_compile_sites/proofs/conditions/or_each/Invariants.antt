use Rattle.std.proofs.Common.{◌≡◌, drop, map}
use Rattle.vc_compile_plan.specs.Conditions.{or_each, text_in_piece}
use Rattle.vc_compile_plan.specs.Trees.{condition_of}
use Rattle.vc_compile_sites.proofs.conditions.or_each.Given as goal

abbrev pub invariant-loop-piece : goal.invariant-loop-piece
invariant-loop-piece l =
    or_each (condition_of l.whole) l.set (map text_in_piece (drop l.piece-index l.pieces))
    ≡ or_each (condition_of l.fn.before) l.set (map text_in_piece l.pieces)
