use Rattle.std.proofs.Common.{◌≡◌, ◌++◌, drop}
use Rattle.std.specs.Prelude.{codes}
use Rattle.std.specs.List.{flat_map}
use Rattle.vc_show_rows.specs.Texts.{piece_text}
use Rattle.vc_show_rows.proofs.texts.put_pieces.Given as goal

-- what is put and what is to come are all of it
abbrev pub invariant-loop-piece : goal.invariant-loop-piece
invariant-loop-piece l =
    l.out ++ flat_map (λ piece. codes " " ++ piece_text l.plan piece) (drop l.piece-index l.pieces)
    ≡ l.initial.out ++ flat_map (λ piece. codes " " ++ piece_text l.plan piece) l.pieces
