use Rattle.std.proofs.Common.{◌∙◌, sym}
use Rattle.vc_rule_table.proofs.FittingLemmas.{known_number, known_no_number}
use Rattle.vc_rule_table.proofs.fitting.number_piece.Goals as goal

pub returns-in-Some : goal.returns-in-Some
returns-in-Some c a =
    known_number c.args.number c.args.grains.now c.count-count.ensures.ascending a c.in-Some.grain c.grain.result
    (sym c.in-Some.is ∙ c.find.ensures) c.grain.ensures

pub returns-in-None : goal.returns-in-None
returns-in-None c a =
    known_no_number c.args.number c.args.grains.now c.count-count.ensures.ascending a
    (sym c.in-None.is ∙ c.find.ensures)
