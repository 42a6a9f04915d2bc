use Rattle.std.proofs.Common.{ℕ, ◌*◌, ◌<◌, sym, subst, length}
use Rattle.vc_value.proofs.DigitLemmas.{below_a_million}
use Rattle.vc_value.proofs.decimal.shifted.Goals as goal

pub returns-clause-small : goal.returns-clause-small
returns-clause-small c =
    let P : ℕ → Type 0 = λ power. c.number_of.result * power < 1000000 in
    subst P (sym c.pow.ensures)
    (below_a_million c.number_of.result (length c.args.digits.now) c.number_of.ensures.small c.requires.fits)
