use Rattle.std.proofs.Common.{ℕ, ◌<◌, sym, subst}
use Rattle.vc_value.proofs.PowerLemmas.{ten_pow_pos}
use Rattle.vc_value_cuts.proofs.cut.unit_of.Goals as goal

pub returns-clause-some : goal.returns-clause-some
returns-clause-some c = let P : ℕ → Type 0 = λ n. 0 < n in subst P (sym c.pow.ensures) (ten_pow_pos c.from.result)
