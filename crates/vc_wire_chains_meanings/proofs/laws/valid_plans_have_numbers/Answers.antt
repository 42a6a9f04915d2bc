use Rattle.vc_wire_chains_meanings.proofs.NumberLemmas.{have_numbers}
use Rattle.vc_wire_chains_meanings.proofs.laws.valid_plans_have_numbers.Goals as goal

pub returns : goal.returns
returns c = have_numbers
