use Rattle.vc_proc.proofs.LyingLemmas.{nothing_lies}
use Rattle.vc_proc.proofs.laws.nothing_lies.Goals as goal

pub returns : goal.returns
returns c = nothing_lies
