use Rattle.vc_model_lines.proofs.ClosingLemmas.{too_short}
use Rattle.vc_model_lines.proofs.classified.has_room.Goals as goal

pub returns-clause-short : goal.returns-clause-short
returns-clause-short c = λ beyond. too_short c.args.raw.now beyond
