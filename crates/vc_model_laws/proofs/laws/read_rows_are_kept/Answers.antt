use Rattle.vc_model_laws.proofs.SpelledLaws.{read_rows_are_kept}
use Rattle.vc_model_laws.proofs.laws.read_rows_are_kept.Goals as goal

pub returns : goal.returns
returns c = read_rows_are_kept
