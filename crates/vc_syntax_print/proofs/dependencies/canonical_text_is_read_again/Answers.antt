-- The law is proved over the definitions.
use Rattle.vc_syntax_print.proofs.TextsAgain.{spelled_again, spelled_alone}
use Rattle.vc_syntax_print.proofs.dependencies.canonical_text_is_read_again.Goals as goal

pub returns : goal.returns
returns c = record { spelled = spelled_again; alone = spelled_alone }
