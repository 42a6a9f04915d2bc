use Rattle.vc_compile_laws.proofs.ValidLaws.{has_columns}
use Rattle.vc_compile_laws.proofs.laws.compiled_plans_have_columns.Goals as goal

pub returns : goal.returns
returns c = has_columns
