use Rattle.vc_compile_laws.proofs.StatementLaws.{has_few_statements}
use Rattle.vc_compile_laws.proofs.laws.compiled_plans_have_few_statements.Goals as goal

pub returns : goal.returns
returns c = has_few_statements
