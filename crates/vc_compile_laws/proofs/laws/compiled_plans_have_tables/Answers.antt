use Rattle.vc_compile_laws.proofs.TableLaws.{has_tables}
use Rattle.vc_compile_laws.proofs.laws.compiled_plans_have_tables.Goals as goal

pub returns : goal.returns
returns c = has_tables
