use Rattle.vc_compile_meant.proofs.ColumnLaws.{has_columns}
use Rattle.vc_compile_meant.proofs.laws.typed_plans_have_columns.Goals as goal

pub returns : goal.returns
returns c = has_columns
