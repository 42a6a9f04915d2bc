use Rattle.vc_compile_meant.proofs.ScopeRecords.{has_scopes}
use Rattle.vc_compile_meant.proofs.laws.typed_plans_have_scopes.Goals as goal

pub returns : goal.returns
returns c = has_scopes
