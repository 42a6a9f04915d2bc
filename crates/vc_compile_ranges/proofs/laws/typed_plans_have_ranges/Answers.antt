use Rattle.vc_compile_ranges.proofs.RangeLaws.{has_ranges}
use Rattle.vc_compile_ranges.proofs.laws.typed_plans_have_ranges.Goals as goal

pub returns : goal.returns
returns c = has_ranges
