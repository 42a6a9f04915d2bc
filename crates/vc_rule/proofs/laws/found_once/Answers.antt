use Rattle.vc_rule.proofs.FoundLaws.{found_once, found_beside_root}
use Rattle.vc_rule.proofs.laws.found_once.Goals as goal

pub returns-clause-once : goal.returns-clause-once
returns-clause-once c = found_once

pub returns-clause-root : goal.returns-clause-root
returns-clause-root c = found_beside_root
