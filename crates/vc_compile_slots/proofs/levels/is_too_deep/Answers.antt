use Rattle.std.proofs.Common.{rules}
use Rattle.vc_compile_slots.proofs.LevelLemmas.{too_deep}
use Rattle.vc_compile_slots.proofs.levels.is_too_deep.Goals as goal

pub returns : goal.returns
returns c = search (rules, too_deep)
