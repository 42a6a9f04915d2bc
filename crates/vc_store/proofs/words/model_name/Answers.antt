-- The name is the plan's.
use Rattle.std.proofs.Common.{IsUtf8, subst, sym}
use Rattle.vc_store.proofs.WordLaws as laws
use Rattle.vc_store.proofs.words.model_name.Goals as goal

pub text-requires : goal.text-requires
text-requires c =
    subst IsUtf8 (sym c.bytes.ensures) (laws.upper_name_utf8 c.args.plan.now.name c.requires.name)
