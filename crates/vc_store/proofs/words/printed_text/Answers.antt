-- The text is a number's.
use Rattle.std.proofs.Common.{IsUtf8, subst, sym, ◌∙◌}
use Rattle.vc_store.proofs.WordLaws as laws
use Rattle.vc_store.proofs.words.printed_text.Goals as goal

pub text-requires : goal.text-requires
text-requires c =
    subst IsUtf8 (sym (c.bytes.ensures ∙ c.requires)) (laws.number_utf8 c.args.number)
