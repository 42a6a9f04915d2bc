-- The text is one of the plan's.
use Rattle.std.proofs.Common.{IsUtf8, subst, sym, ap, ◌∙◌}
use Rattle.std.specs.Prelude.{slice_get}
use Rattle.vc_store.specs.Saving.{text_in}
use Rattle.vc_store.proofs.WordLaws as laws
use Rattle.vc_store.proofs.words.listed_text.Goals as goal

pub text-requires : goal.text-requires
text-requires c =
    subst IsUtf8 (ap (λ texts. text_in (slice_get texts c.args.listed)) (sym c.as_slice.ensures)
    ∙ ap text_in c.in-Some.ensures.some ∙ sym c.bytes.ensures)
    (laws.text_utf8 c.args.plan.now c.args.listed c.requires)
