-- The name is of one of the plan's characteristics.
use Rattle.std.proofs.Common.{IsUtf8, subst, sym, ap, ◌∙◌}
use Rattle.std.specs.Prelude.{slice_get}
use Rattle.vc_show_rows.specs.Texts.{name_in}
use Rattle.vc_store.proofs.WordLaws as laws
use Rattle.vc_store.proofs.words.name_in.Goals as goal

pub text-requires : goal.text-requires
text-requires c =
    subst IsUtf8 (ap (λ cs. name_in (slice_get cs c.args.characteristic)) (sym c.as_slice.ensures)
    ∙ ap name_in c.in-Some.ensures.some ∙ sym c.bytes.ensures)
    (laws.characteristic_utf8 c.args.plan.now c.args.characteristic c.requires)
