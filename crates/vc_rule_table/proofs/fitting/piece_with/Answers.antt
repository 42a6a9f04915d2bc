-- A number lies in no text, and a text in no stretch.
use Rattle.std.proofs.Common.{◌∙◌, Some, ap, map, sym}
use Rattle.vc_plan.specs.declared.conditions.Piece.TheVariants.{OneText, Stretch}
use Rattle.vc_plan.specs.Domains.{grains_in}
use Rattle.vc_rule_table.specs.Fitting.{holds_both}
use Rattle.vc_rule_table.proofs.FittingLemmas.{no_number_both, no_text_both}
use Rattle.vc_rule_table.proofs.fitting.piece_with.Goals as goal

pub returns-in-Num : goal.returns-in-Num
returns-in-Num c a =
    let texts = c.in-Texts.texts in
    no_number_both c.in-Num.field-0 texts a
    ∙ sym (ap (λ d. holds_both (grains_in (Some d)) c.args.known a) c.in-Texts.is
    ∙ ap (λ b. holds_both (map OneText texts) b a) c.in-Num.is)

pub returns-in-Text-known : goal.returns-in-Text-known
returns-in-Text-known c a =
    let grains = c.in-Nums.grains in
    no_text_both c.in-Text-known.field-0 grains a
    ∙ sym (ap (λ d. holds_both (grains_in (Some d)) c.args.known a) c.in-Nums.is
    ∙ ap (λ b. holds_both (map Stretch grains) b a) c.in-Text-known.is)
