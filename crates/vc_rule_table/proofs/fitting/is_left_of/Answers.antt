-- A number lies in no text, and a text in no stretch.
use Rattle.std.proofs.Common.{List, ℕ, ◌∙◌, None, Some, ap, map, subst, sym}
use Rattle.vc_value.specs.declared.table_header.Domain.{Domain}
use Rattle.vc_plan.specs.declared.conditions.Piece.TheVariants.{OneText, Stretch}
use Rattle.vc_plan.specs.Domains.{grains_in, texts_in}
use Rattle.vc_rule_table.specs.Cells.{has_left_among}
use Rattle.vc_rule_table.specs.Fitting.{TellsLeft, is_left_at}
use Rattle.vc_rule_table.proofs.FittingLemmas.{left_text, left_no_text, left_number_among_texts}
use Rattle.vc_rule_table.proofs.fitting.is_left_of.Goals as goal

pub returns-in-Some : goal.returns-in-Some
returns-in-Some g c =
    let seen = g.V.View.seen c.args.view.now in
    let texts = c.in-Texts.texts in
    let left = c.args.left.now in
    c.is_left_at.ensures
    ∙ (ap (λ (ts : List ℕ). is_left_at (seen.out c.args.var) ts c.in-Text.text
    (Some c.in-Some.grain.now)) c.as_slice.ensures
    ∙ (left_text seen c.args.var c.in-Text.text texts left c.in-Some.grain.now
    (subst (λ (d : Domain). TellsLeft (seen.out c.args.var) (texts_in (Some d)) left) c.in-Texts.is c.requires.left)
    c.in-Some.ensures.some
    ∙ sym (ap (λ (d : Domain). has_left_among (grains_in (Some d)) seen c.args.var None c.args.value) c.in-Texts.is
    ∙ ap (has_left_among (map OneText texts) seen c.args.var None) c.in-Text.is)))

pub returns-in-Num : goal.returns-in-Num
returns-in-Num g c =
    let seen = g.V.View.seen c.args.view.now in
    let texts = c.in-Texts.texts in
    left_number_among_texts c.in-Num.field-0 texts seen c.args.var
    ∙ sym (ap (λ (d : Domain). has_left_among (grains_in (Some d)) seen c.args.var None c.args.value) c.in-Texts.is
    ∙ ap (has_left_among (map OneText texts) seen c.args.var None) c.in-Num.is)

pub returns-in-Text-value : goal.returns-in-Text-value
returns-in-Text-value g c =
    let seen = g.V.View.seen c.args.view.now in
    let grains = c.in-Nums.grains in
    left_no_text c.in-Text-value.field-0 grains seen c.args.var
    ∙ sym (ap (λ (d : Domain). has_left_among (grains_in (Some d)) seen c.args.var None c.args.value) c.in-Nums.is
    ∙ ap (has_left_among (map Stretch grains) seen c.args.var None) c.in-Text-value.is)
