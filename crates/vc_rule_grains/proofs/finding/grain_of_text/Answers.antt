-- The text stands at the guess, or is looked for among all, which a number of 32 bits counts.
use Rattle.std.proofs.Common.{◌≡◌, ◌∙◌, arith, length, map, sym}
use Rattle.std.proofs.lemmas.List.{length-map}
use Rattle.vc_plan.specs.declared.conditions.Piece.TheVariants.{OneText}
use Rattle.vc_rule_grains.proofs.FindingLemmas.{text_there}
use Rattle.vc_rule_grains.proofs.finding.grain_of_text.Goals as goal

pub returns-then-is_text_at : goal.returns-then-is_text_at
returns-then-is_text_at c =
    text_there c.args.texts.now c.args.text c.guessed-guess.result c.requires.apart
    (sym c.is_text_at.ensures ∙ c.if-is_text_at.true)

pub overflow_cast-texts : goal.overflow_cast-texts
overflow_cast-texts c =
    let long : length (map OneText c.args.texts.now) ≡ length c.args.texts.now = length-map c.args.texts.now OneText in
    let few = c.requires.few in omega (arith, long, few)

pub first_grain-requires : goal.first_grain-requires
first_grain-requires c = sym (length-map c.args.texts.now OneText)
