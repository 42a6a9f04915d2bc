-- A text that is one of all is among those that are held where it is held.
use Rattle.std.proofs.Common.{ap, sym, ◌∙◌}
use Rattle.std.specs.List.{filter}
use Rattle.vc_plan.specs.Kleene.{truth_of}
use Rattle.vc_plan.specs.Truth.{set_holds}
use Rattle.vc_rule_readings.proofs.SetLemmas.{some_held}
use Rattle.vc_rule_readings.proofs.sets.set_holds.Goals as goal

pub returns-then-holds_some : goal.returns-then-holds_some
returns-then-holds_some g c =
    let holds = g.R.Reading.holdings c.args.reading.now c.args.set in
    c.truth_of.ensures
    ∙ (ap truth_of c.holds_among.ensures
    ∙ (sym (some_held holds c.args.text c.texts_of-texts.result.now (sym c.holds_some.ensures ∙ c.if-holds_some.true))
    ∙ ap (λ texts. set_holds c.args.text (filter holds texts)) c.texts_of-texts.ensures))
