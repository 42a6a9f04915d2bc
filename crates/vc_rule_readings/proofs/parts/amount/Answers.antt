-- The value of a term in full is that of a net.
use Rattle.std.proofs.Common.{ap, sym, ◌∙◌}
use Rattle.vc_plan.specs.Parts.{amount_of}
use Rattle.vc_plan.specs.Truth.{number_of_value}
use Rattle.vc_rule_readings.proofs.ReadingLemmas.{full_values}
use Rattle.vc_rule_readings.proofs.parts.amount.Goals as goal

pub returns : goal.returns
returns g c =
    let plan = c.args.plan.now in
    let seen = g.R.View.seen c.args.reading.now in
    let holds = g.R.Reading.holdings c.args.reading.now in
    c.stored_amount.ensures
    ∙ ap amount_of (c.number_in.ensures
    ∙ ap number_of_value (c.term_value.ensures ∙ sym (full_values plan seen holds c.args.term)))
