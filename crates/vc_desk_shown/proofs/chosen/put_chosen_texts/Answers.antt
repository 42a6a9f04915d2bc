-- Of a set that holds none nothing is put.
use Rattle.std.proofs.Common.{◌++◌, ◌∙◌, ap, append-nil, sym}
use Rattle.vc_desk_shown.specs.Shown.{chosen_texts}
use Rattle.vc_desk_shown.proofs.ChosenLemmas.{none_held}
use Rattle.vc_desk_shown.proofs.chosen.put_chosen_texts.Goals as goal

pub returns-else-holds_some : goal.returns-else-holds_some
returns-else-holds_some c =
    sym (ap (λ texts. c.args.out.now ++ chosen_texts c.args.plan.now c.args.slot c.args.set texts)
    (none_held c.args.texts.now (sym c.holds_some.ensures ∙ c.if-holds_some.false))
    ∙ append-nil c.args.out.now)
