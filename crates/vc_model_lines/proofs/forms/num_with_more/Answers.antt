-- The flags and what follows `UNIT` are the same parts, seen as words.
use Rattle.vc_model_lines.proofs.FormLemmas.{parted}
use Rattle.vc_model_lines.proofs.forms.num_with_more.Goals as goal

pub returns-in-Some : goal.returns-in-Some
returns-in-Some c = rw
    (← parted c.args.name.now c.args.decimals.now (λ word. word.now) c.args.words.now c.in-Some.at
    c.in-Some.ensures.place) c.num_with_unit.ensures
