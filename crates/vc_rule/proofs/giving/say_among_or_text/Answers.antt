use Rattle.std.proofs.Common.{◌∙◌, ap, sym}
use Rattle.vc_plan.specs.declared.atoms.Atom.TheVariants.{Is}
use Rattle.vc_value.specs.declared.value.Value.TheVariants.{Text}
use Rattle.vc_rule_premises.specs.Saying.{taken}
use Rattle.vc_rule_premises.proofs.SayingLaws.{plain_taken}
use Rattle.vc_rule.proofs.giving.say_among_or_text.Goals as goal

pub returns-in-Some : goal.returns-in-Some
returns-in-Some g c =
    plain_taken c.args.out.now c.conclude.new.self (Is c.args.var (Text c.in-Some.text)) c.conclude.ensures
    ∙ ap (taken c.args.out.now) (sym c.in-Some.ensures)
