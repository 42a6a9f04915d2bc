-- The word stands before the rule's name.
use Rattle.std.proofs.Common.{◌++◌, ap, ◌∙◌, append_assoc}
use Rattle.std.specs.Prelude.{codes}
use Rattle.std.proofs.lemmas.Result.{on_ok_weaker}
use Rattle.vc_wire_replies.specs.Culprits.{rule_name}
use Rattle.vc_wire_replies.proofs.culprits.put_rule.Goals as goal

pub returns : goal.returns
returns c =
    on_ok_weaker c.put_rule_name.result
    (λ e. e ∙ ap (λ before. before ++ rule_name c.args.plan.now c.args.rule.now) c.in_ok-append_text.ensures.ok
    ∙ append_assoc c.args.out.now (codes "constraint ") (rule_name c.args.plan.now c.args.rule.now))
    c.put_rule_name.ensures
