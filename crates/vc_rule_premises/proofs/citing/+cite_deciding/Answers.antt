-- What both sides make so is cited one after the other.
use Rattle.std.proofs.Common.{ap, sym, ◌∙◌, true, false}
use Rattle.vc_plan.specs.declared.conditions.Condition.{Condition}
use Rattle.vc_plan.specs.Readings.{net_reading}
use Rattle.vc_plan.specs.Reads.{vars_in}
use Rattle.vc_rule_premises.specs.Citing.{cited_all, values_of}
use Rattle.vc_rule_premises.specs.Deciding.{deciding}
use Rattle.vc_rule_premises.proofs.CitingLemmas.{cited_values, both_cited}
use Rattle.vc_rule_premises.proofs.citing.+cite_deciding.Goals as goal

pub returns-in-Compared : goal.returns-in-Compared
returns-in-Compared g t c =
    let s = g.V.View.seen c.args.view.now in
    cited_values c.args.out.now c.cite_side.new.out c.cite_side-in-Compared.new.out s
    (vars_in c.in-Compared.left) (vars_in c.in-Compared.right) c.cite_side.ensures c.cite_side-in-Compared.ensures
    ∙ sym (ap (λ (a : Condition). cited_all c.args.out.now (values_of s (deciding (net_reading s) c.args.so a)))
    c.in-Compared.is)

pub returns-then-so : goal.returns-then-so
returns-then-so g t c =
    let s = g.V.View.seen c.args.view.now in
    both_cited s c.args.out.now c.cite_deciding-then-so.new.out c.cite_deciding-then-so-2.new.out c.args.so true
    c.in-And.left.value c.in-And.right.value c.deref-then-so.result.now c.deref-then-so-2.result.now
    c.args.condition.now
    c.if-so.true c.deref-then-so.ensures c.deref-then-so-2.ensures (ap (deciding (net_reading s) true) c.in-And.is)
    c.cite_deciding-then-so.ensures c.cite_deciding-then-so-2.ensures

pub returns-then-not-so : goal.returns-then-not-so
returns-then-not-so g t c =
    let s = g.V.View.seen c.args.view.now in
    both_cited s c.args.out.now c.cite_deciding-then-not-so.new.out c.cite_deciding-then-not-so-2.new.out c.args.so
    false
    c.in-Or.left.value c.in-Or.right.value c.deref-then-not-so.result.now c.deref-then-not-so-2.result.now
    c.args.condition.now
    c.if-not-so.true c.deref-then-not-so.ensures c.deref-then-not-so-2.ensures
    (ap (deciding (net_reading s) false) c.in-Or.is)
    c.cite_deciding-then-not-so.ensures c.cite_deciding-then-not-so-2.ensures
