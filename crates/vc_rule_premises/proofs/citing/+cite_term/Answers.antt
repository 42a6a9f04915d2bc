-- Two terms are cited one after the other.
use Rattle.std.proofs.Common.{ap, sym, ◌∙◌}
use Rattle.vc_plan.specs.declared.terms.Term.{Term}
use Rattle.vc_plan.specs.Reads.{vars_in}
use Rattle.vc_rule_premises.specs.Citing.{cited_all, values_of}
use Rattle.vc_rule_premises.proofs.CitingLemmas.{cited_values}
use Rattle.vc_rule_premises.proofs.citing.+cite_term.Goals as goal

pub returns-in-Joined : goal.returns-in-Joined
returns-in-Joined g t c =
    let s = g.V.View.seen c.args.view.now in
    let first
    = c.cite_term-in-Joined.ensures
    ∙ ap (λ (a : Term). cited_all c.args.out.now (values_of s (vars_in a))) c.deref-in-Joined.ensures in
    let second = c.cite_term-in-Joined-2.ensures
    ∙ ap (λ (a : Term). cited_all c.cite_term-in-Joined.new.out (values_of s (vars_in a)))
    c.deref-in-Joined-2.ensures in
    cited_values c.args.out.now c.cite_term-in-Joined.new.out c.cite_term-in-Joined-2.new.out s
    (vars_in c.in-Joined.left.value) (vars_in c.in-Joined.right.value) first second
    ∙ sym (ap (λ (a : Term). cited_all c.args.out.now (values_of s (vars_in a))) c.in-Joined.is)
