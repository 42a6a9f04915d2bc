-- First the slots are cited, then the values.
use Rattle.std.proofs.Common.{ap, sym, ◌∙◌, map, List, Bool, if◌then◌else◌}
use Rattle.std.specs.Prelude.{slice_get, ℕ}
use Rattle.vc_plan.specs.declared.atoms.Atom.TheVariants.{Here}
use Rattle.vc_rule_premises.specs.Citing.{cited_all, values_of, deciding_if, why_it_acts}
use Rattle.vc_rule_premises.proofs.CitingLemmas.{cited_append}
use Rattle.vc_rule_premises.proofs.acting.cite_if_true.Goals as goal

pub returns-then-acts-clause-cited : goal.returns-then-acts-clause-cited
returns-then-acts-clause-cited g c =
    let s = g.V.View.seen c.args.view.now in
    let values = values_of s (deciding_if s (slice_get c.args.plan.now.conditions c.args.rule.now.condition)) in
    let all = cited_all c.args.out.now (why_it_acts c.args.plan.now s c.args.rule.now) in
    c.cite_condition.ensures
    ∙ (ap (λ y. cited_all y values) c.cite_slots.ensures
    ∙ (ap (λ (slots : List ℕ). cited_all (cited_all c.args.out.now (map Here slots)) values)
    c.as_slice-then-acts.ensures
    ∙ (cited_append c.args.out.now (map Here c.args.rule.now.slots) values
    ∙ sym (ap (λ (b : Bool). if b then all else c.args.out.now) c.if-acts.true))))
