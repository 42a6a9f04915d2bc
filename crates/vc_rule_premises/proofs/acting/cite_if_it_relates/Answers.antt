-- First the slots are cited, then the variable's value.
use Rattle.std.proofs.Common.{ap, sym, ◌∙◌, [], ◌∷◌, ◌++◌, Bool, if◌then◌else◌, map}
use Rattle.std.specs.Prelude.{Option}
use Rattle.vc_value.specs.declared.value.Value.{Value}
use Rattle.vc_plan.specs.declared.atoms.Atom.TheVariants.{Here, Is}
use Rattle.vc_plan.specs.Answers.{value_atoms}
use Rattle.vc_rule_yield.specs.Yielding.{cited}
use Rattle.vc_rule_premises.specs.Citing.{cited_all, values_of}
use Rattle.vc_rule_premises.proofs.CitingLemmas.{cited_append}
use Rattle.vc_rule_premises.proofs.acting.cite_if_it_relates.Goals as goal

pub returns-then-acts-clause-cited : goal.returns-then-acts-clause-cited
returns-then-acts-clause-cited g c =
    let s = g.V.View.seen c.args.view.now in
    let slots = map Here c.args.slots.now in
    let values = values_of s (c.args.var ∷ []) in
    c.cite.ensures
    ∙ (ap (λ y. cited y (Is c.args.var c.in-Some.value)) c.cite_slots.ensures
    ∙ (ap (λ (held : Option Value). cited_all (cited_all c.args.out.now slots) (value_atoms c.args.var held ++ []))
    (sym (sym c.value.ensures ∙ c.in-Some.is))
    ∙ (cited_append c.args.out.now slots values
    ∙ sym (ap (λ (b : Bool). if b then cited_all c.args.out.now (slots ++ values) else c.args.out.now)
    c.if-acts.true))))
