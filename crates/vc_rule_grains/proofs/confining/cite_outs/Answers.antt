-- What is cited holds the value that the test passes alone.
use Rattle.std.proofs.Common.{ℕ, ◌&&◌, ◌∙◌, ap, map}
use Rattle.std.proofs.lemmas.Bool.{and_parts}
use Rattle.std.specs.Prelude.{slice_get}
use Rattle.vc_plan.specs.declared.atoms.Atom.TheVariants.{Out}
use Rattle.vc_plan.specs.Domains.{count_of, grains_of, is_grain_with}
use Rattle.vc_rule_premises.specs.Citing.{cited_all}
use Rattle.vc_rule_grains.proofs.FindingLemmas.{only_there, passes_only}
use Rattle.vc_rule_grains.proofs.confining.cite_outs.Goals as goal

pub returns-in-Some : goal.returns-in-Some
returns-in-Some g c =
    let plan = c.args.plan.now in
    let seen = g.V.View.seen c.args.view.now in
    let v = c.args.var in
    let test = g.T.Test.passes c.args.test.now in
    let p = λ (n : ℕ). seen.out v n && is_grain_with plan v test n in
    c.cite_out_at.ensures
    ∙ ap (λ gs. cited_all c.args.out.now (map (Out v) gs))
    (only_there plan v c.in-Some.value p (count_of plan v) c.grain_of.result c.requires.proper
    (λ n h. passes_only test c.in-Some.value c.in-Some.ensures (slice_get (grains_of plan v) n)
    (and_parts (seen.out v n) (is_grain_with plan v test n) h).1) c.grain_of.ensures)
