-- The next variable's come after the others, and a variable's number is small where the atoms are.
use Rattle.std.proofs.Common.{◌≡◌, ◌^◌, ◌∙◌, ◌++◌, ap, arith, length}
use Rattle.std.proofs.lemmas.List.{length-map}
use Rattle.vc_plan.specs.Bounds.{source_bound}
use Rattle.vc_net_places.specs.Cells.{all_places}
use Rattle.vc_net_places.proofs.PlaceLaws.Numbering.{IsSmall, small}
use Rattle.vc_net_bounds.specs.Counting.{sources_before, sources_of_var}
use Rattle.vc_net_bounds.proofs.CountingLemmas.{sources_are, sources_next}
use Rattle.vc_net_bounds.proofs.bounds.source_bounds.Goals as goal

pub overflow_cast-var : goal.overflow_cast-var
overflow_cast-var c =
    let s : IsSmall c.args.plan.now c.loop-var.var (2 ^ 32)
    = small c.args.plan.now c.loop-var.var (2 ^ 32) (omega (arith, c.loop-var-test.true, c.len-var-end.ensures))
    c.requires in
    omega (arith, s.var)

pub loop-var-preserved : goal.loop-var-preserved
loop-var-preserved c =
    let plan = c.args.plan.now in
    let var = c.loop-var.var in
    c.in_ok-append_sources.ensures
    ∙ (ap (λ xs. xs ++ sources_of_var plan var) c.loop-var.invariant ∙ sources_next plan var)

pub returns-clause-is : goal.returns-clause-is
returns-clause-is c =
    let plan = c.args.plan.now in
    let all : c.loop-var.var ≡ length plan.vars
    = omega (arith, c.loop-var-test.false, c.loop-var.auto.var-end, c.len-var-end.ensures) in
    c.loop-var.invariant ∙ (ap (sources_before plan) all ∙ sources_are plan)

pub returns-clause-whole : goal.returns-clause-whole
returns-clause-whole c =
    let plan = c.args.plan.now in
    let all : c.loop-var.var ≡ length plan.vars
    = omega (arith, c.loop-var-test.false, c.loop-var.auto.var-end, c.len-var-end.ensures) in
    ap length (c.loop-var.invariant ∙ (ap (sources_before plan) all ∙ sources_are plan))
    ∙ length-map (all_places plan) source_bound
