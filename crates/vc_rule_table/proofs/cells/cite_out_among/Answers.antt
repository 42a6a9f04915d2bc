use Rattle.std.proofs.Common.{ap, ℕ, List, length, map, sym, ◌∙◌, arith}
use Rattle.std.specs.Prelude.{Some}
use Rattle.vc_base.proofs.RangeLaws.{filter_done}
use Rattle.vc_plan.specs.declared.atoms.Atom.TheVariants.{Out}
use Rattle.vc_plan.specs.Domains.{grains_in}
use Rattle.vc_rule_premises.specs.Citing.{cited_all}
use Rattle.vc_rule_table.specs.Cells.{grain_holds}
use Rattle.vc_rule_table.proofs.CitingSteps.{cited_number}
use Rattle.vc_rule_table.proofs.cells.cite_out_among.Goals as goal

pub loop-grain-preserved : goal.loop-grain-preserved
loop-grain-preserved c =
    let grains = grains_in (Some c.args.domain.now) in
    cited_number (Out c.args.var) (grain_holds grains c.args.value) c.loop-grain.out c.cite_if_holds.new.out
    c.loop-grain.grain (length grains)
    (omega (arith, c.loop-grain-test.true, c.grain_count-grain-end.ensures)) c.cite_if_holds.ensures
    ∙ c.loop-grain.invariant

pub returns : goal.returns
returns c =
    let grains = grains_in (Some c.args.domain.now) in
    let test = grain_holds grains c.args.value in
    sym (ap (λ (gs : List ℕ). cited_all c.loop-grain.out (map (Out c.args.var) gs))
    (filter_done test c.loop-grain.grain (length grains)
    (omega (arith, c.loop-grain-test.false, c.grain_count-grain-end.ensures))))
    ∙ c.loop-grain.invariant
