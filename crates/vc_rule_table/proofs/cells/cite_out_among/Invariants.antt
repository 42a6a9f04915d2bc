-- What is cited so far, with the grains from here on, is all.
use Rattle.std.proofs.Common.{◌≡◌, ◌-◌, length, map}
use Rattle.std.specs.Prelude.{Some}
use Rattle.std.specs.List.{filter, range_with_len}
use Rattle.vc_plan.specs.declared.atoms.Atom.TheVariants.{Out}
use Rattle.vc_plan.specs.Domains.{grains_in}
use Rattle.vc_rule_premises.specs.Citing.{cited_all}
use Rattle.vc_rule_table.specs.Cells.{grain_holds, out_among}
use Rattle.vc_rule_table.proofs.cells.cite_out_among.Given as goal

abbrev pub invariant-loop-grain : goal.invariant-loop-grain
invariant-loop-grain l =
    let grains = grains_in (Some l.domain) in
    cited_all l.out (map (Out l.var)
    (filter (grain_holds grains l.value) (range_with_len l.grain (length grains - l.grain))))
    ≡ cited_all l.fn.out (out_among grains l.var l.value)
