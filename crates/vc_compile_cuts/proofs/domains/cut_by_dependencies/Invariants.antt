use Rattle.std.proofs.Common.{◌≡◌, ◌++◌, drop, map, flat_map}
use Rattle.vc_compile_cuts.specs.Cutting.{cut_from, domains_seen, marks_of_all}
use Rattle.vc_compile_cuts.proofs.domains.cut_by_dependencies.Given as goal

abbrev pub invariant-loop-number : goal.invariant-loop-number
invariant-loop-number l =
    cut_from (marks_of_all l.names.model.now l.rows.tables.now (drop l.number-index l.numbers)) 0
    (domains_seen l.all.items)
    ≡ cut_from (marks_of_all l.names.model.now l.rows.tables.now l.numbers) 0 (domains_seen l.fn.all.items)
