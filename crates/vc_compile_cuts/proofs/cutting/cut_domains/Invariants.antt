use Rattle.std.proofs.Common.{◌≡◌, ◌++◌, drop, map, flat_map}
use Rattle.vc_compile_cuts.specs.Cutting.{domains_seen}
use Rattle.vc_compile_cuts.proofs.cutting.cut_domains.Given as goal

abbrev pub invariant-loop-domain : goal.invariant-loop-domain
invariant-loop-domain l =
    l.domains ++ domains_seen (drop l.domain-index l.all) ≡ domains_seen l.all
