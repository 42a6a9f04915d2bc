use Rattle.std.proofs.Common.{◌≡◌, ◌++◌, drop, map, flat_map}
use Rattle.vc_model_parts.specs.Headers.{domain_of}
use Rattle.vc_compile_cuts.specs.Cutting.{domains_seen}
use Rattle.vc_compile_cuts.proofs.cutting.uncut_domains.Given as goal

abbrev pub invariant-loop-characteristic : goal.invariant-loop-characteristic
invariant-loop-characteristic l =
    domains_seen l.all.items ++ map (λ c. domain_of c.values) (drop l.characteristic-index l.characteristics)
    ≡ map (λ c. domain_of c.values) l.characteristics
