use Rattle.std.proofs.Common.{◌≡◌, ◌++◌, drop, map}
use Rattle.vc_model_parts.proofs.headers.numbers_of.Given as goal

abbrev pub invariant-loop-value : goal.invariant-loop-value
invariant-loop-value l = l.numbers ++ map (λ value. value.text) (drop l.value-index l.values)
    ≡ map (λ value. value.text) l.values
