use Rattle.std.proofs.Common.{◌≡◌, ◌++◌, drop}
use Rattle.vc_model_parts.specs.Headers.{entries_of}
use Rattle.vc_model_parts.proofs.headers.entries_of.Given as goal

abbrev pub invariant-loop-value : goal.invariant-loop-value
invariant-loop-value l = l.entries ++ entries_of l.texts (drop l.value-index l.values) ≡ entries_of l.texts l.values
