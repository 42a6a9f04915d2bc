use Rattle.std.proofs.Common.{◌≡◌, ◌++◌, drop}
use Rattle.vc_model_parts.specs.Headers.{columns_of}
use Rattle.vc_model_parts.proofs.headers.columns_of.Given as goal

abbrev pub invariant-loop-column : goal.invariant-loop-column
invariant-loop-column l =
    l.found ++ columns_of l.model.texts l.model.characteristics (drop l.column-index l.columns)
    ≡ columns_of l.model.texts l.model.characteristics l.columns
