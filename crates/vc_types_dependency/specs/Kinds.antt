-- The least of the kinds that stand.
use Rattle.std.specs.Prelude.{Bool, List, Option, filter}
use Rattle.vc_types.specs.Faults.{first_of}
use Rattle.vc_types.specs.declared.fault.TypeFaultKind.{TypeFaultKind}

abbrev pub least_of : (TypeFaultKind → Bool) → List TypeFaultKind → Option TypeFaultKind
least_of stands kinds = first_of (filter stands kinds)
