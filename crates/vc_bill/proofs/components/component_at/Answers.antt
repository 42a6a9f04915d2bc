-- The list has as many components as there are lines, and of each line its own.
use Rattle.std.proofs.Common.{◌∙◌, ap, length, arith}
use Rattle.std.specs.Prelude.{None, slice_index_or}
use Rattle.std.proofs.lemmas.Option.{get_or_from_slice_get}
use Rattle.vc_plan.specs.Bills.{component_of}
use Rattle.vc_bill.proofs.ComponentLemmas.{listed, listed_length}
use Rattle.vc_bill.proofs.components.component_at.Goals as goal

pub bounds-components-line : goal.bounds-components-line
bounds-components-line c =
    let long
    = ap length c.requires.table ∙ listed_length (component_of c.args.plan.now) (length c.args.plan.now.lines) in
    omega (arith, long, c.requires.there)

pub returns : goal.returns
returns c =
    let of = component_of c.args.plan.now in
    ap (λ xs. slice_index_or xs c.args.line None) c.requires.table
    ∙ get_or_from_slice_get _ c.args.line (of c.args.line) None
    (listed of (length c.args.plan.now.lines) c.args.line c.requires.there)
