-- The least kind is one of the first kinds, or else one of the others.
use Rattle.std.proofs.Common.{◌≡◌, Option, IfOk, sym, ap, subst, ◌∙◌}
use Rattle.std.specs.Option.{option_or}
use Rattle.vc_model_lines.specs.Classified.{lines_below}
use Rattle.vc_model_faults.specs.Kinds.{kind_at, early_kind, late_kind}
use Rattle.vc_model_faults.specs.declared.fault.ModelFaultKind.{ModelFaultKind}
use Rattle.vc_model_faults.proofs.KindLaws.{kind_in_parts}
use Rattle.vc_model_faults.proofs.one_line.check_line.Goals as goal

pub returns-in-Some-clause-kind : goal.returns-in-Some-clause-kind
returns-in-Some-clause-kind c =
    let scope = c.args.scope.now in
    let line = c.args.line.now in
    let below = lines_below line c.args.after.now in
    sym (kind_in_parts scope line below ∙ ap (λ e. option_or e (late_kind scope line below))
    (ap (λ s. early_kind s line below) (sym c.scope.ensures) ∙ sym c.in_ok-kind.ensures ∙ c.in-Some.is))

pub returns-in-None-clause-kind : goal.returns-in-None-clause-kind
returns-in-None-clause-kind c =
    let scope = c.args.scope.now in
    let line = c.args.line.now in
    let below = lines_below line c.args.after.now in
    let late : kind_at scope line below ≡ late_kind scope line below =
    kind_in_parts scope line below ∙ ap (λ e. option_or e (late_kind scope line below))
    (ap (λ s. early_kind s line below) (sym c.scope.ensures) ∙ sym c.in_ok-kind.ensures ∙ c.in-None.is) in
    let P : Option ModelFaultKind → Type 0 = λ k. IfOk c.check_rest.result (λ kind. kind ≡ k) in
    subst P (sym late) c.check_rest.ensures.kind
