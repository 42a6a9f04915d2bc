use Rattle.std.proofs.Common.{◌∙◌, ap, sym}
use Rattle.vc_types.specs.Faults.{all_kinds, stands}
use Rattle.vc_types_dependency.specs.Kinds.{least_of}
use Rattle.vc_types_meanings.specs.Borrowed.{tree_of}
use Rattle.vc_types_dependency.proofs.typing.type_tree.Goals as goal

pub returns-in-Ok-None-clause-typed : goal.returns-in-Ok-None-clause-typed
returns-in-Ok-None-clause-typed c = (
  ap (λ s. least_of (stands s (tree_of c.args.tree)) all_kinds) (sym c.in-Ok.ensures.setting)
      ∙ sym c.in-Ok-None.ensures ∙ c.in-Ok-None.field-0-is,
  c.in-Ok.ensures,
)

pub returns-in-Ok-Some-clause-bad : goal.returns-in-Ok-Some-clause-bad
returns-in-Ok-Some-clause-bad c =
    ap (λ s. least_of (stands s (tree_of c.args.tree)) all_kinds) (sym c.in-Ok.ensures.setting)
    ∙ sym c.in-Ok-Some.ensures ∙ c.in-Ok-Some.field-0-is
