use Rattle.std.proofs.Common.{◌≡◌, None, IfOk, IfErr, subst}
use Rattle.vc_syntax_tree.specs.Trees.{Dependency}
use Rattle.vc_types.specs.Faults.{fault_of}
use Rattle.vc_types_dependency.specs.Typing.{IsTyped, IsTypeFault}
use Rattle.vc_types_dependency.proofs.typing.type_dependency.Goals as goal

pub returns-clause-typed : goal.returns-clause-typed
returns-clause-typed c =
    let model = c.args.names.now.model.now in
    let place = c.args.place.now in
    let P : Dependency → Type 0
    = λ t. IfOk c.type_tree.result (λ typed. (fault_of model place t ≡ None) × IsTyped model place t typed) in
    subst P c.borrowed.ensures c.type_tree.ensures.typed

pub returns-clause-bad : goal.returns-clause-bad
returns-clause-bad c =
    let model = c.args.names.now.model.now in
    let place = c.args.place.now in
    let P : Dependency → Type 0 = λ t. IfErr c.type_tree.result (λ fault. IsTypeFault (fault_of model place t) fault) in
    subst P c.borrowed.ensures c.type_tree.ensures.bad
