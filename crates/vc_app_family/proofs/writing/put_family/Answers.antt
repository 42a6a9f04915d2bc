-- One text after another.
use Rattle.std.proofs.Common.{◌++◌}
use Rattle.std.specs.Prelude.{codes}
use Rattle.std.proofs.lemmas.Result.{on_ok_weaker}
use Rattle.vc_app_family.specs.Families.{class_text, constraint_text, numbered, object_text}
use Rattle.vc_app_family.proofs.JoinLemmas.{onto}
use Rattle.vc_app_family.proofs.writing.put_family.Goals as goal

pub returns : goal.returns
returns c =
    let k = c.args.family in
    let head = numbered (codes "MODEL FAM") k (codes " VERSION 1\n") in
    let now = c.put_object.new.out in
    on_ok_weaker c.put_object.result
    (λ e. onto c.args.out.now c.put_numbered.new.out now head (class_text k ++ (constraint_text k ++ object_text k))
    c.in_ok-put_numbered.ensures
    (onto c.put_numbered.new.out c.put_class.new.out now (class_text k) (constraint_text k ++ object_text k)
    c.in_ok-put_class.ensures
    (onto c.put_class.new.out c.put_constraint.new.out now (constraint_text k) (object_text k)
    c.in_ok-put_constraint.ensures e)))
    c.put_object.ensures
