-- One text after another.
use Rattle.std.proofs.Common.{◌++◌, ap, ◌∙◌}
use Rattle.std.specs.Prelude.{codes}
use Rattle.std.proofs.lemmas.Result.{on_ok_weaker}
use Rattle.vc_app_family.specs.Families.{characteristic_count, inferences, restrictions}
use Rattle.vc_app_family.proofs.JoinLemmas.{onto}
use Rattle.vc_app_family.proofs.writing.put_constraint.Goals as goal

pub returns : goal.returns
returns c =
    let k = c.args.family in
    let head = codes "CONSTRAINT NEXT\nOBJECTS: ?X IS_A (300)FAMILY.\nRESTRICTIONS: " in
    let between = codes ".\nINFERENCES: " in
    let end = codes ".\nEND\n" in
    let count = characteristic_count k in
    let now = c.append_text-3.new.self in
    on_ok_weaker c.append_text-3.result
    (λ e. onto c.args.out.now c.append_text.new.self now head (restrictions k ++ (between ++ (inferences count ++ end)))
    c.in_ok-append_text.ensures.ok
    (onto c.append_text.new.self c.put_restrictions.new.out now (restrictions k) (between ++ (inferences count ++ end))
    c.in_ok-put_restrictions.ensures
    (onto c.put_restrictions.new.out c.append_text-2.new.self now between (inferences count ++ end)
    c.in_ok-append_text-2.ensures.ok
    (onto c.append_text-2.new.self c.put_inferences.new.out now (inferences count) end
    (c.in_ok-put_inferences.ensures
    ∙ ap (λ n. c.append_text-2.new.self ++ inferences n) c.characteristic_count.ensures) e))))
    c.append_text-3.ensures.ok
