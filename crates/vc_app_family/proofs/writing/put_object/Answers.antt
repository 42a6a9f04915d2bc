-- One text after another.
use Rattle.std.proofs.Common.{◌++◌}
use Rattle.std.specs.Prelude.{codes}
use Rattle.std.proofs.lemmas.Result.{on_ok_weaker}
use Rattle.vc_app_family.specs.Families.{numbered}
use Rattle.vc_app_family.proofs.JoinLemmas.{onto}
use Rattle.vc_app_family.proofs.writing.put_object.Goals as goal

pub returns : goal.returns
returns c =
    let k = c.args.family in
    let net = codes "NET MAIN\nUSES NEXT\n" in
    let object = numbered (codes "OBJECT FAM") k (codes " CLASS FAMILY\nUSES MAIN\n") in
    let root = numbered (codes "ROOT FAM") k (codes "\n") in
    on_ok_weaker c.put_numbered-2.result
    (λ e. onto c.args.out.now c.append_text.new.self c.put_numbered-2.new.out net (object ++ root)
    c.in_ok-append_text.ensures.ok
    (onto c.append_text.new.self c.put_numbered.new.out c.put_numbered-2.new.out object root
    c.in_ok-put_numbered.ensures e))
    c.put_numbered-2.ensures
