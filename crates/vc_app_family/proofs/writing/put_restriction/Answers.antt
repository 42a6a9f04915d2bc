-- One text after another.
use Rattle.std.proofs.Common.{◌+◌, ◌++◌, ap, ◌∙◌}
use Rattle.std.specs.Prelude.{codes}
use Rattle.std.proofs.lemmas.Result.{on_ok_weaker}
use Rattle.vc_app_family.specs.Families.{is_first, next_value, parting, relation}
use Rattle.vc_app_family.proofs.JoinLemmas.{onto}
use Rattle.vc_app_family.proofs.writing.put_restriction.Goals as goal

pub returns : goal.returns
returns c =
    let k = c.args.family in
    let j = c.args.characteristic in
    let t = c.args.value in
    let before = parting (codes ",\n") (is_first j t) in
    let next = relation (j + 1) (next_value k j t) in
    let test = codes " IF " in
    let now = c.put_relation-2.new.out in
    on_ok_weaker c.put_relation-2.result
    (λ e. onto c.args.out.now c.put_parting.new.out now before (next ++ (test ++ relation j t))
    (c.in_ok-put_parting.ensures
    ∙ ap (λ b. c.args.out.now ++ parting (codes ",\n") b) c.is_first-first.ensures)
    (onto c.put_parting.new.out c.put_relation.new.out now next (test ++ relation j t)
    (c.in_ok-put_relation.ensures
    ∙ ap (λ n. c.put_parting.new.out ++ relation (j + 1) n) c.next_value-next.ensures)
    (onto c.put_relation.new.out c.append_text.new.self now test (relation j t) c.in_ok-append_text.ensures.ok
    (e ∙ ap (λ n. c.append_text.new.self ++ relation j n) c.from.ensures))))
    c.put_relation-2.ensures
