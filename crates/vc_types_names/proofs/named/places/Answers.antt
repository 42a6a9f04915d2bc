use Rattle.std.proofs.Common.{◌∙◌, ap}
use Rattle.std.specs.Str.{bytes_eq}
use Rattle.vc_types_names.proofs.NameLemmas.{place_more, places_all}
use Rattle.vc_types_names.proofs.named.places.Goals as goal

pub loop-number-preserved : goal.loop-number-preserved
loop-number-preserved g c = λ name.
    place_more (λ x. bytes_eq (g.T.Named.name_of x) name) c.args.list.now c.loop-number.number
    c.index-list-number.result _ _ _
    c.loop-number-test.true c.index-list-number.is (c.loop-number.invariant name)
    (ap (λ n. bytes_eq n name) c.name.ensures) (c.in_ok-add.ensures name)

pub returns : goal.returns
returns g c = λ name.
    c.loop-number.invariant name
    ∙ places_all (λ x. bytes_eq (g.T.Named.name_of x) name) c.args.list.now c.loop-number.number
    c.loop-number-test.false
