use Rattle.std.proofs.Common.{◌==◌, ◌&&◌, ◌∙◌, ap}
use Rattle.vc_types_names.proofs.NameLemmas.{place_more, places_all}
use Rattle.vc_compile_layout.proofs.numbers.numbers_of.Goals as goal

pub loop-number-preserved : goal.loop-number-preserved
loop-number-preserved g c = λ i k.
    place_more (λ x. (g.T.Spotted.slot_of x == i) && (g.T.Spotted.characteristic_of x == k)) c.args.list.now
    c.loop-number.number c.index-list-number.result _ _ _
    c.loop-number-test.true c.index-list-number.is (c.loop-number.invariant i k)
    (ap (λ n. (n == i) && (c.spot.result.characteristic == k)) c.spot.ensures.slot
    ∙ ap (λ n. (g.T.Spotted.slot_of c.index-list-number.result == i) && (n == k)) c.spot.ensures.characteristic)
    (c.in_ok-add.ensures i k)

pub returns-clause-numbers : goal.returns-clause-numbers
returns-clause-numbers g c = λ i k.
    c.loop-number.invariant i k
    ∙ places_all (λ x. (g.T.Spotted.slot_of x == i) && (g.T.Spotted.characteristic_of x == k)) c.args.list.now
    c.loop-number.number c.loop-number-test.false
