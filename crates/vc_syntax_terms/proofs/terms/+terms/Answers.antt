use Rattle.std.proofs.Common.{sym}
use Rattle.vc_syntax_terms.specs.TermReading as reads
use Rattle.vc_syntax_terms.specs.TermReading.{join}
use Rattle.vc_syntax_tree.specs.Trees.{term_of}
use Rattle.vc_syntax_terms.proofs.Chains.{chain_turn, chain_shorter}
use Rattle.vc_syntax_terms.proofs.TermSoundness.{factor_shortens, product_shortens, product_operator_takes}
use Rattle.vc_syntax_terms.proofs.TermSoundness.{sum_operator_takes}
use Rattle.vc_syntax_terms.proofs.terms.+terms.Goals as goal

pub product-loop-operator-smaller : goal.product-loop-operator-smaller
product-loop-operator-smaller t c =
    chain_shorter reads.product_operator join (reads.factor c.args.left) product_operator_takes
    (factor_shortens c.args.left)
    c.loop-operator.rest.now (c.in-Some.operator, c.in-Some.after.now)
    (term_of c.in_ok-right.right.value, c.in_ok-right.after.now)
    (sym c.in-Some.ensures) c.in_ok-right.ensures

pub product-loop-operator-preserved : goal.product-loop-operator-preserved
product-loop-operator-preserved t c =
    chain_turn reads.product_operator join (reads.factor c.args.left) product_operator_takes
    (factor_shortens c.args.left)
    (term_of c.loop-operator.term.value) (term_of c.in_ok-term-2.term.value) c.loop-operator.rest.now
    (c.in-Some.operator, c.in-Some.after.now)
    (term_of c.in_ok-right.right.value, c.in_ok-right.after.now) _ c.in-Some.ensures c.in_ok-right.ensures
    c.in_ok-term-2.ensures c.loop-operator.invariant

pub sum-loop-operator-smaller : goal.sum-loop-operator-smaller
sum-loop-operator-smaller t c =
    chain_shorter reads.sum_operator join (reads.product c.args.left) sum_operator_takes (product_shortens c.args.left)
    c.loop-operator.rest.now (c.in-Some.operator, c.in-Some.after.now)
    (term_of c.in_ok-right.right.value, c.in_ok-right.after.now)
    (sym c.in-Some.ensures) c.in_ok-right.ensures

pub sum-loop-operator-preserved : goal.sum-loop-operator-preserved
sum-loop-operator-preserved t c =
    chain_turn reads.sum_operator join (reads.product c.args.left) sum_operator_takes (product_shortens c.args.left)
    (term_of c.loop-operator.term.value) (term_of c.in_ok-term-2.term.value) c.loop-operator.rest.now
    (c.in-Some.operator, c.in-Some.after.now)
    (term_of c.in_ok-right.right.value, c.in_ok-right.after.now) _ c.in-Some.ensures c.in_ok-right.ensures
    c.in_ok-term-2.ensures c.loop-operator.invariant
