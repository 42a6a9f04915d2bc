use Rattle.std.proofs.Common.{◌≡◌, ◌+◌, ◌*◌, length}
use Rattle.vc_syntax_terms.specs.Reading.{chained}
use Rattle.vc_syntax_terms.specs.TermReading as reads
use Rattle.vc_syntax_terms.specs.TermReading.{join}
use Rattle.vc_syntax_tree.specs.Trees.{term_of}
use Rattle.vc_syntax_terms.proofs.terms.+terms.Given as goal

abbrev pub decreases-factor : goal.decreases-factor
decreases-factor l = 4 * l.left

abbrev pub decreases-factor_from : goal.decreases-factor_from
decreases-factor_from l = 4 * l.left + 3

abbrev pub decreases-product : goal.decreases-product
decreases-product l = 4 * l.left + 1

abbrev pub decreases-sum : goal.decreases-sum
decreases-sum l = 4 * l.left + 2

abbrev pub invariant-product-loop-operator : goal.invariant-product-loop-operator
invariant-product-loop-operator l =
    chained reads.product_operator join (reads.factor l.left) (term_of l.term.value) l.rest
    ≡ reads.product l.left l.tokens

abbrev pub decreases-product-loop-operator : goal.decreases-product-loop-operator
decreases-product-loop-operator l = length l.rest

abbrev pub invariant-sum-loop-operator : goal.invariant-sum-loop-operator
invariant-sum-loop-operator l =
    chained reads.sum_operator join (reads.product l.left) (term_of l.term.value) l.rest ≡ reads.sum l.left l.tokens

abbrev pub decreases-sum-loop-operator : goal.decreases-sum-loop-operator
decreases-sum-loop-operator l = length l.rest
