use Rattle.std.proofs.Common.{◌≡◌, ◌+◌, ◌*◌, length}
use Rattle.vc_syntax_terms.specs.ConditionReading as reads
use Rattle.vc_syntax_terms.specs.Reading.{word, chained}
use Rattle.vc_syntax_tree.specs.Trees.{condition_of}
use Rattle.vc_syntax_tokens.specs.declared.token.Reserved.TheVariants as words
use Rattle.vc_syntax_terms.proofs.conditions.+conditions.Given as goal

abbrev pub decreases-negation : goal.decreases-negation
decreases-negation l = 5 * l.left

abbrev pub decreases-conjunction : goal.decreases-conjunction
decreases-conjunction l = 5 * l.left + 1

abbrev pub decreases-condition : goal.decreases-condition
decreases-condition l = 5 * l.left + 2

abbrev pub decreases-behind_not : goal.decreases-behind_not
decreases-behind_not l = 5 * l.left + 1

abbrev pub decreases-related_or_grouped : goal.decreases-related_or_grouped
decreases-related_or_grouped l = 5 * l.left + 3

abbrev pub decreases-negation_below : goal.decreases-negation_below
decreases-negation_below l = 5 * l.left + 4

abbrev pub invariant-conjunction-loop-after : goal.invariant-conjunction-loop-after
invariant-conjunction-loop-after l =
    chained (word words.And) reads.both (reads.negation l.left) (condition_of l.condition.value) l.rest
    ≡ reads.conjunction l.left l.tokens

abbrev pub decreases-conjunction-loop-after : goal.decreases-conjunction-loop-after
decreases-conjunction-loop-after l = length l.rest

abbrev pub invariant-condition-loop-after : goal.invariant-condition-loop-after
invariant-condition-loop-after l =
    chained (word words.Or) reads.any (reads.conjunction l.left) (condition_of l.condition.value) l.rest
    ≡ reads.condition l.left l.tokens

abbrev pub decreases-condition-loop-after : goal.decreases-condition-loop-after
decreases-condition-loop-after l = length l.rest
