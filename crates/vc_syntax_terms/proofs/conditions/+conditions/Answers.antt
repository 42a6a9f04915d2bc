use Rattle.std.proofs.Common.{sym, ap}
use Rattle.vc_syntax_terms.specs.ConditionReading as reads
use Rattle.vc_syntax_terms.specs.Reading.{word, leaving_as}
use Rattle.vc_syntax_tree.specs.Trees.{condition_of}
use Rattle.vc_syntax_tokens.specs.declared.token.Reserved.TheVariants as words
use Rattle.vc_syntax_terms.proofs.Chains.{chain_turn, chain_shorter}
use Rattle.vc_syntax_terms.proofs.ConditionSoundness.{negation_shortens, conjunction_shortens}
use Rattle.vc_syntax_terms.proofs.Lists.{word_takes}
use Rattle.vc_syntax_terms.proofs.conditions.+conditions.Goals as goal

pub conjunction-loop-after-smaller : goal.conjunction-loop-after-smaller
conjunction-loop-after-smaller t c =
    chain_shorter (word words.And) reads.both (reads.negation c.args.left) (word_takes words.And)
    (negation_shortens c.args.left)
    c.loop-after.rest.now (tt, c.in-Some.after.now) (condition_of c.in_ok-right.right.value, c.in_ok-right.after.now)
    (ap (λ o. leaving_as tt o) (sym c.in-Some.ensures)) c.in_ok-right.ensures

pub conjunction-loop-after-preserved : goal.conjunction-loop-after-preserved
conjunction-loop-after-preserved t c =
    chain_turn (word words.And) reads.both (reads.negation c.args.left) (word_takes words.And)
    (negation_shortens c.args.left)
    (condition_of c.loop-after.condition.value) (condition_of c.in_ok-condition-2.condition.value) c.loop-after.rest.now
    (tt, c.in-Some.after.now)
    (condition_of c.in_ok-right.right.value, c.in_ok-right.after.now) _ (ap (λ o. leaving_as tt o) c.in-Some.ensures)
    c.in_ok-right.ensures
    c.in_ok-condition-2.ensures c.loop-after.invariant

pub condition-loop-after-smaller : goal.condition-loop-after-smaller
condition-loop-after-smaller t c =
    chain_shorter (word words.Or) reads.any (reads.conjunction c.args.left) (word_takes words.Or)
    (conjunction_shortens c.args.left)
    c.loop-after.rest.now (tt, c.in-Some.after.now) (condition_of c.in_ok-right.right.value, c.in_ok-right.after.now)
    (ap (λ o. leaving_as tt o) (sym c.in-Some.ensures)) c.in_ok-right.ensures

pub condition-loop-after-preserved : goal.condition-loop-after-preserved
condition-loop-after-preserved t c =
    chain_turn (word words.Or) reads.any (reads.conjunction c.args.left) (word_takes words.Or)
    (conjunction_shortens c.args.left)
    (condition_of c.loop-after.condition.value) (condition_of c.in_ok-condition-2.condition.value) c.loop-after.rest.now
    (tt, c.in-Some.after.now)
    (condition_of c.in_ok-right.right.value, c.in_ok-right.after.now) _ (ap (λ o. leaving_as tt o) c.in-Some.ensures)
    c.in_ok-right.ensures
    c.in_ok-condition-2.ensures c.loop-after.invariant
