use Rattle.std.proofs.Common.{sym}
use Rattle.vc_syntax_terms.specs.ConditionReading as reads
use Rattle.vc_syntax_tokens.specs.declared.token.Sign.TheVariants as signs
use Rattle.vc_syntax_terms.proofs.Lists.{listed_turn, listed_shorter}
use Rattle.vc_syntax_terms.proofs.ConditionSoundness.{item_shortens}
use Rattle.vc_syntax_terms.proofs.conditions.items.Goals as goal

pub loop-after-smaller : goal.loop-after-smaller
loop-after-smaller c =
    listed_shorter signs.Comma reads.item item_shortens c.loop-after.rest.now c.in-Some.after.now c.in_ok-next.after.now
    c.in_ok-next.next
    (sym c.in-Some.ensures) c.in_ok-next.ensures

pub loop-after-preserved : goal.loop-after-preserved
loop-after-preserved c =
    listed_turn signs.Comma reads.item item_shortens c.loop-after.items c.push-in-Some.new.self c.loop-after.rest.now
    c.in-Some.after.now
    c.in_ok-next.after.now c.in_ok-next.next _ c.in-Some.ensures c.in_ok-next.ensures c.in_ok-push-2.ensures.ok
    c.loop-after.invariant
