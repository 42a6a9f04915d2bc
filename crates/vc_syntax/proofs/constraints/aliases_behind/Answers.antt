use Rattle.std.proofs.Common.{sym}
use Rattle.vc_syntax.specs.ConstraintReading as reads
use Rattle.vc_syntax_tokens.specs.declared.token.Sign.TheVariants as signs
use Rattle.vc_syntax_terms.proofs.Lists.{listed_turn, listed_shorter}
use Rattle.vc_syntax.proofs.ConstraintSoundness.{alias_shortens}
use Rattle.vc_syntax.proofs.constraints.aliases_behind.Goals as goal

pub loop-after-smaller : goal.loop-after-smaller
loop-after-smaller c =
    listed_shorter signs.Semicolon reads.alias alias_shortens c.loop-after.rest.now c.in-Some.after.now
    c.in_ok-next.after.now c.in_ok-next.next
    (sym c.in-Some.ensures) c.in_ok-next.ensures

pub loop-after-preserved : goal.loop-after-preserved
loop-after-preserved c =
    listed_turn signs.Semicolon reads.alias alias_shortens c.loop-after.aliases c.push-in-Some.new.self
    c.loop-after.rest.now c.in-Some.after.now
    c.in_ok-next.after.now c.in_ok-next.next _ c.in-Some.ensures c.in_ok-next.ensures c.in_ok-push-2.ensures.ok
    c.loop-after.invariant
