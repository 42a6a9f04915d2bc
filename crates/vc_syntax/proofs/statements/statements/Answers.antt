use Rattle.std.proofs.Common.{sym}
use Rattle.vc_syntax.specs.StatementReading as reads
use Rattle.vc_syntax_tree.specs.Trees.{statement_of}
use Rattle.vc_syntax_tokens.specs.declared.token.Sign.TheVariants as signs
use Rattle.vc_syntax_terms.proofs.Lists.{listed_turn_seen, listed_shorter}
use Rattle.vc_syntax.proofs.StatementSoundness.{statement_shortens}
use Rattle.vc_syntax.proofs.statements.statements.Goals as goal

pub loop-after-smaller : goal.loop-after-smaller
loop-after-smaller c =
    listed_shorter signs.Comma (reads.statement c.args.left) (statement_shortens c.args.left) c.loop-after.rest.now
    c.in-Some.after.now c.in_ok-next.after.now
    (statement_of c.in_ok-next.next) (sym c.in-Some.ensures) c.in_ok-next.ensures

pub loop-after-preserved : goal.loop-after-preserved
loop-after-preserved c =
    listed_turn_seen statement_of signs.Comma (reads.statement c.args.left) (statement_shortens c.args.left)
    c.loop-after.statements c.push-in-Some.new.self
    c.loop-after.rest.now c.in-Some.after.now c.in_ok-next.after.now c.in_ok-next.next _ c.in-Some.ensures
    c.in_ok-next.ensures c.in_ok-push-2.ensures.ok
    c.loop-after.invariant
