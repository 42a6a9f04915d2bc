-- Nothing is read at first; a message that was there from the start would have been taken before anything was read.
use Rattle.std.proofs.Common.{Ok, ap, refl, sym, subst, ◌∙◌}
use Rattle.vc_http_messages.specs.Messages.{MessageOf, cut}
use Rattle.vc_http.specs.Turns.{Comes}
use Rattle.vc_http.specs.declared.turns.Turn.TheVariants as turn
use Rattle.vc_http.proofs.TurnLaws.{Got, begins, comes_end, comes_failed, comes_taken, keeps_on}
use Rattle.vc_http.proofs.TurnLaws.{reads_on, spelled_none}
use Rattle.vc_http.proofs.reading.next_request.Goals as goal

pub loop-turn-init : goal.loop-turn-init
loop-turn-init g c = record {
  got = begins c.args.buffer.now (g.L.Link.left c.args.link.now);
  kept = λ message spells spelled. refl;
  few = λ few. few;
  written = refl;
  calm = refl;
}

pub returns-in-Some-clause-comes : goal.returns-in-Some-clause-comes
returns-in-Some-clause-comes g c =
    comes_taken c.args.buffer.now c.loop-turn.buffer c.take_turn.new.self (g.L.Link.left c.args.link.now)
    (g.L.Link.left c.loop-turn.link) c.in-Some.turn c.loop-turn.invariant.got c.in-Some.ensures.some

pub returns-in-Ok-eq0-clause-comes : goal.returns-in-Ok-eq0-clause-comes
returns-in-Ok-eq0-clause-comes g c =
    let kept = c.args.buffer.now in
    let more = g.L.Link.left c.args.link.now in
    let left = g.L.Link.left c.loop-turn.link in
    let none = c.in_default.ensures.none in
    let came = c.in-Ok-eq0.ensures.came in
    let nothing = c.in-Ok-eq0.field-0-test in
    comes_end kept c.take_turn.new.self c.read_from.new.self more left (g.L.Link.left c.read_from.new.link)
    (subst (λ xs. Got kept more xs left) (sym none.1) c.loop-turn.invariant.got)
    (subst (λ xs. MessageOf xs cut) (sym none.1) none.0)
    (came.0, came.1, came.2, came.3 ∙ nothing) (c.in-Ok-eq0.ensures.end (ap (λ count. Ok count) nothing))

pub returns-in-Ok-eq0-clause-kept : goal.returns-in-Ok-eq0-clause-kept
returns-in-Ok-eq0-clause-kept g c = λ message spells spelled.
    absurd (spelled_none c.args.buffer.now c.loop-turn.buffer (g.L.Link.left c.args.link.now)
    (g.L.Link.left c.loop-turn.link) message c.loop-turn.invariant.got c.in_default.ensures.none.0 spells spelled)

pub loop-turn-preserved : goal.loop-turn-preserved
loop-turn-preserved g c =
    let kept = c.args.buffer.now in
    let more = g.L.Link.left c.args.link.now in
    let left = g.L.Link.left c.loop-turn.link in
    let none = c.in_default.ensures.none in
    let came = c.in-Ok.ensures.came in
    record {
      got = reads_on kept c.take_turn.new.self c.read_from.new.self more left (g.L.Link.left c.read_from.new.link)
          (subst (λ xs. Got kept more xs left) (sym none.1) c.loop-turn.invariant.got) (came.0, came.1, came.2);
      kept = λ message spells spelled. absurd (spelled_none kept c.loop-turn.buffer more left message
          c.loop-turn.invariant.got none.0 spells spelled);
      few = λ few. c.read_from.ensures.few;
      written = c.read_from.ensures.written ∙ c.loop-turn.invariant.written;
      calm = c.in-Ok.ensures.cause.calm ∙ c.loop-turn.invariant.calm;
    }

pub returns-in-Err-clause-comes : goal.returns-in-Err-clause-comes
returns-in-Err-clause-comes g c =
    let kept = c.args.buffer.now in
    let more = g.L.Link.left c.args.link.now in
    let left = g.L.Link.left c.loop-turn.link in
    let later = g.L.Link.left c.read_from.new.link in
    let none = c.in_default.ensures.none in
    let failed = c.in-Err.ensures.err in
    subst (λ xs. Comes kept more xs later turn.Failed) (sym failed.1)
    (comes_failed kept c.take_turn.new.self more later
    (keeps_on kept c.take_turn.new.self more left later
    (subst (λ xs. Got kept more xs left) (sym none.1) c.loop-turn.invariant.got) failed.0))

pub returns-in-Err-clause-kept : goal.returns-in-Err-clause-kept
returns-in-Err-clause-kept g c = λ message spells spelled.
    absurd (spelled_none c.args.buffer.now c.loop-turn.buffer (g.L.Link.left c.args.link.now)
    (g.L.Link.left c.loop-turn.link) message c.loop-turn.invariant.got c.in_default.ensures.none.0 spells spelled)
