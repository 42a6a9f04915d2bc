-- A session is opened where its name is free and few are open.
use Rattle.std.proofs.Common.{◌∙◌, ◌≤◌, ◌<◌, ap, arith, false, true, refl, subst, sym}
use Rattle.std.specs.FinMap.{get, len}
use Rattle.vc_wire_replies.specs.declared.reply.Refusal.TheVariants.{NameTaken, TooManySessions}
use Rattle.vc_desk_shown.specs.Standing.{standing_of}
use Rattle.vc_desk.specs.Answers.{exhausted, refused, started}
use Rattle.vc_desk.specs.Costing.{opened, unopened}
use Rattle.vc_desk.specs.Desks.{AreSessionsOf, open_of}
use Rattle.vc_desk.proofs.AnswerLaws.{may_open, name_taken, some_copied, too_many}
use Rattle.vc_desk.proofs.OpenLaws.{opened_sessions, open_put}
use Rattle.vc_desk.proofs.sessions.Sessions.open.Goals as goal

pub returns-then-is_some-clause-starts : goal.returns-then-is_some-clause-starts
returns-then-is_some-clause-starts c =
    refused NameTaken
    (name_taken c.args.self.now c.args.name.now
    (some_copied c.find.result (get c.args.self.now c.args.name.now) true c.find.ensures
    (sym c.is_some.ensures ∙ c.if-is_some.true)))
    c.refused.ensures refl

pub returns-then-count-ge-SESSION_LIMIT-clause-starts : goal.returns-then-count-ge-SESSION_LIMIT-clause-starts
returns-then-count-ge-SESSION_LIMIT-clause-starts c =
    let free = some_copied c.find.result (get c.args.self.now c.args.name.now) false c.find.ensures
    (sym c.is_some.ensures ∙ c.if-is_some.false) in
    let full : 32 ≤ len c.args.self.now = omega (arith, c.count.ensures, c.if-count-ge-SESSION_LIMIT.true) in
    refused TooManySessions (too_many c.args.self.now c.args.name.now free full)
    c.refused-then-count-ge-SESSION_LIMIT.ensures refl

pub returns-in-Ok-clause-starts : goal.returns-in-Ok-clause-starts
returns-in-Ok-clause-starts c =
    let free = some_copied c.find.result (get c.args.self.now c.args.name.now) false c.find.ensures
    (sym c.is_some.ensures ∙ c.if-is_some.false) in
    let room : len c.args.self.now < 32 = omega (arith, c.count.ensures, c.if-count-ge-SESSION_LIMIT.false) in
    let opens = c.in-Ok.ensures.opened in
    started (may_open c.args.self.now c.args.name.now free room) (record {
      standing = standing_of opens.session;
      status = c.in-Ok.status;
      its = opens.none;
      stands = opens.stands;
      said = refl;
      put = ap open_of opens.put ∙ open_put c.args.self.now c.args.name.now opens.session;
    })

pub returns-in-Ok-clause-of : goal.returns-in-Ok-clause-of
returns-in-Ok-clause-of c =
    let room : len c.args.self.now < 32 = omega (arith, c.count.ensures, c.if-count-ge-SESSION_LIMIT.false) in
    let opens = c.in-Ok.ensures.opened in
    subst (AreSessionsOf c.args.plan.now) (sym opens.put)
    (opened_sessions c.args.plan.now c.args.self.now c.requires.of c.args.name.now opens.session opens.of room)

pub returns-in-Err-clause-starts : goal.returns-in-Err-clause-starts
returns-in-Err-clause-starts c =
    let free = some_copied c.find.result (get c.args.self.now c.args.name.now) false c.find.ensures
    (sym c.is_some.ensures ∙ c.if-is_some.false) in
    let room : len c.args.self.now < 32 = omega (arith, c.count.ensures, c.if-count-ge-SESSION_LIMIT.false) in
    exhausted (may_open c.args.self.now c.args.name.now free room) c.refused-in-Err.ensures
    (ap open_of c.in-Err.ensures.as_before)

pub returns-then-is_some-clause-opens : goal.returns-then-is_some-clause-opens
returns-then-is_some-clause-opens c = unopened refl

pub returns-then-count-ge-SESSION_LIMIT-clause-opens : goal.returns-then-count-ge-SESSION_LIMIT-clause-opens
returns-then-count-ge-SESSION_LIMIT-clause-opens c = unopened refl

pub returns-in-Ok-clause-opens : goal.returns-in-Ok-clause-opens
returns-in-Ok-clause-opens c =
    let opens = c.in-Ok.ensures.opened in opened opens.session opens.behind opens.put

pub returns-in-Err-clause-opens : goal.returns-in-Err-clause-opens
returns-in-Err-clause-opens c = unopened c.in-Err.ensures.as_before
