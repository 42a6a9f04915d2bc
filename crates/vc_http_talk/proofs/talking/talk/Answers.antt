-- One message more is answered, or the connection ends.
use Rattle.std.proofs.Common.{◌+◌, ◌∙◌, refl, rules, subst}
use Rattle.vc_desk.specs.Desks.{state_of}
use Rattle.vc_http_talk.specs.Courses.{ComesTo, HoldsOfAll}
use Rattle.vc_http_talk.specs.declared.course.Course.TheVariants as course
use Rattle.vc_http_talk.proofs.TalkLaws.{begins, ends_so, goes_calmly, goes_further, on_below}
use Rattle.vc_http_talk.proofs.talking.talk.Goals as goal

pub loop-answered-init : goal.loop-answered-init
loop-answered-init g c =
    let left = g.L.Link.left c.args.link.now in
    let written = g.L.Link.written c.args.link.now in
    let state = state_of c.args.desk.now.sessions (g.K.Keeper.texts c.args.keeper.now)
    (g.K.Keeper.faults c.args.keeper.now) in
    record {
      so_far = begins c.args.desk.now.plan left _ state written (search rules);
      calm = refl;
      fewer = search rules;
      few = search rules;
      is = c.requires.is;
      plan = refl;
      begun = refl;
    }

pub loop-answered-preserved : goal.loop-answered-preserved
loop-answered-preserved g c =
    let texts = g.K.Keeper.texts in
    let failures = g.K.Keeper.faults in
    let written = g.L.Link.written in
    let faults = g.L.Link.faults in
    let left = g.L.Link.left in
    let plan = c.args.desk.now.plan in
    let count = c.loop-answered.answered in
    let before = state_of c.args.desk.now.sessions (texts c.args.keeper.now) (failures c.args.keeper.now) in
    let state = state_of c.loop-answered.desk.sessions (texts c.loop-answered.keeper)
    (failures c.loop-answered.keeper) in
    let next = state_of c.answer_next.new.desk.sessions (texts c.answer_next.new.keeper)
    (failures c.answer_next.new.keeper) in
    let kept = c.loop-answered.buffer in
    let rest = c.answer_next.new.buffer in
    let here = left c.loop-answered.link in
    let later = left c.answer_next.new.link in
    let old = written c.loop-answered.link in
    let new = written c.answer_next.new.link in
    let first = faults c.loop-answered.link in
    let now = faults c.answer_next.new.link in
    let comes = subst (λ p. HoldsOfAll kept here rest later (λ bytes behind.
    ComesTo p (count + 1) state bytes next behind old new first now course.GoesOn)) c.loop-answered.invariant.plan
    c.in-GoesOn.ensures.comes in
    let further = goes_further plan (left c.args.link.now) kept here rest later count before state next
    (written c.args.link.now) old new first now c.loop-answered.invariant.so_far comes in
    record {
      so_far = further;
      calm = goes_calmly plan (count + 1) state next kept here rest later old new first now comes
          ∙ c.loop-answered.invariant.calm;
      fewer = on_below plan before further.bytes (count + 1) further.written next _ further.talk;
      few = search rules;
      is = search rules;
      plan = search rules;
      begun = search rules;
    }

pub returns-in_default : goal.returns-in_default
returns-in_default g c =
    let texts = g.K.Keeper.texts in
    let failures = g.K.Keeper.faults in
    let written = g.L.Link.written in
    let faults = g.L.Link.faults in
    let left = g.L.Link.left in
    let plan = c.args.desk.now.plan in
    let count = c.loop-answered.answered in
    let state = state_of c.loop-answered.desk.sessions (texts c.loop-answered.keeper)
    (failures c.loop-answered.keeper) in
    let next = state_of c.answer_next.new.desk.sessions (texts c.answer_next.new.keeper)
    (failures c.answer_next.new.keeper) in
    let kept = c.loop-answered.buffer in
    let rest = c.answer_next.new.buffer in
    let here = left c.loop-answered.link in
    let later = left c.answer_next.new.link in
    let old = written c.loop-answered.link in
    let new = written c.answer_next.new.link in
    let first = faults c.loop-answered.link in
    let now = faults c.answer_next.new.link in
    let came = c.answer_next.result in
    record {
      talks = ends_so plan (left c.args.link.now) kept here rest later count
          (state_of c.args.desk.now.sessions (texts c.args.keeper.now) (failures c.args.keeper.now)) state next
          (written c.args.link.now) old new (faults c.args.link.now) first now came
          c.loop-answered.invariant.so_far c.loop-answered.invariant.calm c.in_default.not-GoesOn
          (subst (λ p. HoldsOfAll kept here rest later (λ bytes behind.
          ComesTo p (count + 1) state bytes next behind old new first now came)) c.loop-answered.invariant.plan
          c.answer_next.ensures.comes);
      is = search rules;
      plan = search rules;
      begun = search rules;
      few = search rules;
      later = search rules;
    }
