-- No slot is flagged.
use Rattle.std.proofs.Common.{◌≡◌, ◌∙◌, arith, false, length, refl, subst, sym}
use Rattle.vc_session_evaluation.proofs.FillLemmas.{IsFilled, filled_all, filled_next, filled_none}
use Rattle.vc_session_evaluation.proofs.OnceLaws.{none_flagged}
use Rattle.vc_session_evaluation.proofs.lateness.flag_none.Goals as goal

pub loop-slot-init : goal.loop-slot-init
loop-slot-init c = filled_none (λ i. false) c.args.late.now

pub loop-slot-preserved : goal.loop-slot-preserved
loop-slot-preserved c =
    filled_next (λ i. false) c.args.late.now c.loop-slot.late c.set.new.self false c.loop-slot.slot
    (omega (arith, c.loop-slot-test.true, c.len-slot-end.ensures)) c.loop-slot.invariant refl c.set.ensures

pub returns : goal.returns
returns c =
    let all : c.loop-slot.slot ≡ length c.args.late.now =
    omega (arith, c.loop-slot-test.false, c.loop-slot.auto.slot-end, c.len-slot-end.ensures) in
    filled_all (λ i. false) c.args.late.now c.loop-slot.late (length c.args.late.now)
    (subst (IsFilled (λ i. false) c.args.late.now c.loop-slot.late) all c.loop-slot.invariant) refl
    ∙ sym (none_flagged (λ i. false) 0 (length c.args.late.now) (λ i. refl))
