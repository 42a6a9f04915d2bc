-- Worked replies, by computing, and the likeliest slips beside them.
use Rattle.std.proofs.Common.{◌≡◌, [], ◌∷◌, ap, arith, length, refl, Some}
use Rattle.std.specs.Prelude.{◌≢◌, Box, codes, slice_index_or}
use Rattle.std.specs.Fmt.{digits}
use Rattle.std.specs.declared.alloc.Global.{Global}
use Rattle.vc_plan.specs.declared.atoms.Culprit.TheVariants as culprits
use Rattle.vc_plan.specs.declared.rules.Kind.TheVariants.{Never}
use Rattle.vc_plan.specs.declared.rules.Rule.{Rule}
use Rattle.vc_plan.specs.declared.shown.Status.TheVariants.{Unfinished, Complete, Contradiction}
use Rattle.vc_plan.proofs.PlanRows.WholeModels.{whole_machine, whole_paint, whole_pump}
use Rattle.vc_wire_replies.specs.Culprits.{culprit_text, status_text}
use Rattle.vc_wire_replies.specs.Replies.{refusal_text, reply_text}
use Rattle.vc_wire_replies.specs.declared.reply.Refusal.TheVariants as refusals
use Rattle.vc_wire_replies.specs.declared.reply.Reply.TheVariants as replies
use Rattle.vc_wire_replies.specs.declared.reply.SavedRefusal.TheVariants as saved

-- PUMP with its size S and its motor E3
contradicted : (p : Box (Unit {0}) Global)
    → reply_text (whole_pump p) (replies.Done (Contradiction (culprits.Rule 0)))
    ≡ codes "ok contradiction constraint C_SM 1 at 0\n"
unfolding digits
contradicted p = refl

open_and_complete : reply_text whole_paint (replies.Done Unfinished) ≡ codes "ok open\n"
open_and_complete = refl

complete : reply_text whole_paint (replies.Shown Complete (codes "instance 0 PAINT\n"))
    ≡ codes "status complete\ninstance 0 PAINT\nend\n"
complete = refl

-- PAINT with BLUE and H: the second procedure's first statement; with LUX and H: the precondition at TRIM
by_a_procedure : status_text whole_paint (Contradiction (culprits.Written 1 0))
    ≡ codes "contradiction procedure P_GREEN 1 at 0"
unfolding digits
by_a_procedure = refl

by_a_precondition : culprit_text whole_paint (culprits.Hidden 0 2) ≡ codes "precondition PRE_LUX at 0 TRIM"
unfolding digits
by_a_precondition = refl

of_a_set : culprit_text whole_paint (culprits.HiddenSet 0 0) ≡ codes "precondition PRE_LUX at 0 OPT"
unfolding digits
of_a_set = refl

-- a rule of two slots, and one below the root
abbrev of_two : Rule
of_two = record { dependency = Some 0; number = 12; slots = 0 ∷ 11 ∷ []; condition = 0; inferred = []; kind = Never }

two_slots : culprit_text (record whole_machine { rules = of_two ∷ [] }) (culprits.Rule 0)
    ≡ codes "constraint S_DRIVE 12 at 0,11"
unfolding digits
two_slots = refl

an_empty_bill : reply_text whole_paint (replies.BillShown Complete []) ≡ codes "status complete\nend\n"
an_empty_bill = refl

refused : reply_text whole_paint (replies.Refused refusals.NotHere) ≡ codes "refused 6 NotHere\n"
refused = refl

nothing_saved : reply_text whole_paint (replies.Refused refusals.NothingSaved) ≡ codes "refused 8 NothingSaved\n"
nothing_saved = refl

-- what is saved is refused with a number of its own behind the name
no_json : reply_text whole_paint (replies.Refused (refusals.SavedRefused saved.NotJson))
    ≡ codes "refused 9 SavedRefused 1\n"
no_json = refl

of_another_model : reply_text whole_paint (replies.Refused (refusals.SavedRefused saved.OtherModel))
    ≡ codes "refused 9 SavedRefused 3\n"
of_another_model = refl

counted_from_0 : refusal_text (refusals.SavedRefused saved.NotJson) ≢ codes "9 SavedRefused 0"
counted_from_0 e = let own : 49 ≡ 48 = ap (λ text. slice_index_or text 15 0) e in absurd (omega (arith, own))

without_its_number : refusal_text (refusals.SavedRefused saved.Shape) ≢ codes "9 SavedRefused"
without_its_number e = let own : 16 ≡ 14 = ap length e in absurd (omega (arith, own))

keeper_fault : reply_text whole_paint (replies.Refused refusals.KeeperFault) ≡ codes "refused 10 KeeperFault\n"
keeper_fault = refl

saved_values : reply_text whole_paint replies.Saved ≡ codes "ok saved\n"
saved_values = refl

forgotten : reply_text whole_paint replies.Forgotten ≡ codes "ok forgotten\n"
forgotten = refl

closed_for_saved : reply_text whole_paint replies.Saved ≢ codes "ok closed\n"
closed_for_saved e = let first : 115 ≡ 99 = ap (λ text. slice_index_or text 3 0) e in absurd (omega (arith, first))

no_request : reply_text whole_paint replies.NotARequest ≡ codes "refused 0 NotARequest\n"
no_request = refl
