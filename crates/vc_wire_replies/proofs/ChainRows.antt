-- Worked chains, by computing, and the likeliest slips beside them.
use Rattle.std.proofs.Common.{◌≡◌, ℕ, List, [], ◌∷◌, ◌++◌, arith, ap, refl}
use Rattle.std.specs.Prelude.{◌≢◌, Box, codes, slice_index_or}
use Rattle.std.specs.Fmt.{digits}
use Rattle.std.specs.declared.alloc.Global.{Global}
use Rattle.vc_value.specs.declared.value.Value.TheVariants.{Text}
use Rattle.vc_plan.specs.declared.atoms.Atom.{Atom}
use Rattle.vc_plan.specs.declared.atoms.Atom.TheVariants.{Here, Out, Is}
use Rattle.vc_plan.specs.declared.atoms.Clash.{Clash}
use Rattle.vc_plan.specs.declared.atoms.Culprit.TheVariants as culprits
use Rattle.vc_plan.specs.declared.atoms.Origin.{Origin}
use Rattle.vc_plan.specs.declared.atoms.Origin.TheVariants.{Rule, User, Written}
use Rattle.vc_plan.specs.declared.atoms.Step.{Step}
use Rattle.vc_plan.specs.declared.rules.Kind.TheVariants.{Line}
use Rattle.vc_plan.proofs.PlanRows.Models.{own_rule, whole}
use Rattle.vc_plan.proofs.PlanRows.WholeModels.{whole_machine, whole_paint, whole_pump, whole_step}
use Rattle.vc_wire_replies.specs.Chains.{clash_line, from_text, origin_text, step_line}
use Rattle.vc_wire_replies.specs.Replies.{reply_text}
use Rattle.vc_wire_replies.specs.declared.reply.Refusal.TheVariants as refusals
use Rattle.vc_wire_replies.specs.declared.reply.Reply.TheVariants as replies

abbrev step : Atom → Origin → List ℕ → Step
step atom origin premises = record { conclusion = atom; origin = origin; premises = premises }

-- why the motor of a large PUMP is E3
abbrev why_motor : List Step
why_motor =
    step (Is 0 (Text 2)) User []
    ∷ step (Out 1 0) (Rule 0) (1 ∷ [])
    ∷ step (Out 1 1) (Rule 0) (1 ∷ [])
    ∷ step (Is 1 (Text 5)) (Rule 2) (2 ∷ 3 ∷ [])
    ∷ []

motor : (p : Box (Unit {0}) Global) → reply_text (whole_pump p) (replies.Chain why_motor)
    ≡ codes "chain\n1 is 0 SIZE 'L' by user\n"
    ++ codes "2 out 0 MOTOR 'E1' by constraint C_SM 1 at 0 from 1\n"
    ++ codes "3 out 0 MOTOR 'E2' by constraint C_SM 1 at 0 from 1\n"
    ++ codes "4 is 0 MOTOR 'E3' by last from 2 3\nend\n"
unfolding digits
motor p = refl

counted_from_0 : (p : Box (Unit {0}) Global)
    → reply_text (whole_pump p) (replies.Chain (step (Is 0 (Text 2)) User [] ∷ [])) ≢
    codes "chain\n0 is 0 SIZE 'L' by user\nend\n"
unfolding digits
counted_from_0 p e = let first : 49 ≡ 48 = ap (λ text. slice_index_or text 6 0) e in absurd (omega (arith, first))

-- a list of all that follows, and one of nothing
all_of_the_user : (p : Box (Unit {0}) Global)
    → reply_text (whole_pump p) (replies.Whole (step (Is 0 (Text 2)) User [] ∷ []))
    ≡ codes "whole\n1 is 0 SIZE 'L' by user\nend\n"
unfolding digits
all_of_the_user p = refl

nothing : reply_text whole_paint (replies.Whole []) ≡ codes "whole\nend\n"
nothing = refl

nothing_of_a_chain : reply_text whole_paint (replies.Whole []) ≢ codes "chain\nend\n"
nothing_of_a_chain e = let first : 119 ≡ 99 = ap (λ text. slice_index_or text 0 0) e in absurd (omega (arith, first))

-- a small one with E3
abbrev small_with_large : Clash
small_with_large = record {
  steps = step (Is 0 (Text 0)) User [] ∷ step (Is 1 (Text 5)) User [] ∷ [];
  culprit = culprits.Rule 0;
  premises = 1 ∷ 2 ∷ [];
}

contradicts : (p : Box (Unit {0}) Global) → reply_text (whole_pump p) (replies.Clashed small_with_large)
    ≡ codes "chain\n1 is 0 SIZE 'S' by user\n2 is 0 MOTOR 'E3' by user\n"
    ++ codes "clash by constraint C_SM 1 at 0 from 1 2\nend\n"
unfolding digits
contradicts p = refl

clash_first : (p : Box (Unit {0}) Global) → reply_text (whole_pump p) (replies.Clashed small_with_large) ≢
    codes "chain\nclash by constraint C_SM 1 at 0 from 1 2\n"
    ++ codes "1 is 0 SIZE 'S' by user\n2 is 0 MOTOR 'E3' by user\nend\n"
unfolding digits
clash_first p e = let first : 49 ≡ 99 = ap (λ text. slice_index_or text 6 0) e in absurd (omega (arith, first))

-- a statement that contradicts of itself
by_a_statement : clash_line whole_paint (record { steps = []; culprit = culprits.Written 1 0; premises = 0 ∷ [] })
    ≡ codes "clash by procedure P_GREEN 1 at 0\n"
unfolding digits
by_a_statement = refl

-- a precondition is told alone
hidden : reply_text whole_paint (replies.Hidden (culprits.Hidden 0 2)) ≡ codes "precondition PRE_LUX at 0 TRIM\n"
unfolding digits
hidden = refl

-- an instance is here by a line, with its selection condition or without one
by_a_selection : step_line whole_machine 2 (step (Here 1) (Rule 2) (1 ∷ [])) ≡ codes "2 here 1 by line 1 from 1\n"
unfolding digits
by_a_selection = refl

by_its_line : step_line (record whole_machine { rules = own_rule 0 (Line 1) ∷ [] }) 1 (step (Here 1) (Rule 0) (0 ∷ []))
    ≡ codes "1 here 1 by line 0\n"
unfolding digits
by_its_line = refl

-- a value that a statement wrote
written : step_line whole_paint 12 (step (Is 0 (Text 2)) (Written 1 0) (0 ∷ 11 ∷ []))
    ≡ codes "12 is 0 COLOR 'GREEN' by procedure P_GREEN 1 at 0 from 11\n"
unfolding digits
written = refl

-- numbers: a value, a grain of one value, and a grain of more
number : (p : Box (Unit {0}) Global)
    → step_line (whole_step p) 1 (step (Is 0 (whole 3)) User []) ≡ codes "1 is 0 STEPS 3 by user\n"
unfolding digits
number p = refl

one_number : (p : Box (Unit {0}) Global) → step_line (whole_step p) 2 (step (Out 1 3) (Rule 0) (1 ∷ []))
    ≡ codes "2 out 0 FLOW 10 by constraint C_FLOW 1 at 0 from 1\n"
unfolding digits
one_number p = refl

interval : (p : Box (Unit {0}) Global) → step_line (whole_step p) 3 (step (Out 1 4) (Rule 0) (1 ∷ []))
    ≡ codes "3 out 0 FLOW 10.1 .. 100 by constraint C_FLOW 1 at 0 from 1\n"
unfolding digits
interval p = refl

-- that the root is here is no step
from_nothing : from_text [] ≡ []
from_nothing = refl

from_the_root : from_text (0 ∷ []) ≡ []
from_the_root = refl

from_the_root_and_a_step : from_text (0 ∷ 1 ∷ []) ≡ codes " from 1"
unfolding digits
from_the_root_and_a_step = refl

root_told : from_text (0 ∷ 1 ∷ []) ≢ codes " from 0 1"
unfolding digits
root_told e = let told : 49 ≡ 48 = ap (λ text. slice_index_or text 6 0) e in absurd (omega (arith, told))

-- a rule is told by its kind, and not by its number
by_rule : (p : Box (Unit {0}) Global) → origin_text (whole_pump p) (Rule 0) ≢ codes "rule 0"
unfolding digits
by_rule p e = let told : 99 ≡ 114 = ap (λ text. slice_index_or text 0 0) e in absurd (omega (arith, told))

last_as_a_constraint : (p : Box (Unit {0}) Global) → origin_text (whole_pump p) (Rule 2) ≢ codes "constraint  0 at "
unfolding digits
last_as_a_constraint p e = let told : 108 ≡ 99 = ap (λ text. slice_index_or text 0 0) e in absurd (omega (arith, told))

-- what the plan hasn't is nothing
past_the_end : step_line whole_machine 1 (step (Out 7 0) (Rule 9) []) ≡ codes "1 out    by \n"
unfolding digits
past_the_end = refl

no_conflict : reply_text whole_paint (replies.Refused refusals.NoConflict) ≡ codes "refused 12 NoConflict\n"
no_conflict = refl

not_inferred : reply_text whole_paint (replies.Refused refusals.NotInferred) ≡ codes "refused 13 NotInferred\n"
not_inferred = refl
