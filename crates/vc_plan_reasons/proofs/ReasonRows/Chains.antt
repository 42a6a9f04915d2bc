-- Which lists of steps of PUMP are accepted, and at which step they aren't.
use Rattle.std.proofs.Common.{◌≡◌, [], ◌∷◌, true, false, refl}
use Rattle.std.specs.Prelude.{None, Some, ◌≢◌}
use Rattle.vc_value.specs.declared.value.Value.TheVariants.{Text}
use Rattle.vc_plan.specs.declared.atoms.Atom.TheVariants.{Here, Out, Is}
use Rattle.vc_plan.specs.declared.atoms.Origin.TheVariants.{Rule, User, Written}
use Rattle.vc_plan.specs.Sources.{Sources}
use Rattle.vc_plan.proofs.PlanRows.Models.{pump, users, whole}
use Rattle.vc_plan_reasons.specs.Checking.{first_refused_step, is_accepted, is_chain_for, is_trimmed_chain, is_whole}
use Rattle.vc_plan_reasons.proofs.ReasonRows.Steps.{step, by_user, large_size, no_e1, no_e2, why_motor, mirror}

abbrev large : Sources
large = users (Some (Text 2) ∷ [])

-- the chain for the motor
motor : is_accepted pump large why_motor ≡ true
motor = refl

motor_unrefused : first_refused_step pump large why_motor ≡ None
motor_unrefused = refl

-- the premise taken out of step 2: E1 doesn't follow from nothing
out_of_step_2 : first_refused_step pump large
    (large_size ∷ no_e1 [] ∷ no_e2 (1 ∷ []) ∷ step (Is 1 (Text 5)) (Rule 2) (2 ∷ 3 ∷ []) ∷ []) ≡ Some 2
out_of_step_2 = refl

counted_from_0 : first_refused_step pump large (large_size ∷ no_e1 [] ∷ []) ≢ Some 1
counted_from_0 e = cc

-- it isn't made up for by what stands
by_what_stands : is_accepted pump large (large_size ∷ no_e1 [] ∷ []) ≢ true
by_what_stands e = cc

-- steps 1 and 2 exchanged: a step cites earlier ones alone
exchanged : first_refused_step pump large
    (no_e1 (2 ∷ []) ∷ large_size ∷ no_e2 (2 ∷ []) ∷ step (Is 1 (Text 5)) (Rule 2) (1 ∷ 3 ∷ []) ∷ []) ≡ Some 1
exchanged = refl

-- nor itself
itself : is_accepted pump large (large_size ∷ no_e1 (2 ∷ []) ∷ []) ≢ true
itself e = cc

-- two steps that cite each other
circle : first_refused_step mirror (users []) (step (Out 0 0) (Rule 0) (2 ∷ []) ∷ step (Out 1 0) (Rule 0) (1 ∷ []) ∷ [])
    ≡ Some 1
circle = refl

circle_accepted : is_accepted mirror (users [])
    (step (Out 0 0) (Rule 0) (2 ∷ []) ∷ step (Out 1 0) (Rule 0) (1 ∷ []) ∷ []) ≢ true
circle_accepted e = cc

-- the second of them follows from the first
after_first : first_refused_step mirror (users []) (step (Out 1 0) (Rule 0) [] ∷ step (Out 0 0) (Rule 0) (1 ∷ []) ∷ [])
    ≡ Some 1
after_first = refl

-- what the user didn't set, or not so
unset : first_refused_step pump (users []) why_motor ≡ Some 1
unset = refl

set_otherwise : is_accepted pump (users (Some (Text 1) ∷ [])) why_motor ≢ true
set_otherwise e = cc

-- a premise that the giver doesn't read: the user's value reads its slot alone, the table no flow
user_reads : first_refused_step pump (users (Some (Text 2) ∷ None ∷ Some (whole 5) ∷ []))
    (by_user 2 (whole 5) ∷ step (Is 0 (Text 2)) User (1 ∷ []) ∷ []) ≡ Some 2
user_reads = refl

table_reads : is_accepted pump (users (Some (Text 2) ∷ None ∷ Some (whole 5) ∷ []))
    (large_size ∷ by_user 2 (whole 5) ∷ no_e1 (1 ∷ 2 ∷ []) ∷ []) ≢ true
table_reads e = cc

-- number 0 is that the root is here, and always allowed
root_cited : is_accepted pump large (step (Is 0 (Text 2)) User (0 ∷ []) ∷ no_e1 (0 ∷ 1 ∷ []) ∷ []) ≡ true
root_cited = refl

root_concluded : is_accepted pump large (step (Here 0) User [] ∷ []) ≢ true
root_concluded e = cc

-- a rule of another number, and a statement that wrote nothing
other_rule : first_refused_step pump large (large_size ∷ step (Out 1 0) (Rule 1) (1 ∷ []) ∷ []) ≡ Some 2
other_rule = refl

no_rule : is_accepted pump large (large_size ∷ step (Out 1 0) (Rule 9) (1 ∷ []) ∷ []) ≢ true
no_rule e = cc

not_written : is_accepted pump large (step (Is 0 (Text 2)) (Written 0 0) [] ∷ []) ≢ true
not_written e = cc

-- what an origin can never conclude
out_by_user : is_accepted pump large (step (Out 0 0) User [] ∷ []) ≢ true
out_by_user e = cc

out_by_last : is_accepted pump large (large_size ∷ no_e1 (1 ∷ []) ∷ step (Out 1 1) (Rule 2) (2 ∷ []) ∷ []) ≢ true
out_by_last e = cc

-- the chain isn't a whole list: that the size is neither S nor M follows too
motor_whole : is_whole pump large why_motor ≡ false
motor_whole = refl

accepted_is_whole : is_whole pump large why_motor ≢ is_accepted pump large why_motor
accepted_is_whole e = cc

all_steps : is_whole pump large
    (large_size ∷ no_e1 (1 ∷ []) ∷ no_e2 (1 ∷ []) ∷ step (Is 1 (Text 5)) (Rule 2) (2 ∷ 3 ∷ [])
    ∷ step (Out 0 0) (Rule 0) (2 ∷ []) ∷ step (Out 0 1) (Rule 0) (2 ∷ 3 ∷ []) ∷ []) ≡ true
all_steps = refl

no_steps : is_whole pump (users []) [] ≡ true
no_steps = refl

no_steps_large : is_whole pump large [] ≢ true
no_steps_large e = cc

-- the chain has no step in vain; with one more it has, wherever that stands
motor_chain : is_trimmed_chain why_motor ≡ true
motor_chain = refl

one_in_vain : is_trimmed_chain
    (large_size ∷ no_e1 (1 ∷ []) ∷ no_e2 (1 ∷ []) ∷ step (Is 1 (Text 5)) (Rule 2) (2 ∷ []) ∷ []) ≡ false
one_in_vain = refl

two_ends : is_trimmed_chain (large_size ∷ no_e1 (1 ∷ []) ∷ no_e2 (1 ∷ []) ∷ []) ≢ true
two_ends e = cc

-- it is a chain for the motor's value, and for nothing that it concludes on the way
motor_reason : is_chain_for pump large (Is 1 (Text 5)) why_motor ≡ true
motor_reason = refl

on_the_way : is_chain_for pump large (Out 1 1) why_motor ≢ true
on_the_way e = cc

no_e1_reason : is_chain_for pump large (Out 1 0) (large_size ∷ no_e1 (1 ∷ []) ∷ []) ≡ true
no_e1_reason = refl

reason_in_vain : is_chain_for pump large (Out 1 0) (large_size ∷ no_e2 (1 ∷ []) ∷ no_e1 (1 ∷ []) ∷ []) ≢ true
reason_in_vain e = cc
