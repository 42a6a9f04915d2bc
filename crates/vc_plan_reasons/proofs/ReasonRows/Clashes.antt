-- Which clashes show that sources of PUMP contradict each other.
use Rattle.std.proofs.Common.{◌≡◌, List, [], ◌∷◌, ◌++◌, true, false, refl}
use Rattle.std.specs.Prelude.{None, Some, ◌≢◌}
use Rattle.vc_value.specs.declared.table_header.Domain.TheVariants.{Texts}
use Rattle.vc_value.specs.declared.value.Value.TheVariants.{Text}
use Rattle.vc_plan.specs.declared.atoms.Atom.TheVariants.{Out, Is}
use Rattle.vc_plan.specs.declared.atoms.Culprit.TheVariants as culprits
use Rattle.vc_plan.specs.declared.atoms.Mark.TheVariants.{Held, Outside}
use Rattle.vc_plan.specs.declared.atoms.Origin.TheVariants.{Rule}
use Rattle.vc_plan.specs.declared.atoms.Step.{Step}
use Rattle.vc_plan.specs.declared.plans.Plan.{Plan}
use Rattle.vc_plan.specs.declared.rules.Kind.TheVariants.{Among}
use Rattle.vc_plan.specs.declared.rules.Restriction.TheVariants.{Against}
use Rattle.vc_plan.specs.declared.conditions.Relation.TheVariants.{Equal}
use Rattle.vc_plan.specs.Sources.{Sources}
use Rattle.vc_plan.proofs.PlanRows.Models.{empty, root, open_var, rule, pump, users, whole}
use Rattle.vc_plan.proofs.StageRows.Paints.{paint}
use Rattle.vc_plan_reasons.specs.Checking.{is_whole}
use Rattle.vc_plan_reasons.specs.Refuting.{is_trimmed_clash, refutes}
use Rattle.vc_plan_reasons.proofs.ReasonRows.Steps.{step, by_user, clash_of, large_size, no_e1, no_e2}

-- small with E3, and a flow of 5
abbrev small_e3 : Sources
small_e3 = users (Some (Text 0) ∷ Some (Text 5) ∷ Some (whole 5) ∷ [])

abbrev chosen : List Step
chosen = by_user 0 (Text 0) ∷ by_user 1 (Text 5) ∷ by_user 2 (whole 5) ∷ []

-- the table has no row of both
table_clashes : refutes pump small_e3 (clash_of chosen (culprits.Rule 0) (1 ∷ 2 ∷ [])) ≡ true
table_clashes = refl

-- the two values are clear and say all that the user set; but the table still clashes, so they aren't whole
clash_left : is_whole pump (users (Some (Text 0) ∷ Some (Text 5) ∷ [])) (by_user 0 (Text 0) ∷ by_user 1 (Text 5) ∷ [])
    ≡ false
clash_left = refl

clash_is_silent : is_whole pump (users (Some (Text 0) ∷ Some (Text 5) ∷ []))
    (by_user 0 (Text 0) ∷ by_user 1 (Text 5) ∷ []) ≢ true
clash_is_silent e = cc

-- of the size alone there is a row
size_alone : refutes pump small_e3 (clash_of chosen (culprits.Rule 0) (1 ∷ [])) ≡ false
size_alone = refl

large_alone : refutes pump (users (Some (Text 2) ∷ [])) (clash_of (large_size ∷ []) (culprits.Rule 0) (1 ∷ [])) ≢ true
large_alone e = cc

-- what stands and isn't cited doesn't count
uncited : refutes pump small_e3 (clash_of chosen (culprits.Rule 0) []) ≢ true
uncited e = cc

-- the table reads no flow
flow_cited : refutes pump small_e3 (clash_of chosen (culprits.Rule 0) (1 ∷ 2 ∷ 3 ∷ [])) ≢ true
flow_cited e = cc

-- nobody else is to blame for it
last_blamed : refutes pump small_e3 (clash_of chosen (culprits.Rule 1) (1 ∷ 2 ∷ [])) ≢ true
last_blamed e = cc

-- with E3 a pump isn't small, and neither medium: the size set and its grain out collide
abbrev colliding : List Step
colliding = by_user 0 (Text 0) ∷ by_user 1 (Text 5) ∷ step (Out 0 0) (Rule 0) (2 ∷ [])
    ∷ step (Out 0 1) (Rule 0) (2 ∷ []) ∷ []

collides : refutes pump small_e3 (clash_of colliding (culprits.Rule 0) (1 ∷ 3 ∷ [])) ≡ true
collides = refl

-- a premise that isn't needed for that
needless : refutes pump small_e3 (clash_of colliding (culprits.Rule 0) (1 ∷ 3 ∷ 4 ∷ [])) ≡ false
needless = refl

needless_first : refutes pump small_e3 (clash_of colliding (culprits.Rule 0) (1 ∷ 2 ∷ 3 ∷ [])) ≢ true
needless_first e = cc

-- one cited twice is one
twice : refutes pump small_e3 (clash_of colliding (culprits.Rule 0) (1 ∷ 3 ∷ 3 ∷ [])) ≡ true
twice = refl

-- and two steps of one conclusion count as one
two_of_one : refutes pump small_e3
    (clash_of (colliding ++ step (Out 0 0) (Rule 0) (2 ∷ []) ∷ []) (culprits.Rule 0) (1 ∷ 3 ∷ 5 ∷ [])) ≡ true
two_of_one = refl

-- where a variable has one grain, that it is out collides with the slot alone, and no value is needed
abbrev single : Plan
single = record empty {
  domains = Texts (0 ∷ []) ∷ [];
  slots = root ∷ [];
  vars = open_var 0 ∷ [];
  rules = rule 0 (0 ∷ []) (Among 0 (Against Equal (Text 1))) ∷ [];
}

abbrev its_value : Sources
its_value = users (Some (Text 0) ∷ [])

abbrev out_and_value : List Step
out_and_value = by_user 0 (Text 0) ∷ step (Out 0 0) (Rule 0) [] ∷ []

out_alone : refutes single its_value (clash_of out_and_value (culprits.Rule 0) (2 ∷ [])) ≡ true
out_alone = refl

with_value : refutes single its_value (clash_of out_and_value (culprits.Rule 0) (1 ∷ 2 ∷ [])) ≢ true
with_value e = cc

-- the steps must be accepted, and the premises be among them
unaccepted : refutes pump small_e3
    (clash_of (by_user 0 (Text 0) ∷ step (Out 0 0) (Rule 0) [] ∷ []) (culprits.Rule 0) (1 ∷ 2 ∷ [])) ≢ true
unaccepted e = cc

past_the_end : refutes pump small_e3 (clash_of colliding (culprits.Rule 0) (1 ∷ 3 ∷ 5 ∷ [])) ≢ true
past_the_end e = cc

-- a motor that follows, and another by the user: the rule of the last grain isn't to blame, nor the table, which gave
-- neither of them
abbrev two_motors : List Step
two_motors = large_size ∷ no_e1 (1 ∷ []) ∷ no_e2 (1 ∷ []) ∷ step (Is 1 (Text 5)) (Rule 2) (2 ∷ 3 ∷ [])
    ∷ by_user 1 (Text 3) ∷ []

abbrev large_e1 : Sources
large_e1 = users (Some (Text 2) ∷ Some (Text 3) ∷ [])

last_to_blame : refutes pump large_e1 (clash_of two_motors (culprits.Rule 2) (4 ∷ 5 ∷ [])) ≢ true
last_to_blame e = cc

giver_of_neither : refutes pump large_e1 (clash_of two_motors (culprits.Rule 0) (4 ∷ 5 ∷ [])) ≢ true
giver_of_neither e = cc

-- it gave that E1 is out
giver_of_one : refutes pump large_e1 (clash_of two_motors (culprits.Rule 0) (2 ∷ 5 ∷ [])) ≡ true
giver_of_one = refl

-- a statement of a value outside of the list clashes where its slot is here, which number 0 says
abbrev outside : Sources
outside = record { user = []; written = Some (record { mark = Outside; procedure = 1; statement = 0 }) ∷ [] }

statement_clashes : refutes paint outside (clash_of [] (culprits.Written 1 0) (0 ∷ [])) ≡ true
statement_clashes = refl

other_statement : refutes paint outside (clash_of [] (culprits.Written 1 1) []) ≢ true
other_statement e = cc

held : refutes paint
    (record { user = []; written = Some (record { mark = Held (Text 2); procedure = 1; statement = 0 }) ∷ [] })
    (clash_of [] (culprits.Written 1 0) []) ≢ true
held e = cc

-- a statement reads its slot alone
statement_reads : refutes paint (record outside { user = None ∷ Some (Text 3) ∷ [] })
    (clash_of (by_user 1 (Text 3) ∷ []) (culprits.Written 1 0) (1 ∷ [])) ≢ true
statement_reads e = cc

-- a precondition is nobody whom steps refute
precondition : refutes paint outside (clash_of [] (culprits.Hidden 0 2) []) ≢ true
precondition e = cc

-- steps in vain
trimmed : is_trimmed_clash (clash_of colliding (culprits.Rule 0) (1 ∷ 3 ∷ [])) ≡ false
trimmed = refl

trimmed_all : is_trimmed_clash
    (clash_of (by_user 0 (Text 0) ∷ by_user 1 (Text 5) ∷ step (Out 0 0) (Rule 0) (2 ∷ []) ∷ []) (culprits.Rule 0)
    (1 ∷ 3 ∷ [])) ≡ true
trimmed_all = refl

-- the last step of a clash isn't what it is for
last_in_vain : is_trimmed_clash (clash_of chosen (culprits.Rule 0) (1 ∷ 2 ∷ [])) ≢ true
last_in_vain e = cc
