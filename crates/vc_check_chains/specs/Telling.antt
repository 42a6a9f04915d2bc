-- What the steps of a chain tell of its sources: of each variable the first value of the user, and the first that a
-- statement wrote.
use Rattle.std.specs.Prelude.{ℕ, ◌+◌, Bool, false, ◌&&◌, nat_lt, if◌then◌else◌, List, [], ◌∷◌, length, slice_get}
use Rattle.std.specs.Prelude.{Option, None, Some, is_none}
use Rattle.std.specs.Option.{is_some}
use Rattle.vc_value.specs.declared.value.Value.{Value}
use Rattle.vc_base.specs.Chains.{all_pass, cited}
use Rattle.vc_plan.specs.declared.atoms.Atom.{Atom}
use Rattle.vc_plan.specs.declared.atoms.Atom.TheVariants.{Here, Out, Is}
use Rattle.vc_plan.specs.declared.atoms.Culprit.{Culprit}
use Rattle.vc_plan.specs.declared.atoms.Culprit.TheVariants as culprits
use Rattle.vc_plan.specs.declared.atoms.Mark.TheVariants.{Held, Outside}
use Rattle.vc_plan.specs.declared.atoms.Origin.{Origin}
use Rattle.vc_plan.specs.declared.atoms.Origin.TheVariants.{Rule, User, Written}
use Rattle.vc_plan.specs.declared.atoms.Step.{Step}
use Rattle.vc_plan.specs.declared.plans.Plan.{Plan}
use Rattle.vc_plan.specs.declared.procedures.FilledColumn.{FilledColumn}
use Rattle.vc_plan.specs.declared.procedures.Procedure.{Procedure}
use Rattle.vc_plan.specs.declared.procedures.Statement.{Statement}
use Rattle.vc_plan.specs.Clear.{is_clear}
use Rattle.vc_plan.specs.LookUps.{action_writes}
use Rattle.vc_plan.specs.Sources.{Sources, entry_of, user_of}
use Rattle.vc_plan_reasons.specs.Checking.{concluded, set_with}
use Rattle.vc_plan_sources.specs.Changes.{entry_from, no_sources, with_entry, with_user}

-- a value of the user's, and one that a statement wrote, of a variable that has none yet
abbrev pub with_value : Plan → Sources → ℕ → Value → Sources
with_value plan sources v a =
    if nat_lt v (length plan.vars) && is_none (user_of sources v) then with_user sources v (Some a) else sources

abbrev pub with_written : Plan → Sources → ℕ → Value → ℕ → ℕ → Sources
with_written plan sources v a procedure statement =
    if nat_lt v (length plan.vars) && is_none (entry_of sources v)
    then with_entry sources v (Some (entry_from (Held a, procedure, statement)))
    else sources

-- what a step tells
abbrev pub told_by : Plan → Sources → Origin → Atom → Sources
told_by plan sources (Rule r) atom = sources
told_by plan sources User (Here i) = sources
told_by plan sources User (Out v g) = sources
told_by plan sources User (Is v a) = with_value plan sources v a
told_by plan sources (Written procedure statement) (Here i) = sources
told_by plan sources (Written procedure statement) (Out v g) = sources
told_by plan sources (Written procedure statement) (Is v a) = with_written plan sources v a procedure statement

abbrev pub with_step : Plan → Sources → Step → Sources
with_step plan sources step = told_by plan sources step.origin step.conclusion

abbrev pub with_steps : Plan → Sources → List Step → Sources
with_steps plan sources [] = sources
with_steps plan sources (step ∷ steps) = with_steps plan (with_step plan sources step) steps

abbrev pub sources_told : Plan → List Step → Sources
sources_told plan steps = with_steps plan (no_sources (length plan.vars)) steps

-- whether it tells of a variable what steps before it told, and the number of the first step that does
abbrev pub is_again : Sources → Origin → Atom → Bool
is_again sources (Rule r) atom = false
is_again sources User (Here i) = false
is_again sources User (Out v g) = false
is_again sources User (Is v a) = is_some (user_of sources v)
is_again sources (Written procedure statement) (Here i) = false
is_again sources (Written procedure statement) (Out v g) = false
is_again sources (Written procedure statement) (Is v a) = is_some (entry_of sources v)

abbrev pub first_again_from : Plan → Sources → ℕ → List Step → Option ℕ
first_again_from plan sources n [] = None
first_again_from plan sources n (step ∷ steps) =
    if is_again sources step.origin step.conclusion
    then Some n
    else first_again_from plan (with_step plan sources step) (n + 1) steps

abbrev pub first_again : Plan → List Step → Option ℕ
first_again plan steps = first_again_from plan (no_sources (length plan.vars)) 1 steps

-- the first variable that a statement writes, if it writes any
abbrev pub first_of : List ℕ → Option ℕ
first_of [] = None
first_of (v ∷ vars) = Some v

abbrev pub first_filled : List FilledColumn → Option ℕ
first_filled [] = None
first_filled (column ∷ filled) = Some column.var

abbrev pub first_in : Option Statement → Option ℕ
first_in None = None
first_in (Some statement) = first_of (action_writes statement.action)

abbrev pub first_by : ℕ → Option Procedure → Option ℕ
first_by statement None = None
first_by statement (Some procedure) = first_in (slice_get procedure.statements statement)

abbrev pub first_written : Plan → ℕ → ℕ → Option ℕ
first_written plan procedure statement = first_by statement (slice_get plan.procedures procedure)

-- the sources where the statement wrote a value there that no grain holds
abbrev pub with_outside_at : Plan → Sources → ℕ → ℕ → Option ℕ → Sources
with_outside_at plan sources procedure statement None = sources
with_outside_at plan sources procedure statement (Some v) =
    if nat_lt v (length plan.vars)
    then with_entry sources v (Some (entry_from (Outside, procedure, statement)))
    else sources

abbrev pub with_outside : Plan → Sources → Culprit → Sources
with_outside plan sources (culprits.Rule r) = sources
with_outside plan sources (culprits.Written procedure statement) =
    with_outside_at plan sources procedure statement (first_written plan procedure statement)
with_outside plan sources (culprits.Hidden d v) = sources
with_outside plan sources (culprits.HiddenSet d s) = sources

-- whether all is there that the numbers cite, and it is clear
abbrev pub is_clear_with : Plan → List Atom → Bool
is_clear_with plan atoms = is_clear plan (set_with atoms)

abbrev pub cites_clear : Plan → List Step → List ℕ → Bool
cites_clear plan steps numbers = all_pass (is_clear_with plan) (cited (concluded steps) numbers)

-- the sources of a chain that ends with a clash: what its steps tell, and where its premises are clear what its
-- statement wrote
abbrev pub sources_to : Plan → List Step → Culprit → List ℕ → Sources
sources_to plan steps culprit numbers =
    if cites_clear plan steps numbers
    then with_outside plan (sources_told plan steps) culprit
    else sources_told plan steps
