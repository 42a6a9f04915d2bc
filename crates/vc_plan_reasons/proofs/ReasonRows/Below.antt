-- A slot below the root: what stands there waits for it, and whoever is to blame reads it.
use Rattle.std.proofs.Common.{◌≡◌, ℕ, Bool, true, false, List, [], ◌∷◌, map, refl}
use Rattle.std.specs.Prelude.{None, Some, ◌≢◌}
use Rattle.vc_value.specs.declared.table_header.Domain.TheVariants.{Texts}
use Rattle.vc_value.specs.declared.value.Value.TheVariants.{Text}
use Rattle.vc_plan.specs.declared.atoms.Atom.TheVariants.{Here, Out, Is}
use Rattle.vc_plan.specs.declared.atoms.Culprit.{Culprit}
use Rattle.vc_plan.specs.declared.atoms.Culprit.TheVariants as culprits
use Rattle.vc_plan.specs.declared.atoms.Mark.{Mark}
use Rattle.vc_plan.specs.declared.atoms.Mark.TheVariants.{Held, Outside}
use Rattle.vc_plan.specs.declared.atoms.Origin.TheVariants.{Rule, User, Written}
use Rattle.vc_plan.specs.declared.atoms.Step.{Step}
use Rattle.vc_plan.specs.declared.conditions.Condition.TheVariants.{Always, Compared}
use Rattle.vc_plan.specs.declared.conditions.Relation.TheVariants.{Equal}
use Rattle.vc_plan.specs.declared.plans.Plan.{Plan}
use Rattle.vc_plan.specs.declared.procedures.Action.TheVariants.{Assign, DeleteDefault}
use Rattle.vc_plan.specs.declared.rules.Kind.TheVariants.{Among, Line, Never}
use Rattle.vc_plan.specs.declared.rules.Restriction.TheVariants.{Against}
use Rattle.vc_plan.specs.declared.terms.Term.TheVariants.{Literal, Read}
use Rattle.vc_plan.specs.Gives.{by_entry, by_user}
use Rattle.vc_plan.specs.Sources.{Sources}
use Rattle.vc_plan.proofs.PlanRows.Models.{empty, fixed_var, last, of, own_rule, root, rule}
use Rattle.vc_plan.proofs.StageRows.StageModels.{always, says}
use Rattle.vc_plan_reasons.specs.Checking.{is_accepted}
use Rattle.vc_plan_reasons.specs.Refuting.{culprit_reads, refutes}
use Rattle.vc_plan_reasons.specs.Things.{giver_reads, slot_at}
use Rattle.vc_plan_reasons.proofs.ReasonRows.Steps.{by_user as chosen, clash_of, step}

-- MACH: variable 0 is DRIVEN of the root, Y 0 or N 1, and variable 1 POWER of its drive, P1 2 or P2 3. Rule 0 brings
-- the drive
-- where DRIVEN is Y, rule 3 excludes P1, rule 4 excludes P2, and rule 5 says that POWER isn't P2. A procedure of the
-- drive has
-- two statements that set POWER, and a third that takes its default away
abbrev pub drive : Plan
drive = record empty {
  domains = Texts (0 ∷ 1 ∷ []) ∷ Texts (2 ∷ 3 ∷ []) ∷ [];
  slots = root ∷ record { parent = Some 0; depth = 1; object = 1; line = 0 } ∷ [];
  vars = fixed_var 0 ∷ record { slot = 1; characteristic = 1; domain = 1; restrictable = true } ∷ [];
  conditions = Always ∷ Compared Equal (Read 0) (Literal (Text 0)) ∷ Compared Equal (Read 1) (Literal (Text 3)) ∷ [];
  terms = Literal (Text 2) ∷ Literal (Text 3) ∷ [];
  rules =
      of 0 1 (own_rule 1 (Line 1)) ∷ last 0 ∷ last 1
      ∷ record (rule 0 (1 ∷ []) (Among 1 (Against Equal (Text 3)))) { slots = 1 ∷ [] }
      ∷ record (rule 0 (1 ∷ []) (Among 1 (Against Equal (Text 2)))) { slots = 1 ∷ [] }
      ∷ record (rule 2 [] Never) { slots = 1 ∷ [] } ∷ [];
  procedures = always 1 (says (Assign 1 0) 0 ∷ says (Assign 1 1) 0 ∷ says (DeleteDefault 1 0) 0 ∷ []) ∷ [];
}

abbrev yes : Step
yes = chosen 0 (Text 0)

abbrev here : Step
here = step (Here 1) (Rule 0) (1 ∷ [])

-- DRIVEN is Y, POWER P2 by the user, and so marked by a statement
abbrev pub marked : Mark → ℕ → Sources
marked mark statement = record {
  user = Some (Text 0) ∷ Some (Text 3) ∷ [];
  written = None ∷ Some (record { mark = mark; procedure = 0; statement = statement }) ∷ [];
}

-- a value stands where its slot is here, which it reads, and nothing else
abbrev accepts : List Step → Bool
accepts steps = is_accepted drive (marked (Held (Text 2)) 1) (yes ∷ here ∷ steps)

by_users : accepts (step (Is 1 (Text 3)) User (2 ∷ []) ∷ []) ≡ true
by_users = refl

by_statements : accepts (step (Is 1 (Text 2)) (Written 0 1) (2 ∷ []) ∷ []) ≡ true
by_statements = refl

from_nothing : map (λ origin. accepts (step (Is 1 (Text 3)) origin [] ∷ [])) (User ∷ Written 0 1 ∷ [])
    ≡ false ∷ false ∷ []
from_nothing = refl

from_root : accepts (step (Is 1 (Text 2)) (Written 0 1) (0 ∷ []) ∷ []) ≢ true
from_root e = cc

from_driven : accepts (step (Is 1 (Text 2)) (Written 0 1) (1 ∷ 2 ∷ []) ∷ []) ≢ true
from_driven e = cc

by_first : accepts (step (Is 1 (Text 2)) (Written 0 0) (2 ∷ []) ∷ []) ≢ true
by_first e = cc

sources_read : (giver_reads drive (by_user 1) ≡ slot_at 1 ∷ []) × (giver_reads drive (by_entry 1) ≡ slot_at 1 ∷ [])
    × (culprit_reads drive (culprits.Written 0 1) ≡ slot_at 1 ∷ [])
sources_read = (refl, refl, refl)

root_read : culprit_reads drive (culprits.Written 0 1) ≢ slot_at 0 ∷ []
root_read e = cc

none_read : giver_reads drive (by_entry 1) ≢ []
none_read e = cc

-- a statement whose value lies outside clashes where the drive is here; the second, not the first
abbrev clashes : Culprit → List ℕ → Bool
clashes culprit premises = refutes drive (marked Outside 1) (clash_of (yes ∷ here ∷ []) culprit premises)

second_clashes : clashes (culprits.Written 0 1) (2 ∷ []) ≡ true
second_clashes = refl

first_clashes : clashes (culprits.Written 0 0) (2 ∷ []) ≢ true
first_clashes e = cc

clashes_anywhere : map (clashes (culprits.Written 0 1)) ([] ∷ (0 ∷ []) ∷ (1 ∷ 2 ∷ []) ∷ []) ≡ false ∷ false ∷ false ∷ []
clashes_anywhere = refl

-- the drive with both powers out: each rule that gave one of them is to blame, and not the one that brought the drive
abbrev without_power : List Step
without_power = yes ∷ here ∷ step (Out 1 0) (Rule 3) (2 ∷ []) ∷ step (Out 1 1) (Rule 4) (2 ∷ []) ∷ []

abbrev exhausts : ℕ → Bool
exhausts r = refutes drive (marked Outside 1) (clash_of without_power (culprits.Rule r) (2 ∷ 3 ∷ 4 ∷ []))

exhausted_by : map exhausts (3 ∷ 4 ∷ []) ≡ true ∷ true ∷ []
exhausted_by = refl

line_blamed : exhausts 0 ≢ true
line_blamed e = cc

-- without the slot they don't collide, and with DRIVEN they need too much
slot_needed : map (λ premises. refutes drive (marked Outside 1) (clash_of without_power (culprits.Rule 3) premises))
    ((3 ∷ 4 ∷ []) ∷ (1 ∷ 2 ∷ 3 ∷ 4 ∷ []) ∷ []) ≡ false ∷ false ∷ []
slot_needed = refl

-- the user's P2 and the statement's P1: the second statement is to blame, and the user never
abbrev two_values : List Step
two_values =
    yes ∷ here ∷ step (Is 1 (Text 3)) User (2 ∷ []) ∷ step (Is 1 (Text 2)) (Written 0 1) (2 ∷ []) ∷ []

statement_blamed : refutes drive (marked (Held (Text 2)) 1) (clash_of two_values (culprits.Written 0 1) (3 ∷ 4 ∷ []))
    ≡ true
statement_blamed = refl

first_blamed : refutes drive (marked (Held (Text 2)) 1) (clash_of two_values (culprits.Written 0 0) (3 ∷ 4 ∷ [])) ≢ true
first_blamed e = cc

-- P2 must not be, where the drive is here: the rule reads both
abbrev never : List ℕ → Bool
never premises = refutes drive (marked Outside 1)
    (clash_of (yes ∷ here ∷ step (Is 1 (Text 3)) User (2 ∷ []) ∷ []) (culprits.Rule 5) premises)

never_clashes : map never ((2 ∷ 3 ∷ []) ∷ (3 ∷ []) ∷ (2 ∷ []) ∷ (1 ∷ 2 ∷ 3 ∷ []) ∷ [])
    ≡ true ∷ false ∷ false ∷ false ∷ []
never_clashes = refl
