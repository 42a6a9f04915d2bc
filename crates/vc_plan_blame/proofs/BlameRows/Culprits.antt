-- Whom blame names, on small plans: never the user, never the rule of a last grain.
use Rattle.std.proofs.Common.{◌≡◌, ℕ, Bool, true, false, List, [], ◌∷◌, refl}
use Rattle.std.specs.Prelude.{Option, None, Some, ◌≢◌}
use Rattle.vc_base.specs.Rounds.{broken}
use Rattle.vc_value.specs.declared.table_header.Domain.TheVariants.{Texts}
use Rattle.vc_value.specs.declared.value.Value.TheVariants.{Text}
use Rattle.vc_plan.specs.declared.atoms.Atom.TheVariants.{Out, Is}
use Rattle.vc_plan.specs.declared.atoms.Clash.{Clash}
use Rattle.vc_plan.specs.declared.atoms.Culprit.{Culprit}
use Rattle.vc_plan.specs.declared.atoms.Culprit.TheVariants as culprits
use Rattle.vc_plan.specs.declared.atoms.Mark.TheVariants.{Held}
use Rattle.vc_plan.specs.declared.atoms.Origin.TheVariants.{Rule, User, Written}
use Rattle.vc_plan.specs.declared.atoms.Step.{Step}
use Rattle.vc_plan.specs.declared.conditions.Relation.TheVariants.{Equal, Unequal}
use Rattle.vc_plan.specs.declared.plans.Plan.{Plan}
use Rattle.vc_plan.specs.declared.rules.Kind.TheVariants.{Among}
use Rattle.vc_plan.specs.declared.rules.Restriction.TheVariants.{Against}
use Rattle.vc_plan.specs.Gives.{by_rule, by_entry}
use Rattle.vc_plan.specs.Gives as givers
use Rattle.vc_plan.specs.Settle.{settlement_of}
use Rattle.vc_plan.specs.Sources.{Sources}
use Rattle.vc_plan.proofs.PlanRows.Models.{empty, fixed_var, last, open_var, pump, root, rule, three_grains, users}
use Rattle.vc_plan.proofs.PlanRows.Models.{whole}
use Rattle.vc_plan_reasons.specs.Fitting.{sources_fit}
use Rattle.vc_plan_reasons.specs.Refuting.{refutes}
use Rattle.vc_plan_reasons.proofs.ReasonRows.Steps.{step, by_user, clash_of, large_size, no_e1, no_e2}
use Rattle.vc_plan_blame.specs.Blame.{blame, culprit_from, culprit_giving, culprit_of}

-- whether there is a clash, and it refutes
abbrev refuted_by : Plan → Sources → Option Clash → Bool
refuted_by plan sources None = false
refuted_by plan sources (Some clash) = refutes plan sources clash

-- its culprit and the numbers of its premises
data Told : Type 0 where
  nobody : Told
  named : Culprit → List ℕ → Told

abbrev told : Option Clash → Told
told None = nobody
told (Some clash) = named clash.culprit clash.premises

-- PUMP is large, so its motor is E3 by the last grain; the user wants E1. The user isn't to blame, and the last grain's
-- rule
-- isn't either: behind it stands the table, by which E1 is out
abbrev two_motors : List Step
two_motors = large_size ∷ no_e1 (1 ∷ []) ∷ no_e2 (1 ∷ []) ∷ step (Is 1 (Text 5)) (Rule 2) (2 ∷ 3 ∷ [])
    ∷ by_user 1 (Text 3) ∷ []

abbrev large_e1 : Sources
large_e1 = users (Some (Text 2) ∷ Some (Text 3) ∷ [])

behind_last : blame pump two_motors (Is 1 (Text 3)) ≡ Some (clash_of two_motors (culprits.Rule 0) (2 ∷ 5 ∷ []))
behind_last = refl

last_blamed : told (blame pump two_motors (Is 1 (Text 3))) ≢ named (culprits.Rule 2) (4 ∷ 5 ∷ [])
last_blamed e = apart e
  where
    apart : named (culprits.Rule 0) (2 ∷ 5 ∷ []) ≡ named (culprits.Rule 2) (4 ∷ 5 ∷ []) → ⊥
    apart q = cc

values_cited : told (blame pump two_motors (Is 1 (Text 3))) ≢ named (culprits.Rule 0) (4 ∷ 5 ∷ [])
values_cited e = apart e
  where
    apart : named (culprits.Rule 0) (2 ∷ 5 ∷ []) ≡ named (culprits.Rule 0) (4 ∷ 5 ∷ []) → ⊥
    apart q = cc

it_refutes : refuted_by pump large_e1 (blame pump two_motors (Is 1 (Text 3))) ≡ true
it_refutes = refl

-- of the two values alone nobody would be to blame
of_values : culprit_of pump two_motors (4 ∷ 5 ∷ []) ≡ None
of_values = refl

-- a statement wants E1: it is as much to blame as the table, and the first that is cited is named
abbrev stated : List Step
stated = large_size ∷ step (Is 1 (Text 3)) (Written 0 0) [] ∷ no_e1 (1 ∷ []) ∷ []

abbrev large_stated : Sources
large_stated = record {
  user = Some (Text 2) ∷ [];
  written = None ∷ Some (record { mark = Held (Text 3); procedure = 0; statement = 0 }) ∷ [];
}

statement : blame pump stated (Out 1 0) ≡ Some (clash_of stated (culprits.Written 0 0) (2 ∷ 3 ∷ []))
statement = refl

statement_refutes : refuted_by pump large_stated (blame pump stated (Out 1 0)) ≡ true
statement_refutes = refl

table_first : told (blame pump stated (Out 1 0)) ≢ named (culprits.Rule 0) (2 ∷ 3 ∷ [])
table_first e = apart e
  where
    apart : named (culprits.Written 0 0) (2 ∷ 3 ∷ []) ≡ named (culprits.Rule 0) (2 ∷ 3 ∷ []) → ⊥
    apart q = cc

-- two rules that leave nothing: the first of them that is cited, not the first rule of the plan
abbrev nothing_left : Plan
nothing_left = record empty {
  domains = Texts (0 ∷ 1 ∷ []) ∷ [];
  slots = root ∷ [];
  vars = open_var 0 ∷ [];
  rules =
      last 0 ∷ rule 0 (0 ∷ []) (Among 0 (Against Unequal (Text 1)))
      ∷ rule 0 (0 ∷ []) (Among 0 (Against Unequal (Text 0))) ∷ [];
}

abbrev both_out : List Step
both_out = by_user 0 (Text 0) ∷ step (Out 0 1) (Rule 1) [] ∷ step (Out 0 0) (Rule 2) [] ∷ []

-- its grains are cited in their order, and so the rule that took the first
exhausted : blame nothing_left both_out (Out 0 0) ≡ Some (clash_of both_out (culprits.Rule 2) (3 ∷ 2 ∷ []))
exhausted = refl

exhausted_refutes : refuted_by nothing_left (users (Some (Text 0) ∷ [])) (blame nothing_left both_out (Out 0 0)) ≡ true
exhausted_refutes = refl

first_of_plan : told (blame nothing_left both_out (Out 0 0)) ≢ named (culprits.Rule 0) (3 ∷ 2 ∷ [])
first_of_plan e = apart e
  where
    apart : named (culprits.Rule 2) (3 ∷ 2 ∷ []) ≡ named (culprits.Rule 0) (3 ∷ 2 ∷ []) → ⊥
    apart q = cc

value_cited : told (blame nothing_left both_out (Out 0 0)) ≢ named (culprits.Rule 2) (1 ∷ 3 ∷ [])
value_cited e = apart e
  where
    apart : named (culprits.Rule 2) (3 ∷ 2 ∷ []) ≡ named (culprits.Rule 2) (1 ∷ 3 ∷ []) → ⊥
    apart q = cc

-- two rules that say different values
abbrev two_say : Plan
two_say = record empty {
  domains = three_grains ∷ [];
  slots = root ∷ [];
  vars = fixed_var 0 ∷ [];
  rules =
      last 0 ∷ rule 0 (0 ∷ []) (Among 0 (Against Equal (whole 4))) ∷ rule 0 (0 ∷ []) (Among 0 (Against Equal (whole 1)))
      ∷ [];
}

abbrev said : List Step
said = step (Is 0 (whole 4)) (Rule 1) [] ∷ step (Is 0 (whole 1)) (Rule 2) [] ∷ []

two_rules : blame two_say said (Is 0 (whole 1)) ≡ Some (clash_of said (culprits.Rule 1) (1 ∷ 2 ∷ []))
two_rules = refl

rules_refute : refuted_by two_say (users []) (blame two_say said (Is 0 (whole 1))) ≡ true
rules_refute = refl

-- a value of the user and one of a rule
abbrev user_and_rule : List Step
user_and_rule = by_user 0 (whole 4) ∷ step (Is 0 (whole 1)) (Rule 2) [] ∷ []

rule_blamed : blame two_say user_and_rule (Is 0 (whole 1))
    ≡ Some (clash_of user_and_rule (culprits.Rule 2) (1 ∷ 2 ∷ []))
rule_blamed = refl

rule_refutes : refuted_by two_say (users (Some (whole 4) ∷ [])) (blame two_say user_and_rule (Is 0 (whole 1))) ≡ true
rule_refutes = refl

-- what stands together blames nobody
calm : blame pump (large_size ∷ no_e1 (1 ∷ []) ∷ []) (Out 1 0) ≡ None
calm = refl

-- whom an origin blames
of_user : culprit_from pump User ≡ None
of_user = refl

of_last : culprit_from pump (Rule 1) ≡ None
of_last = refl

of_table : culprit_from pump (Rule 0) ≡ Some (culprits.Rule 0)
of_table = refl

of_no_rule : culprit_from pump (Rule 4) ≡ None
of_no_rule = refl

-- whom a giver blames that clashes: the statement that wrote the entry, where there is one
of_entry : culprit_giving large_stated (by_entry 1) ≡ Some (culprits.Written 0 0)
of_entry = refl

of_other_entry : culprit_giving large_stated (by_entry 0) ≡ None
of_other_entry = refl

of_user_value : culprit_giving large_stated (givers.by_user 0) ≡ None
of_user_value = refl

of_rule : culprit_giving large_stated (by_rule 3) ≡ Some (culprits.Rule 3)
of_rule = refl

-- a value in no grain contradicts alone, and nobody is to blame for it: such sources don't fit
abbrev alone : Plan
alone = record empty { domains = Texts (0 ∷ []) ∷ []; slots = root ∷ []; vars = open_var 0 ∷ [] }

outside : settlement_of alone (users (Some (Text 5) ∷ [])) ≡ broken
outside = refl

outside_blames : blame alone (by_user 0 (Text 5) ∷ []) (Is 0 (Text 5)) ≡ None
outside_blames = refl

outside_fits : sources_fit alone (users (Some (Text 5) ∷ [])) ≡ false
outside_fits = refl
