-- What is cited for a conclusion: that slots are here, and values of variables.
use Rattle.std.specs.Prelude.{ℕ, true, List, [], ◌∷◌, ◌++◌, map, flat_map, slice_get, Option, None, Some}
use Rattle.vc_plan.specs.declared.atoms.Atom.{Atom}
use Rattle.vc_plan.specs.declared.atoms.Atom.TheVariants.{Here}
use Rattle.vc_plan.specs.declared.conditions.Condition.{Condition}
use Rattle.vc_plan.specs.declared.plans.Plan.{Plan}
use Rattle.vc_plan.specs.declared.rules.Rule.{Rule}
use Rattle.vc_plan.specs.Answers.{value_atoms}
use Rattle.vc_plan.specs.Readings.{net_reading}
use Rattle.vc_plan.specs.Seen.{Seen}
use Rattle.vc_rule_premises.specs.Deciding.{deciding}
use Rattle.vc_rule_yield.specs.Yielding.{Yielded, cited}

-- each of the atoms cited in turn
abbrev pub cited_all : Yielded → List Atom → Yielded
cited_all y [] = y
cited_all y (a ∷ more) = cited_all (cited y a) more

-- the values of the variables that have one
abbrev pub value_of : Seen → ℕ → List Atom
value_of seen v = value_atoms v (seen.value v)

abbrev pub values_of : Seen → List ℕ → List Atom
values_of seen vs = flat_map (value_of seen) vs

-- what makes a condition true
abbrev pub deciding_if : Seen → Option Condition → List ℕ
deciding_if seen None = []
deciding_if seen (Some c) = deciding (net_reading seen) true c

-- why a rule acts: its slots are here, and the values that make its condition true
abbrev pub why_it_acts : Plan → Seen → Rule → List Atom
why_it_acts plan seen rule = map Here rule.slots
    ++ values_of seen (deciding_if seen (slice_get plan.conditions rule.condition))
