-- Which lists of steps the plain rules accept.
use Rattle.std.specs.Prelude.{ℕ, Bool, true, false, ◌&&◌, ◌==◌, if◌then◌else◌, List, [], ◌∷◌, ◌++◌, Option, None, Some}
use Rattle.std.specs.List.{list_all}
use Rattle.vc_base.specs.Chains.{StepForm, conclusions, accepted, first_refused, is_trimmed}
use Rattle.vc_base.specs.Rounds.{Given, clash, atoms, atoms_of}
use Rattle.vc_base.specs.Sets.{has}
use Rattle.vc_plan.specs.declared.atoms.Atom.{Atom}
use Rattle.vc_plan.specs.declared.atoms.Atom.TheVariants.{Here, Out, Is}
use Rattle.vc_plan.specs.declared.atoms.Origin.{Origin}
use Rattle.vc_plan.specs.declared.atoms.Origin.TheVariants.{Rule, User, Written}
use Rattle.vc_plan.specs.declared.atoms.Step.{Step}
use Rattle.vc_plan.specs.declared.plans.Plan.{Plan}
use Rattle.vc_plan.specs.Answers.{nothing}
use Rattle.vc_plan.specs.Clear.{is_clear}
use Rattle.vc_plan.specs.Gives.{Giver, by_rule, by_user, by_entry, gives, givers_of}
use Rattle.vc_plan.specs.Seen.{same_atom, seen_of}
use Rattle.vc_plan.specs.Settle.{base}
use Rattle.vc_plan.specs.Sources.{Sources, Entry, entry_of}
use Rattle.vc_plan_reasons.specs.Things.{Thing, has_thing, thing_of, giver_reads}

-- how a step is read
abbrev pub step_form : StepForm Step Atom
step_form = record {
  conclusion = λ step. step.conclusion;
  premises = λ step. step.premises;
  with_premises = λ step premises. record step { premises = premises };
}

-- the variable of an atom, if it is of one
abbrev pub var_of : Atom → Option ℕ
var_of (Here i) = None
var_of (Out v g) = Some v
var_of (Is v a) = Some v

-- whether the entry is by this statement
abbrev pub is_by : ℕ → ℕ → Option Entry → Bool
is_by procedure statement None = false
is_by procedure statement (Some entry) = (entry.procedure == procedure) && (entry.statement == statement)

-- the giver that is meant by an origin of an atom of a variable: a rule, the user's value, or the entry that this
-- statement
-- wrote
abbrev pub giver_from : Sources → Origin → Option ℕ → Option Giver
giver_from sources (Rule r) v = Some (by_rule r)
giver_from sources User None = None
giver_from sources User (Some v) = Some (by_user v)
giver_from sources (Written procedure statement) None = None
giver_from sources (Written procedure statement) (Some v) =
    if is_by procedure statement (entry_of sources v) then Some (by_entry v) else None

abbrev pub giver_of : Sources → Step → Option Giver
giver_of sources step = giver_from sources step.origin (var_of step.conclusion)

-- what it gives at a set, and what it reads
abbrev pub given_by : Plan → Sources → Option Giver → List Atom → Given Atom
given_by plan sources None set = nothing
given_by plan sources (Some giver) set = gives plan sources giver (seen_of set)

abbrev pub things_read : Plan → Option Giver → List Thing
things_read plan None = []
things_read plan (Some giver) = giver_reads plan giver

-- whether each atom is of one of the things
abbrev pub are_of : List Thing → List Atom → Bool
are_of things premises = list_all (λ atom. has_thing things (thing_of atom)) premises

-- what premises say, with what stands from the start
abbrev pub set_with : List Atom → List Atom
set_with premises = base ++ premises

-- whether the step follows from premises: they are a clear set, its giver reads their things, and gives its conclusion
-- there
abbrev pub follows : Plan → Sources → Step → List Atom → Bool
follows plan sources step premises =
    let giver = giver_of sources step in
    (is_clear plan (set_with premises) && are_of (things_read plan giver) premises)
    && has same_atom (atoms_of (given_by plan sources giver (set_with premises))) step.conclusion

-- whether each step follows from its premises, which are earlier steps; and the number of the first that doesn't
abbrev pub is_accepted : Plan → Sources → List Step → Bool
is_accepted plan sources steps = accepted step_form (follows plan sources) [] steps

abbrev pub first_refused_step : Plan → Sources → List Step → Option ℕ
first_refused_step plan sources steps = first_refused step_form (follows plan sources) [] steps

-- what the steps conclude
abbrev pub concluded : List Step → List Atom
concluded steps = conclusions step_form steps

-- whether an answer has neither a clash nor an atom
abbrev pub is_silent : Given Atom → Bool
is_silent clash = false
is_silent (atoms []) = true
is_silent (atoms (a ∷ more)) = false

-- whether the list is accepted, clear, and nothing more follows
abbrev pub is_whole : Plan → Sources → List Step → Bool
is_whole plan sources steps =
    let set = set_with (concluded steps) in
    is_accepted plan sources steps
    && (is_clear plan set && list_all (λ giver. is_silent (gives plan sources giver (seen_of set))) (givers_of plan))

-- whether each step but the last is a premise of a later one
abbrev pub is_trimmed_chain : List Step → Bool
is_trimmed_chain steps = is_trimmed step_form steps

-- whether the last step concludes the atom
abbrev pub ends_with : Atom → List Step → Bool
ends_with atom [] = false
ends_with atom (step ∷ []) = same_atom step.conclusion atom
ends_with atom (step ∷ (next ∷ more)) = ends_with atom (next ∷ more)

-- whether the steps are a chain of reasons for the atom: accepted, none in vain, and the last concludes it
abbrev pub is_chain_for : Plan → Sources → Atom → List Step → Bool
is_chain_for plan sources atom steps = (is_accepted plan sources steps && is_trimmed_chain steps)
    && ends_with atom steps
