-- What any giver says at what is seen, with what it follows from.
use Rattle.std.specs.Prelude.{ℕ, Bool, false, ◌||◌, List, [], ◌∷◌, Option, None, Some, is_none, is_some, slice_get}
use Rattle.vc_base.specs.Rounds.{Given, clash, atoms}
use Rattle.vc_plan.specs.declared.atoms.Atom.{Atom}
use Rattle.vc_plan.specs.declared.atoms.Atom.TheVariants.{Is}
use Rattle.vc_plan.specs.declared.atoms.Origin.{Origin}
use Rattle.vc_plan.specs.declared.atoms.Origin.TheVariants as origins
use Rattle.vc_plan.specs.declared.plans.Plan.{Plan}
use Rattle.vc_plan.specs.declared.rules.Kind.{Kind}
use Rattle.vc_plan.specs.declared.rules.Kind.TheVariants.{Among, Compare, Equate, ByTable, Never, Last, Line}
use Rattle.vc_plan.specs.declared.rules.Rule.{Rule}
use Rattle.vc_plan.specs.Answers.{nothing}
use Rattle.vc_plan.specs.Gives.{Giver, by_rule, by_user, by_entry, giver_says, if_here}
use Rattle.vc_plan.specs.Seen.{Seen}
use Rattle.vc_plan.specs.Sources.{Sources, Entry, entry_of, user_of}
use Rattle.vc_rule_premises.specs.Cited.{cited_once}
use Rattle.vc_rule_premises.specs.Saying.{Said, said_from}
use Rattle.vc_rule_grains.specs.Kinds.{slot_of}
use Rattle.vc_rule.specs.Evaluating.{found_at}
use Rattle.vc_rule.specs.Resting.{rests}
use Rattle.vc_net_sources.specs.declared.telling.Telling.{Telling}
use Rattle.vc_net_sources.specs.declared.telling.Telling.TheVariants.{Nothing, Value, Outside}

-- that the slot of a variable is here, which a source reads; nothing where it is the root, which needs no step
abbrev pub why_there : Plan → ℕ → List Atom
why_there plan v = cited_once (slot_of plan v)

-- what a source of the variable says where the slot is here, and doesn't stand yet
abbrev pub source_said : Plan → Seen → ℕ → Given Atom → Said
source_said plan seen v given = said_from seen (why_there plan v) (if_here plan seen v given)

-- what is found by a giver: by a rule what it says where it acts, by a source of a variable the value that it has, or a
-- clash where the variable can't have it
abbrev pub found_from : Plan → Sources → Seen → Giver → Said
found_from plan sources seen (by_rule r) = found_at plan seen r
found_from plan sources seen (by_user v) =
    said_from seen (why_there plan v) (giver_says plan sources (by_user v) seen)
found_from plan sources seen (by_entry v) =
    said_from seen (why_there plan v) (giver_says plan sources (by_entry v) seen)

-- whether it is a source that tells nothing: the variable has no value of the user's, or nothing is written to it
abbrev pub tells_nothing : Sources → Giver → Bool
tells_nothing sources (by_rule r) = false
tells_nothing sources (by_user v) = is_none (user_of sources v)
tells_nothing sources (by_entry v) = is_none (entry_of sources v)

-- whether it is the rule of the last grain of a variable that has a value
abbrev pub is_last_of_known : Seen → Kind → Bool
is_last_of_known seen (Among v restriction) = false
is_last_of_known seen (Compare r a b) = false
is_last_of_known seen (Equate a b) = false
is_last_of_known seen (ByTable table columns) = false
is_last_of_known seen Never = false
is_last_of_known seen (Last v) = is_some (seen.value v)
is_last_of_known seen (Line i) = false

-- whether the rule of this number, if it is there, is told at a glance to say nothing new
abbrev pub rests_if : Plan → Seen → Option Rule → Bool
rests_if plan seen None = false
rests_if plan seen (Some rule) = is_last_of_known seen rule.kind || rests plan seen rule.kind

abbrev pub rests_at : Plan → Seen → ℕ → Bool
rests_at plan seen r = rests_if plan seen (slice_get plan.rules r)

-- so is the giver, a rule that rests or a source that tells nothing
abbrev pub is_at_rest : Plan → Sources → Seen → Giver → Bool
is_at_rest plan sources seen (by_rule r) = rests_at plan seen r
is_at_rest plan sources seen (by_user v) = tells_nothing sources (by_user v)
is_at_rest plan sources seen (by_entry v) = tells_nothing sources (by_entry v)

-- the origin of what a giver concludes. An entry that isn't there concludes nothing
abbrev pub origin_by : Option Entry → Origin
origin_by None = origins.User
origin_by (Some entry) = origins.Written entry.procedure entry.statement

abbrev pub origin_of : Sources → Giver → Origin
origin_of sources (by_rule r) = origins.Rule r
origin_of sources (by_user v) = origins.User
origin_of sources (by_entry v) = origin_by (entry_of sources v)

-- how many evaluations of rules it is to ask a giver
abbrev pub evaluations : Giver → ℕ
evaluations (by_rule r) = 1
evaluations (by_user v) = 0
evaluations (by_entry v) = 0

-- what a source tells, as said of a variable
abbrev pub given_by : ℕ → Telling → Given Atom
given_by v Nothing = nothing
given_by v (Value a) = atoms (Is v a ∷ [])
given_by v Outside = clash
