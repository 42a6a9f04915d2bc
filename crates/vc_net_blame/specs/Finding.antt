-- Whom to blame where a fact can't stand beside those that stand, and with which premises.
use Rattle.std.specs.Prelude.{ℕ, ◌+◌, max, List, [], ◌∷◌, ◌++◌, length, Option, None, Some, option_map}
use Rattle.std.specs.List.{find}
use Rattle.vc_plan.specs.declared.atoms.Atom.{Atom}
use Rattle.vc_plan.specs.declared.atoms.Culprit.{Culprit}
use Rattle.vc_plan.specs.declared.atoms.Origin.{Origin}
use Rattle.vc_plan.specs.declared.plans.Plan.{Plan}
use Rattle.vc_plan.specs.Bounds.{greatest}
use Rattle.vc_plan.specs.Domains.{numbers_below, count_of}
use Rattle.vc_plan.specs.Seen.{same_atom}
use Rattle.vc_plan_blame.specs.Blame.{colliding, culprit_from, or_else}
use Rattle.vc_net_standing.specs.declared.standing.Fact.{Fact}
use Rattle.vc_net_standing.specs.Standing.{atoms_of}

-- the atoms that can't stand together where the atom comes beside facts
abbrev pub colliding_with : Plan → List Fact → Atom → List Atom
colliding_with plan facts atom = colliding plan (atoms_of facts ++ atom ∷ []) atom

-- who gave an atom: the first fact of it; and whom that blames
abbrev pub origin_for : List Fact → Atom → Option Origin
origin_for facts atom = option_map (λ fact. fact.origin) (find (λ fact. same_atom atom fact.atom) facts)

abbrev pub culprit_by : Plan → Option Origin → Option Culprit
culprit_by plan None = None
culprit_by plan (Some origin) = culprit_from plan origin

-- whom the first of the atoms blames of which somebody is to blame
abbrev pub culprit_for : Plan → List Fact → List Atom → Option Culprit
culprit_for plan facts [] = None
culprit_for plan facts (a ∷ more) = or_else (culprit_by plan (origin_for facts a)) (culprit_for plan facts more)

-- how many atoms it takes at most that can't stand together: that a slot is here and that each grain of a variable is
-- out, or two
abbrev pub collision_bound : Plan → ℕ
collision_bound plan = max 2 (1 + greatest (count_of plan) (numbers_below (length plan.vars)))
