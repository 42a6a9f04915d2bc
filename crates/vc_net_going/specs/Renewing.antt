-- How the work of a net goes on with other sources: what is kept of its log, and who is asked then.
use Rattle.std.specs.Prelude.{ℕ, zero, suc, ◌||◌, if◌then◌else◌, List, [], ◌∷◌, ◌++◌}
use Rattle.vc_base.specs.Sets.{has}
use Rattle.vc_plan.specs.declared.atoms.Atom.{Atom}
use Rattle.vc_plan.specs.declared.plans.Plan.{Plan}
use Rattle.vc_plan.specs.Gives.{Giver}
use Rattle.vc_plan.specs.Seen.{same_atom, seen_of}
use Rattle.vc_plan.specs.Sources.{Sources}
use Rattle.vc_plan_reasons.specs.Checking.{set_with}
use Rattle.vc_plan_reasons.specs.Keeping.{entry_differs, user_differs}
use Rattle.vc_plan_reasons.specs.Things.{thing_of}
use Rattle.vc_net_waking.specs.Waking.{sources_of, waking}

-- whom, with the sources, those of the atoms wake that are none of what is concluded: they were dropped
abbrev pub dropped_wake : Plan → Sources → List Atom → List Atom → List Giver
dropped_wake plan sources stand [] = []
dropped_wake plan sources stand (atom ∷ atoms) =
    (if has same_atom stand atom then [] else waking plan sources (seen_of (set_with stand)) (thing_of atom))
    ++ dropped_wake plan sources stand atoms

-- the sources of those of the first so many variables for which they differ
abbrev pub changed_sources : Sources → Sources → ℕ → List Giver
changed_sources old new zero = []
changed_sources old new (suc n) =
    changed_sources old new n ++ (if user_differs old new n || entry_differs old new n then sources_of n else [])

-- the sources of those of these variables for which they differ
abbrev pub changed_among : Sources → Sources → List ℕ → List Giver
changed_among old new [] = []
changed_among old new (v ∷ vars) =
    (if user_differs old new v || entry_differs old new v then sources_of v else []) ++ changed_among old new vars
