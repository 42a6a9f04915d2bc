-- What explains an evaluation: reasons for what stands, all steps where the last stage settled, what contradicts where
-- one is broken.
use Rattle.std.specs.Prelude.{◌≡◌, Bool, true, false, not, ◌&&◌, List, Option, None, Some}
use Rattle.std.specs.List.{IsDistinct}
use Rattle.vc_base.specs.Sets.{has}
use Rattle.vc_plan.specs.declared.atoms.Atom.{Atom}
use Rattle.vc_plan.specs.declared.atoms.Atom.TheVariants.{Here}
use Rattle.vc_plan.specs.declared.atoms.Clash.{Clash}
use Rattle.vc_plan.specs.declared.atoms.Step.{Step}
use Rattle.vc_plan.specs.declared.plans.Plan.{Plan}
use Rattle.vc_plan.specs.Evaluate.{Evaluated, broken_at, reached, Users, evaluation_of, last_set, sources_of}
use Rattle.vc_plan.specs.Seen.{same_atom}
use Rattle.vc_plan.specs.Sources.{Sources}
use Rattle.vc_plan_reasons.specs.Checking.{concluded, is_chain_for, is_whole}
use Rattle.vc_plan_reasons.specs.Refuting.{is_trimmed_clash, refutes}

-- whether the atom stands by reasons: it is of the set, and isn't the root's, which is here from the start
abbrev pub is_inferred : List Atom → Atom → Bool
is_inferred set atom = not (same_atom (Here 0) atom) && has same_atom set atom

-- a chain of reasons for an atom of the set; none exactly where it doesn't stand by reasons
abbrev pub ExplainsAtom : Plan → Sources → List Atom → Atom → Option (List Step) → Type 0
ExplainsAtom plan sources set atom None = is_inferred set atom ≡ false
ExplainsAtom plan sources set atom (Some steps) =
    (is_inferred set atom ≡ true) × (is_chain_for plan sources atom steps ≡ true)

-- steps that conclude all that follows from the sources, each conclusion once
abbrev pub ExplainsAll : Plan → Sources → Option (List Step) → Type 0
ExplainsAll plan sources None = ⊥
ExplainsAll plan sources (Some steps) =
    (is_whole plan sources steps ≡ true) × IsDistinct same_atom (concluded steps)

-- a clash that shows that the sources contradict each other, none of whose steps is in vain
abbrev pub ExplainsBreak : Plan → Sources → Option Clash → Type 0
ExplainsBreak plan sources None = ⊥
ExplainsBreak plan sources (Some clash) =
    (refutes plan sources clash ≡ true) × (is_trimmed_clash clash ≡ true)

-- the reasons for an atom after an evaluation: of the last stage, and none where a stage is broken
abbrev pub IsWhyAfter : Plan → Users → Evaluated → Atom → Option (List Step) → Type 0
IsWhyAfter plan users (broken_at k entries) atom steps = steps ≡ None
IsWhyAfter plan users (reached sets entries) atom steps =
    ExplainsAtom plan (sources_of users entries) (last_set plan sets) atom steps

-- the steps of the last stage, and none where a stage is broken
abbrev pub IsLogAfter : Plan → Users → Evaluated → Option (List Step) → Type 0
IsLogAfter plan users (broken_at k entries) steps = steps ≡ None
IsLogAfter plan users (reached sets entries) steps = ExplainsAll plan (sources_of users entries) steps

-- what contradicts in the stage that is broken, and none where all settled
abbrev pub IsClashAfter : Plan → Users → Evaluated → Option Clash → Type 0
IsClashAfter plan users (broken_at k entries) clash = ExplainsBreak plan (sources_of users entries) clash
IsClashAfter plan users (reached sets entries) clash = clash ≡ None

-- the same of what the user set
abbrev pub IsWhy : Plan → Users → Atom → Option (List Step) → Type 0
IsWhy plan users atom steps = IsWhyAfter plan users (evaluation_of plan users) atom steps

abbrev pub IsLog : Plan → Users → Option (List Step) → Type 0
IsLog plan users steps = IsLogAfter plan users (evaluation_of plan users) steps

abbrev pub IsClash : Plan → Users → Option Clash → Type 0
IsClash plan users clash = IsClashAfter plan users (evaluation_of plan users) clash
