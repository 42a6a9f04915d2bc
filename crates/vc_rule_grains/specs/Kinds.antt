-- What rules of the kinds Among, Never, Last and Line say where they act, with what it follows from beside that they
-- act.
use Rattle.std.specs.Prelude.{ℕ, Bool, true, if◌then◌else◌, List, [], ◌∷◌, ◌++◌, map, slice_get}
use Rattle.std.specs.Option.{option_to_list}
use Rattle.vc_base.specs.Rounds.{atoms}
use Rattle.vc_plan.specs.declared.atoms.Atom.{Atom}
use Rattle.vc_plan.specs.declared.atoms.Atom.TheVariants.{Here}
use Rattle.vc_plan.specs.declared.conditions.Piece.{Piece}
use Rattle.vc_plan.specs.declared.plans.Plan.{Plan}
use Rattle.vc_plan.specs.declared.rules.Restriction.{Restriction}
use Rattle.vc_plan.specs.declared.rules.Rule.{Rule}
use Rattle.vc_plan.specs.Answers.{last_atoms}
use Rattle.vc_plan.specs.Gives.{not_out}
use Rattle.vc_plan.specs.Restrictions.{is_inferred, allows, among}
use Rattle.vc_plan.specs.Seen.{Seen, slot_in, parent_in, is_here, is_parent_here}
use Rattle.vc_rule_premises.specs.Saying.{Said, clashing, said_from}
use Rattle.vc_rule_grains.specs.Confining.{outs_with, why_left, why_confined}

-- Among
abbrev pub why_among : Plan → Seen → Rule → ℕ → Restriction → List Atom
why_among plan seen rule v restriction =
    let test
    = allows plan v restriction in if is_inferred rule v
    then why_confined plan seen v test else why_left plan seen v test

abbrev pub among_said : Plan → Seen → Rule → ℕ → Restriction → Said
among_said plan seen rule v restriction =
    said_from seen (why_among plan seen rule v restriction) (among plan seen rule v restriction)

-- Never
abbrev pub never_said : Said
never_said = clashing []

-- that the slot of a variable is here, and the parent of a slot
abbrev pub slot_of : Plan → ℕ → List Atom
slot_of plan v = map Here (option_to_list (slot_in (slice_get plan.vars v)))

abbrev pub parent_of : Plan → ℕ → List Atom
parent_of plan i = map Here (option_to_list (parent_in (slice_get plan.slots i)))

-- what every piece passes
abbrev pub any_piece : Piece → Bool
any_piece piece = true

-- Last: the variable's slot is here, and all of its grains but the last are out
abbrev pub why_last : Plan → Seen → ℕ → List Atom
why_last plan seen v = slot_of plan v ++ outs_with plan seen v any_piece

abbrev pub last_said : Plan → Seen → ℕ → Said
last_said plan seen v =
    said_from seen (why_last plan seen v)
    (atoms (if is_here plan seen v then last_atoms plan v (not_out plan seen v) else []))

-- Line: the slot's parent is here
abbrev pub line_said : Plan → Seen → ℕ → Said
line_said plan seen i =
    said_from seen (parent_of plan i) (atoms (if is_parent_here plan seen i then Here i ∷ [] else []))
