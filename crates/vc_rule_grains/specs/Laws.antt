-- Laws of what rules of the kinds Among, Last and Line say.
use Rattle.std.specs.Prelude.{◌≡◌, ℕ, Bool, true, if◌then◌else◌, List, [], ◌∷◌, ◌++◌, map}
use Rattle.vc_base.specs.Rounds.{Given, atoms}
use Rattle.vc_plan.specs.declared.atoms.Atom.{Atom}
use Rattle.vc_plan.specs.declared.atoms.Atom.TheVariants.{Here}
use Rattle.vc_plan.specs.declared.conditions.Piece.{Piece}
use Rattle.vc_plan.specs.declared.plans.Plan.{Plan}
use Rattle.vc_plan.specs.declared.rules.Restriction.{Restriction}
use Rattle.vc_plan.specs.declared.rules.Rule.{Rule}
use Rattle.vc_plan.specs.Answers.{last_atoms}
use Rattle.vc_plan.specs.Gives.{not_out}
use Rattle.vc_plan.specs.Restrictions.{confined, among}
use Rattle.vc_plan.specs.Seen.{Seen, says, is_here, is_parent_here}
use Rattle.vc_plan_reasons.specs.Things.{Thing, slot_at, var_at, has_thing, thing_of, slots_of_var, parents_of}
use Rattle.vc_rule_premises.specs.Saying.{Said}
use Rattle.vc_rule_premises.specs.Sufficing.{IsPartOf, SaysAll, each_premise, EachFollows}
use Rattle.vc_rule_grains.specs.Confining.{why_confined}
use Rattle.vc_rule_grains.specs.Kinds.{among_said, last_said, line_said}

-- what a rule of kind Last, and one of kind Line, says
abbrev pub last_gives : Plan → ℕ → Seen → Given Atom
last_gives plan v seen = atoms (if is_here plan seen v then last_atoms plan v (not_out plan seen v) else [])

abbrev pub line_gives : Plan → ℕ → Seen → Given Atom
line_gives plan i seen = atoms (if is_parent_here plan seen i then Here i ∷ [] else [])

-- what is given of a variable that is to lie in grains that pass a test is the same wherever a part of what is seen
-- says why
abbrev pub ConfiningSuffices : Type 0
ConfiningSuffices = (plan : Plan) (seen part : Seen) (v : ℕ) (test : Piece → Bool) → IsPartOf part seen
    → SaysAll part (why_confined plan seen v test) → confined plan part v test ≡ confined plan seen v test

-- all that is said follows from its premises alone
abbrev pub AmongFollows : Type 0
AmongFollows = (plan : Plan) (seen : Seen) (rule : Rule) (v : ℕ) (restriction : Restriction)
    → EachFollows (λ part. among plan part rule v restriction) seen (among_said plan seen rule v restriction)

abbrev pub LastFollows : Type 0
LastFollows = (plan : Plan) (seen : Seen) (v : ℕ) → EachFollows (last_gives plan v) seen (last_said plan seen v)

abbrev pub LineFollows : Type 0
LineFollows = (plan : Plan) (seen : Seen) (i : ℕ) → EachFollows (line_gives plan i) seen (line_said plan seen i)

-- each premise stands
abbrev pub Stands : Seen → Said → Type 0
Stands seen said = each_premise (says seen) said ≡ true

abbrev pub AmongStands : Type 0
AmongStands = (plan : Plan) (seen : Seen) (rule : Rule) (v : ℕ) (restriction : Restriction)
    → Stands seen (among_said plan seen rule v restriction)

abbrev pub LastStands : Type 0
LastStands = (plan : Plan) (seen : Seen) (v : ℕ) → Stands seen (last_said plan seen v)

abbrev pub LineStands : Type 0
LineStands = (plan : Plan) (seen : Seen) (i : ℕ) → Stands seen (line_said plan seen i)

-- each premise is of one of the things
abbrev pub IsOf : List Thing → Said → Type 0
IsOf things said = each_premise (λ a. has_thing things (thing_of a)) said ≡ true

abbrev pub AmongIsRead : Type 0
AmongIsRead = (plan : Plan) (seen : Seen) (rule : Rule) (v : ℕ) (restriction : Restriction)
    → IsOf (var_at v ∷ []) (among_said plan seen rule v restriction)

abbrev pub LastIsRead : Type 0
LastIsRead = (plan : Plan) (seen : Seen) (v : ℕ)
    → IsOf (map slot_at (slots_of_var plan v) ++ var_at v ∷ []) (last_said plan seen v)

abbrev pub LineIsRead : Type 0
LineIsRead = (plan : Plan) (seen : Seen) (i : ℕ) → IsOf (map slot_at (parents_of plan i)) (line_said plan seen i)
