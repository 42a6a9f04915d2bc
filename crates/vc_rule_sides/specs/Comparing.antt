-- What a comparison of two terms says with what it follows from.
use Rattle.std.specs.Prelude.{ℕ, Bool, not, List, ◌++◌, slice_get, Option, None, Some}
use Rattle.vc_value.specs.declared.value.Value.{Value}
use Rattle.vc_plan.specs.declared.atoms.Atom.{Atom}
use Rattle.vc_plan.specs.declared.conditions.Piece.{Piece}
use Rattle.vc_plan.specs.declared.conditions.Relation.{Relation}
use Rattle.vc_plan.specs.declared.plans.Plan.{Plan}
use Rattle.vc_plan.specs.declared.rules.Rule.{Rule}
use Rattle.vc_plan.specs.Kleene.{is_false}
use Rattle.vc_plan.specs.Pieces.{is_outside, turned}
use Rattle.vc_plan.specs.Readings.{net_reading}
use Rattle.vc_plan.specs.Reads.{vars_of_term}
use Rattle.vc_plan.specs.Restrictions.{confined, lone_inferred}
use Rattle.vc_plan.specs.Seen.{Seen}
use Rattle.vc_plan.specs.Truth.{compared, value_at}
use Rattle.vc_rule_premises.specs.Citing.{values_of}
use Rattle.vc_rule_premises.specs.Saying.{Said, silent, together, clash_when, said_from}
use Rattle.vc_rule_grains.specs.Confining.{why_confined}

-- the values of the variables that a term reads
abbrev pub values_in : Plan → Seen → ℕ → List Atom
values_in plan seen term = values_of seen (vars_of_term (slice_get plan.terms term))

-- whether something that the piece has may stand in the relation to the value
abbrev pub may_relate : Relation → Value → Piece → Bool
may_relate r a piece = not (is_outside r a piece)

-- what follows for a lone inferred variable from the value of the other side, and from why that is its value
abbrev pub related_said : Plan → Seen → Relation → Option ℕ → List Atom → Option Value → Said
related_said plan seen r None others a = silent
related_said plan seen r (Some v) others None = silent
related_said plan seen r (Some v) others (Some a) =
    said_from seen (others ++ why_confined plan seen v (may_relate r a)) (confined plan seen v (may_relate r a))

-- Compare: a clash from both sides where the relation doesn't hold; else what follows for a side that is a lone
-- inferred
-- variable from the other
abbrev pub compare_said : Plan → Seen → Rule → Relation → ℕ → ℕ → Said
compare_said plan seen rule r a b =
    let first = value_at plan (net_reading seen) a in
    let second = value_at plan (net_reading seen) b in
    clash_when (is_false (compared r first second)) (values_in plan seen a ++ values_in plan seen b)
    (together (related_said plan seen r (lone_inferred plan rule a) (values_in plan seen b) second)
    (related_said plan seen (turned r) (lone_inferred plan rule b) (values_in plan seen a) first))
