-- Laws of what is found by rules.
use Rattle.std.specs.Prelude.{◌≡◌, ℕ, true, not, List}
use Rattle.std.specs.List.{IsDistinct, AllByRecursion}
use Rattle.vc_plan.specs.declared.atoms.Atom.{Atom}
use Rattle.vc_plan.specs.declared.atoms.Atom.TheVariants.{Here}
use Rattle.vc_plan.specs.declared.plans.Plan.{Plan}
use Rattle.vc_plan.specs.Gives.{by_rule, gives}
use Rattle.vc_plan.specs.Seen.{Seen, same_atom, says}
use Rattle.vc_plan.specs.Sources.{Sources}
use Rattle.vc_plan_reasons.specs.Things.{has_thing, thing_of, giver_reads}
use Rattle.vc_rule_premises.specs.Saying.{Said, clashing, concluding, given_of}
use Rattle.vc_rule_premises.specs.Sufficing.{each_premise}
use Rattle.vc_rule.specs.Evaluating.{found_at}

-- without what it follows from it is what the rule gives
abbrev pub FoundIsGiven : Type 0
FoundIsGiven = (plan : Plan) (sources : Sources) (seen : Seen) (r : ℕ)
    → given_of (found_at plan seen r) ≡ gives plan sources (by_rule r) seen

-- each premise stands
abbrev pub FoundStands : Type 0
FoundStands = (plan : Plan) (seen : Seen) (r : ℕ) → each_premise (says seen) (found_at plan seen r) ≡ true

-- whether each list of premises has a property
abbrev pub EachList : (List Atom → Type 0) → Said → Type 0
EachList property (clashing premises) = property premises
EachList property (concluding conclusions) = AllByRecursion (λ conclusion. property conclusion.premises) conclusions

-- no premise comes twice, and none is that the root is here
abbrev pub FoundOnce : Type 0
FoundOnce = (plan : Plan) (seen : Seen) (r : ℕ) → EachList (IsDistinct same_atom) (found_at plan seen r)

abbrev pub FoundBesideRoot : Type 0
FoundBesideRoot = (plan : Plan) (seen : Seen) (r : ℕ)
    → each_premise (λ a. not (same_atom (Here 0) a)) (found_at plan seen r) ≡ true

-- each premise is of a slot or a variable that the rule reads
abbrev pub FoundIsRead : Type 0
FoundIsRead = (plan : Plan) (seen : Seen) (r : ℕ)
    → each_premise (λ a. has_thing (giver_reads plan (by_rule r)) (thing_of a)) (found_at plan seen r) ≡ true
