-- With room for what a rule says a yield that was empty holds it, and keeps its rooms.
use Rattle.std.proofs.Common.{◌≡◌, ℕ, ◌+◌, leb, Bool, true, false, cond, ◌||◌, List, [], ◌∷◌, ◌++◌, length, refl, sym}
use Rattle.std.proofs.Common.{◌∙◌, ap, subst}
use Rattle.std.specs.Prelude.{Some, slice_get}
use Rattle.vc_base.specs.Sets.{has}
use Rattle.vc_plan.specs.declared.atoms.Atom.{Atom}
use Rattle.vc_plan.specs.declared.atoms.Atom.TheVariants.{Here}
use Rattle.vc_plan.specs.declared.plans.Plan.{Plan}
use Rattle.vc_plan.specs.declared.rules.Rule.{Rule}
use Rattle.vc_plan.specs.Gives.{acts}
use Rattle.vc_plan.specs.Seen.{Seen, same_atom}
use Rattle.vc_rule_yield.specs.Yielding.{Rooms, Yielded, nothing_in, with_cites, cited, concluded, concluded_if}
use Rattle.vc_rule_yield.specs.Yielding.{may_conclude, clashed, clashed_if, may_clash}
use Rattle.vc_rule_premises.proofs.SayingLaws.{room_suffices}
use Rattle.vc_rule_premises.specs.Citing.{cited_all, why_it_acts}
use Rattle.vc_rule_premises.specs.Saying.{Said, clashing, concluding, silent, taken, said_with, held, HasRoomFor}
use Rattle.vc_rule.specs.Evaluating.{kind_said, found_by, found_at, taken_from}

-- no call of a yield changes its rooms
cited_rooms : (y : Yielded) (a : Atom) → (cited y a).rooms ≡ y.rooms
cited_rooms y a =
    elim (same_atom (Here 0) a || has same_atom y.cites a) as (λ b.
    (cond b y (cond (leb (length y.cites + 1) y.rooms.cites) (with_cites y (y.cites ++ a ∷ [])) y)).rooms ≡ y.rooms) [
      | true ↦ refl
      | false ↦ elim (leb (length y.cites + 1) y.rooms.cites) as
          (λ b. (cond b (with_cites y (y.cites ++ a ∷ [])) y).rooms ≡ y.rooms) [
            | true ↦ refl
            | false ↦ refl
          ]
    ]

all_cited_rooms : (y : Yielded) (premises : List Atom) → (cited_all y premises).rooms ≡ y.rooms
all_cited_rooms y [] = refl
all_cited_rooms y (a ∷ more) = all_cited_rooms (cited y a) more ∙ cited_rooms y a

concluded_rooms : (y : Yielded) (a : Atom) → (concluded y a).rooms ≡ y.rooms
concluded_rooms y a = elim (may_conclude y y.clash) as
    (λ b. (concluded_if b y a).rooms ≡ y.rooms) [ true ↦ refl | false ↦ refl ]

clashed_rooms : (y : Yielded) → (clashed y).rooms ≡ y.rooms
clashed_rooms y = elim (may_clash y y.clash) as (λ b. (clashed_if b y).rooms ≡ y.rooms) [ true ↦ refl | false ↦ refl ]

taken_rooms : (y : Yielded) (said : Said) → (taken y said).rooms ≡ y.rooms
taken_rooms y (clashing premises) = clashed_rooms (cited_all y premises) ∙ all_cited_rooms y premises
taken_rooms y (concluding []) = refl
taken_rooms y (concluding (c ∷ more)) =
    taken_rooms (with_cites (concluded (cited_all y c.premises) c.atom) y.cites) (concluding more)
    ∙ (concluded_rooms (cited_all y c.premises) c.atom ∙ all_cited_rooms y c.premises)

pub rooms_kept : (plan : Plan) (seen : Seen) (rule : Rule) (y : Yielded) → (taken_from plan seen rule y).rooms ≡ y.rooms
rooms_kept plan seen rule y = by (acts plan seen rule)
  where
    all : Yielded
    all = taken (cited_all y (why_it_acts plan seen rule)) (kind_said plan seen rule rule.kind)

    by : (b : Bool) → (cond b all y).rooms ≡ y.rooms
    by true = taken_rooms (cited_all y (why_it_acts plan seen rule)) (kind_said plan seen rule rule.kind)
        ∙ all_cited_rooms y (why_it_acts plan seen rule)
    by false = refl

pub all_held : (plan : Plan) (seen : Seen) (rule : Rule) (rooms : Rooms)
    → HasRoomFor rooms (found_by plan seen (Some rule))
    → held (taken_from plan seen rule (nothing_in rooms)) ≡ found_by plan seen (Some rule)
all_held plan seen rule rooms h = by (acts plan seen rule) h
  where
    why : List Atom
    why = why_it_acts plan seen rule

    said : Said
    said = kind_said plan seen rule rule.kind

    by : (b : Bool) → HasRoomFor rooms (cond b (said_with why said) silent)
        → held (cond b (taken (cited_all (nothing_in rooms) why) said) (nothing_in rooms))
        ≡ cond b (said_with why said) silent
    by true k = room_suffices rooms why said k
    by false k = refl

-- the same of the rule of a number
pub rule_held : (plan : Plan) (seen : Seen) (r : ℕ) (rule : Rule) (rooms : Rooms) (y z : Yielded)
    → slice_get plan.rules r ≡ Some rule
    → HasRoomFor rooms (found_at plan seen r) → y ≡ nothing_in rooms → z ≡ taken_from plan seen rule y
    → held z ≡ found_at plan seen r
rule_held plan seen r rule rooms y z e room q p =
    let k : HasRoomFor rooms (found_by plan seen (Some rule)) =
    subst (λ o. HasRoomFor rooms (found_by plan seen o)) e room in
    ap held (p ∙ ap (taken_from plan seen rule) q) ∙ (all_held plan seen rule rooms k ∙ sym (ap (found_by plan seen) e))
