-- The rooms that are computed for the rules of a valid plan suffice for its sources: each variable has the rule of its
-- last grain, which needs more.
use Rattle.std.proofs.Common.{◌≡◌, ℕ, ◌+◌, ◌<◌, ◌≤◌, Bool, true, false, cond, ◌||◌, List, [], ◌∷◌, length, map}
use Rattle.std.proofs.Common.{refl, sym}
use Rattle.std.proofs.Common.{◌∙◌, ap, subst, inl, inr, arith}
use Rattle.std.specs.Prelude.{◌==◌, max, nat_eq, not, Option, None, Some, slice_get}
use Rattle.std.specs.List.{filter, list_any, sum_by}
use Rattle.std.proofs.lemmas.Bool.{eq-eqb, eqb-true}
use Rattle.std.proofs.lemmas.List.Sums.{sum_by-cons}
use Rattle.vc_base.specs.Rounds.{Given, clash, atoms}
use Rattle.vc_base.proofs.ChainLaws.{get_below}
use Rattle.vc_base.proofs.ListLaws.{number_exact, number_itself, range_has}
use Rattle.vc_base.proofs.SetLaws.{all_at}
use Rattle.vc_base.proofs.Settling.{IsIn, any_at}
use Rattle.vc_value.specs.declared.value.Value.{Value}
use Rattle.vc_plan.specs.declared.atoms.Atom.{Atom}
use Rattle.vc_plan.specs.declared.atoms.Atom.TheVariants.{Is}
use Rattle.vc_plan.specs.declared.atoms.Mark.{Mark}
use Rattle.vc_plan.specs.declared.atoms.Mark.TheVariants.{Held, Outside}
use Rattle.vc_plan.specs.declared.plans.Plan.{Plan}
use Rattle.vc_plan.specs.declared.plans.Var.{Var}
use Rattle.vc_plan.specs.declared.rules.Kind.{Kind}
use Rattle.vc_plan.specs.declared.rules.Kind.TheVariants.{Among, Compare, Equate, ByTable, Never, Last, Line}
use Rattle.vc_plan.specs.declared.rules.Rule.{Rule}
use Rattle.vc_plan.specs.Answers.{nothing}
use Rattle.vc_plan.specs.Bounds.{bound_of, greatest, is_at, is_bound, only_if}
use Rattle.vc_plan.specs.Domains.{count_of, numbers_below}
use Rattle.vc_plan.specs.Gives.{by_rule, by_user, by_entry, entry_says, value_says}
use Rattle.vc_plan.specs.RuleShapes.{has_one_last, is_last_of}
use Rattle.vc_plan.specs.Seen.{Seen, is_here, is_slot_here, says, slot_in}
use Rattle.vc_plan.specs.Sources.{Entry, entry_of, user_of}
use Rattle.vc_plan.specs.Valid.{IsValid}
use Rattle.vc_rule_yield.specs.Yielding.{Conclusion, Rooms}
use Rattle.vc_rule_premises.specs.Saying.{concluding, conclusion_from, said_from, HasRoomFor}
use Rattle.vc_rule.specs.Rooms.{acting_reads, room_of_kind, rooms_of, rooms_of_rules}
use Rattle.vc_rule.proofs.RoomLaws as rules
use Rattle.vc_net_sources.specs.Asking.{source_said, why_there}
use Rattle.vc_net_sources.specs.Laws.{GrainsFitPlaces, RoomsSuffice}
use Rattle.vc_net_sources.proofs.GiverLaws.{why_short}

-- a variable of a valid plan has the rule of its last grain
one_passes : (p : Rule → Bool) (rules : List Rule) → (length (filter p rules) == 1) ≡ true → list_any p rules ≡ true
one_passes p [] e = absurd (cc)
one_passes p (x ∷ rules) e = choice (p x) e (one_passes p rules)
  where
    choice : (b : Bool) → (length (cond b (x ∷ filter p rules) (filter p rules)) == 1) ≡ true
        → ((length (filter p rules) == 1) ≡ true → list_any p rules ≡ true) → (b || list_any p rules) ≡ true
    choice true q later = refl
    choice false q later = later q

last_is : (v : ℕ) (kind : Kind) → is_last_of v kind ≡ true → kind ≡ Last v
last_is v (Among w restriction) e = absurd (cc)
last_is v (Compare r a b) e = absurd (cc)
last_is v (Equate a b) e = absurd (cc)
last_is v (ByTable table columns) e = absurd (cc)
last_is v Never e = absurd (cc)
last_is v (Last w) e = ap Last (sym (eqb-true v w e))
last_is v (Line i) e = absurd (cc)

last_there : (plan : Plan) (v : ℕ) → IsValid plan → v < length plan.vars
    → (rule : Rule) × IsIn rule plan.rules × (rule.kind ≡ Last v)
last_there plan v valid below =
    let one : has_one_last plan v ≡ true
    = all_at nat_eq number_exact number_itself (has_one_last plan) (numbers_below (length plan.vars)) v valid.lasts
    (range_has 0 (length plan.vars) v (omega arith) (omega (arith, below))) in
    let r = any_at (λ rule. is_last_of v rule.kind) plan.rules
    (one_passes (λ rule. is_last_of v rule.kind) plan.rules one) in
    (r.0, r.1, last_is v r.0.kind r.2)

-- so there is room for one conclusion of one premise
record HasOneRoom (rooms : Rooms) : Type 0 where
  cites : 1 ≤ rooms.cites
  atoms : 1 ≤ rooms.atoms
  premises : 1 ≤ rooms.premises

rule_room : (plan : Plan) (v : ℕ) (rule : Rule) (rules : List Rule) → IsIn rule rules → rule.kind ≡ Last v
    → HasOneRoom (rooms_of_rules plan rules)
rule_room plan v rule [] there is = absurd there
rule_room plan v rule (first ∷ rules) (inl same) is =
    let kind : first.kind ≡ Last v = ap (λ (z : Rule). z.kind) (sym same) ∙ is in
    let common = acting_reads plan first in
    subst (λ k. HasOneRoom (record {
      cites = max (room_of_kind plan first k).cites (rooms_of_rules plan rules).cites;
      atoms = max (room_of_kind plan first k).atoms (rooms_of_rules plan rules).atoms;
      premises = max (room_of_kind plan first k).premises (rooms_of_rules plan rules).premises;
    })) (sym kind) (record { cites = omega arith; atoms = omega arith; premises = omega arith })
rule_room plan v rule (first ∷ rules) (inr there) is =
    let h = rule_room plan v rule rules there is in
    let cites = h.cites in
    let atoms = h.atoms in
    let premises = h.premises in
    record { cites = omega arith; atoms = omega arith; premises = omega arith }

var_here : (plan : Plan) (seen : Seen) (v : ℕ) → is_here plan seen v ≡ true → v < length plan.vars
var_here plan seen v = by (slice_get plan.vars v) refl
  where
    by : (o : Option Var) → slice_get plan.vars v ≡ o → is_slot_here seen (slot_in o) ≡ true → v < length plan.vars
    by None e h = absurd (cc)
    by (Some x) e h = get_below plan.vars v x e

-- what says no more than one atom has room there
value_room : (seen : Seen) (why : List Atom) (rooms : Rooms) (v : ℕ) (a : Value) → length why ≤ 1 → HasOneRoom rooms
    → HasRoomFor rooms (said_from seen why (atoms (Is v a ∷ [])))
value_room seen why rooms v a short one = by (says seen (Is v a))
  where
    by : (b : Bool) → HasRoomFor rooms (concluding (map (conclusion_from why) (cond (not b) (Is v a ∷ []) [])))
    by true = (tt, omega arith, omega arith)
    by false =
        let cites = one.cites in
        let atoms = one.atoms in
        let premises = one.premises in
        let counted : sum_by (λ (c : Conclusion). length c.premises) (conclusion_from why (Is v a) ∷ [])
        ≡ length why + sum_by (λ (c : Conclusion). length c.premises) [] =
        sum_by-cons (λ (c : Conclusion). length c.premises) (conclusion_from why (Is v a)) [] in
        ((omega arith, tt), omega arith, omega arith)

clash_room : (seen : Seen) (why : List Atom) (rooms : Rooms) → length why ≤ 1 → HasOneRoom rooms
    → HasRoomFor rooms (said_from seen why clash)
clash_room seen why rooms short one =
    let cites = one.cites in
    let premises = one.premises in
    (omega arith, omega arith)

nothing_room : (seen : Seen) (why : List Atom) (rooms : Rooms) → HasRoomFor rooms (said_from seen why nothing)
nothing_room seen why rooms = (tt, omega arith, omega arith)

user_room : (seen : Seen) (why : List Atom) (rooms : Rooms) (v : ℕ) (o : Option Value) → length why ≤ 1
    → HasOneRoom rooms
    → HasRoomFor rooms (said_from seen why (value_says v o))
user_room seen why rooms v None short one = nothing_room seen why rooms
user_room seen why rooms v (Some a) short one = value_room seen why rooms v a short one

entry_room : (seen : Seen) (why : List Atom) (rooms : Rooms) (v : ℕ) (o : Option Entry) → length why ≤ 1
    → HasOneRoom rooms
    → HasRoomFor rooms (said_from seen why (entry_says v o))
entry_room seen why rooms v None short one = nothing_room seen why rooms
entry_room seen why rooms v (Some entry) short one = by entry.mark
  where
    by : (m : Mark) → HasRoomFor rooms (said_from seen why (entry_says v (Some (record entry { mark = m }))))
    by (Held a) = value_room seen why rooms v a short one
    by Outside = clash_room seen why rooms short one

source_room : (plan : Plan) (seen : Seen) (v : ℕ) (given : Given Atom) → IsValid plan
    → (HasOneRoom (rooms_of plan) → HasRoomFor (rooms_of plan) (said_from seen (why_there plan v) given))
    → HasRoomFor (rooms_of plan) (source_said plan seen v given)
source_room plan seen v given valid fits = by (is_here plan seen v) refl
  where
    by : (b : Bool) → is_here plan seen v ≡ b
        → HasRoomFor (rooms_of plan) (said_from seen (why_there plan v) (cond b given nothing))
    by true e =
        let l = last_there plan v valid (var_here plan seen v e) in
        fits (rule_room plan v l.0 plan.rules l.1 l.2)
    by false e = nothing_room seen (why_there plan v) (rooms_of plan)

pub rooms_suffice : RoomsSuffice
rooms_suffice plan sources seen (by_rule r) valid lies = rules.rooms_suffice plan seen r valid lies
rooms_suffice plan sources seen (by_user v) valid lies =
    source_room plan seen v (value_says v (user_of sources v)) valid
    (user_room seen (why_there plan v) (rooms_of plan) v (user_of sources v) (why_short plan v))
rooms_suffice plan sources seen (by_entry v) valid lies =
    source_room plan seen v (entry_says v (entry_of sources v)) valid
    (entry_room seen (why_there plan v) (rooms_of plan) v (entry_of sources v) (why_short plan v))

-- and its conclusion of the value has a place for that each grain is out
greatest_in : {X : Type 0} (f : X → ℕ) (x : X) (xs : List X) → IsIn x xs → f x ≤ greatest f xs
greatest_in f x [] there = absurd there
greatest_in f x (y ∷ ys) (inl same) = subst (λ z. f z ≤ max (f y) (greatest f ys)) (sym same) (omega arith)
greatest_in f x (y ∷ ys) (inr there) = let h = greatest_in f x ys there in omega arith

pub grains_fit_places : GrainsFitPlaces
grains_fit_places plan v valid below =
    let l = last_there plan v valid below in
    let own : bound_of plan l.0 (is_at v) ≡ count_of plan v =
    ap (λ k. is_bound plan l.0 k v) l.2 ∙ ap (λ b. only_if b (count_of plan v)) (eq-eqb v v refl) in
    let most = greatest_in (λ (rule : Rule). bound_of plan rule (is_at v)) l.0 plan.rules l.1 in
    omega arith
