-- What can't stand together: two atoms at odds, and what exhausts a variable; without any one of them the rest can.
use Rattle.std.proofs.Common.{◌≡◌, ℕ, ◌<◌, Bool, true, false, cond, not, ◌&&◌, ◌⊎◌, List, [], ◌∷◌, length, map, refl}
use Rattle.std.proofs.Common.{sym, ◌∙◌, ap, subst, inl, inr, arith}
use Rattle.std.specs.Prelude.{Option, None, Some, nat_eq, nat_lt, slice_get, ◌==◌}
use Rattle.std.specs.List.{filter, list_all}
use Rattle.std.specs.Option.{option_to_list}
use Rattle.std.proofs.lemmas.Bool.{and_parts, and_from, eq-eqb, eqb-true, false_from_ne_true, ltb-true, not-true}
use Rattle.std.proofs.lemmas.Bool.{or_cases}
use Rattle.vc_base.specs.Sets.{has, Within}
use Rattle.vc_base.proofs.ChainLaws.{get_below}
use Rattle.vc_base.proofs.ListLaws.{has_range, number_exact, number_itself, range_has}
use Rattle.vc_base.proofs.SetLaws.{all_at, all_from, both, has_back, has_cases, has_either, has_filter, has_first}
use Rattle.vc_base.proofs.SetLaws.{has_front, has_more}
use Rattle.vc_plan.specs.declared.atoms.Atom.{Atom}
use Rattle.vc_plan.specs.declared.atoms.Atom.TheVariants.{Here, Out, Is}
use Rattle.vc_plan.specs.declared.plans.Plan.{Plan}
use Rattle.vc_plan.specs.declared.plans.Var.{Var}
use Rattle.vc_plan.specs.Clear.{are_all_out, collides, is_clear, is_exhausted, is_named}
use Rattle.vc_plan.specs.Domains.{count_of, numbers_below}
use Rattle.vc_plan.specs.Pieces.{same_value}
use Rattle.vc_plan.specs.Seen.{Seen, is_here, is_slot_here, same_atom, seen_of, slot_in}
use Rattle.vc_plan.proofs.PlanLaws.Atoms.{atom_exact, atom_itself, value_itself}
use Rattle.vc_plan.proofs.PlanLaws.Bound.{has_image}
use Rattle.vc_plan.proofs.PlanLaws.Facts.{Facts, clear_from, facts, part_clear, slot_stays}
use Rattle.vc_plan.proofs.PlanLaws.Lists.{all_grows}
use Rattle.vc_plan_reasons.specs.Checking.{set_with}
use Rattle.vc_plan_reasons.specs.Refuting.{set_without}
use Rattle.vc_plan_reasons.specs.Things.{slots_of_var}
use Rattle.vc_plan_blame.specs.Blame.{are_at_odds, exhausting}

-- a set whose atoms are all named, and one that exhausts no variable
abbrev pub AreNamed : Plan → List Atom → Type 0
AreNamed plan set = (a : Atom) → has same_atom set a ≡ true → is_named plan a ≡ true

abbrev pub HasRoom : Plan → List Atom → Type 0
HasRoom plan set = (v : ℕ) → is_exhausted plan (seen_of set) v ≡ false

-- an atom isn't at odds with itself, nor with a slot
pub self_apart : (plan : Plan) (a : Atom) → collides plan a a ≡ false
self_apart plan (Here i) = refl
self_apart plan (Out v g) = refl
self_apart plan (Is v x) =
    false_from_ne_true ((v == v) && not (same_value x x)) (λ e.
    both (value_itself x) (not-true (same_value x x) (and_parts (v == v) (not (same_value x x)) e).1))

pub slot_apart : (plan : Plan) (a : Atom) (i : ℕ) → collides plan a (Here i) ≡ false
slot_apart plan (Here j) i = refl
slot_apart plan (Out v g) i = refl
slot_apart plan (Is v x) i = refl

-- a part exhausts no more than the whole
part_room : (plan : Plan) (part set : List Atom) → Within same_atom part set → HasRoom plan set → HasRoom plan part
part_room plan part set within room v =
    let s = seen_of part in
    let t = seen_of set in
    false_from_ne_true (is_exhausted plan s v) (λ e.
    let p = and_parts (is_here plan s v) (are_all_out plan s v) e in
    both
    (and_from (is_here plan t v) (are_all_out plan t v)
    (slot_stays s t (λ i h. within (Here i) h) (slot_in (slice_get plan.vars v)) p.0)
    (all_grows (s.out v) (t.out v) (λ g h. within (Out v g) h) (numbers_below (count_of plan v)) p.1))
    (room v))

-- one atom beside the root
two_cases : (c a : Atom) → has same_atom (set_with (c ∷ [])) a ≡ true → (a ≡ Here 0) ⊎ (a ≡ c)
two_cases c a h =
    elim (has_cases same_atom atom_exact atom_itself (Here 0) (c ∷ []) a h) [
      | inl e ↦ inl e
      | inr k ↦ elim (has_cases same_atom atom_exact atom_itself c [] a k) [ inl e ↦ inr e | inr q ↦ absurd (cc) ]
    ]

one_clear : (plan : Plan) (set : List Atom) (c : Atom) → AreNamed plan set → HasRoom plan set
    → Within same_atom (set_with (c ∷ [])) set → is_clear plan (set_with (c ∷ [])) ≡ true
one_clear plan set c named room within =
    clear_from plan (set_with (c ∷ [])) (record {
      named = λ a h. named a (within a h);
      apart = λ a b h k. elim (two_cases c b k) [
        | inl e ↦ ap (collides plan a) e ∙ slot_apart plan a 0
        | inr e ↦ elim (two_cases c a h) [
          | inl q ↦ ap (λ z. collides plan z b) q
          | inr q ↦ ap (λ z. collides plan z b) q ∙ (ap (collides plan c) e ∙ self_apart plan c)
        ]
      ];
      room = part_room plan (set_with (c ∷ [])) set within room;
    })

-- a set with two atoms at odds isn't clear
pub odds_unclear : (plan : Plan) (set : List Atom) (a b : Atom) → has same_atom set a ≡ true
    → has same_atom set b ≡ true
    → are_at_odds plan a b ≡ true → is_clear plan set ≡ false
odds_unclear plan set a b h k e =
    false_from_ne_true (is_clear plan set) (λ q.
    let f : Facts plan set = facts plan set q in
    elim (or_cases (collides plan a b) (collides plan b a) e) [
      | inl c ↦ both c (f.apart a b h k)
      | inr c ↦ both c (f.apart b a k h)
    ])

-- what can't stand together, though without any one of them the rest can
pub record Colliding (plan : Plan) (premises : List Atom) : Type 0 where
  pub unclear : is_clear plan (set_with premises) ≡ false
  pub needed : list_all (λ atom. is_clear plan (set_without atom (set_with premises))) premises ≡ true

-- of two, either stands alone
pair_without : (b c : Atom) (set : List Atom)
    → ((a : Atom) → has same_atom set a ≡ true → (a ≡ Here 0) ⊎ ((a ≡ b) ⊎ (a ≡ c)))
    → Within same_atom (set_without b set) (set_with (c ∷ []))
pair_without b c set only a h =
    let p = has_filter same_atom atom_exact atom_itself (λ other. not (same_atom b other)) set a h in
    elim (only a p.0) [
      | inl e ↦ subst (λ z. has same_atom (set_with (c ∷ [])) z ≡ true) (sym e)
          (has_first same_atom atom_exact atom_itself (Here 0) (c ∷ []))
      | inr r ↦ elim r [
        | inl e ↦ absurd (both (subst (λ z. same_atom b z ≡ true) (sym e) (atom_itself b))
            (not-true (same_atom b a) p.1))
        | inr e ↦ subst (λ z. has same_atom (set_with (c ∷ [])) z ≡ true) (sym e)
            (has_more same_atom atom_exact atom_itself (Here 0) (c ∷ []) c
            (has_first same_atom atom_exact atom_itself c []))
      ]
    ]

three_cases : (b c a : Atom) → has same_atom (set_with (b ∷ c ∷ [])) a ≡ true → (a ≡ Here 0) ⊎ ((a ≡ b) ⊎ (a ≡ c))
three_cases b c a h =
    elim (has_cases same_atom atom_exact atom_itself (Here 0) (b ∷ c ∷ []) a h) [
      | inl e ↦ inl e
      | inr k ↦ elim (has_cases same_atom atom_exact atom_itself b (c ∷ []) a k) [
        | inl e ↦ inr (inl e)
        | inr q ↦ elim (has_cases same_atom atom_exact atom_itself c [] a q)
            [ inl e ↦ inr (inr e) | inr z ↦ absurd (cc) ]
      ]
    ]

root_and : (plan : Plan) (set : List Atom) (c : Atom) → has same_atom set (Here 0) ≡ true → has same_atom set c ≡ true
    → Within same_atom (set_with (c ∷ [])) set
root_and plan set c root h a k =
    elim (two_cases c a k) [
      | inl e ↦ subst (λ z. has same_atom set z ≡ true) (sym e) root
      | inr e ↦ subst (λ z. has same_atom set z ≡ true) (sym e) h
    ]

pub pair_collides : (plan : Plan) (set : List Atom) (b c : Atom) → AreNamed plan set → HasRoom plan set
    → has same_atom set (Here 0) ≡ true → has same_atom set b ≡ true → has same_atom set c ≡ true
    → are_at_odds plan b c ≡ true → Colliding plan (b ∷ c ∷ [])
pair_collides plan set b c named room root h k e =
    let both_of = set_with (b ∷ c ∷ []) in
    let b_in : has same_atom both_of b ≡ true
    = has_more same_atom atom_exact atom_itself (Here 0) (b ∷ c ∷ []) b
    (has_first same_atom atom_exact atom_itself b (c ∷ [])) in
    let c_in : has same_atom both_of c ≡ true
    = has_more same_atom atom_exact atom_itself (Here 0) (b ∷ c ∷ []) c
    (has_more same_atom atom_exact atom_itself b (c ∷ []) c (has_first same_atom atom_exact atom_itself c [])) in
    let without_b : is_clear plan (set_without b both_of) ≡ true
    = part_clear plan (set_without b both_of) (set_with (c ∷ []))
    (one_clear plan set c named room (root_and plan set c root k)) (pair_without b c both_of (three_cases b c)) in
    let without_c : is_clear plan (set_without c both_of) ≡ true
    = part_clear plan (set_without c both_of) (set_with (b ∷ []))
    (one_clear plan set b named room (root_and plan set b root h))
    (pair_without c b both_of (λ a q. elim (three_cases b c a q) [
      | inl r ↦ inl r
      | inr r ↦ elim r [ inl z ↦ inr (inr z) | inr z ↦ inr (inl z) ]
    ])) in
    record {
      unclear = odds_unclear plan both_of b c b_in c_in e;
      needed = and_from (is_clear plan (set_without b both_of)) (is_clear plan (set_without c both_of) && true)
          without_b
          (and_from (is_clear plan (set_without c both_of)) true without_c refl);
    }

-- what exhausts a variable: its slot, if it isn't the root, and its grains
pub slot_of_here : (s : Seen) (o : Option ℕ) → is_slot_here s o ≡ true → (i : ℕ) × (o ≡ Some i) × (s.here i ≡ true)
slot_of_here s None e = absurd (cc)
slot_of_here s (Some i) e = (i, refl, e)

pub data Member (plan : Plan) (v : ℕ) (a : Atom) : Type 0 where
  its_slot : (i : ℕ) → a ≡ Here i → (i ≡ 0 → ⊥) → slot_in (slice_get plan.vars v) ≡ Some i → Member plan v a
  its_grain : (g : ℕ) → a ≡ Out v g → g < count_of plan v → Member plan v a

slot_member : (plan : Plan) (v : ℕ) (a : Atom) (o : Option ℕ) → slot_in (slice_get plan.vars v) ≡ o
    → has same_atom (map Here (filter (λ i. not (i == 0)) (option_to_list o))) a ≡ true → Member plan v a
slot_member plan v a None q h = absurd (cc)
slot_member plan v a (Some i) q h = choice (i == 0) refl h
  where
    choice : (b : Bool) → (i == 0) ≡ b → has same_atom (map Here (cond (not b) (i ∷ []) [])) a ≡ true → Member plan v a
    choice true e k = absurd (cc)
    choice false e k =
        elim (has_cases same_atom atom_exact atom_itself (Here i) [] a k) [
          | inl r ↦ its_slot i r (λ z. both (eq-eqb i 0 z) e) q
          | inr r ↦ absurd (cc)
        ]

image_has : (f : ℕ → Atom) (gs : List ℕ) (a : Atom) → has same_atom (map f gs) a ≡ true
    → (g : ℕ) × (a ≡ f g) × (has nat_eq gs g ≡ true)
image_has f [] a h = absurd (cc)
image_has f (g ∷ gs) a h =
    elim (has_cases same_atom atom_exact atom_itself (f g) (map f gs) a h) [
      | inl e ↦ (g, e, has_first nat_eq number_exact number_itself g gs)
      | inr k ↦ let r = image_has f gs a k in (r.0, r.1, has_more nat_eq number_exact number_itself g gs r.0 r.2)
    ]

pub member : (plan : Plan) (v : ℕ) (a : Atom) → has same_atom (exhausting plan v) a ≡ true → Member plan v a
member plan v a h =
    elim (has_either same_atom atom_exact atom_itself (map Here (filter (λ i. not (i == 0)) (slots_of_var plan v)))
    (map (Out v) (numbers_below (count_of plan v))) a h) [
      | inl e ↦ slot_member plan v a (slot_in (slice_get plan.vars v)) refl e
      | inr e ↦
          let r = image_has (Out v) (numbers_below (count_of plan v)) a e in
          let below = (has_range 0 (count_of plan v) r.0 r.2).1 in
          its_grain r.0 r.1 (omega (arith, below))
    ]

pub grain_member : (plan : Plan) (v g : ℕ) → g < count_of plan v → has same_atom (exhausting plan v) (Out v g) ≡ true
grain_member plan v g below =
    has_back same_atom atom_exact atom_itself (map Here (filter (λ i. not (i == 0)) (slots_of_var plan v)))
    (map (Out v) (numbers_below (count_of plan v))) (Out v g)
    (has_image (Out v) (numbers_below (count_of plan v)) g
    (range_has 0 (count_of plan v) g (omega arith) (omega (arith, below))))

slot_stands : (plan : Plan) (v i : ℕ) (o : Option ℕ) → o ≡ Some i
    → has same_atom (Here 0 ∷ (map Here (filter (λ j. not (j == 0)) (option_to_list o)))) (Here i) ≡ true
slot_stands plan v i None e = absurd (cc)
slot_stands plan v i (Some j) e = choice (j == 0) refl
  where
    same : j ≡ i
    same = cc

    choice : (b : Bool) → (j == 0) ≡ b → has same_atom (Here 0 ∷ map Here (cond (not b) (j ∷ []) [])) (Here i) ≡ true
    choice true q = ap (λ z. has same_atom (Here 0 ∷ []) (Here z)) (sym same ∙ eqb-true j 0 q)
    choice false q =
        subst (λ z. has same_atom (Here 0 ∷ Here j ∷ []) (Here z) ≡ true) same
        (has_more same_atom atom_exact atom_itself (Here 0) (Here j ∷ []) (Here j)
        (has_first same_atom atom_exact atom_itself (Here j) []))

pub slot_here : (plan : Plan) (set : List Atom) (v : ℕ) → is_here plan (seen_of set) v ≡ true
    → (i : ℕ) × (slot_in (slice_get plan.vars v) ≡ Some i) × (has same_atom set (Here i) ≡ true)
slot_here plan set v e = slot_of_here (seen_of set) (slot_in (slice_get plan.vars v)) e

var_there : (plan : Plan) (v i : ℕ) (o : Option Var) → slice_get plan.vars v ≡ o → slot_in o ≡ Some i
    → v < length plan.vars
var_there plan v i None q e = absurd (cc)
var_there plan v i (Some x) q e = get_below plan.vars v x q

pub grain_out : (plan : Plan) (set : List Atom) (v g : ℕ) → are_all_out plan (seen_of set) v ≡ true
    → g < count_of plan v
    → has same_atom set (Out v g) ≡ true
grain_out plan set v g all below =
    all_at nat_eq number_exact number_itself (λ k. has same_atom set (Out v k)) (numbers_below (count_of plan v)) g all
    (range_has 0 (count_of plan v) g (omega arith) (omega (arith, below)))

-- an exhausted variable is exhausted by its slot and its grains alone, all of which stand
exhausting_unclear : (plan : Plan) (set : List Atom) (v : ℕ) → is_exhausted plan (seen_of set) v ≡ true
    → is_clear plan (set_with (exhausting plan v)) ≡ false
exhausting_unclear plan set v e =
    let all = set_with (exhausting plan v) in
    let p = and_parts (is_here plan (seen_of set) v) (are_all_out plan (seen_of set) v) e in
    let slot = slot_here plan set v p.0 in
    let slots = map Here (filter (λ i. not (i == 0)) (slots_of_var plan v)) in
    let outs = map (Out v) (numbers_below (count_of plan v)) in
    let stands : has same_atom all (Here slot.0) ≡ true
    = has_front same_atom atom_exact atom_itself (Here 0 ∷ slots) outs (Here slot.0)
    (slot_stands plan v slot.0 (slot_in (slice_get plan.vars v)) slot.1) in
    let here : is_here plan (seen_of all) v ≡ true = ap (is_slot_here (seen_of all)) slot.1 ∙ stands in
    let out : are_all_out plan (seen_of all) v ≡ true
    = all_from nat_eq number_exact number_itself (λ g. has same_atom all (Out v g)) (numbers_below (count_of plan v))
    (λ g h.
    let r = (has_range 0 (count_of plan v) g h).1 in
    has_more same_atom atom_exact atom_itself (Here 0) (exhausting plan v) (Out v g)
    (grain_member plan v g (omega (arith, r)))) in
    false_from_ne_true (is_clear plan all) (λ q.
    both (and_from (is_here plan (seen_of all) v) (are_all_out plan (seen_of all) v) here out)
    ((facts plan all q).room v))

pub exhausting_within : (plan : Plan) (set : List Atom) (v : ℕ) → is_exhausted plan (seen_of set) v ≡ true
    → Within same_atom (exhausting plan v) set
exhausting_within plan set v e a h = by (member plan v a h)
  where
    p : (is_here plan (seen_of set) v ≡ true) × (are_all_out plan (seen_of set) v ≡ true)
    p = and_parts (is_here plan (seen_of set) v) (are_all_out plan (seen_of set) v) e

    by : Member plan v a → has same_atom set a ≡ true
    by (its_slot i q nonzero s) =
        let slot = slot_here plan set v p.0 in
        let is : slot.0 ≡ i = let same : Some slot.0 ≡ Some i = sym slot.1 ∙ s in cc in
        subst (λ z. has same_atom set z ≡ true) (ap Here is ∙ sym q) slot.2
    by (its_grain g q below) = subst (λ z. has same_atom set z ≡ true) (sym q) (grain_out plan set v g p.1 below)

-- without one of them no variable is exhausted
exhausting_room : (plan : Plan) (v : ℕ) (a : Atom)
    → list_all (λ w. nat_lt 0 (count_of plan w)) (numbers_below (length plan.vars)) ≡ true
    → has same_atom (exhausting plan v) a ≡ true → HasRoom plan (set_without a (set_with (exhausting plan v)))
exhausting_room plan v a some h w = false_from_ne_true (is_exhausted plan (seen_of rest) w) contradicts
  where
    rest : List Atom
    rest = set_without a (set_with (exhausting plan v))

    gone : has same_atom rest a ≡ true → ⊥
    gone k =
        let p
        = has_filter same_atom atom_exact atom_itself (λ other. not (same_atom a other))
        (set_with (exhausting plan v)) a k in
        both (atom_itself a) (not-true (same_atom a a) p.1)

    stands : (b : Atom) → has same_atom rest b ≡ true → (b ≡ Here 0) ⊎ (has same_atom (exhausting plan v) b ≡ true)
    stands b k =
        has_cases same_atom atom_exact atom_itself (Here 0) (exhausting plan v) b
        (has_filter same_atom atom_exact atom_itself (λ other. not (same_atom a other)) (set_with (exhausting plan v)) b
        k).0

    same_var : has same_atom rest (Out w 0) ≡ true → w ≡ v
    same_var k =
        elim (stands (Out w 0) k) [
          | inl e ↦ absurd (cc)
          | inr m ↦ by (member plan v (Out w 0) m)
        ]
      where
        by : Member plan v (Out w 0) → w ≡ v
        by (its_slot i q nonzero s) = absurd (cc)
        by (its_grain g q below) = cc

    without : Member plan v a → is_here plan (seen_of rest) v ≡ true → are_all_out plan (seen_of rest) v ≡ true → ⊥
    without (its_slot i q nonzero s) here out =
        let slot = slot_here plan rest v here in
        let is : slot.0 ≡ i = let same : Some slot.0 ≡ Some i = sym slot.1 ∙ s in cc in
        gone (subst (λ z. has same_atom rest z ≡ true) (ap Here is ∙ sym q) slot.2)
    without (its_grain g q below) here out =
        gone (subst (λ z. has same_atom rest z ≡ true) (sym q) (grain_out plan rest v g out below))

    contradicts : is_exhausted plan (seen_of rest) w ≡ true → ⊥
    contradicts e =
        let p = and_parts (is_here plan (seen_of rest) w) (are_all_out plan (seen_of rest) w) e in
        let slot = slot_here plan rest w p.0 in
        let there : w < length plan.vars = var_there plan w slot.0 (slice_get plan.vars w) refl slot.1 in
        let grains : 0 < count_of plan w
        = ltb-true 0 (count_of plan w)
        (all_at nat_eq number_exact number_itself (λ u. nat_lt 0 (count_of plan u)) (numbers_below (length plan.vars)) w
        some
        (range_has 0 (length plan.vars) w (omega arith) (omega (arith, there)))) in
        let is : w ≡ v = same_var (grain_out plan rest w 0 p.1 grains) in
        without (member plan v a h) (subst (λ z. is_here plan (seen_of rest) z ≡ true) is p.0)
        (subst (λ z. are_all_out plan (seen_of rest) z ≡ true) is p.1)

pub exhausted_collides : (plan : Plan) (set : List Atom) (v : ℕ)
    → list_all (λ w. nat_lt 0 (count_of plan w)) (numbers_below (length plan.vars)) ≡ true → AreNamed plan set
    → has same_atom set (Here 0) ≡ true → is_exhausted plan (seen_of set) v ≡ true → Colliding plan (exhausting plan v)
exhausted_collides plan set v some named root e = record {
  unclear = exhausting_unclear plan set v e;
  needed = all_from same_atom atom_exact atom_itself (λ a. is_clear plan (set_without a all)) (exhausting plan v)
      without;
}
  where
    all : List Atom
    all = set_with (exhausting plan v)

    all_in : Within same_atom all set
    all_in b h =
        elim (has_cases same_atom atom_exact atom_itself (Here 0) (exhausting plan v) b h) [
          | inl q ↦ subst (λ z. has same_atom set z ≡ true) (sym q) root
          | inr k ↦ exhausting_within plan set v e b k
        ]

    no_value : (b c : Atom) → has same_atom all b ≡ true → collides plan b c ≡ false
    no_value b c h =
        elim (has_cases same_atom atom_exact atom_itself (Here 0) (exhausting plan v) b h) [
          | inl q ↦ ap (λ z. collides plan z c) q
          | inr k ↦ by (member plan v b k)
        ]
      where
        by : Member plan v b → collides plan b c ≡ false
        by (its_slot i q nonzero s) = ap (λ z. collides plan z c) q
        by (its_grain g q below) = ap (λ z. collides plan z c) q

    without : (a : Atom) → has same_atom (exhausting plan v) a ≡ true → is_clear plan (set_without a all) ≡ true
    without a h =
        let inside : (b : Atom) → has same_atom (set_without a all) b ≡ true → has same_atom all b ≡ true
        = λ b k. (has_filter same_atom atom_exact atom_itself (λ other. not (same_atom a other)) all b k).0 in
        clear_from plan (set_without a all) (record {
          named = λ b k. named b (all_in b (inside b k));
          apart = λ b c k m. no_value b c (inside b k);
          room = exhausting_room plan v a some h;
        })
