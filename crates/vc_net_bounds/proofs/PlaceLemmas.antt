-- Bounds raised at the places of a plan: at one place, at the grains of a variable.
use Rattle.std.proofs.Common.{◌≡◌, ℕ, zero, suc, ◌+◌, ◌-◌, ◌<◌, ◌≤◌, max, Bool, true, false, cond, ◌&&◌, ◌||◌, ◌==◌}
use Rattle.std.proofs.Common.{not, List, [], ◌∷◌, length, refl, sym, ◌∙◌, ap, subst, arith}
use Rattle.std.specs.Prelude.{Some, nat_lt, slice_get}
use Rattle.std.specs.List.{list_any, range_with_len}
use Rattle.std.proofs.lemmas.Bool.{and_from, and_parts, eq-eqb, eqb-true, false_from_ne_true, lt-ltb, ltb-true}
use Rattle.std.proofs.lemmas.Bool.Decides.{nat_tests}
use Rattle.vc_base.proofs.ChainLaws.{get_below}
use Rattle.vc_plan.specs.declared.plans.Plan.{Plan}
use Rattle.vc_plan.specs.Bounds.{Place, here_at, is_at, only_if, out_at}
use Rattle.vc_plan.specs.Domains.{count_of, is_restrictable, numbers_below}
use Rattle.vc_net_places.specs.Cells.{all_places}
use Rattle.vc_net_places.specs.Places.{first_in, index_of, is_place, number_of}
use Rattle.vc_net_places.proofs.PlaceLaws.Cells.{places_are_in_order, places_length}
use Rattle.vc_net_places.proofs.PlaceLaws.Numbering.{has_grain, numbers_are_taken}
use Rattle.vc_net_places.proofs.PlaceLaws.Things.{first_is}
use Rattle.vc_net_bounds.specs.Raising.{at_grains, at_line, at_place, at_variable, raised_at, raised_by, raised_grains}
use Rattle.vc_net_bounds.specs.Raising.{same_place}
use Rattle.vc_net_bounds.proofs.RaisingLemmas.{raised_each, raised_none, raised_one, raised_same, raised_twice}

-- two places are one where the test says so
same_is : (q p : Place) → same_place q p ≡ true → q ≡ p
same_is (here_at i) (here_at j) e = ap here_at (eqb-true i j e)
same_is (here_at i) (out_at w h) e = absurd (cc)
same_is (here_at i) (is_at w) e = absurd (cc)
same_is (out_at v g) (here_at j) e = absurd (cc)
same_is (out_at v g) (out_at w h) e =
    let p = and_parts (v == w) (g == h) e in
    ap (λ x. out_at x g) (eqb-true v w p.0) ∙ ap (out_at w) (eqb-true g h p.1)
same_is (out_at v g) (is_at w) e = absurd (cc)
same_is (is_at v) (here_at j) e = absurd (cc)
same_is (is_at v) (out_at w h) e = absurd (cc)
same_is (is_at v) (is_at w) e = ap is_at (eqb-true v w e)

same_itself : (q : Place) → same_place q q ≡ true
same_itself (here_at i) = eq-eqb i i refl
same_itself (out_at v g) = and_from (v == v) (g == g) (eq-eqb v v refl) (eq-eqb g g refl)
same_itself (is_at v) = eq-eqb v v refl

-- what stands at a number is the place of that number
record Numbered (plan : Plan) (i : ℕ) (p : Place) : Type 0 where
  pub there : is_place plan p ≡ true
  pub number : number_of plan p ≡ i

numbered : (plan : Plan) (i : ℕ) (p : Place) → slice_get (all_places plan) i ≡ Some p → Numbered plan i p
numbered plan i p e =
    let below = get_below (all_places plan) i p e in
    let count = places_length plan (length plan.vars) in
    let taken = numbers_are_taken plan i (omega (arith, below, count)) in
    let order = places_are_in_order plan taken.0 taken.1 in
    let some : Some taken.0 ≡ Some p = sym order ∙ (ap (slice_get (all_places plan)) taken.2 ∙ e) in
    let is : taken.0 ≡ p = cc in
    record {
      there = subst (λ q. is_place plan q ≡ true) is taken.1;
      number = subst (λ q. number_of plan q ≡ i) is taken.2;
    }

-- at one place of the plan
pub place_raised : (plan : Plan) (q : Place) (b : ℕ) (ns : List ℕ) → is_place plan q ≡ true
    → length ns ≡ length (all_places plan)
    → raised_at (number_of plan q) b ns ≡ raised_by (at_place q b) (all_places plan) ns
place_raised plan q b ns there len =
    raised_one (at_place q b) b (all_places plan) (number_of plan q) here apart ns len
  where
    here : (p : Place) → slice_get (all_places plan) (number_of plan q) ≡ Some p → at_place q b p ≡ b
    here p e =
        let some : Some q ≡ Some p = sym (places_are_in_order plan q there) ∙ e in
        let is : q ≡ p = cc in
        ap (λ t. only_if t b) (ap (same_place q) (sym is) ∙ same_itself q)

    apart : (j : ℕ) (p : Place) → slice_get (all_places plan) j ≡ Some p → (j ≡ number_of plan q → ⊥)
        → at_place q b p ≡ 0
    apart j p e other =
        let n : Numbered plan j p = numbered plan j p e in
        ap (λ t. only_if t b)
        (false_from_ne_true (same_place q p) (λ s. other (sym n.number ∙ ap (number_of plan) (sym (same_is q p s)))))

-- a place that the plan hasn't is nowhere among its places
pub place_absent : (plan : Plan) (q : Place) (b : ℕ) (ns : List ℕ) → (is_place plan q ≡ true → ⊥)
    → ns ≡ raised_by (at_place q b) (all_places plan) ns
place_absent plan q b ns absent = sym (raised_none (at_place q b) (all_places plan) none ns)
  where
    none : (i : ℕ) (p : Place) → slice_get (all_places plan) i ≡ Some p → at_place q b p ≡ 0
    none i p e =
        let n : Numbered plan i p = numbered plan i p e in
        ap (λ t. only_if t b)
        (false_from_ne_true (same_place q p)
        (λ s. absent (subst (λ z. is_place plan z ≡ true) (sym (same_is q p s)) n.there)))

pub slot_raised : (plan : Plan) (i b : ℕ) (ns : List ℕ) → i < length plan.slots → length ns ≡ length (all_places plan)
    → raised_at i b ns ≡ raised_by (at_place (here_at i) b) (all_places plan) ns
slot_raised plan i b ns below len = place_raised plan (here_at i) b ns (lt-ltb i (length plan.slots) below) len

pub slot_absent : (plan : Plan) (i b : ℕ) (ns : List ℕ) → (i < length plan.slots → ⊥)
    → ns ≡ raised_by (at_place (here_at i) b) (all_places plan) ns
slot_absent plan i b ns past = place_absent plan (here_at i) b ns (λ e. past (ltb-true i (length plan.slots) e))

pub value_raised : (plan : Plan) (v b : ℕ) (ns : List ℕ) → v < length plan.vars → length ns ≡ length (all_places plan)
    → raised_at (first_in (index_of plan) v) b ns ≡ raised_by (at_place (is_at v) b) (all_places plan) ns
value_raised plan v b ns below len =
    let there : is_place plan (is_at v) ≡ true = lt-ltb v (length plan.vars) below in
    ap (λ n. raised_at n b ns) (first_is plan v below) ∙ place_raised plan (is_at v) b ns there len

pub value_absent : (plan : Plan) (v b : ℕ) (ns : List ℕ) → (v < length plan.vars → ⊥)
    → ns ≡ raised_by (at_place (is_at v) b) (all_places plan) ns
value_absent plan v b ns past = place_absent plan (is_at v) b ns (λ e. past (ltb-true v (length plan.vars) e))

pub grain_raised : (plan : Plan) (v g b : ℕ) (ns : List ℕ) → g < count_of plan v → length ns ≡ length (all_places plan)
    → raised_at (first_in (index_of plan) v + (1 + g)) b ns ≡ raised_by (at_place (out_at v g) b) (all_places plan) ns
grain_raised plan v g b ns below len =
    let var : nat_lt v (length plan.vars) ≡ true = has_grain plan v (omega (arith, below)) in
    let there : is_place plan (out_at v g) ≡ true
    = and_from (nat_lt v (length plan.vars)) (nat_lt g (count_of plan v)) var (lt-ltb g (count_of plan v) below) in
    ap (λ n. raised_at (n + (1 + g)) b ns) (first_is plan v (ltb-true v (length plan.vars) var))
    ∙ place_raised plan (out_at v g) b ns there len

-- at some of a variable's grains
abbrev at_listed : ℕ → (ℕ → ℕ) → List ℕ → Place → ℕ
at_listed v need gs (here_at i) = 0
at_listed v need gs (out_at w g) = only_if ((v == w) && list_any (λ h. h == g) gs) (need g)
at_listed v need gs (is_at w) = 0

none_listed : (v : ℕ) (need : ℕ → ℕ) (p : Place) → at_listed v need [] p ≡ 0
none_listed v need (here_at i) = refl
none_listed v need (out_at w g) = by (v == w)
  where
    by : (b : Bool) → only_if (b && false) (need g) ≡ 0
    by true = refl
    by false = refl
none_listed v need (is_at w) = refl

one_listed : (v g : ℕ) (need : ℕ → ℕ) (gs : List ℕ) (p : Place)
    → max (at_place (out_at v g) (need g) p) (at_listed v need gs p) ≡ at_listed v need (g ∷ gs) p
one_listed v g need gs (here_at i) = refl
one_listed v g need gs (is_at w) = refl
one_listed v g need gs (out_at w h) = by (v == w) (g == h) (list_any (λ k. k == h) gs) (λ e. ap need (eqb-true g h e))
  where
    by : (a b c : Bool) → (b ≡ true → need g ≡ need h)
        → max (only_if (a && b) (need g)) (only_if (a && c) (need h)) ≡ only_if (a && (b || c)) (need h)
    by true true true is = let e = is refl in omega (arith, e)
    by true true false is = let e = is refl in omega (arith, e)
    by true false true is = omega arith
    by true false false is = refl
    by false b c is = refl

grains_listed : (plan : Plan) (v : ℕ) (need : ℕ → ℕ) (gs : List ℕ) (ns : List ℕ)
    → raised_grains plan v need gs ns ≡ raised_by (at_listed v need gs) (all_places plan) ns
grains_listed plan v need [] ns =
    sym (raised_none (at_listed v need []) (all_places plan) (λ i p e. none_listed v need p) ns)
grains_listed plan v need (g ∷ gs) ns =
    grains_listed plan v need gs (raised_by (at_place (out_at v g) (need g)) (all_places plan) ns)
    ∙ raised_twice (at_place (out_at v g) (need g)) (at_listed v need gs) (at_listed v need (g ∷ gs))
    (one_listed v g need gs) (all_places plan) ns

in_range : (a n g : ℕ) → a ≤ g → g < a + n → list_any (λ h. h == g) (range_with_len a n) ≡ true
in_range a zero g from to = absurd (omega (arith, from, to))
in_range a (suc n) g from to = by (a == g) refl (λ past. in_range (a + 1) n g (omega (arith, past)) (omega (arith, to)))
  where
    by : (b : Bool) → (a == g) ≡ b → (a < g → list_any (λ h. h == g) (range_with_len (a + 1) n) ≡ true)
        → (b || list_any (λ h. h == g) (range_with_len (a + 1) n)) ≡ true
    by true e later = refl
    by false e later = later (grind (arith, nat_tests, from, e))

-- at all of them
pub grains_raised : (plan : Plan) (v : ℕ) (need : ℕ → ℕ) (ns : List ℕ)
    → raised_grains plan v need (numbers_below (count_of plan v)) ns ≡ raised_by (at_grains v need) (all_places plan) ns
grains_raised plan v need ns =
    grains_listed plan v need all ns
    ∙ raised_each (at_listed v need all) (at_grains v need) (all_places plan)
    (λ i p e. let n : Numbered plan i p = numbered plan i p e in of_place p n.there) ns
  where
    all : List ℕ
    all = numbers_below (count_of plan v)

    of_place : (p : Place) → is_place plan p ≡ true → at_listed v need all p ≡ at_grains v need p
    of_place (here_at i) e = refl
    of_place (is_at w) e = refl
    of_place (out_at w g) e = by (v == w) refl
      where
        below : g < count_of plan w
        below = ltb-true g (count_of plan w) (and_parts (nat_lt w (length plan.vars)) (nat_lt g (count_of plan w)) e).1

        by : (b : Bool) → (v == w) ≡ b
            → only_if (b && list_any (λ h. h == g) all) (need g) ≡ only_if b (need g)
        by true same =
            let is : v ≡ w = eqb-true v w same in
            let few : count_of plan v ≡ count_of plan w = ap (count_of plan) is in
            ap (λ t. only_if t (need g)) (in_range 0 (count_of plan v) g (omega arith) (omega (arith, below, few)))
        by false same = refl

-- at the grains or at the value
pub grains_of_variable : (plan : Plan) (v b : ℕ) (ns : List ℕ) → is_restrictable plan v ≡ true
    → raised_by (at_grains v (λ g. b)) (all_places plan) ns ≡ raised_by (at_variable plan v b) (all_places plan) ns
grains_of_variable plan v b ns may = raised_same (at_grains v (λ g. b)) (at_variable plan v b) same (all_places plan) ns
  where
    same : (p : Place) → at_grains v (λ g. b) p ≡ at_variable plan v b p
    same (here_at i) = refl
    same (out_at w g) = by (v == w) (is_restrictable plan v) may
      where
        by : (a c : Bool) → c ≡ true → only_if a b ≡ only_if (a && c) b
        by true true e = refl
        by true false e = absurd (cc)
        by false c e = refl
    same (is_at w) = by (v == w) (is_restrictable plan v) may
      where
        by : (a c : Bool) → c ≡ true → 0 ≡ only_if (a && not c) b
        by true true e = refl
        by true false e = absurd (cc)
        by false c e = refl

pub value_of_variable : (plan : Plan) (v b : ℕ) (ns : List ℕ) → is_restrictable plan v ≡ false
    → raised_by (at_place (is_at v) b) (all_places plan) ns ≡ raised_by (at_variable plan v b) (all_places plan) ns
value_of_variable plan v b ns may = raised_same (at_place (is_at v) b) (at_variable plan v b) same (all_places plan) ns
  where
    same : (p : Place) → at_place (is_at v) b p ≡ at_variable plan v b p
    same (here_at i) = refl
    same (out_at w g) = by (v == w) (is_restrictable plan v) may
      where
        by : (a c : Bool) → c ≡ false → 0 ≡ only_if (a && c) b
        by true true e = absurd (cc)
        by true false e = refl
        by false c e = refl
    same (is_at w) = by (v == w) (is_restrictable plan v) may
      where
        by : (a c : Bool) → c ≡ false → only_if a b ≡ only_if (a && not c) b
        by true true e = absurd (cc)
        by true false e = refl
        by false c e = refl

-- the root is not raised
pub line_raised : (plan : Plan) (i b : ℕ) (ns : List ℕ) → (i ≡ 0 → ⊥)
    → raised_by (at_place (here_at i) b) (all_places plan) ns ≡ raised_by (at_line i b) (all_places plan) ns
line_raised plan i b ns below =
    raised_same (at_place (here_at i) b) (at_line i b)
    (λ p. ap (λ t. cond t 0 (at_place (here_at i) b p))
    (sym (false_from_ne_true (i == 0) (λ e. below (eqb-true i 0 e)))))
    (all_places plan) ns

pub root_stays : (plan : Plan) (i b : ℕ) (ns : List ℕ) → i ≡ 0 → ns ≡ raised_by (at_line i b) (all_places plan) ns
root_stays plan i b ns is =
    sym (raised_none (at_line i b) (all_places plan)
    (λ j p e. ap (λ t. cond t 0 (at_place (here_at i) b p)) (eq-eqb i 0 is)) ns)

-- the grain at hand, then those after it
pub grain_next : (plan : Plan) (v g count b : ℕ) (need : ℕ → ℕ) (ns ms : List ℕ) → g < count → b ≡ need g
    → ms ≡ raised_by (at_place (out_at v g) b) (all_places plan) ns
    → raised_grains plan v need (range_with_len (g + 1) (count - (g + 1))) ms
    ≡ raised_grains plan v need (range_with_len g (count - g)) ns
grain_next plan v g count b need ns ms below own is =
    let more : suc (count - (g + 1)) ≡ count - g = omega (arith, below) in
    ap (raised_grains plan v need (range_with_len (g + 1) (count - (g + 1))))
    (is ∙ ap (λ n. raised_by (at_place (out_at v g) n) (all_places plan) ns) own)
    ∙ ap (λ n. raised_grains plan v need (range_with_len g n) ns) more

-- and where none is left
pub grains_done : (plan : Plan) (v g count : ℕ) (need : ℕ → ℕ) (ns ms : List ℕ) → count ≤ g
    → raised_grains plan v need (range_with_len g (count - g)) ms
    ≡ raised_grains plan v need (numbers_below (count_of plan v)) ns
    → ms ≡ raised_by (at_grains v need) (all_places plan) ns
grains_done plan v g count need ns ms done all =
    let none : 0 ≡ count - g = omega (arith, done) in
    ap (λ n. raised_grains plan v need (range_with_len g n) ms) none ∙ (all ∙ grains_raised plan v need ns)

-- by needs that are the same at the variable's own grains
pub grains_there : (plan : Plan) (v : ℕ) (f g : ℕ → ℕ) → ((i : ℕ) → i < count_of plan v → f i ≡ g i) → (ns : List ℕ)
    → raised_by (at_grains v f) (all_places plan) ns ≡ raised_by (at_grains v g) (all_places plan) ns
grains_there plan v f g same ns =
    raised_each (at_grains v f) (at_grains v g) (all_places plan)
    (λ i p e. let n : Numbered plan i p = numbered plan i p e in of_place p n.there) ns
  where
    of_place : (p : Place) → is_place plan p ≡ true → at_grains v f p ≡ at_grains v g p
    of_place (here_at i) e = refl
    of_place (is_at w) e = refl
    of_place (out_at w h) e = by (v == w) refl
      where
        below : h < count_of plan w
        below = ltb-true h (count_of plan w) (and_parts (nat_lt w (length plan.vars)) (nat_lt h (count_of plan w)) e).1

        by : (b : Bool) → (v == w) ≡ b → only_if b (f h) ≡ only_if b (g h)
        by true is = same h (subst (λ u. h < count_of plan u) (sym (eqb-true v w is)) below)
        by false is = refl
