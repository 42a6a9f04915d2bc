-- Who is woken is asked.
use Rattle.std.proofs.Common.{◌≡◌, ℕ, zero, suc, ◌+◌, ◌<◌, Bool, true, false, List, [], ◌∷◌, ◌++◌, length, refl, sym}
use Rattle.std.proofs.Common.{◌∙◌, ap, inl, inr, arith}
use Rattle.std.specs.Prelude.{Option, None, Some, nat_eq, nat_lt, ◌||◌, ◌&&◌, cond, slice_get}
use Rattle.std.specs.List.{filter, find, flat_map, list_any, range_with_len}
use Rattle.std.specs.Option.{option_to_list}
use Rattle.std.proofs.lemmas.Bool.{and_parts, lt-ltb, ltb-true}
use Rattle.std.proofs.lemmas.Option.{slice_get_within}
use Rattle.vc_base.specs.Sets.{has}
use Rattle.vc_base.proofs.ListLaws.{number_exact, number_itself, range_has}
use Rattle.vc_base.proofs.SetLaws.{both, filter_has, has_back, has_cases, has_front, none_at, told}
use Rattle.vc_value.specs.declared.value.Value.{Value}
use Rattle.vc_plan.specs.declared.atoms.Atom.{Atom}
use Rattle.vc_plan.specs.declared.atoms.Atom.TheVariants.{Out}
use Rattle.vc_plan.specs.declared.plans.Plan.{Plan}
use Rattle.vc_plan.specs.Bounds.{out_at}
use Rattle.vc_plan.specs.Domains.{count_of, is_grain_with, numbers_below}
use Rattle.vc_plan.specs.Gives.{by_rule}
use Rattle.vc_plan.specs.Pieces.{lies_in}
use Rattle.vc_plan.specs.Seen.{Seen}
use Rattle.vc_plan_reasons.specs.Things.{Thing, slot_at, thing_of, var_at}
use Rattle.vc_net_laws.specs.declared.triggers.Trigger.{Trigger}
use Rattle.vc_net_laws.specs.Triggers.{stands_in, trigger_by}
use Rattle.vc_net_laws.specs.Waking.{giver_touches}
use Rattle.vc_net_places.specs.Places.{index_of, is_place, place_in, thing_at}
use Rattle.vc_net_places.proofs.PlaceLaws.Numbering.{has_grain}
use Rattle.vc_net_places.proofs.PlaceLaws.Things.{index_tells_places, index_tells_things}
use Rattle.vc_net_readers.specs.Filing.{list_at}
use Rattle.vc_net_readers.specs.Laws.{SeesGrains, WokenAreAsked, asked, has_such, waiting_in, waiting_on}
use Rattle.vc_net_readers.specs.Readers.{awaits, is_free_at, is_reader, readers_at, readers_of, waits_at, waits_for}
use Rattle.vc_net_readers.specs.Waiting.{grain_with, is_free, is_own, place_in_grain, place_of_trigger}
use Rattle.vc_net_readers.proofs.FilingLemmas.{listed}
use Rattle.vc_net_readers.proofs.TouchedLemmas.{any_kept}

-- a number in a filtered range
among : (p : ℕ → Bool) (n r : ℕ) → r < n → p r ≡ true → has nat_eq (filter p (numbers_below n)) r ≡ true
among p n r below e =
    any_kept p r (numbers_below n)
    ∙ (ap (λ b. b && p r) (range_has 0 n r (omega arith) (omega (arith, below))) ∙ e)

-- the first number that passes is one of them
find_below : (p : ℕ → Bool) (a n g : ℕ) → find p (range_with_len a n) ≡ Some g → g < a + n
find_below p a zero g e = absurd (cc)
find_below p a (suc n) g e = by (p a) (find_below p (a + 1) n g) e
  where
    by : (b : Bool) → (find p (range_with_len (a + 1) n) ≡ Some g → g < (a + 1) + n)
        → cond b (Some a) (find p (range_with_len (a + 1) n)) ≡ Some g → g < a + suc n
    by true more first = let is : a ≡ g = cc in omega (arith, is)
    by false more later = let below = more later in omega (arith, below)

pub grain_there : (plan : Plan) (v g : ℕ) (a : Value) → grain_with plan v a ≡ Some g → is_place plan (out_at v g) ≡ true
grain_there plan v g a e =
    let below : g < 0 + count_of plan v = find_below (is_grain_with plan v (lies_in a)) 0 (count_of plan v) g e in
    let some : 0 < count_of plan v = omega (arith, below) in
    let small : g < count_of plan v = omega (arith, below) in
    ap (λ b. b && nat_lt g (count_of plan v)) (has_grain plan v some) ∙ lt-ltb g (count_of plan v) small

-- a rule waits at the place of its trigger's value
place_there : (plan : Plan) (v g : ℕ) → is_place plan (out_at v g) ≡ true
    → place_in (index_of plan) (Out v g) < length (index_of plan).things
place_there plan v g e =
    slice_get_within (index_of plan).things (place_in (index_of plan) (Out v g)) (thing_at (out_at v g))
    (ap (slice_get (index_of plan).things) (index_tells_places plan (Out v g) e)
    ∙ index_tells_things plan (out_at v g) e)

waits_told : (plan : Plan) (r v g : ℕ) (a : Value) (o : Option Trigger) → trigger_by plan (by_rule r) ≡ o
    → o ≡ Some (record { var = v; value = a }) → grain_with plan v a ≡ Some g
    → waits_at plan (place_in (index_of plan) (Out v g)) r ≡ true
waits_told plan r v g a o is own e =
    ap (λ t. list_any (nat_eq (place_in (index_of plan) (Out v g))) (option_to_list (place_of_trigger plan t)))
    (is ∙ own)
    ∙ (ap (λ h. list_any (nat_eq (place_in (index_of plan) (Out v g)))
    (option_to_list (place_in_grain (index_of plan) v h))) e
    ∙ ap (λ b. b || false) (number_itself (place_in (index_of plan) (Out v g))))

waiting_found : (plan : Plan) (r v g : ℕ) (a : Value) → r < length plan.rules
    → trigger_by plan (by_rule r) ≡ Some (record { var = v; value = a }) → grain_with plan v a ≡ Some g
    → has nat_eq (waiting_in (readers_of plan) (place_in_grain (index_of plan) v (Some g))) r ≡ true
waiting_found plan r v g a below own e =
    let place = place_in (index_of plan) (Out v g) in
    let there = place_there plan v g (grain_there plan v g a e) in
    ap (λ xs. has nat_eq xs r)
    (listed (λ n. filter (waits_at plan n) (numbers_below (length plan.rules))) (length (index_of plan).things) place
    there)
    ∙ among (waits_at plan place) (length plan.rules) r below
    (waits_told plan r v g a (Some (record { var = v; value = a })) own refl e)

-- each that is woken is asked
slot_asked : (plan : Plan) (i r : ℕ) (seen : Seen) → r < length plan.rules → nat_lt i (length plan.slots) ≡ true
    → giver_touches plan (by_rule r) (slot_at i) ≡ true → has nat_eq (asked plan seen (slot_at i)) r ≡ true
slot_asked plan i r seen below there touches =
    ap (λ xs. has nat_eq xs r)
    (listed (λ n. readers_at plan (slot_at n)) (length plan.slots) i (ltb-true i (length plan.slots) there))
    ∙ among (is_reader plan (slot_at i)) (length plan.rules) r below touches

free_found : (plan : Plan) (v r : ℕ) → r < length plan.rules → nat_lt v (length plan.vars) ≡ true
    → is_free_at plan v r ≡ true → has nat_eq (list_at (readers_of plan).free v) r ≡ true
free_found plan v r below there e =
    ap (λ xs. has nat_eq xs r)
    (listed (λ n. filter (is_free_at plan n) (numbers_below (length plan.rules))) (length plan.vars) v
    (ltb-true v (length plan.vars) there))
    ∙ among (is_free_at plan v) (length plan.rules) r below e

-- a variable for whose value such a rule waits is awaited
some_of : (p : ℕ → Bool) (n r : ℕ) → r < n → p r ≡ true → list_any p (numbers_below n) ≡ true
some_of p n r below e =
    elim (told (list_any p (numbers_below n))) [
      | inl some ↦ some
      | inr none ↦
          absurd (both e (none_at nat_eq number_exact number_itself p (numbers_below n) r none
          (range_has 0 n r (omega arith) (omega (arith, below)))))
    ]

awaited_found : (plan : Plan) (v u r : ℕ) → r < length plan.rules → nat_lt v (length plan.vars) ≡ true
    → nat_lt u (length plan.vars) ≡ true → is_reader plan (var_at v) r ≡ true → waits_for plan u r ≡ true
    → has nat_eq (list_at (readers_of plan).awaited v) u ≡ true
awaited_found plan v u r below there other touches waits =
    ap (λ xs. has nat_eq xs u)
    (listed (λ n. filter (awaits plan n) (numbers_below (length plan.vars))) (length plan.vars) v
    (ltb-true v (length plan.vars) there))
    ∙ among (awaits plan v) (length plan.vars) u (ltb-true u (length plan.vars) other)
    (some_of (λ n. is_reader plan (var_at v) n && waits_for plan u n) (length plan.rules) r below
    (ap (λ b. b && waits_for plan u r) touches ∙ waits))

-- what one of several has, all have together
flat_has : (f : ℕ → List ℕ) (us : List ℕ) (u r : ℕ) → has nat_eq us u ≡ true → has nat_eq (f u) r ≡ true
    → has nat_eq (flat_map f us) r ≡ true
flat_has f [] u r h e = absurd (cc)
flat_has f (w ∷ us) u r h e =
    elim (has_cases nat_eq number_exact number_itself w us u h) [
      | inl is ↦
          has_front nat_eq number_exact number_itself (f w) (flat_map f us) r
          (ap (λ n. has nat_eq (f n) r) (sym is) ∙ e)
      | inr more ↦
          has_back nat_eq number_exact number_itself (f w) (flat_map f us) r (flat_has f us u r more e)
    ]

var_asked : (plan : Plan) (set : List Atom) (v r : ℕ) (seen : Seen) → r < length plan.rules
    → nat_lt v (length plan.vars) ≡ true → SeesGrains plan set seen → is_reader plan (var_at v) r ≡ true
    → (o : Option Trigger) → trigger_by plan (by_rule r) ≡ o → stands_in set o ≡ true
    → has nat_eq (asked plan seen (var_at v)) r ≡ true
var_asked plan set v r seen below there sees touches o is stands = by o is stands
  where
    free : List ℕ
    free = list_at (readers_of plan).free v

    all : List ℕ
    all = flat_map (waiting_on plan seen) (list_at (readers_of plan).awaited v)

    by : (o : Option Trigger) → trigger_by plan (by_rule r) ≡ o → stands_in set o ≡ true
        → has nat_eq (free ++ filter (is_reader plan (var_at v)) all) r ≡ true
    by None is stands =
        has_front nat_eq number_exact number_itself free (filter (is_reader plan (var_at v)) all) r
        (free_found plan v r below there
        (ap (λ b. b && is_free (trigger_by plan (by_rule r))) touches ∙ ap is_free is))
    by (Some t) is stands =
        let lies = sees t.var t.value stands in
        let other : nat_lt t.var (length plan.vars) ≡ true
        = (and_parts (nat_lt t.var (length plan.vars)) (nat_lt lies.0 (count_of plan t.var))
        (grain_there plan t.var lies.0 t.value lies.2)).0 in
        let waits : has nat_eq (waiting_on plan seen t.var) r ≡ true
        = ap (λ h. has nat_eq (waiting_in (readers_of plan) (place_in_grain (index_of plan) t.var h)) r) lies.1
        ∙ waiting_found plan r t.var lies.0 t.value below is lies.2 in
        has_back nat_eq number_exact number_itself free (filter (is_reader plan (var_at v)) all) r
        (filter_has nat_eq number_exact number_itself (is_reader plan (var_at v)) all r
        (flat_has (waiting_on plan seen) (list_at (readers_of plan).awaited v) t.var r
        (awaited_found plan v t.var r below there other touches (ap (is_own t.var) is ∙ number_itself t.var)) waits)
        touches)

-- each rule that touches a thing, and whose trigger stands, is asked
pub touching_are_asked : (plan : Plan) (set : List Atom) (thing : Thing) (seen : Seen) (r : ℕ)
    → r < length plan.rules → has_such plan thing ≡ true → SeesGrains plan set seen
    → giver_touches plan (by_rule r) thing ≡ true → stands_in set (trigger_by plan (by_rule r)) ≡ true
    → has nat_eq (asked plan seen thing) r ≡ true
touching_are_asked plan set (slot_at i) seen r below there sees touches stands =
    slot_asked plan i r seen below there touches
touching_are_asked plan set (var_at v) seen r below there sees touches stands =
    var_asked plan set v r seen below there sees touches (trigger_by plan (by_rule r)) refl stands

pub woken_are_asked : WokenAreAsked
woken_are_asked plan set atom seen r below there sees woken =
    let p
    = and_parts (giver_touches plan (by_rule r) (thing_of atom))
    (stands_in (set ++ atom ∷ []) (trigger_by plan (by_rule r))) woken in
    touching_are_asked plan (set ++ atom ∷ []) (thing_of atom) seen r below there sees p.0 p.1
