-- Who is asked is a reader of the thing.
use Rattle.std.proofs.Common.{◌≡◌, ℕ, ◌<◌, ◌≤◌, ◌⊎◌, Bool, true, false, List, [], ◌∷◌, length, map, sym, ◌∙◌, ap, inl}
use Rattle.std.proofs.Common.{inr}
use Rattle.std.proofs.Common.{arith, refl, subst, cond, ◌&&◌}
use Rattle.std.specs.Prelude.{Option, None, Some, nat_eq}
use Rattle.std.specs.List.{filter, flat_map}
use Rattle.std.proofs.lemmas.Bool.{and_parts, cases_lt}
use Rattle.std.proofs.lemmas.List.{length-map}
use Rattle.std.proofs.lemmas.Option.{slice_get_past}
use Rattle.vc_base.specs.Sets.{Within, has}
use Rattle.vc_base.proofs.ListLaws.{number_exact, number_itself}
use Rattle.vc_base.proofs.SetLaws.{filter_has, has_either, has_filter, has_first, has_more}
use Rattle.vc_plan.specs.declared.plans.Plan.{Plan}
use Rattle.vc_plan.specs.Domains.{numbers_below}
use Rattle.vc_plan.specs.Gives.{by_rule}
use Rattle.vc_plan.specs.Seen.{Seen}
use Rattle.vc_plan_reasons.specs.Things.{Thing, slot_at, var_at}
use Rattle.vc_net_laws.specs.Triggers.{trigger_by}
use Rattle.vc_net_places.specs.Places.{index_of}
use Rattle.vc_net_places.proofs.PlaceLaws.Things.{length_range}
use Rattle.vc_net_readers.specs.Filing.{list_at, list_or_none}
use Rattle.vc_net_readers.specs.Laws.{AskedTouch, asked, waiting_in, waiting_on}
use Rattle.vc_net_readers.specs.Readers.{awaited_lists, awaits, is_free_at, is_reader, place_lists, readers_at}
use Rattle.vc_net_readers.specs.Readers.{readers_of}
use Rattle.vc_net_readers.specs.Readers.{waits_at}
use Rattle.vc_net_readers.specs.Rising.{IsRising}
use Rattle.vc_net_readers.specs.Waiting.{grain_held, is_free, place_in_grain}
use Rattle.vc_net_readers.proofs.FilingLemmas.{listed}
use Rattle.vc_net_readers.proofs.RisingLemmas.{passing_rise}
use Rattle.vc_net_readers.proofs.TouchedLemmas.{any_kept}

-- a list of a mapped range is that of the number, or none
told_in : (f : ℕ → List ℕ) (n i r : ℕ) → has nat_eq (list_at (map f (numbers_below n)) i) r ≡ true
    → has nat_eq (f i) r ≡ true
told_in f n i r e = by (cases_lt i n)
  where
    count : length (map f (numbers_below n)) ≡ n
    count = length-map (numbers_below n) f ∙ length_range 0 n

    by : (i < n) ⊎ (n ≤ i) → has nat_eq (f i) r ≡ true
    by (inl below) = ap (λ xs. has nat_eq xs r) (sym (listed f n i below)) ∙ e
    by (inr past) =
        let none = ap list_or_none (slice_get_past (map f (numbers_below n)) i (omega (arith, past, count))) in
        let nothing_there : has nat_eq [] r ≡ true = ap (λ xs. has nat_eq xs r) (sym none) ∙ e in
        absurd (cc)

-- what each of several lists has lies within a list, so does what all have together
flat_within : (f : ℕ → List ℕ) (ys : List ℕ) → ((u : ℕ) → Within nat_eq (f u) ys) → (us : List ℕ)
    → Within nat_eq (flat_map f us) ys
flat_within f ys within [] r h = absurd (cc)
flat_within f ys within (u ∷ us) r h =
    elim (has_either nat_eq number_exact number_itself (f u) (flat_map f us) r h) [
      | inl first ↦ within u r first
      | inr more ↦ flat_within f ys within us r more
    ]

module _ (plan : Plan) where
  abbrev rules : List ℕ
  rules = numbers_below (length plan.rules)

  of_rules : (p : ℕ → Bool) → Within nat_eq (filter p rules) rules
  of_rules p r h = (has_filter nat_eq number_exact number_itself p rules r h).0

  waiting_within : (o : Option ℕ) → Within nat_eq (waiting_in (readers_of plan) o) rules
  waiting_within None r h = absurd (cc)
  waiting_within (Some place) r h =
      of_rules (waits_at plan place) r
      (told_in (λ n. filter (waits_at plan n) rules) (length (index_of plan).things) place r h)

  pub asked_are_readers : (seen : Seen) (thing : Thing) → Within nat_eq (asked plan seen thing) (readers_at plan thing)
  asked_are_readers seen (slot_at i) r h = told_in (λ n. readers_at plan (slot_at n)) (length plan.slots) i r h
  asked_are_readers seen (var_at v) r h =
      elim (has_either nat_eq number_exact number_itself (list_at (readers_of plan).free v)
      (filter (is_reader plan (var_at v)) waiting) r h) [
        | inl free ↦
            let k = has_filter nat_eq number_exact number_itself (is_free_at plan v) rules r
            (told_in (λ n. filter (is_free_at plan n) rules) (length plan.vars) v r free) in
            filter_has nat_eq number_exact number_itself (is_reader plan (var_at v)) rules r k.0
            (and_parts (is_reader plan (var_at v) r) (is_free (trigger_by plan (by_rule r))) k.1).0
        | inr waits ↦
            let k = has_filter nat_eq number_exact number_itself (is_reader plan (var_at v)) waiting r waits in
            filter_has nat_eq number_exact number_itself (is_reader plan (var_at v)) rules r
            (flat_within (waiting_on plan seen) rules
            (λ u. waiting_within (place_in_grain (index_of plan) u (grain_held plan u (seen.value u))))
            (list_at (readers_of plan).awaited v) r k.0) k.1
      ]
    where
      waiting : List ℕ
      waiting = flat_map (waiting_on plan seen) (list_at (readers_of plan).awaited v)

-- the rules that wait in a grain are those of all that pass a test
pub waiting_is : (plan : Plan) (seen : Seen) (u : ℕ)
    → (q : ℕ → Bool) × (waiting_on plan seen u ≡ filter q (numbers_below (length plan.rules)))
waiting_is plan seen u = by (place_in_grain (index_of plan) u (grain_held plan u (seen.value u)))
  where
    none : (ns : List ℕ) → [] ≡ filter (λ r. false) ns
    none [] = refl
    none (n ∷ ns) = none ns

    count : length (place_lists plan) ≡ length (index_of plan).things
    count =
        length-map (numbers_below (length (index_of plan).things))
        (λ place. filter (waits_at plan place) (numbers_below (length plan.rules)))
        ∙ length_range 0 (length (index_of plan).things)

    by : (o : Option ℕ)
        → (q : ℕ → Bool) × (waiting_in (readers_of plan) o ≡ filter q (numbers_below (length plan.rules)))
    by None = (λ r. false, none (numbers_below (length plan.rules)))
    by (Some place) =
        elim (cases_lt place (length (index_of plan).things)) [
          | inl below ↦ (
            waits_at plan place,
            listed (λ n. filter (waits_at plan n) (numbers_below (length plan.rules))) (length (index_of plan).things)
                place below,
          )
          | inr past ↦ (
            λ r. false,
            ap list_or_none (slice_get_past (place_lists plan) place (omega (arith, past, count)))
                ∙ none (numbers_below (length plan.rules)),
          )
        ]

-- so they ascend, and those of them that touch a variable are those of the variable's that are among them
pub waiting_rises : (plan : Plan) (seen : Seen) (u : ℕ) → IsRising (waiting_on plan seen u)
waiting_rises plan seen u =
    let w = waiting_is plan seen u in
    subst IsRising (sym w.1) (passing_rise w.0 0 (length plan.rules))

common_in : (p q : ℕ → Bool) (ns ms : List ℕ) → Within nat_eq ms ns
    → filter (has nat_eq (filter q ns)) (filter p ms) ≡ filter p (filter q ms)
common_in p q ns [] within = refl
common_in p q ns (m ∷ ms) within =
    by (p m) (q m) refl refl
    (common_in p q ns ms (λ r h. within r (has_more nat_eq number_exact number_itself m ms r h)))
  where
    kept : has nat_eq (filter q ns) m ≡ q m
    kept =
        any_kept q m ns ∙ ap (λ b. b && q m) (within m (has_first nat_eq number_exact number_itself m ms))

    mine : ℕ → Bool
    mine r = has nat_eq (filter q ns) r

    by : (b c : Bool) → p m ≡ b → q m ≡ c → filter mine (filter p ms) ≡ filter p (filter q ms)
        → filter mine (cond b (m ∷ filter p ms) (filter p ms))
        ≡ filter p (cond c (m ∷ filter q ms) (filter q ms))
    by true true e f later =
        ap (λ t. cond t (m ∷ filter mine (filter p ms)) (filter mine (filter p ms))) (kept ∙ f)
        ∙ (ap (λ rs. m ∷ rs) later
        ∙ sym (ap (λ t. cond t (m ∷ filter p (filter q ms)) (filter p (filter q ms))) e))
    by true false e f later =
        ap (λ t. cond t (m ∷ filter mine (filter p ms)) (filter mine (filter p ms))) (kept ∙ f) ∙ later
    by false true e f later =
        later ∙ sym (ap (λ t. cond t (m ∷ filter p (filter q ms)) (filter p (filter q ms))) e)
    by false false e f later = later

pub common_there : (plan : Plan) (seen : Seen) (v u : ℕ) → v < length plan.vars
    → filter (has nat_eq (waiting_on plan seen u)) (list_at (readers_of plan).by_var v)
    ≡ filter (is_reader plan (var_at v)) (waiting_on plan seen u)
common_there plan seen v u below =
    let w = waiting_is plan seen u in
    let rules = numbers_below (length plan.rules) in
    ap (filter (has nat_eq (waiting_on plan seen u)))
    (listed (λ n. readers_at plan (var_at n)) (length plan.vars) v below)
    ∙ (ap (λ xs. filter (has nat_eq xs) (readers_at plan (var_at v))) w.1
    ∙ (common_in (is_reader plan (var_at v)) w.0 rules rules (λ r h. h)
    ∙ ap (filter (is_reader plan (var_at v))) (sym w.1)))

-- nothing is awaited at a variable that isn't there
pub none_awaited : (plan : Plan) (v : ℕ) → length plan.vars ≤ v → list_at (readers_of plan).awaited v ≡ []
none_awaited plan v past =
    let count : length (awaited_lists plan) ≡ length plan.vars
    = length-map (numbers_below (length plan.vars)) (λ n. filter (awaits plan n) (numbers_below (length plan.vars)))
    ∙ length_range 0 (length plan.vars) in
    ap list_or_none (slice_get_past (awaited_lists plan) v (omega (arith, past, count)))

pub asked_touch : AskedTouch
asked_touch plan seen thing r h =
    (has_filter nat_eq number_exact number_itself (is_reader plan thing) (numbers_below (length plan.rules)) r
    (asked_are_readers plan seen thing r h)).1
