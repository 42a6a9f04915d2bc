-- All who are woken come on the agenda, and no more than touch the atom's thing.
use Rattle.std.proofs.Common.{◌≡◌, ℕ, zero, suc, ◌+◌, ◌<◌, ◌≤◌, ◌⊎◌, add-zero, Bool, true, false, cond, List}
use Rattle.std.proofs.Common.{[], ◌∷◌, ◌++◌, length, map, refl, sym, ◌∙◌, ap, subst, inl, inr, arith}
use Rattle.std.specs.Prelude.{Option, None, Some, nat_eq, nat_lt, not, ◌==◌, ◌||◌, ◌&&◌, if◌then◌else◌, slice_get}
use Rattle.std.specs.List.{filter, find, list_any, range_with_len}
use Rattle.std.specs.Option.{option_to_list}
use Rattle.std.proofs.lemmas.Bool.{and_from, and_parts, cases_lt, eqb-true, lt-ltb, ltb-true, or_left, or_right}
use Rattle.vc_base.specs.Sets.{has}
use Rattle.vc_base.proofs.ListLaws.{has_range, number_exact, number_itself, range_has}
use Rattle.vc_base.proofs.SetLaws.{both, filter_has, has_back, has_cases, has_either, has_filter, has_first}
use Rattle.vc_base.proofs.SetLaws.{has_front, has_more, told}
use Rattle.vc_value.specs.declared.value.Value.{Value}
use Rattle.vc_plan.specs.declared.atoms.Atom.{Atom}
use Rattle.vc_plan.specs.declared.atoms.Atom.TheVariants.{Here, Out, Is}
use Rattle.vc_plan.specs.declared.plans.Plan.{Plan}
use Rattle.vc_plan.specs.Clear.{is_clear, is_named}
use Rattle.vc_plan.specs.Domains.{grains_of, is_grain_with, numbers_below, passes}
use Rattle.vc_plan.specs.Pieces.{lies_in}
use Rattle.vc_plan.specs.declared.conditions.Piece.{Piece}
use Rattle.vc_plan.specs.Gives.{Giver, by_entry, by_rule, by_user, givers_of}
use Rattle.vc_plan.specs.Seen.{Seen, is_value, same_atom, seen_of, slot_in, value_in}
use Rattle.vc_plan.specs.Sources.{Sources}
use Rattle.vc_plan.proofs.PlanLaws.Atoms.{atom_exact, atom_itself, value_exact}
use Rattle.vc_plan.proofs.PlanLaws.Facts.{facts}
use Rattle.vc_plan_reasons.specs.Things.{Thing, same_thing, slot_at, thing_of, var_at}
use Rattle.vc_plan_blame.proofs.BlameLaws.Growing.{has_says}
use Rattle.vc_net_laws.specs.declared.triggers.Trigger.{Trigger}
use Rattle.vc_net_laws.specs.Forced.{is_quiet}
use Rattle.vc_net_laws.specs.Triggers.{stands_in, trigger_by}
use Rattle.vc_net_laws.specs.Waking.{giver_touches, is_woken}
use Rattle.vc_net_laws.specs.Working.{same_giver}
use Rattle.vc_net_laws.proofs.NetLaws.Working.{giver_exact, giver_itself}
use Rattle.vc_net_places.proofs.PlaceLaws.Numbering.{named_have_places}
use Rattle.vc_net_readers.specs.Laws.{SeesGrains, asked, has_such}
use Rattle.vc_net_readers.specs.Readers.{is_reader, readers_at}
use Rattle.vc_net_readers.specs.Waiting.{grain_held, grain_with}
use Rattle.vc_net_readers.proofs.AskedLaws.{asked_are_readers}
use Rattle.vc_net_readers.proofs.ReaderLaws.{touching_are_asked}
use Rattle.vc_net_readers.proofs.TouchedLemmas.{any_kept}
use Rattle.vc_net_agenda.proofs.AgendaLaws.{one_of, none_of}
use Rattle.vc_net_sources.specs.Asking.{is_at_rest, tells_nothing}
use Rattle.vc_net_sources.proofs.SilenceLaws.{resting_are_quiet}
use Rattle.vc_net_waking.specs.Laws.{WakingIsFew, WokenWait}
use Rattle.vc_net_waking.specs.Waking.{is_met, is_slot, is_stirred, is_var_of, may_say, sources_of, stirred_rules}
use Rattle.vc_net_waking.specs.Waking.{telling, telling_at, telling_in_slot, tells, waking, with_givers}
use Rattle.vc_net_waking.proofs.ComingLaws.{few_come}
use Rattle.vc_net_waking.proofs.GiverLaws.{each_waits}

-- the numbers of a plan's givers
abbrev rules_of : Plan → List ℕ
rules_of plan = numbers_below (length plan.rules)

abbrev vars_of : Plan → List ℕ
vars_of plan = numbers_below (length plan.vars)

below_has : (n k : ℕ) → has nat_eq (numbers_below n) k ≡ true → k < n
below_has n k h = let r = has_range 0 n k h in omega (arith, r.1)

pub rule_below : (plan : Plan) (r : ℕ) → has same_giver (givers_of plan) (by_rule r) ≡ true → r < length plan.rules
rule_below plan r h =
    elim (has_either same_giver giver_exact giver_itself (map by_rule (rules_of plan))
    (map by_user (vars_of plan) ++ map by_entry (vars_of plan)) (by_rule r) h) [
      | inl p ↦ below_has (length plan.rules) r (sym (one_of by_rule r (λ n. refl) (rules_of plan)) ∙ p)
      | inr p ↦ elim (has_either same_giver giver_exact giver_itself (map by_user (vars_of plan))
          (map by_entry (vars_of plan)) (by_rule r) p) [
            | inl q ↦ absurd (both q (none_of by_user (by_rule r) (λ n. refl) (vars_of plan)))
            | inr q ↦ absurd (both q (none_of by_entry (by_rule r) (λ n. refl) (vars_of plan)))
          ]
    ]

pub user_below : (plan : Plan) (v : ℕ) → has same_giver (givers_of plan) (by_user v) ≡ true → v < length plan.vars
user_below plan v h =
    elim (has_either same_giver giver_exact giver_itself (map by_rule (rules_of plan))
    (map by_user (vars_of plan) ++ map by_entry (vars_of plan)) (by_user v) h) [
      | inl p ↦ absurd (both p (none_of by_rule (by_user v) (λ n. refl) (rules_of plan)))
      | inr p ↦ elim (has_either same_giver giver_exact giver_itself (map by_user (vars_of plan))
          (map by_entry (vars_of plan)) (by_user v) p) [
            | inl q ↦ below_has (length plan.vars) v (sym (one_of by_user v (λ n. refl) (vars_of plan)) ∙ q)
            | inr q ↦ absurd (both q (none_of by_entry (by_user v) (λ n. refl) (vars_of plan)))
          ]
    ]

pub entry_below : (plan : Plan) (v : ℕ) → has same_giver (givers_of plan) (by_entry v) ≡ true → v < length plan.vars
entry_below plan v h =
    elim (has_either same_giver giver_exact giver_itself (map by_rule (rules_of plan))
    (map by_user (vars_of plan) ++ map by_entry (vars_of plan)) (by_entry v) h) [
      | inl p ↦ absurd (both p (none_of by_rule (by_entry v) (λ n. refl) (rules_of plan)))
      | inr p ↦ elim (has_either same_giver giver_exact giver_itself (map by_user (vars_of plan))
          (map by_entry (vars_of plan)) (by_entry v) p) [
            | inl q ↦ absurd (both q (none_of by_user (by_entry v) (λ n. refl) (vars_of plan)))
            | inr q ↦ below_has (length plan.vars) v (sym (one_of by_entry v (λ n. refl) (vars_of plan)) ∙ q)
          ]
    ]

-- what an atom's thing needs to be there
pub thing_there : (plan : Plan) (atom : Atom) → is_named plan atom ≡ true → has_such plan (thing_of atom) ≡ true
thing_there plan (Here i) h = named_have_places plan (Here i) h
thing_there plan (Out v g) h =
    (and_parts (nat_lt v (length plan.vars)) (nat_lt g _) (named_have_places plan (Out v g) h)).0
thing_there plan (Is v a) h = named_have_places plan (Is v a) h

-- the value of a variable in a clear set is the one that is seen
value_seen : (plan : Plan) (set : List Atom) (v : ℕ) (a : Value) → is_clear plan set ≡ true
    → has same_atom set (Is v a) ≡ true → value_in set v ≡ Some a
value_seen plan set v a clear h = by (value_in set v) refl (has_says plan set clear (Is v a) h)
  where
    by : (o : Option Value) → value_in set v ≡ o → is_value a o ≡ true → o ≡ Some a
    by None e k = absurd (cc)
    by (Some b) e k = ap Some (sym (value_exact a b k))

stands_met : (plan : Plan) (set : List Atom) (o : Option Trigger) → is_clear plan set ≡ true → stands_in set o ≡ true
    → is_met (seen_of set) o ≡ true
stands_met plan set None clear h = refl
stands_met plan set (Some t) clear h = has_says plan set clear (Is t.var t.value) h

-- a value that lies in some grain lies in a first one
find_piece : (test : Piece → Bool) (f : ℕ → Bool) (pieces : List Piece) (a : ℕ)
    → ((i : ℕ) → f (a + i) ≡ passes test (slice_get pieces i)) → list_any test pieces ≡ true
    → (g : ℕ) × (find f (range_with_len a (length pieces)) ≡ Some g)
find_piece test f [] a e h = absurd (cc)
find_piece test f (x ∷ xs) a e h =
    by (test x) (ap f (sym (add-zero a)) ∙ e 0) h
    (find_piece test f xs (a + 1) (λ i. ap f (omega arith) ∙ e (suc i)))
  where
    rest : Option ℕ
    rest = find f (range_with_len (a + 1) (length xs))

    by : (b : Bool) → f a ≡ b → (b || list_any test xs) ≡ true
        → (list_any test xs ≡ true → (g : ℕ) × (find f (range_with_len (a + 1) (length xs)) ≡ Some g))
        → (g : ℕ) × (cond (f a) (Some a) (find f (range_with_len (a + 1) (length xs))) ≡ Some g)
    by true first h later = (a, ap (λ b. cond b (Some a) rest) first)
    by false first h later =
        let r = later h in
        (r.0, ap (λ b. cond b (Some a) rest) first ∙ r.1)

grain_of_named : (plan : Plan) (v : ℕ) (a : Value) → is_named plan (Is v a) ≡ true → (g : ℕ) ×
    (grain_with plan v a ≡ Some g)
grain_of_named plan v a named =
    find_piece (lies_in a) (is_grain_with plan v (lies_in a)) (grains_of plan v) 0
    (λ i. ap (λ n. passes (lies_in a) (slice_get (grains_of plan v) n)) (omega arith)) named

-- the grain of each value that the set has is seen
sees_grains : (plan : Plan) (set : List Atom) → is_clear plan set ≡ true → SeesGrains plan set (seen_of set)
sees_grains plan set clear u a h =
    let r = grain_of_named plan u a ((facts plan set clear).named (Is u a) h) in
    (r.0, ap (grain_held plan u) (value_seen plan set u a clear h) ∙ r.1, r.1)

-- a rule that is asked, whose trigger is met and that doesn't rest comes on the agenda
rule_stirred : (plan : Plan) (seen : Seen) (rules : List ℕ) (r : ℕ) → has nat_eq rules r ≡ true
    → is_stirred plan seen r ≡ true → has same_giver (stirred_rules plan seen rules) (by_rule r) ≡ true
rule_stirred plan seen rules r h stirred =
    one_of by_rule r (λ n. refl) (filter (is_stirred plan seen) rules)
    ∙ (any_kept (is_stirred plan seen) r rules ∙ (ap (λ b. b && is_stirred plan seen r) h ∙ stirred))

-- a source that touches a thing and tells something comes on the agenda
or_false : (a : Bool) → (a || false) ≡ a
or_false true = refl
or_false false = refl

slot_touched : (i : ℕ) (o : Option ℕ) → (list_any (same_thing (slot_at i)) (map slot_at (option_to_list o)) ||
    false) ≡ is_slot i o
slot_touched i None = refl
slot_touched i (Some j) = or_false ((i == j) || false) ∙ or_false (i == j)

var_touched : (v w : ℕ) (o : Option ℕ)
    → (list_any (same_thing (var_at v)) (map slot_at (option_to_list o)) || ((v == w) || false)) ≡ (v == w)
var_touched v w None = or_false (v == w)
var_touched v w (Some j) = or_false (v == w)

touching_var : (plan : Plan) (v w : ℕ) → giver_touches plan (by_user w) (var_at v) ≡ (v == w)
touching_var plan v w = var_touched v w (slot_in (slice_get plan.vars w))

touching_slot : (plan : Plan) (i w : ℕ) → giver_touches plan (by_user w) (slot_at i) ≡ is_var_of plan i w
touching_slot plan i w = slot_touched i (slot_in (slice_get plan.vars w))

pub user_in : (v : ℕ) → has same_giver (sources_of v) (by_user v) ≡ true
user_in v = has_first same_giver giver_exact giver_itself (by_user v) (by_entry v ∷ [])

pub entry_in : (v : ℕ) → has same_giver (sources_of v) (by_entry v) ≡ true
entry_in v =
    has_more same_giver giver_exact giver_itself (by_user v) (by_entry v ∷ []) (by_entry v)
    (has_first same_giver giver_exact giver_itself (by_entry v) [])

in_slot : (plan : Plan) (sources : Sources) (i n v : ℕ) (giver : Giver) → v < n → is_var_of plan i v ≡ true
    → has same_giver (telling sources v) giver ≡ true → has same_giver (telling_in_slot plan sources i n) giver ≡ true
in_slot plan sources i zero v giver below of h = absurd (omega (arith, below))
in_slot plan sources i (suc n) v giver below of h =
    elim (cases_lt v n) [
      | inl less ↦
          has_front same_giver giver_exact giver_itself (telling_in_slot plan sources i n)
          (if is_var_of plan i n then telling sources n else [])
          giver (in_slot plan sources i n v giver less of h)
      | inr past ↦
          let same : v ≡ n = omega (arith, below, past) in
          has_back same_giver giver_exact giver_itself (telling_in_slot plan sources i n)
          (if is_var_of plan i n then telling sources n else [])
          giver
          (ap (λ b. has same_giver (cond b (telling sources n) []) giver) (sym (ap (is_var_of plan i) same) ∙ of)
          ∙ (ap (λ m. has same_giver (telling sources m) giver) (sym same) ∙ h))
    ]

source_asked : (plan : Plan) (sources : Sources) (thing : Thing) (v : ℕ) (giver : Giver) → v < length plan.vars
    → giver_touches plan (by_user v) thing ≡ true → has same_giver (sources_of v) giver ≡ true
    → tells_nothing sources giver ≡ false → has same_giver (telling_at plan sources thing) giver ≡ true
source_asked plan sources thing v giver below touches h e = by thing touches
  where
    own : has same_giver (telling sources v) giver ≡ true
    own = filter_has same_giver giver_exact giver_itself (tells sources) (sources_of v) giver h (ap not e)

    by : (t : Thing) → giver_touches plan (by_user v) t ≡ true → has same_giver (telling_at plan sources t) giver ≡ true
    by (slot_at i) touches =
        in_slot plan sources i (length plan.vars) v giver below (sym (touching_slot plan i v) ∙ touches) own
    by (var_at w) touches =
        let same : w ≡ v = eqb-true w v (sym (touching_var plan w v) ∙ touches) in
        subst (λ m. has same_giver (telling sources m) giver ≡ true) (sym same) own

-- all who touch a thing, whose trigger stands and who aren't at rest are among those who come on the agenda
touching_come : (plan : Plan) (sources : Sources) (set : List Atom) (thing : Thing) (giver : Giver)
    → is_clear plan set ≡ true → has_such plan thing ≡ true → has same_giver (givers_of plan) giver ≡ true
    → giver_touches plan giver thing ≡ true → stands_in set (trigger_by plan giver) ≡ true
    → is_at_rest plan sources (seen_of set) giver ≡ false
    → has same_giver (waking plan sources (seen_of set) thing) giver ≡ true
touching_come plan sources set thing giver clear such there touches stands stirred =
    by giver there touches stands stirred
  where
    rules : List Giver
    rules = stirred_rules plan (seen_of set) (asked plan (seen_of set) thing)

    by : (g : Giver) → has same_giver (givers_of plan) g ≡ true → giver_touches plan g thing ≡ true
        → stands_in set (trigger_by plan g) ≡ true → is_at_rest plan sources (seen_of set) g ≡ false
        → has same_giver (rules ++ telling_at plan sources thing) g ≡ true
    by (by_rule r) t w k e =
        has_front same_giver giver_exact giver_itself rules (telling_at plan sources thing) (by_rule r)
        (rule_stirred plan (seen_of set) (asked plan (seen_of set) thing) r
        (touching_are_asked plan set thing (seen_of set) r (rule_below plan r t) such (sees_grains plan set clear) w k)
        (and_from (is_met (seen_of set) (trigger_by plan (by_rule r))) (may_say plan (seen_of set) r)
        (stands_met plan set (trigger_by plan (by_rule r)) clear k) (ap not e)))
    by (by_user v) t w k e =
        has_back same_giver giver_exact giver_itself rules (telling_at plan sources thing) (by_user v)
        (source_asked plan sources thing v (by_user v) (user_below plan v t) w (user_in v) e)
    by (by_entry v) t w k e =
        has_back same_giver giver_exact giver_itself rules (telling_at plan sources thing) (by_entry v)
        (source_asked plan sources thing v (by_entry v) (entry_below plan v t) w (entry_in v) e)

-- and whoever is at rest is quiet
pub come_or_quiet : (plan : Plan) (sources : Sources) (set : List Atom) (thing : Thing) (giver : Giver)
    → is_clear plan set ≡ true → has_such plan thing ≡ true → has same_giver (givers_of plan) giver ≡ true
    → giver_touches plan giver thing ≡ true → stands_in set (trigger_by plan giver) ≡ true
    → (has same_giver (waking plan sources (seen_of set) thing) giver ≡ true)
    ⊎ (is_quiet plan sources set giver ≡ true)
come_or_quiet plan sources set thing giver clear such there touches stands =
    elim (told (is_at_rest plan sources (seen_of set) giver)) [
      | inl rests ↦ inr (resting_are_quiet plan sources set giver clear rests)
      | inr stirred ↦ inl (touching_come plan sources set thing giver clear such there touches stands stirred)
    ]

pub woken_wait : WokenWait
woken_wait plan sources set atom agenda sizes clear giver h =
    let whole = set ++ atom ∷ [] in
    let named = (facts plan whole clear).named atom
    (has_back same_atom atom_exact atom_itself set (atom ∷ []) atom
    (has_first same_atom atom_exact atom_itself atom [])) in
    let p = has_filter same_giver giver_exact giver_itself (is_woken plan set atom) (givers_of plan) giver h in
    let woken = and_parts (giver_touches plan giver (thing_of atom)) (stands_in whole (trigger_by plan giver)) p.1 in
    let come = waking plan sources (seen_of whole) (thing_of atom) in
    elim (come_or_quiet plan sources whole (thing_of atom) giver clear (thing_there plan atom named) p.0 woken.0
    woken.1) [
      | inl comes ↦
          or_left (has same_giver (with_givers agenda come).givers giver) (is_quiet plan sources whole giver)
          (each_waits plan agenda come giver sizes comes p.0)
      | inr quiet ↦
          or_right (has same_giver (with_givers agenda come).givers giver) (is_quiet plan sources whole giver) quiet
    ]

-- whoever comes on the agenda touches the thing, and is the plan's
rule_of : (ns : List ℕ) (giver : Giver) → has same_giver (map by_rule ns) giver ≡ true
    → (r : ℕ) × (giver ≡ by_rule r) × (has nat_eq ns r ≡ true)
rule_of [] giver h = absurd (cc)
rule_of (n ∷ ns) giver h =
    by (has_cases same_giver giver_exact giver_itself (by_rule n) (map by_rule ns) giver h) (rule_of ns giver)
  where
    by : (giver ≡ by_rule n) ⊎ (has same_giver (map by_rule ns) giver ≡ true)
        → (has same_giver (map by_rule ns) giver ≡ true → (r : ℕ) × (giver ≡ by_rule r) × (has nat_eq ns r ≡ true))
        → (r : ℕ) × (giver ≡ by_rule r) × (has nat_eq (n ∷ ns) r ≡ true)
    by (inl e) later = (n, e, has_first nat_eq number_exact number_itself n ns)
    by (inr e) later =
        let r = later e in (r.0, r.1, has_more nat_eq number_exact number_itself n ns r.0 r.2)

-- a rule that is stirred is a reader of the thing
pub stirred_read : (plan : Plan) (seen : Seen) (thing : Thing) (giver : Giver)
    → has same_giver (stirred_rules plan seen (asked plan seen thing)) giver ≡ true
    → (r : ℕ) × (giver ≡ by_rule r) × (has nat_eq (readers_at plan thing) r ≡ true)
stirred_read plan seen thing giver h =
    let all = asked plan seen thing in
    let r = rule_of (filter (is_stirred plan seen) all) giver h in
    let p = has_filter nat_eq number_exact number_itself (is_stirred plan seen) all r.0 r.2 in
    (r.0, r.1, asked_are_readers plan seen thing r.0 p.0)

-- sources that tell something are sources
pub telling_are : (sources : Sources) (v : ℕ) (giver : Giver) → has same_giver (telling sources v) giver ≡ true
    → has same_giver (sources_of v) giver ≡ true
telling_are sources v giver h =
    (has_filter same_giver giver_exact giver_itself (tells sources) (sources_of v) giver h).0

sources_touch_slot : (plan : Plan) (sources : Sources) (i n : ℕ) (giver : Giver)
    → has same_giver (telling_in_slot plan sources i n) giver ≡ true → giver_touches plan giver (slot_at i) ≡ true
sources_touch_slot plan sources i zero giver h = absurd (cc)
sources_touch_slot plan sources i (suc n) giver h =
    elim (has_either same_giver giver_exact giver_itself (telling_in_slot plan sources i n)
    (if is_var_of plan i n then telling sources n else []) giver h) [
      | inl k ↦ sources_touch_slot plan sources i n giver k
      | inr k ↦ by (is_var_of plan i n) refl k
    ]
  where
    own : (o : Option ℕ) → is_slot i o ≡ true
        → (list_any (same_thing (slot_at i)) (map slot_at (option_to_list o)) || false) ≡ true
    own None e = absurd (cc)
    own (Some j) e =
        ap (λ b. (b || false) || false) e

    by : (b : Bool) → is_var_of plan i n ≡ b → has same_giver (if b then telling sources n else []) giver ≡ true
        → giver_touches plan giver (slot_at i) ≡ true
    by false e k = absurd (cc)
    by true e k =
        elim (has_cases same_giver giver_exact giver_itself (by_user n) (by_entry n ∷ []) giver
        (telling_are sources n giver k)) [
          | inl is ↦ ap (λ g. giver_touches plan g (slot_at i)) is ∙ own (slot_in (slice_get plan.vars n)) e
          | inr m ↦ elim (has_cases same_giver giver_exact giver_itself (by_entry n) [] giver m) [
            | inl is ↦ ap (λ g. giver_touches plan g (slot_at i)) is ∙ own (slot_in (slice_get plan.vars n)) e
            | inr none ↦ absurd (cc)
          ]
        ]

pub source_touches : (plan : Plan) (v : ℕ) (giver : Giver) → has same_giver (sources_of v) giver ≡ true
    → giver_touches plan giver (var_at v) ≡ true
source_touches plan v giver h =
    let own : giver_touches plan (by_user v) (var_at v) ≡ true = touching_var plan v v ∙ number_itself v in
    elim (has_cases same_giver giver_exact giver_itself (by_user v) (by_entry v ∷ []) giver h) [
      | inl is ↦ ap (λ g. giver_touches plan g (var_at v)) is ∙ own
      | inr m ↦ elim (has_cases same_giver giver_exact giver_itself (by_entry v) [] giver m) [
        | inl is ↦ ap (λ g. giver_touches plan g (var_at v)) is ∙ own
        | inr none ↦ absurd (cc)
      ]
    ]

pub woken_touch : (plan : Plan) (sources : Sources) (seen : Seen) (thing : Thing) (giver : Giver)
    → has same_giver (waking plan sources seen thing) giver ≡ true → giver_touches plan giver thing ≡ true
woken_touch plan sources seen thing giver h =
    elim (has_either same_giver giver_exact giver_itself (stirred_rules plan seen (asked plan seen thing))
    (telling_at plan sources thing) giver h) [
      | inl k ↦
          let r = stirred_read plan seen thing giver k in
          ap (λ g. giver_touches plan g thing) r.1
          ∙ (has_filter nat_eq number_exact number_itself (is_reader plan thing) (rules_of plan) r.0 r.2).1
      | inr k ↦ by thing k
    ]
  where
    by : (t : Thing) → has same_giver (telling_at plan sources t) giver ≡ true → giver_touches plan giver t ≡ true
    by (slot_at i) k = sources_touch_slot plan sources i (length plan.vars) giver k
    by (var_at v) k = source_touches plan v giver (telling_are sources v giver k)

-- numbers of rules and variables that are there are those of givers
pub in_mapped : (f : ℕ → Giver) (ns : List ℕ) (n : ℕ) → has nat_eq ns n ≡ true
    → has same_giver (map f ns) (f n) ≡ true
in_mapped f [] n h = absurd (cc)
in_mapped f (m ∷ ns) n h =
    elim (has_cases nat_eq number_exact number_itself m ns n h) [
      | inl e ↦
          subst (λ k. has same_giver (f m ∷ map f ns) (f k) ≡ true) (sym e)
          (has_first same_giver giver_exact giver_itself (f m) (map f ns))
      | inr k ↦ has_more same_giver giver_exact giver_itself (f m) (map f ns) (f n) (in_mapped f ns n k)
    ]

pub below : (n k : ℕ) → nat_lt k n ≡ true → has nat_eq (numbers_below n) k ≡ true
below n k h = let low = ltb-true k n h in range_has 0 n k (omega arith) (omega (arith, low))

pub rule_there : (plan : Plan) (r : ℕ) → has nat_eq (rules_of plan) r ≡ true
    → has same_giver (givers_of plan) (by_rule r) ≡ true
rule_there plan r h =
    has_front same_giver giver_exact giver_itself (map by_rule (rules_of plan))
    (map by_user (vars_of plan) ++ map by_entry (vars_of plan)) (by_rule r) (in_mapped by_rule (rules_of plan) r h)

pub user_there : (plan : Plan) (v : ℕ) → nat_lt v (length plan.vars) ≡ true
    → has same_giver (givers_of plan) (by_user v) ≡ true
user_there plan v h =
    has_back same_giver giver_exact giver_itself (map by_rule (rules_of plan))
    (map by_user (vars_of plan) ++ map by_entry (vars_of plan)) (by_user v)
    (has_front same_giver giver_exact giver_itself (map by_user (vars_of plan)) (map by_entry (vars_of plan))
    (by_user v)
    (in_mapped by_user (vars_of plan) v (below (length plan.vars) v h)))

pub entry_there : (plan : Plan) (v : ℕ) → nat_lt v (length plan.vars) ≡ true
    → has same_giver (givers_of plan) (by_entry v) ≡ true
entry_there plan v h =
    has_back same_giver giver_exact giver_itself (map by_rule (rules_of plan))
    (map by_user (vars_of plan) ++ map by_entry (vars_of plan)) (by_entry v)
    (has_back same_giver giver_exact giver_itself (map by_user (vars_of plan)) (map by_entry (vars_of plan))
    (by_entry v)
    (in_mapped by_entry (vars_of plan) v (below (length plan.vars) v h)))

source_there : (plan : Plan) (v : ℕ) (giver : Giver) → nat_lt v (length plan.vars) ≡ true
    → has same_giver (sources_of v) giver ≡ true → has same_giver (givers_of plan) giver ≡ true
source_there plan v giver there h =
    elim (has_cases same_giver giver_exact giver_itself (by_user v) (by_entry v ∷ []) giver h) [
      | inl is ↦ ap (has same_giver (givers_of plan)) is ∙ user_there plan v there
      | inr m ↦ elim (has_cases same_giver giver_exact giver_itself (by_entry v) [] giver m) [
        | inl is ↦ ap (has same_giver (givers_of plan)) is ∙ entry_there plan v there
        | inr none ↦ absurd (cc)
      ]
    ]

slot_source_there : (plan : Plan) (sources : Sources) (i n : ℕ) (giver : Giver) → n ≤ length plan.vars
    → has same_giver (telling_in_slot plan sources i n) giver ≡ true → has same_giver (givers_of plan) giver ≡ true
slot_source_there plan sources i zero giver fits h = absurd (cc)
slot_source_there plan sources i (suc n) giver fits h =
    elim (has_either same_giver giver_exact giver_itself (telling_in_slot plan sources i n)
    (if is_var_of plan i n then telling sources n else []) giver h) [
      | inl k ↦ slot_source_there plan sources i n giver (omega (arith, fits)) k
      | inr k ↦ by (is_var_of plan i n) k
    ]
  where
    by : (b : Bool) → has same_giver (if b then telling sources n else []) giver ≡ true
        → has same_giver (givers_of plan) giver ≡ true
    by false k = absurd (cc)
    by true k =
        source_there plan n giver (lt-ltb n (length plan.vars) (omega (arith, fits))) (telling_are sources n giver k)

woken_there : (plan : Plan) (sources : Sources) (seen : Seen) (thing : Thing) (giver : Giver)
    → has_such plan thing ≡ true
    → has same_giver (waking plan sources seen thing) giver ≡ true → has same_giver (givers_of plan) giver ≡ true
woken_there plan sources seen thing giver such h =
    elim (has_either same_giver giver_exact giver_itself (stirred_rules plan seen (asked plan seen thing))
    (telling_at plan sources thing) giver h) [
      | inl k ↦
          let r = stirred_read plan seen thing giver k in
          ap (has same_giver (givers_of plan)) r.1
          ∙ rule_there plan r.0
          (has_filter nat_eq number_exact number_itself (is_reader plan thing) (rules_of plan) r.0 r.2).0
      | inr k ↦ by thing such k
    ]
  where
    by : (t : Thing) → has_such plan t ≡ true → has same_giver (telling_at plan sources t) giver ≡ true
        → has same_giver (givers_of plan) giver ≡ true
    by (slot_at i) such k = slot_source_there plan sources i (length plan.vars) giver (omega arith) k
    by (var_at v) such k = source_there plan v giver such (telling_are sources v giver k)

-- so no more come than touch it
all_count : (givers : List Giver) → length (filter (λ giver. true) givers) ≡ length givers
all_count [] = refl
all_count (giver ∷ givers) = ap suc (all_count givers)

pub waking_is_few : WakingIsFew
waking_is_few plan sources seen atom agenda named =
    let thing = thing_of atom in
    let list = filter (λ giver. giver_touches plan giver thing) (givers_of plan) in
    let come = few_come (λ giver. true) agenda (waking plan sources seen thing) list
    (λ giver h t. inr (filter_has same_giver giver_exact giver_itself (λ g. giver_touches plan g thing) (givers_of plan)
    giver (woken_there plan sources seen thing giver (thing_there plan atom named) h)
    (woken_touch plan sources seen thing giver h))) in
    let after = all_count (with_givers agenda (waking plan sources seen thing)).givers in
    let before = all_count agenda.givers in
    omega (arith, come, after, before)
