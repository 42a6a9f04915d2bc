-- Givers that touch some things: what they write, whom they wake, and how many rules there are.
use Rattle.std.proofs.Common.{◌≡◌, ℕ, zero, suc, ◌+◌, ◌<◌, ◌⊎◌, Bool, true, false, cond, ◌||◌}
use Rattle.std.proofs.Common.{List, [], ◌∷◌, ◌++◌, length, map, refl, sym, ◌∙◌, ap, inl, inr, arith}
use Rattle.std.specs.Prelude.{Option, None, Some, if◌then◌else◌, nat_eq, nat_lt, slice_get}
use Rattle.std.specs.List.{filter, list_any, range_with_len}
use Rattle.std.proofs.lemmas.Bool.{or_cases}
use Rattle.std.proofs.lemmas.List.{length-map}
use Rattle.vc_base.specs.Sets.{has, Within}
use Rattle.vc_base.specs.Spreading.{IsSpread}
use Rattle.vc_base.proofs.ListLaws.{range_has, number_exact, number_itself}
use Rattle.vc_base.proofs.SetLaws.{both, has_back, has_cases, has_either, has_filter, has_first, has_more}
use Rattle.vc_base.proofs.SetLaws.{filter_has}
use Rattle.vc_plan.specs.declared.atoms.Atom.{Atom}
use Rattle.vc_plan.specs.declared.plans.Plan.{Plan}
use Rattle.vc_plan.specs.declared.rules.Kind.{Kind}
use Rattle.vc_plan.specs.declared.rules.Kind.TheVariants.{Among, Compare, Equate, ByTable, Never, Last, Line}
use Rattle.vc_plan.specs.declared.rules.Rule.{Rule}
use Rattle.vc_plan.specs.Domains.{numbers_below}
use Rattle.vc_plan.specs.Gives.{Giver, by_rule, by_user, by_entry, givers_of}
use Rattle.vc_plan.specs.Seen.{Seen}
use Rattle.vc_plan.specs.Sources.{Sources}
use Rattle.vc_plan.specs.Valid.{IsValid}
use Rattle.vc_plan_reasons.specs.Things.{Thing, slot_at, var_at, same_thing, has_thing, thing_of, touches, vars_of_kind}
use Rattle.vc_plan_reasons.specs.Things.{giver_writes, kind_writes, reads_in, rule_reads, rule_writes}
use Rattle.vc_plan_reasons.specs.Things.{writes_in, inferred_of, slots_of_kind, slots_of_var}
use Rattle.vc_plan.specs.Reads.{vars_of_condition}
use Rattle.vc_plan.specs.Restrictions.{is_inferred}
use Rattle.vc_plan_reasons.specs.Work.{links_of, reach_of}
use Rattle.vc_plan_reasons.proofs.ReasonLaws.Reaching.{reach_is_least, thing_exact, thing_itself}
use Rattle.vc_plan_reasons.proofs.ReasonLaws.Writing.{gives_what_it_writes, has_var}
use Rattle.vc_net_agenda.specs.Agendas.{Awaited, added, is_of}
use Rattle.vc_net_laws.specs.Waking.{giver_touches}
use Rattle.vc_net_laws.specs.Wakings.{rules_at}
use Rattle.vc_net_laws.specs.Working.{same_giver}
use Rattle.vc_net_laws.proofs.NetLaws.Working.{giver_exact, giver_itself}
use Rattle.vc_net_laws.proofs.NetLaws.Wakings.{work_is_enough}
use Rattle.vc_net_waking.specs.Laws.{IsAgendaOf}
use Rattle.vc_net_readers.specs.Laws.{asked}
use Rattle.vc_net_readers.specs.Readers.{readers_at}
use Rattle.vc_net_waking.specs.Waking.{is_var_of, sources_of, stirred_rules, telling, telling_at, telling_in_slot}
use Rattle.vc_net_waking.specs.Waking.{waking, with_givers}
use Rattle.vc_net_waking.proofs.GiverLaws.{sizes_stay}
use Rattle.vc_net_waking.proofs.ComingLaws.{few_come}
use Rattle.vc_net_waking.proofs.WakingLaws.{below, entry_below, entry_there, in_mapped, rule_below, rule_there}
use Rattle.vc_net_waking.proofs.WakingLaws.{stirred_read, telling_are, user_below, user_there, woken_touch}
use Rattle.vc_net_waking.specs.Spending.{AreOn, ConclusionsAreOfThings, HoldsWhatIsWritten, ReachHoldsWhatIsWritten}
use Rattle.vc_net_waking.specs.Spending.{RulesAreWithinWork, RulesWokenAreFew, WokenAreOn, is_rule}
use Rattle.vc_net_waking.specs.Spending.{touches_one}
use Rattle.vc_net_waking.proofs.CountLaws.{added_are, distinct_few, filter_once, givers_once}
use Rattle.vc_base.proofs.Settling.{IsIn}
use Rattle.vc_plan_reasons.proofs.ReasonLaws.Spreading.{any_thing, rule_spreads, some_thing, source_spreads}

pub conclusions_are_of_things : ConclusionsAreOfThings
conclusions_are_of_things plan sources things giver set atom holds there touch given =
    holds giver (thing_of atom) there touch (gives_what_it_writes plan sources giver set atom given)

-- the rules of a plan by number
rules_touch : (plan : Plan) (r : ℕ) (rule : Rule) (thing : Thing) → slice_get plan.rules r ≡ Some rule
    → giver_touches plan (by_rule r) thing ≡ touches plan rule thing
rules_touch plan r rule thing e =
    ap (λ o. has_thing (reads_in plan o) thing || has_thing (writes_in plan o) thing) e

pub touches_at : (plan : Plan) (things : List Thing) (r : ℕ) (rule : Rule) → slice_get plan.rules r ≡ Some rule
    → touches_one plan things (by_rule r) ≡ list_any (touches plan rule) things
touches_at plan [] r rule e = refl
touches_at plan (t ∷ things) r rule e =
    ap (λ b. b || touches_one plan things (by_rule r)) (rules_touch plan r rule t e)
    ∙ ap (λ b. touches plan rule t || b) (touches_at plan things r rule e)

-- as many numbers of rules pass a test as rules do
counted_from : (test : Rule → Bool) (p : ℕ → Bool) (rules : List Rule) (a : ℕ)
    → ((i : ℕ) (rule : Rule) → slice_get rules i ≡ Some rule → p (a + i) ≡ test rule)
    → length (filter p (range_with_len a (length rules))) ≡ length (filter test rules)
counted_from test p [] a same = refl
counted_from test p (rule ∷ rules) a same =
    step (test rule) (p a) (ap p (omega arith) ∙ same 0 rule refl)
    (counted_from test p rules (a + 1) (λ i other e. ap p (omega arith) ∙ same (suc i) other e))
  where
    step : (b c : Bool) → c ≡ b
        → length (filter p (range_with_len (a + 1) (length rules))) ≡ length (filter test rules)
        → length (cond c (a ∷ filter p (range_with_len (a + 1) (length rules)))
        (filter p (range_with_len (a + 1) (length rules))))
        ≡ length (cond b (rule ∷ filter test rules) (filter test rules))
    step true true e h = ap suc h
    step true false e h = absurd (cc)
    step false true e h = absurd (cc)
    step false false e h = h

-- so the distinct rules that touch one of the things are no more than the plan's that do
abbrev numbers_on : Plan → List Thing → List ℕ
numbers_on plan things = filter (λ r. touches_one plan things (by_rule r)) (numbers_below (length plan.rules))

pub numbers_counted : (plan : Plan) (things : List Thing)
    → length (numbers_on plan things) ≡ length (filter (λ rule. list_any (touches plan rule) things) plan.rules)
numbers_counted plan things =
    counted_from (λ rule. list_any (touches plan rule) things) (λ r. touches_one plan things (by_rule r)) plan.rules 0
    (λ i rule e. ap (λ n. touches_one plan things (by_rule n)) (omega arith) ∙ touches_at plan things i rule e)

rules_within : (plan : Plan) (things : List Thing) (givers : List Giver) → AreOn plan things givers
    → Within same_giver (filter is_rule givers) (map by_rule (numbers_on plan things))
rules_within plan things givers on giver h =
    let p = has_filter same_giver giver_exact giver_itself is_rule givers giver h in
    by giver p.0 p.1 (on.there giver p.0) (on.touch giver p.0)
  where
    by : (g : Giver) → has same_giver givers g ≡ true → is_rule g ≡ true → has same_giver (givers_of plan) g ≡ true
        → touches_one plan things g ≡ true → has same_giver (map by_rule (numbers_on plan things)) g ≡ true
    by (by_rule r) h e there touch =
        in_mapped by_rule (numbers_on plan things) r
        (filter_has nat_eq number_exact number_itself (λ n. touches_one plan things (by_rule n))
        (numbers_below (length plan.rules)) r
        (range_has 0 (length plan.rules) r (omega arith) (let low = rule_below plan r there in omega (arith, low)))
        touch)
    by (by_user v) h e there touch = absurd (cc)
    by (by_entry v) h e there touch = absurd (cc)

pub rules_are_within_work : RulesAreWithinWork
rules_are_within_work plan things givers atoms on clear distinct inside =
    let few = distinct_few (filter is_rule givers) (map by_rule (numbers_on plan things))
    (filter_once is_rule givers on.once) (rules_within plan things givers on) in
    let mapped = length-map (numbers_on plan things) by_rule in
    let counted = numbers_counted plan things in
    let work = work_is_enough plan atoms things clear distinct inside in
    omega (arith, few, mapped, counted, work)

-- no source is a rule
source_no_rule : (v : ℕ) (giver : Giver) → has same_giver (sources_of v) giver ≡ true → is_rule giver ≡ false
source_no_rule v giver h =
    elim (has_cases same_giver giver_exact giver_itself (by_user v) (by_entry v ∷ []) giver h) [
      | inl is ↦ ap is_rule is
      | inr m ↦ elim (has_cases same_giver giver_exact giver_itself (by_entry v) [] giver m) [
        | inl is ↦ ap is_rule is
        | inr none ↦ absurd (cc)
      ]
    ]

slot_no_rule : (plan : Plan) (sources : Sources) (i n : ℕ) (giver : Giver)
    → has same_giver (telling_in_slot plan sources i n) giver ≡ true → is_rule giver ≡ false
slot_no_rule plan sources i zero giver h = absurd (cc)
slot_no_rule plan sources i (suc n) giver h =
    elim (has_either same_giver giver_exact giver_itself (telling_in_slot plan sources i n)
    (if is_var_of plan i n then telling sources n else []) giver h) [
      | inl k ↦ slot_no_rule plan sources i n giver k
      | inr k ↦ by (is_var_of plan i n) k
    ]
  where
    by : (b : Bool) → has same_giver (if b then telling sources n else []) giver ≡ true → is_rule giver ≡ false
    by false k = absurd (cc)
    by true k = source_no_rule n giver (telling_are sources n giver k)

no_rule : (plan : Plan) (sources : Sources) (thing : Thing) (giver : Giver)
    → has same_giver (telling_at plan sources thing) giver ≡ true → is_rule giver ≡ false
no_rule plan sources (slot_at i) giver h = slot_no_rule plan sources i (length plan.vars) giver h
no_rule plan sources (var_at v) giver h = source_no_rule v giver (telling_are sources v giver h)

-- rules that are woken read the thing
readers_counted : (plan : Plan) (atom : Atom) → length (readers_at plan (thing_of atom)) ≡ rules_at plan atom
readers_counted plan atom =
    counted_from (λ rule. touches plan rule (thing_of atom)) (λ r. giver_touches plan (by_rule r) (thing_of atom))
    plan.rules 0
    (λ i rule e. ap (λ n. giver_touches plan (by_rule n) (thing_of atom)) (omega arith)
    ∙ rules_touch plan i rule (thing_of atom) e)

woken_read : (plan : Plan) (sources : Sources) (seen : Seen) (thing : Thing) (giver : Giver)
    → has same_giver (waking plan sources seen thing) giver ≡ true → is_rule giver ≡ true
    → has same_giver (map by_rule (readers_at plan thing)) giver ≡ true
woken_read plan sources seen thing giver h e =
    elim (has_either same_giver giver_exact giver_itself (stirred_rules plan seen (asked plan seen thing))
    (telling_at plan sources thing) giver h) [
      | inl k ↦
          let r = stirred_read plan seen thing giver k in
          ap (has same_giver (map by_rule (readers_at plan thing))) r.1
          ∙ in_mapped by_rule (readers_at plan thing) r.0 r.2
      | inr k ↦ absurd (both e (no_rule plan sources thing giver k))
    ]

pub rules_woken_are_few : RulesWokenAreFew
rules_woken_are_few plan sources agenda seen atom =
    let thing = thing_of atom in
    let come = few_come is_rule agenda (waking plan sources seen thing) (map by_rule (readers_at plan thing))
    (λ giver h e. inr (woken_read plan sources seen thing giver h e)) in
    let mapped = length-map (readers_at plan thing) by_rule in
    let counted = readers_counted plan atom in
    omega (arith, come, mapped, counted)

-- whoever an agenda takes is the plan's
of_plan : (plan : Plan) (agenda : Awaited) (giver : Giver) → IsAgendaOf plan agenda → is_of agenda giver ≡ true
    → has same_giver (givers_of plan) giver ≡ true
of_plan plan agenda (by_rule r) sizes h =
    rule_there plan r (below (length plan.rules) r (ap (nat_lt r) (sym sizes.0) ∙ h))
of_plan plan agenda (by_user v) sizes h = user_there plan v (ap (nat_lt v) (sym sizes.1) ∙ h)
of_plan plan agenda (by_entry v) sizes h = entry_there plan v (ap (nat_lt v) (sym sizes.1) ∙ h)

pub given_are : (plan : Plan) (agenda : Awaited) (givers : List Giver) (other : Giver) → IsAgendaOf plan agenda
    → has same_giver (with_givers agenda givers).givers other ≡ true
    → (has same_giver agenda.givers other ≡ true)
    ⊎ ((has same_giver givers other ≡ true) × (has same_giver (givers_of plan) other ≡ true))
given_are plan agenda [] other sizes h = inl h
given_are plan agenda (giver ∷ givers) other sizes h =
    let same = sizes_stay agenda (giver ∷ []) in
    elim (given_are plan (added agenda giver) givers other (same.0 ∙ sizes.0, same.1 ∙ sizes.1) h) [
      | inl k ↦ elim (added_are agenda giver other k) [
        | inl old ↦ inl old
        | inr new ↦ inr (
          ap (has same_giver (giver ∷ givers)) new.0 ∙ has_first same_giver giver_exact giver_itself giver givers,
          ap (has same_giver (givers_of plan)) new.0 ∙ of_plan plan agenda giver sizes new.1,
        )
      ]
      | inr k ↦ inr (has_more same_giver giver_exact giver_itself giver givers other k.0, k.1)
    ]

pub woken_are_on : WokenAreOn
woken_are_on plan sources things agenda seen thing sizes reached on = record {
  once = givers_once agenda (waking plan sources seen thing) on.once;
  there = λ giver h. elim (given_are plan agenda (waking plan sources seen thing) giver sizes h) [
    | inl k ↦ on.there giver k
    | inr k ↦ k.1
  ];
  touch = λ giver h. elim (given_are plan agenda (waking plan sources seen thing) giver sizes h) [
    | inl k ↦ on.touch giver k
    | inr k ↦ any_thing (giver_touches plan giver) things thing reached (woken_touch plan sources seen thing giver k.0)
  ];
}

-- what things reach has all that is written by who touches one of it
module _ (plan : Plan) (valid : IsValid plan) (things : List Thing) where
  abbrev all : List Thing
  all = reach_of plan things

  spreads : IsSpread (links_of plan) things all
  spreads = (reach_is_least plan things).0

  -- a rule writes what it reads, or one thing
  var_read : (rule : Rule) (v : ℕ) → has nat_eq (vars_of_kind plan rule.kind) v ≡ true
      → has_thing (rule_reads plan rule) (var_at v) ≡ true
  var_read rule v h =
      let slots = map slot_at (rule.slots ++ slots_of_kind plan rule.kind) in
      let condition = vars_of_condition (slice_get plan.conditions rule.condition) in
      has_back same_thing thing_exact thing_itself slots (map var_at (condition ++ vars_of_kind plan rule.kind))
      (var_at v)
      (has_var (condition ++ vars_of_kind plan rule.kind) v
      (has_back nat_eq number_exact number_itself condition (vars_of_kind plan rule.kind) v h))

  mapped_var : (vs : List ℕ) (t : Thing) → has_thing (map var_at vs) t ≡ true
      → (v : ℕ) × (t ≡ var_at v) × (has nat_eq vs v ≡ true)
  mapped_var [] t h = absurd (cc)
  mapped_var (v ∷ vs) t h =
      by (has_cases same_thing thing_exact thing_itself (var_at v) (map var_at vs) t h) (mapped_var vs t)
    where
      by : (t ≡ var_at v) ⊎ (has_thing (map var_at vs) t ≡ true)
          → (has_thing (map var_at vs) t ≡ true → (w : ℕ) × (t ≡ var_at w) × (has nat_eq vs w ≡ true))
          → (w : ℕ) × (t ≡ var_at w) × (has nat_eq (v ∷ vs) w ≡ true)
      by (inl e) later = (v, e, has_first nat_eq number_exact number_itself v vs)
      by (inr e) later =
          let r = later e in (r.0, r.1, has_more nat_eq number_exact number_itself v vs r.0 r.2)

  inferred_read : (rule : Rule) (kind : Kind) → rule.kind ≡ kind → (t : Thing)
      → has_thing (inferred_of plan rule kind) t ≡ true → has_thing (rule_reads plan rule) t ≡ true
  inferred_read rule kind is t h =
      let r = mapped_var (filter (is_inferred rule) (vars_of_kind plan kind)) t h in
      let p = has_filter nat_eq number_exact number_itself (is_inferred rule) (vars_of_kind plan kind) r.0 r.2 in
      ap (has_thing (rule_reads plan rule)) r.1
      ∙ var_read rule r.0 (ap (λ k. has nat_eq (vars_of_kind plan k) r.0) is ∙ p.0)

  ReadsOrIs : Rule → Thing → Type 0
  ReadsOrIs rule t = (has_thing (rule_reads plan rule) t ≡ true)
      ⊎ ((written : Thing) → has_thing (rule_writes plan rule) written ≡ true → written ≡ t)

  one_written : (t u : Thing) → has_thing (t ∷ []) u ≡ true → u ≡ t
  one_written t u h =
      elim (has_cases same_thing thing_exact thing_itself t [] u h) [ inl e ↦ e | inr k ↦ absurd (cc) ]

  written_read : (rule : Rule) (t : Thing) → has_thing (rule_writes plan rule) t ≡ true → ReadsOrIs rule t
  unfolding ReadsOrIs
  written_read rule t h = by rule.kind refl h
    where
      by : (kind : Kind) → rule.kind ≡ kind → has_thing (kind_writes plan rule kind) t ≡ true → ReadsOrIs rule t
      by (Among v restriction) is h = inl (inferred_read rule (Among v restriction) is t h)
      by (Compare r a b) is h = inl (inferred_read rule (Compare r a b) is t h)
      by (Equate a b) is h = inl (inferred_read rule (Equate a b) is t h)
      by (ByTable table columns) is h = inl (inferred_read rule (ByTable table columns) is t h)
      by Never is h = absurd (cc)
      by (Last v) is h = inr (λ written k.
          one_written (var_at v) written (ap (λ x. has_thing (kind_writes plan rule x) written) (sym is) ∙ k)
          ∙ sym (one_written (var_at v) t h))
      by (Line i) is h = inr (λ written k.
          one_written (slot_at i) written (ap (λ x. has_thing (kind_writes plan rule x) written) (sym is) ∙ k)
          ∙ sym (one_written (slot_at i) t h))

  rule_at : (rules : List Rule) (n : ℕ) (rule : Rule) → slice_get rules n ≡ Some rule → IsIn rule rules
  rule_at [] n rule e = absurd (cc)
  rule_at (x ∷ rules) zero rule e = let same : x ≡ rule = cc in inl (sym same)
  rule_at (x ∷ rules) (suc n) rule e = inr (rule_at rules n rule e)

  rule_holds : (rule : Rule) (t written : Thing) → IsIn rule plan.rules → has_thing all t ≡ true
      → (has_thing (rule_reads plan rule) t || has_thing (rule_writes plan rule) t) ≡ true
      → has_thing (rule_writes plan rule) written ≡ true → has_thing all written ≡ true
  unfolding ReadsOrIs
  rule_holds rule t written there reached touch writes =
      elim (or_cases (has_thing (rule_reads plan rule) t) (has_thing (rule_writes plan rule) t) touch) [
        | inl reads ↦ rule_spreads plan things all spreads rule t written there reads reached writes
        | inr own ↦ elim (written_read rule t own) [
          | inl reads ↦ rule_spreads plan things all spreads rule t written there reads reached writes
          | inr same ↦ ap (has_thing all) (same written writes) ∙ reached
        ]
      ]

  some_rule : (r : ℕ) (t written : Thing) (o : Option Rule) → slice_get plan.rules r ≡ o → has_thing all t ≡ true
      → (has_thing (reads_in plan o) t || has_thing (writes_in plan o) t) ≡ true
      → has_thing (writes_in plan o) written ≡ true → has_thing all written ≡ true
  some_rule r t written None is reached touch writes = absurd (cc)
  some_rule r t written (Some rule) is reached touch writes =
      rule_holds rule t written (rule_at plan.rules r rule is) reached touch writes

  source_holds : (v : ℕ) (t written : Thing) → v < length plan.vars → has_thing all t ≡ true
      → (has_thing (map slot_at (slots_of_var plan v)) t || has_thing (var_at v ∷ []) t) ≡ true
      → has_thing (var_at v ∷ []) written ≡ true → has_thing all written ≡ true
  source_holds v t written below reached touch writes =
      ap (has_thing all) (one_written (var_at v) written writes)
      ∙ elim (or_cases (has_thing (map slot_at (slots_of_var plan v)) t) (has_thing (var_at v ∷ []) t) touch) [
        | inl reads ↦ source_spreads plan valid things all spreads v t below reads reached
        | inr own ↦ ap (has_thing all) (sym (one_written (var_at v) t own)) ∙ reached
      ]

  holds_at : (giver : Giver) (t written : Thing) → has same_giver (givers_of plan) giver ≡ true → has_thing all t ≡ true
      → giver_touches plan giver t ≡ true → has_thing (giver_writes plan giver) written ≡ true
      → has_thing all written ≡ true
  holds_at (by_rule r) t written there reached touch writes =
      some_rule r t written (slice_get plan.rules r) refl reached touch writes
  holds_at (by_user v) t written there reached touch writes =
      source_holds v t written (user_below plan v there) reached touch writes
  holds_at (by_entry v) t written there reached touch writes =
      source_holds v t written (entry_below plan v there) reached touch writes

  pub reach_holds : HoldsWhatIsWritten plan all
  reach_holds giver thing there touch writes =
      let r = some_thing (giver_touches plan giver) all touch in
      holds_at giver r.0 thing there r.1 r.2 writes

pub reach_holds_what_is_written : ReachHoldsWhatIsWritten
reach_holds_what_is_written plan things valid = reach_holds plan valid things
