-- Agendas on which several givers come, one after another.
use Rattle.std.proofs.Common.{◌≡◌, ℕ, ◌+◌, add-one, Bool, true, false, cond, not, ◌&&◌, List, [], ◌∷◌, ◌++◌}
use Rattle.std.proofs.Common.{map, refl, sym, ◌∙◌, ap, subst, inl, inr, arith, length, ◌≤◌, ◌<◌, ◌-◌, drop, get_or}
use Rattle.std.proofs.Common.{take}
use Rattle.std.specs.Prelude.{Option, None, Some, ◌||◌, if◌then◌else◌, nat_eq, nat_lt, slice_get}
use Rattle.std.specs.List.{filter, flat_map}
use Rattle.std.proofs.lemmas.List.{map-append, take_all}
use Rattle.std.proofs.lemmas.List.Elements.{filter-append}
use Rattle.vc_base.specs.Sets.{has}
use Rattle.vc_base.proofs.SetLaws.{has_cases}
use Rattle.vc_value.specs.declared.value.Value.{Value}
use Rattle.vc_value.specs.declared.value.Value.TheVariants.{Text, Num}
use Rattle.vc_plan.specs.declared.conditions.Relation.{Relation}
use Rattle.vc_plan.specs.declared.conditions.Relation.TheVariants.{Equal, Unequal, Less, AtMost, Greater, AtLeast}
use Rattle.vc_plan.specs.declared.plans.Plan.{Plan}
use Rattle.vc_plan.specs.declared.rules.Kind.{Kind}
use Rattle.vc_plan.specs.declared.rules.Kind.TheVariants.{Among, Compare, Equate, ByTable, Never, Last, Line}
use Rattle.vc_plan.specs.declared.rules.Restriction.TheVariants.{Against, OneOf}
use Rattle.vc_plan.specs.declared.rules.Rule.{Rule}
use Rattle.vc_plan.specs.Domains.{is_restrictable, numbers_below}
use Rattle.vc_plan.specs.Gives.{Giver, by_entry, by_rule, by_user, givers_of}
use Rattle.vc_plan.specs.Seen.{Seen}
use Rattle.vc_plan.specs.Sources.{Sources}
use Rattle.vc_plan_reasons.specs.Things.{var_at}
use Rattle.vc_rule.specs.Resting.{asks_for_text, is_text, rests}
use Rattle.vc_net_laws.specs.declared.triggers.Trigger.{Trigger}
use Rattle.vc_net_laws.specs.Triggers.{trigger_by}
use Rattle.vc_net_laws.specs.Working.{same_giver}
use Rattle.vc_net_laws.proofs.NetLaws.Working.{giver_exact, giver_itself}
use Rattle.vc_net_agenda.specs.Agendas.{Awaited, added, is_of, with_next}
use Rattle.vc_net_agenda.proofs.AgendaLaws.{givers_are_there, others_still_wait, who_comes_waits}
use Rattle.vc_net_places.specs.Places.{index_of}
use Rattle.vc_net_readers.specs.declared.glances.Hint.TheVariants.{GivesText, Untold}
use Rattle.vc_net_readers.specs.Glances.{hint_against, hint_by, hint_in, hint_in_rule, hint_of_value}
use Rattle.vc_net_readers.specs.Laws.{waiting_in, waiting_on}
use Rattle.vc_net_readers.specs.Filing.{list_at}
use Rattle.vc_net_readers.specs.Readers.{is_reader, readers_of}
use Rattle.vc_net_readers.specs.Waiting.{grain_held, is_free, place_in_grain}
use Rattle.vc_net_readers.proofs.AskedLaws.{common_there}
use Rattle.vc_net_readers.proofs.TriggerLemmas.{free_are}
use Rattle.vc_net_sources.specs.Asking.{is_last_of_known, rests_at, rests_if}
use Rattle.vc_net_waking.specs.Beginning.{all_sources, untriggered_below}
use Rattle.vc_net_waking.specs.Laws.{IsAgendaOf, OthersWaitOn, SizesStay}
use Rattle.vc_net_waking.specs.Waking.{is_met, is_stirred, is_var_of, may_say, rests_told, rules_in, sources_of}
use Rattle.vc_net_waking.specs.Waking.{stirred_rules, telling, telling_in_slot, with_givers}

-- two lists of givers one after another
pub both_parts : (agenda : Awaited) (xs ys : List Giver)
    → with_givers agenda (xs ++ ys) ≡ with_givers (with_givers agenda xs) ys
both_parts agenda [] ys = refl
both_parts agenda (x ∷ xs) ys = both_parts (added agenda x) xs ys

-- with one variable more
pub slot_next : (agenda : Awaited) (plan : Plan) (sources : Sources) (i n : ℕ)
    → with_givers agenda (telling_in_slot plan sources i (n + 1))
    ≡ with_givers (with_givers agenda (telling_in_slot plan sources i n))
    (if is_var_of plan i n then telling sources n else [])
slot_next agenda plan sources i n =
    ap (λ m. with_givers agenda (telling_in_slot plan sources i m)) (add-one n)
    ∙ both_parts agenda (telling_in_slot plan sources i n) (if is_var_of plan i n then telling sources n else [])

pub sources_next : (agenda : Awaited) (n : ℕ)
    → with_givers agenda (all_sources (n + 1)) ≡ with_givers (with_givers agenda (all_sources n)) (sources_of n)
sources_next agenda n =
    ap (λ m. with_givers agenda (all_sources m)) (add-one n) ∙ both_parts agenda (all_sources n) (sources_of n)

pub untriggered_next : (plan : Plan) (n : ℕ)
    → untriggered_below plan (n + 1)
    ≡ untriggered_below plan n ++ (if is_free (trigger_by plan (by_rule n)) then n ∷ [] else [])
untriggered_next plan n = ap (untriggered_below plan) (add-one n)

-- whom rules of two lists wake
pub met_both : (plan : Plan) (seen : Seen) (xs ys : List ℕ)
    → stirred_rules plan seen (xs ++ ys) ≡ stirred_rules plan seen xs ++ stirred_rules plan seen ys
met_both plan seen xs ys =
    let p : ℕ → Bool = is_stirred plan seen in
    ap (map by_rule) (filter-append p xs ys) ∙ map-append by_rule (filter p xs) (filter p ys)

-- those that pass a test, of two lists
pub met_passing : (plan : Plan) (seen : Seen) (test : ℕ → Bool) (xs ys : List ℕ)
    → stirred_rules plan seen (filter test (xs ++ ys))
    ≡ stirred_rules plan seen (filter test xs) ++ stirred_rules plan seen (filter test ys)
met_passing plan seen test xs ys =
    ap (stirred_rules plan seen) (filter-append test xs ys) ∙ met_both plan seen (filter test xs) (filter test ys)

pub ruleset parts = (both_parts, met_both, met_passing)

-- what is told of a rule at a glance tells whether it rests
and_false : (b : Bool) → false ≡ (b && false)
and_false true = refl
and_false false = refl

and_true : (b : Bool) → b ≡ (b && true)
and_true true = refl
and_true false = refl

told_of_value : (plan : Plan) (seen : Seen) (v : ℕ) (a : Value)
    → rests_told seen (hint_of_value plan v a) ≡ (is_text a (seen.value v) && not (is_restrictable plan v))
told_of_value plan seen v (Text t) = by (is_restrictable plan v)
  where
    by : (b : Bool)
        → rests_told seen (if b then Untold else GivesText v t) ≡ (is_text (Text t) (seen.value v) && not b)
    by true = and_false (is_text (Text t) (seen.value v))
    by false = and_true (is_text (Text t) (seen.value v))
told_of_value plan seen v (Num n) = by (seen.value v)
  where
    by : (o : Option Value) → false ≡ (is_text (Num n) o && not (is_restrictable plan v))
    by None = refl
    by (Some b) = refl

told_against : (plan : Plan) (seen : Seen) (v : ℕ) (r : Relation) (a : Value)
    → rests_told seen (hint_against plan v r a) ≡ (asks_for_text r a (seen.value v) && not (is_restrictable plan v))
told_against plan seen v Equal a = told_of_value plan seen v a
told_against plan seen v Unequal a = refl
told_against plan seen v Less a = refl
told_against plan seen v AtMost a = refl
told_against plan seen v Greater a = refl
told_against plan seen v AtLeast a = refl

told_of_kind : (plan : Plan) (seen : Seen) (kind : Kind)
    → rests_told seen (hint_in plan kind) ≡ (is_last_of_known seen kind || rests plan seen kind)
told_of_kind plan seen (Among v (Against r a)) = told_against plan seen v r a
told_of_kind plan seen (Among v (OneOf pieces)) = refl
told_of_kind plan seen (Compare r a b) = refl
told_of_kind plan seen (Equate a b) = refl
told_of_kind plan seen (ByTable table columns) = refl
told_of_kind plan seen Never = refl
told_of_kind plan seen (Last v) = refl
told_of_kind plan seen (Line i) = refl

pub rests_as_told : (plan : Plan) (seen : Seen) (r : ℕ) → rests_told seen (hint_by plan r) ≡ rests_at plan seen r
rests_as_told plan seen r = by (slice_get plan.rules r)
  where
    by : (o : Option Rule) → rests_told seen (hint_in_rule plan o) ≡ rests_if plan seen o
    by None = refl
    by (Some rule) = told_of_kind plan seen rule.kind

-- of the rules that touch a variable and wait for nothing each is met
met_free : (seen : Seen) (o : Option Trigger) → is_free o ≡ true → is_met seen o ≡ true
met_free seen None e = refl
met_free seen (Some trigger) e = absurd (cc)

all_pass : (p q s : ℕ → Bool) → ((r : ℕ) → p r ≡ true → q r ≡ true) → (xs : List ℕ)
    → filter (λ r. q r && s r) (filter p xs) ≡ filter s (filter p xs)
all_pass p q s follows [] = refl
all_pass p q s follows (x ∷ xs) = by (p x) refl (all_pass p q s follows xs)
  where
    both : ℕ → Bool
    both r = q r && s r

    by : (b : Bool) → p x ≡ b → filter both (filter p xs) ≡ filter s (filter p xs)
        → filter both (cond b (x ∷ filter p xs) (filter p xs)) ≡ filter s (cond b (x ∷ filter p xs) (filter p xs))
    by true e later =
        ap (λ t. cond (t && s x) (x ∷ filter both (filter p xs)) (filter both (filter p xs))) (follows x e)
        ∙ ap (λ ys. cond (s x) (x ∷ ys) ys) later
    by false e later = later

pub free_met : (plan : Plan) (seen : Seen) (v : ℕ)
    → stirred_rules plan seen (list_at (readers_of plan).free v)
    ≡ rules_in (filter (may_say plan seen) (list_at (readers_of plan).free v))
free_met plan seen v =
    let own = free_are plan v in
    let rules = numbers_below (length plan.rules) in
    let met : ℕ → Bool = λ r. is_met seen (trigger_by plan (by_rule r)) in
    ap (stirred_rules plan seen) own.1
    ∙ (ap rules_in (all_pass own.0 met (may_say plan seen) (λ r e. met_free seen (trigger_by plan (by_rule r))
    (own.2 r e)) rules)
    ∙ ap (λ rs. rules_in (filter (may_say plan seen) rs)) (sym own.1))

-- a variable's readers that wait for a value of another are those of the waiting that touch it
pub common_at : (plan : Plan) (seen : Seen) (v u : ℕ) (rules readers : List ℕ) → v < length plan.vars
    → rules ≡ waiting_on plan seen u → readers ≡ list_at (readers_of plan).by_var v
    → filter (has nat_eq rules) readers ≡ filter (is_reader plan (var_at v)) rules
common_at plan seen v u rules readers below waits reads =
    ap (λ xs. filter (has nat_eq rules) xs) reads
    ∙ (ap (λ xs. filter (has nat_eq xs) (list_at (readers_of plan).by_var v)) waits
    ∙ (common_there plan seen v u below ∙ ap (filter (is_reader plan (var_at v))) (sym waits)))

-- the rules that wait for a variable's value, where this is known
pub waiting_with : (plan : Plan) (seen : Seen) (u : ℕ) (o : Option Value) (rules : List ℕ) → o ≡ seen.value u
    → rules ≡ waiting_in (readers_of plan) (place_in_grain (index_of plan) u (grain_held plan u o))
    → rules ≡ waiting_on plan seen u
waiting_with plan seen u o rules is waits =
    waits ∙ ap (λ p. waiting_in (readers_of plan) (place_in_grain (index_of plan) u (grain_held plan u p))) is

pub come_with : (plan : Plan) (seen : Seen) (v : ℕ) (rules others : List ℕ) (old new : Awaited) → rules ≡ others
    → new ≡ with_givers old (stirred_rules plan seen (filter (is_reader plan (var_at v)) rules))
    → new ≡ with_givers old (stirred_rules plan seen (filter (is_reader plan (var_at v)) others))
come_with plan seen v rules others old new same come =
    come ∙ ap (λ rs. with_givers old (stirred_rules plan seen (filter (is_reader plan (var_at v)) rs))) same

-- those that wait for a value of the first of some variables come, then those for the rest
pub awaiting_rest : (plan : Plan) (seen : Seen) (v : ℕ) (rest : List ℕ) (d : ℕ) (old new : Awaited) → 1 ≤ length rest
    → new ≡ with_givers old
    (stirred_rules plan seen (filter (is_reader plan (var_at v)) (waiting_on plan seen (get_or rest 0 d))))
    → with_givers new (stirred_rules plan seen (filter (is_reader plan (var_at v))
    (flat_map (waiting_on plan seen) (take (length rest - 1) (drop 1 rest)))))
    ≡ with_givers old
    (stirred_rules plan seen (filter (is_reader plan (var_at v)) (flat_map (waiting_on plan seen) rest)))
awaiting_rest plan seen v [] d old new some e = absurd (omega arith)
awaiting_rest plan seen v (u ∷ rest) d old new some e =
    let touches = is_reader plan (var_at v) in
    let here = stirred_rules plan seen (filter touches (waiting_on plan seen u)) in
    let later = stirred_rules plan seen (filter touches (flat_map (waiting_on plan seen) rest)) in
    ap (λ us. with_givers new (stirred_rules plan seen (filter touches (flat_map (waiting_on plan seen) us))))
    (take_all (length (u ∷ rest) - 1) rest (omega arith))
    ∙ (ap (λ a. with_givers a later) e
    ∙ (sym (both_parts old here later)
    ∙ ap (with_givers old)
    (sym (met_passing plan seen touches (waiting_on plan seen u) (flat_map (waiting_on plan seen) rest)))))

-- who waited waits on
pub others_wait_on : OthersWaitOn
others_wait_on agenda [] other h = h
others_wait_on agenda (giver ∷ givers) other h =
    others_wait_on (added agenda giver) givers other (others_still_wait agenda giver other h)

size_stays : (agenda : Awaited) (giver : Giver)
    → ((added agenda giver).rules ≡ agenda.rules) × ((added agenda giver).vars ≡ agenda.vars)
size_stays agenda giver = by (is_of agenda giver && not (has same_giver agenda.givers giver))
  where
    by : (b : Bool)
        → (let next : Awaited = cond b (with_next agenda giver) agenda in
        (next.rules ≡ agenda.rules) × (next.vars ≡ agenda.vars))
    by true = (refl, refl)
    by false = (refl, refl)

pub sizes_stay : SizesStay
sizes_stay agenda [] = (refl, refl)
sizes_stay agenda (giver ∷ givers) =
    let rest = sizes_stay (added agenda giver) givers in
    let one = size_stays agenda giver in
    (rest.0 ∙ one.0, rest.1 ∙ one.1)

-- each of them that the plan has waits then
module _ (plan : Plan) where
  is_there : (agenda : Awaited) (giver : Giver) → IsAgendaOf plan agenda → has same_giver (givers_of plan) giver ≡ true
      → is_of agenda giver ≡ true
  is_there agenda (by_rule r) sizes h = ap (nat_lt r) sizes.0 ∙ givers_are_there plan agenda.givers (by_rule r) h
  is_there agenda (by_user v) sizes h = ap (nat_lt v) sizes.1 ∙ givers_are_there plan agenda.givers (by_user v) h
  is_there agenda (by_entry v) sizes h = ap (nat_lt v) sizes.1 ∙ givers_are_there plan agenda.givers (by_entry v) h

  pub each_waits : (agenda : Awaited) (givers : List Giver) (giver : Giver) → IsAgendaOf plan agenda
      → has same_giver givers giver ≡ true → has same_giver (givers_of plan) giver ≡ true
      → has same_giver (with_givers agenda givers).givers giver ≡ true
  each_waits agenda [] giver sizes h there = absurd (cc)
  each_waits agenda (x ∷ xs) giver sizes h there =
      elim (has_cases same_giver giver_exact giver_itself x xs giver h) [
        | inl e ↦
            others_wait_on (added agenda x) xs giver
            (subst (λ z. has same_giver (added agenda z).givers giver ≡ true) e
            (who_comes_waits agenda giver (is_there agenda giver sizes there)))
        | inr k ↦
            let one = size_stays agenda x in
            each_waits (added agenda x) xs giver (one.0 ∙ sizes.0, one.1 ∙ sizes.1) k there
      ]
