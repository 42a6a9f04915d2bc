-- Givers and their numbers.
use Rattle.std.proofs.Common.{◌≡◌, ℕ, ◌+◌, ◌-◌, ◌<◌, ◌≤◌, Bool, true, false, cond, not, ◌&&◌, ◌||◌, List, [], ◌∷◌, ◌++◌}
use Rattle.std.proofs.Common.{map, refl, sym, ◌∙◌, ap, inl, inr, arith, length, length-append}
use Rattle.std.specs.Prelude.{nat_eq, nat_lt, if◌then◌else◌, None, Some}
use Rattle.std.specs.List.{list_all}
use Rattle.std.proofs.lemmas.Bool.{and_parts, cases_lt, lt-ltb, ltb-true}
use Rattle.std.proofs.lemmas.List.{map-append}
use Rattle.vc_base.specs.Numbers.{numbers_below}
use Rattle.vc_base.specs.Sets.{has, Within}
use Rattle.vc_base.proofs.ListLaws.{has_range, number_exact, number_itself}
use Rattle.vc_base.proofs.SetLaws.{both, has_back, has_either, has_first, has_front, same_test, told}
use Rattle.vc_plan.specs.declared.plans.Plan.{Plan}
use Rattle.vc_plan.specs.Gives.{Giver, by_entry, by_rule, by_user}
use Rattle.vc_rule_yield.specs.Filling.{Filled}
use Rattle.vc_net_laws.specs.Working.{same_giver}
use Rattle.vc_net_laws.proofs.NetLaws.Working.{giver_exact, giver_itself}
use Rattle.vc_net_agenda.specs.Agendas.{Awaited, GiversAreThere, IsNumbered, added, awaited_in, giver_at, is_of}
use Rattle.vc_net_agenda.specs.Agendas.{number_of, with_next}
use Rattle.vc_net_agenda.specs.Pending.{pushed, with_last}

-- a test of numbers that fails
not_below : (n k : ℕ) → k ≤ n → nat_lt n k ≡ false
not_below n k high =
    elim (told (nat_lt n k)) [
      | inl e ↦ let low : n < k = ltb-true n k e in absurd (omega (arith, low, high))
      | inr e ↦ e
    ]

-- the giver of a number has that number, of each class
rule_at : (rules vars n : ℕ) → n < rules → giver_at rules vars n ≡ by_rule n
rule_at rules vars n low =
    ap (λ b. cond b (by_rule n) (cond (nat_lt n (rules + vars)) (by_user (n - rules)) (by_entry (n - (rules + vars)))))
    (lt-ltb n rules low)

user_at : (rules vars n : ℕ) → rules ≤ n → n < rules + vars → giver_at rules vars n ≡ by_user (n - rules)
user_at rules vars n high low =
    ap (λ b. cond b (by_rule n) (cond (nat_lt n (rules + vars)) (by_user (n - rules)) (by_entry (n - (rules + vars)))))
    (not_below n rules high)
    ∙ ap (λ b. cond b (by_user (n - rules)) (by_entry (n - (rules + vars)))) (lt-ltb n (rules + vars) low)

entry_at : (rules vars n : ℕ) → rules + vars ≤ n → giver_at rules vars n ≡ by_entry (n - (rules + vars))
entry_at rules vars n high =
    ap (λ b. cond b (by_rule n) (cond (nat_lt n (rules + vars)) (by_user (n - rules)) (by_entry (n - (rules + vars)))))
    (not_below n rules (omega (arith, high)))
    ∙ ap (λ b. cond b (by_user (n - rules)) (by_entry (n - (rules + vars)))) (not_below n (rules + vars) high)

there : (n k m : ℕ) → n < k → (if nat_lt n k then Some m else None) ≡ Some m
there n k m low = ap (λ b. cond b (Some m) None) (lt-ltb n k low)

number_again : (rules vars n : ℕ) → n < rules + (vars + vars) → number_of rules vars (giver_at rules vars n) ≡ Some n
number_again rules vars n low =
    elim (cases_lt n rules) [
      | inl e ↦ ap (number_of rules vars) (rule_at rules vars n e) ∙ there n rules n e
      | inr e ↦ elim (cases_lt n (rules + vars)) [
        | inl f ↦
            ap (number_of rules vars) (user_at rules vars n e f)
            ∙ (there (n - rules) vars (rules + (n - rules)) (omega (arith, e, f)) ∙ ap Some (omega (arith, e)))
        | inr f ↦
            ap (number_of rules vars) (entry_at rules vars n f)
            ∙ (there (n - (rules + vars)) vars (rules + (vars + (n - (rules + vars)))) (omega (arith, f, low))
            ∙ ap Some (omega (arith, f)))
      ]
    ]

-- and the number of a giver is that giver's
record IsOf (rules vars k : ℕ) (giver : Giver) : Type 0 where
  pub giver_is : giver_at rules vars k ≡ giver
  pub below : k < rules + (vars + vars)
  pub there : (givers : List Giver) → is_of (record { rules = rules; vars = vars; givers = givers }) giver ≡ true

is_of_giver : (rules vars k : ℕ) (giver : Giver) → number_of rules vars giver ≡ Some k → IsOf rules vars k giver
is_of_giver rules vars k (by_rule r) e =
    elim (told (nat_lt r rules)) [
      | inl t ↦
          let low : r < rules = ltb-true r rules t in
          let is : Some r ≡ Some k = sym (there r rules r low) ∙ e in
          let same : r ≡ k = cc in
          record {
            giver_is = rule_at rules vars k (omega (arith, low, same)) ∙ ap by_rule (sym same);
            below = omega (arith, low, same);
            there = λ givers. t;
          }
      | inr t ↦ let none : None ≡ Some k = sym (ap (λ b. cond b (Some r) None) t) ∙ e in absurd (cc)
    ]
is_of_giver rules vars k (by_user v) e =
    elim (told (nat_lt v vars)) [
      | inl t ↦
          let low : v < vars = ltb-true v vars t in
          let is : Some (rules + v) ≡ Some k = sym (there v vars (rules + v) low) ∙ e in
          let same : rules + v ≡ k = cc in
          record {
            giver_is =
                user_at rules vars k (omega (arith, same)) (omega (arith, low, same))
                ∙ ap by_user (omega (arith, same));
            below = omega (arith, low, same);
            there = λ givers. t;
          }
      | inr t ↦ let none : None ≡ Some k = sym (ap (λ b. cond b (Some (rules + v)) None) t) ∙ e in absurd (cc)
    ]
is_of_giver rules vars k (by_entry v) e =
    elim (told (nat_lt v vars)) [
      | inl t ↦
          let low : v < vars = ltb-true v vars t in
          let is : Some (rules + (vars + v)) ≡ Some k = sym (there v vars (rules + (vars + v)) low) ∙ e in
          let same : rules + (vars + v) ≡ k = cc in
          record {
            giver_is = entry_at rules vars k (omega (arith, same)) ∙ ap by_entry (omega (arith, same));
            below = omega (arith, low, same);
            there = λ givers. t;
          }
      | inr t ↦ let none : None ≡ Some k = sym (ap (λ b. cond b (Some (rules + (vars + v))) None) t) ∙ e in absurd (cc)
    ]

-- a giver is among those of numbers just where its number is among them
pub has_number : (rules vars k : ℕ) (giver : Giver) (numbers : List ℕ) → number_of rules vars giver ≡ Some k
    → list_all (λ n. nat_lt n (rules + (vars + vars))) numbers ≡ true
    → has same_giver (map (giver_at rules vars) numbers) giver ≡ has nat_eq numbers k
has_number rules vars k giver [] e all = refl
has_number rules vars k giver (n ∷ numbers) e all =
    let p
    = and_parts (nat_lt n (rules + (vars + vars))) (list_all (λ m. nat_lt m (rules + (vars + vars))) numbers) all in
    let low : n < rules + (vars + vars) = ltb-true n (rules + (vars + vars)) p.0 in
    let o : IsOf rules vars k giver = is_of_giver rules vars k giver e in
    let same : same_giver giver (giver_at rules vars n) ≡ nat_eq k n
    = same_test (same_giver giver (giver_at rules vars n)) (nat_eq k n)
    (λ h.
    let is : Some k ≡ Some n
    = sym e ∙ (ap (number_of rules vars) (giver_exact giver (giver_at rules vars n) h)
    ∙ number_again rules vars n low) in
    let number : k ≡ n = cc in
    ap (nat_eq k) (sym number) ∙ number_itself k)
    (λ h. ap (λ m. same_giver giver (giver_at rules vars m)) (sym (number_exact k n h))
    ∙ (ap (same_giver giver) o.giver_is ∙ giver_itself giver)) in
    ap (λ b. b || has same_giver (map (giver_at rules vars) numbers) giver) same
    ∙ ap (λ b. nat_eq k n || b) (has_number rules vars k giver numbers e p.1)

pub has_nobody : (rules vars : ℕ) (giver : Giver) (numbers : List ℕ) → number_of rules vars giver ≡ None
    → list_all (λ n. nat_lt n (rules + (vars + vars))) numbers ≡ true
    → has same_giver (map (giver_at rules vars) numbers) giver ≡ false
has_nobody rules vars giver [] e all = refl
has_nobody rules vars giver (n ∷ numbers) e all =
    let p
    = and_parts (nat_lt n (rules + (vars + vars))) (list_all (λ m. nat_lt m (rules + (vars + vars))) numbers) all in
    let low : n < rules + (vars + vars) = ltb-true n (rules + (vars + vars)) p.0 in
    elim (told (same_giver giver (giver_at rules vars n))) [
      | inl h ↦
          let is : None ≡ Some n
          = sym e ∙ (ap (number_of rules vars) (giver_exact giver (giver_at rules vars n) h)
          ∙ number_again rules vars n low) in
          absurd (cc)
      | inr h ↦
          ap (λ b. b || has same_giver (map (giver_at rules vars) numbers) giver) h
          ∙ has_nobody rules vars giver numbers e p.1
    ]

pub is_added : (rules vars k : ℕ) (stack next : Filled ℕ) (giver : Giver) → IsNumbered rules vars stack
    → number_of rules vars giver ≡ Some k → next ≡ pushed stack k
    → awaited_in rules vars next.items ≡ added (awaited_in rules vars stack.items) giver
is_added rules vars k stack next giver m e f =
    let o : IsOf rules vars k giver = is_of_giver rules vars k giver e in
    let agenda : Awaited = awaited_in rules vars stack.items in
    let lower : nat_lt k stack.room ≡ true = lt-ltb k stack.room (omega (arith, o.below, m.room)) in
    let same : has same_giver agenda.givers giver ≡ has nat_eq stack.items k
    = has_number rules vars k giver stack.items e m.below in
    ap (λ (list : Filled ℕ). awaited_in rules vars list.items)
    (f ∙ ap (λ b. cond (b && not (has nat_eq stack.items k)) (with_last stack k) stack) lower)
    ∙ (by (has nat_eq stack.items k) o
    ∙ sym (ap (λ b. cond (b && not (has same_giver agenda.givers giver)) (with_next agenda giver) agenda)
    (o.there agenda.givers)
    ∙ ap (λ b. cond (not b) (with_next agenda giver) agenda) same))
  where
    by : (b : Bool) → IsOf rules vars k giver
        → (let list : Filled ℕ = cond (not b) (with_last stack k) stack in awaited_in rules vars list.items)
        ≡ cond (not b) (with_next (awaited_in rules vars stack.items) giver) (awaited_in rules vars stack.items)
    by true o = refl
    by false o =
        ap (λ (givers : List Giver). let a : Awaited = record { rules = rules; vars = vars; givers = givers } in a)
        (map-append (giver_at rules vars) stack.items (k ∷ [])
        ∙ ap (λ g. map (giver_at rules vars) stack.items ++ g ∷ []) o.giver_is)

-- what an agenda has when a giver came
module _ (agenda : Awaited) (giver : Giver) where
  pub others_still_wait : Within same_giver agenda.givers (added agenda giver).givers
  others_still_wait other h = by (is_of agenda giver && not (has same_giver agenda.givers giver))
    where
      by : (b : Bool) → (let next : Awaited = cond b (with_next agenda giver) agenda in
          has same_giver next.givers other) ≡ true
      by true = has_front same_giver giver_exact giver_itself agenda.givers (giver ∷ []) other h
      by false = h

  pub who_comes_waits : is_of agenda giver ≡ true → has same_giver (added agenda giver).givers giver ≡ true
  who_comes_waits there =
      ap (λ b. let next : Awaited =
      cond (b && not (has same_giver agenda.givers giver)) (with_next agenda giver) agenda in
      has same_giver next.givers giver) there
      ∙ by (has same_giver agenda.givers giver) refl
    where
      by : (b : Bool) → has same_giver agenda.givers giver ≡ b
          → (let next : Awaited = cond (not b) (with_next agenda giver) agenda in has same_giver next.givers giver)
          ≡ true
      by true e = e
      by false e =
          has_back same_giver giver_exact giver_itself agenda.givers (giver ∷ []) giver
          (has_first same_giver giver_exact giver_itself giver [])

  pub one_more_waits : length (added agenda giver).givers ≤ length agenda.givers + 1
  one_more_waits = by (is_of agenda giver && not (has same_giver agenda.givers giver))
    where
      by : (b : Bool) → (let next : Awaited = cond b (with_next agenda giver) agenda in length next.givers) ≤ length
          agenda.givers + 1
      by true = omega (arith, length-append agenda.givers (giver ∷ []))
      by false = omega arith

-- of which class a giver among mapped numbers is
pub none_of : (f : ℕ → Giver) (giver : Giver) → ((n : ℕ) → same_giver giver (f n) ≡ false) → (ns : List ℕ)
    → has same_giver (map f ns) giver ≡ false
none_of f giver h [] = refl
none_of f giver h (n ∷ ns) = ap (λ b. b || has same_giver (map f ns) giver) (h n) ∙ none_of f giver h ns

pub one_of : (f : ℕ → Giver) (k : ℕ) → ((n : ℕ) → same_giver (f k) (f n) ≡ nat_eq k n) → (ns : List ℕ)
    → has same_giver (map f ns) (f k) ≡ has nat_eq ns k
one_of f k h [] = refl
one_of f k h (n ∷ ns) =
    ap (λ b. b || has same_giver (map f ns) (f k)) (h n) ∙ ap (λ b. nat_eq k n || b) (one_of f k h ns)

below_count : (count k : ℕ) → has nat_eq (numbers_below count) k ≡ true → nat_lt k count ≡ true
below_count count k h = let r = has_range 0 count k h in lt-ltb k count (omega (arith, r.1))

abbrev rules_of : Plan → List ℕ
rules_of plan = numbers_below (length plan.rules)

abbrev vars_of : Plan → List ℕ
vars_of plan = numbers_below (length plan.vars)

abbrev agenda_of : Plan → List Giver → Awaited
agenda_of plan waiting = record { rules = length plan.rules; vars = length plan.vars; givers = waiting }

pub givers_are_there : GiversAreThere
givers_are_there plan waiting giver h =
    elim (has_either same_giver giver_exact giver_itself (map by_rule (rules_of plan))
    (map by_user (vars_of plan) ++ map by_entry (vars_of plan)) giver h) [
      | inl p ↦ by_rules giver p
      | inr p ↦ elim (has_either same_giver giver_exact giver_itself (map by_user (vars_of plan))
          (map by_entry (vars_of plan)) giver p) [
            | inl q ↦ by_users giver q
            | inr q ↦ by_entries giver q
          ]
    ]
  where
    by_rules : (g : Giver) → has same_giver (map by_rule (rules_of plan)) g ≡ true
        → is_of (agenda_of plan waiting) g ≡ true
    by_rules (by_rule r) p = below_count (length plan.rules) r (sym (one_of by_rule r (λ n. refl) (rules_of plan)) ∙ p)
    by_rules (by_user v) p = absurd (both p (none_of by_rule (by_user v) (λ n. refl) (rules_of plan)))
    by_rules (by_entry v) p = absurd (both p (none_of by_rule (by_entry v) (λ n. refl) (rules_of plan)))

    by_users : (g : Giver) → has same_giver (map by_user (vars_of plan)) g ≡ true
        → is_of (agenda_of plan waiting) g ≡ true
    by_users (by_rule r) p = absurd (both p (none_of by_user (by_rule r) (λ n. refl) (vars_of plan)))
    by_users (by_user v) p = below_count (length plan.vars) v (sym (one_of by_user v (λ n. refl) (vars_of plan)) ∙ p)
    by_users (by_entry v) p = absurd (both p (none_of by_user (by_entry v) (λ n. refl) (vars_of plan)))

    by_entries : (g : Giver) → has same_giver (map by_entry (vars_of plan)) g ≡ true
        → is_of (agenda_of plan waiting) g ≡ true
    by_entries (by_rule r) p = absurd (both p (none_of by_entry (by_rule r) (λ n. refl) (vars_of plan)))
    by_entries (by_user v) p = absurd (both p (none_of by_entry (by_user v) (λ n. refl) (vars_of plan)))
    by_entries (by_entry v) p =
        below_count (length plan.vars) v (sym (one_of by_entry v (λ n. refl) (vars_of plan)) ∙ p)
