-- The first number that passes, by those from one on; the first grain in which a value lies, which is the only one.
use Rattle.std.proofs.Common.{◌≡◌, ℕ, zero, suc, ◌+◌, ◌-◌, ◌<◌, ◌≤◌, ◌^◌, add-zero, Bool, true, false, List, [], ◌∷◌}
use Rattle.std.proofs.Common.{length, map, refl, sym, ◌∙◌, ap, subst, ◌⊎◌, inl, inr, arith}
use Rattle.std.specs.Prelude.{Option, None, Some, IfSome, ℤ, ◌&&◌, ◌==◌, cond, nat_lt, not, option_map, option_to_list}
use Rattle.std.specs.Prelude.{position, slice_get, unsigned_abs}
use Rattle.std.specs.List.{filter, find, list_all, list_any, position_or_len, range_with_len}
use Rattle.std.specs.Int.Signed.{le_z, lt_z}
use Rattle.std.specs.Ordering.{int_eq}
use Rattle.std.proofs.lemmas.Bool.{and_parts, cases_lt, lt-ltb, ltb-true, or_left, or_right}
use Rattle.std.proofs.lemmas.Int.{ints}
use Rattle.std.proofs.lemmas.List.{length-map}
use Rattle.vc_base.proofs.ListLaws.{number_exact, number_itself}
use Rattle.vc_base.proofs.SetLaws.{both, same_test}
use Rattle.vc_value.specs.Grains.{has_decimals, holds, is_ascending, is_below, is_ordered}
use Rattle.vc_value.specs.declared.decimal.Dec.{Dec}
use Rattle.vc_value.specs.declared.grains.Grain.{Grain}
use Rattle.vc_value.specs.declared.table_header.Domain.{Domain}
use Rattle.vc_value.specs.declared.table_header.Domain.TheVariants.{Texts, Nums}
use Rattle.vc_value.specs.declared.value.Value.{Value}
use Rattle.vc_value.specs.declared.value.Value.TheVariants.{Num, Text}
use Rattle.vc_plan.specs.declared.conditions.Piece.{Piece}
use Rattle.vc_plan.specs.declared.conditions.Piece.TheVariants.{OneText, Stretch}
use Rattle.vc_plan.specs.declared.conditions.Relation.{Relation}
use Rattle.vc_plan.specs.declared.conditions.Relation.TheVariants.{Equal}
use Rattle.vc_plan.specs.declared.plans.Plan.{Plan}
use Rattle.vc_plan.specs.declared.plans.Var.{Var}
use Rattle.vc_plan.specs.Alike.{is_proper}
use Rattle.vc_plan.specs.Domains.{atom_count, domain_of, grains_in, is_grain_with, numbers_below, passes}
use Rattle.vc_plan.specs.Orders.{are_apart}
use Rattle.vc_plan.specs.Pieces.{is_inside, lies_in}
use Rattle.vc_plan_values.proofs.TermLemmas.{PassesIf, all_get}
use Rattle.vc_rule_grains.specs.Finding.{grain_in, PassesOnly}
use Rattle.vc_plan_values.specs.Values.{stored_value}
use Rattle.vc_plan_values.proofs.GrainLemmas.{count_within}
use Rattle.vc_plan_values.proofs.StoredLemmas.{stored_is}

find_from : (p : ℕ → Bool) (g n m : ℕ) → n - g ≡ suc m
    → find p (range_with_len g (n - g)) ≡ cond (p g) (Some g) (find p (range_with_len (g + 1) m))
find_from p g n m e = ap (λ k. find p (range_with_len g k)) e

pub find_next : (p : ℕ → Bool) (g n : ℕ) → g < n → p g ≡ false
    → find p (range_with_len g (n - g)) ≡ find p (range_with_len (g + 1) (n - (g + 1)))
find_next p g n below e =
    find_from p g n (n - (g + 1)) (omega (arith, below))
    ∙ ap (λ b. cond b (Some g) (find p (range_with_len (g + 1) (n - (g + 1))))) e

pub find_here : (p : ℕ → Bool) (g n : ℕ) → g < n → p g ≡ true → find p (range_with_len g (n - g)) ≡ Some g
find_here p g n below e =
    find_from p g n (n - (g + 1)) (omega (arith, below))
    ∙ ap (λ b. cond b (Some g) (find p (range_with_len (g + 1) (n - (g + 1))))) e

pub find_ends : (p : ℕ → Bool) (g n : ℕ) → n ≤ g → find p (range_with_len g (n - g)) ≡ None
find_ends p g n past =
    let none : n - g ≡ 0 = omega (arith, past) in
    ap (λ k. find p (range_with_len g k)) none

-- how the first is found
pub ruleset finding = (find_next, find_here, find_ends)

-- a number has no grain among texts, and a text none among numbers
nowhere : (p : ℕ → Bool) (a n : ℕ) → ((g : ℕ) → p g ≡ false) → find p (range_with_len a n) ≡ None
nowhere p a zero fails = refl
nowhere p a (suc n) fails =
    ap (λ b. cond b (Some a) (find p (range_with_len (a + 1) n))) (fails a) ∙ nowhere p (a + 1) n fails

number_fails : (n : Dec) (texts : List ℕ) (g : ℕ) → passes (lies_in (Num n)) (slice_get (map OneText texts) g) ≡ false
number_fails n [] g = refl
number_fails n (text ∷ texts) zero = refl
number_fails n (text ∷ texts) (suc g) = number_fails n texts g

text_fails : (t : ℕ) (grains : List Grain) (g : ℕ)
    → passes (lies_in (Text t)) (slice_get (map Stretch grains) g) ≡ false
text_fails t [] g = refl
text_fails t (grain ∷ grains) zero = refl
text_fails t (grain ∷ grains) (suc g) = text_fails t grains g

pub no_number : (texts : List ℕ) (n : Dec) → None ≡ grain_in (map OneText texts) (Num n)
no_number texts n =
    sym (nowhere (λ g. passes (lies_in (Num n)) (slice_get (map OneText texts) g)) 0 (length (map OneText texts))
    (number_fails n texts))

pub no_text : (grains : List Grain) (t : ℕ) → None ≡ grain_in (map Stretch grains) (Text t)
no_text grains t =
    sym (nowhere (λ g. passes (lies_in (Text t)) (slice_get (map Stretch grains) g)) 0 (length (map Stretch grains))
    (text_fails t grains))

below_next : (k n : ℕ) → nat_lt k n ≡ nat_lt (1 + k) (suc n)
below_next k n =
    same_test (nat_lt k n) (nat_lt (1 + k) (suc n))
    (λ e. lt-ltb (1 + k) (suc n) (let low = ltb-true k n e in omega (arith, low)))
    (λ e. lt-ltb k n (let low = ltb-true (1 + k) (suc n) e in omega (arith, low)))

-- the first number whose element passes is that of the first element that does
abbrev passes_if : {X : Type 0} → (X → Bool) → Option X → Bool
passes_if test None = false
passes_if test (Some x) = test x

first_from : {X : Type 0} (test : X → Bool) (p : ℕ → Bool) (xs : List X) (a : ℕ)
    → ((g : ℕ) → p (a + g) ≡ passes_if test (slice_get xs g))
    → find p (range_with_len a (length xs))
    ≡ cond (nat_lt (position_or_len test xs) (length xs)) (Some (a + position_or_len test xs)) None
first_from test p [] a same = refl
first_from test p (x ∷ xs) a same =
    by (first_from test p xs (a + 1) (λ g. ap p (omega arith) ∙ same (suc g))) (test x)
    (ap p (sym (add-zero a)) ∙ same 0)
  where
    rest : Option ℕ
    rest = find p (range_with_len (a + 1) (length xs))

    later : ℕ
    later = position_or_len test xs

    shifted : cond (nat_lt later (length xs)) (Some ((a + 1) + later)) None
        ≡ cond (nat_lt (1 + later) (suc (length xs))) (Some (a + (1 + later))) None
    shifted =
        let moved : (a + 1) + later ≡ a + (1 + later) = omega arith in
        ap (λ m. cond (nat_lt later (length xs)) (Some m) None) moved
        ∙ ap (λ b. cond b (Some (a + (1 + later))) None) (below_next later (length xs))

    by : rest ≡ cond (nat_lt later (length xs)) (Some ((a + 1) + later)) None → (b : Bool) → p a ≡ b
        → cond (p a) (Some a) rest
        ≡ cond (nat_lt (cond (not b) (1 + later) 0) (suc (length xs))) (Some (a + cond (not b) (1 + later) 0)) None
    by after true e =
        ap (λ b. cond b (Some a) rest) e
        ∙ (ap Some (sym (add-zero a))
        ∙ ap (λ b. cond b (Some (a + 0)) None) (sym (lt-ltb 0 (suc (length xs)) (omega arith))))
    by after false e = ap (λ b. cond b (Some a) rest) e ∙ (after ∙ shifted)

first_is : {X : Type 0} (test : X → Bool) (p : ℕ → Bool) (xs : List X) (n : ℕ) → n ≡ length xs
    → ((g : ℕ) → p g ≡ passes_if test (slice_get xs g)) → position test xs ≡ find p (numbers_below n)
first_is test p xs n long same =
    sym (ap (λ k. find p (numbers_below k)) long
    ∙ (first_from test p xs 0 (λ g. ap p (omega arith) ∙ same g)
    ∙ ap (λ k. cond (nat_lt (position_or_len test xs) (length xs)) (Some k) None) (omega arith)))

pub number_found : (grains : List Grain) (n : Dec) → position (holds n) grains ≡ grain_in (map Stretch grains) (Num n)
number_found grains n =
    first_is (holds n) (λ g. passes (lies_in (Num n)) (slice_get (map Stretch grains) g)) grains
    (length (map Stretch grains)) (length-map grains Stretch) (same grains)
  where
    same : (grains : List Grain) (g : ℕ)
        → passes (lies_in (Num n)) (slice_get (map Stretch grains) g) ≡ passes_if (holds n) (slice_get grains g)
    same [] g = refl
    same (grain ∷ grains) zero = refl
    same (grain ∷ grains) (suc g) = same grains g

pub ruleset elsewhere = (no_number, no_text, number_found)

-- no two numbers pass
abbrev pub AtMostOne : (ℕ → Bool) → Type 0
AtMostOne p = (i j : ℕ) → p i ≡ true → p j ≡ true → i ≡ j

never_both : (b : Bool) → not b ≡ true → b ≡ true → ⊥
never_both true h k = absurd (cc)
never_both false h k = absurd (cc)

-- texts that are apart: no other is the same as the first
text_among : (s t : ℕ) (texts : List ℕ) (j : ℕ) → (s == t) ≡ true
    → passes (lies_in (Text t)) (slice_get (map OneText texts) j) ≡ true → list_any (λ u. s == u) texts ≡ true
text_among s t [] j e h = absurd (cc)
text_among s t (u ∷ texts) zero e h =
    or_left (s == u) (list_any (λ w. s == w) texts)
    (ap (λ n. n == u) (number_exact s t e) ∙ (ap (λ n. t == n) (number_exact u t h) ∙ number_itself t))
text_among s t (u ∷ texts) (suc j) e h =
    or_right (s == u) (list_any (λ w. s == w) texts) (text_among s t texts j e h)

text_once : (t : ℕ) (texts : List ℕ) → are_apart (λ s u. s == u) texts ≡ true
    → AtMostOne (λ g. passes (lies_in (Text t)) (slice_get (map OneText texts) g))
text_once t [] e i j h k = absurd (cc)
text_once t (s ∷ texts) e zero zero h k = refl
text_once t (s ∷ texts) e zero (suc j) h k =
    let parts = and_parts (not (list_any (λ u. s == u) texts)) (are_apart (λ s u. s == u) texts) e in
    absurd (never_both (list_any (λ u. s == u) texts) parts.0 (text_among s t texts j h k))
text_once t (s ∷ texts) e (suc i) zero h k =
    let parts = and_parts (not (list_any (λ u. s == u) texts)) (are_apart (λ s u. s == u) texts) e in
    absurd (never_both (list_any (λ u. s == u) texts) parts.0 (text_among s t texts i k h))
text_once t (s ∷ texts) e (suc i) (suc j) h k =
    let parts = and_parts (not (list_any (λ u. s == u) texts)) (are_apart (λ s u. s == u) texts) e in
    ap suc (text_once t texts parts.1 i j h k)

-- grains that ascend hold a number at most once
not_above : (n : Dec) (grain later : Grain) → holds n grain ≡ true
    → lt_z grain.high.millionths later.low.millionths ≡ true
    → holds n later ≡ false
not_above n grain later h k = grind (arith, ints)

none_above : (n : Dec) (grain : Grain) (grains : List Grain) (j : ℕ) → holds n grain ≡ true
    → list_all (λ later. is_below later.low grain) grains ≡ true
    → passes (lies_in (Num n)) (slice_get (map Stretch grains) j) ≡ true → ⊥
none_above n grain [] j h all k = absurd (cc)
none_above n grain (later ∷ grains) zero h all k =
    let parts = and_parts (is_below later.low grain) (list_all (λ l. is_below l.low grain) grains) all in
    both k (not_above n grain later h parts.0)
none_above n grain (later ∷ grains) (suc j) h all k =
    let parts = and_parts (is_below later.low grain) (list_all (λ l. is_below l.low grain) grains) all in
    none_above n grain grains j h parts.1 k

rises : (grain : Grain) (grains : List Grain) → is_ascending (grain ∷ grains) ≡ true
    → (list_all (λ later. is_below later.low grain) grains ≡ true) × (is_ascending grains ≡ true)
rises grain grains e =
    and_parts (list_all (λ later. is_below later.low grain) grains) (is_ascending grains)
    (and_parts (is_ordered grain) (list_all (λ later. is_below later.low grain) grains && is_ascending grains) e).1

number_once : (n : Dec) (grains : List Grain) → is_ascending grains ≡ true
    → AtMostOne (λ g. passes (lies_in (Num n)) (slice_get (map Stretch grains) g))
number_once n [] e i j h k = absurd (cc)
number_once n (grain ∷ grains) e zero zero h k = refl
number_once n (grain ∷ grains) e zero (suc j) h k =
    absurd (none_above n grain grains j h (rises grain grains e).0 k)
number_once n (grain ∷ grains) e (suc i) zero h k =
    absurd (none_above n grain grains i k (rises grain grains e).0 h)
number_once n (grain ∷ grains) e (suc i) (suc j) h k = ap suc (number_once n grains (rises grain grains e).1 i j h k)

-- so a value lies in one grain of a domain at most, and in one of a variable
once_in : (domain : Domain) (a : Value) → is_proper domain ≡ true
    → AtMostOne (λ g. passes (lies_in a) (slice_get (grains_in (Some domain)) g))
once_in (Texts texts) (Text t) e = text_once t texts e
once_in (Texts texts) (Num n) e = λ i j h k. absurd (both h (number_fails n texts i))
once_in (Nums decimals grains) (Text t) e = λ i j h k. absurd (both h (text_fails t grains i))
once_in (Nums decimals grains) (Num n) e =
    number_once n grains
    (and_parts (is_ascending grains)
    (list_all (λ grain. has_decimals decimals grain.low && has_decimals decimals grain.high) grains) e).0

pub once_of : (plan : Plan) (v : ℕ) (a : Value) → list_all is_proper plan.domains ≡ true
    → AtMostOne (is_grain_with plan v (lies_in a))
once_of plan v a proper = by (slice_get plan.vars v)
  where
    of_domain : (d : ℕ) (o : Option Domain) → slice_get plan.domains d ≡ o
        → AtMostOne (λ g. passes (lies_in a) (slice_get (grains_in o) g))
    of_domain d None e = λ i j h k. absurd (cc)
    of_domain d (Some domain) e =
        once_in domain a (subst (PassesIf is_proper) e (all_get is_proper plan.domains d proper))

    by : (o : Option Var) → AtMostOne (λ g. passes (lies_in a) (slice_get (grains_in (domain_of plan o)) g))
    by None = λ i j h k. absurd (cc)
    by (Some x) = of_domain x.domain (slice_get plan.domains x.domain) refl

-- where one passes at most, those that pass are the first
none_after : (p : ℕ → Bool) → AtMostOne p → (a b n : ℕ) → p a ≡ true → a < b → filter p (range_with_len b n) ≡ []
none_after p once a b zero e low = refl
none_after p once a b (suc n) e low = by (p b) refl (none_after p once a (b + 1) n e (omega (arith, low)))
  where
    by : (x : Bool) → p b ≡ x → filter p (range_with_len (b + 1) n) ≡ []
        → cond x (b ∷ filter p (range_with_len (b + 1) n)) (filter p (range_with_len (b + 1) n)) ≡ []
    by true k h = absurd (let same = once a b e k in omega (arith, same, low))
    by false k h = h

pub alone : (p : ℕ → Bool) → AtMostOne p → (a n : ℕ)
    → filter p (range_with_len a n) ≡ option_to_list (find p (range_with_len a n))
alone p once a zero = refl
alone p once a (suc n) = by (p a) refl (alone p once (a + 1) n)
  where
    by : (x : Bool) → p a ≡ x
        → filter p (range_with_len (a + 1) n) ≡ option_to_list (find p (range_with_len (a + 1) n))
        → cond x (a ∷ filter p (range_with_len (a + 1) n)) (filter p (range_with_len (a + 1) n))
        ≡ option_to_list (cond x (Some a) (find p (range_with_len (a + 1) n)))
    by true e h = ap (λ gs. a ∷ gs) (none_after p once a (a + 1) n e (omega arith))
    by false e h = h

-- the one that passes is the first, wherever it is found
found_once : (p : ℕ → Bool) → AtMostOne p → (a n g : ℕ) → a ≤ g → g < a + n → p g ≡ true
    → find p (range_with_len a n) ≡ Some g
found_once p once a zero g low high e = absurd (omega (arith, low, high))
found_once p once a (suc n) g low high e =
    by (p a) refl (λ above. found_once p once (a + 1) n g above (omega (arith, high)) e)
  where
    strictly : (a < g) ⊎ (g ≤ a) → ((a ≡ g) → ⊥) → a + 1 ≤ g
    strictly (inl h) apart = omega (arith, h)
    strictly (inr h) apart = absurd (apart (omega (arith, h, low)))

    by : (x : Bool) → p a ≡ x → (a + 1 ≤ g → find p (range_with_len (a + 1) n) ≡ Some g)
        → cond x (Some a) (find p (range_with_len (a + 1) n)) ≡ Some g
    by true k later = ap Some (once a g k e)
    by false k later = later (strictly (cases_lt a g) (λ same. both (ap p same ∙ e) k))

-- a text that stands at a number is in that grain alone
pub text_there : (texts : List ℕ) (t g : ℕ) → are_apart (λ s u. s == u) texts ≡ true
    → passes (lies_in (Text t)) (slice_get (map OneText texts) g) ≡ true
    → Some g ≡ grain_in (map OneText texts) (Text t)
text_there texts t g apart e =
    sym (found_once (λ n. passes (lies_in (Text t)) (slice_get (map OneText texts) n)) (text_once t texts apart) 0
    (length (map OneText texts)) g (omega arith) (inside (map OneText texts) g e) e)
  where
    inside : (pieces : List Piece) (n : ℕ) → passes (lies_in (Text t)) (slice_get pieces n) ≡ true
        → n < 0 + length pieces
    inside [] n h = absurd (cc)
    inside (x ∷ pieces) zero h = omega arith
    inside (x ∷ pieces) (suc n) h = let low = inside pieces n h in omega (arith, low)

-- what passes is among what passes another test
narrowed : (p q : ℕ → Bool) → ((g : ℕ) → p g ≡ true → q g ≡ true) → (gs : List ℕ)
    → filter p gs ≡ filter p (filter q gs)
narrowed p q within [] = refl
narrowed p q within (g ∷ gs) = by (p g) (q g) refl refl (narrowed p q within gs)
  where
    by : (x y : Bool) → p g ≡ x → q g ≡ y → filter p gs ≡ filter p (filter q gs)
        → cond x (g ∷ filter p gs) (filter p gs) ≡ filter p (cond y (g ∷ filter q gs) (filter q gs))
    by true true e f h =
        ap (λ ns. g ∷ ns) h
        ∙ ap (λ b. cond b (g ∷ filter p (filter q gs)) (filter p (filter q gs))) (sym e)
    by true false e f h = absurd (both (within g e) f)
    by false true e f h = h ∙ ap (λ b. cond b (g ∷ filter p (filter q gs)) (filter p (filter q gs))) (sym e)
    by false false e f h = h

-- what passes, where that holds a value of a variable: it is looked for in the grain of the value alone
pub only_there : (plan : Plan) (v : ℕ) (a : Value) (p : ℕ → Bool) (n : ℕ) (grain : Option ℕ)
    → list_all is_proper plan.domains ≡ true
    → ((g : ℕ) → p g ≡ true → is_grain_with plan v (lies_in a) g ≡ true)
    → grain ≡ find (is_grain_with plan v (lies_in a)) (numbers_below n)
    → filter p (option_to_list grain) ≡ filter p (numbers_below n)
only_there plan v a p n grain proper within e =
    ap (λ o. filter p (option_to_list o)) e
    ∙ sym (narrowed p (is_grain_with plan v (lies_in a)) within (numbers_below n)
    ∙ ap (filter p) (alone (is_grain_with plan v (lies_in a)) (once_of plan v a proper) 0 n))

-- what a test passes that passes one value alone
pub passes_only : (test : Piece → Bool) (a : Value) → PassesOnly test a → (o : Option Piece) → passes test o ≡ true
    → passes (lies_in a) o ≡ true
passes_only test a only None e = absurd (cc)
passes_only test a only (Some piece) e = only piece e

-- a domain of such a plan is proper
pub domain_proper : (plan : Plan) (d : ℕ) (domain : Domain) (domains : List Domain)
    → list_all is_proper plan.domains ≡ true → domains ≡ plan.domains → slice_get domains d ≡ Some domain
    → is_proper domain ≡ true
domain_proper plan d domain domains proper e h =
    subst (PassesIf is_proper) (ap (λ ds. slice_get ds d) (sym e) ∙ h) (all_get is_proper plan.domains d proper)

-- and has few grains where it is a variable's
pub domain_few : (plan : Plan) (v : ℕ) (x : Var) (domain : Domain) (vars : List Var) (domains : List Domain)
    → atom_count plan < 2 ^ 32 → vars ≡ plan.vars → domains ≡ plan.domains → slice_get vars v ≡ Some x
    → slice_get domains x.domain ≡ Some domain → length (grains_in (Some domain)) < 2 ^ 32
domain_few plan v x domain vars domains few e f h k =
    let at : slice_get plan.vars v ≡ Some x = ap (λ xs. slice_get xs v) (sym e) ∙ h in
    let is : slice_get plan.domains x.domain ≡ Some domain = ap (λ ds. slice_get ds x.domain) (sym f) ∙ k in
    let all : domain_of plan (slice_get plan.vars v) ≡ Some domain = ap (domain_of plan) at ∙ is in
    subst (λ o. length (grains_in o) < 2 ^ 32) all (count_within plan v few)

-- at `=` what is stored is all that passes
pub equal_only : (r : Relation) (a : Value) (o : Option Value) → r ≡ Equal → o ≡ stored_value a
    → IfSome o (PassesOnly (is_inside r a))
equal_only r a None e f = tt
equal_only r a (Some b) e f =
    subst (λ q. PassesOnly (is_inside q a) b) (sym e)
    (subst (PassesOnly (is_inside Equal a)) (stored_is a b (sym f)) (equals a))
  where
    within : (x a y : ℤ) → (int_eq x a && int_eq y a) ≡ true → (le_z x a && le_z a y) ≡ true
    within x a y h = grind (arith, ints)

    equals : (a : Value) → PassesOnly (is_inside Equal a) a
    equals (Text t) (OneText s) h = h
    equals (Text t) (Stretch grain) h = absurd (cc)
    equals (Num n) (OneText s) h = absurd (cc)
    equals (Num n) (Stretch grain) h = within grain.low.millionths n.millionths grain.high.millionths h
