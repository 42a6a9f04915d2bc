-- Where the deciding variables have the same values, the condition is as true.
use Rattle.std.proofs.Common.{◌≡◌, ℕ, Bool, true, false, not, List, [], ◌∷◌, ◌++◌, refl, ◌∙◌, ap, inl, inr}
use Rattle.std.specs.Prelude.{slice_get, nat_eq, Option, None, Some, option_map}
use Rattle.std.specs.List.{list_all}
use Rattle.std.proofs.lemmas.Bool.{and_parts, and_from}
use Rattle.vc_base.specs.Sets.{Within}
use Rattle.vc_base.proofs.SetLaws.{has_either, has_front, has_back}
use Rattle.vc_plan.specs.declared.conditions.Condition.{Condition}
use Rattle.vc_plan.specs.declared.conditions.Condition.TheVariants.{Always, Compared, IsIn, Specified, Holds, Filled}
use Rattle.vc_plan.specs.declared.conditions.Condition.TheVariants.{Not', And', Or'}
use Rattle.vc_plan.specs.declared.conditions.Kleene.{Kleene}
use Rattle.vc_plan.specs.declared.conditions.Kleene.TheVariants.{True, False, Unknown}
use Rattle.vc_plan.specs.declared.terms.Term.{Term}
use Rattle.vc_plan.specs.declared.terms.Term.TheVariants.{Literal, Read, PartSum, PartCount, Applied', Joined'}
use Rattle.vc_plan.specs.Kleene.{truth_of, is_true, is_false, kleene_not, kleene_and, kleene_or}
use Rattle.vc_plan.specs.Numbers.{applied, joined}
use Rattle.vc_plan.specs.Readings.{net_reading}
use Rattle.vc_plan.specs.Reads.{vars_in, vars_read}
use Rattle.vc_plan.specs.Seen.{Seen}
use Rattle.vc_plan.specs.Truth.{number, number_of_value, value_of_number, term_value, compared, is_in, specified, truth}
use Rattle.vc_plan.specs.Truth.{truth_in, truth_at}
use Rattle.vc_base.proofs.ListLaws.{number_exact, number_itself}
use Rattle.vc_rule_premises.specs.Citing.{deciding_if}
use Rattle.vc_rule_premises.specs.Deciding.{both_or_first, deciding, SameValues}
use Rattle.vc_rule_premises.specs.Laws.{DecidingSuffices, DecidingIsRead, ActingSuffices}

-- the same values of two lists together are those of each
same_front : (t s : Seen) (vs ws : List ℕ) → SameValues t s (vs ++ ws) → SameValues t s vs
same_front t s [] ws h = tt
same_front t s (v ∷ vs) ws h = (h.0, same_front t s vs ws h.1)

same_back : (t s : Seen) (vs ws : List ℕ) → SameValues t s (vs ++ ws) → SameValues t s ws
same_back t s [] ws h = h
same_back t s (v ∷ vs) ws h = same_back t s vs ws h.1

-- a term has the same number, and the same value
pub number_same : (t s : Seen) (a : Term) → SameValues t s (vars_in a)
    → number (net_reading t) a ≡ number (net_reading s) a
number_same t s (Literal a) h = refl
number_same t s (Read v) h = ap number_of_value h.0
number_same t s (PartSum slot characteristic) h = refl
number_same t s (PartCount slot) h = refl
number_same t s (Applied' function p a) h = ap (option_map (applied function)) (number_same t s a h)
number_same t s (Joined' operator p a q b) h =
    let left = number_same t s a (same_front t s (vars_in a) (vars_in b) h) in
    let right = number_same t s b (same_back t s (vars_in a) (vars_in b) h) in
    ap (λ x. joined operator x (number (net_reading t) b)) left ∙ ap (joined operator (number (net_reading s) a)) right

pub value_same : (t s : Seen) (a : Term) → SameValues t s (vars_in a)
    → term_value (net_reading t) a ≡ term_value (net_reading s) a
value_same t s (Literal a) h = refl
value_same t s (Read v) h = h.0
value_same t s (PartSum slot characteristic) h = refl
value_same t s (PartCount slot) h = refl
value_same t s (Applied' function p a) h = ap value_of_number (number_same t s (Applied' function p a) h)
value_same t s (Joined' operator p a q b) h = ap value_of_number (number_same t s (Joined' operator p a q b) h)

-- what a NOT, an AND and an OR are by
not_by : (so : Bool) (k : Kleene) → kleene_not k ≡ truth_of so → k ≡ truth_of (not so)
not_by true True e = absurd (cc)
not_by true False e = refl
not_by true Unknown e = absurd (cc)
not_by false True e = refl
not_by false False e = absurd (cc)
not_by false Unknown e = absurd (cc)

not_from : (so : Bool) (k : Kleene) → k ≡ truth_of (not so) → kleene_not k ≡ truth_of so
not_from true k e = ap kleene_not e
not_from false k e = ap kleene_not e

and_true : (k l : Kleene) → kleene_and k l ≡ True → (k ≡ True) × (l ≡ True)
and_true True l e = (refl, e)
and_true False l e = absurd (cc)
and_true Unknown True e = absurd (cc)
and_true Unknown False e = absurd (cc)
and_true Unknown Unknown e = absurd (cc)

and_false : (k l : Kleene) → kleene_and k l ≡ False → is_false k ≡ false → l ≡ False
and_false True l e n = e
and_false False l e n = absurd (cc)
and_false Unknown True e n = absurd (cc)
and_false Unknown False e n = refl
and_false Unknown Unknown e n = absurd (cc)

and_false_back : (k l : Kleene) → l ≡ False → kleene_and k l ≡ False
and_false_back True l e = e
and_false_back False l e = refl
and_false_back Unknown l e = ap (kleene_and Unknown) e

or_false : (k l : Kleene) → kleene_or k l ≡ False → (k ≡ False) × (l ≡ False)
or_false True l e = absurd (cc)
or_false False l e = (refl, e)
or_false Unknown True e = absurd (cc)
or_false Unknown False e = absurd (cc)
or_false Unknown Unknown e = absurd (cc)

or_true : (k l : Kleene) → kleene_or k l ≡ True → is_true k ≡ false → l ≡ True
or_true True l e n = absurd (cc)
or_true False l e n = e
or_true Unknown True e n = refl
or_true Unknown False e n = absurd (cc)
or_true Unknown Unknown e n = absurd (cc)

or_true_back : (k l : Kleene) → l ≡ True → kleene_or k l ≡ True
or_true_back True l e = refl
or_true_back False l e = e
or_true_back Unknown l e = ap (kleene_or Unknown) e

is_false_is : (k : Kleene) → is_false k ≡ true → k ≡ False
is_false_is True e = absurd (cc)
is_false_is False e = refl
is_false_is Unknown e = absurd (cc)

is_true_is : (k : Kleene) → is_true k ≡ true → k ≡ True
is_true_is True e = refl
is_true_is False e = absurd (cc)
is_true_is Unknown e = absurd (cc)

-- an AND that is so, by what makes its sides so: k and l here, m and n there
and_back : (t s : Seen) (so first : Bool) (k l m n : Kleene) (xs ys : List ℕ) → is_false k ≡ first
    → kleene_and k l ≡ truth_of so
    → SameValues t s (both_or_first so first xs ys) → (k ≡ truth_of so → SameValues t s xs → m ≡ truth_of so)
    → (l ≡ truth_of so → SameValues t s ys → n ≡ truth_of so) → kleene_and m n ≡ truth_of so
and_back t s true first k l m n xs ys i e h f g =
    let both = and_true k l e in
    let left = f both.0 (same_front t s xs ys h) in
    let right = g both.1 (same_back t s xs ys h) in
    ap (λ x. kleene_and x n) left ∙ right
and_back t s false true k l m n xs ys i e h f g = ap (λ x. kleene_and x n) (f (is_false_is k i) h)
and_back t s false false k l m n xs ys i e h f g = and_false_back m n (g (and_false k l e i) h)

or_back : (t s : Seen) (so first : Bool) (k l m n : Kleene) (xs ys : List ℕ) → is_true k ≡ first
    → kleene_or k l ≡ truth_of so
    → SameValues t s (both_or_first (not so) first xs ys) → (k ≡ truth_of so → SameValues t s xs → m ≡ truth_of so)
    → (l ≡ truth_of so → SameValues t s ys → n ≡ truth_of so) → kleene_or m n ≡ truth_of so
or_back t s false first k l m n xs ys i e h f g =
    let both = or_false k l e in
    let left = f both.0 (same_front t s xs ys h) in
    let right = g both.1 (same_back t s xs ys h) in
    ap (λ x. kleene_or x n) left ∙ right
or_back t s true true k l m n xs ys i e h f g = ap (λ x. kleene_or x n) (f (is_true_is k i) h)
or_back t s true false k l m n xs ys i e h f g = or_true_back m n (g (or_true k l e i) h)

unknown_told : (so : Bool) → Unknown ≡ truth_of so → ⊥
unknown_told true e = cc
unknown_told false e = cc

pub deciding_suffices : DecidingSuffices
deciding_suffices s t so Always e h = e
deciding_suffices s t so (Compared r a b) e h =
    let left = value_same t s a (same_front t s (vars_in a) (vars_in b) h) in
    let right = value_same t s b (same_back t s (vars_in a) (vars_in b) h) in
    ap (λ x. compared r x (term_value (net_reading t) b)) left
    ∙ (ap (compared r (term_value (net_reading s) a)) right ∙ e)
deciding_suffices s t so (IsIn v pieces) e h = ap (is_in pieces) h.0 ∙ e
deciding_suffices s t so (Specified v) e h = ap (specified Unknown) h.0 ∙ e
deciding_suffices s t so (Holds set text) e h = absurd (unknown_told so e)
deciding_suffices s t so (Filled set) e h = absurd (unknown_told so e)
deciding_suffices s t so (Not' p c) e h =
    not_from so (truth (net_reading t) c) (deciding_suffices s t (not so) c (not_by so (truth (net_reading s) c) e) h)
deciding_suffices s t so (And' p c q d) e h =
    and_back t s so (is_false (truth (net_reading s) c)) (truth (net_reading s) c) (truth (net_reading s) d)
    (truth (net_reading t) c) (truth (net_reading t) d)
    (deciding (net_reading s) so c) (deciding (net_reading s) so d) refl e h (deciding_suffices s t so c)
    (deciding_suffices s t so d)
deciding_suffices s t so (Or' p c q d) e h =
    or_back t s so (is_true (truth (net_reading s) c)) (truth (net_reading s) c) (truth (net_reading s) d)
    (truth (net_reading t) c) (truth (net_reading t) d)
    (deciding (net_reading s) so c) (deciding (net_reading s) so d) refl e h (deciding_suffices s t so c)
    (deciding_suffices s t so d)

-- what decides is read: two parts within two lists are within both together
parts_within : (both first : Bool) (xs ys vs ws : List ℕ) → Within nat_eq xs vs → Within nat_eq ys ws
    → Within nat_eq (both_or_first both first xs ys) (vs ++ ws)
parts_within true first xs ys vs ws f g a h =
    elim (has_either nat_eq number_exact number_itself xs ys a h) [
      | inl p ↦ has_front nat_eq number_exact number_itself vs ws a (f a p)
      | inr p ↦ has_back nat_eq number_exact number_itself vs ws a (g a p)
    ]
parts_within false true xs ys vs ws f g a h = has_front nat_eq number_exact number_itself vs ws a (f a h)
parts_within false false xs ys vs ws f g a h = has_back nat_eq number_exact number_itself vs ws a (g a h)

pub deciding_is_read : DecidingIsRead
deciding_is_read s so Always a h = h
deciding_is_read s so (Compared r x y) a h = h
deciding_is_read s so (IsIn v pieces) a h = h
deciding_is_read s so (Specified v) a h = h
deciding_is_read s so (Holds set text) a h = h
deciding_is_read s so (Filled set) a h = h
deciding_is_read s so (Not' p c) a h = deciding_is_read s (not so) c a h
deciding_is_read s so (And' p c q d) a h =
    parts_within so (is_false (truth (net_reading s) c)) (deciding (net_reading s) so c) (deciding (net_reading s) so d)
    (vars_read c) (vars_read d)
    (deciding_is_read s so c) (deciding_is_read s so d) a h
deciding_is_read s so (Or' p c q d) a h =
    parts_within (not so) (is_true (truth (net_reading s) c)) (deciding (net_reading s) so c)
    (deciding (net_reading s) so d) (vars_read c) (vars_read d)
    (deciding_is_read s so c) (deciding_is_read s so d) a h

condition_suffices : (s t : Seen) (o : Option Condition) → is_true (truth_in (net_reading s) o) ≡ true
    → SameValues t s (deciding_if s o)
    → is_true (truth_in (net_reading t) o) ≡ true
condition_suffices s t None e h = e
condition_suffices s t (Some c) e h =
    ap is_true (deciding_suffices s t true c (is_true_is (truth (net_reading s) c) e) h)

pub acting_suffices : ActingSuffices
acting_suffices plan s t rule e here same =
    let both : (list_all s.here rule.slots ≡ true) × (is_true (truth_at plan (net_reading s) rule.condition) ≡ true) =
    and_parts (list_all s.here rule.slots) (is_true (truth_at plan (net_reading s) rule.condition)) e in
    and_from (list_all t.here rule.slots) (is_true (truth_at plan (net_reading t) rule.condition)) here
    (condition_suffices s t (slice_get plan.conditions rule.condition) both.1 same)
