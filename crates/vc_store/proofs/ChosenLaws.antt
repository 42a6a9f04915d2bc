-- Values that are given one after another are what is chosen by all of them.
use Rattle.std.proofs.Common.{◌≡◌, ℕ, zero, suc, ◌+◌, ◌<◌, ◌≤◌, Bool, true, false, cond, ◌&&◌, ◌||◌, List, [], ◌∷◌}
use Rattle.std.proofs.Common.{◌++◌}
use Rattle.std.proofs.Common.{length, map, refl, sym, ap, ap₂, ◌∙◌, arith, append_assoc, append-nil, inl, inr}
use Rattle.std.specs.Prelude.{◌==◌, Option, None, Some, is_some, slice_index_or, slice_set, slice_get, option_to_list}
use Rattle.std.specs.List.{flat_map, list_all, list_any, range_with_len}
use Rattle.std.proofs.lemmas.Bool.{cases_lt, eq-eqb, eqb-true, ne_eqb}
use Rattle.std.proofs.lemmas.Option.{slice_get_past}
use Rattle.vc_value.specs.declared.decimal.Dec.{Dec}
use Rattle.vc_value.specs.declared.value.Value.{Value}
use Rattle.vc_value.specs.declared.value.Value.TheVariants.{Num, Text}
use Rattle.vc_plan.specs.declared.plans.Named.{Named}
use Rattle.vc_plan.specs.declared.plans.Named.TheVariants.{Set, Var}
use Rattle.vc_plan.specs.declared.plans.Plan.{Plan}
use Rattle.vc_plan.specs.Domains.{domain_of_set, numbers_below, texts_in, texts_of}
use Rattle.vc_plan_users.specs.Choosing.{listed_at, marked, none_chosen, not_held, set_at}
use Rattle.vc_plan_users.specs.declared.users.SetText.{SetText}
use Rattle.vc_session.specs.Edits.{given}
use Rattle.vc_store.specs.Marking.{given_all}
use Rattle.vc_store.specs.Meaning.{Given, chosen_by, is_text_of, or_value, text_given, value_given, var_value}

-- a list over a range of numbers in which one element is set
same_range : {X : Type 0} (f g : ℕ → X) (a n : ℕ) → ((j : ℕ) → a ≤ j → f j ≡ g j)
    → map f (range_with_len a n) ≡ map g (range_with_len a n)
same_range f g a zero same = refl
same_range f g a (suc n) same =
    ap₂ (λ x xs. x ∷ xs) (same a (omega arith)) (same_range f g (a + 1) n (λ j h. same j (omega (arith, h))))

set_range : {X : Type 0} (f g : ℕ → X) (a n k : ℕ) (x : X) → g (a + k) ≡ x
    → ((j : ℕ) → (j ≡ a + k → ⊥) → f j ≡ g j)
    → slice_set (map f (range_with_len a n)) k x ≡ map g (range_with_len a n)
set_range f g a zero k x at other = refl
set_range f g a (suc n) zero x at other =
    let here : a + 0 ≡ a = omega arith in
    ap₂ (λ y ys. y ∷ ys) (sym at ∙ ap g here)
    (same_range f g (a + 1) n (λ j h. other j (λ e. omega (arith, h, e))))
set_range f g a (suc n) (suc k) x at other =
    let next : a + suc k ≡ (a + 1) + k = omega arith in
    ap₂ (λ y ys. y ∷ ys) (other a (λ e. omega (arith, e)))
    (set_range f g (a + 1) n k x (sym (ap g next) ∙ at) (λ j h. other j (λ e. h (omega (arith, e)))))

-- one value more
or_none : (o : Option Value) → or_value o None ≡ o
or_none None = refl
or_none (Some a) = refl

or_assoc : (x y z : Option Value) → or_value (or_value x y) z ≡ or_value x (or_value y z)
or_assoc None y z = refl
or_assoc (Some a) y z = refl

value_more : (gs : List Given) (g : Given) (v : ℕ)
    → value_given (gs ++ g ∷ []) v ≡ or_value (var_value v g.named g.value) (value_given gs v)
value_more [] g v = sym (or_none (var_value v g.named g.value))
value_more (h ∷ gs) g v =
    ap (λ o. or_value o (var_value v h.named h.value)) (value_more gs g v)
    ∙ or_assoc (var_value v g.named g.value) (value_given gs v) (var_value v h.named h.value)

any_more : (p : Given → Bool) (gs : List Given) (g : Given) → list_any p (gs ++ g ∷ []) ≡ (p g || list_any p gs)
any_more p [] g = refl
any_more p (h ∷ gs) g = ap (λ b. p h || b) (any_more p gs g) ∙ turned (p h) (p g) (list_any p gs)
  where
    turned : (a b c : Bool) → (a || (b || c)) ≡ (b || (a || c))
    turned true true c = refl
    turned true false c = refl
    turned false true c = refl
    turned false false c = refl

-- a variable's value is given
var_given : (plan : Plan) (gs : List Given) (v : ℕ) (a : Value)
    → given (chosen_by plan gs) (Var v) a ≡ chosen_by plan (gs ++ record { named = Var v; value = a } ∷ [])
var_given plan gs v a = ap₂ (λ vs ss. record { values = vs; sets = ss }) values sets
  where
    g : Given
    g = record { named = Var v; value = a }

    at : value_given (gs ++ g ∷ []) v ≡ Some a
    at = value_more gs g v ∙ ap (λ b. or_value (cond b (Some a) None) (value_given gs v)) (eq-eqb v v refl)

    other : (j : ℕ) → (j ≡ 0 + v → ⊥) → value_given gs j ≡ value_given (gs ++ g ∷ []) j
    other j h =
        sym (value_more gs g j
        ∙ ap (λ b. or_value (cond b (Some a) None) (value_given gs j)) (ne_eqb v j (λ e. h (omega (arith, e)))))

    values : slice_set (map (value_given gs) (numbers_below (length plan.vars))) v (Some a)
        ≡ map (value_given (gs ++ g ∷ [])) (numbers_below (length plan.vars))
    values = let here : 0 + v ≡ v = omega arith in
        set_range (value_given gs) (value_given (gs ++ g ∷ [])) 0 (length plan.vars) v (Some a)
        (ap (value_given (gs ++ g ∷ [])) here ∙ at) other

    text_same : (s t : ℕ) → text_given gs s t ≡ text_given (gs ++ g ∷ []) s t
    text_same s t = ap (λ b. record { text = t; held = b })
        (sym (any_more (λ x. is_text_of s t x.named x.value) gs g))

    each : (s : ℕ) (ts : List ℕ) → map (text_given gs s) ts ≡ map (text_given (gs ++ g ∷ []) s) ts
    each s [] = refl
    each s (t ∷ ts) = ap₂ (λ x xs. x ∷ xs) (text_same s t) (each s ts)

    sets : map (λ s. map (text_given gs s) (texts_of plan s)) (numbers_below (length plan.sets))
        ≡ map (λ s. map (text_given (gs ++ g ∷ []) s) (texts_of plan s)) (numbers_below (length plan.sets))
    sets = same_range (λ s. map (text_given gs s) (texts_of plan s))
        (λ s. map (text_given (gs ++ g ∷ []) s) (texts_of plan s)) 0 (length plan.sets)
        (λ s h. each s (texts_of plan s))

-- an element of a list over a range, by its number
index_range : {X : Type 0} (f : ℕ → X) (a n k : ℕ) (d : X) → k < n
    → slice_index_or (map f (range_with_len a n)) k d ≡ f (a + k)
index_range f a zero k d low = absurd (omega (arith, low))
index_range f a (suc n) zero d low = let here : a ≡ a + 0 = omega arith in ap f here
index_range f a (suc n) (suc k) d low =
    let next : (a + 1) + k ≡ a + suc k = omega arith in
    index_range f (a + 1) n k d (omega (arith, low)) ∙ ap f next

index_beyond : {X : Type 0} (f : ℕ → X) (a n k : ℕ) (d : X) → n ≤ k
    → slice_index_or (map f (range_with_len a n)) k d ≡ d
index_beyond f a zero k d past = refl
index_beyond f a (suc n) zero d past = absurd (omega (arith, past))
index_beyond f a (suc n) (suc k) d past = index_beyond f (a + 1) n k d (omega (arith, past))

abbrev set_given : Plan → List Given → ℕ → List SetText
set_given plan gs s = map (text_given gs s) (texts_of plan s)

set_by : (plan : Plan) (gs : List Given) (s : ℕ) → set_at (chosen_by plan gs) s ≡ set_given plan gs s
set_by plan gs s = elim (cases_lt s (length plan.sets)) [
  | inl low ↦
      let here : 0 + s ≡ s = omega arith in
      index_range (set_given plan gs) 0 (length plan.sets) s [] low ∙ ap (set_given plan gs) here
  | inr past ↦
      index_beyond (set_given plan gs) 0 (length plan.sets) s [] past
      ∙ sym (ap (λ x. map (text_given gs s) (texts_in (domain_of_set plan x))) (slice_get_past plan.sets s past))
]

-- a text that is held or not
abbrev marked_as : ℕ → Bool → SetText
marked_as u b = record { text = u; held = b }

-- a text is given to a set
set_text_given : (plan : Plan) (gs : List Given) (s t : ℕ)
    → given (chosen_by plan gs) (Set s) (Text t) ≡ chosen_by plan (gs ++ record { named = Set s; value = Text t } ∷ [])
set_text_given plan gs s t = ap₂ (λ vs ss. record { values = vs; sets = ss }) values sets
  where
    g : Given
    g = record { named = Set s; value = Text t }

    values : map (value_given gs) (numbers_below (length plan.vars))
        ≡ map (value_given (gs ++ g ∷ [])) (numbers_below (length plan.vars))
    values = same_range (value_given gs) (value_given (gs ++ g ∷ [])) 0 (length plan.vars)
        (λ j h. sym (value_more gs g j))

    any : ℕ → ℕ → Bool
    any r u = list_any (λ x. is_text_of r u x.named x.value) gs

    here : (u : ℕ) (b : Bool) → (u == t) ≡ b
        → cond b ((marked_as u true)) ((marked_as u (any s u)))
        ≡ (marked_as u (((s == s) && (t == u)) || any s u))
    here u true e =
        let same : t ≡ u = sym (eqb-true u t e) in
        ap (marked_as u)
        (sym (ap₂ (λ (a b : Bool). (a && b) || any s u) (eq-eqb s s refl) (eq-eqb t u same)))
    here u false e =
        ap (marked_as u)
        (sym (ap₂ (λ (a b : Bool). (a && b) || any s u) (eq-eqb s s refl)
        (ne_eqb t u (λ same. let wrong : true ≡ false = sym (eq-eqb u t (sym same)) ∙ e in absurd (cc)))))

    more : (r u : ℕ) → text_given (gs ++ g ∷ []) r u ≡ (marked_as u (((s == r) && (t == u)) || any r u))
    more r u = ap (marked_as u) (any_more (λ x. is_text_of r u x.named x.value) gs g)

    marked_texts : (us : List ℕ) → map (marked t true) (map (text_given gs s) us) ≡ map (text_given (gs ++ g ∷ []) s) us
    marked_texts [] = refl
    marked_texts (u ∷ us) = ap₂ (λ x xs. x ∷ xs) (here u (u == t) refl ∙ sym (more s u)) (marked_texts us)

    other_texts : (r : ℕ) → (s == r) ≡ false → (us : List ℕ)
        → map (text_given gs r) us ≡ map (text_given (gs ++ g ∷ []) r) us
    other_texts r e [] = refl
    other_texts r e (u ∷ us) = ap₂ (λ x xs. x ∷ xs)
        (sym (more r u ∙ ap (λ b. marked_as u ((b && (t == u)) || any r u)) e)) (other_texts r e us)

    sets : slice_set (map (set_given plan gs) (numbers_below (length plan.sets))) s
        (map (marked t true) (set_at (chosen_by plan gs) s))
        ≡ map (set_given plan (gs ++ g ∷ [])) (numbers_below (length plan.sets))
    sets =
        let start : 0 + s ≡ s = omega arith in
        set_range (set_given plan gs) (set_given plan (gs ++ g ∷ [])) 0 (length plan.sets) s
        (map (marked t true) (set_at (chosen_by plan gs) s))
        (ap (set_given plan (gs ++ g ∷ [])) start
        ∙ sym (ap (map (marked t true)) (set_by plan gs s) ∙ marked_texts (texts_of plan s)))
        (λ j h. other_texts j (ne_eqb s j (λ e. h (omega (arith, e)))) (texts_of plan j))

-- a number is given to no set
set_number_given : (plan : Plan) (gs : List Given) (s : ℕ) (a : Dec)
    → chosen_by plan gs ≡ chosen_by plan (gs ++ record { named = Set s; value = Num a } ∷ [])
set_number_given plan gs s a = ap₂ (λ vs ss. record { values = vs; sets = ss }) values sets
  where
    g : Given
    g = record { named = Set s; value = Num a }

    values : map (value_given gs) (numbers_below (length plan.vars))
        ≡ map (value_given (gs ++ g ∷ [])) (numbers_below (length plan.vars))
    values = same_range (value_given gs) (value_given (gs ++ g ∷ [])) 0 (length plan.vars)
        (λ j h. sym (value_more gs g j))

    texts : (r : ℕ) (us : List ℕ) → map (text_given gs r) us ≡ map (text_given (gs ++ g ∷ []) r) us
    texts r [] = refl
    texts r (u ∷ us) = ap₂ (λ x xs. x ∷ xs)
        (ap (marked_as u) (sym (any_more (λ x. is_text_of r u x.named x.value) gs g)))
        (texts r us)

    sets : map (set_given plan gs) (numbers_below (length plan.sets))
        ≡ map (set_given plan (gs ++ g ∷ [])) (numbers_below (length plan.sets))
    sets = same_range (set_given plan gs) (set_given plan (gs ++ g ∷ [])) 0 (length plan.sets)
        (λ j h. texts j (texts_of plan j))

one_given : (plan : Plan) (gs : List Given) (named : Named) (a : Value)
    → given (chosen_by plan gs) named a ≡ chosen_by plan (gs ++ record { named = named; value = a } ∷ [])
one_given plan gs (Var v) a = var_given plan gs v a
one_given plan gs (Set s) (Text t) = set_text_given plan gs s t
one_given plan gs (Set s) (Num a) = set_number_given plan gs s a

-- all of them, one after another
abbrev pub known : List (Option Given) → List Given
known ms = flat_map option_to_list ms

all_given : (plan : Plan) (gs : List Given) (ms : List (Option Given))
    → given_all (chosen_by plan gs) ms
    ≡ cond (list_all (λ m. is_some m) ms) (Some (chosen_by plan (gs ++ known ms))) None
all_given plan gs [] = ap (λ hs. Some (chosen_by plan hs)) (sym (append-nil gs))
all_given plan gs (None ∷ ms) = refl
all_given plan gs (Some g ∷ ms) =
    ap (λ chosen. given_all chosen ms) (one_given plan gs g.named g.value)
    ∙ all_given plan (gs ++ g ∷ []) ms
    ∙ ap (λ hs. cond (list_all (λ m. is_some m) ms) (Some (chosen_by plan hs)) None)
    (append_assoc gs (g ∷ []) (known ms))

-- nothing is given at first
range_map : {X Y : Type 0} (f : ℕ → Y) (h : X → Y) (a : ℕ) (xs : List X)
    → ((k : ℕ) (x : X) → slice_get xs k ≡ Some x → f (a + k) ≡ h x) → map f (range_with_len a (length xs)) ≡ map h xs
range_map f h a [] same = refl
range_map f h a (x ∷ xs) same =
    let here : a ≡ a + 0 = omega arith in
    ap₂ (λ y ys. y ∷ ys) (ap f here ∙ same 0 x refl) (range_map f h (a + 1) xs (λ k y e.
    let next : (a + 1) + k ≡ a + suc k = omega arith in ap f next ∙ same (suc k) y e))

none_given : (plan : Plan) → chosen_by plan [] ≡ none_chosen plan
none_given plan = ap₂ (λ vs ss. record { values = vs; sets = ss })
    (range_map (value_given []) (λ x. None) 0 plan.vars (λ k x e. refl))
    (range_map (set_given plan []) (listed_at plan) 0 plan.sets (λ k x e.
    let here : 0 + k ≡ k = omega arith in
    ap (set_given plan []) here ∙ ap (λ o. map not_held (texts_in (domain_of_set plan o))) e))

pub all_given_is : (plan : Plan) (ms : List (Option Given))
    → given_all (none_chosen plan) ms ≡ cond (list_all (λ m. is_some m) ms) (Some (chosen_by plan (known ms))) None
all_given_is plan ms = ap (λ chosen. given_all chosen ms) (sym (none_given plan)) ∙ all_given plan [] ms
