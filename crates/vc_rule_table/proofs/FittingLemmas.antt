-- What is asked of a cell in constant time or by halves is what the grains say.
use Rattle.std.proofs.Common.{◌≡◌, ℕ, zero, suc, ◌+◌, ◌<◌, ◌≤◌, Bool, true, false, not, ◌&&◌, ◌||◌, List, [], ◌∷◌}
use Rattle.std.proofs.Common.{length}
use Rattle.std.proofs.Common.{map, get_or, refl, sym, ◌∙◌, ap, inl, inr, arith}
use Rattle.std.specs.Prelude.{cond, Option, None, Some, option_map, position, pos, slice_get, slice_set, ◌==◌}
use Rattle.std.specs.List.{list_any, position_or_len, range_with_len}
use Rattle.std.specs.Int.Signed.{lt_z}
use Rattle.std.proofs.lemmas.Bool.{and_parts, and_from, cases_lt, eqb-true, eqb-false, or_left, or_right}
use Rattle.std.proofs.lemmas.Bool.Decides.{nat_tests}
use Rattle.std.proofs.lemmas.Int.{ints}
use Rattle.std.proofs.lemmas.List.{length-map}
use Rattle.std.proofs.lemmas.List.Folds.{list_any_at}
use Rattle.std.proofs.lemmas.List.Quantifiers.{position-Some}
use Rattle.std.proofs.lemmas.Option.{get_or_from_slice_get, same_Some, slice_get-get_or, slice_get-map}
use Rattle.std.proofs.lemmas.Option.{slice_get_within}
use Rattle.vc_base.proofs.SetLaws.{both, told}
use Rattle.vc_value.specs.Grains.{holds, interval, is_ascending}
use Rattle.vc_value.specs.declared.decimal.Dec.{Dec}
use Rattle.vc_value.specs.declared.grains.Grain.{Grain}
use Rattle.vc_value.specs.declared.value.Value.{Value}
use Rattle.vc_value.specs.declared.value.Value.TheVariants.{Num, Text}
use Rattle.vc_value.proofs.GrainLemmas.{ascending_at}
use Rattle.vc_plan.specs.declared.conditions.Piece.{Piece}
use Rattle.vc_plan.specs.declared.conditions.Piece.TheVariants.{OneText, Stretch}
use Rattle.vc_plan.specs.declared.plans.Plan.{Plan}
use Rattle.vc_plan.specs.declared.rules.Operand.TheVariants.{Variable}
use Rattle.vc_plan.specs.Domains.{numbers_below, grains_of, count_of, passes, is_grain_with}
use Rattle.vc_plan.specs.Pieces.{lies_in, lies_in_some}
use Rattle.vc_plan.specs.Seen.{Seen, is_left, is_left_by}
use Rattle.vc_plan.specs.TableRows.{fits}
use Rattle.vc_rule_table.specs.Cells.{grain_holds, has_left_among, left_among}
use Rattle.vc_rule_table.specs.Fitting.{TellsFirst, TellsLeft, holds_both, is_left_at, is_text, with_left}
use Rattle.vc_rule_table.proofs.CellLemmas.{any_after}

pub and_turned : (a b : Bool) → (a && b) ≡ (b && a)
and_turned true true = refl
and_turned true false = refl
and_turned false true = refl
and_turned false false = refl

pub any_same : {A : Type 0} (p q : A → Bool) → ((x : A) → p x ≡ q x) → (xs : List A) → list_any p xs ≡ list_any q xs
any_same p q same [] = refl
any_same p q same (x ∷ xs) =
    ap (λ b. b || list_any p xs) (same x) ∙ ap (λ b. q x || b) (any_same p q same xs)

-- whether a number from one on passes
pub any_there : (t : ℕ → Bool) (a n k : ℕ) → a ≤ k → k < a + n → t k ≡ true → list_any t (range_with_len a n) ≡ true
any_there t a zero k p q e = absurd (omega (arith, p, q))
any_there t a (suc n) k p q e =
    elim (cases_lt a k) [
      | inl below ↦ or_right (t a) (list_any t (range_with_len (a + 1) n))
          (any_there t (a + 1) n k (omega (arith, below)) (omega (arith, q)) e)
      | inr past ↦ let same : k ≡ a = omega (arith, p, past) in
          or_left (t a) (list_any t (range_with_len (a + 1) n)) (ap t (sym same) ∙ e)
    ]

pub none_there : (t : ℕ → Bool) (a n : ℕ) → ((g : ℕ) → a ≤ g → g < a + n → t g ≡ false)
    → list_any t (range_with_len a n) ≡ false
none_there t a zero none = refl
none_there t a (suc n) none =
    ap (λ b. b || list_any t (range_with_len (a + 1) n)) (none a (omega arith) (omega arith))
    ∙ none_there t (a + 1) n (λ g p q. none g (omega (arith, p)) (omega (arith, q)))

-- one passes just where this one does, if no other can
any_is : (t : ℕ → Bool) (n k : ℕ) (c : Bool) → k < n → t k ≡ c → ((g : ℕ) → g < n → t g ≡ true → c ≡ true)
    → list_any t (numbers_below n) ≡ c
any_is t n k true low here only = any_there t 0 n k (omega arith) (omega (arith, low)) here
any_is t n k false low here only =
    none_there t 0 n (λ g p q. elim (told (t g)) [
      | inl so ↦ absurd (let never = only g (omega (arith, q)) so in cc)
      | inr fails ↦ fails
    ])

-- a number stands in one of the grains that ascend
not_above : (n : Dec) (grain later : Grain) → holds n grain ≡ true
    → lt_z grain.high.millionths later.low.millionths ≡ true
    → holds n later ≡ false
not_above n grain later h k = grind (arith, ints)

pub one_holds : (n : Dec) (grains : List Grain) (g h : ℕ) (d : Grain) → is_ascending grains ≡ true → g < length grains
    → h < length grains → holds n (get_or grains g d) ≡ true → holds n (get_or grains h d) ≡ true → g ≡ h
one_holds n grains g h d ascend low high e f =
    elim (cases_lt g h) [
      | inl before ↦
          absurd (both f (not_above n (get_or grains g d) (get_or grains h d) e
          (ascending_at grains g h d ascend before high)))
      | inr past ↦ elim (cases_lt h g) [
        | inl after ↦
            absurd (both e (not_above n (get_or grains h d) (get_or grains g d) f
            (ascending_at grains h g d ascend after low)))
        | inr also ↦ omega (arith, past, also)
      ]
    ]

-- none is found where no element passes
first_inside : {X : Type 0} (p : X → Bool) (xs : List X) → list_any p xs ≡ true → position_or_len p xs < length xs
first_inside p [] h = absurd (cc)
first_inside p (x ∷ xs) h = by (p x) h (first_inside p xs)
  where
    by : (b : Bool) → (b || list_any p xs) ≡ true → (list_any p xs ≡ true → position_or_len p xs < length xs)
        → cond (not b) (1 + position_or_len p xs) 0 < suc (length xs)
    by true h next = omega arith
    by false h next = let low = next h in omega (arith, low)

found_first : {X : Type 0} (p : X → Bool) (xs : List X) → list_any p xs ≡ true
    → position p xs ≡ Some (position_or_len p xs)
found_first p xs h = let low = first_inside p xs h in grind (arith, nat_tests)

pub fails_all : {X : Type 0} (p : X → Bool) (xs : List X) → None ≡ position p xs → (k : ℕ) (x : X) → slice_get xs k
    ≡ Some x
    → p x ≡ false
fails_all p xs e k x is =
    elim (told (p x)) [
      | inl so ↦
          absurd (let some = found_first p xs (list_any_at p xs k x (slice_get_within xs k x is)
          (ap p (get_or_from_slice_get xs k x x is) ∙ so)) in
          let never = e ∙ some in cc)
      | inr fails ↦ fails
    ]

module _ (n : Dec) (grains : List Grain) (ascend : is_ascending grains ≡ true) where
  abbrev nothing : Grain
  nothing = interval (pos 0) (pos 0)

  abbrev held : ℕ → Bool
  held g = grain_holds (map Stretch grains) (Num n) g

  long : length (map Stretch grains) ≡ length grains
  long = length-map grains Stretch

  held_is : (g : ℕ) → g < length grains → held g ≡ holds n (get_or grains g nothing)
  held_is g low =
      ap (passes (lies_in (Num n)))
      (slice_get-map Stretch grains g ∙ ap (option_map Stretch) (slice_get-get_or grains g nothing low))

  -- what is asked of the grain that holds the number is asked of that one
  pub number_there : (t q : ℕ → Bool) → ((g : ℕ) → t g ≡ (held g && q g)) → (k : ℕ) → Some k ≡ position (holds n) grains
      → list_any t (numbers_below (length (map Stretch grains))) ≡ q k
  number_there t q says k e =
      let at = position-Some (holds n) grains k nothing (sym e) in
      any_is t (length (map Stretch grains)) k (q k) (omega (arith, long, at.0))
      (says k ∙ ap (λ b. b && q k) (held_is k at.0 ∙ at.1))
      (λ g low so.
      let parts = and_parts (held g) (q g) (sym (says g) ∙ so) in
      let inside : g < length grains = omega (arith, long, low) in
      let same : g ≡ k = one_holds n grains g k nothing ascend inside at.0 (sym (held_is g inside) ∙ parts.0) at.1 in
      ap q (sym same) ∙ parts.1)

  pub number_nowhere : (t q : ℕ → Bool) → ((g : ℕ) → t g ≡ (held g && q g)) → None ≡ position (holds n) grains
      → list_any t (numbers_below (length (map Stretch grains))) ≡ false
  number_nowhere t q says e =
      none_there t 0 (length (map Stretch grains)) (λ g p low.
      let inside : g < length grains = omega (arith, long, low) in
      let fails = fails_all (holds n) grains e g (get_or grains g nothing) (slice_get-get_or grains g nothing inside) in
      says g ∙ ap (λ b. b && q g) (held_is g inside ∙ fails))

  pub left_number : (seen : Seen) (v k : ℕ) → Some k ≡ position (holds n) grains
      → not (seen.out v k) ≡ has_left_among (map Stretch grains) seen v None (Num n)
  left_number seen v k e =
      sym (number_there (λ g. held g && not (seen.out v g)) (λ g. not (seen.out v g)) (λ g. refl) k e)

  pub left_no_number : (seen : Seen) (v : ℕ) → None ≡ position (holds n) grains
      → false ≡ has_left_among (map Stretch grains) seen v None (Num n)
  left_no_number seen v e =
      sym (number_nowhere (λ g. held g && not (seen.out v g)) (λ g. not (seen.out v g)) (λ g. refl) e)

  pub known_number : (a : Value) (k : ℕ) (grain : Grain) → Some k ≡ position (holds n) grains
      → slice_get grains k ≡ Some grain
      → lies_in a (Stretch grain) ≡ holds_both (map Stretch grains) (Num n) a
  known_number a k grain e is =
      let of : ℕ → Bool = grain_holds (map Stretch grains) a in
      sym (number_there (λ g. of g && held g) of (λ g. and_turned (of g) (held g)) k e
      ∙ ap (passes (lies_in a)) (slice_get-map Stretch grains k ∙ ap (option_map Stretch) is))

  pub known_no_number : (a : Value) → None ≡ position (holds n) grains
      → false ≡ holds_both (map Stretch grains) (Num n) a
  known_no_number a e =
      let of : ℕ → Bool = grain_holds (map Stretch grains) a in
      sym (number_nowhere (λ g. of g && held g) of (λ g. and_turned (of g) (held g)) e)

-- whether a grain holds both, by the grains
both_in : (grains : List Piece) (b a : Value) → holds_both grains b a ≡ list_any
    (λ x. lies_in a x && lies_in b x) grains
both_in grains b a =
    any_same (λ g. grain_holds grains a g && grain_holds grains b g)
    (λ g. passes (λ x. lies_in a x && lies_in b x) (slice_get grains g)) (λ g. by (slice_get grains g))
    (numbers_below (length grains))
    ∙ any_after (λ x. lies_in a x && lies_in b x) [] grains
  where
    by : (o : Option Piece) → (passes (lies_in a) o && passes (lies_in b) o) ≡ passes
        (λ x. lies_in a x && lies_in b x) o
    by None = refl
    by (Some x) = refl

none_holds : (p : Piece → Bool) (a : Value) (grains : List Piece) → list_any p grains ≡ false
    → list_any (λ x. lies_in a x && p x) grains ≡ false
none_holds p a [] e = refl
none_holds p a (x ∷ grains) e = by (lies_in a x) (p x) e (none_holds p a grains)
  where
    by : (l b : Bool) → (b || list_any p grains) ≡ false
        → (list_any p grains ≡ false → list_any (λ y. lies_in a y && p y) grains ≡ false)
        → ((l && b) || list_any (λ y. lies_in a y && p y) grains) ≡ false
    by l true e later = absurd (cc)
    by true false e later = later e
    by false false e later = later e

-- a text lies in no stretch, and a number in no text
no_stretch : (t : ℕ) (grains : List Grain) → lies_in_some (map Stretch grains) (Text t) ≡ false
no_stretch t [] = refl
no_stretch t (grain ∷ grains) = no_stretch t grains

no_text : (n : Dec) (texts : List ℕ) → lies_in_some (map OneText texts) (Num n) ≡ false
no_text n [] = refl
no_text n (text ∷ texts) = no_text n texts

pub no_text_both : (t : ℕ) (grains : List Grain) (a : Value) → false ≡ holds_both (map Stretch grains) (Text t) a
no_text_both t grains a =
    sym (both_in (map Stretch grains) (Text t) a
    ∙ none_holds (lies_in (Text t)) a (map Stretch grains) (no_stretch t grains))

pub no_number_both : (n : Dec) (texts : List ℕ) (a : Value) → false ≡ holds_both (map OneText texts) (Num n) a
no_number_both n texts a =
    sym (both_in (map OneText texts) (Num n) a
    ∙ none_holds (lies_in (Num n)) a (map OneText texts) (no_text n texts))

text_both : (t : ℕ) (a : Value) (texts : List ℕ)
    → list_any (λ x. lies_in a x && lies_in (Text t) x) (map OneText texts)
    ≡ (lies_in_some (map OneText texts) (Text t) && lies_in a (OneText t))
text_both t a [] = refl
text_both t a (s ∷ texts) = by (s == t) refl (text_both t a texts)
  where
    here : (l x : Bool) → ((l && true) || (x && l)) ≡ l
    here true x = refl
    here false true = refl
    here false false = refl

    elsewhere : (l r : Bool) → ((l && false) || r) ≡ r
    elsewhere true r = refl
    elsewhere false r = refl

    rest : Bool
    rest = lies_in_some (map OneText texts) (Text t)

    by : (b : Bool) → (s == t) ≡ b
        → list_any (λ x. lies_in a x && lies_in (Text t) x) (map OneText texts) ≡ (rest && lies_in a (OneText t))
        → ((lies_in a (OneText s) && (s == t)) || list_any (λ x. lies_in a x && lies_in (Text t) x) (map OneText texts))
        ≡ (((s == t) || rest) && lies_in a (OneText t))
    by true e later =
        let same : s ≡ t = eqb-true s t e in
        ap (λ b. (lies_in a (OneText s) && b) || list_any (λ x. lies_in a x && lies_in (Text t) x)
        (map OneText texts)) e
        ∙ (ap (λ r. (lies_in a (OneText s) && true) || r) later
        ∙ (ap (λ u. (lies_in a (OneText u) && true) || (rest && lies_in a (OneText t))) same
        ∙ (here (lies_in a (OneText t)) rest
        ∙ sym (ap (λ b. (b || rest) && lies_in a (OneText t)) e))))
    by false e later =
        ap (λ b. (lies_in a (OneText s) && b) || list_any (λ x. lies_in a x && lies_in (Text t) x)
        (map OneText texts)) e
        ∙ (elsewhere (lies_in a (OneText s)) (list_any (λ x. lies_in a x && lies_in (Text t) x) (map OneText texts))
        ∙ (later ∙ sym (ap (λ b. (b || rest) && lies_in a (OneText t)) e)))

pub known_text : (t : ℕ) (texts : List ℕ) (a : Value) → lies_in_some (map OneText texts) (Text t) ≡ true
    → lies_in a (OneText t) ≡ holds_both (map OneText texts) (Text t) a
known_text t texts a e =
    sym (both_in (map OneText texts) (Text t) a ∙ (text_both t a texts ∙ ap (λ b. b && lies_in a (OneText t)) e))

pub known_no_text : (t : ℕ) (texts : List ℕ) (a : Value) → lies_in_some (map OneText texts) (Text t) ≡ false
    → false ≡ holds_both (map OneText texts) (Text t) a
known_no_text t texts a e =
    sym (both_in (map OneText texts) (Text t) a ∙ (text_both t a texts ∙ ap (λ b. b && lies_in a (OneText t)) e))

-- a value that lies in none of the pieces is left nowhere, as one of the other sort
none_left : {A : Type 0} (f : A → Piece) (a : Value) → ((x : A) → lies_in a (f x) ≡ false)
    → (xs : List A) (seen : Seen) (v : ℕ)
    → false ≡ has_left_among (map f xs) seen v None a
none_left {A} f a none xs seen v =
    sym (none_there (λ g. grain_holds (map f xs) a g && not (seen.out v g)) 0 (length (map f xs))
    (λ g p q. ap (λ b. b && not (seen.out v g)) (fails xs g)))
  where
    fails : (xs : List A) (g : ℕ) → passes (lies_in a) (slice_get (map f xs) g) ≡ false
    fails [] g = refl
    fails (x ∷ xs) zero = none x
    fails (x ∷ xs) (suc g) = fails xs g

pub left_no_text : (t : ℕ) (grains : List Grain) (seen : Seen) (v : ℕ)
    → false ≡ has_left_among (map Stretch grains) seen v None (Text t)
left_no_text t grains seen v = none_left Stretch (Text t) (λ grain. refl) grains seen v

pub left_number_among_texts : (n : Dec) (texts : List ℕ) (seen : Seen) (v : ℕ)
    → false ≡ has_left_among (map OneText texts) seen v None (Num n)
left_number_among_texts n texts seen v = none_left OneText (Num n) (λ text. refl) texts seen v

-- the grain that is told for a text tells whether one is left
pub text_holds : (t : ℕ) (texts : List ℕ) (g : ℕ)
    → grain_holds (map OneText texts) (Text t) g ≡ is_text t (slice_get texts g)
text_holds t [] g = refl
text_holds t (s ∷ texts) zero = refl
text_holds t (s ∷ texts) (suc g) = text_holds t texts g

text_there : (t : ℕ) (texts : List ℕ) (g : ℕ) → is_text t (slice_get texts g) ≡ true → slice_get texts g ≡ Some t
text_there t [] g e = absurd (cc)
text_there t (s ∷ texts) zero e = ap Some (eqb-true s t e)
text_there t (s ∷ texts) (suc g) e = text_there t texts g e

pub left_text : (seen : Seen) (v t : ℕ) (texts left : List ℕ) (h : ℕ) → TellsLeft (seen.out v) texts left
    → slice_get left t ≡ Some h
    → is_left_at (seen.out v) texts t (Some h) ≡ has_left_among (map OneText texts) seen v None (Text t)
left_text seen v t texts left h tells is = sym (by (is_left_at (seen.out v) texts t (Some h)) refl)
  where
    test : ℕ → Bool
    test g = grain_holds (map OneText texts) (Text t) g && not (seen.out v g)

    long : length (map OneText texts) ≡ length texts
    long = length-map texts OneText

    by : (b : Bool) → is_left_at (seen.out v) texts t (Some h) ≡ b
        → list_any test (numbers_below (length (map OneText texts))) ≡ b
    by true e =
        let parts = and_parts (is_text t (slice_get texts h)) (not (seen.out v h)) e in
        let low : h < length texts = slice_get_within texts h t (text_there t texts h parts.0) in
        any_there test 0 (length (map OneText texts)) h (omega arith) (omega (arith, long, low))
        (ap (λ b. b && not (seen.out v h)) (text_holds t texts h) ∙ e)
    by false e =
        none_there test 0 (length (map OneText texts)) (λ g p q. elim (told (test g)) [
          | inl so ↦
              let parts = and_parts (grain_holds (map OneText texts) (Text t) g) (not (seen.out v g)) so in
              let there : slice_get texts g ≡ Some t = text_there t texts g (sym (text_holds t texts g) ∙ parts.0) in
              let here = tells g t (slice_get_within texts g t there) there (unnot (seen.out v g) parts.1)
              (slice_get_within left t h is) in
              absurd (both (ap (is_left_at (seen.out v) texts t) (sym is) ∙ here) e)
          | inr fails ↦ fails
        ])
      where
        unnot : (b : Bool) → not b ≡ true → b ≡ false
        unnot true e = absurd (cc)
        unnot false e = refl

-- what is left of a variable without a value, and of one with a value
pub left_is : (plan : Plan) (seen : Seen) (v : ℕ) (a : Value) (o : Option Value) → seen.value v ≡ o
    → has_left_among (grains_of plan v) seen v o a ≡ fits plan seen (Variable v) a
left_is plan seen v a o e =
    any_same (λ g. grain_holds (grains_of plan v) a g && left_among (grains_of plan v) seen v o g)
    (λ g. is_left plan seen v g && is_grain_with plan v (lies_in a) g)
    (λ g. and_turned (grain_holds (grains_of plan v) a g) (left_among (grains_of plan v) seen v o g)
    ∙ ap (λ b. b && is_grain_with plan v (lies_in a) g) (by g o ∙ ap (is_left_by plan seen v g) (sym e)))
    (numbers_below (count_of plan v))
  where
    by : (g : ℕ) (o : Option Value) → left_among (grains_of plan v) seen v o g ≡ is_left_by plan seen v g o
    by g None = refl
    by g (Some b) = refl

-- a grain is told for one text more
pub get_set : {X : Type 0} (xs : List X) (i : ℕ) (x : X) → i < length xs → slice_get (slice_set xs i x) i ≡ Some x
get_set [] i x low = absurd (omega (arith, low))
get_set (y ∷ xs) zero x low = refl
get_set (y ∷ xs) (suc i) x low = get_set xs i x (omega (arith, low))

pub get_other : {X : Type 0} (xs : List X) (i k : ℕ) (x : X) → (k ≡ i → ⊥) → slice_get (slice_set xs i x) k
    ≡ slice_get xs k
get_other [] i k x other = refl
get_other (y ∷ xs) zero zero x other = absurd (other refl)
get_other (y ∷ xs) zero (suc k) x other = refl
get_other (y ∷ xs) (suc i) zero x other = refl
get_other (y ∷ xs) (suc i) (suc k) x other = get_other xs i k x (λ e. other (ap suc e))

pub length_set : {X : Type 0} (xs : List X) (i : ℕ) (x : X) → length (slice_set xs i x) ≡ length xs
length_set [] i x = refl
length_set (y ∷ xs) zero x = refl
length_set (y ∷ xs) (suc i) x = ap suc (length_set xs i x)

pub tells_none : (out : ℕ → Bool) (texts left : List ℕ) → TellsFirst out texts 0 left
tells_none out texts left g t low is left_there inside = absurd (omega (arith, low))

pub tells_next : (out : ℕ → Bool) (texts left : List ℕ) (n s : ℕ) → slice_get texts n ≡ Some s
    → TellsFirst out texts n left
    → TellsFirst out texts (n + 1) (with_left (out n) s n left)
tells_next out texts left n s here tells g t low is fresh inside = by (out n) refl inside
  where
    before : (g ≡ n → ⊥) → g < n
    before other = elim (cases_lt g n) [ inl below ↦ below | inr past ↦ absurd (other (omega (arith, low, past))) ]

    by : (b : Bool) → out n ≡ b → t < length (with_left b s n left)
        → is_left_at out texts t (slice_get (with_left b s n left) t) ≡ true
    by true e inside =
        tells g t (before (λ same. both (ap out same ∙ e) fresh)) is fresh inside
    by false e inside = elim (told (s == t)) [
      | inl so ↦
          let same : s ≡ t = eqb-true s t so in
          let long : length (slice_set left s n) ≡ length left = length_set left s n in
          let low : s < length left = omega (arith, same, long, inside) in
          let set : slice_get (slice_set left s n) t ≡ Some n
          = ap (slice_get (slice_set left s n)) (sym same) ∙ get_set left s n low in
          ap (is_left_at out texts t) set
          ∙ and_from (is_text t (slice_get texts n)) (not (out n)) (ap (is_text t) here ∙ so) (ap not e)
      | inr fails ↦
          let long : length (slice_set left s n) ≡ length left = length_set left s n in
          let stays : slice_get (slice_set left s n) t ≡ slice_get left t
          = get_other left s t n (λ same. eqb-false s t fails (sym same)) in
          let other : g ≡ n → ⊥ = λ same.
          eqb-false s t fails (same_Some s t (sym here ∙ (ap (slice_get texts) (sym same) ∙ is))) in
          ap (is_left_at out texts t) stays ∙ tells g t (before other) is fresh (omega (arith, long, inside))
    ]
