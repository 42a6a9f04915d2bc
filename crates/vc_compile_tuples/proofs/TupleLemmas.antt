-- Tuples that grow slot by slot are the matching ones of all tuples.
use Rattle.std.proofs.Common.{◌≡◌, ◌<◌, ◌+◌, ◌==◌, ◌≤◌, ℕ, zero, suc, Bool, true, false, cond, not, ◌&&◌, ◌||◌, List}
use Rattle.std.proofs.Common.{[], ◌∷◌, ◌++◌}
use Rattle.std.proofs.Common.{length, map, flat_map, refl, subst, sym, ap, ◌∙◌, arith, if◌then◌else◌, append_assoc}
use Rattle.std.proofs.Common.{Option, None, Some, nat_lt}
use Rattle.std.specs.Prelude.{slice_get, option_map}
use Rattle.std.specs.List.{filter, list_all, list_any, range_with_len}
use Rattle.std.proofs.lemmas.Bool.Decides.{nat_tests}
use Rattle.std.proofs.lemmas.List.{map-append, append-nil}
use Rattle.std.proofs.lemmas.List.Elements.{filter-append}
use Rattle.std.proofs.lemmas.List.Folds.{list_all-append, list_any-append}
use Rattle.vc_syntax_tree.specs.declared.Object.{Object}
use Rattle.vc_syntax_tree.specs.declared.ObjectKind.{ObjectKind}
use Rattle.vc_syntax_tree.specs.declared.ObjectKind.TheVariants as objects
use Rattle.vc_syntax_tree.specs.Trees.{Condition, Or, And, Not, Related, Specified, PartOf, Constraint}
use Rattle.vc_types.specs.Occurrences.{if_there}
use Rattle.vc_types.specs.PlaceFaults.{joined_parts}
use Rattle.vc_plan.specs.Domains.{numbers_below}
use Rattle.vc_plan.specs.declared.plans.Slot.{Slot}
use Rattle.vc_compile_plan.specs.Layouts.{Layout, object_at}
use Rattle.vc_compile_plan.specs.Tuples.{tuples_from, is_of_kind, are_of_kinds, are_different, slot_above, is_part_met}
use Rattle.vc_compile_plan.specs.Tuples.{are_parts_met, are_same, matches, tuples_of, slot_called}
use Rattle.vc_compile_tuples.specs.Growing.{Adds, is_kind, choice_from, choices_of, fits, below}
use Rattle.vc_compile_tuples.specs.Parts.{above, parts_in, parts_of, is_met, are_met, are_chosen, may_be_met, may_be}
use Rattle.vc_compile_tuples.specs.declared.parts.Part.{Part}

-- lists
filter_map : {X Y : Type 0} (p : Y → Bool) (f : X → Y) (xs : List X)
    → filter p (map f xs) ≡ map f (filter (λ x. p (f x)) xs)
filter_map p f [] = refl
filter_map p f (x ∷ xs) = by (p (f x)) (filter_map p f xs)
  where
    by : (b : Bool) → filter p (map f xs) ≡ map f (filter (λ y. p (f y)) xs)
        → cond b (f x ∷ filter p (map f xs)) (filter p (map f xs))
        ≡ map f (cond b (x ∷ filter (λ y. p (f y)) xs) (filter (λ y. p (f y)) xs))
    by true rest = ap (λ ys. f x ∷ ys) rest
    by false rest = rest

filter_none : {X : Type 0} (xs : List X) → filter (λ x. false) xs ≡ []
filter_none [] = refl
filter_none (x ∷ xs) = filter_none xs

flat_same : {X Y : Type 0} (f g : X → List Y) → ((x : X) → f x ≡ g x) → (xs : List X) → flat_map f xs ≡ flat_map g xs
flat_same f g same [] = refl
flat_same f g same (x ∷ xs) =
    ap (λ ys. ys ++ flat_map f xs) (same x) ∙ ap (λ ys. g x ++ ys) (flat_same f g same xs)

flat_filter : {X Y : Type 0} (p : X → Bool) (f : X → List Y) (xs : List X)
    → flat_map f (filter p xs) ≡ flat_map (λ x. if p x then f x else []) xs
flat_filter p f [] = refl
flat_filter p f (x ∷ xs) = by (p x) (flat_filter p f xs)
  where
    by : (b : Bool) → flat_map f (filter p xs) ≡ flat_map (λ y. if p y then f y else []) xs
        → flat_map f (cond b (x ∷ filter p xs) (filter p xs))
        ≡ (if b then f x else []) ++ flat_map (λ y. if p y then f y else []) xs
    by true rest = ap (λ ys. f x ++ ys) rest
    by false rest = rest

mapped_filter : {X Y Z : Type 0} (h : Y → Z) (p : Y → Bool) (f : X → List Y) (xs : List X)
    → map h (filter p (flat_map f xs)) ≡ flat_map (λ x. map h (filter p (f x))) xs
mapped_filter h p f [] = refl
mapped_filter h p f (x ∷ xs) =
    ap (map h) (filter-append p (f x) (flat_map f xs))
    ∙ map-append h (filter p (f x)) (filter p (flat_map f xs))
    ∙ ap (λ zs. map h (filter p (f x)) ++ zs) (mapped_filter h p f xs)

mapped_twice : (front : List ℕ) (i : ℕ) (tuples : List (List ℕ))
    → map (λ t. (front ++ i ∷ []) ++ t) tuples ≡ map (λ t. front ++ t) (map (λ t. i ∷ t) tuples)
mapped_twice front i [] = refl
mapped_twice front i (t ∷ tuples) =
    ap (λ u. u ∷ map (λ t. (front ++ i ∷ []) ++ t) tuples) (append_assoc front (i ∷ []) t)
    ∙ ap (λ us. (front ++ i ∷ t) ∷ us) (mapped_twice front i tuples)

mapped_same : (tuples : List (List ℕ)) → map (λ t. [] ++ t) tuples ≡ tuples
mapped_same [] = refl
mapped_same (t ∷ tuples) = ap (λ us. t ∷ us) (mapped_same tuples)

-- what is still asked of the slots that follow those chosen
abbrev rest : List Slot → List Part → List (ℕ → Bool) → List ℕ → List ℕ → Bool
rest slots parts [] front tuple = are_met slots parts front
rest slots parts (kind ∷ kinds) front [] = false
rest slots parts (kind ∷ kinds) front (i ∷ tuple) =
    (kind i && fits slots parts front i) && rest slots parts kinds (front ++ i ∷ []) tuple

one_slot : (front : List ℕ) (i : ℕ) (shorter : List (List ℕ)) (a b : Bool) (q : List ℕ → Bool) (inner : List (List ℕ))
    → inner ≡ map (λ t. (front ++ i ∷ []) ++ t) (filter q shorter)
    → (if a then (if b then inner else []) else [])
    ≡ map (λ t. front ++ t) (map (λ t. i ∷ t) (filter (λ t. (a && b) && q t) shorter))
one_slot front i shorter true true q inner is = is ∙ mapped_twice front i (filter q shorter)
one_slot front i shorter true false q inner is =
    sym (ap (λ ts. map (λ t. front ++ t) (map (λ t. i ∷ t) ts)) (filter_none shorter))
one_slot front i shorter false b q inner is =
    sym (ap (λ ts. map (λ t. front ++ t) (map (λ t. i ∷ t) ts)) (filter_none shorter))

grown : (slots : List Slot) (parts : List Part) (numbers : List ℕ) (kinds : List (ℕ → Bool)) (front : List ℕ)
    → below slots parts front (map (λ kind. filter kind numbers) kinds)
    ≡ map (λ t. front ++ t) (filter (rest slots parts kinds front) (tuples_from numbers (length kinds)))
grown slots parts numbers [] front = by (are_met slots parts front)
  where
    by : (b : Bool) → (if b then front ∷ [] else []) ≡ map (λ t. front ++ t) (cond b ([] ∷ []) [])
    by true = ap (λ u. u ∷ []) (sym (append-nil front))
    by false = refl
grown slots parts numbers (kind ∷ kinds) front =
    flat_filter kind inner numbers
    ∙ flat_same (λ i. if kind i then inner i else [])
    (λ i. map (λ t. front ++ t) (filter asked (map (λ t. i ∷ t) shorter)))
    (λ i.
    one_slot front i shorter (kind i) (fits slots parts front i) (rest slots parts kinds (front ++ i ∷ []))
    (below slots parts (front ++ i ∷ []) (map (λ kind. filter kind numbers) kinds))
    (grown slots parts numbers kinds (front ++ i ∷ []))
    ∙ sym (ap (map (λ t. front ++ t)) (filter_map asked (λ t. i ∷ t) shorter)))
    numbers
    ∙ sym (mapped_filter (λ t. front ++ t) asked (λ i. map (λ t. i ∷ t) shorter) numbers)
  where
    shorter : List (List ℕ)
    shorter = tuples_from numbers (length kinds)

    asked : List ℕ → Bool
    asked = rest slots parts (kind ∷ kinds) front

    inner : ℕ → List (List ℕ)
    inner i =
        if fits slots parts front i
        then below slots parts (front ++ i ∷ []) (map (λ kind. filter kind numbers) kinds)
        else []

-- a test of tuples of one length
same_tests : (p q : List ℕ → Bool) (numbers : List ℕ) (n : ℕ)
    → ((t : List ℕ) → length t ≡ n → p t ≡ q t) → filter p (tuples_from numbers n) ≡ filter q (tuples_from numbers n)
same_tests p q numbers zero same = ap (λ b. cond b ([] ∷ []) []) (same [] refl)
same_tests p q numbers (suc n) same =
    by (λ i. same_tests (λ t. p (i ∷ t)) (λ t. q (i ∷ t)) numbers n (λ t is. same (i ∷ t) (ap suc is))) numbers
  where
    shorter : List (List ℕ)
    shorter = tuples_from numbers n

    by : ((i : ℕ) → filter (λ t. p (i ∷ t)) shorter ≡ filter (λ t. q (i ∷ t)) shorter) → (ns : List ℕ)
        → filter p (flat_map (λ i. map (λ t. i ∷ t) shorter) ns)
        ≡ filter q (flat_map (λ i. map (λ t. i ∷ t) shorter) ns)
    by each [] = refl
    by each (i ∷ ns) =
        filter-append p (map (λ t. i ∷ t) shorter) (flat_map (λ i. map (λ t. i ∷ t) shorter) ns)
        ∙ ap (λ ts. ts ++ filter p (flat_map (λ i. map (λ t. i ∷ t) shorter) ns))
        (filter_map p (λ t. i ∷ t) shorter ∙ ap (map (λ t. i ∷ t)) (each i) ∙ sym (filter_map q (λ t. i ∷ t) shorter))
        ∙ ap (λ ts. filter q (map (λ t. i ∷ t) shorter) ++ ts) (by each ns)
        ∙ sym (filter-append q (map (λ t. i ∷ t) shorter) (flat_map (λ i. map (λ t. i ∷ t) shorter) ns))

-- what a whole tuple meets, its first slots may meet
both : (a b : Bool) → (a && b) ≡ true → (a ≡ true) × (b ≡ true)
both true b is = (refl, is)
both false b is = absurd (cc)

front_get : {X : Type 0} (xs ys : List X) (k : ℕ) → nat_lt k (length xs) ≡ true
    → slice_get (xs ++ ys) k ≡ slice_get xs k
front_get [] ys k inside = absurd (none k inside)
  where
    none : (k : ℕ) → nat_lt k 0 ≡ true → ⊥
    none k inside = grind (arith, nat_tests)
front_get (x ∷ xs) ys zero inside = refl
front_get (x ∷ xs) ys (suc k) inside = front_get xs ys k (next k (length xs) inside)
  where
    next : (k n : ℕ) → nat_lt (suc k) (suc n) ≡ true → nat_lt k n ≡ true
    next k n inside = grind (arith, nat_tests)

may_part : (slots : List Slot) (front tuple : List ℕ) (part : Part)
    → is_met slots (front ++ tuple) part ≡ true → may_be_met slots front part ≡ true
may_part slots front tuple part met = by (are_chosen front part) refl
  where
    by : (b : Bool) → are_chosen front part ≡ b → (if b then is_met slots front part else true) ≡ true
    by false chosen = refl
    by true chosen =
        let inside = both (nat_lt part.part (length front)) (nat_lt part.whole (length front)) chosen in
        ap (λ o. are_same o (above slots (slice_get front part.part))) (sym (front_get front tuple part.whole inside.1))
        ∙ ap (λ o. are_same (slice_get (front ++ tuple) part.whole) (above slots o))
        (sym (front_get front tuple part.part inside.0))
        ∙ met

may : (slots : List Slot) (parts : List Part) (front tuple : List ℕ)
    → are_met slots parts (front ++ tuple) ≡ true → may_be slots parts front ≡ true
may slots [] front tuple met = refl
may slots (part ∷ parts) front tuple met =
    let each = both (is_met slots (front ++ tuple) part) (are_met slots parts (front ++ tuple)) met in
    ap (λ b. b && may_be slots parts front) (may_part slots front tuple part each.0)
    ∙ may slots parts front tuple each.1

-- slots that differ from those before, and from one another
abbrev are_kinds : List (ℕ → Bool) → List ℕ → Bool
are_kinds [] tuple = true
are_kinds (kind ∷ kinds) [] = false
are_kinds (kind ∷ kinds) (i ∷ tuple) = kind i && are_kinds kinds tuple

abbrev is_new : List ℕ → ℕ → Bool
is_new front i = not (list_any (λ j. j == i) front)

abbrev are_new : List ℕ → List ℕ → Bool
are_new front [] = true
are_new front (i ∷ tuple) = is_new front i && are_new (front ++ i ∷ []) tuple

shuffle : (k n r ks ns m : Bool) → (m ≡ true → r ≡ true)
    → ((k && (n && r)) && ((ks && ns) && m)) ≡ (((k && ks) && (n && ns)) && m)
shuffle false n r ks ns m ready = refl
shuffle true false r false ns m ready = refl
shuffle true false r true ns m ready = refl
shuffle true true true ks ns m ready = refl
shuffle true true false ks ns true ready = absurd (nothing (ready refl))
  where
    nothing : false ≡ true → ⊥
    nothing e = cc
shuffle true true false false ns false ready = refl
shuffle true true false true false false ready = refl
shuffle true true false true true false ready = refl

rest_is : (slots : List Slot) (parts : List Part) (kinds : List (ℕ → Bool)) (front tuple : List ℕ)
    → length tuple ≡ length kinds
    → rest slots parts kinds front tuple
    ≡ ((are_kinds kinds tuple && are_new front tuple) && are_met slots parts (front ++ tuple))
rest_is slots parts [] front [] same = ap (are_met slots parts) (sym (append-nil front))
rest_is slots parts [] front (i ∷ tuple) same = absurd (omega (same, arith))
rest_is slots parts (kind ∷ kinds) front [] same = absurd (omega (same, arith))
rest_is slots parts (kind ∷ kinds) front (i ∷ tuple) same =
    let all = are_met slots parts (front ++ i ∷ tuple) in
    let joined = ap (are_met slots parts) (append_assoc front (i ∷ []) tuple) in
    ap (λ b. (kind i && fits slots parts front i) && b)
    (rest_is slots parts kinds (front ++ i ∷ []) tuple (omega (same, arith))
    ∙ ap (λ b. (are_kinds kinds tuple && are_new (front ++ i ∷ []) tuple) && b) joined)
    ∙ shuffle (kind i) (is_new front i) (may_be slots parts (front ++ i ∷ [])) (are_kinds kinds tuple)
    (are_new (front ++ i ∷ []) tuple) all (λ met. may slots parts (front ++ i ∷ []) tuple (joined ∙ met))

swapped : (i j : ℕ) → (i == j) ≡ (j == i)
swapped i j = grind (arith, nat_tests)

new_more : (a b : Bool) → not (a || (b || false)) ≡ (not a && not b)
new_more true b = refl
new_more false true = refl
new_more false false = refl

apart_more : (a b c d : Bool) → ((a && not b) && (c && not d)) ≡ ((a && c) && not (b || d))
apart_more false b c d = refl
apart_more true true false d = refl
apart_more true true true d = refl
apart_more true false false d = refl
apart_more true false true d = refl

-- what is none of some slots and one more
all_new : (front tuple : List ℕ) (i : ℕ)
    → list_all (is_new (front ++ i ∷ [])) tuple ≡ (list_all (is_new front) tuple && not (list_any (λ j. j == i) tuple))
all_new front [] i = refl
all_new front (j ∷ tuple) i =
    ap (λ b. b && list_all (is_new (front ++ i ∷ [])) tuple)
    (ap not (list_any-append (λ k. k == j) front (i ∷ []))
    ∙ new_more (list_any (λ k. k == j) front) (i == j)
    ∙ ap (λ b. is_new front j && not b) (swapped i j))
    ∙ ap (λ b. (is_new front j && not (j == i)) && b) (all_new front tuple i)
    ∙ apart_more (is_new front j) (j == i) (list_all (is_new front) tuple) (list_any (λ k. k == i) tuple)

regroup : (a p n d : Bool) → (a && ((p && n) && d)) ≡ ((a && p) && (n && d))
regroup false p n d = refl
regroup true false n d = refl
regroup true true n d = refl

new_is : (front tuple : List ℕ) → are_new front tuple ≡ (list_all (is_new front) tuple && are_different tuple)
new_is front [] = refl
new_is front (i ∷ tuple) =
    ap (λ b. is_new front i && b)
    (new_is (front ++ i ∷ []) tuple ∙ ap (λ b. b && are_different tuple) (all_new front tuple i))
    ∙ regroup (is_new front i) (list_all (is_new front) tuple) (not (list_any (λ j. j == i) tuple))
    (are_different tuple)

none_before : (tuple : List ℕ) → list_all (is_new []) tuple ≡ true
none_before [] = refl
none_before (i ∷ tuple) = none_before tuple

-- kinds of objects
abbrev kinds_of : Layout → List Object → List (ℕ → Bool)
kinds_of layout objects = map (λ object. λ i. is_of_kind layout object.kind (object_at layout i)) objects

kinds_are : (layout : Layout) (objects : List Object) (tuple : List ℕ)
    → are_kinds (kinds_of layout objects) tuple ≡ are_of_kinds layout objects tuple
kinds_are layout [] tuple = refl
kinds_are layout (object ∷ objects) [] = refl
kinds_are layout (object ∷ objects) (i ∷ tuple) =
    ap (λ b. is_of_kind layout object.kind (object_at layout i) && b) (kinds_are layout objects tuple)

-- PART_OFs
above_is : (layout : Layout) (slot : Option ℕ) → above layout.slots slot ≡ slot_above layout slot
above_is layout None = refl
above_is layout (Some i) = refl

parts_are : (layout : Layout) (declared : List Object) (tuple : List ℕ) (condition : Condition)
    → are_met layout.slots (parts_in declared condition) tuple
    ≡ list_all (is_part_met layout declared tuple) (joined_parts condition)
parts_are layout declared tuple (And left right) =
    list_all-append (is_met layout.slots tuple) (parts_in declared left) (parts_in declared right)
    ∙ ap (λ b. b && are_met layout.slots (parts_in declared right) tuple) (parts_are layout declared tuple left)
    ∙ ap (λ b. list_all (is_part_met layout declared tuple) (joined_parts left) && b)
    (parts_are layout declared tuple right)
    ∙ sym (list_all-append (is_part_met layout declared tuple) (joined_parts left) (joined_parts right))
parts_are layout declared tuple (PartOf part whole) =
    ap (λ o. are_same (slot_called declared tuple whole.name) o && true)
    (above_is layout (slot_called declared tuple part.name))
parts_are layout declared tuple (Or left right) = refl
parts_are layout declared tuple (Not condition) = refl
parts_are layout declared tuple (Related relation) = refl
parts_are layout declared tuple (Specified operand) = refl

all_parts : (layout : Layout) (declared : List Object) (tuple : List ℕ) (condition : Option Condition)
    → are_met layout.slots (parts_of declared condition) tuple ≡ are_parts_met layout declared condition tuple
all_parts layout declared tuple None = refl
all_parts layout declared tuple (Some condition) = parts_are layout declared tuple condition

-- choices
kind_is : (layout : Layout) (kind : ObjectKind) (object : Option ℕ)
    → is_kind layout.model kind object ≡ is_of_kind layout kind object
kind_is layout (objects.Class leaf) object = refl
kind_is layout (objects.Material leaf) object = refl

same_choice : (layout : Layout) (kind : ObjectKind) (n : ℕ) (slots : List Slot)
    → ((k : ℕ) → k < length slots → slice_get layout.slots (n + k) ≡ slice_get slots k)
    → choice_from layout.model kind n slots
    ≡ filter (λ i. is_of_kind layout kind (object_at layout i)) (range_with_len n (length slots))
same_choice layout kind n [] there = refl
same_choice layout kind n (slot ∷ slots) there =
    ap (λ b. cond b (n ∷ choice_from layout.model kind (suc n) slots) (choice_from layout.model kind (suc n) slots))
    (kind_is layout kind (Some slot.object)
    ∙ ap (λ o. is_of_kind layout kind (option_map (λ s. s.object) o))
    (sym (there 0 (omega arith)) ∙ ap (slice_get layout.slots) (first n)))
    ∙ ap (λ ns. cond (is_of_kind layout kind (object_at layout n)) (n ∷ ns) ns)
    (same_choice layout kind (suc n) slots
    (λ k inside. ap (slice_get layout.slots) (next n k) ∙ there (suc k) (omega (inside, arith)))
    ∙ ap (λ m. filter (λ i. is_of_kind layout kind (object_at layout i)) (range_with_len m (length slots))) (after n))
  where
    first : (n : ℕ) → n + 0 ≡ n
    first n = omega arith

    next : (n k : ℕ) → suc n + k ≡ n + suc k
    next n k = omega arith

    after : (n : ℕ) → suc n ≡ n + 1
    after n = omega arith

choices_are : (layout : Layout) (declared : List Object)
    → choices_of layout.model layout.slots declared
    ≡ map (λ kind. filter kind (numbers_below (length layout.slots))) (kinds_of layout declared)
choices_are layout [] = refl
choices_are layout (object ∷ declared) =
    ap (λ c. c ∷ choices_of layout.model layout.slots declared)
    (same_choice layout object.kind 0 layout.slots (λ k inside. ap (slice_get layout.slots) (from k)))
    ∙ ap (λ cs. filter (λ i. is_of_kind layout object.kind (object_at layout i))
    (numbers_below (length layout.slots)) ∷ cs)
    (choices_are layout declared)
  where
    from : (k : ℕ) → 0 + k ≡ k
    from k = omega arith

kind_count : (layout : Layout) (objects : List Object) → length (kinds_of layout objects) ≡ length objects
kind_count layout [] = refl
kind_count layout (object ∷ objects) = ap suc (kind_count layout objects)

-- all matching tuples
pub below_are : (layout : Layout) (constraint : Constraint)
    → below layout.slots (parts_of constraint.objects constraint.condition) []
    (choices_of layout.model layout.slots constraint.objects)
    ≡ tuples_of layout constraint
below_are layout constraint =
    ap (below layout.slots parts []) (choices_are layout declared)
    ∙ grown layout.slots parts numbers kinds []
    ∙ mapped_same (filter (rest layout.slots parts kinds []) (tuples_from numbers (length kinds)))
    ∙ same_tests (rest layout.slots parts kinds []) (matches layout constraint) numbers (length kinds) same
    ∙ ap (λ n. filter (matches layout constraint) (tuples_from numbers n)) (kind_count layout declared)
  where
    declared : List Object
    declared = constraint.objects

    parts : List Part
    parts = parts_of constraint.objects constraint.condition

    numbers : List ℕ
    numbers = numbers_below (length layout.slots)

    kinds : List (ℕ → Bool)
    kinds = kinds_of layout constraint.objects

    same : (t : List ℕ) → length t ≡ length kinds → rest layout.slots parts kinds [] t ≡ matches layout constraint t
    same t is =
        rest_is layout.slots parts kinds [] t is
        ∙ ap (λ b. (b && are_new [] t) && are_met layout.slots parts t) (kinds_are layout declared t)
        ∙ ap (λ b. (are_of_kinds layout declared t && b) && are_met layout.slots parts t)
        (new_is [] t ∙ ap (λ b. b && are_different t) (none_before t))
        ∙ ap (λ b. (are_of_kinds layout declared t && are_different t) && b)
        (all_parts layout declared t constraint.condition)

all_are : (layout : Layout) (constraint : Constraint) (parts : List Part) (choices : List (List ℕ)) (front : List ℕ)
    → parts ≡ parts_of constraint.objects constraint.condition
    → choices ≡ choices_of layout.model layout.slots constraint.objects → front ≡ []
    → below layout.slots parts front choices ≡ tuples_of layout constraint
all_are layout constraint parts choices front meet choose begin =
    ap (λ ps. below layout.slots ps front choices) meet
    ∙ ap (λ cs. below layout.slots (parts_of constraint.objects constraint.condition) front cs) choose
    ∙ ap (λ f. below layout.slots (parts_of constraint.objects constraint.condition) f
    (choices_of layout.model layout.slots constraint.objects)) begin
    ∙ below_are layout constraint

-- how growing from nothing ends
pub all_found : (layout : Layout) (constraint : Constraint) (parts : List Part) (choices : List (List ℕ))
    (front : List ℕ)
    (out after : List (List ℕ)) (most : ℕ) (within : Bool)
    → parts ≡ parts_of constraint.objects constraint.condition
    → choices ≡ choices_of layout.model layout.slots constraint.objects → front ≡ [] → out ≡ []
    → within ≡ true → Adds most within out after (below layout.slots parts front choices)
    → after ≡ tuples_of layout constraint
all_found layout constraint parts choices front out after most within meet choose begin nothing told adds =
    (subst (λ b. Adds most b out after (below layout.slots parts front choices)) told adds).0
    ∙ ap (λ ts. ts ++ below layout.slots parts front choices) nothing
    ∙ all_are layout constraint parts choices front meet choose begin

pub too_many : (layout : Layout) (constraint : Constraint) (parts : List Part) (choices : List (List ℕ))
    (front : List ℕ)
    (out after : List (List ℕ)) (most : ℕ) (within : Bool)
    → parts ≡ parts_of constraint.objects constraint.condition
    → choices ≡ choices_of layout.model layout.slots constraint.objects → front ≡ [] → out ≡ []
    → within ≡ false → Adds most within out after (below layout.slots parts front choices)
    → most < length (tuples_of layout constraint)
too_many layout constraint parts choices front out after most within meet choose begin nothing told adds =
    subst (λ ts. most < length ts)
    (ap (λ ts. ts ++ below layout.slots parts front choices) nothing
    ∙ all_are layout constraint parts choices front meet choose begin)
    (subst (λ b. Adds most b out after (below layout.slots parts front choices)) told adds)
