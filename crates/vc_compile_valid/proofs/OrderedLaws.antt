-- Lists in order, and lists without doubles as such.
use Rattle.std.proofs.Common.{◌≡◌, ℕ, zero, suc, ◌+◌, ◌≤◌, Bool, true, false, cond, not, ◌&&◌, List, [], ◌∷◌, ◌++◌}
use Rattle.std.proofs.Common.{length, map, flat_map}
use Rattle.std.proofs.Common.{refl, ap, ◌∙◌, arith}
use Rattle.std.specs.Prelude.{◌==◌}
use Rattle.std.specs.List.{filter, list_all, list_any, range_with_len}
use Rattle.std.proofs.lemmas.Bool.{and_from, and_parts, ne_eqb, not_from_false}
use Rattle.std.proofs.lemmas.List.Folds.{list_all-append, list_all-map}
use Rattle.vc_plan.specs.Orders.{are_apart, are_in_order}
use Rattle.vc_compile_plan.specs.Numbering.{Brings, numbered}
use Rattle.vc_compile_valid.proofs.EachLaws.{Each, each_more, each_passes, order_joined}
use Rattle.vc_compile_valid.proofs.ListLaws.{all_left, each_fails, none_from}

-- an order of what is made of a list
pub order_mapped : {X Y : Type 0} (before : Y → Y → Bool) (f : X → Y) (xs : List X)
    → are_in_order before (map f xs) ≡ are_in_order (λ a b. before (f a) (f b)) xs
order_mapped before f [] = refl
order_mapped before f (x ∷ xs) =
    ap (λ b. b && are_in_order before (map f xs)) (list_all-map (before (f x)) f xs)
    ∙ ap (λ b. list_all (λ y. before (f x) (f y)) xs && b) (order_mapped before f xs)

-- an order of drafts is one of what they are numbered to
pub numbered_behind : {D X : Type 0} (brings : Brings D) (make : ℕ → ℕ → D → X) (test : X → Bool) (earlier : D → Bool)
    → ((c t : ℕ) (d : D) → earlier d ≡ true → test (make c t d) ≡ true) → (c t : ℕ) (drafts : List D)
    → list_all earlier drafts ≡ true → list_all test (numbered brings make c t drafts) ≡ true
numbered_behind brings make test earlier of c t [] h = refl
numbered_behind brings make test earlier of c t (d ∷ drafts) h =
    let parts = and_parts (earlier d) (list_all earlier drafts) h in
    let rest = numbered brings make (c + length (brings.conditions d)) (t + length (brings.terms d)) drafts in
    and_from (test (make c t d)) (list_all test rest) (of c t d parts.0)
    (numbered_behind brings make test earlier of (c + length (brings.conditions d)) (t + length (brings.terms d)) drafts
    parts.1)

pub numbered_ordered : {D X : Type 0} (brings : Brings D) (make : ℕ → ℕ → D → X) (before : X → X → Bool)
    (earlier : D → D → Bool)
    → ((c t m n : ℕ) (a b : D) → earlier a b ≡ true → before (make c t a) (make m n b) ≡ true)
    → (c t : ℕ) (drafts : List D)
    → are_in_order earlier drafts ≡ true → are_in_order before (numbered brings make c t drafts) ≡ true
numbered_ordered brings make before earlier of c t [] h = refl
numbered_ordered brings make before earlier of c t (d ∷ drafts) h =
    let parts = and_parts (list_all (earlier d) drafts) (are_in_order earlier drafts) h in
    let m = c + length (brings.conditions d) in
    let n = t + length (brings.terms d) in
    and_from (list_all (before (make c t d)) (numbered brings make m n drafts))
    (are_in_order before (numbered brings make m n drafts))
    (numbered_behind brings make (before (make c t d)) (earlier d) (λ k l b e. of c t k l d b e) m n drafts parts.0)
    (numbered_ordered brings make before earlier of m n drafts parts.1)

-- without doubles is in the order of being different
pub apart_from_order : {X : Type 0} (same : X → X → Bool) (xs : List X) → are_in_order (λ a b. not (same a b)) xs ≡ true
    → are_apart same xs ≡ true
apart_from_order same [] h = refl
apart_from_order same (x ∷ xs) h =
    let parts = and_parts (list_all (λ b. not (same x b)) xs) (are_in_order (λ a b. not (same a b)) xs) h in
    and_from (not (list_any (same x) xs)) (are_apart same xs) (none_from (same x) xs parts.0)
    (apart_from_order same xs parts.1)

pub order_from_apart : {X : Type 0} (same : X → X → Bool) (xs : List X) → are_apart same xs ≡ true
    → are_in_order (λ a b. not (same a b)) xs ≡ true
order_from_apart same [] h = refl
order_from_apart same (x ∷ xs) h =
    let parts = and_parts (not (list_any (same x) xs)) (are_apart same xs) h in
    and_from (list_all (λ b. not (same x b)) xs) (are_in_order (λ a b. not (same a b)) xs)
    (each_fails (same x) xs parts.0)
    (order_from_apart same xs parts.1)

-- an order that follows from another, and the order of what is left
pub order_weaker : {X : Type 0} (before later : X → X → Bool) (xs : List X)
    → ((a b : X) → before a b ≡ true → later a b ≡ true) → are_in_order before xs ≡ true → are_in_order later xs ≡ true
order_weaker before later [] of h = refl
order_weaker {X = X} before later (x ∷ xs) of h =
    let parts = and_parts (list_all (before x) xs) (are_in_order before xs) h in
    and_from (list_all (later x) xs) (are_in_order later xs) (behind xs parts.0)
    (order_weaker before later xs of parts.1)
  where
    behind : (ys : List X) → list_all (before x) ys ≡ true → list_all (later x) ys ≡ true
    behind [] k = refl
    behind (y ∷ ys) k =
        let both = and_parts (before x y) (list_all (before x) ys) k in
        and_from (later x y) (list_all (later x) ys) (of x y both.0) (behind ys both.1)

pub order_left : {X : Type 0} (before : X → X → Bool) (test : X → Bool) (xs : List X) → are_in_order before xs ≡ true
    → are_in_order before (filter test xs) ≡ true
order_left before test [] h = refl
order_left before test (x ∷ xs) h =
    let parts = and_parts (list_all (before x) xs) (are_in_order before xs) h in
    by (test x) parts.0 (order_left before test xs parts.1)
  where
    by : (b : Bool) → list_all (before x) xs ≡ true → are_in_order before (filter test xs) ≡ true
        → are_in_order before (cond b (x ∷ filter test xs) (filter test xs)) ≡ true
    by true here more =
        and_from (list_all (before x) (filter test xs)) (are_in_order before (filter test xs))
        (all_left (before x) test xs here) more
    by false here more = more

-- what comes before everything may stand in front
pub order_free : {X : Type 0} (before : X → X → Bool) (xs ys : List X) → Each (λ x. (y : X) → before x y ≡ true) xs
    → are_in_order before ys ≡ true → are_in_order before (xs ++ ys) ≡ true
order_free before [] ys free h = h
order_free {X = X} before (x ∷ xs) ys free h =
    and_from (list_all (before x) (xs ++ ys)) (are_in_order before (xs ++ ys)) (all (xs ++ ys))
    (order_free before xs ys free.1 h)
  where
    all : (zs : List X) → list_all (before x) zs ≡ true
    all [] = refl
    all (z ∷ zs) = and_from (before x z) (list_all (before x) zs) (free.0 z) (all zs)

-- lists made one after another, each in order, of things in order
pub flat_ordered : {X Y : Type 0} (before : Y → Y → Bool) (earlier : X → X → Bool) (Q : X → Y → Type 0) (f : X → List Y)
    → ((x z : X) (a b : Y) → earlier x z ≡ true → Q x a → Q z b → before a b ≡ true) → (xs : List X)
    → Each (λ x. Each (Q x) (f x)) xs → Each (λ x. are_in_order before (f x) ≡ true) xs → are_in_order earlier xs ≡ true
    → are_in_order before (flat_map f xs) ≡ true
flat_ordered before earlier Q f of [] own ordered h = refl
flat_ordered {X = X} {Y = Y} before earlier Q f of (x ∷ xs) own ordered h =
    let parts = and_parts (list_all (earlier x) xs) (are_in_order earlier xs) h in
    order_joined before (f x) (flat_map f xs) ordered.0 (flat_ordered before earlier Q f of xs own.1 ordered.1 parts.1)
    (each_more (Q x) (λ a. list_all (before a) (flat_map f xs) ≡ true) (λ a q. behind a q xs own.1 parts.0) (f x) own.0)
  where
    behind : (a : Y) → Q x a → (zs : List X) → Each (λ z. Each (Q z) (f z)) zs → list_all (earlier x) zs ≡ true
        → list_all (before a) (flat_map f zs) ≡ true
    behind a q [] own k = refl
    behind a q (z ∷ zs) own k =
        let both = and_parts (earlier x z) (list_all (earlier x) zs) k in
        list_all-append (before a) (f z) (flat_map f zs)
        ∙ and_from (list_all (before a) (f z)) (list_all (before a) (flat_map f zs))
        (each_passes (Q z) (before a) (λ b p. of x z a b both.0 q p) (f z) own.0) (behind a q zs own.1 both.1)

-- numbers that ascend are different
range_from : (m a n : ℕ) → m ≤ a → Each (λ i. m ≤ i) (range_with_len a n)
range_from m a zero h = tt
range_from m a (suc n) h = (h, range_from m (a + 1) n (omega (arith, h)))

pub range_apart : (a n : ℕ) → are_in_order (λ i j. not (i == j)) (range_with_len a n) ≡ true
range_apart a zero = refl
range_apart a (suc n) =
    and_from (list_all (λ j. not (a == j)) (range_with_len (a + 1) n))
    (are_in_order (λ i j. not (i == j)) (range_with_len (a + 1) n))
    (each_passes (λ j. a + 1 ≤ j) (λ j. not (a == j))
    (λ j h. not_from_false (a == j) (ne_eqb a j (λ e. omega (arith, h, e))))
    (range_with_len (a + 1) n) (range_from (a + 1) (a + 1) n (omega arith)))
    (range_apart (a + 1) n)
