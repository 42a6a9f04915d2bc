-- The values of a characteristic: pieces of its list, each once and in its order.
use Rattle.std.proofs.Common.{◌≡◌, ℕ, zero, suc, ◌+◌, ◌<◌, Bool, true, false, cond, not, ◌&&◌, nat_lt, List, [], ◌∷◌}
use Rattle.std.proofs.Common.{map, Some, refl, sym, ap, ◌∙◌, arith, subst, ℤ}
use Rattle.std.specs.Prelude.{◌==◌, slice_get}
use Rattle.std.specs.List.{list_all, list_any, position_or_len}
use Rattle.std.specs.Int.Signed.{le_z, lt_z}
use Rattle.std.proofs.lemmas.Bool.{and_from, and_left, and_parts, eq-eqb, lt-ltb, not-true, not_from_false, or_parts}
use Rattle.std.proofs.lemmas.Int.{ints}
use Rattle.vc_value.specs.Grains.{is_ascending, is_below, is_ordered}
use Rattle.vc_value.specs.declared.grains.Grain.{Grain}
use Rattle.vc_value.specs.declared.table_header.Domain.{Domain}
use Rattle.vc_value.specs.declared.table_header.Domain.TheVariants as domains
use Rattle.vc_model_parts.specs.Headers.{grain_of}
use Rattle.vc_model_parts.specs.declared.parts.NumberValue.{NumberValue}
use Rattle.vc_model_parts.specs.declared.parts.TextValue.{TextValue}
use Rattle.vc_model_parts.specs.declared.parts.Values.{Values}
use Rattle.vc_model_parts.specs.declared.parts.Values.TheVariants as values
use Rattle.vc_plan.specs.Alike.{is_proper}
use Rattle.vc_plan.specs.Domains.{grains_in}
use Rattle.vc_plan.specs.Lists.{is_entry, is_same_piece, list_place}
use Rattle.vc_plan.specs.Orders.{are_apart, are_in_order}
use Rattle.vc_plan.specs.Pieces.{is_part}
use Rattle.vc_plan.specs.declared.conditions.Piece.{Piece}
use Rattle.vc_plan.specs.declared.conditions.Piece.TheVariants.{OneText, Stretch}
use Rattle.vc_types.specs.Settings.{are_multiple}
use Rattle.vc_compile_plan.specs.Conditions.{text_in_piece}
use Rattle.vc_compile_plan.specs.Shown.{entries_of, entry_of_numbers, entry_of_text}
use Rattle.vc_compile_valid.specs.Models.{all_values}
use Rattle.vc_compile_valid.proofs.EachLaws.{Each}
use Rattle.vc_compile_valid.proofs.ListLaws.{apart_mapped, from_each}
use Rattle.vc_compile_valid.proofs.NamedLaws.{each_among}
use Rattle.vc_compile_valid.proofs.OrderedLaws.{apart_from_order, order_from_apart, order_mapped, order_weaker}

-- the place of the first that passes
pub place_is : {X : Type 0} (test : X → Bool) (xs : List X) (k : ℕ) (x : X) → slice_get xs k ≡ Some x → test x ≡ true
    → ((j : ℕ) (y : X) → j < k → slice_get xs j ≡ Some y → test y ≡ false) → position_or_len test xs ≡ k
place_is test [] k x e h none = absurd (cc)
place_is test (y ∷ xs) zero x e h none =
    let same : y ≡ x = cc in
    ap (λ b. cond (not b) (1 + position_or_len test xs) 0) (ap test same ∙ h)
place_is test (y ∷ xs) (suc k) x e h none =
    ap (λ b. cond (not b) (1 + position_or_len test xs) 0) (none zero y (omega arith) refl)
    ∙ (let rest = place_is test xs k x e h (λ j z low f. none (suc j) z (omega (arith, low)) f) in omega (arith, rest))

-- two of a list without doubles differ
pub apart_at : {X : Type 0} (same : X → X → Bool) (xs : List X) (j k : ℕ) (y x : X) → are_apart same xs ≡ true → j < k
    → slice_get xs j ≡ Some y → slice_get xs k ≡ Some x → same y x ≡ false
apart_at same [] j k y x h less e f = absurd (cc)
apart_at same (z ∷ xs) zero zero y x h less e f = absurd (omega (arith, less))
apart_at same (z ∷ xs) (suc j) zero y x h less e f = absurd (omega (arith, less))
apart_at same (z ∷ xs) (suc j) (suc k) y x h less e f =
    apart_at same xs j k y x (and_parts (not (list_any (same z) xs)) (are_apart same xs) h).1 (omega (arith, less)) e f
apart_at same (z ∷ xs) zero (suc k) y x h less e f =
    let first : z ≡ y = cc in
    ap (λ w. same w x) (sym first)
    ∙ none_at (same z) xs k x
    (not-true (list_any (same z) xs) (and_parts (not (list_any (same z) xs)) (are_apart same xs) h).0) f
  where
    none_at : {X : Type 0} (p : X → Bool) (xs : List X) (k : ℕ) (x : X) → list_any p xs ≡ false
        → slice_get xs k ≡ Some x → p x ≡ false
    none_at p [] k x h e = absurd (cc)
    none_at p (y ∷ xs) zero x h e = let same : y ≡ x = cc in ap p (sym same) ∙ (or_parts (p y) (list_any p xs) h).0
    none_at p (y ∷ xs) (suc k) x h e = none_at p xs k x (or_parts (p y) (list_any p xs) h).1 e

-- a list without doubles is in the order of its places
pub places_ordered : {X : Type 0} (same : X → X → Bool) (all : List X) → ((x : X) → same x x ≡ true)
    → ((x y : X) → same x y ≡ true → same y x ≡ true) → are_apart same all ≡ true
    → are_in_order (λ x y. nat_lt (position_or_len (same x) all) (position_or_len (same y) all)) all ≡ true
places_ordered {X = X} same all itself turned apart =
    from 0 all (λ k x e. subst (λ m. slice_get all m ≡ Some x) (no_front k) e)
  where
    no_front : (k : ℕ) → k ≡ 0 + k
    no_front k = omega arith

    place : (k : ℕ) (x : X) → slice_get all k ≡ Some x → position_or_len (same x) all ≡ k
    place k x e =
        place_is (same x) all k x e (itself x)
        (λ j y less f. fails (same x y) refl (apart_at same all j k y x apart less f e))
      where
        fails : {y : X} (b : Bool) → same x y ≡ b → same y x ≡ false → same x y ≡ false
        fails false h k = h
        fails {y = y} true h k = absurd (let both : true ≡ false = sym (turned x y h) ∙ k in cc)

    from : (n : ℕ) (xs : List X) → ((k : ℕ) (x : X) → slice_get xs k ≡ Some x → slice_get all (n + k) ≡ Some x)
        → are_in_order (λ x y. nat_lt (position_or_len (same x) all) (position_or_len (same y) all)) xs ≡ true
    from n [] h = refl
    from n (x ∷ xs) h =
        and_from (list_all (λ y. nat_lt (position_or_len (same x) all) (position_or_len (same y) all)) xs)
        (are_in_order (λ x y. nat_lt (position_or_len (same x) all) (position_or_len (same y) all)) xs)
        (from_each (λ y. nat_lt (position_or_len (same x) all) (position_or_len (same y) all)) xs
        (λ k y e. let first = place (n + 0) x (h zero x refl) in
        let later = place (n + suc k) y (h (suc k) y e) in
        lt-ltb (position_or_len (same x) all) (position_or_len (same y) all) (omega (arith, first, later))))
        (from (suc n) xs (λ k y e. subst (λ m. slice_get all m ≡ Some y) (one_more n k) (h (suc k) y e)))
      where
        one_more : (n k : ℕ) → n + suc k ≡ suc n + k
        one_more n k = omega arith

-- pieces that are the same
not_above : (z : ℤ) → le_z z z ≡ true
not_above z = grind (arith, ints)

pub piece_itself : (p : Piece) → is_same_piece p p ≡ true
piece_itself (OneText t) = and_from (t == t) (t == t) (eq-eqb t t refl) (eq-eqb t t refl)
piece_itself (Stretch grain) =
    let one
    = and_from (le_z grain.low.millionths grain.low.millionths) (le_z grain.high.millionths grain.high.millionths)
    (not_above grain.low.millionths) (not_above grain.high.millionths) in
    and_from (is_part (Stretch grain) (Stretch grain)) (is_part (Stretch grain) (Stretch grain)) one one

piece_turned : (p q : Piece) → is_same_piece p q ≡ true → is_same_piece q p ≡ true
piece_turned p q h = let parts = and_parts (is_part p q) (is_part q p) h in
    and_from (is_part q p) (is_part p q) parts.1 parts.0

-- the pieces of a list without doubles
apart_grains : (g h : Grain) → is_ordered g ≡ true → is_below h.low g ≡ true
    → is_same_piece (Stretch g) (Stretch h) ≡ false
apart_grains g h ordered below =
    and_left (is_part (Stretch g) (Stretch h)) (is_part (Stretch h) (Stretch g))
    (and_left (le_z h.low.millionths g.low.millionths) (le_z g.high.millionths h.high.millionths)
    (past g.low.millionths g.high.millionths h.low.millionths ordered below))
  where
    past : (low high next : ℤ) → le_z low high ≡ true → lt_z high next ≡ true → le_z next low ≡ false
    past low high next p q = grind (arith, ints)

ascending_apart : (grains : List Grain) → is_ascending grains ≡ true
    → are_in_order (λ p q. not (is_same_piece p q)) (map Stretch grains) ≡ true
ascending_apart [] h = refl
ascending_apart (g ∷ grains) h =
    let parts = and_parts (is_ordered g) (list_all (λ later. is_below later.low g) grains && is_ascending grains) h in
    let rest = and_parts (list_all (λ later. is_below later.low g) grains) (is_ascending grains) parts.1 in
    and_from (list_all (λ q. not (is_same_piece (Stretch g) q)) (map Stretch grains))
    (are_in_order (λ p q. not (is_same_piece p q)) (map Stretch grains)) (behind grains parts.0 rest.0)
    (ascending_apart grains rest.1)
  where
    behind : (hs : List Grain) → is_ordered g ≡ true → list_all (λ later. is_below later.low g) hs ≡ true
        → list_all (λ q. not (is_same_piece (Stretch g) q)) (map Stretch hs) ≡ true
    behind [] ordered k = refl
    behind (h ∷ hs) ordered k =
        let both = and_parts (is_below h.low g) (list_all (λ later. is_below later.low g) hs) k in
        and_from (not (is_same_piece (Stretch g) (Stretch h)))
        (list_all (λ q. not (is_same_piece (Stretch g) q)) (map Stretch hs))
        (not_from_false (is_same_piece (Stretch g) (Stretch h)) (apart_grains g h ordered both.0))
        (behind hs ordered both.1)

pub pieces_apart : (domain : Domain) → is_proper domain ≡ true
    → are_apart is_same_piece (grains_in (Some domain)) ≡ true
pieces_apart (domains.Texts texts) h =
    apart_mapped is_same_piece OneText texts
    ∙ apart_from_order (λ s t. is_same_piece (OneText s) (OneText t)) texts
    (order_weaker (λ s t. not (s == t)) (λ s t. not (is_same_piece (OneText s) (OneText t))) texts
    (λ s t e. not_from_false ((s == t) && (t == s)) (and_left (s == t) (t == s) (not-true (s == t) e)))
    (order_from_apart (λ s t. s == t) texts h))
pieces_apart (domains.Nums decimals grains) h =
    let parts = and_parts (is_ascending grains) _ h in
    apart_from_order is_same_piece (map Stretch grains) (ascending_apart grains parts.0)

-- the pieces of a characteristic's values are the grains of its list
pub text_pieces : (xs : List TextValue)
    → map (λ e. e.piece) (map entry_of_text xs) ≡ map OneText (map (λ value. value.text) xs)
text_pieces [] = refl
text_pieces (x ∷ xs) = ap (λ ps. OneText x.text ∷ ps) (text_pieces xs)

pub number_pieces : (xs : List NumberValue)
    → map (λ e. e.piece) (map entry_of_numbers xs) ≡ map Stretch (map grain_of xs)
number_pieces [] = refl
number_pieces (x ∷ xs) = ap (λ ps. Stretch (grain_of x) ∷ ps) (number_pieces xs)

pub pieces_are : (v : Values) → map (λ e. e.piece) (entries_of v) ≡ grains_in (Some (all_values v))
pieces_are (values.Texts size multiple listed) = text_pieces listed
pieces_are (values.Numbers decimals unit listed) = number_pieces listed

-- what holds of each of what is made of a list, holds so of each of the list
pub each_unmapped : {X Y : Type 0} (P : Y → Type 0) (f : X → Y) (xs : List X) → Each P (map f xs)
    → Each (λ x. P (f x)) xs
each_unmapped P f [] h = tt
each_unmapped P f (x ∷ xs) h = (h.0, each_unmapped P f xs h.1)

-- each is an entry, and they are in the order of their places
pub entries_listed : (v : Values) → Each (λ e. is_entry (Some (all_values v)) e.piece ≡ true) (entries_of v)
entries_listed v =
    each_unmapped (λ p. is_entry (Some (all_values v)) p ≡ true) (λ e. e.piece) (entries_of v)
    (subst (Each (λ p. is_entry (Some (all_values v)) p ≡ true)) (sym (pieces_are v))
    (each_among is_same_piece piece_itself (grains_in (Some (all_values v)))))

pub entries_ordered : (v : Values) → is_proper (all_values v) ≡ true
    → are_in_order (λ a b. nat_lt (list_place (Some (all_values v)) a.piece) (list_place (Some (all_values v)) b.piece))
    (entries_of v) ≡ true
entries_ordered v proper =
    let place : Piece → ℕ = list_place (Some (all_values v)) in
    sym (order_mapped (λ p q. nat_lt (place p) (place q)) (λ e. e.piece) (entries_of v))
    ∙ ap (are_in_order (λ p q. nat_lt (place p) (place q))) (pieces_are v)
    ∙ places_ordered is_same_piece (grains_in (Some (all_values v))) piece_itself piece_turned
    (pieces_apart (all_values v) proper)

-- values of which there may be several are texts
pub are_one_text : (v : Values) → are_multiple v ≡ true
    → Each (λ e. OneText (text_in_piece e.piece) ≡ e.piece) (entries_of v)
are_one_text (values.Numbers decimals unit listed) h = absurd (cc)
are_one_text (values.Texts size multiple listed) h = of listed
  where
    of : (xs : List TextValue) → Each (λ e. OneText (text_in_piece e.piece) ≡ e.piece) (map entry_of_text xs)
    of [] = tt
    of (x ∷ xs) = (refl, of xs)
