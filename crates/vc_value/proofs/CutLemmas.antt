-- What a cut does to grains: they still ascend, and are at most two more.
use Rattle.std.proofs.Common.{◌≡◌, ℕ, ◌+◌, ◌-◌, ◌%◌, ◌<◌, ◌≤◌, Bool, true, false, List, [], ◌∷◌, ◌++◌, length, refl}
use Rattle.std.proofs.Common.{sym, ap, ◌∙◌, arith, append_assoc, length-append, ℤ, pos, negsuc, ◌+ℤ◌, if◌then◌else◌}
use Rattle.std.specs.List.{list_all, flat_map}
use Rattle.std.specs.Int.{int_min, int_max, int_rem_euclid}
use Rattle.std.specs.Int.Signed.{lt_z, le_z}
use Rattle.std.proofs.lemmas.Int.{ints}
use Rattle.std.proofs.lemmas.List.Folds.{list_all-append}
use Rattle.vc_value.specs.declared.grains.Grain.{Grain}
use Rattle.vc_value.specs.Grains.{interval, part_between, part_below, part_at, part_above, parts_of, next_below}
use Rattle.vc_value.specs.Grains.{next_above, is_multiple, is_below, is_ordered, is_ascending}
use Rattle.vc_value.proofs.GrainLemmas.{both, both_true}

pub one_part : (low high from to : ℤ) (grain part : Grain) → from ≡ int_max grain.low.millionths low
    → to ≡ int_min grain.high.millionths high → le_z from to ≡ true → part ≡ interval from to
    → (part ∷ []) ≡ part_between low high grain
one_part low high from to grain part starts ends some is =
    ap (λ p. p ∷ []) is ∙ sym (
    let computed : part_between low high grain ≡ (if le_z from to then interval from to ∷ [] else [])
    = rw (starts, ends) refl in
    computed ∙ ap (λ b. if b then interval from to ∷ [] else []) some)

pub three_pushed : {X : Type 0} (old a b c first second third : List X) → first ≡ old ++ a → second ≡ first ++ b
    → third ≡ second ++ c → third ≡ old ++ ((a ++ b) ++ c)
three_pushed old a b c first second third p q r =
    r ∙ ap (λ l. l ++ c) (q ∙ ap (λ l. l ++ b) p ∙ append_assoc old a b) ∙ append_assoc old (a ++ b) c

-- the rest is a number below the unit
rest_of : (z : ℤ) (unit : ℕ) → 0 < unit → (rest : ℕ) × (int_rem_euclid z (pos unit) ≡ pos rest) × (rest < unit)
rest_of (pos a) unit some = (a % unit, refl, omega arith)
rest_of (negsuc a) unit some = (unit - 1 - a % unit, refl, omega arith)

pub below_cut : (unit : ℕ) (at : ℤ) → 0 < unit → lt_z (next_below unit at) at ≡ true
below_cut unit at some = let rest = rest_of at unit some in rw rest.1 (grind (arith, ints))

pub above_cut : (unit : ℕ) (at : ℤ) → 0 < unit → lt_z at (next_above unit at) ≡ true
above_cut unit at some = let rest = rest_of at unit some in rw rest.1 (grind (arith, ints))

-- what holds of the interval, if there is one, holds of the part
pub part_all : (p : Grain → Bool) (low high : ℤ) (grain : Grain)
    → (le_z (int_max grain.low.millionths low) (int_min grain.high.millionths high) ≡ true
    → p (interval (int_max grain.low.millionths low) (int_min grain.high.millionths high)) ≡ true)
    → list_all p (part_between low high grain) ≡ true
part_all p low high grain holds =
    let from = int_max grain.low.millionths low in
    let to = int_min grain.high.millionths high in
    elim (le_z from to) as (λ b. le_z from to ≡ b → list_all p (if b then interval from to ∷ [] else []) ≡ true) [
      | true ↦ λ some. both_true (p (interval from to)) true (holds some) refl
      | false ↦ λ none. refl
    ] refl

part_ascending : (low high : ℤ) (grain : Grain) → is_ascending (part_between low high grain) ≡ true
part_ascending low high grain =
    let from = int_max grain.low.millionths low in
    let to = int_min grain.high.millionths high in
    elim (le_z from to) as (λ b. le_z from to ≡ b → is_ascending (if b then interval from to ∷ [] else []) ≡ true) [
      | true ↦ λ some. both_true (le_z from to) true some refl
      | false ↦ λ none. refl
    ] refl

part_at_most_one : (low high : ℤ) (grain : Grain) → length (part_between low high grain) ≤ 1
part_at_most_one low high grain =
    elim (le_z (int_max grain.low.millionths low) (int_min grain.high.millionths high)) as
    (λ b. length (if b then interval (int_max grain.low.millionths low) (int_min grain.high.millionths high)
    ∷ [] else []) ≤ 1) [
      | true ↦ omega arith
      | false ↦ omega arith
    ]

part_none : (low high : ℤ) (grain : Grain)
    → le_z (int_max grain.low.millionths low) (int_min grain.high.millionths high) ≡ false
    → part_between low high grain ≡ []
part_none low high grain none =
    ap (λ b. if b then interval (int_max grain.low.millionths low) (int_min grain.high.millionths high) ∷ [] else [])
    none

pub part_at_all : (p : Grain → Bool) (unit : ℕ) (at : ℤ) (grain : Grain) → list_all p (part_between at at grain) ≡ true
    → list_all p (part_at unit at grain) ≡ true
part_at_all p unit at grain holds =
    elim (is_multiple unit at) as (λ b. list_all p (if b then part_between at at grain else []) ≡ true)
    [ true ↦ holds | false ↦ refl ]

part_at_ascending : (unit : ℕ) (at : ℤ) (grain : Grain) → is_ascending (part_at unit at grain) ≡ true
part_at_ascending unit at grain =
    elim (is_multiple unit at) as (λ b. is_ascending (if b then part_between at at grain else []) ≡ true)
    [ true ↦ part_ascending at at grain | false ↦ refl ]

part_at_at_most_one : (unit : ℕ) (at : ℤ) (grain : Grain) → length (part_at unit at grain) ≤ 1
part_at_at_most_one unit at grain =
    elim (is_multiple unit at) as (λ b. length (if b then part_between at at grain else []) ≤ 1)
    [ true ↦ part_at_most_one at at grain | false ↦ omega arith ]

pub all_append : {X : Type 0} (p : X → Bool) (xs ys : List X) → list_all p xs ≡ true → list_all p ys ≡ true
    → list_all p (xs ++ ys) ≡ true
all_append p xs ys a b = list_all-append p xs ys ∙ both_true (list_all p xs) (list_all p ys) a b

all_weaker : {X : Type 0} (p q : X → Bool) (xs : List X) → ((x : X) → p x ≡ true → q x ≡ true) → list_all p xs ≡ true
    → list_all q xs ≡ true
all_weaker p q [] weaker all = refl
all_weaker p q (x ∷ xs) weaker all = let parts = both (p x) (list_all p xs) all in
    both_true (q x) (list_all q xs) (weaker x parts.0) (all_weaker p q xs weaker parts.1)

-- the ends of a part lie between those of the grain and those of the cut
low_kept : (low high : ℤ) (grain : Grain)
    → list_all (λ p. le_z grain.low.millionths p.low.millionths) (part_between low high grain) ≡ true
low_kept low high grain =
    part_all (λ p. le_z grain.low.millionths p.low.millionths) low high grain (λ some. grind (arith, ints))

low_from : (low high : ℤ) (grain : Grain)
    → list_all (λ p. le_z low p.low.millionths) (part_between low high grain) ≡ true
low_from low high grain = part_all (λ p. le_z low p.low.millionths) low high grain (λ some. grind (arith, ints))

high_kept : (low high : ℤ) (grain : Grain)
    → list_all (λ p. le_z p.high.millionths grain.high.millionths) (part_between low high grain) ≡ true
high_kept low high grain =
    part_all (λ p. le_z p.high.millionths grain.high.millionths) low high grain (λ some. grind (arith, ints))

high_to : (low high : ℤ) (grain : Grain)
    → list_all (λ p. le_z p.high.millionths high) (part_between low high grain) ≡ true
high_to low high grain = part_all (λ p. le_z p.high.millionths high) low high grain (λ some. grind (arith, ints))

-- parts keep to the grain's ends
parts_low : (unit : ℕ) (at : ℤ) (grain : Grain)
    → list_all (λ p. le_z grain.low.millionths p.low.millionths) (parts_of unit at grain) ≡ true
parts_low unit at grain =
    let p : Grain → Bool = λ p. le_z grain.low.millionths p.low.millionths in
    all_append p (part_below unit at grain ++ part_at unit at grain) (part_above unit at grain)
    (all_append p (part_below unit at grain) (part_at unit at grain)
    (low_kept grain.low.millionths (next_below unit at) grain) (part_at_all p unit at grain (low_kept at at grain)))
    (low_kept (next_above unit at) grain.high.millionths grain)

parts_high : (unit : ℕ) (at : ℤ) (grain : Grain)
    → list_all (λ p. le_z p.high.millionths grain.high.millionths) (parts_of unit at grain) ≡ true
parts_high unit at grain =
    let p : Grain → Bool = λ p. le_z p.high.millionths grain.high.millionths in
    all_append p (part_below unit at grain ++ part_at unit at grain) (part_above unit at grain)
    (all_append p (part_below unit at grain) (part_at unit at grain)
    (high_kept grain.low.millionths (next_below unit at) grain) (part_at_all p unit at grain (high_kept at at grain)))
    (high_kept (next_above unit at) grain.high.millionths grain)

chain_lt : (a b c e : ℤ) → le_z a b ≡ true → lt_z b c ≡ true → le_z c e ≡ true → lt_z a e ≡ true
chain_lt a b c e p q r = grind (arith, ints)

-- grains that end at a number, and then others that begin above it
joined : (xs ys : List Grain) (a b : ℤ) → is_ascending xs ≡ true → is_ascending ys ≡ true
    → list_all (λ g. le_z g.high.millionths a) xs ≡ true → list_all (λ g. le_z b g.low.millionths) ys ≡ true
    → lt_z a b ≡ true
    → is_ascending (xs ++ ys) ≡ true
joined [] ys a b first second to from apart = second
joined (x ∷ xs) ys a b first second to from apart =
    let p : Grain → Bool = λ later. is_below later.low x in
    let rest = both (list_all p xs) (is_ascending xs) (both (is_ordered x) _ first).1 in
    let ends = both (le_z x.high.millionths a) (list_all (λ g. le_z g.high.millionths a) xs) to in
    both_true (is_ordered x) _ (both (is_ordered x) _ first).0
    (both_true (list_all p (xs ++ ys)) _
    (all_append p xs ys rest.0
    (all_weaker (λ g. le_z b g.low.millionths) p ys
    (λ y above. chain_lt x.high.millionths a b y.low.millionths ends.0 apart above) from))
    (joined xs ys a b rest.1 second ends.1 from apart))

at_high : (unit : ℕ) (at : ℤ) (grain : Grain) → list_all (λ p. le_z p.high.millionths at) (part_at unit at grain) ≡ true
at_high unit at grain = part_at_all (λ p. le_z p.high.millionths at) unit at grain (high_to at at grain)

lt_le : (a b c : ℤ) → le_z a b ≡ true → lt_z b c ≡ true → le_z a c ≡ true
lt_le a b c p q = grind (arith, ints)

parts_ascending : (unit : ℕ) (at : ℤ) (grain : Grain) → 0 < unit → is_ascending (parts_of unit at grain) ≡ true
parts_ascending unit at grain some =
    let below = part_below unit at grain in
    let here = part_at unit at grain in
    let low_half = joined below here (next_below unit at) at
    (part_ascending grain.low.millionths (next_below unit at) grain) (part_at_ascending unit at grain)
    (high_to grain.low.millionths (next_below unit at) grain)
    (part_at_all (λ p. le_z at p.low.millionths) unit at grain (low_from at at grain)) (below_cut unit at some) in
    let ends = all_append (λ p. le_z p.high.millionths at) below here
    (all_weaker (λ p. le_z p.high.millionths (next_below unit at)) (λ p. le_z p.high.millionths at) below
    (λ p to. lt_le p.high.millionths (next_below unit at) at to (below_cut unit at some))
    (high_to grain.low.millionths (next_below unit at) grain))
    (at_high unit at grain) in
    joined (below ++ here) (part_above unit at grain) at (next_above unit at) low_half
    (part_ascending (next_above unit at) grain.high.millionths grain)
    ends (low_from (next_above unit at) grain.high.millionths grain) (above_cut unit at some)

le_le : (a b c : ℤ) → le_z a b ≡ true → le_z b c ≡ true → le_z a c ≡ true
le_le a b c p q = grind (arith, ints)

-- parts begin no lower than the grains
flat_low : (unit : ℕ) (at b : ℤ) (grains : List Grain) → list_all (λ g. le_z b g.low.millionths) grains ≡ true
    → list_all (λ g. le_z b g.low.millionths) (flat_map (parts_of unit at) grains) ≡ true
flat_low unit at b [] from = refl
flat_low unit at b (g ∷ gs) from =
    let starts = both (le_z b g.low.millionths) (list_all (λ g. le_z b g.low.millionths) gs) from in
    all_append (λ g. le_z b g.low.millionths) (parts_of unit at g) (flat_map (parts_of unit at) gs)
    (all_weaker (λ p. le_z g.low.millionths p.low.millionths) (λ p. le_z b p.low.millionths) (parts_of unit at g)
    (λ p kept. le_le b g.low.millionths p.low.millionths starts.0 kept) (parts_low unit at g))
    (flat_low unit at b gs starts.1)

next_from : (a b : ℤ) → lt_z a b ≡ true → le_z (a +ℤ pos 1) b ≡ true
next_from a b p = grind (arith, ints)

before_next : (a : ℤ) → lt_z a (a +ℤ pos 1) ≡ true
before_next a = grind (arith, ints)

pub cut_ascending : (unit : ℕ) (at : ℤ) (grains : List Grain) → 0 < unit → is_ascending grains ≡ true
    → is_ascending (flat_map (parts_of unit at) grains) ≡ true
cut_ascending unit at [] some ascend = refl
cut_ascending unit at (g ∷ gs) some ascend =
    let rest = both (list_all (λ later. is_below later.low g) gs) (is_ascending gs) (both (is_ordered g) _ ascend).1 in
    let next = g.high.millionths +ℤ pos 1 in
    joined (parts_of unit at g) (flat_map (parts_of unit at) gs) g.high.millionths next
    (parts_ascending unit at g some) (cut_ascending unit at gs some rest.1) (parts_high unit at g)
    (flat_low unit at next gs
    (all_weaker (λ later. is_below later.low g) (λ later. le_z next later.low.millionths) gs
    (λ later above. next_from g.high.millionths later.low.millionths above) rest.0))
    (before_next g.high.millionths)

parts_length : (unit : ℕ) (at : ℤ) (grain : Grain)
    → length (parts_of unit at grain)
    ≡ (length (part_below unit at grain) + length (part_at unit at grain)) + length (part_above unit at grain)
parts_length unit at grain =
    length-append (part_below unit at grain ++ part_at unit at grain) (part_above unit at grain)
    ∙ ap (λ n. n + length (part_above unit at grain)) (length-append (part_below unit at grain) (part_at unit at grain))

at_most_three : (unit : ℕ) (at : ℤ) (grain : Grain) → length (parts_of unit at grain) ≤ 3
at_most_three unit at grain =
    omega (
      arith,
      parts_length unit at grain,
      part_at_most_one grain.low.millionths (next_below unit at) grain,
      part_at_at_most_one unit at grain,
      part_at_most_one (next_above unit at) grain.high.millionths grain,
    )

at_outside : (unit : ℕ) (at : ℤ) (grain : Grain) → part_between at at grain ≡ [] → length (part_at unit at grain) ≡ 0
at_outside unit at grain none =
    elim (is_multiple unit at) as (λ b. length (if b then part_between at at grain else []) ≡ 0)
    [ true ↦ ap length none | false ↦ refl ]

outside_low : (low high a : ℤ) → lt_z high a ≡ true → le_z (int_max low a) (int_min high a) ≡ false
outside_low low high a below = grind (arith, ints)

outside_high : (low high a : ℤ) → lt_z a low ≡ true → le_z (int_max low a) (int_min high a) ≡ false
outside_high low high a above = grind (arith, ints)

outside_above : (low high at next : ℤ) → lt_z high at ≡ true → lt_z at next ≡ true
    → le_z (int_max low next) (int_min high high) ≡ false
outside_above low high at next below above = grind (arith, ints)

outside_below : (low high at next : ℤ) → lt_z at low ≡ true → lt_z next at ≡ true
    → le_z (int_max low low) (int_min high next) ≡ false
outside_below low high at next above below = grind (arith, ints)

-- a grain that lies below the cut or above it stays one
one_below : (unit : ℕ) (at : ℤ) (grain : Grain) → 0 < unit → lt_z grain.high.millionths at ≡ true
    → length (parts_of unit at grain) ≤ 1
one_below unit at grain some below =
    let low = grain.low.millionths in
    let high = grain.high.millionths in
    omega (
      arith,
      parts_length unit at grain,
      part_at_most_one low (next_below unit at) grain,
      at_outside unit at grain (part_none at at grain (outside_low low high at below)),
      ap length (part_none (next_above unit at) high grain
          (outside_above low high at (next_above unit at) below (above_cut unit at some))),
    )

one_above : (unit : ℕ) (at : ℤ) (grain : Grain) → 0 < unit → lt_z at grain.low.millionths ≡ true
    → length (parts_of unit at grain) ≤ 1
one_above unit at grain some above =
    let low = grain.low.millionths in
    let high = grain.high.millionths in
    omega (
      arith,
      parts_length unit at grain,
      part_at_most_one (next_above unit at) high grain,
      at_outside unit at grain (part_none at at grain (outside_high low high at above)),
      ap length (part_none low (next_below unit at) grain
          (outside_below low high at (next_below unit at) above (below_cut unit at some))),
    )

all_above : (unit : ℕ) (at : ℤ) (grains : List Grain) → 0 < unit
    → list_all (λ g. lt_z at g.low.millionths) grains ≡ true
    → length (flat_map (parts_of unit at) grains) ≤ length grains
all_above unit at [] some above = omega arith
all_above unit at (g ∷ gs) some above =
    let parts = both (lt_z at g.low.millionths) (list_all (λ g. lt_z at g.low.millionths) gs) above in
    omega (
      arith,
      length-append (parts_of unit at g) (flat_map (parts_of unit at) gs),
      one_above unit at g some parts.0,
      all_above unit at gs some parts.1,
    )

past : (at high low : ℤ) → lt_z high at ≡ false → lt_z high low ≡ true → lt_z at low ≡ true
past at high low reached above = grind (arith, ints)

pub cut_length : (unit : ℕ) (at : ℤ) (grains : List Grain) → 0 < unit → is_ascending grains ≡ true
    → length (flat_map (parts_of unit at) grains) ≤ length grains + 2
cut_length unit at [] some ascend = omega arith
cut_length unit at (g ∷ gs) some ascend =
    let rest = both (list_all (λ later. is_below later.low g) gs) (is_ascending gs) (both (is_ordered g) _ ascend).1 in
    let joined_length = length-append (parts_of unit at g) (flat_map (parts_of unit at) gs) in
    elim (lt_z g.high.millionths at) as
    (λ b. lt_z g.high.millionths at ≡ b
    → length (parts_of unit at g ++ flat_map (parts_of unit at) gs) ≤ length (g ∷ gs) + 2) [
      | true ↦ λ below. omega (arith, joined_length, one_below unit at g some below, cut_length unit at gs some rest.1)
      | false ↦ λ reached. omega (
        arith,
        joined_length,
        at_most_three unit at g,
        all_above unit at gs some
            (all_weaker (λ later. is_below later.low g) (λ later. lt_z at later.low.millionths) gs
            (λ later above. past at g.high.millionths later.low.millionths reached above) rest.0),
      )
    ] refl
