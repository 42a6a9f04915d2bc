-- What all cuts leave of the grains of a list: they lie in it, ascend, keep its decimals and all of its numbers.
use Rattle.std.proofs.Common.{◌≡◌, ℕ, zero, suc, ◌-◌, ◌<◌, Bool, true, false, ◌&&◌, List, [], ◌∷◌, ◌++◌, Some, refl}
use Rattle.std.proofs.Common.{sym, ap, ◌∙◌, arith, ℤ, pos, ◌+ℤ◌, inl, inr, unsigned_abs, if◌then◌else◌}
use Rattle.std.specs.Prelude.{◌^◌, slice_get}
use Rattle.std.specs.List.{list_all, list_any}
use Rattle.std.specs.Int.{int_max, int_min}
use Rattle.std.specs.Int.Signed.{le_z, lt_z}
use Rattle.std.specs.Ordering.{int_eq}
use Rattle.std.proofs.lemmas.Bool.{and_from, and_parts, lt-ltb, ltb-true, or_cases, or_left, or_right}
use Rattle.std.proofs.lemmas.Int.{clamps, ints}
use Rattle.vc_value.specs.declared.decimal.Dec.{Dec}
use Rattle.vc_value.specs.declared.grains.Grain.{Grain}
use Rattle.vc_value.specs.Grains.{cut_at, has_decimals, hold, holds, interval, is_ascending, is_below, is_multiple}
use Rattle.vc_value.specs.Grains.{is_ordered, next_above, next_below, part_above, part_at, part_below, part_between}
use Rattle.vc_value.specs.Grains.{parts_of, unit_of}
use Rattle.vc_value.proofs.CutLaws.{cut_keeps}
use Rattle.vc_value.proofs.CutLemmas.{all_append, cut_ascending, part_all, part_at_all}
use Rattle.vc_value.proofs.PowerLemmas.{ten_pow_pos}
use Rattle.vc_plan.specs.Lists.{are_cut_up, begins_at, ends_at, goes_on, is_within}
use Rattle.vc_plan.specs.Pieces.{is_part}
use Rattle.vc_plan.specs.Ranges.{grain_there, is_stored}
use Rattle.vc_plan.specs.declared.conditions.Piece.TheVariants.{Stretch}
use Rattle.vc_compile_plan.specs.Cuts.{cut_all}
use Rattle.vc_compile_valid.proofs.ListLaws.{all_flat, any_there, from_each, passes_there, some_there}
use Rattle.vc_compile_valid.proofs.MultipleLaws.{above_multiple, below_multiple, max_multiple, min_multiple}
use Rattle.vc_compile_valid.proofs.MultipleLaws.{more_multiple, multiples_apart}

-- what holds of each interval within a grain holds of its parts
abbrev pub Goes : (Grain → Bool) → Grain → Type 0
Goes p grain =
    (from to : ℤ) → le_z grain.low.millionths from ≡ true → le_z from to ≡ true → le_z to grain.high.millionths ≡ true
    → p (interval from to) ≡ true

max_above : (a b : ℤ) → le_z a (int_max a b) ≡ true
max_above a b = grind (arith, ints, clamps)

min_below : (a b : ℤ) → le_z (int_min a b) a ≡ true
min_below a b = grind (arith, ints, clamps)

between_pass : (p : Grain → Bool) (low high : ℤ) (grain : Grain) → Goes p grain
    → list_all p (part_between low high grain) ≡ true
between_pass p low high grain of =
    part_all p low high grain
    (λ ordered. of (int_max grain.low.millionths low) (int_min grain.high.millionths high)
    (max_above grain.low.millionths low) ordered
    (min_below grain.high.millionths high))

pub parts_pass : (p : Grain → Bool) (unit : ℕ) (at : ℤ) (grain : Grain) → Goes p grain
    → list_all p (parts_of unit at grain) ≡ true
parts_pass p unit at grain of =
    all_append p (part_below unit at grain ++ part_at unit at grain) (part_above unit at grain)
    (all_append p (part_below unit at grain) (part_at unit at grain)
    (between_pass p grain.low.millionths (next_below unit at) grain of)
    (part_at_all p unit at grain (between_pass p at at grain of)))
    (between_pass p (next_above unit at) grain.high.millionths grain of)

-- and of all that is cut
pub cuts_pass : (p : Grain → Bool) → ((grain : Grain) → p grain ≡ true → Goes p grain)
    → (decimals : ℕ) (grains : List Grain)
    (numbers : List Dec) → list_all p grains ≡ true → list_all p (cut_all decimals grains numbers) ≡ true
cuts_pass p of decimals grains [] h = h
cuts_pass p of decimals grains (number ∷ numbers) h =
    cuts_pass p of decimals (cut_at decimals number grains) numbers
    (all_flat p (parts_of (unit_of decimals) number.millionths) grains (each grains h))
  where
    each : (gs : List Grain) → list_all p gs ≡ true
        → list_all (λ g. list_all p (parts_of (unit_of decimals) number.millionths g)) gs ≡ true
    each [] k = refl
    each (g ∷ gs) k =
        let parts = and_parts (p g) (list_all p gs) k in
        and_from (list_all p (parts_of (unit_of decimals) number.millionths g))
        (list_all (λ g. list_all p (parts_of (unit_of decimals) number.millionths g)) gs)
        (parts_pass p (unit_of decimals) number.millionths g (of g parts.0)) (each gs parts.1)

-- numbers small enough stay so
pub between : (low z high : ℤ) (m : ℕ) → le_z low z ≡ true → le_z z high ≡ true → unsigned_abs low < m
    → unsigned_abs high < m
    → unsigned_abs z < m
between low z high m p q r s = grind (arith, ints)

pub le_le : (a b c : ℤ) → le_z a b ≡ true → le_z b c ≡ true → le_z a c ≡ true
le_le a b c p q = grind (arith, ints)

stored_between : (grain : Grain) (z : ℤ) → grain_there grain ≡ true → le_z grain.low.millionths z ≡ true
    → le_z z grain.high.millionths ≡ true → is_stored (record { millionths = z }) ≡ true
stored_between grain z h from to =
    let ends = and_parts (is_stored grain.low) (is_stored grain.high) h in
    lt-ltb (unsigned_abs z) (10 ^ 15)
    (between grain.low.millionths z grain.high.millionths (10 ^ 15) from to
    (ltb-true (unsigned_abs grain.low.millionths) (10 ^ 15) ends.0)
    (ltb-true (unsigned_abs grain.high.millionths) (10 ^ 15) ends.1))

pub cuts_there : (decimals : ℕ) (grains : List Grain) (numbers : List Dec) → list_all grain_there grains ≡ true
    → list_all grain_there (cut_all decimals grains numbers) ≡ true
cuts_there decimals grains numbers h =
    cuts_pass grain_there
    (λ grain k from to low ordered high.
    and_from (is_stored (record { millionths = from })) (is_stored (record { millionths = to }))
    (stored_between grain from k low (le_le from to grain.high.millionths ordered high))
    (stored_between grain to k (le_le grain.low.millionths from to low ordered) high)) decimals grains numbers h

-- each lies within an entry
within_part : (entries : List Grain) (grain : Grain) (from to : ℤ) → is_within entries grain ≡ true
    → le_z grain.low.millionths from ≡ true → le_z to grain.high.millionths ≡ true
    → is_within entries (interval from to) ≡ true
within_part [] grain from to h low high = absurd (cc)
within_part (e ∷ entries) grain from to h low high =
    elim (or_cases (is_part (Stretch grain) (Stretch e)) (is_within entries grain) h) [
      | inl here ↦
          let parts
          = and_parts (le_z e.low.millionths grain.low.millionths) (le_z grain.high.millionths e.high.millionths)
          here in
          or_left (is_part (Stretch (interval from to)) (Stretch e)) (is_within entries (interval from to))
          (and_from (le_z e.low.millionths from) (le_z to e.high.millionths)
          (le_le e.low.millionths grain.low.millionths from parts.0 low)
          (le_le to grain.high.millionths e.high.millionths high parts.1))
      | inr later ↦ or_right (is_part (Stretch (interval from to)) (Stretch e)) (is_within entries (interval from to))
          (within_part entries grain from to later low high)
    ]

le_itself : (z : ℤ) → le_z z z ≡ true
le_itself z = grind (arith, ints)

within_itself : (grain : Grain) → is_part (Stretch grain) (Stretch grain) ≡ true
within_itself grain =
    and_from (le_z grain.low.millionths grain.low.millionths) (le_z grain.high.millionths grain.high.millionths)
    (le_itself grain.low.millionths) (le_itself grain.high.millionths)

pub cuts_within : (decimals : ℕ) (entries : List Grain) (numbers : List Dec)
    → list_all (is_within entries) (cut_all decimals entries numbers) ≡ true
cuts_within decimals entries numbers =
    cuts_pass (is_within entries) (λ grain k from to low ordered high. within_part entries grain from to k low high)
    decimals entries numbers
    (from_each (is_within entries) entries
    (λ k e at. any_there (λ entry. is_part (Stretch e) (Stretch entry)) entries k e at (within_itself e)))

-- grains that ascend, with ends of at most the decimals
abbrev pub has_ends : ℕ → Grain → Bool
has_ends decimals grain = has_decimals decimals grain.low && has_decimals decimals grain.high

some_unit : (decimals : ℕ) → 0 < unit_of decimals
some_unit decimals = ten_pow_pos (6 - decimals)

between_ends : (decimals : ℕ) (low high : ℤ) (grain : Grain) → has_ends decimals grain ≡ true
    → is_multiple (unit_of decimals) low ≡ true → is_multiple (unit_of decimals) high ≡ true
    → list_all (has_ends decimals) (part_between low high grain) ≡ true
between_ends decimals low high grain ends first second =
    let parts = and_parts (has_decimals decimals grain.low) (has_decimals decimals grain.high) ends in
    part_all (has_ends decimals) low high grain
    (λ ordered. and_from (is_multiple (unit_of decimals) (int_max grain.low.millionths low))
    (is_multiple (unit_of decimals) (int_min grain.high.millionths high))
    (max_multiple (unit_of decimals) grain.low.millionths low parts.0 first)
    (min_multiple (unit_of decimals) grain.high.millionths high parts.1 second))

at_ends : (decimals : ℕ) (at : ℤ) (grain : Grain) → has_ends decimals grain ≡ true
    → list_all (has_ends decimals) (part_at (unit_of decimals) at grain) ≡ true
at_ends decimals at grain ends = by (is_multiple (unit_of decimals) at) refl
  where
    by : (b : Bool) → is_multiple (unit_of decimals) at ≡ b
        → list_all (has_ends decimals) (if b then part_between at at grain else []) ≡ true
    by true whole = between_ends decimals at at grain ends whole whole
    by false none = refl

parts_ends : (decimals : ℕ) (at : ℤ) (grain : Grain) → has_ends decimals grain ≡ true
    → list_all (has_ends decimals) (parts_of (unit_of decimals) at grain) ≡ true
parts_ends decimals at grain ends =
    let unit = unit_of decimals in
    let parts = and_parts (has_decimals decimals grain.low) (has_decimals decimals grain.high) ends in
    all_append (has_ends decimals) (part_below unit at grain ++ part_at unit at grain) (part_above unit at grain)
    (all_append (has_ends decimals) (part_below unit at grain) (part_at unit at grain)
    (between_ends decimals grain.low.millionths (next_below unit at) grain ends parts.0
    (below_multiple unit at (some_unit decimals)))
    (at_ends decimals at grain ends))
    (between_ends decimals (next_above unit at) grain.high.millionths grain ends
    (above_multiple unit at (some_unit decimals)) parts.1)

pub cuts_ends : (decimals : ℕ) (grains : List Grain) (numbers : List Dec) → list_all (has_ends decimals) grains ≡ true
    → list_all (has_ends decimals) (cut_all decimals grains numbers) ≡ true
cuts_ends decimals grains [] h = h
cuts_ends decimals grains (number ∷ numbers) h =
    cuts_ends decimals (cut_at decimals number grains) numbers
    (all_flat (has_ends decimals) (parts_of (unit_of decimals) number.millionths) grains (each grains h))
  where
    each : (gs : List Grain) → list_all (has_ends decimals) gs ≡ true
        → list_all (λ g. list_all (has_ends decimals) (parts_of (unit_of decimals) number.millionths g)) gs ≡ true
    each [] k = refl
    each (g ∷ gs) k =
        let parts = and_parts (has_ends decimals g) (list_all (has_ends decimals) gs) k in
        and_from (list_all (has_ends decimals) (parts_of (unit_of decimals) number.millionths g))
        (list_all (λ g. list_all (has_ends decimals) (parts_of (unit_of decimals) number.millionths g)) gs)
        (parts_ends decimals number.millionths g parts.0) (each gs parts.1)

pub cuts_ascend : (decimals : ℕ) (grains : List Grain) (numbers : List Dec) → is_ascending grains ≡ true
    → is_ascending (cut_all decimals grains numbers) ≡ true
cuts_ascend decimals grains [] h = h
cuts_ascend decimals grains (number ∷ numbers) h =
    cuts_ascend decimals (cut_at decimals number grains) numbers
    (cut_ascending (unit_of decimals) number.millionths grains (some_unit decimals) h)

-- they hold the numbers that the list holds
pub cuts_hold : (n : Dec) (decimals : ℕ) (grains : List Grain) (numbers : List Dec) → has_decimals decimals n ≡ true
    → hold n (cut_all decimals grains numbers) ≡ hold n grains
cuts_hold n decimals grains [] whole = refl
cuts_hold n decimals grains (number ∷ numbers) whole =
    cuts_hold n decimals (cut_at decimals number grains) numbers whole
    ∙ cut_keeps n (unit_of decimals) number.millionths grains (some_unit decimals) whole

-- one grain of ascending ones holds a number
past : (low high next n : ℤ) → (le_z low n && le_z n high) ≡ true → lt_z high next ≡ true → le_z next n ≡ false
past low high next n p q = grind (arith, ints)

none_held : (g : Grain) (grains : List Grain) (k : ℕ) (h : Grain) (n : Dec)
    → list_all (λ later. is_below later.low g) grains ≡ true
    → slice_get grains k ≡ Some h → holds n g ≡ true → holds n h ≡ true → ⊥
none_held g grains k h n below at first second =
    let apart = passes_there (λ later. is_below later.low g) grains k h below at in
    let parts = and_parts (le_z h.low.millionths n.millionths) (le_z n.millionths h.high.millionths) second in
    let clash : true ≡ false
    = sym parts.0 ∙ past g.low.millionths g.high.millionths h.low.millionths n.millionths first apart in cc

pub one_holder : (grains : List Grain) (j k : ℕ) (a b : Grain) (n : Dec) → is_ascending grains ≡ true
    → slice_get grains j ≡ Some a → slice_get grains k ≡ Some b → holds n a ≡ true → holds n b ≡ true → a ≡ b
one_holder [] j k a b n ascend e f h i = absurd (cc)
one_holder (g ∷ grains) zero zero a b n ascend e f h i = cc
one_holder (g ∷ grains) zero (suc k) a b n ascend e f h i =
    let rest
    = and_parts (is_ordered g) (list_all (λ later. is_below later.low g) grains && is_ascending grains) ascend in
    let below = and_parts (list_all (λ later. is_below later.low g) grains) (is_ascending grains) rest.1 in
    let same : g ≡ a = cc in absurd (none_held g grains k b n below.0 f (ap (holds n) same ∙ h) i)
one_holder (g ∷ grains) (suc j) zero a b n ascend e f h i =
    let rest
    = and_parts (is_ordered g) (list_all (λ later. is_below later.low g) grains && is_ascending grains) ascend in
    let below = and_parts (list_all (λ later. is_below later.low g) grains) (is_ascending grains) rest.1 in
    let same : g ≡ b = cc in absurd (none_held g grains j a n below.0 e (ap (holds n) same ∙ i) h)
one_holder (g ∷ grains) (suc j) (suc k) a b n ascend e f h i =
    let rest
    = and_parts (is_ordered g) (list_all (λ later. is_below later.low g) grains && is_ascending grains) ascend in
    let below = and_parts (list_all (λ later. is_below later.low g) grains) (is_ascending grains) rest.1 in
    one_holder grains j k a b n below.1 e f h i

pub ordered_there : (grains : List Grain) (k : ℕ) (g : Grain) → is_ascending grains ≡ true → slice_get grains k ≡ Some g
    → is_ordered g ≡ true
ordered_there [] k g ascend e = absurd (cc)
ordered_there (x ∷ grains) zero g ascend e =
    let same : x ≡ g = cc in
    ap is_ordered (sym same)
    ∙ (and_parts (is_ordered x) (list_all (λ later. is_below later.low x) grains && is_ascending grains) ascend).0
ordered_there (x ∷ grains) (suc k) g ascend e =
    ordered_there grains k g
    (and_parts (list_all (λ later. is_below later.low x) grains) (is_ascending grains)
    (and_parts (is_ordered x) (list_all (λ later. is_below later.low x) grains && is_ascending grains) ascend).1).1 e

-- what is known of a list and of what is cut from it
record IsCutFrom (decimals : ℕ) (entries grains : List Grain) : Type 0 where
  entries_ascend : is_ascending entries ≡ true
  entry_ends : list_all (has_ends decimals) entries ≡ true
  ascend : is_ascending grains ≡ true
  ends : list_all (has_ends decimals) grains ≡ true
  within : list_all (is_within entries) grains ≡ true
  held : (n : Dec) → has_decimals decimals n ≡ true → hold n grains ≡ hold n entries

-- an entry's first number is a grain's
same_low : (a b : ℤ) → le_z a b ≡ true → le_z b a ≡ true → int_eq a b ≡ true
same_low a b p q = grind (arith, ints)

holds_low : (g : Grain) → is_ordered g ≡ true → holds g.low g ≡ true
holds_low g ordered =
    and_from (le_z g.low.millionths g.low.millionths) (le_z g.low.millionths g.high.millionths)
    (le_itself g.low.millionths) ordered

pub holds_first : (g : Grain) (grains : List Grain) → is_ascending (g ∷ grains) ≡ true → hold g.low (g ∷ grains) ≡ true
holds_first g grains ascend =
    any_there (holds g.low) (g ∷ grains) zero g refl (holds_low g (ordered_there (g ∷ grains) zero g ascend refl))

entry_begins : (decimals : ℕ) (entries grains : List Grain) → IsCutFrom decimals entries grains → (k : ℕ) (e : Grain)
    → slice_get entries k ≡ Some e → list_any (begins_at e.low) grains ≡ true
entry_begins decimals entries grains cut k e at =
    let ends
    = and_parts (has_decimals decimals e.low) (has_decimals decimals e.high)
    (passes_there (has_ends decimals) entries k e cut.entry_ends at) in
    let own = holds_low e (ordered_there entries k e cut.entries_ascend at) in
    let found = some_there (holds e.low) grains (cut.held e.low ends.0 ∙ any_there (holds e.low) entries k e at own) in
    let g = found.1 in
    let inside = some_there (λ entry. is_part (Stretch g) (Stretch entry)) entries
    (passes_there (is_within entries) grains found.0 g cut.within found.2) in
    let other = inside.1 in
    let parts
    = and_parts (le_z other.low.millionths g.low.millionths) (le_z g.high.millionths other.high.millionths)
    inside.3 in
    let has = and_parts (le_z g.low.millionths e.low.millionths) (le_z e.low.millionths g.high.millionths) found.3 in
    let same = one_holder entries inside.0 k other e e.low cut.entries_ascend inside.2 at
    (and_from (le_z other.low.millionths e.low.millionths) (le_z e.low.millionths other.high.millionths)
    (le_le other.low.millionths g.low.millionths e.low.millionths parts.0 has.0)
    (le_le e.low.millionths g.high.millionths other.high.millionths has.1 parts.1)) own in
    any_there (begins_at e.low) grains found.0 g found.2
    (same_low g.low.millionths e.low.millionths has.0
    (ap (λ x. le_z x.low.millionths g.low.millionths) (sym same) ∙ parts.0))

-- behind a grain an entry ends, or the next number is the first of one
next_after : (a b : ℤ) → le_z a b ≡ true → lt_z a b ≡ false → int_eq b a ≡ true
next_after a b p q = grind (arith, ints)

after_it : (z : ℤ) (u : ℕ) → 0 < u → lt_z z (z +ℤ pos u) ≡ true
after_it z u some = grind (arith, ints)

lt_of_le : (a b : ℤ) → le_z a b ≡ true → int_eq a b ≡ false → lt_z a b ≡ true
lt_of_le a b p q = grind (arith, ints)

le_of_lt : (a b : ℤ) → lt_z a b ≡ true → le_z a b ≡ true
le_of_lt a b p = grind (arith, ints)

le_back : (a b : ℤ) (u : ℕ) → le_z (a +ℤ pos u) (b +ℤ pos u) ≡ true → le_z a b ≡ true
le_back a b u p = grind (arith, ints)

not_past : (a b c : ℤ) → lt_z a b ≡ true → le_z b c ≡ true → c ≡ a → ⊥
not_past a b c p q r = grind (arith, ints)

goes_on_from : (decimals : ℕ) (entries grains : List Grain) → IsCutFrom decimals entries grains → (k : ℕ) (g : Grain)
    → slice_get grains k ≡ Some g → goes_on decimals entries grains g ≡ true
goes_on_from decimals entries grains cut k g at = by (lt_z g.high.millionths entry.high.millionths) refl
  where
    unit : ℕ
    unit = unit_of decimals

    next : Dec
    next = record { millionths = g.high.millionths +ℤ pos (unit_of decimals) }

    ends : (has_decimals decimals g.low ≡ true) × (has_decimals decimals g.high ≡ true)
    ends = and_parts (has_decimals decimals g.low) (has_decimals decimals g.high)
        (passes_there (has_ends decimals) grains k g cut.ends at)

    inside : (n : ℕ) × (x : Grain) × (slice_get entries n ≡ Some x) × (is_part (Stretch g) (Stretch x) ≡ true)
    inside = some_there (λ entry. is_part (Stretch g) (Stretch entry)) entries
        (passes_there (is_within entries) grains k g cut.within at)

    entry : Grain
    entry = inside.1

    parts : (le_z entry.low.millionths g.low.millionths ≡ true) × (le_z g.high.millionths entry.high.millionths ≡ true)
    parts = and_parts (le_z entry.low.millionths g.low.millionths) (le_z g.high.millionths entry.high.millionths)
        inside.3

    ordered : is_ordered g ≡ true
    ordered = ordered_there grains k g cut.ascend at

    own : holds g.high g ≡ true
    own =
        and_from (le_z g.low.millionths g.high.millionths) (le_z g.high.millionths g.high.millionths) ordered
        (le_itself g.high.millionths)

    -- the grain of the next number begins with it
    begins : (found : (n : ℕ) × (x : Grain) × (slice_get grains n ≡ Some x) × (holds next x ≡ true)) → (b : Bool)
        → int_eq found.1.low.millionths next.millionths ≡ b → list_any (begins_at next) grains ≡ true
    begins found true same = any_there (begins_at next) grains found.0 found.1 found.2 same
    begins found false other =
        let h = found.1 in
        let has = and_parts (le_z h.low.millionths next.millionths) (le_z next.millionths h.high.millionths) found.3 in
        let low = (and_parts (has_decimals decimals h.low) (has_decimals decimals h.high)
        (passes_there (has_ends decimals) grains found.0 h cut.ends found.2)).0 in
        let far = multiples_apart unit h.low.millionths next.millionths (some_unit decimals) low
        (more_multiple unit g.high.millionths (some_unit decimals) ends.1)
        (lt_of_le h.low.millionths next.millionths has.0 other) in
        let under = le_back h.low.millionths g.high.millionths unit far in
        let over = after_it g.high.millionths unit (some_unit decimals) in
        let same = one_holder grains found.0 k h g g.high cut.ascend found.2 at
        (and_from (le_z h.low.millionths g.high.millionths) (le_z g.high.millionths h.high.millionths) under
        (le_le g.high.millionths next.millionths h.high.millionths (le_of_lt g.high.millionths next.millionths over)
        has.1)) own in
        absurd (not_past g.high.millionths next.millionths h.high.millionths over has.1
        (ap (λ x. x.high.millionths) same))

    by : (b : Bool) → lt_z g.high.millionths entry.high.millionths ≡ b → goes_on decimals entries grains g ≡ true
    by false none =
        or_left (list_any (ends_at g.high) entries) (list_any (begins_at next) grains)
        (any_there (ends_at g.high) entries inside.0 entry inside.2
        (next_after g.high.millionths entry.high.millionths parts.1 none))
    by true more =
        let high = (and_parts (has_decimals decimals entry.low) (has_decimals decimals entry.high)
        (passes_there (has_ends decimals) entries inside.0 entry cut.entry_ends inside.2)).1 in
        let fits = multiples_apart unit g.high.millionths entry.high.millionths (some_unit decimals) ends.1 high more in
        let over = after_it g.high.millionths unit (some_unit decimals) in
        let low = le_le entry.low.millionths g.high.millionths next.millionths
        (le_le entry.low.millionths g.low.millionths g.high.millionths parts.0 ordered)
        (le_of_lt g.high.millionths next.millionths over) in
        let found = some_there (holds next) grains
        (cut.held next (more_multiple unit g.high.millionths (some_unit decimals) ends.1)
        ∙ any_there (holds next) entries inside.0 entry inside.2
        (and_from (le_z entry.low.millionths next.millionths) (le_z next.millionths entry.high.millionths) low fits)) in
        or_right (list_any (ends_at g.high) entries) (list_any (begins_at next) grains)
        (begins found (int_eq found.1.low.millionths next.millionths) refl)

pub cuts_are : (decimals : ℕ) (entries : List Grain) (numbers : List Dec) → is_ascending entries ≡ true
    → list_all (has_ends decimals) entries ≡ true
    → are_cut_up decimals entries (cut_all decimals entries numbers) ≡ true
cuts_are decimals entries numbers ascend ends =
    and_from (list_all (is_within entries) grains)
    (list_all (λ entry. list_any (begins_at entry.low) grains) entries
    && list_all (goes_on decimals entries grains) grains)
    cut.within
    (and_from (list_all (λ entry. list_any (begins_at entry.low) grains) entries)
    (list_all (goes_on decimals entries grains) grains)
    (from_each (λ entry. list_any (begins_at entry.low) grains) entries (entry_begins decimals entries grains cut))
    (from_each (goes_on decimals entries grains) grains (goes_on_from decimals entries grains cut)))
  where
    grains : List Grain
    grains = cut_all decimals entries numbers

    cut : IsCutFrom decimals entries (cut_all decimals entries numbers)
    cut = record {
      entries_ascend = ascend;
      entry_ends = ends;
      ascend = cuts_ascend decimals entries numbers ascend;
      ends = cuts_ends decimals entries numbers ends;
      within = cuts_within decimals entries numbers;
      held = λ n whole. cuts_hold n decimals entries numbers whole;
    }
