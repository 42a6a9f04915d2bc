-- What a cut leaves as it is.
use Rattle.std.proofs.Common.{◌≡◌, ◌<◌, ◌≤◌, ◌⊎◌, inl, inr, ℕ, zero, suc, ℤ, pos, Bool, true, false, cond, ◌&&◌, ◌||◌}
use Rattle.std.proofs.Common.{List, [], ◌∷◌, ◌++◌}
use Rattle.std.proofs.Common.{◌+◌, ◌-◌, length, get_or, drop, refl, sym, ap, ◌∙◌, arith, if◌then◌else◌, Some, None}
use Rattle.std.specs.Prelude.{slice_get}
use Rattle.std.proofs.Math.Seq.{drop-cons}
use Rattle.std.specs.List.{list_all, flat_map}
use Rattle.std.specs.List.Sorted.{IsPartitionedBy}
use Rattle.std.specs.Int.{int_min, int_max}
use Rattle.std.specs.Int.Signed.{lt_z, le_z}
use Rattle.std.specs.Ordering.{int_eq}
use Rattle.std.proofs.lemmas.Int.{ints, clamps}
use Rattle.vc_value.specs.declared.decimal.Dec.{Dec}
use Rattle.vc_value.specs.declared.grains.Grain.{Grain}
use Rattle.vc_value.specs.Grains.{interval, part_between, part_below, part_at, part_above, parts_of, next_below}
use Rattle.vc_value.specs.Grains.{next_above}
use Rattle.vc_value.specs.Grains.{is_multiple, is_below, is_ordered, is_ascending, unit_of, cut_at}
use Rattle.vc_value.proofs.GrainLemmas.{both, both_true, at_most, ascending_at, ordered_at}
use Rattle.vc_value.proofs.CutLemmas.{one_part, below_cut, above_cut, cut_ascending}
use Rattle.vc_value.proofs.PowerLemmas.{ten_pow_pos}
use Rattle.vc_value_cuts.specs.Made.{IsCut, lies_below, lies_above, has_ends, is_point, starts_above, is_left_first}
use Rattle.vc_value_cuts.specs.Made.{is_made}
use Rattle.vc_value_cuts.specs.declared.cut.Cut.{Cut}

-- a grain within the two counts is its only part there; one outside has none
whole_part : (low high : ℤ) (grain : Grain)
    → le_z low grain.low.millionths ≡ true → le_z grain.high.millionths high ≡ true → is_ordered grain ≡ true
    → part_between low high grain ≡ grain ∷ []
whole_part low high grain from to ordered =
    sym (one_part low high grain.low.millionths grain.high.millionths grain grain
    (grind (arith, ints, clamps)) (grind (arith, ints, clamps)) ordered refl)

no_part : (low high : ℤ) (grain : Grain)
    → le_z (int_max grain.low.millionths low) (int_min grain.high.millionths high) ≡ false
    → part_between low high grain ≡ []
no_part low high grain none =
    ap (λ b. if b then interval (int_max grain.low.millionths low)
    (int_min grain.high.millionths high) ∷ [] else []) none

no_point : (unit : ℕ) (at : ℤ) (grain : Grain) → part_between at at grain ≡ [] → part_at unit at grain ≡ []
no_point unit at grain none =
    elim (is_multiple unit at) as
    (λ b. (if b then part_between at at grain else []) ≡ []) [ true ↦ none | false ↦ refl ]

-- no numbers of a grain lie between two counts above it, or below it
above_all : (low high from to : ℤ) → lt_z high from ≡ true → le_z (int_max low from) (int_min high to) ≡ false
above_all low high from to beyond = grind (arith, ints, clamps)

below_all : (low high from to : ℤ) → lt_z to low ≡ true → le_z (int_max low from) (int_min high to) ≡ false
below_all low high from to before = grind (arith, ints, clamps)

le_lt : (a b c : ℤ) → le_z a b ≡ true → lt_z b c ≡ true → lt_z a c ≡ true
le_lt a b c le lt = grind (arith, ints)

lt_le : (a b c : ℤ) → lt_z a b ≡ true → le_z b c ≡ true → lt_z a c ≡ true
lt_le a b c lt le = grind (arith, ints)

lt_lt : (a b c : ℤ) → lt_z a b ≡ true → lt_z b c ≡ true → lt_z a c ≡ true
lt_lt a b c first second = grind (arith, ints)

le_self : (a : ℤ) → le_z a a ≡ true
le_self a = grind (arith, ints)

three : (first second third : List Grain) (grain : Grain) → first ≡ grain ∷ [] → second ≡ [] → third ≡ []
    → (first ++ second) ++ third ≡ grain ∷ []
three first second third grain one two last =
    ap (λ ps. (ps ++ second) ++ third) one ∙ ap (λ ps. ((grain ∷ []) ++ ps) ++ third) two
    ∙ ap (λ ps. ((grain ∷ []) ++ []) ++ ps) last

third_of : (first second third : List Grain) (grain : Grain) → first ≡ [] → second ≡ [] → third ≡ grain ∷ []
    → (first ++ second) ++ third ≡ grain ∷ []
third_of first second third grain one two last =
    ap (λ ps. (ps ++ second) ++ third) one ∙ ap (λ ps. ([] ++ ps) ++ third) two ∙ ap (λ ps. ([] ++ []) ++ ps) last

second_of : (first second third : List Grain) (grain : Grain) → first ≡ [] → second ≡ grain ∷ [] → third ≡ []
    → (first ++ second) ++ third ≡ grain ∷ []
second_of first second third grain one two last =
    ap (λ ps. (ps ++ second) ++ third) one ∙ ap (λ ps. ([] ++ ps) ++ third) two
    ∙ ap (λ ps. ([] ++ (grain ∷ [])) ++ ps) last

-- a grain below the cut, and one above it
pub below_left : (unit : ℕ) (at : ℤ) (grain : Grain) → 0 < unit → is_ordered grain ≡ true
    → le_z grain.high.millionths (next_below unit at) ≡ true → parts_of unit at grain ≡ grain ∷ []
below_left unit at grain some ordered below =
    let low = grain.low.millionths in
    let high = grain.high.millionths in
    let before = le_lt high (next_below unit at) at below (below_cut unit at some) in
    three (part_below unit at grain) (part_at unit at grain) (part_above unit at grain) grain
    (whole_part low (next_below unit at) grain (le_self low) below ordered)
    (no_point unit at grain (no_part at at grain (above_all low high at at before)))
    (no_part (next_above unit at) high grain
    (above_all low high (next_above unit at) high (lt_lt high at (next_above unit at) before (above_cut unit at some))))

pub above_left : (unit : ℕ) (at : ℤ) (grain : Grain) → 0 < unit → is_ordered grain ≡ true
    → le_z (next_above unit at) grain.low.millionths ≡ true → parts_of unit at grain ≡ grain ∷ []
above_left unit at grain some ordered above =
    let low = grain.low.millionths in
    let high = grain.high.millionths in
    let behind = lt_le at (next_above unit at) low (above_cut unit at some) above in
    third_of (part_below unit at grain) (part_at unit at grain) (part_above unit at grain) grain
    (no_part low (next_below unit at) grain
    (below_all low high low (next_below unit at) (lt_lt (next_below unit at) at low (below_cut unit at some) behind)))
    (no_point unit at grain (no_part at at grain (below_all low high at at behind)))
    (whole_part (next_above unit at) high grain above (le_self high) ordered)

-- a grain that is the cut
point_whole : (unit : ℕ) (at : ℤ) (grain : Grain) → is_multiple unit at ≡ true
    → part_at unit at grain ≡ part_between at at grain
point_whole unit at grain whole = ap (λ b. if b then part_between at at grain else []) whole

same_ends : (low high at : ℤ) → (int_eq low at && int_eq high at) ≡ true → (low ≡ at) × (high ≡ at)
same_ends low high at same = (grind (arith, ints), grind (arith, ints))

pub point_left : (unit : ℕ) (at : ℤ) (grain : Grain) → 0 < unit → is_ordered grain ≡ true → is_multiple unit at ≡ true
    → (int_eq grain.low.millionths at && int_eq grain.high.millionths at) ≡ true → parts_of unit at grain ≡ grain ∷ []
point_left unit at grain some ordered whole same =
    let low = grain.low.millionths in
    let high = grain.high.millionths in
    let ends = same_ends low high at same in
    let before : lt_z (next_below unit at) low ≡ true =
    ap (λ z. lt_z (next_below unit at) z) ends.0 ∙ below_cut unit at some in
    let behind : lt_z high (next_above unit at) ≡ true =
    ap (λ z. lt_z z (next_above unit at)) ends.1 ∙ above_cut unit at some in
    second_of (part_below unit at grain) (part_at unit at grain) (part_above unit at grain) grain
    (no_part low (next_below unit at) grain (below_all low high low (next_below unit at) before))
    (point_whole unit at grain whole
    ∙ whole_part at at grain (ap (λ z. le_z at z) ends.0 ∙ le_self at)
    (ap (λ z. le_z z at) ends.1 ∙ le_self at) ordered)
    (no_part (next_above unit at) high grain (above_all low high (next_above unit at) high behind))

-- of a cut as it is kept
some_unit : (decimals : ℕ) → 0 < unit_of decimals
some_unit decimals = ten_pow_pos (6 - decimals)

pub kept_below : (cut : Cut) (grain : Grain) → IsCut cut → is_ordered grain ≡ true → lies_below cut grain ≡ true
    → parts_of (unit_of cut.decimals) cut.at.millionths grain ≡ grain ∷ []
kept_below cut grain is ordered below =
    below_left (unit_of cut.decimals) cut.at.millionths grain (some_unit cut.decimals) ordered
    (ap (λ z. le_z grain.high.millionths z) (sym is.below) ∙ below)

pub kept_above : (cut : Cut) (grain : Grain) → IsCut cut → is_ordered grain ≡ true → lies_above cut grain ≡ true
    → parts_of (unit_of cut.decimals) cut.at.millionths grain ≡ grain ∷ []
kept_above cut grain is ordered above =
    above_left (unit_of cut.decimals) cut.at.millionths grain (some_unit cut.decimals) ordered
    (ap (λ z. le_z z grain.low.millionths) (sym is.above) ∙ above)

kept_point : (cut : Cut) (grain : Grain) → IsCut cut → is_ordered grain ≡ true → is_point cut grain ≡ true
    → parts_of (unit_of cut.decimals) cut.at.millionths grain ≡ grain ∷ []
kept_point cut grain is ordered point =
    let parts = both cut.whole (has_ends cut grain) point in
    point_left (unit_of cut.decimals) cut.at.millionths grain (some_unit cut.decimals) ordered
    (sym is.whole ∙ parts.0) parts.1

-- a grain more that is left
kept_more : (cut : Cut) (grain : Grain) (grains : List Grain)
    → parts_of (unit_of cut.decimals) cut.at.millionths grain ≡ grain ∷ [] → cut_at cut.decimals cut.at grains ≡ grains
    → cut_at cut.decimals cut.at (grain ∷ grains) ≡ grain ∷ grains
kept_more cut grain grains one more =
    ap (λ ps. ps ++ cut_at cut.decimals cut.at grains) one ∙ ap (λ gs. grain ∷ gs) more

ascending_parts : (grain : Grain) (grains : List Grain) → is_ascending (grain ∷ grains) ≡ true
    → (is_ordered grain ≡ true) × (list_all (λ later. is_below later.low grain) grains ≡ true) ×
    (is_ascending grains ≡ true)
ascending_parts grain grains ascend =
    let first = both (is_ordered grain) _ ascend in
    let rest = both (list_all (λ later. is_below later.low grain) grains) (is_ascending grains) first.1 in
    (first.0, rest.0, rest.1)

-- where a grain lies above the cut, so do all that follow it
still_above : (cut : Cut) (grain : Grain) (grains : List Grain) → is_ascending (grain ∷ grains) ≡ true
    → lies_above cut grain ≡ true → starts_above cut grains ≡ true
still_above cut grain [] ascend above = refl
still_above cut grain (next ∷ grains) ascend above =
    let parts = ascending_parts grain (next ∷ grains) ascend in
    onward cut.above grain.low.millionths grain.high.millionths next.low.millionths above parts.0
    (both (is_below next.low grain) _ parts.1).0
  where
    onward : (a b c d : ℤ) → le_z a b ≡ true → le_z b c ≡ true → lt_z c d ≡ true → le_z a d ≡ true
    onward a b c d p q r = grind (arith, ints)

pub above_kept : (cut : Cut) (grains : List Grain) → IsCut cut → is_ascending grains ≡ true
    → starts_above cut grains ≡ true
    → cut_at cut.decimals cut.at grains ≡ grains
above_kept cut [] is ascend above = refl
above_kept cut (grain ∷ grains) is ascend above =
    let parts = ascending_parts grain grains ascend in
    kept_more cut grain grains (kept_above cut grain is parts.0 above)
    (above_kept cut grains is parts.2 (still_above cut grain grains ascend above))

-- a cut that is made changes nothing
left_first : (cut : Cut) (grain : Grain) (grains : List Grain) → IsCut cut → is_ascending (grain ∷ grains) ≡ true
    → is_left_first cut (grain ∷ grains) ≡ true → cut_at cut.decimals cut.at (grain ∷ grains) ≡ grain ∷ grains
left_first cut grain grains is ascend left =
    elim (lies_above cut grain) as
    (λ b. lies_above cut grain ≡ b → (b || (is_point cut grain && starts_above cut grains)) ≡ true
    → cut_at cut.decimals cut.at (grain ∷ grains) ≡ grain ∷ grains) [
      | true ↦ λ above told. above_kept cut (grain ∷ grains) is ascend above
      | false ↦ λ not_above told.
          let parts = ascending_parts grain grains ascend in
          let point = both (is_point cut grain) (starts_above cut grains) told in
          kept_more cut grain grains (kept_point cut grain is parts.0 point.0)
          (above_kept cut grains is parts.2 point.1)
    ] refl left

pub made_kept : (cut : Cut) (grains : List Grain) → IsCut cut → is_ascending grains ≡ true → is_made cut grains ≡ true
    → cut_at cut.decimals cut.at grains ≡ grains
made_kept cut [] is ascend made = refl
made_kept cut (grain ∷ grains) is ascend made =
    elim (lies_below cut grain) as (λ b. lies_below cut grain ≡ b
    → (if b then is_made cut grains else is_left_first cut (grain ∷ grains)) ≡ true
    → cut_at cut.decimals cut.at (grain ∷ grains) ≡ grain ∷ grains) [
      | true ↦ λ below told.
          let parts = ascending_parts grain grains ascend in
          kept_more cut grain grains (kept_below cut grain is parts.0 below) (made_kept cut grains is parts.2 told)
      | false ↦ λ not_below told. left_first cut grain grains is ascend told
    ] refl made

-- what lies below stands first
pub partitioned : (cut : Cut) (grains : List Grain) → is_ascending grains ≡ true
    → IsPartitionedBy (lies_below cut) grains
partitioned cut grains ascend i j d le inside below =
    elim (at_most i j le) [
      | inl before ↦ between (get_or grains i d).high.millionths (get_or grains j d).low.millionths
          (get_or grains j d).high.millionths cut.below (ascending_at grains i j d ascend before inside)
          (ordered_at grains j d ascend inside) below
      | inr same ↦ ap (λ k. lies_below cut (get_or grains k d)) same ∙ below
    ]
  where
    between : (a b c e : ℤ) → lt_z a b ≡ true → le_z b c ≡ true → le_z c e ≡ true → le_z a e ≡ true
    between a b c e p q r = grind (arith, ints)

-- grains that lie below need not be asked
pub made_behind : (cut : Cut) (grains : List Grain) (i : ℕ)
    → ((k : ℕ) (d : Grain) → k < length grains → k < i → lies_below cut (get_or grains k d) ≡ true)
    → is_made cut (drop i grains) ≡ is_made cut grains
made_behind cut grains zero below = refl
made_behind cut [] (suc i) below = refl
made_behind cut (grain ∷ grains) (suc i) below =
    made_behind cut grains i (λ k d inside before. below (suc k) d (omega (inside, arith)) (omega (before, arith)))
    ∙ sym (ap (λ b. if b then is_made cut grains else is_left_first cut (grain ∷ grains))
    (below 0 grain (omega arith) (omega arith)))

-- the rest of a list from the place of an element
some_same : {X : Type 0} {a b : X} → Some a ≡ Some b → a ≡ b
some_same e = cc

rest_there : {X : Type 0} (xs : List X) (n : ℕ) (x : X) → slice_get xs n ≡ Some x → x ∷ drop (suc n) xs ≡ drop n xs
rest_there [] n x there = absurd (cc)
rest_there (y ∷ xs) zero x there = ap (λ z. z ∷ xs) (sym (some_same there))
rest_there (y ∷ xs) (suc n) x there = rest_there xs n x there

pub drop_there : {X : Type 0} (xs : List X) (n : ℕ) (x : X) → slice_get xs n ≡ Some x → x ∷ drop (n + 1) xs ≡ drop n xs
drop_there xs n x there =
    let next : n + 1 ≡ suc n = omega arith in
    ap (λ m. x ∷ drop m xs) next ∙ rest_there xs n x there

-- of ascending grains each is ordered, and those before it lie below it
pub ascending_split : (first : List Grain) (grain : Grain) (rest : List Grain)
    → is_ascending (first ++ grain ∷ rest) ≡ true
    → (is_ordered grain ≡ true) × (list_all (is_below grain.low) first ≡ true)
ascending_split [] grain rest ascend = ((ascending_parts grain rest ascend).0, refl)
ascending_split (one ∷ first) grain rest ascend =
    let parts = ascending_parts one (first ++ grain ∷ rest) ascend in
    let more = ascending_split first grain rest parts.2 in
    (more.0, both_true (is_below grain.low one) (list_all (is_below grain.low) first) (among first parts.1) more.1)
  where
    among : (others : List Grain) → list_all (λ later. is_below later.low one) (others ++ grain ∷ rest) ≡ true
        → is_below grain.low one ≡ true
    among [] all = (both (is_below grain.low one) _ all).0
    among (other ∷ others) all = among others (both (is_below other.low one) _ all).1

-- the next grain of ascending ones
pub next_ascends : (put grains : List Grain) (i : ℕ) (d : Grain) → is_ascending grains ≡ true
    → put ++ drop i grains ≡ grains → i < length grains
    → (is_ordered (get_or grains i d) ≡ true) × (list_all (is_below (get_or grains i d).low) put ≡ true)
next_ascends put grains i d ascend so_far inside =
    ascending_split put (get_or grains i d) (drop (suc i) grains)
    (ap is_ascending (ap (λ gs. put ++ gs) (sym (drop-cons grains i d inside)) ∙ so_far) ∙ ascend)

-- a grain that lies below the cut or above it
pub kept_apart : (cut : Cut) (grain : Grain) → IsCut cut → is_ordered grain ≡ true
    → (lies_below cut grain || lies_above cut grain) ≡ true
    → parts_of (unit_of cut.decimals) cut.at.millionths grain ≡ grain ∷ []
kept_apart cut grain is ordered apart =
    elim (lies_below cut grain) as (λ b. lies_below cut grain ≡ b → (b || lies_above cut grain) ≡ true
    → parts_of (unit_of cut.decimals) cut.at.millionths grain ≡ grain ∷ []) [
      | true ↦ λ below told. kept_below cut grain is ordered below
      | false ↦ λ not_below told. kept_above cut grain is ordered told
    ] refl apart

-- grains that are cut ascend
pub cut_still : (decimals : ℕ) (at : Dec) (grains : List Grain) → is_ascending grains ≡ true
    → is_ascending (cut_at decimals at grains) ≡ true
cut_still decimals at grains ascend = cut_ascending (unit_of decimals) at.millionths grains (some_unit decimals) ascend
