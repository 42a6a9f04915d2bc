-- The numbers of lines: those of a slot's bill, behind those of all slots before it.
use Rattle.std.proofs.Common.{◌≡◌, ℕ, zero, suc, ◌+◌, ◌<◌, ◌⊎◌, inl, inr, List, [], ◌∷◌, ◌++◌, length, map, Some, refl}
use Rattle.std.proofs.Common.{sym, ap, ◌∙◌, arith}
use Rattle.std.specs.Prelude.{slice_get, option_map, sum_by, take}
use Rattle.std.proofs.lemmas.List.{length-map}
use Rattle.std.proofs.lemmas.List.Sums.{sum_by-cons}
use Rattle.std.proofs.lemmas.Option.{slice_get-map}
use Rattle.vc_model_parts.specs.declared.parts.BillItem.{BillItem}
use Rattle.vc_model_parts.specs.declared.parts.Model.{Model}
use Rattle.vc_plan.specs.declared.plans.Line.{Line}
use Rattle.vc_plan.specs.declared.plans.Plan.{Plan}
use Rattle.vc_plan.specs.declared.plans.Slot.{Slot}
use Rattle.vc_table.specs.declared.table.VariantTable.{VariantTable}
use Rattle.vc_compile_plan.specs.Layouts.{layout_of}
use Rattle.vc_compile_plan.specs.Numbering.{Brings, drafts_of, item_brings, line_from, line_terms_begin, lines_begin}
use Rattle.vc_compile_plan.specs.Numbering.{numbered}
use Rattle.vc_compile_plan.specs.PlanOf.{IsPlanOf}
use Rattle.vc_compile_plan.specs.Shown.{ItemDraft, line_at, line_drafts}
use Rattle.vc_compile_plan.specs.Slots.{bill_of, line_number, slot_of, slots_of, standings_of}
use Rattle.vc_compile_plan.specs.Variables.{by_slot}
use Rattle.vc_compile_plan.specs.declared.standings.Standing.{Standing}
use Rattle.vc_compile_valid.proofs.ListLaws.{made_from}
use Rattle.vc_compile_valid.proofs.PlacedLaws.{slot_at}

-- how many stand before a place, where lists of these lengths stand one after another
abbrev pub before : List ℕ → ℕ → ℕ
before [] p = 0
before (n ∷ ns) zero = 0
before (n ∷ ns) (suc p) = n + before ns p

sum_before : {X : Type 0} (f : X → ℕ) (xs : List X) (p : ℕ) → sum_by f (take p xs) ≡ before (map f xs) p
sum_before f [] zero = refl
sum_before f [] (suc p) = refl
sum_before f (x ∷ xs) zero = refl
sum_before f (x ∷ xs) (suc p) = sum_by-cons f x (take p xs) ∙ ap (λ n. f x + n) (sum_before f xs p)

-- a place in one of the lists is one place in all
pub before_apart : (ns : List ℕ) (p q k j m n : ℕ) → slice_get ns p ≡ Some m → k < m → slice_get ns q ≡ Some n → j < n
    → before ns p + k ≡ before ns q + j → (p ≡ q) × (k ≡ j)
before_apart [] p q k j m n a low b high e = absurd (cc)
before_apart (x ∷ ns) zero zero k j m n a low b high e = (refl, omega (arith, e))
before_apart (x ∷ ns) zero (suc q) k j m n a low b high e =
    let same : x ≡ m = cc in absurd (omega (arith, e, low, same))
before_apart (x ∷ ns) (suc p) zero k j m n a low b high e =
    let same : x ≡ n = cc in absurd (omega (arith, e, high, same))
before_apart (x ∷ ns) (suc p) (suc q) k j m n a low b high e =
    let both = before_apart ns p q k j m n a low b high (omega (arith, e)) in (ap suc both.0, both.1)

-- an element of the first list, and of the second, of two
front_at : {X : Type 0} (xs ys : List X) (k : ℕ) (x : X) → slice_get xs k ≡ Some x → slice_get (xs ++ ys) k ≡ Some x
front_at [] ys k x e = absurd (cc)
front_at (y ∷ xs) ys zero x e = e
front_at (y ∷ xs) ys (suc k) x e = front_at xs ys k x e

back_at : {X : Type 0} (xs ys : List X) (n k : ℕ) → n ≡ length xs + k → slice_get (xs ++ ys) n ≡ slice_get ys k
back_at [] ys n k is = let same : n ≡ k = omega (arith, is) in ap (slice_get ys) same
back_at (x ∷ xs) ys zero k is = absurd (omega (arith, is))
back_at (x ∷ xs) ys (suc n) k is = back_at xs ys n k (omega (arith, is))

either_at : {X : Type 0} (xs ys : List X) (n : ℕ) (x : X) → slice_get (xs ++ ys) n ≡ Some x
    → (slice_get xs n ≡ Some x) ⊎ ((k : ℕ) × (n ≡ length xs + k) × (slice_get ys k ≡ Some x))
either_at [] ys n x e = inr (n, omega arith, e)
either_at (y ∷ xs) ys zero x e = inl e
either_at (y ∷ xs) ys (suc n) x e =
    elim (either_at xs ys n x e) [
      | inl here ↦ inl here
      | inr later ↦ inr (later.0, (let is = later.1 in omega (arith, is)), later.2)
    ]

-- what stands slot by slot, by its place at its slot
abbrev pub sizes_of : {X : Type 0} → (ℕ → Slot → List X) → ℕ → List Slot → List ℕ
sizes_of has i [] = []
sizes_of has i (slot ∷ slots) = length (has i slot) ∷ sizes_of has (suc i) slots

pub by_slot_at : {X : Type 0} (has : ℕ → Slot → List X) (i : ℕ) (slots : List Slot) (p k n : ℕ) (slot : Slot) (x : X)
    → n ≡ i + p
    → slice_get slots p ≡ Some slot → slice_get (has n slot) k ≡ Some x
    → slice_get (by_slot has i slots) (before (sizes_of has i slots) p + k) ≡ Some x
by_slot_at has i [] p k n slot x is at e = absurd (cc)
by_slot_at has i (s ∷ slots) zero k n slot x is at e =
    let same : s ≡ slot = cc in
    let here : i ≡ n = omega (arith, is) in
    ap (slice_get (has i s ++ by_slot has (suc i) slots)) (no_front k)
    ∙ front_at (has i s) (by_slot has (suc i) slots) k x
    (ap (λ y. slice_get (has i y) k) same ∙ ap (λ m. slice_get (has m slot) k) here ∙ e)
  where
    no_front : (m : ℕ) → 0 + m ≡ m
    no_front m = omega arith
by_slot_at has i (s ∷ slots) (suc p) k n slot x is at e =
    let rest = before (sizes_of has (suc i) slots) p in
    back_at (has i s) (by_slot has (suc i) slots) ((length (has i s) + rest) + k) (rest + k) (omega arith)
    ∙ by_slot_at has (suc i) slots p k n slot x (omega (arith, is)) at e

pub record IsAtSlot {X : Type 0} (has : ℕ → Slot → List X) (i : ℕ) (slots : List Slot) (l : ℕ) (x : X) : Type 0 where
  pub place : ℕ
  pub slot : Slot
  pub number : ℕ
  pub at : slice_get slots place ≡ Some slot
  pub has_it : slice_get (has (i + place) slot) number ≡ Some x
  pub is : l ≡ before (sizes_of has i slots) place + number

pub found_by_slot : {X : Type 0} (has : ℕ → Slot → List X) (i : ℕ) (slots : List Slot) (l : ℕ) (x : X)
    → slice_get (by_slot has i slots) l ≡ Some x → IsAtSlot has i slots l x
found_by_slot has i [] l x e = absurd (cc)
found_by_slot has i (s ∷ slots) l x e =
    elim (either_at (has i s) (by_slot has (suc i) slots) l x e) [
      | inl here ↦ record {
        place = 0;
        slot = s;
        number = l;
        at = refl;
        has_it = ap (λ m. slice_get (has m s) l) (no_more i) ∙ here;
        is = omega arith;
      }
      | inr later ↦ let found = found_by_slot has (suc i) slots later.0 x later.2 in
          let there = found.is in
          let shift = later.1 in
          record {
            place = suc found.place;
            slot = found.slot;
            number = found.number;
            at = found.at;
            has_it = ap (λ m. slice_get (has m found.slot) found.number) (one_more i found.place) ∙ found.has_it;
            is = omega (arith, there, shift);
          }
    ]
  where
    no_more : (n : ℕ) → n + 0 ≡ n
    no_more n = omega arith

    one_more : (n k : ℕ) → n + suc k ≡ suc n + k
    one_more n k = omega arith

-- a numbered thing by its draft, and the other way
pub numbered_at : {D X : Type 0} (brings : Brings D) (make : ℕ → ℕ → D → X) (c t : ℕ) (drafts : List D) (l : ℕ) (d : D)
    → slice_get drafts l ≡ Some d
    → (m : ℕ) × (n : ℕ) × (slice_get (numbered brings make c t drafts) l ≡ Some (make m n d))
numbered_at brings make c t [] l d e = absurd (cc)
numbered_at brings make c t (x ∷ drafts) zero d e = let same : x ≡ d = cc in (c, t, ap (λ y. Some (make c t y)) same)
numbered_at brings make c t (x ∷ drafts) (suc l) d e =
    numbered_at brings make (c + length (brings.conditions x)) (t + length (brings.terms x)) drafts l d e

pub draft_at : {D X : Type 0} (brings : Brings D) (make : ℕ → ℕ → D → X) (c t : ℕ) (drafts : List D) (l : ℕ) (x : X)
    → slice_get (numbered brings make c t drafts) l ≡ Some x
    → (d : D) × (m : ℕ) × (n : ℕ) × (slice_get drafts l ≡ Some d) × (x ≡ make m n d)
draft_at brings make c t [] l x e = absurd (cc)
draft_at brings make c t (d ∷ drafts) zero x e = (d, c, t, refl, cc)
draft_at brings make c t (d ∷ drafts) (suc l) x e =
    draft_at brings make (c + length (brings.conditions d)) (t + length (brings.terms d)) drafts l x e

-- the bills of a model's slots
abbrev pub lines_of_slot : Model → ℕ → Slot → List ItemDraft
lines_of_slot model i slot = map (line_at (layout_of model) i slot) (bill_of model slot.object)

abbrev pub bill_sizes : Model → List ℕ
bill_sizes model = map (λ s. length (bill_of model s.object)) (standings_of model)

sizes_same : (model : Model) (all : List Standing) (i : ℕ) (standings : List Standing)
    → sizes_of (lines_of_slot model) i (map (slot_of model all) standings)
    ≡ map (λ s. length (bill_of model s.object)) standings
sizes_same model all i [] = refl
sizes_same model all i (s ∷ standings) =
    ap (λ n. n ∷ sizes_of (lines_of_slot model) (suc i) (map (slot_of model all) standings))
    (length-map (bill_of model s.object) (line_at (layout_of model) i (slot_of model all s)))
    ∙ ap (λ ns. length (bill_of model s.object) ∷ ns) (sizes_same model all (suc i) standings)

pub number_is : (model : Model) (p k : ℕ)
    → line_number model (standings_of model) (Some p) k ≡ before (bill_sizes model) p + k
number_is model p k = ap (λ n. n + k) (sum_before (λ s. length (bill_of model s.object)) (standings_of model) p)

-- the line of a bill is there by its number
pub record IsLineAt (model : Model) (plan : Plan) (p k : ℕ) (above : Standing) (item : BillItem) : Type 0 where
  pub c : ℕ
  pub t : ℕ
  pub there : slice_get plan.lines (line_number model (standings_of model) (Some p) k)
      ≡ Some (line_from c t (line_at (layout_of model) p (slot_of model (standings_of model) above) item))

pub line_found : (model : Model) (tables : List VariantTable) (plan : Plan) → IsPlanOf model tables plan → (p k : ℕ)
    (above : Standing) (item : BillItem) → slice_get (standings_of model) p ≡ Some above
    → slice_get (bill_of model above.object) k ≡ Some item → IsLineAt model plan p k above item
line_found model tables plan is p k above item at listed =
    let layout = layout_of model in
    let slot = slot_of model (standings_of model) above in
    let drafts = drafts_of (layout_of model) in
    let draft = line_at layout p slot item in
    let place : slice_get (line_drafts layout) (before (sizes_of (lines_of_slot model) 0 (slots_of model)) p + k)
    ≡ Some draft =
    by_slot_at (lines_of_slot model) 0 (slots_of model) p k p slot draft (omega arith) (slot_at model p above at)
    (slice_get-map (line_at layout p slot) (bill_of model above.object) k
    ∙ ap (option_map (line_at layout p slot)) listed) in
    let number : line_number model (standings_of model) (Some p) k
    ≡ before (sizes_of (lines_of_slot model) 0 (slots_of model)) p + k =
    number_is model p k ∙ ap (λ ns. before ns p + k)
    (sym (sizes_same model (standings_of model) 0 (standings_of model))) in
    let found = numbered_at item_brings line_from (lines_begin drafts) (line_terms_begin drafts) (line_drafts layout)
    (line_number model (standings_of model) (Some p) k) draft (ap (slice_get (line_drafts layout)) number ∙ place) in
    record {
      c = found.0;
      t = found.1;
      there = ap (λ ls. slice_get ls (line_number model (standings_of model) (Some p) k)) is.lines ∙ found.2;
    }

-- and each line is one of a bill
pub record IsOfBill (model : Model) (l : ℕ) (line : Line) : Type 0 where
  pub p : ℕ
  pub k : ℕ
  pub above : Standing
  pub item : BillItem
  pub c : ℕ
  pub t : ℕ
  pub at : slice_get (standings_of model) p ≡ Some above
  pub listed : slice_get (bill_of model above.object) k ≡ Some item
  pub number : l ≡ line_number model (standings_of model) (Some p) k
  pub is : line ≡ line_from c t (line_at (layout_of model) p (slot_of model (standings_of model) above) item)

pub bill_found : (model : Model) (tables : List VariantTable) (plan : Plan) → IsPlanOf model tables plan
    → (l : ℕ) (line : Line)
    → slice_get plan.lines l ≡ Some line → IsOfBill model l line
bill_found model tables plan is l line e =
    let layout = layout_of model in
    let drafts = drafts_of (layout_of model) in
    let all = standings_of model in
    let draft
    = draft_at item_brings line_from (lines_begin drafts) (line_terms_begin drafts) (line_drafts layout) l line
    (ap (λ ls. slice_get ls l) (sym is.lines) ∙ e) in
    let found = found_by_slot (lines_of_slot model) 0 (slots_of model) l draft.0 draft.3 in
    let stand = made_from (slot_of model all) all (slots_of model) refl found.place found.slot found.at in
    let item = made_from (line_at layout (0 + found.place) found.slot) (bill_of model found.slot.object)
    (lines_of_slot model (0 + found.place) found.slot) refl found.number draft.0 found.has_it in
    record {
      p = found.place;
      k = found.number;
      above = stand.0;
      item = item.0;
      c = draft.1;
      t = draft.2;
      at = stand.1;
      listed = ap (λ s. slice_get (bill_of model s.object) found.number) stand.2 ∙ item.1;
      number = found.is ∙ ap (λ ns. before ns found.place + found.number) (sizes_same model all 0 all)
          ∙ sym (number_is model found.place found.number);
      is = draft.4 ∙ ap (line_from draft.1 draft.2) (sym item.2
          ∙ ap (λ n. line_at layout n found.slot item.0) (no_front found.place)
          ∙ ap (λ s. line_at layout found.place s item.0) (sym stand.2));
    }
  where
    no_front : (m : ℕ) → 0 + m ≡ m
    no_front m = omega arith
