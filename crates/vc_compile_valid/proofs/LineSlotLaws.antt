-- A configurable line has one slot, and another line none.
use Rattle.std.proofs.Common.{◌≡◌, ℕ, zero, suc, ◌+◌, ◌<◌, Bool, true, false, cond, not, ◌&&◌, ◌||◌, nat_lt, List, []}
use Rattle.std.proofs.Common.{◌∷◌, length, map, Option, Some, None, refl, sym, ap, ◌∙◌, arith, subst, if◌then◌else◌}
use Rattle.std.specs.Prelude.{◌==◌, is_some, option_map, slice_get, filter_map}
use Rattle.std.specs.List.{cons_option, filter, list_all, list_any}
use Rattle.std.proofs.lemmas.Bool.{and_from, and_parts, eq-eqb, eqb-true, le-ltb, ltb-true, not-true, or_left, or_parts}
use Rattle.std.proofs.lemmas.Bool.{or_right}
use Rattle.std.proofs.lemmas.List.{length-map}
use Rattle.std.proofs.lemmas.List.Folds.{list_all-map}
use Rattle.std.proofs.lemmas.Option.{slice_get-map, slice_get_within}
use Rattle.vc_value.specs.Words.{same_bytes}
use Rattle.vc_model_parts.specs.declared.parts.BillItem.{BillItem}
use Rattle.vc_model_parts.specs.declared.parts.Component.{Component}
use Rattle.vc_model_parts.specs.declared.parts.Component.TheVariants as components
use Rattle.vc_model_parts.specs.declared.parts.Model.{Model}
use Rattle.vc_model_parts.specs.declared.parts.Object as configurable
use Rattle.vc_plan.specs.Orders.{are_in_order, is_number, same_number_if}
use Rattle.vc_plan.specs.Domains.{numbers_below}
use Rattle.vc_plan.specs.Ranges.{is_of, is_of_if, slot_there}
use Rattle.vc_plan.specs.Slots.{has_its_slots, has_material, is_configurable, stands_for}
use Rattle.vc_plan.specs.declared.plans.Line.{Line}
use Rattle.vc_plan.specs.declared.plans.Object.{Object}
use Rattle.vc_plan.specs.declared.plans.Plan.{Plan}
use Rattle.vc_plan.specs.declared.plans.Slot.{Slot}
use Rattle.vc_table.specs.declared.table.VariantTable.{VariantTable}
use Rattle.vc_types.specs.declared.place.At.TheVariants as at
use Rattle.vc_compile_plan.specs.Layouts.{Layout, layout_of}
use Rattle.vc_compile_plan.specs.Numbering.{Brings, drafts_of, item_brings, line_from, line_terms_begin, lines_begin}
use Rattle.vc_compile_plan.specs.Numbering.{numbered, selections_from}
use Rattle.vc_compile_plan.specs.PlanOf.{IsPlanOf}
use Rattle.vc_compile_plan.specs.Shown as shown
use Rattle.vc_compile_plan.specs.Shown.{Choice, ItemDraft, line_at, line_choices, line_drafts, material_in, material_of}
use Rattle.vc_compile_plan.specs.Places.{site_at}
use Rattle.vc_compile_plan.specs.Sites.{Site}
use Rattle.vc_compile_plan.specs.Slots.{bill_in, bill_of, for_line, for_lines, has_levels_below, line_number, object_in}
use Rattle.vc_compile_plan.specs.Slots.{slot_of, slots_of, standings_from, standings_of}
use Rattle.vc_compile_plan.specs.Tables.{object_from, objects_from}
use Rattle.vc_compile_plan.specs.declared.standings.Standing.{Standing}
use Rattle.vc_compile_valid.specs.Models.{KeepsParts, is_plain}
use Rattle.vc_compile_valid.specs.Slots.{HasLineSlots}
use Rattle.vc_compile_valid.proofs.EachLaws.{Each, each_by_slot, each_mapped, each_more, each_passes, each_tested}
use Rattle.vc_compile_valid.proofs.LineNumberLaws.{IsOfBill, before_apart, bill_found, bill_sizes, lines_of_slot}
use Rattle.vc_compile_valid.proofs.LineNumberLaws.{number_is}
use Rattle.vc_compile_valid.proofs.ListLaws.{any_there, none_past, passes_there, some_there}
use Rattle.vc_compile_valid.proofs.NumberingLaws.{StandFrom, first_of_more, rest_of_more}
use Rattle.vc_compile_valid.proofs.PlacedLaws.{EachFrom, IsPart, IsPlacedBelow, from_at, from_joined, placed_at}
use Rattle.vc_compile_valid.proofs.PlacedLaws.{stand_first, stand_rest, whole_stands}
use Rattle.vc_compile_valid.proofs.PreorderLaws.{all_earlier, is_earlier}
use Rattle.vc_compile_valid.proofs.SlotwiseLaws.{below_count, none_left}

-- what stands for a line of a slot
abbrev pub is_for : ℕ → ℕ → Standing → Bool
is_for p k s = is_number p s.parent && (s.item == k)

-- what each line brings
lines_each : (P : ℕ → Standing → Type 0) (all : List Standing) (brought : ℕ → ℕ → ℕ → List Standing) (item n : ℕ)
    (lines : List BillItem)
    → StandFrom all n (for_lines brought item n lines)
    → ((k : ℕ) (line : BillItem) (o m : ℕ) → slice_get lines k ≡ Some line → object_in line.component ≡ Some o
    → StandFrom all m (brought (item + k) m o) → EachFrom P m (brought (item + k) m o))
    → EachFrom P n (for_lines brought item n lines)
lines_each P all brought item n [] stand of = tt
lines_each P all brought item n (line ∷ lines) stand of =
    from_joined P n first rest
    (by (object_in line.component) refl (first_of_more all n first rest stand))
    (lines_each P all brought (suc item) (n + length first) lines (rest_of_more all n first rest stand)
    (λ k l o m at is s. subst (λ i. EachFrom P m (brought i m o)) (one_more item k)
    (of (suc k) l o m at is (subst (λ i. StandFrom all m (brought i m o)) (sym (one_more item k)) s))))
  where
    first : List Standing
    first = for_line (brought item n) (object_in line.component)

    rest : List Standing
    rest = for_lines brought (suc item) (n + length first) lines

    one_more : (i k : ℕ) → i + suc k ≡ suc i + k
    one_more i k = omega arith

    no_more : (i : ℕ) → i + 0 ≡ i
    no_more i = omega arith

    by : (o : Option ℕ) → object_in line.component ≡ o → StandFrom all n (for_line (brought item n) o)
        → EachFrom P n (for_line (brought item n) o)
    by None is s = tt
    by (Some o) is s =
        subst (λ i. EachFrom P n (brought i n o)) (no_more item)
        (of zero line o n refl is (subst (λ i. StandFrom all n (brought i n o)) (sym (no_more item)) s))

-- where a line's object stands
line_stands : (all : List Standing) (brought : ℕ → ℕ → ℕ → List Standing) (item n : ℕ) (lines : List BillItem)
    → StandFrom all n (for_lines brought item n lines) → (k i : ℕ) (line : BillItem) (o : ℕ) → i ≡ item + k
    → slice_get lines k ≡ Some line → object_in line.component ≡ Some o → (m : ℕ) × StandFrom all m (brought i m o)
line_stands all brought item n [] stand k i line o is at has = absurd (cc)
line_stands all brought item n (x ∷ lines) stand zero i line o is at has =
    let same : x ≡ line = cc in
    let here : item ≡ i = omega (arith, is) in
    let object : object_in x.component ≡ Some o = ap (λ y. object_in y.component) same ∙ has in
    let first = for_line (brought item n) (object_in x.component) in
    let front = first_of_more all n first (for_lines brought (suc item) (n + length first) lines) stand in (
      n,
      subst (λ j. StandFrom all n (brought j n o)) here
          (subst (λ c. StandFrom all n (for_line (brought item n) c)) object front),
    )
line_stands all brought item n (x ∷ lines) stand (suc k) i line o is at has =
    let first = for_line (brought item n) (object_in x.component) in
    let rest = for_lines brought (suc item) (n + length first) lines in
    line_stands all brought (suc item) (n + length first) lines (rest_of_more all n first rest stand) k i line o
    (omega (arith, is)) at has

-- none of the components stands too deep
none_of_lines : (p : ℕ → Bool) (lines : List BillItem)
    → list_any p (filter_map (λ line. object_in line.component) lines) ≡ false
    → (k : ℕ) (line : BillItem) (o : ℕ) → slice_get lines k ≡ Some line → object_in line.component ≡ Some o
    → p o ≡ false
none_of_lines p [] none k line o at has = absurd (cc)
none_of_lines p (x ∷ lines) none zero line o at has =
    let same : x ≡ line = cc in
    let object : object_in x.component ≡ Some o = ap (λ y. object_in y.component) same ∙ has in
    (or_parts (p o) (list_any p (filter_map (λ line. object_in line.component) lines))
    (ap (λ c. list_any p (cons_option c (filter_map (λ line. object_in line.component) lines))) (sym object) ∙ none)).0
none_of_lines p (x ∷ lines) none (suc k) line o at has =
    none_of_lines p lines (by (object_in x.component) none) k line o at has
  where
    by : (c : Option ℕ) → list_any p (cons_option c (filter_map (λ line. object_in line.component) lines)) ≡ false
        → list_any p (filter_map (λ line. object_in line.component) lines) ≡ false
    by None h = h
    by (Some c) h = (or_parts (p c) (list_any p (filter_map (λ line. object_in line.component) lines)) h).1

-- below each slot stands one for each line that has an object
abbrev pub HasParts : Model → List Standing → ℕ → Standing → Type 0
HasParts model all n s =
    (k : ℕ) (line : BillItem) (o : ℕ) → slice_get (bill_of model s.object) k ≡ Some line
    → object_in line.component ≡ Some o
    → list_any (is_for n k) all ≡ true

has_parts : (model : Model) (all : List Standing) (levels : ℕ) (parent : Option ℕ) (depth item n o : ℕ)
    → has_levels_below model levels o ≡ false → StandFrom all n (standings_from model levels parent depth item n o)
    → EachFrom (HasParts model all) n (standings_from model levels parent depth item n o)
has_parts model all zero parent depth item n o shallow stand = tt
has_parts model all (suc levels) parent depth item n o shallow stand = (
  λ k line c at has. stood k line c at has,
  lines_each (HasParts model all) all brought 0 (suc n) (bill_of model o) below
      (λ k line c m at has s. has_parts model all levels (Some n) (suc depth) (0 + k) m c (none k line c at has) s),
)
  where
    brought : ℕ → ℕ → ℕ → List Standing
    brought = standings_from model levels (Some n) (suc depth)

    head : Standing
    head = record { parent = parent; depth = depth; object = o; item = item }

    below : StandFrom all (suc n) (for_lines brought 0 (suc n) (bill_of model o))
    below = stand_rest all n head (for_lines brought 0 (suc n) (bill_of model o)) stand

    none : (k : ℕ) (line : BillItem) (c : ℕ) → slice_get (bill_of model o) k ≡ Some line
        → object_in line.component ≡ Some c
        → has_levels_below model levels c ≡ false
    none k line c at has = none_of_lines (has_levels_below model levels) (bill_of model o) shallow k line c at has

    first_of : (l : ℕ) (m k c : ℕ) → has_levels_below model l c ≡ false
        → StandFrom all m (standings_from model l (Some n) (suc depth) k m c) → list_any (is_for n k) all ≡ true
    first_of zero m k c none s = absurd (cc)
    first_of (suc l) m k c none s =
        let child : Standing = record { parent = Some n; depth = suc depth; object = c; item = k } in
        any_there (is_for n k) all m child
        (stand_first all m child
        (for_lines (standings_from model l (Some m) (suc (suc depth))) 0 (suc m) (bill_of model c)) s)
        (and_from (n == n) (k == k) (eq-eqb n n refl) (eq-eqb k k refl))

    stood : (k : ℕ) (line : BillItem) (c : ℕ) → slice_get (bill_of model o) k ≡ Some line
        → object_in line.component ≡ Some c
        → list_any (is_for n k) all ≡ true
    stood k line c at has =
        let found = line_stands all brought 0 (suc n) (bill_of model o) below k k line c (omega arith) at has in
        first_of levels found.0 k c (none k line c at has) found.1

pub parts_at : (model : Model) → KeepsParts model → (n : ℕ) (s : Standing) → slice_get (standings_of model) n ≡ Some s
    → HasParts model (standings_of model) n s
parts_at model keeps n s e =
    subst (λ m. HasParts model (standings_of model) m s) (no_front n)
    (from_at (HasParts model (standings_of model)) 0 (standings_of model) n s
    (has_parts model (standings_of model) 4 None 0 0 0 model.root keeps.levels (whole_stands (standings_of model))) e)
  where
    no_front : (m : ℕ) → 0 + m ≡ m
    no_front m = omega arith

-- one of a list alone passes, where one does and no two
none_behind : {X : Type 0} (before' : X → X → Bool) (test : X → Bool)
    → ((a b : X) → test a ≡ true → test b ≡ true → before' a b ≡ false) → (x : X) → test x ≡ true → (ys : List X)
    → list_all (before' x) ys ≡ true → Each (λ y. test y ≡ false) ys
none_behind before' test apart x passes [] k = tt
none_behind before' test apart x passes (y ∷ ys) k =
    let both = and_parts (before' x y) (list_all (before' x) ys) k in
    (fails (test y) refl both.0, none_behind before' test apart x passes ys both.1)
  where
    fails : (b : Bool) → test y ≡ b → before' x y ≡ true → test y ≡ false
    fails false e k = e
    fails true e k = absurd (let both : true ≡ false = sym k ∙ apart x y passes e in cc)

one_left : {X : Type 0} (before' : X → X → Bool) (test : X → Bool)
    → ((a b : X) → test a ≡ true → test b ≡ true → before' a b ≡ false) → (xs : List X) → are_in_order before' xs ≡ true
    → list_any test xs ≡ true → length (filter test xs) ≡ 1
one_left before' test apart [] h some = absurd (cc)
one_left {X = X} before' test apart (x ∷ xs) h some =
    let parts
    = and_parts (list_all (before' x) xs) (are_in_order before' xs) h in
    by (test x) refl some parts.0 (λ k. one_left before' test apart xs parts.1 k)
  where
    by : (b : Bool) → test x ≡ b → (b || list_any test xs) ≡ true → list_all (before' x) xs ≡ true
        → (list_any test xs ≡ true → length (filter test xs) ≡ 1)
        → length (cond b (x ∷ filter test xs) (filter test xs)) ≡ 1
    by true e some here more = ap (λ l. length (x ∷ l)) (none_left test xs (none_behind before' test apart x e xs here))
    by false e some here more = more some

left_mapped : {X Y : Type 0} (test : Y → Bool) (f : X → Y) (xs : List X)
    → filter test (map f xs) ≡ map f (filter (λ x. test (f x)) xs)
left_mapped test f [] = refl
left_mapped test f (x ∷ xs) = by (test (f x)) (left_mapped test f xs)
  where
    by : (b : Bool) → filter test (map f xs) ≡ map f (filter (λ x. test (f x)) xs)
        → cond b (f x ∷ filter test (map f xs)) (filter test (map f xs))
        ≡ map f (cond b (x ∷ filter (λ x. test (f x)) xs) (filter (λ x. test (f x)) xs))
    by true e = ap (λ l. f x ∷ l) e
    by false e = e

left_same : {X : Type 0} (p q : X → Bool) (xs : List X) → ((k : ℕ) (x : X) → slice_get xs k ≡ Some x → p x ≡ q x)
    → filter p xs ≡ filter q xs
left_same p q [] h = refl
left_same p q (x ∷ xs) h =
    ap (λ b. cond b (x ∷ filter p xs) (filter p xs)) (h zero x refl)
    ∙ ap (λ l. cond (q x) (x ∷ l) l) (left_same p q xs (λ k y e. h (suc k) y e))

each_of_left : {X : Type 0} (test p : X → Bool) (xs : List X)
    → ((k : ℕ) (x : X) → slice_get xs k ≡ Some x → test x ≡ true → p x ≡ true) → list_all p (filter test xs) ≡ true
each_of_left test p [] h = refl
each_of_left test p (x ∷ xs) h = by (test x) refl (each_of_left test p xs (λ k y e. h (suc k) y e))
  where
    by : (b : Bool) → test x ≡ b → list_all p (filter test xs) ≡ true
        → list_all p (cond b (x ∷ filter test xs) (filter test xs)) ≡ true
    by true e more = and_from (p x) (list_all p (filter test xs)) (h zero x refl e) more
    by false e more = more

none_of_left : {X : Type 0} (test : X → Bool) (xs : List X)
    → ((k : ℕ) (x : X) → slice_get xs k ≡ Some x → test x ≡ false)
    → filter test xs ≡ []
none_of_left test [] h = refl
none_of_left test (x ∷ xs) h =
    ap (λ b. cond b (x ∷ filter test xs) (filter test xs)) (h zero x refl)
    ∙ none_of_left test xs (λ k y e. h (suc k) y e)

-- the slots of a line are those of its place in the bill
abbrev is_numbered : Model → ℕ → Standing → Bool
is_numbered model l s = is_some s.parent && (line_number model (standings_of model) s.parent s.item == l)

size_at : (model : Model) (p : ℕ) (above : Standing) → slice_get (standings_of model) p ≡ Some above
    → slice_get (bill_sizes model) p ≡ Some (length (bill_of model above.object))
size_at model p above at =
    slice_get-map (λ s. length (bill_of model s.object)) (standings_of model) p
    ∙ ap (option_map (λ s. length (bill_of model s.object))) at

numbered_same : (model : Model) (p k l : ℕ) (above : Standing) (item : BillItem)
    → slice_get (standings_of model) p ≡ Some above
    → slice_get (bill_of model above.object) k ≡ Some item → l ≡ line_number model (standings_of model) (Some p) k
    → (n : ℕ) (s : Standing) → slice_get (standings_of model) n ≡ Some s → is_numbered model l s ≡ is_for p k s
numbered_same model p k l above item at listed number n s e = by s.parent refl (placed_at model n s e)
  where
    low : k < length (bill_of model above.object)
    low = slice_get_within (bill_of model above.object) k item listed

    both : (q : ℕ) → IsPart model (standings_of model) n q s → (t : Bool)
        → (line_number model (standings_of model) (Some q) s.item == l) ≡ t → t ≡ ((p == q) && (s.item == k))
    both q part true is =
        let same = eqb-true (line_number model (standings_of model) (Some q) s.item) l is in
        let places = before_apart (bill_sizes model) q p s.item k (length (bill_of model part.above.object))
        (length (bill_of model above.object)) (size_at model q part.above part.there)
        (slice_get_within (bill_of model part.above.object) s.item part.line part.listed) (size_at model p above at) low
        (sym (number_is model q s.item) ∙ same ∙ number ∙ number_is model p k) in
        sym (and_from (p == q) (s.item == k) (eq-eqb p q (sym places.0)) (eq-eqb s.item k places.1))
    both q part false is = of_test ((p == q) && (s.item == k)) refl
      where
        of_test : (u : Bool) → ((p == q) && (s.item == k)) ≡ u → false ≡ u
        of_test false h = refl
        of_test true h =
            let parts = and_parts (p == q) (s.item == k) h in
            absurd (let clash : true ≡ false =
            sym (eq-eqb (line_number model (standings_of model) (Some q) s.item) l
            (ap (λ m. line_number model (standings_of model) (Some m) s.item) (sym (eqb-true p q parts.0))
            ∙ ap (line_number model (standings_of model) (Some p)) (eqb-true s.item k parts.1) ∙ sym number))
            ∙ is in cc)

    by : (o : Option ℕ) → s.parent ≡ o → IsPlacedBelow model (standings_of model) n s o
        → is_numbered model l s ≡ is_for p k s
    by None none placed =
        ap (λ o. is_some o && (line_number model (standings_of model) o s.item == l)) none
        ∙ sym (ap (λ o. is_number p o && (s.item == k)) none)
    by (Some q) some placed =
        ap (λ o. is_some o && (line_number model (standings_of model) o s.item == l)) some
        ∙ both q placed (line_number model (standings_of model) (Some q) s.item == l) refl
        ∙ sym (ap (λ o. is_number p o && (s.item == k)) some)

-- a standing for a line is of its object
parent_is : (o : Option ℕ) (p : ℕ) → is_number p o ≡ true → o ≡ Some p
parent_is None p h = absurd (cc)
parent_is (Some q) p h = ap Some (sym (eqb-true p q h))

pub object_is : (model : Model) (p k : ℕ) (above : Standing) (item : BillItem)
    → slice_get (standings_of model) p ≡ Some above
    → slice_get (bill_of model above.object) k ≡ Some item → (n : ℕ) (s : Standing)
    → slice_get (standings_of model) n ≡ Some s
    → is_for p k s ≡ true → object_in item.component ≡ Some s.object
object_is model p k above item at listed n s e h =
    let parts = and_parts (is_number p s.parent) (s.item == k) h in
    of_parent s.parent (parent_is s.parent p parts.0) (placed_at model n s e) (eqb-true s.item k parts.1)
  where
    of_parent : (o : Option ℕ) → o ≡ Some p → IsPlacedBelow model (standings_of model) n s o → s.item ≡ k
        → object_in item.component ≡ Some s.object
    of_parent None is placed same = absurd (cc)
    of_parent (Some q) is placed same =
        let one : q ≡ p = cc in
        let above_same : Some placed.above ≡ Some above
        = sym placed.there ∙ ap (slice_get (standings_of model)) one ∙ at in
        let stand : placed.above ≡ above = cc in
        let line_same : Some placed.line ≡ Some item =
        sym placed.listed ∙ ap (λ a. slice_get (bill_of model a.object) s.item) stand
        ∙ ap (slice_get (bill_of model above.object)) same ∙ listed in
        let line : placed.line ≡ item = cc in
        ap (λ l. object_in l.component) (sym line) ∙ placed.object

-- two standings for one line are not in order
not_twice : (p k : ℕ) (a b : Standing) → is_for p k a ≡ true → is_for p k b ≡ true → is_earlier a b ≡ false
not_twice p k a b h j =
    let first = and_parts (is_number p a.parent) (a.item == k) h in
    let second = and_parts (is_number p b.parent) (b.item == k) j in
    ap (λ o. not (same_number_if o b.parent) || (is_some o && nat_lt a.item b.item)) (parent_is a.parent p first.0)
    ∙ ap (λ o. not (same_number_if (Some p) o) || (true && nat_lt a.item b.item)) (parent_is b.parent p second.0)
    ∙ ap (λ t. not t || (true && nat_lt a.item b.item)) (eq-eqb p p refl)
    ∙ le-ltb a.item b.item
    (let x = eqb-true a.item k first.1 in let y = eqb-true b.item k second.1 in omega (arith, x, y))

-- objects of the plan by the model's
pub objects_at : (model : Model) (s : ℕ) (xs : List configurable.Object) (k n : ℕ) → n ≡ s + k
    → slice_get (objects_from model s xs) k ≡ option_map (object_from model n) (slice_get xs k)
objects_at model s [] k n is = refl
objects_at model s (x ∷ xs) zero n is = let same : s
    ≡ n = omega (arith, is) in ap (λ m. Some (object_from model m x)) same
objects_at model s (x ∷ xs) (suc k) n is = objects_at model (suc s) xs k n (omega (arith, is))

pub same_itself : (word : List ℕ) → same_bytes word word ≡ true
same_itself [] = refl
same_itself (b ∷ word) = and_from (b == b) (same_bytes word word) (eq-eqb b b refl) (same_itself word)

-- the material of a line's object is that of the plan's object
material_there : (model : Model) (tables : List VariantTable) (plan : Plan) → IsPlanOf model tables plan → (o : ℕ)
    → is_of plan.objects o ≡ true
    → has_material (material_in (slice_get model.objects o)) (slice_get plan.objects o) ≡ true
material_there model tables plan is o below =
    ap (λ os. has_material (material_in (slice_get model.objects o)) (slice_get os o)) is.objects
    ∙ ap (has_material (material_in (slice_get model.objects o))) (objects_at model 0 model.objects o o (omega arith))
    ∙ by (slice_get model.objects o) refl
  where
    size : length plan.objects ≡ length model.objects
    size = ap length is.objects ∙ count 0 model.objects
      where
        count : (s : ℕ) (xs : List configurable.Object) → length (objects_from model s xs) ≡ length xs
        count s [] = refl
        count s (x ∷ xs) = ap suc (count (suc s) xs)

    by : (x : Option configurable.Object) → slice_get model.objects o ≡ x
        → has_material (material_in x) (option_map (object_from model o) x) ≡ true
    by None e = absurd (let end = none_past model.objects o e in let low = ltb-true o (length plan.objects) below in
        omega (arith, end, low, size))
    by (Some x) e = same_itself x.material

-- a line is configurable where it has an object
object_found : (material : List ℕ) (xs : List Object) (o : ℕ) → has_material material (slice_get xs o) ≡ true
    → list_any (λ object. same_bytes object.material material) xs ≡ true
object_found material [] o h = absurd (cc)
object_found material (x ∷ xs) zero h =
    or_left (same_bytes x.material material) (list_any (λ object. same_bytes object.material material) xs) h
object_found material (x ∷ xs) (suc o) h =
    or_right (same_bytes x.material material) (list_any (λ object. same_bytes object.material material) xs)
    (object_found material xs o h)

materials_same : (model : Model) (material : List ℕ) (s : ℕ) (xs : List configurable.Object)
    → list_any (λ object. same_bytes object.material material) (objects_from model s xs)
    ≡ list_any (λ object. same_bytes object.material material) xs
materials_same model material s [] = refl
materials_same model material s (x ∷ xs) =
    ap (λ b. same_bytes x.material material || b) (materials_same model material (suc s) xs)

-- what holds of each line of each bill holds of those of one
pub bill_pass : (model : Model) (p : BillItem → Bool) → list_all (λ object. list_all p object.bill) model.objects ≡ true
    → (o : ℕ)
    → list_all p (bill_of model o) ≡ true
bill_pass model p all o = by (slice_get model.objects o) refl
  where
    pass_at : (xs : List configurable.Object) (k : ℕ) (x : configurable.Object)
        → list_all (λ object. list_all p object.bill) xs ≡ true
        → slice_get xs k ≡ Some x → list_all p x.bill ≡ true
    pass_at [] k x h e = absurd (cc)
    pass_at (y ∷ xs) zero x h e =
        let same : y ≡ x = cc in
        ap (λ z. list_all p z.bill) (sym same)
        ∙ (and_parts (list_all p y.bill) (list_all (λ object. list_all p object.bill) xs) h).0
    pass_at (y ∷ xs) (suc k) x h e =
        pass_at xs k x (and_parts (list_all p y.bill) (list_all (λ object. list_all p object.bill) xs) h).1 e

    by : (x : Option configurable.Object) → slice_get model.objects o ≡ x → list_all p (bill_in x) ≡ true
    by None e = refl
    by (Some x) e = pass_at model.objects o x all e

-- whether a line is configurable is told by its component
plain_apart : (model : Model) (tables : List VariantTable) (plan : Plan) → IsPlanOf model tables plan
    → (material : List ℕ)
    → is_plain model.objects (components.Plain material) ≡ true
    → list_any (λ object. same_bytes object.material material) plan.objects ≡ false
plain_apart model tables plan is material h =
    ap (list_any (λ object. same_bytes object.material material)) is.objects
    ∙ materials_same model material 0 model.objects
    ∙ not-true (list_any (λ object. same_bytes object.material material) model.objects) h

slots_of_line : (model : Model) (tables : List VariantTable) (plan : Plan) → KeepsParts model
    → IsPlanOf model tables plan
    → list_all (slot_there plan) plan.slots ≡ true → (l : ℕ) (line : Line) → slice_get plan.lines l ≡ Some line
    → has_its_slots plan l (Some line) ≡ true
slots_of_line model tables plan keeps is there l line e =
    and_from (length own == (if is_configurable plan line then 1 else 0))
    (list_all (λ slot. has_material line.material (slice_get plan.objects slot.object)) own)
    (eq-eqb (length own) (if is_configurable plan line then 1 else 0)
    (ap length own_are ∙ length-map (filter (is_for bill.p bill.k) all) (slot_of model all)
    ∙ count bill.item.component refl))
    (ap (list_all (λ slot. has_material line.material (slice_get plan.objects slot.object))) own_are
    ∙ list_all-map (λ slot. has_material line.material (slice_get plan.objects slot.object)) (slot_of model all)
    (filter (is_for bill.p bill.k) all)
    ∙ each_of_left (is_for bill.p bill.k) (λ s. has_material line.material (slice_get plan.objects s.object)) all
    (λ n s at h. material n s at h))
  where
    all : List Standing
    all = standings_of model

    bill : IsOfBill model l line
    bill = bill_found model tables plan is l line e

    own : List Slot
    own = filter (stands_for l) plan.slots

    own_are : filter (stands_for l) plan.slots
        ≡ map (slot_of model (standings_of model)) (filter (is_for bill.p bill.k) (standings_of model))
    own_are =
        ap (filter (stands_for l)) is.slots ∙ left_mapped (stands_for l) (slot_of model all) all
        ∙ ap (map (slot_of model all)) (left_same (is_numbered model l) (is_for bill.p bill.k) all
        (numbered_same model bill.p bill.k l bill.above bill.item bill.at bill.listed bill.number))

    word : line.material ≡ material_of model bill.item.component
    word = ap (λ x. x.material) bill.is

    -- the object of a standing for the line is there
    object_there : (n : ℕ) (s : Standing) → slice_get (standings_of model) n ≡ Some s
        → is_of plan.objects s.object ≡ true
    object_there n s at =
        (and_parts (is_of_if plan.slots s.parent) (is_of plan.objects s.object)
        (passes_there (slot_there plan) plan.slots n (slot_of model (standings_of model) s) there
        (ap (λ ss. slice_get ss n) is.slots ∙ slice_get-map (slot_of model (standings_of model)) (standings_of model) n
        ∙ ap (option_map (slot_of model (standings_of model))) at))).1

    of_object : (x : Component) (o : ℕ) → object_in x ≡ Some o
        → material_of model x ≡ material_in (slice_get model.objects o)
    of_object (components.Object c) o h = let same : c
        ≡ o = cc in ap (λ m. material_in (slice_get model.objects m)) same
    of_object (components.Plain material) o h = absurd (cc)

    material : (n : ℕ) (s : Standing) → slice_get (standings_of model) n ≡ Some s → is_for bill.p bill.k s ≡ true
        → has_material line.material (slice_get plan.objects s.object) ≡ true
    material n s at h =
        ap (λ m. has_material m (slice_get plan.objects s.object))
        (word ∙ of_object bill.item.component s.object
        (object_is model bill.p bill.k bill.above bill.item bill.at bill.listed n s at h))
        ∙ material_there model tables plan is s.object (object_there n s at)

    one_there : (o : ℕ) → object_in bill.item.component ≡ Some o
        → list_any (is_for bill.p bill.k) (standings_of model) ≡ true
    one_there o has = parts_at model keeps bill.p bill.above bill.at bill.k bill.item o bill.listed has

    count : (x : Component) → bill.item.component ≡ x
        → length (filter (is_for bill.p bill.k) (standings_of model)) ≡ (if is_configurable plan line then 1 else 0)
    count (components.Object o) has =
        let some = one_there o (ap object_in has) in
        let found = some_there (is_for bill.p bill.k) (standings_of model) some in
        one_left is_earlier (is_for bill.p bill.k) (not_twice bill.p bill.k) (standings_of model) (all_earlier model)
        some
        ∙ sym (ap (λ b. if b then 1 else 0)
        (object_found line.material plan.objects found.1.object (material found.0 found.1 found.2 found.3)))
    count (components.Plain material) has =
        let plain
        = passes_there (λ item. is_plain model.objects item.component) (bill_of model bill.above.object) bill.k
        bill.item
        (bill_pass model (λ item. is_plain model.objects item.component) keeps.plain bill.above.object) bill.listed in
        ap length (none_of_left (is_for bill.p bill.k) (standings_of model)
        (λ n s at. fails n s at (is_for bill.p bill.k s) refl))
        ∙ sym (ap (λ b. if b then 1 else 0)
        (ap (λ m. list_any (λ object. same_bytes object.material m) plan.objects) (word ∙ ap (material_of model) has)
        ∙ plain_apart model tables plan is material (ap (is_plain model.objects) (sym has) ∙ plain)))
      where
        fails : (n : ℕ) (s : Standing) → slice_get (standings_of model) n ≡ Some s → (b : Bool)
            → is_for bill.p bill.k s ≡ b
            → is_for bill.p bill.k s ≡ false
        fails n s at false h = h
        fails n s at true h =
            absurd (let object = sym (ap object_in has)
            ∙ object_is model bill.p bill.k bill.above bill.item bill.at bill.listed n s at h in cc)

pub numbered_made : {D X : Type 0} (brings : Brings D) (make : ℕ → ℕ → D → X) (Q : D → Type 0) (P : X → Type 0)
    → ((c t : ℕ) (d : D) → Q d → P (make c t d)) → (c t : ℕ) (drafts : List D) → Each Q drafts
    → Each P (numbered brings make c t drafts)
numbered_made brings make Q P of c t [] h = tt
numbered_made brings make Q P of c t (d ∷ drafts) h = (
  of c t d h.0,
  numbered_made brings make Q P of (c + length (brings.conditions d)) (t + length (brings.terms d))
      drafts h.1,
)

pub has_line_slots : (model : Model) (tables : List VariantTable) (plan : Plan) → KeepsParts model
    → IsPlanOf model tables plan
    → list_all (slot_there plan) plan.slots ≡ true → HasLineSlots plan
has_line_slots model tables plan keeps is there =
    each_passes (λ l. l < 0 + length plan.lines) (λ l. has_its_slots plan l (slice_get plan.lines l))
    (λ l below. of_line l (slice_get plan.lines l) refl)
    (numbers_below (length plan.lines)) (below_count 0 (length plan.lines))
  where
    of_line : (l : ℕ) (o : Option Line) → slice_get plan.lines l ≡ o → has_its_slots plan l o ≡ true
    of_line l None e = refl
    of_line l (Some line) e = slots_of_line model tables plan keeps is there l line e
