-- The slots of a plan are in preorder, each below the one whose line it stands for, and in the order of lines.
use Rattle.std.proofs.Common.{◌≡◌, ℕ, zero, suc, ◌+◌, ◌<◌, ◌≤◌, ◌⊎◌, inl, inr, Bool, true, false, not, ◌&&◌, ◌||◌}
use Rattle.std.proofs.Common.{nat_lt, List, [], ◌∷◌, ◌++◌, length, Option, Some, None, refl, sym, ap, ◌∙◌, arith, subst}
use Rattle.std.proofs.Common.{length-append}
use Rattle.std.specs.Prelude.{◌==◌, drop, is_some, slice_get}
use Rattle.std.specs.List.{list_all, list_any}
use Rattle.std.proofs.lemmas.Bool.{and_from, and_parts, eq-eqb, eqb-true, lt-ltb, ltb-true, ne_eqb, not_from_false}
use Rattle.std.proofs.lemmas.Bool.{or_left, or_right}
use Rattle.std.proofs.lemmas.List.{length-map}
use Rattle.std.proofs.lemmas.List.Folds.{list_all-map}
use Rattle.vc_model_parts.specs.declared.parts.BillItem.{BillItem}
use Rattle.vc_model_parts.specs.declared.parts.Model.{Model}
use Rattle.vc_plan.specs.Domains.{numbers_below}
use Rattle.vc_plan.specs.Orders.{are_in_order, is_number, same_number_if}
use Rattle.vc_plan.specs.Seen.{parent_in}
use Rattle.vc_plan.specs.Slots.{depth_in, follows_in_preorder, is_below, is_item_before, lineage, slot_of_line}
use Rattle.vc_plan.specs.declared.plans.Plan.{Plan}
use Rattle.vc_table.specs.declared.table.VariantTable.{VariantTable}
use Rattle.vc_compile_plan.specs.PlanOf.{IsPlanOf}
use Rattle.vc_compile_plan.specs.Slots.{bill_of, for_line, for_lines, line_number, object_in, slot_of, standings_from}
use Rattle.vc_compile_plan.specs.Slots.{standings_of}
use Rattle.vc_compile_plan.specs.declared.standings.Standing.{Standing}
use Rattle.vc_compile_valid.specs.Slots.{HasPreorder}
use Rattle.vc_compile_valid.proofs.EachLaws.{Each, each_joined, each_more, each_passes, order_joined}
use Rattle.vc_compile_valid.proofs.LineNumberLaws.{line_found}
use Rattle.vc_compile_valid.proofs.ListLaws.{from_each, none_past}
use Rattle.vc_compile_valid.proofs.OrderedLaws.{order_mapped, order_weaker}
use Rattle.vc_compile_valid.proofs.PlacedLaws.{IsPart, IsPlacedBelow, Up, placed_at, slot_at}
use Rattle.vc_compile_valid.proofs.SlotwiseLaws.{below_count}

slot_in_plan : (model : Model) (tables : List VariantTable) (plan : Plan) → IsPlanOf model tables plan
    → (k : ℕ) (s : Standing)
    → slice_get (standings_of model) k ≡ Some s → slice_get plan.slots k ≡ Some (slot_of model (standings_of model) s)
slot_in_plan model tables plan is k s e = ap (λ ss. slice_get ss k) is.slots ∙ slot_at model k s e

-- the slots behind the root, as standings
abbrev behind_root : Model → List Standing
behind_root model = for_lines (standings_from model 3 (Some 0) 1) 0 1 (bill_of model model.root)

below_slot : (model : Model) (tables : List VariantTable) (plan : Plan) → IsPlanOf model tables plan
    → (n p : ℕ) (s : Standing)
    → IsPart model (standings_of model) n p s
    → ((s.depth == depth_in (slice_get plan.slots p) + 1)
    && is_number p (slot_of_line (slice_get plan.lines (line_number model (standings_of model) (Some p) s.item))))
    ≡ true
below_slot model tables plan is n p s part =
    let line = line_found model tables plan is p s.item part.above part.line part.there part.listed in
    let above : depth_in (slice_get plan.slots p) ≡ part.above.depth
    = ap depth_in (slot_in_plan model tables plan is p part.above part.there) in
    let deep = part.depth in
    and_from (s.depth == depth_in (slice_get plan.slots p) + 1)
    (is_number p (slot_of_line (slice_get plan.lines (line_number model (standings_of model) (Some p) s.item))))
    (eq-eqb s.depth (depth_in (slice_get plan.slots p) + 1) (omega (arith, deep, above)))
    (ap (λ o. is_number p (slot_of_line o)) line.there ∙ eq-eqb p p refl)

below_one : (model : Model) (tables : List VariantTable) (plan : Plan) → IsPlanOf model tables plan
    → (k : ℕ) (s : Standing)
    → slice_get (standings_of model) (suc k) ≡ Some s
    → is_below plan (slot_of model (standings_of model) s) s.parent ≡ true
below_one model tables plan is k s e = by s.parent refl (placed_at model (suc k) s e)
  where
    by : (o : Option ℕ) → s.parent ≡ o → IsPlacedBelow model (standings_of model) (suc k) s o
        → is_below plan (slot_of model (standings_of model) s) o ≡ true
    by None is_none placed = absurd (let none = placed.0 in omega (arith, none))
    by (Some p) is_some placed =
        ap (λ o. (s.depth == depth_in (slice_get plan.slots p) + 1)
        && is_number p (slot_of_line (slice_get plan.lines (line_number model (standings_of model) o s.item)))) is_some
        ∙ below_slot model tables plan is (suc k) p s placed

-- a slot that is reached is in the lineage
in_lineage : (model : Model) (tables : List VariantTable) (plan : Plan) → IsPlanOf model tables plan
    → (most steps p n : ℕ)
    → steps < most → Up (standings_of model) steps p n
    → list_any (λ q. is_number q (Some p)) (lineage plan most (Some n)) ≡ true
in_lineage model tables plan is zero steps p n few up = absurd (omega (arith, few))
in_lineage model tables plan is (suc most) zero p n few up =
    or_left (n == p) (list_any (λ q. is_number q (Some p)) (lineage plan most (parent_in (slice_get plan.slots n))))
    (eq-eqb n p (sym up))
in_lineage model tables plan is (suc most) (suc steps) p n few up =
    let parent : parent_in (slice_get plan.slots n) ≡ Some up.1 =
    ap parent_in (slot_in_plan model tables plan is n up.0 up.2) ∙ up.3 in
    or_right (n == p) (list_any (λ q. is_number q (Some p)) (lineage plan most (parent_in (slice_get plan.slots n))))
    (ap (λ o. list_any (λ q. is_number q (Some p)) (lineage plan most o)) parent
    ∙ in_lineage model tables plan is most steps p up.1 (omega (arith, few)) up.4)

follows : (model : Model) (tables : List VariantTable) (plan : Plan) → IsPlanOf model tables plan → (i : ℕ)
    → i < length plan.slots → follows_in_preorder plan i ≡ true
follows model tables plan is zero below = refl
follows model tables plan is (suc i) below = by (slice_get (standings_of model) (suc i)) refl
  where
    size : length plan.slots ≡ length (standings_of model)
    size = ap length is.slots ∙ length-map (standings_of model) (slot_of model (standings_of model))

    of_parent : (s : Standing) → slice_get (standings_of model) (suc i) ≡ Some s → (o : Option ℕ) → s.parent ≡ o
        → IsPlacedBelow model (standings_of model) (suc i) s o → follows_in_preorder plan (suc i) ≡ true
    of_parent s e None none placed = absurd (let first = placed.0 in omega (arith, first))
    of_parent s e (Some p) parent placed =
        let next = placed.next in
        let same : i ≡ placed.prior = omega (arith, next) in
        ap (λ o. list_any (λ q. is_number q o) (lineage plan 4 (Some i)))
        (ap parent_in (slot_in_plan model tables plan is (suc i) s e) ∙ parent)
        ∙ ap (λ m. list_any (λ q. is_number q (Some p)) (lineage plan 4 (Some m))) same
        ∙ in_lineage model tables plan is 4 placed.reached.steps p placed.prior placed.reached.few placed.reached.up

    by : (o : Option Standing) → slice_get (standings_of model) (suc i) ≡ o → follows_in_preorder plan (suc i) ≡ true
    by None e = absurd (let past = none_past (standings_of model) (suc i) e in omega (arith, past, below, size))
    by (Some s) e = of_parent s e s.parent refl (placed_at model (suc i) s e)

-- standings of one parent are in the order of its lines
abbrev pub is_earlier : Standing → Standing → Bool
is_earlier a b = not (same_number_if a.parent b.parent) || (is_some a.parent && nat_lt a.item b.item)

-- a standing whose parent is one of these numbers
record IsDeep (low high : ℕ) (s : Standing) : Type 0 where
  parent : ℕ
  is : s.parent ≡ Some parent
  from : low ≤ parent
  to : parent < high

-- one of a line of this slot, from this line on
record IsDirect (p item : ℕ) (s : Standing) : Type 0 where
  is : s.parent ≡ Some p
  from : item ≤ s.item

abbrev OfLines : ℕ → ℕ → ℕ → ℕ → Standing → Type 0
OfLines p item low high s = IsDirect p item s ⊎ IsDeep low high s

-- one of this line alone
record IsOnly (p item : ℕ) (s : Standing) : Type 0 where
  is : s.parent ≡ Some p
  at : s.item ≡ item

abbrev OfLine : ℕ → ℕ → ℕ → ℕ → Standing → Type 0
OfLine p item low high s = IsOnly p item s ⊎ IsDeep low high s

other_parents : (a b : Standing) (p q : ℕ) → a.parent ≡ Some p → b.parent ≡ Some q → (p ≡ q → ⊥) → is_earlier a b ≡ true
other_parents a b p q h k apart =
    or_left (not (same_number_if a.parent b.parent)) (is_some a.parent && nat_lt a.item b.item)
    (not_from_false (same_number_if a.parent b.parent)
    (ap (λ o. same_number_if o b.parent) h ∙ ap (same_number_if (Some p)) k ∙ ne_eqb p q apart))

same_parents : (a b : Standing) (p : ℕ) → a.parent ≡ Some p → a.item < b.item → is_earlier a b ≡ true
same_parents a b p h less =
    or_right (not (same_number_if a.parent b.parent)) (is_some a.parent && nat_lt a.item b.item)
    (and_from (is_some a.parent) (nat_lt a.item b.item) (ap is_some h) (lt-ltb a.item b.item less))

widen : (p item low high end : ℕ) (s : Standing) → high ≤ end → OfLine p item low high s → OfLines p item low end s
widen p item low high end s fits (inl only) =
    let at = only.at in inl (record { is = only.is; from = omega (arith, at) })
widen p item low high end s fits (inr deep) =
    let to
    = deep.to in inr (record { parent = deep.parent; is = deep.is; from = deep.from; to = omega (arith, to, fits) })

later : (p item low start end : ℕ) (s : Standing) → low ≤ start → OfLines p (suc item) start end s
    → OfLines p item low end s
later p item low start end s fits (inl direct) =
    let from = direct.from in inl (record { is = direct.is; from = omega (arith, from) })
later p item low start end s fits (inr deep) =
    let from
    = deep.from in inr (record
    { parent = deep.parent; is = deep.is; from = omega (arith, from, fits); to = deep.to })

across : (p item low middle end : ℕ) (a b : Standing) → p < low → low ≤ middle → OfLine p item low middle a
    → OfLines p (suc item) middle end b → is_earlier a b ≡ true
across p item low middle end a b under fits (inl only) (inl direct) =
    let at = only.at in
    let from = direct.from in same_parents a b p only.is (omega (arith, at, from))
across p item low middle end a b under fits (inl only) (inr deep) =
    let from = deep.from in other_parents a b p deep.parent only.is deep.is (λ e. omega (arith, e, from, fits, under))
across p item low middle end a b under fits (inr deep) (inl direct) =
    let from = deep.from in other_parents a b deep.parent p deep.is direct.is (λ e. omega (arith, e, from, under))
across p item low middle end a b under fits (inr deep) (inr other) =
    let to = deep.to in
    let from
    = other.from in other_parents a b deep.parent other.parent deep.is other.is (λ e. omega (arith, e, to, from))

-- what each line brings, and its order
record IsBrought (p : ℕ) (brought : ℕ → ℕ → ℕ → List Standing) : Type 0 where
  own : (item n o : ℕ) → p < n → Each (OfLine p item n (n + length (brought item n o))) (brought item n o)
  order : (item n o : ℕ) → p < n → are_in_order is_earlier (brought item n o) ≡ true

of_option : (p : ℕ) (brought : ℕ → ℕ → ℕ → List Standing) → IsBrought p brought → (item n : ℕ) → p < n → (o : Option ℕ)
    → Each (OfLine p item n (n + length (for_line (brought item n) o))) (for_line (brought item n) o)
of_option p brought is item n under None = tt
of_option p brought is item n under (Some o) = is.own item n o under

order_of_option : (p : ℕ) (brought : ℕ → ℕ → ℕ → List Standing) → IsBrought p brought → (item n : ℕ) → p < n
    → (o : Option ℕ)
    → are_in_order is_earlier (for_line (brought item n) o) ≡ true
order_of_option p brought is item n under None = refl
order_of_option p brought is item n under (Some o) = is.order item n o under

of_lines : (p : ℕ) (brought : ℕ → ℕ → ℕ → List Standing) → IsBrought p brought → (item n : ℕ) → p < n
    → (lines : List BillItem)
    → Each (OfLines p item n (n + length (for_lines brought item n lines))) (for_lines brought item n lines)
of_lines p brought is item n under [] = tt
of_lines p brought is item n under (line ∷ lines) =
    let first = for_line (brought item n) (object_in line.component) in
    let rest = for_lines brought (suc item) (n + length first) lines in
    let size = length-append first rest in
    each_joined (OfLines p item n (n + length (first ++ rest))) first rest
    (each_more (OfLine p item n (n + length first)) (OfLines p item n (n + length (first ++ rest)))
    (λ s h. widen p item n (n + length first) (n + length (first ++ rest)) s (omega (arith, size)) h) first
    (of_option p brought is item n under (object_in line.component)))
    (each_more (OfLines p (suc item) (n + length first) ((n + length first) + length rest))
    (OfLines p item n (n + length (first ++ rest)))
    (λ s h. later p item n (n + length first) (n + length (first ++ rest)) s (omega arith)
    (subst (λ m. OfLines p (suc item) (n + length first) m s) (omega (arith, size)) h)) rest
    (of_lines p brought is (suc item) (n + length first) (omega (arith, under)) lines))

order_of_lines : (p : ℕ) (brought : ℕ → ℕ → ℕ → List Standing) → IsBrought p brought → (item n : ℕ) → p < n
    → (lines : List BillItem)
    → are_in_order is_earlier (for_lines brought item n lines) ≡ true
order_of_lines p brought is item n under [] = refl
order_of_lines p brought is item n under (line ∷ lines) =
    let first = for_line (brought item n) (object_in line.component) in
    let middle = n + length first in
    let rest = for_lines brought (suc item) middle lines in
    let others = of_lines p brought is (suc item) middle (omega (arith, under)) lines in
    order_joined is_earlier first rest (order_of_option p brought is item n under (object_in line.component))
    (order_of_lines p brought is (suc item) middle (omega (arith, under)) lines)
    (each_more (OfLine p item n middle) (λ a. list_all (is_earlier a) rest ≡ true)
    (λ a h. each_passes (OfLines p (suc item) middle (middle + length rest)) (is_earlier a)
    (λ b k. across p item n middle (middle + length rest) a b under (omega arith) h k) rest others) first
    (of_option p brought is item n under (object_in line.component)))

-- what stands below an object is of its lines, or deeper
deeper : (n end : ℕ) (s : Standing) → OfLines n 0 (suc n) end s → n < end → IsDeep n end s
deeper n end s (inl direct) some = record { parent = n; is = direct.is; from = omega arith; to = some }
deeper n end s (inr deep) some =
    let from = deep.from in record { parent = deep.parent; is = deep.is; from = omega (arith, from); to = deep.to }

brought_more : (model : Model) (levels p depth : ℕ)
    → ((q d : ℕ) → IsBrought q (standings_from model levels (Some q) d))
    → IsBrought p (standings_from model (suc levels) (Some p) depth)
brought_more model levels p depth ih = record { own = own; order = order }
  where
    rest : ℕ → ℕ → List Standing
    rest n o = for_lines (standings_from model levels (Some n) (suc depth)) 0 (suc n) (bill_of model o)

    deep : (n o : ℕ) → Each (IsDeep n (n + suc (length (rest n o)))) (rest n o)
    deep n o =
        each_more (OfLines n 0 (suc n) (suc n + length (rest n o))) (IsDeep n (n + suc (length (rest n o))))
        (λ s h. deeper n (n + suc (length (rest n o))) s (subst (λ m. OfLines n 0 (suc n) m s) (omega arith) h)
        (omega arith))
        (rest n o)
        (of_lines n (standings_from model levels (Some n) (suc depth)) (ih n (suc depth)) 0 (suc n)
        (omega arith) (bill_of model o))

    own : (item n o : ℕ) → p < n
        → Each (OfLine p item n (n + length (standings_from model (suc levels) (Some p) depth item n o)))
        (standings_from model (suc levels) (Some p) depth item n o)
    own item n o under = (
      inl (record { is = refl; at = refl }),
      each_more (IsDeep n (n + suc (length (rest n o)))) (OfLine p item n (n + suc (length (rest n o)))) (λ s h. inr h)
          (rest n o)
          (deep n o),
    )

    order : (item n o : ℕ) → p < n
        → are_in_order is_earlier (standings_from model (suc levels) (Some p) depth item n o) ≡ true
    order item n o under =
        let head : Standing = record { parent = Some p; depth = depth; object = o; item = item } in
        and_from (list_all (is_earlier head) (rest n o)) (are_in_order is_earlier (rest n o))
        (each_passes (IsDeep n (n + suc (length (rest n o)))) (is_earlier head)
        (λ s h. let from = h.from in other_parents head s p h.parent refl h.is (λ e. omega (arith, e, from, under)))
        (rest n o) (deep n o))
        (order_of_lines n (standings_from model levels (Some n) (suc depth)) (ih n (suc depth)) 0 (suc n)
        (omega arith) (bill_of model o))

brought_from : (model : Model) (levels p depth : ℕ) → IsBrought p (standings_from model levels (Some p) depth)
brought_from model zero p depth = record { own = λ item n o under. tt; order = λ item n o under. refl }
brought_from model (suc levels) p depth = brought_more model levels p depth (λ q d. brought_from model levels q d)

pub all_earlier : (model : Model) → are_in_order is_earlier (standings_of model) ≡ true
all_earlier model =
    let brought = standings_from model 3 (Some 0) 1 in
    let head : Standing = record { parent = None; depth = 0; object = model.root; item = 0 } in
    let rest = behind_root model in
    and_from (list_all (is_earlier head) rest) (are_in_order is_earlier rest)
    (each_passes (OfLines 0 0 1 (1 + length rest)) (is_earlier head) (λ s h. first s h) rest
    (of_lines 0 brought (brought_from model 3 0 1) 0 1 (omega arith) (bill_of model model.root)))
    (order_of_lines 0 brought (brought_from model 3 0 1) 0 1 (omega arith) (bill_of model model.root))
  where
    none_first : (o : Option ℕ) (q : ℕ) (b : Bool) → o ≡ Some q → (not (same_number_if None o) || b) ≡ true
    none_first None q b e = absurd (cc)
    none_first (Some p) q b e = refl

    first : (s : Standing) → OfLines 0 0 1 (1 + length (behind_root model)) s
        → is_earlier (record { parent = None; depth = 0; object = model.root; item = 0 }) s ≡ true
    first s (inl direct) = none_first s.parent 0 (false && nat_lt 0 s.item) direct.is
    first s (inr deep) = none_first s.parent deep.parent (false && nat_lt 0 s.item) deep.is

same_if : (o q : Option ℕ) → same_number_if o q ≡ true → o ≡ q
same_if None None h = refl
same_if None (Some q) h = absurd (cc)
same_if (Some p) None h = absurd (cc)
same_if (Some p) (Some q) h = ap Some (eqb-true p q h)

-- and so are their lines
item_before : (model : Model) (a b : Standing) → is_earlier a b ≡ true
    → is_item_before (slot_of model (standings_of model) a) (slot_of model (standings_of model) b) ≡ true
item_before model a b h = by (same_number_if a.parent b.parent) refl h
  where
    numbered : (o : Option ℕ) → is_some o ≡ true → a.item < b.item
        → line_number model (standings_of model) o a.item < line_number model (standings_of model) o b.item
    numbered None some less = absurd (cc)
    numbered (Some p) some less = omega (arith, less)

    by : (t : Bool) → same_number_if a.parent b.parent ≡ t
        → (not t || (is_some a.parent && nat_lt a.item b.item)) ≡ true
        → (not t || nat_lt (line_number model (standings_of model) a.parent a.item)
        (line_number model (standings_of model) b.parent b.item))
        ≡ true
    by false e k = refl
    by true e k =
        let parts = and_parts (is_some a.parent) (nat_lt a.item b.item) k in
        let less = numbered a.parent parts.0 (ltb-true a.item b.item parts.1) in
        ap (λ o. nat_lt (line_number model (standings_of model) a.parent a.item)
        (line_number model (standings_of model) o b.item))
        (sym (same_if a.parent b.parent e))
        ∙ lt-ltb (line_number model (standings_of model) a.parent a.item)
        (line_number model (standings_of model) a.parent b.item) less

pub has_preorder : (model : Model) (tables : List VariantTable) (plan : Plan) → IsPlanOf model tables plan
    → HasPreorder plan
has_preorder model tables plan is =
    let all = standings_of model in
    record {
      below = ap (λ ss. list_all (λ slot. is_below plan slot slot.parent) (drop 1 ss)) is.slots
          ∙ list_all-map (λ slot. is_below plan slot slot.parent) (slot_of model all) (behind_root model)
          ∙ from_each (λ s. is_below plan (slot_of model all s) s.parent) (behind_root model)
          (λ k s e. below_one model tables plan is k s e);
      preorder = each_passes (λ i. i < 0 + length plan.slots) (follows_in_preorder plan)
          (λ i below. follows model tables plan is i (omega (arith, below)))
          (numbers_below (length plan.slots)) (below_count 0 (length plan.slots));
      items = ap (are_in_order is_item_before) is.slots
          ∙ order_mapped is_item_before (slot_of model all) all
          ∙ order_weaker is_earlier (λ a b. is_item_before (slot_of model all a) (slot_of model all b)) all
          (item_before model)
          (all_earlier model);
    }
