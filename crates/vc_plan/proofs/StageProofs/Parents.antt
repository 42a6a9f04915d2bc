-- Slots come after their parents, and a component's slot after its owner's.
use Rattle.std.proofs.Common.{◌≡◌, ℕ, zero, suc, ◌+◌, ◌<◌, ◌≤◌, Bool, true, false, not, cond, List, [], ◌∷◌, length}
use Rattle.std.proofs.Common.{drop, refl, sym, ap, ◌∙◌, arith}
use Rattle.std.proofs.Common.{inl, inr}
use Rattle.std.proofs.lemmas.Bool.{and_parts, and_from, eq-eqb, eqb-true, le-leb, leb-true, or_cases}
use Rattle.std.specs.Prelude.{Option, None, Some, is_some, nat_le, slice_get, ◌==◌}
use Rattle.std.specs.List.{find, list_all, list_any, range_with_len}
use Rattle.vc_plan.specs.declared.plans.Line.{Line}
use Rattle.vc_plan.specs.declared.plans.Plan.{Plan}
use Rattle.vc_plan.specs.declared.plans.Slot.{Slot}
use Rattle.vc_plan.specs.Bills.{component_of, is_for_line}
use Rattle.vc_plan.specs.Domains.{numbers_below}
use Rattle.vc_plan.specs.Orders.{is_number}
use Rattle.vc_plan.specs.Seen.{parent_in}
use Rattle.vc_plan.specs.Slots.{depth_in, follows_in_preorder, is_below, is_root, lineage, slot_of_line}
use Rattle.vc_plan.specs.StageLaws.{ParentsComeFirst}
use Rattle.vc_plan.specs.Valid.{IsValid}
use Rattle.vc_plan.proofs.StageProofs.Items.{within}

-- what all of a list pass, the one at a place passes
pub all_at : {X : Type 0} (p : X → Bool) (xs : List X) (i : ℕ) (x : X) → list_all p xs ≡ true → slice_get xs i ≡ Some x
    → p x ≡ true
all_at p [] i x h is = absurd (cc is)
all_at p (y ∷ ys) zero x h is = let same : y ≡ x = cc in ap p (sym same) ∙ (and_parts (p y) (list_all p ys) h).0
all_at p (y ∷ ys) (suc i) x h is = all_at p ys i x (and_parts (p y) (list_all p ys) h).1 is

pub all_behind : {X : Type 0} (p : X → Bool) (xs : List X) (i : ℕ) (x : X) → list_all p (drop 1 xs) ≡ true
    → slice_get xs (suc i) ≡ Some x → p x ≡ true
all_behind p [] i x h is = absurd (cc is)
all_behind p (y ∷ ys) i x h is = all_at p ys i x h is

-- and of numbers that follow each other each
each_number : (p : ℕ → Bool) (a n i : ℕ) → list_all p (range_with_len a n) ≡ true → a ≤ i → i < a + n → p i ≡ true
each_number p a zero i h low high = absurd (omega arith)
each_number p a (suc n) i h low high =
    let both = and_parts (p a) (list_all p (range_with_len (a + 1) n)) h in
    step (a == i) refl both.0 (λ other. each_number p (a + 1) n i both.1 (omega (arith, other)) (omega arith))
  where
    step : (b : Bool) → (a == i) ≡ b → p a ≡ true → ((a ≡ i → ⊥) → p i ≡ true) → p i ≡ true
    step true is here later = ap p (sym (eqb-true a i is)) ∙ here
    step false is here later = later (λ same. differ (sym is ∙ eq-eqb a i same))
      where
        differ : false ≡ true → ⊥
        differ e = cc

-- the slots before this one come after their parents
abbrev pub Parents : Plan → ℕ → Type 0
Parents plan k = (i : ℕ) (slot : Slot) (p : ℕ) → i < k → slice_get plan.slots i ≡ Some slot → slot.parent ≡ Some p
    → p < i

-- a number that is there is at most this one
abbrev UpTo : ℕ → Option ℕ → Type 0
UpTo b None = Unit {0}
UpTo b (Some i) = i ≤ b

-- so none of a slot's lineage is behind it
low : (plan : Plan) (b : ℕ) → Parents plan (b + 1) → (n : ℕ) (o : Option ℕ) → UpTo b o
    → list_all (λ q. nat_le q b) (lineage plan n o) ≡ true
low plan b before zero o h = refl
low plan b before (suc n) None h = refl
low plan b before (suc n) (Some i) h =
    and_from (nat_le i b) (list_all (λ q. nat_le q b) (lineage plan n (parent_in (slice_get plan.slots i))))
    (le-leb i b h)
    (low plan b before n (parent_in (slice_get plan.slots i)) (up (slice_get plan.slots i) refl))
  where
    up_parent : (slot : Slot) → slice_get plan.slots i ≡ Some slot → (o : Option ℕ) → slot.parent ≡ o → UpTo b o
    up_parent slot is None e = tt
    up_parent slot is (Some p) e = let above = before i slot p (omega arith) is e in omega (arith, above, h)

    up : (o : Option Slot) → slice_get plan.slots i ≡ o → UpTo b (parent_in o)
    up None e = tt
    up (Some slot) e = up_parent slot e slot.parent refl

one_low : (b p : ℕ) (qs : List ℕ) → list_all (λ q. nat_le q b) qs ≡ true → list_any (λ q. q == p) qs ≡ true → p ≤ b
one_low b p [] h e = absurd (cc)
one_low b p (q ∷ qs) h e =
    let both = and_parts (nat_le q b) (list_all (λ q. nat_le q b) qs) h in
    elim (or_cases (q == p) (list_any (λ q. q == p) qs) e) [
      | inl is ↦ let same = eqb-true q p is in let small = leb-true q b both.0 in omega (arith, same, small)
      | inr later ↦ one_low b p qs both.1 later
    ]

pub no_parent : (slot : Slot) (p : ℕ) → is_root (Some slot) ≡ true → slot.parent ≡ Some p → ⊥
no_parent slot p root is =
    differ (sym (ap (λ o. not (is_some o)) is) ∙ (and_parts (not (is_some slot.parent)) (slot.depth == 0) root).0)
  where
    differ : false ≡ true → ⊥
    differ e = cc

pub parents : (plan : Plan) → IsValid plan → (k : ℕ) → Parents plan k
parents plan valid zero i slot p h is parent = absurd (omega arith)
parents plan valid (suc k) zero slot p h is parent = absurd (no_parent slot p (sym (ap is_root is) ∙ valid.root) parent)
parents plan valid (suc k) (suc i) slot p h is parent =
    let short = within plan.slots (suc i) slot is in
    let follows =
    each_number (follows_in_preorder plan) 0 (length plan.slots) (suc i) valid.preorder (omega arith) (omega arith) in
    let named : list_any (λ q. is_number q (Some p)) (lineage plan 4 (Some i)) ≡ true =
    sym (ap (λ o. list_any (λ q. is_number q o) (lineage plan 4 (Some i))) (ap parent_in is ∙ parent)) ∙ follows in
    let small = one_low i p (lineage plan 4 (Some i))
    (low plan i (λ j s q lower. parents plan valid k j s q (omega arith)) 4 (Some i) (omega arith)) named in
    omega arith

pub parents_come_first : ParentsComeFirst
parents_come_first plan valid i p slot is parent = parents plan valid (i + 1) i slot p (omega arith) is parent

-- what is found passes the test
pub found : (test : ℕ → Bool) (xs : List ℕ) (x : ℕ) → find test xs ≡ Some x → test x ≡ true
found test [] x e = absurd (cc e)
found test (y ∷ ys) x e = step (test y) refl (found test ys x) e
  where
    step : (b : Bool) → test y ≡ b → (find test ys ≡ Some x → test x ≡ true) → cond b (Some y) (find test ys) ≡ Some x
        → test x ≡ true
    step true passes later e = let same : y ≡ x = cc in ap test (sym same) ∙ passes
    step false passes later e = later e

-- the slot of a component: it stands for the line, and its parent is the line's slot
pub record IsComponent (plan : Plan) (i j : ℕ) : Type 0 where
  pub after : i < j
  pub there : j < length plan.slots

pub stands_below : (plan : Plan) → IsValid plan → (n j p : ℕ) (line : Line) (slot : Slot)
    → slice_get plan.lines n ≡ Some line → slice_get plan.slots j ≡ Some slot → slot.line ≡ n → slot.parent ≡ Some p
    → p ≡ line.slot
stands_below plan valid n zero p line slot at_line at_slot for_line parent =
    absurd (no_parent slot p (sym (ap is_root at_slot) ∙ valid.root) parent)
stands_below plan valid n (suc j) p line slot at_line at_slot for_line parent =
    let below = all_behind (λ s. is_below plan s s.parent) plan.slots j slot valid.below at_slot in
    let of_parent : is_below plan slot (Some p) ≡ true = sym (ap (is_below plan slot) parent) ∙ below in
    let owner =
    (and_parts (slot.depth == depth_in (slice_get plan.slots p) + 1)
    (is_number p (slot_of_line (slice_get plan.lines slot.line))) of_parent).1 in
    let line_at : slice_get plan.lines slot.line ≡ Some line = ap (slice_get plan.lines) for_line ∙ at_line in
    eqb-true p line.slot (sym (ap (λ o. is_number p (slot_of_line o)) line_at) ∙ owner)

pub component_after : (plan : Plan) → IsValid plan → (n j : ℕ) (line : Line)
    → slice_get plan.lines n ≡ Some line → component_of plan n ≡ Some j → IsComponent plan line.slot j
component_after plan valid n j line at_line is =
    of_slot (slice_get plan.slots j) refl
    (found (λ k. is_for_line n (slice_get plan.slots k)) (numbers_below (length plan.slots)) j is)
  where
    of_parent : (slot : Slot) → slice_get plan.slots j ≡ Some slot → (slot.line == n) ≡ true → (o : Option ℕ)
        → slot.parent ≡ o
        → is_some o ≡ true
        → IsComponent plan line.slot j
    of_parent slot at_slot for_line None parent e = absurd (cc)
    of_parent slot at_slot for_line (Some p) parent e =
        let owner = stands_below plan valid n j p line slot at_line at_slot (eqb-true slot.line n for_line) parent in
        let first = parents_come_first plan valid j p slot at_slot parent in
        record { after = omega (arith, owner, first); there = within plan.slots j slot at_slot }

    of_slot : (o : Option Slot) → slice_get plan.slots j ≡ o → is_for_line n o ≡ true → IsComponent plan line.slot j
    of_slot None e h = absurd (cc)
    of_slot (Some slot) e h =
        let both = and_parts (is_some slot.parent) (slot.line == n) h in of_parent slot e both.1 slot.parent refl both.0
