-- In a bill each line is followed at once by its component's own bill, and that by no deeper line.
use Rattle.std.proofs.Common.{◌≡◌, ◌⊎◌, inl, inr, ℕ, zero, suc, ◌+◌, ◌<◌, ◌≤◌, true, List, [], ◌∷◌, ◌++◌, length, refl}
use Rattle.std.proofs.Common.{sym, ap, subst, ◌∙◌, arith}
use Rattle.std.proofs.lemmas.Bool.{and_parts, leb-true}
use Rattle.std.proofs.lemmas.List.{append_assoc, append-nil}
use Rattle.std.specs.Prelude.{Option, None, Some, nat_le, slice_get}
use Rattle.std.specs.List.{flat_map, list_all}
use Rattle.vc_plan.specs.declared.plans.Plan.{Plan}
use Rattle.vc_plan.specs.declared.plans.Slot.{Slot}
use Rattle.vc_plan.specs.declared.shown.BillLine.{BillLine}
use Rattle.vc_plan.specs.Bills.{below, bill_line, component_of, lines_of, own_bill}
use Rattle.vc_plan.specs.Readings.{Reading}
use Rattle.vc_plan.specs.Seen.{Seen}
use Rattle.vc_plan.specs.Slots.{is_root}
use Rattle.vc_plan.specs.StageLaws.{ComponentsFollow, IsNoDeeper, component_bill}
use Rattle.vc_plan.specs.Valid.{IsValid}
use Rattle.vc_plan.proofs.StageProofs.Levels.{one_bill, part_after, taken, takes}
use Rattle.vc_plan.proofs.StageProofs.OwnLines.{AtLeast, chunk, chunk_deep, deep}

-- an element of two lists behind each other stands in the first or in the second
record InFirst (xs ys before after : List BillLine) (row : BillLine) : Type 0 where
  more : List BillLine
  is : xs ≡ before ++ row ∷ more
  rest : after ≡ more ++ ys

record InSecond (xs ys before after : List BillLine) (row : BillLine) : Type 0 where
  front : List BillLine
  is : ys ≡ front ++ row ∷ after

split : (xs ys before after : List BillLine) (row : BillLine) → xs ++ ys ≡ before ++ row ∷ after
    → InFirst xs ys before after row ⊎ InSecond xs ys before after row
split [] ys before after row e = inr (record { front = before; is = e })
split (x ∷ xs) ys [] after row e =
    let same : x ≡ row = cc in
    let rest : xs ++ ys ≡ after = cc in
    inl (record { more = xs; is = ap (λ r. r ∷ xs) same; rest = sym rest })
split (x ∷ xs) ys (b ∷ before) after row e =
    let same : x ≡ b = cc in
    let rest : xs ++ ys ≡ before ++ row ∷ after = cc in
    step same (split xs ys before after row rest)
  where
    step : x ≡ b → InFirst xs ys before after row ⊎ InSecond xs ys before after row
        → InFirst (x ∷ xs) ys (b ∷ before) after row ⊎ InSecond (x ∷ xs) ys (b ∷ before) after row
    step same (inl w) =
        inl (record { more = w.more; is = ap (λ r. r ∷ xs) same ∙ ap (λ rows. b ∷ rows) w.is; rest = w.rest })
    step same (inr w) = inr (record { front = w.front; is = w.is })

-- what isn't deeper than the second part's level may follow the first
shallow : (l m : ℕ) (rest ys : List BillLine) → l ≤ m → IsNoDeeper m rest → IsNoDeeper l ys → IsNoDeeper m (rest ++ ys)
shallow l m [] [] h a b = tt
shallow l m [] (y ∷ ys) h a b = omega arith
shallow l m (r ∷ rest) ys h a b = a

level_of : (level : ℕ) (before more : List BillLine) (row : BillLine) → AtLeast level (before ++ row ∷ more)
    → level ≤ row.level
level_of level [] more row h =
    leb-true level row.level (and_parts (nat_le level row.level) (list_all (λ r. nat_le level r.level) more) h).0
level_of level (b ∷ before) more row h =
    level_of level before more row
    (and_parts (nat_le level b.level) (list_all (λ r. nat_le level r.level) (before ++ row ∷ more)) h).1

some_slot : (slots : List Slot) → is_root (slice_get slots 0) ≡ true → 0 < length slots
some_slot [] e = absurd (cc)
some_slot (slot ∷ slots) e = omega arith

module _ (plan : Plan) (seen : Seen) (reading : Reading) where
  -- a row's component's bill follows it at once, and no deeper row follows that
  abbrev Follows : BillLine → List BillLine → Type 0
  Follows row after = (rest : List BillLine) × (after ≡ component_bill plan seen reading row ++ rest)
      × IsNoDeeper row.level rest

  abbrev Nested : List BillLine → Type 0
  Nested rows = (before after : List BillLine) (row : BillLine) → rows ≡ before ++ row ∷ after → Follows row after

  nested_nil : Nested []
  nested_nil [] after row e = absurd (cc e)
  nested_nil (b ∷ before) after row e = absurd (cc e)

  -- a row and its component's bill
  nested_cons : (row : BillLine) → Nested (component_bill plan seen reading row)
      → Nested (row ∷ component_bill plan seen reading row)
  nested_cons row nested [] after other e =
      let same : row ≡ other = cc in
      let rest : component_bill plan seen reading row ≡ after = cc in
      subst (λ r. Follows r after) same
      ([], sym rest ∙ sym (append-nil (component_bill plan seen reading row)), tt)
  nested_cons row nested (b ∷ before) after other e =
      let rest : component_bill plan seen reading row ≡ before ++ other ∷ after = cc in
      nested before after other rest

  -- rows, and others that begin with no deeper one
  nested_append : (level : ℕ) (xs ys : List BillLine) → Nested xs → Nested ys → AtLeast level xs → IsNoDeeper level ys
      → Nested (xs ++ ys)
  nested_append level xs ys first second at_least no_deeper before after row e =
      elim (split xs ys before after row e) [
        | inl w ↦ in_first w (first before w.more row w.is)
        | inr w ↦ second w.front after row w.is
      ]
    where
      in_first : (w : InFirst xs ys before after row) → Follows row w.more → Follows row after
      in_first w f = (
        f.0 ++ ys,
        w.rest ∙ ap (λ rows. rows ++ ys) f.1 ∙ append_assoc (component_bill plan seen reading row) f.0 ys,
        shallow level row.level f.0 ys (level_of level before w.more row (subst (AtLeast level) w.is at_least)) f.2
            no_deeper,
      )

  -- the lines of an instance, each with its component's bill
  abbrev lines_with : ℕ → ℕ → List ℕ → List BillLine
  lines_with level i ns = flat_map (chunk plan reading (own_bill plan seen reading (level + 1)) level i) ns

  first_level : (level i : ℕ) (ns : List ℕ) → IsNoDeeper level (lines_with level i ns)
  first_level level i [] = tt
  first_level level i (n ∷ ns) = omega arith

  nested_lines : (level i : ℕ)
      → ((n : ℕ) → takes plan seen reading i n ≡ true
      → Nested (below (own_bill plan seen reading (level + 1)) (component_of plan n)))
      → (ns : List ℕ) → list_all (takes plan seen reading i) ns ≡ true → Nested (lines_with level i ns)
  nested_lines level i parts [] h = nested_nil
  nested_lines level i parts (n ∷ ns) h =
      let both = and_parts (takes plan seen reading i n) (list_all (takes plan seen reading i) ns) h in
      nested_append level (chunk plan reading (own_bill plan seen reading (level + 1)) level i n)
      (lines_with level i ns)
      (nested_cons (bill_line plan reading level i n) (parts n both.0)) (nested_lines level i parts ns both.1)
      (chunk_deep plan reading (own_bill plan seen reading (level + 1)) level i
      (λ j. deep plan seen reading (length plan.slots) (level + 1) j) n)
      (first_level level i ns)

  nested_part : IsValid plan → (level i n : ℕ) → takes plan seen reading i n ≡ true
      → ((j : ℕ) → i < j → j < length plan.slots → Nested (own_bill plan seen reading (level + 1) j))
      → (o : Option ℕ) → component_of plan n ≡ o → Nested (below (own_bill plan seen reading (level + 1)) o)
  nested_part valid level i n takes later None is = nested_nil
  nested_part valid level i n takes later (Some j) is =
      let part = part_after plan valid seen reading i n j takes is in later j part.after part.there

  nested_bill : IsValid plan → (m level i : ℕ) → i < length plan.slots → length plan.slots ≤ m + i
      → Nested (own_bill plan seen reading level i)
  nested_bill valid zero level i there enough = absurd (omega arith)
  nested_bill valid (suc m) level i there enough =
      let levels = length plan.slots in
      subst Nested (sym (one_bill plan valid seen reading levels (suc levels) level i there (omega arith)
      (omega arith)))
      (nested_lines level i
      (λ n takes. nested_part valid level i n takes
      (λ j after before_end. nested_bill valid m (level + 1) j before_end (omega (arith, after))) (component_of plan n)
      refl)
      (lines_of plan seen reading i) (taken plan seen reading i))

pub components_follow : ComponentsFollow
components_follow plan valid seen reading before after row e =
    nested_bill plan seen reading valid (length plan.slots) 1 0 (some_slot plan.slots valid.root) (omega arith) before
    after row e
