-- An instance's bill has its own lines at its level, and deeper ones else.
use Rattle.std.proofs.Common.{◌≡◌, ℕ, zero, suc, ◌+◌, ◌<◌, ◌≤◌, Bool, true, false, cond, List, [], ◌∷◌, ◌++◌, length}
use Rattle.std.proofs.Common.{map, refl, ap, ◌∙◌, arith}
use Rattle.std.proofs.lemmas.Bool.{and_parts, and_from, eqb-true, eq-eqb, le-leb, leb-true}
use Rattle.std.proofs.lemmas.List.Elements.{filter-append}
use Rattle.std.specs.Prelude.{Option, None, Some, nat_le, ◌==◌}
use Rattle.std.specs.List.{filter, flat_map, list_all}
use Rattle.vc_value.proofs.CutLemmas.{all_append}
use Rattle.vc_plan.specs.declared.plans.Plan.{Plan}
use Rattle.vc_plan.specs.declared.shown.BillLine.{BillLine}
use Rattle.vc_plan.specs.Bills.{below, bill_from, bill_line, component_of, lines_of}
use Rattle.vc_plan.specs.Readings.{Reading}
use Rattle.vc_plan.specs.Seen.{Seen}
use Rattle.vc_plan.specs.StageLaws.{OwnLinesInOrder}
use Rattle.vc_plan.proofs.PlanLaws.Lists.{all_grows}

-- no row stands above the level
abbrev pub AtLeast : ℕ → List BillLine → Type 0
AtLeast level rows = list_all (λ row. nat_le level row.level) rows ≡ true

pub higher : (level : ℕ) (rows : List BillLine) → AtLeast (level + 1) rows → AtLeast level rows
higher level rows h =
    all_grows (λ row. nat_le (level + 1) row.level) (λ row. nat_le level row.level)
    (λ row e. let low = leb-true (level + 1) row.level e in le-leb level row.level (omega (arith, low))) rows h

-- the line of a bill with what follows it at once
abbrev pub chunk : Plan → Reading → (ℕ → List BillLine) → ℕ → ℕ → ℕ → List BillLine
chunk plan reading bill level i n = bill_line plan reading level i n ∷ below bill (component_of plan n)

pub chunk_deep : (plan : Plan) (reading : Reading) (bill : ℕ → List BillLine) (level i : ℕ)
    → ((j : ℕ) → AtLeast (level + 1) (bill j))
    → (n : ℕ) → AtLeast level (chunk plan reading bill level i n)
chunk_deep plan reading bill level i depth n =
    and_from (nat_le level level) (list_all (λ row. nat_le level row.level) (below bill (component_of plan n)))
    (le-leb level level (omega arith)) (part (component_of plan n))
  where
    part : (o : Option ℕ) → AtLeast level (below bill o)
    part None = refl
    part (Some j) = higher level (bill j) (depth j)

flat_deep : (plan : Plan) (reading : Reading) (bill : ℕ → List BillLine) (level i : ℕ)
    → ((j : ℕ) → AtLeast (level + 1) (bill j))
    → (ns : List ℕ) → AtLeast level (flat_map (chunk plan reading bill level i) ns)
flat_deep plan reading bill level i depth [] = refl
flat_deep plan reading bill level i depth (n ∷ ns) =
    all_append (λ row. nat_le level row.level) (chunk plan reading bill level i n)
    (flat_map (chunk plan reading bill level i) ns)
    (chunk_deep plan reading bill level i depth n) (flat_deep plan reading bill level i depth ns)

pub deep : (plan : Plan) (seen : Seen) (reading : Reading) (levels level i : ℕ)
    → AtLeast level (bill_from plan seen reading levels level i)
deep plan seen reading zero level i = refl
deep plan seen reading (suc levels) level i =
    flat_deep plan reading (bill_from plan seen reading levels (level + 1)) level i
    (λ j. deep plan seen reading levels (level + 1) j)
    (lines_of plan seen reading i)

-- among deeper rows there is none of the level
none_left : (level : ℕ) (rows : List BillLine) → AtLeast (level + 1) rows → filter (λ row. row.level == level) rows ≡ []
none_left level [] h = refl
none_left level (row ∷ rows) h =
    let both = and_parts (nat_le (level + 1) row.level) (list_all (λ row. nat_le (level + 1) row.level) rows) h in
    step (row.level == level) refl (leb-true (level + 1) row.level both.0) (none_left level rows both.1)
  where
    step : (b : Bool) → (row.level == level) ≡ b → level + 1 ≤ row.level → filter (λ row. row.level == level) rows ≡ []
        → cond b (row ∷ filter (λ row. row.level == level) rows) (filter (λ row. row.level == level) rows) ≡ []
    step true is low none = let same = eqb-true row.level level is in absurd (omega (arith, same, low))
    step false is low none = none

flat_own : (plan : Plan) (reading : Reading) (bill : ℕ → List BillLine) (level i : ℕ)
    → ((j : ℕ) → AtLeast (level + 1) (bill j))
    → (ns : List ℕ)
    → filter (λ row. row.level == level) (flat_map (chunk plan reading bill level i) ns)
    ≡ map (bill_line plan reading level i) ns
flat_own plan reading bill level i depth [] = refl
flat_own plan reading bill level i depth (n ∷ ns) =
    first (level == level) (eq-eqb level level refl) (bill_line plan reading level i n)
    (filter (λ row. row.level == level)
    (below bill (component_of plan n) ++ flat_map (chunk plan reading bill level i) ns))
    (map (bill_line plan reading level i) ns)
    (filter-append (λ row. row.level == level) (below bill (component_of plan n))
    (flat_map (chunk plan reading bill level i) ns)
    ∙ ap (λ rows. rows ++ filter (λ row. row.level == level) (flat_map (chunk plan reading bill level i) ns))
    (part (component_of plan n))
    ∙ flat_own plan reading bill level i depth ns)
  where
    first : (b : Bool) → b ≡ true → (row : BillLine) (rows more : List BillLine) → rows ≡ more
        → cond b (row ∷ rows) rows ≡ row ∷ more
    first true e row rows more same = ap (λ others. row ∷ others) same
    first false e row rows more same = absurd (cc)

    part : (o : Option ℕ) → filter (λ row. row.level == level) (below bill o) ≡ []
    part None = refl
    part (Some j) = none_left level (bill j) (depth j)

has_own : (plan : Plan) (seen : Seen) (reading : Reading) (levels level i : ℕ) → 0 < levels
    → filter (λ row. row.level == level) (bill_from plan seen reading levels level i)
    ≡ map (bill_line plan reading level i) (lines_of plan seen reading i)
has_own plan seen reading zero level i h = absurd (omega arith)
has_own plan seen reading (suc levels) level i h =
    flat_own plan reading (bill_from plan seen reading levels (level + 1)) level i
    (λ j. deep plan seen reading levels (level + 1) j)
    (lines_of plan seen reading i)

pub own_lines_in_order : OwnLinesInOrder
own_lines_in_order plan some seen reading level i = record {
  own = has_own plan seen reading (length plan.slots) level i some;
  deeper = deep plan seen reading (length plan.slots) level i;
}
