-- The lines of an instance, and that more levels than slots add nothing to its bill.
use Rattle.std.proofs.Common.{◌≡◌, ℕ, zero, suc, ◌+◌, ◌<◌, ◌≤◌, Bool, true, false, cond, List, [], ◌∷◌, ◌++◌, length}
use Rattle.std.proofs.Common.{refl, ap, ◌∙◌, arith}
use Rattle.std.proofs.lemmas.Bool.{and_parts, and_from, eqb-true}
use Rattle.std.specs.Prelude.{Option, None, Some, slice_get, ◌==◌}
use Rattle.std.specs.List.{filter, flat_map, list_all}
use Rattle.vc_plan.specs.declared.plans.Line.{Line}
use Rattle.vc_plan.specs.declared.plans.Plan.{Plan}
use Rattle.vc_plan.specs.declared.shown.BillLine.{BillLine}
use Rattle.vc_plan.specs.Bills.{below, bill_from, bill_line, component_of, is_line_of, lines_of, takes_line}
use Rattle.vc_plan.specs.Domains.{numbers_below}
use Rattle.vc_plan.specs.Readings.{Reading}
use Rattle.vc_plan.specs.Seen.{Seen}
use Rattle.vc_plan.specs.StageLaws.{LevelsSuffice}
use Rattle.vc_plan.specs.Valid.{IsValid}
use Rattle.vc_plan.proofs.StageProofs.Parents.{IsComponent, component_after}

-- what is left of a list by a test passes it
passing : (test : ℕ → Bool) (ns : List ℕ) → list_all test (filter test ns) ≡ true
passing test [] = refl
passing test (n ∷ ns) = step (test n) refl (filter test ns) (passing test ns)
  where
    step : (b : Bool) → test n ≡ b → (ms : List ℕ) → list_all test ms ≡ true → list_all test (cond b (n ∷ ms) ms) ≡ true
    step true passes ms h = and_from (test n) (list_all test ms) passes h
    step false passes ms h = h

-- what is the same for each of a list is the same for all
flat_same : (test : ℕ → Bool) (f g : ℕ → List BillLine) → ((n : ℕ) → test n ≡ true → f n ≡ g n)
    → (ns : List ℕ) → list_all test ns ≡ true → flat_map f ns ≡ flat_map g ns
flat_same test f g same [] h = refl
flat_same test f g same (n ∷ ns) h =
    let both = and_parts (test n) (list_all test ns) h in
    ap (λ rows. rows ++ flat_map f ns) (same n both.0) ∙ ap (λ rows. g n ++ rows) (flat_same test f g same ns both.1)

-- the number of a line that an instance takes, and its test
abbrev pub takes : Plan → Seen → Reading → ℕ → ℕ → Bool
takes plan seen reading i n = is_line_of plan seen reading i n (slice_get plan.lines n)

pub taken : (plan : Plan) (seen : Seen) (reading : Reading) (i : ℕ)
    → list_all (takes plan seen reading i) (lines_of plan seen reading i) ≡ true
taken plan seen reading i = passing (takes plan seen reading i) (numbers_below (length plan.lines))

-- the component of a line that a slot takes comes after it
pub part_after : (plan : Plan) → IsValid plan → (seen : Seen) (reading : Reading) (i n j : ℕ)
    → takes plan seen reading i n ≡ true → component_of plan n ≡ Some j → IsComponent plan i j
part_after plan valid seen reading i n j takes is = of_line (slice_get plan.lines n) refl takes
  where
    of_line : (o : Option Line) → slice_get plan.lines n ≡ o → is_line_of plan seen reading i n o ≡ true
        → IsComponent plan i j
    of_line None e h = absurd (cc)
    of_line (Some line) e h =
        let both = and_parts (line.slot == i) (takes_line plan seen reading line (component_of plan n)) h in
        let own = eqb-true line.slot i both.0 in
        let part = component_after plan valid n j line e is in
        let later = part.after in
        record { after = omega (arith, own, later); there = part.there }

below_same : (f g : ℕ → List BillLine) (o : Option ℕ) → ((j : ℕ) → o ≡ Some j → f j ≡ g j) → below f o ≡ below g o
below_same f g None same = refl
below_same f g (Some j) same = same j refl

-- two numbers of levels, enough for the slots behind this one, give one bill
pub one_bill : (plan : Plan) → IsValid plan → (seen : Seen) (reading : Reading) (m n level i : ℕ)
    → i < length plan.slots
    → length plan.slots ≤ m + i → length plan.slots ≤ n + i
    → bill_from plan seen reading m level i ≡ bill_from plan seen reading n level i
one_bill plan valid seen reading zero n level i there enough more = absurd (omega arith)
one_bill plan valid seen reading (suc m) zero level i there enough more = absurd (omega arith)
one_bill plan valid seen reading (suc m) (suc n) level i there enough more =
    flat_same (takes plan seen reading i)
    (λ l. bill_line plan reading level i l ∷ below (bill_from plan seen reading m (level + 1)) (component_of plan l))
    (λ l. bill_line plan reading level i l ∷ below (bill_from plan seen reading n (level + 1)) (component_of plan l))
    (λ l takes. ap (λ rows. bill_line plan reading level i l ∷ rows)
    (below_same (bill_from plan seen reading m (level + 1)) (bill_from plan seen reading n (level + 1))
    (component_of plan l)
    (λ j is. let part = part_after plan valid seen reading i l j takes is in
    let later = part.after in
    one_bill plan valid seen reading m n (level + 1) j part.there (omega (arith, later)) (omega (arith, later)))))
    (lines_of plan seen reading i) (taken plan seen reading i)

pub levels_suffice : LevelsSuffice
levels_suffice plan valid seen reading levels level i enough there =
    one_bill plan valid seen reading levels (length plan.slots) level i there (omega arith) (omega arith)
