-- A conclusion that is put at the end leaves the others as they are.
use Rattle.std.proofs.Common.{◌≡◌, ℕ, ◌+◌, ◌-◌, ◌≤◌, leb, Bool, true, false, ◌&&◌, List, [], ◌∷◌, ◌++◌, length, take}
use Rattle.std.proofs.Common.{drop, map, refl, sym, ◌∙◌, ap, subst, arith, length-append, length-drop}
use Rattle.std.specs.Prelude.{None, if◌then◌else◌}
use Rattle.std.specs.List.{list_all}
use Rattle.std.proofs.lemmas.Bool.{and_parts, and_from, leb-true, le-leb}
use Rattle.std.proofs.lemmas.List.{take-append-le, length-map, take_all, drop-append-le, map-append}
use Rattle.std.proofs.lemmas.List.Folds.{list_all-append}
use Rattle.vc_plan.specs.declared.atoms.Atom.{Atom}
use Rattle.vc_rule_yield.specs.Filling.{Filled, with_items}
use Rattle.vc_rule_yield.specs.Yielding.{Conclusion, Rooms, Yielded, concluded, concluded_if, may_conclude, part_of}
use Rattle.vc_rule_yield.specs.Yielding.{conclusion_in, is_within, yielded_in}
use Rattle.vc_rule_yield.specs.declared.yields.Found.{Found}

-- a part of the cells stays when others come
part_kept : (cells more : List Atom) (from to : ℕ) → from ≤ to → to ≤ length cells
    → part_of (cells ++ more) from to ≡ part_of cells from to
part_kept cells more from to p q =
    let begun : drop from (cells ++ more) ≡ drop from cells ++ more = drop-append-le from cells more (omega arith) in
    let long : length (drop from cells) ≡ length cells - from = length-drop from cells in
    ap (take (to - from)) begun ∙ take-append-le (to - from) (drop from cells) more (omega arith)

-- what comes is the last part
part_new : (cells more : List Atom) (from to : ℕ) → from ≡ length cells → to ≡ length cells + length more
    → part_of (cells ++ more) from to ≡ more
part_new cells more from to p q =
    let begun : drop from (cells ++ more) ≡ drop from cells ++ more = drop-append-le from cells more (omega arith) in
    let short : length (drop from cells) ≡ length cells - from = length-drop from cells in
    let none : drop from cells ≡ [] = no_elements (drop from cells) (omega arith) in
    ap (take (to - from)) (begun ∙ ap (λ xs. xs ++ more) none) ∙ take_all (to - from) more (omega arith)
  where
    no_elements : (xs : List Atom) → length xs ≡ 0 → xs ≡ []
    no_elements [] e = refl
    no_elements (x ∷ xs) e = absurd (omega arith)

parts_kept : (cells more : List Atom) (found : List Found) → list_all (is_within (length cells)) found ≡ true
    → map (conclusion_in (cells ++ more)) found ≡ map (conclusion_in cells) found
parts_kept cells more [] e = refl
parts_kept cells more (f ∷ found) e =
    let h : (is_within (length cells) f ≡ true) × (list_all (is_within (length cells)) found ≡ true) =
    and_parts (is_within (length cells) f) (list_all (is_within (length cells)) found) e in
    let ends : (leb f.from f.to ≡ true) × (leb f.to (length cells) ≡ true)
    = and_parts (leb f.from f.to) (leb f.to (length cells)) h.0 in
    let first = part_kept cells more f.from f.to (leb-true f.from f.to ends.0) (leb-true f.to (length cells) ends.1) in
    ap (λ (premises : List Atom). record { atom = f.atom; premises = premises }
    ∷ map (conclusion_in (cells ++ more)) found) first
    ∙ ap (λ (later : List Conclusion). conclusion_in cells f ∷ later) (parts_kept cells more found h.1)

-- all stay within more cells
within_more : (m n : ℕ) (found : List Found) → m ≤ n → list_all (is_within m) found ≡ true
    → list_all (is_within n) found ≡ true
within_more m n [] p e = refl
within_more m n (f ∷ found) p e =
    let h : (is_within m f ≡ true) × (list_all (is_within m) found ≡ true)
    = and_parts (is_within m f) (list_all (is_within m) found) e in
    let ends : (leb f.from f.to ≡ true) × (leb f.to m ≡ true) = and_parts (leb f.from f.to) (leb f.to m) h.0 in
    let last : leb f.to n ≡ true = le-leb f.to n (let q = leb-true f.to m ends.1 in omega arith) in
    and_from (is_within n f) (list_all (is_within n) found) (and_from (leb f.from f.to) (leb f.to n) ends.0 last)
    (within_more m n found p h.1)

-- where there is room, the elements are put at the end
filled : {A : Type 0} (list : Filled A) (more : List A) → leb (length list.items + length more) list.room ≡ true
    → with_items list more ≡ record { items = list.items ++ more; room = list.room }
filled list more e = ap (λ b. if b then record { items = list.items ++ more; room = list.room } else list) e

-- a conclusion that is found in the cells that come
abbrev put_at : Atom → ℕ → ℕ → Found
put_at a from to = record { atom = a; from = from; to = to }

stays_within : (cells more : List Atom) (found : List Found) (a : Atom) (from to : ℕ) → from ≡ length cells
    → to ≡ length (cells ++ more)
    → list_all (is_within (length cells)) found ≡ true
    → list_all (is_within (length (cells ++ more))) (found ++ put_at a from to ∷ []) ≡ true
stays_within cells more found a from to p q e =
    let n = length (cells ++ more) in
    let long : n ≡ length cells + length more = length-append cells more in
    let before = within_more (length cells) n found (omega arith) e in
    let first : leb from to ≡ true = le-leb from to (omega arith) in
    let last : leb to n ≡ true = le-leb to n (omega arith) in
    let own : is_within n (put_at a from to) ≡ true = and_from (leb from to) (leb to n) first last in
    list_all-append (is_within n) found (put_at a from to ∷ [])
    ∙ and_from (list_all (is_within n) found) (is_within n (put_at a from to) && true) before
    (and_from (is_within n (put_at a from to)) true own refl)

conclusions_in : (cells more : List Atom) (found : List Found) (a : Atom) (from to : ℕ) → from ≡ length cells
    → to ≡ length (cells ++ more)
    → list_all (is_within (length cells)) found ≡ true
    → map (conclusion_in (cells ++ more)) (found ++ put_at a from to ∷ [])
    ≡ map (conclusion_in cells) found ++ (record { atom = a; premises = more }) ∷ []
conclusions_in cells more found a from to p q e =
    let n : length (cells ++ more) ≡ length cells + length more = length-append cells more in
    let last : part_of (cells ++ more) from to ≡ more = part_new cells more from to p (omega arith) in
    map-append (conclusion_in (cells ++ more)) found (put_at a from to ∷ [])
    ∙ (ap (λ (first : List Conclusion). first ++ conclusion_in (cells ++ more) (put_at a from to) ∷ [])
    (parts_kept cells more found e)
    ∙ ap (λ (premises : List Atom). map (conclusion_in cells) found ++ (record { atom = a; premises = premises }) ∷ [])
    last)

abbrev told : (found : List Conclusion) (used : ℕ) (cites : List Atom) (rooms : Rooms) → Yielded
told found used cites rooms = record { found = found; clash = None; used = used; cites = cites; rooms = rooms }

yield_is : (found : Filled Found) (cells cites : Filled Atom) (clashes : Bool) (a : Atom) (items : List Found)
    → clashes ≡ false
    → may_conclude (yielded_in found cells cites false) None ≡ true
    → map (conclusion_in (cells.items ++ cites.items)) items
    ≡ map (conclusion_in cells.items) found.items ++ (record { atom = a; premises = cites.items }) ∷ []
    → yielded_in (record { items = items; room = found.room })
    (record { items = cells.items ++ cites.items; room = cells.room }) cites clashes
    ≡ concluded (yielded_in found cells cites clashes) a
yield_is found cells cites true a items fine may all = absurd (cc)
yield_is found cells cites false a items fine may all =
    let rooms : Rooms = record { cites = cites.room; atoms = found.room; premises = cells.room } in
    ap (λ (found : List Conclusion). told found (length (cells.items ++ cites.items)) cites.items rooms) all
    ∙ (ap (λ used. told (map (conclusion_in cells.items) found.items ++ (record { atom = a; premises = cites.items })
    ∷ []) used cites.items rooms)
    (length-append cells.items cites.items)
    ∙ ap (λ b. concluded_if b (yielded_in found cells cites false) a) (sym may))

-- the cells and the conclusion that are put hold what is concluded
pub is_concluded : (found : Filled Found) (cells cites : Filled Atom) (clashes : Bool) (a : Atom) (from to : ℕ)
    (cited : List Atom) (later : Filled Found) (more : Filled Atom)
    → list_all (is_within (length cells.items)) found.items ≡ true → clashes ≡ false
    → leb (length cells.items + length cites.items) cells.room ≡ true → leb (length found.items + 1) found.room ≡ true
    → cited ≡ cites.items → more ≡ with_items cells cited → from ≡ length cells.items → to ≡ length more.items
    → later ≡ with_items found (put_at a from to ∷ [])
    → (list_all (is_within (length more.items)) later.items ≡ true)
    × (yielded_in later more cites clashes ≡ concluded (yielded_in found cells cites clashes) a)
is_concluded found cells cites clashes a from to cited later more inside fine room space c m p q l =
    let cells_are : more ≡ record { items = cells.items ++ cites.items; room = cells.room }
    = m ∙ (ap (with_items cells) c ∙ filled cells cites.items room) in
    let found_are : later ≡ record { items = found.items ++ put_at a from to ∷ []; room = found.room }
    = l ∙ filled found (put_at a from to ∷ []) space in
    let to_is : to ≡ length (cells.items ++ cites.items) = q ∙ ap (λ (x : Filled Atom). length x.items) cells_are in
    let stays = stays_within cells.items cites.items found.items a from to p to_is inside in
    let all = conclusions_in cells.items cites.items found.items a from to p to_is inside in
    let long : length (map (conclusion_in cells.items) found.items) ≡ length found.items
    = length-map found.items (conclusion_in cells.items) in
    let may : (leb (length cells.items + length cites.items) cells.room
    && leb (length (map (conclusion_in cells.items) found.items) + 1) found.room) ≡ true =
    and_from (leb (length cells.items + length cites.items) cells.room)
    (leb (length (map (conclusion_in cells.items) found.items) + 1) found.room) room
    (ap (λ n. leb (n + 1) found.room) long ∙ space) in (
      subst (λ (x : Filled Atom). list_all (is_within (length x.items)) later.items ≡ true) (sym cells_are)
          (subst (λ (x : Filled Found). list_all (is_within (length (cells.items ++ cites.items))) x.items ≡ true)
          (sym found_are) stays),
      ap (λ (x : Filled Atom). yielded_in later x cites clashes) cells_are
          ∙ (ap (λ (x : Filled Found). yielded_in x (record { items = cells.items ++ cites.items; room = cells.room })
          cites clashes) found_are
          ∙ yield_is found cells cites clashes a (found.items ++ put_at a from to ∷ []) fine may all),
    )
