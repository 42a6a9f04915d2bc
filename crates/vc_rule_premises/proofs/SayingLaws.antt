-- With room for what a rule says a yield holds it.
use Rattle.std.proofs.Common.{◌≡◌, ℕ, ◌+◌, ◌≤◌, leb, true, false, cond, ◌&&◌, ◌||◌, List, [], ◌∷◌, ◌++◌, length, map}
use Rattle.std.proofs.Common.{take, not, refl, sym, ◌∙◌, ap, subst, arith, length-append, append_assoc}
use Rattle.std.specs.Prelude.{None}
use Rattle.std.specs.List.{filter, sum_by, AllByRecursion}
use Rattle.std.proofs.lemmas.Bool.{and_from, le-leb}
use Rattle.std.proofs.lemmas.List.{take-append-le, take_all}
use Rattle.std.proofs.lemmas.List.Sums.{sum_by-cons}
use Rattle.vc_base.specs.Sets.{has}
use Rattle.vc_plan.specs.declared.atoms.Atom.{Atom}
use Rattle.vc_plan.specs.declared.atoms.Atom.TheVariants.{Here}
use Rattle.vc_base.specs.Rounds.{clash, atoms}
use Rattle.vc_plan.specs.Seen.{same_atom, says}
use Rattle.vc_rule_yield.specs.Yielding.{Conclusion, Rooms, Yielded, nothing_in, with_cites, cited, concluded}
use Rattle.vc_rule_yield.specs.Yielding.{concluded_if, may_conclude, clashed, clashed_if}
use Rattle.vc_rule_premises.specs.Cited.{cited_with, cited_onto, cited_once}
use Rattle.vc_rule_premises.specs.Citing.{cited_all}
use Rattle.vc_rule_premises.specs.Laws.{FreshIsSaid, RoomSuffices}
use Rattle.vc_rule_premises.specs.Saying.{clashing, concluding, conclusion_from, take_conclusions, taken}
use Rattle.vc_rule_premises.specs.Saying.{conclusion_with, held_from, held, MayCite, HasRoomFor}
use Rattle.vc_rule_premises.proofs.CitedLaws.{onto_append, onto_longer}
use Rattle.vc_rule_premises.proofs.CitingLemmas.{cited_append}

-- with room for them, all premises are cited
cited_room : (y : Yielded) (a : Atom) → length (cited_with y.cites a) ≤ y.rooms.cites
    → cited y a ≡ with_cites y (cited_with y.cites a)
cited_room y a h =
    elim (same_atom (Here 0) a || has same_atom y.cites a) as
    (λ b. length (cond b y.cites (y.cites ++ a ∷ [])) ≤ y.rooms.cites
    → cond b y (cond (leb (length y.cites + 1) y.rooms.cites) (with_cites y (y.cites ++ a ∷ [])) y)
    ≡ with_cites y (cond b y.cites (y.cites ++ a ∷ []))) [
      | true ↦ λ k. refl
      | false ↦ λ k. ap (λ b. cond b (with_cites y (y.cites ++ a ∷ [])) y)
          (le-leb (length y.cites + 1) y.rooms.cites (omega (arith, length-append y.cites (a ∷ []))))
    ] h

pub all_cited_room : (y : Yielded) (premises : List Atom) → length (cited_onto y.cites premises) ≤ y.rooms.cites
    → cited_all y premises ≡ with_cites y (cited_onto y.cites premises)
all_cited_room y [] h = refl
all_cited_room y (a ∷ more) h =
    let first = cited_room y a (let k = onto_longer (cited_with y.cites a) more in omega arith) in
    ap (λ z. cited_all z more) first ∙ all_cited_room (with_cites y (cited_with y.cites a)) more h

-- what is cited stays in front, so keeping as many as before takes away what came
pub all_cited_after : (y : Yielded) (premises : List Atom)
    → (more : List Atom) × ((cited_all y premises).cites ≡ y.cites ++ more)
all_cited_after y [] = ([], none_after y.cites)
  where
    none_after : (xs : List Atom) → xs ≡ xs ++ []
    none_after [] = refl
    none_after (x ∷ xs) = ap (λ ys. x ∷ ys) (none_after xs)
all_cited_after y (a ∷ premises) =
    let first = one_after y a in
    let later = all_cited_after (cited y a) premises in
    (first.0 ++ later.0, later.1 ∙ (ap (λ xs. xs ++ later.0) first.1 ∙ append_assoc y.cites first.0 later.0))
  where
    none_after : (xs : List Atom) → xs ≡ xs ++ []
    none_after [] = refl
    none_after (x ∷ xs) = ap (λ ys. x ∷ ys) (none_after xs)

    one_after : (y : Yielded) (a : Atom) → (more : List Atom) × ((cited y a).cites ≡ y.cites ++ more)
    one_after y a =
        elim (same_atom (Here 0) a || has same_atom y.cites a) as (λ b. (more : List Atom)
        × ((cond b y (cond (leb (length y.cites + 1) y.rooms.cites) (with_cites y (y.cites ++ a ∷ [])) y)).cites
        ≡ y.cites ++ more)) [
          | true ↦ ([], none_after y.cites)
          | false ↦ elim (leb (length y.cites + 1) y.rooms.cites) as (λ b. (more : List Atom)
              × ((cond b (with_cites y (y.cites ++ a ∷ [])) y).cites ≡ y.cites ++ more)) [
                | true ↦ (a ∷ [], refl)
                | false ↦ ([], none_after y.cites)
              ]
        ]

pub concluded_cites : (y : Yielded) (a : Atom) → (concluded y a).cites ≡ y.cites
concluded_cites y a =
    elim (may_conclude y y.clash) as (λ b. (concluded_if b y a).cites ≡ y.cites) [ true ↦ refl | false ↦ refl ]

-- a conclusion from what is cited already and its own premises
pub conclusion_taken : (y cites concludes keeps : Yielded) (premises : List Atom) (a : Atom)
    → cites ≡ cited_all y premises → concludes ≡ concluded cites a
    → keeps ≡ with_cites concludes (take (length y.cites) concludes.cites)
    → keeps ≡ taken y (concluding ((record { atom = a; premises = premises }) ∷ []))
conclusion_taken y cites concludes keeps premises a p q r =
    let all = concluded (cited_all y premises) a in
    let is : concludes ≡ all = q ∙ ap (λ z. concluded z a) p in
    let after = all_cited_after y premises in
    let front : take (length y.cites) all.cites ≡ y.cites =
    ap (take (length y.cites)) (concluded_cites (cited_all y premises) a ∙ after.1)
    ∙ (take-append-le (length y.cites) y.cites after.0 (omega arith)
    ∙ take_all (length y.cites) y.cites (omega arith)) in
    r ∙ (ap (λ z. with_cites z (take (length y.cites) z.cites)) is ∙ ap (with_cites all) front)

-- one without premises of its own
pub plain_taken : (y concludes : Yielded) (a : Atom) → concludes ≡ concluded y a
    → concludes ≡ taken y (concluding ((record { atom = a; premises = [] }) ∷ []))
plain_taken y concludes a p = p ∙ sym (ap (with_cites (concluded y a)) (sym (concluded_cites y a)))

pub conclusions_append : (y : Yielded) (cs ds : List Conclusion)
    → take_conclusions (take_conclusions y cs) ds ≡ take_conclusions y (cs ++ ds)
conclusions_append y [] ds = refl
conclusions_append y (c ∷ cs) ds =
    conclusions_append (with_cites (concluded (cited_all y c.premises) c.atom) y.cites) cs ds

-- what conclusions, from premises that are cited and their own, are put at the end
abbrev conclusion_onto : List Atom → Conclusion → Conclusion
conclusion_onto cites c = record { atom = c.atom; premises = cited_onto cites c.premises }

abbrev so_far : List Conclusion → ℕ → List Atom → Rooms → Yielded
so_far found used cites rooms = record { found = found; clash = None; used = used; cites = cites; rooms = rooms }

abbrev premise_count : List Conclusion → ℕ
premise_count conclusions = sum_by (λ c. length c.premises) conclusions

concluded_room : (found : List Conclusion) (used : ℕ) (cites : List Atom) (rooms : Rooms) (c : Conclusion)
    → length (cited_onto cites c.premises) ≤ rooms.cites → used + length (cited_onto cites c.premises) ≤ rooms.premises
    → length found + 1 ≤ rooms.atoms
    → with_cites (concluded (cited_all (so_far found used cites rooms) c.premises) c.atom) cites
    ≡ so_far (found ++ conclusion_onto cites c ∷ []) (used + length (cited_onto cites c.premises)) cites rooms
concluded_room found used cites rooms c h k l =
    let all = cited_onto cites c.premises in
    let may : (leb (used + length all) rooms.premises && leb (length found + 1) rooms.atoms) ≡ true =
    and_from (leb (used + length all) rooms.premises) (leb (length found + 1) rooms.atoms)
    (le-leb (used + length all) rooms.premises k)
    (le-leb (length found + 1) rooms.atoms l) in
    ap (λ z. with_cites (concluded z c.atom) cites) (all_cited_room (so_far found used cites rooms) c.premises h)
    ∙ ap (λ b. with_cites (concluded_if b (so_far found used all rooms) c.atom) cites) may

taken_room : (found : List Conclusion) (used : ℕ) (cites : List Atom) (rooms : Rooms) (cs : List Conclusion)
    → AllByRecursion (MayCite rooms) (map (conclusion_onto cites) cs)
    → length found + length (map (conclusion_onto cites) cs) ≤ rooms.atoms
    → used + premise_count (map (conclusion_onto cites) cs) ≤ rooms.premises
    → held (take_conclusions (so_far found used cites rooms) cs) ≡ concluding (found ++ map (conclusion_onto cites) cs)
taken_room found used cites rooms [] h k l = ap concluding (none_after found)
  where
    none_after : (xs : List Conclusion) → xs ≡ xs ++ []
    none_after [] = refl
    none_after (x ∷ xs) = ap (λ ys. x ∷ ys) (none_after xs)
taken_room found used cites rooms (c ∷ cs) h k l =
    let now = conclusion_onto cites c in
    let later = map (conclusion_onto cites) cs in
    let counted : premise_count (now ∷ later) ≡ length now.premises + premise_count later
    = sum_by-cons (λ (x : Conclusion). length x.premises) now later in
    let longer : length (found ++ now ∷ []) ≡ length found + 1 = length-append found (now ∷ []) in
    ap (λ z. held (take_conclusions z cs)) (concluded_room found used cites rooms c h.0 (omega arith) (omega arith))
    ∙ (taken_room (found ++ now ∷ []) (used + length now.premises) cites rooms cs h.1 (omega arith) (omega arith)
    ∙ ap concluding (append_assoc found (now ∷ []) later))

same_premises : (why : List Atom) → conclusion_with why ≡ conclusion_onto (cited_once why)
same_premises why = λ i c. record { atom = c.atom; premises = onto_append [] why c.premises i }

why_room : (rooms : Rooms) (why : List Atom) (c : Conclusion) → length (cited_once (why ++ c.premises)) ≤ rooms.cites
    → cited_all (nothing_in rooms) why ≡ so_far [] 0 (cited_once why) rooms
why_room rooms why c h =
    let all : cited_once (why ++ c.premises) ≡ cited_onto (cited_once why) c.premises = onto_append [] why c.premises in
    let longer = onto_longer (cited_once why) c.premises in
    all_cited_room (nothing_in rooms) why (omega (arith, ap length all))

pub room_suffices : RoomSuffices
room_suffices rooms why (clashing premises) h =
    let cites = cited_once (why ++ premises) in
    ap (λ z. held (clashed z))
    (cited_append (nothing_in rooms) why premises ∙ all_cited_room (nothing_in rooms) (why ++ premises) h.0)
    ∙ ap (λ b. held (clashed_if b (so_far [] 0 cites rooms))) (le-leb (length cites) rooms.premises h.1)
room_suffices rooms why (concluding []) h = nothing_found (nothing_in rooms) why refl refl
  where
    cited_finds : (y : Yielded) (a : Atom) → ((cited y a).clash ≡ y.clash) × ((cited y a).found ≡ y.found)
    cited_finds y a =
        elim (same_atom (Here 0) a || has same_atom y.cites a) as (λ b.
        ((cond b y (cond (leb (length y.cites + 1) y.rooms.cites) (with_cites y (y.cites ++ a ∷ [])) y)).clash
        ≡ y.clash)
        × ((cond b y (cond (leb (length y.cites + 1) y.rooms.cites) (with_cites y (y.cites ++ a ∷ [])) y)).found
        ≡ y.found)) [
          | true ↦ (refl, refl)
          | false ↦ elim (leb (length y.cites + 1) y.rooms.cites) as
              (λ b. ((cond b (with_cites y (y.cites ++ a ∷ [])) y).clash ≡ y.clash)
              × ((cond b (with_cites y (y.cites ++ a ∷ [])) y).found ≡ y.found))
              [ true ↦ (refl, refl) | false ↦ (refl, refl) ]
        ]

    nothing_found : (y : Yielded) (premises : List Atom) → y.clash ≡ None → y.found ≡ []
        → held (cited_all y premises) ≡ concluding []
    nothing_found y [] c f = ap (λ z. held_from z y.found) c ∙ ap concluding f
    nothing_found y (a ∷ more) c f =
        let h = cited_finds y a in nothing_found (cited y a) more (h.0 ∙ c) (h.1 ∙ f)
room_suffices rooms why (concluding (c ∷ cs)) h =
    let f = ap (λ g. map g (c ∷ cs)) (same_premises why) in
    let k : HasRoomFor rooms (concluding (map (conclusion_onto (cited_once why)) (c ∷ cs)))
    = subst (λ ds. HasRoomFor rooms (concluding ds)) f h in
    ap (λ z. held (take_conclusions z (c ∷ cs))) (why_room rooms why c h.0.0)
    ∙ (taken_room [] 0 (cited_once why) rooms (c ∷ cs) k.0 (let atoms = k.1 in omega arith)
    (let cells = k.2 in omega arith) ∙ ap concluding (sym f))

pub fresh_is_said : FreshIsSaid
fresh_is_said seen premises clash = refl
fresh_is_said seen premises (atoms given) = ap atoms (same_atoms (filter (λ a. not (says seen a)) given))
  where
    same_atoms : (xs : List Atom) → map (λ c. c.atom) (map (conclusion_from premises) xs) ≡ xs
    same_atoms [] = refl
    same_atoms (x ∷ xs) = ap (λ ys. x ∷ ys) (same_atoms xs)
