-- What is said after something is cited has that among its premises.
use Rattle.std.proofs.Common.{◌≡◌, ◌+◌, true, false, cond, not, ◌||◌, List, [], ◌∷◌, ◌++◌, length, take, map, refl, sym}
use Rattle.std.proofs.Common.{◌∙◌, ap, arith}
use Rattle.std.specs.Prelude.{nat_le}
use Rattle.std.specs.List.{filter}
use Rattle.std.proofs.lemmas.List.{take-append-le, take_all}
use Rattle.vc_base.specs.Rounds.{Given, clash, atoms, is_clash}
use Rattle.vc_base.specs.Sets.{has}
use Rattle.vc_plan.specs.declared.atoms.Atom.{Atom}
use Rattle.vc_plan.specs.declared.atoms.Atom.TheVariants.{Here}
use Rattle.vc_plan.specs.Seen.{Seen, same_atom, says}
use Rattle.vc_rule_yield.specs.Yielding.{Rooms, Yielded, with_cites, cited, concluded, concluded_if, may_conclude}
use Rattle.vc_rule_yield.specs.Yielding.{clashed}
use Rattle.vc_rule_premises.specs.Citing.{cited_all}
use Rattle.vc_rule_premises.specs.Saying.{conclusion_from, said_from, take_conclusions, taken}
use Rattle.vc_rule_premises.proofs.CitingLemmas.{cited_append}
use Rattle.vc_rule_premises.proofs.SayingLaws.{all_cited_after}

-- what is cited hangs on the room and on what is cited already alone
cited_frame : (w y : Yielded) (a : Atom) → w.rooms ≡ y.rooms
    → cited (with_cites w y.cites) a ≡ with_cites w (cited y a).cites
cited_frame w y a e =
    let more = y.cites ++ a ∷ [] in
    ap (λ (r : Rooms). cond (same_atom (Here 0) a || has same_atom y.cites a) (with_cites w y.cites)
    (cond (nat_le (length y.cites + 1) r.cites) (with_cites w more) (with_cites w y.cites))) e
    ∙ elim (same_atom (Here 0) a || has same_atom y.cites a) as (λ b.
    cond b (with_cites w y.cites)
    (cond (nat_le (length y.cites + 1) y.rooms.cites) (with_cites w more) (with_cites w y.cites))
    ≡ with_cites w (cond b y (cond (nat_le (length y.cites + 1) y.rooms.cites) (with_cites y more) y)).cites) [
      | true ↦ refl
      | false ↦ elim (nat_le (length y.cites + 1) y.rooms.cites) as (λ b.
          cond b (with_cites w more) (with_cites w y.cites) ≡ with_cites w (cond b (with_cites y more) y).cites) [
            | true ↦ refl
            | false ↦ refl
          ]
    ]

cited_rooms : (y : Yielded) (a : Atom) → (cited y a).rooms ≡ y.rooms
cited_rooms y a =
    elim (same_atom (Here 0) a || has same_atom y.cites a) as (λ b.
    (cond b y (cond (nat_le (length y.cites + 1) y.rooms.cites) (with_cites y (y.cites ++ a ∷ [])) y)).rooms
    ≡ y.rooms) [
      | true ↦ refl
      | false ↦ elim (nat_le (length y.cites + 1) y.rooms.cites) as
          (λ b. (cond b (with_cites y (y.cites ++ a ∷ [])) y).rooms ≡ y.rooms) [
            | true ↦ refl
            | false ↦ refl
          ]
    ]

all_cited_rooms : (y : Yielded) (xs : List Atom) → (cited_all y xs).rooms ≡ y.rooms
all_cited_rooms y [] = refl
all_cited_rooms y (x ∷ xs) = all_cited_rooms (cited y x) xs ∙ cited_rooms y x

all_cited_frame : (w y : Yielded) (xs : List Atom) → w.rooms ≡ y.rooms
    → cited_all (with_cites w y.cites) xs ≡ with_cites w (cited_all y xs).cites
all_cited_frame w y [] e = refl
all_cited_frame w y (x ∷ xs) e =
    ap (λ z. cited_all z xs) (cited_frame w y x e) ∙ all_cited_frame w (cited y x) xs (e ∙ sym (cited_rooms y x))

concluded_rooms : (y : Yielded) (a : Atom) → (concluded y a).rooms ≡ y.rooms
concluded_rooms y a =
    elim (may_conclude y y.clash) as (λ b. (concluded_if b y a).rooms ≡ y.rooms) [ true ↦ refl | false ↦ refl ]

-- conclusions after something is cited, and what was cited before kept
conclusions_frame : (y w : Yielded) (why premises given : List Atom) → w.rooms ≡ y.rooms
    → with_cites (take_conclusions (with_cites w (cited_all y why).cites) (map (conclusion_from premises) given))
    y.cites
    ≡ take_conclusions (with_cites w y.cites) (map (conclusion_from (why ++ premises)) given)
conclusions_frame y w why premises [] e = refl
conclusions_frame y w why premises (a ∷ given) e =
    let after = cited_all y why in
    let next = concluded (cited_all (with_cites w after.cites) premises) a in
    let same : concluded (cited_all (with_cites w y.cites) (why ++ premises)) a ≡ next =
    ap (λ z. concluded z a)
    (sym (cited_append (with_cites w y.cites) why premises)
    ∙ ap (λ z. cited_all z premises) (all_cited_frame w y why e)) in
    let rooms : next.rooms ≡ y.rooms =
    concluded_rooms (cited_all (with_cites w after.cites) premises) a
    ∙ (all_cited_rooms (with_cites w after.cites) premises ∙ e) in
    conclusions_frame y next why premises given rooms
    ∙ sym (ap (λ z. take_conclusions (with_cites z y.cites) (map (conclusion_from (why ++ premises)) given)) same)

conclusions_cites : (y : Yielded) (premises given : List Atom)
    → (take_conclusions y (map (conclusion_from premises) given)).cites ≡ y.cites
conclusions_cites y premises [] = refl
conclusions_cites y premises (a ∷ given) =
    conclusions_cites (with_cites (concluded (cited_all y premises) a) y.cites) premises given

-- what is said after something is cited: of a clash nothing more is to do, else what was cited before is kept
pub clash_after : (seen : Seen) (y m n : Yielded) (why premises : List Atom) (given : Given Atom)
    → is_clash given ≡ true → m ≡ cited_all y why
    → n ≡ taken m (said_from seen premises given) → n ≡ taken y (said_from seen (why ++ premises) given)
clash_after seen y m n why premises clash c e f =
    f ∙ (ap (λ z. clashed (cited_all z premises)) e ∙ ap clashed (cited_append y why premises))
clash_after seen y m n why premises (atoms given) c e f = absurd (cc)

pub atoms_after : (seen : Seen) (y m n : Yielded) (why premises : List Atom) (given : Given Atom)
    → is_clash given ≡ false → m ≡ cited_all y why
    → n ≡ taken m (said_from seen premises given)
    → with_cites n (take (length y.cites) n.cites) ≡ taken y (said_from seen (why ++ premises) given)
atoms_after seen y m n why premises clash c e f = absurd (cc)
atoms_after seen y m n why premises (atoms given) c e f =
    let those = filter (λ a. not (says seen a)) given in
    let whole : cited_all y why ≡ with_cites y (cited_all y why).cites = all_cited_frame y y why refl in
    let is : n ≡ take_conclusions (with_cites y (cited_all y why).cites) (map (conclusion_from premises) those) =
    f ∙ ap (λ z. take_conclusions z (map (conclusion_from premises) those)) (e ∙ whole) in
    let after = all_cited_after y why in
    let front : take (length y.cites) n.cites ≡ y.cites =
    ap (λ (z : Yielded). take (length y.cites) z.cites) is
    ∙ (ap (take (length y.cites)) (conclusions_cites (with_cites y (cited_all y why).cites) premises those ∙ after.1)
    ∙ (take-append-le (length y.cites) y.cites after.0 (omega arith)
    ∙ take_all (length y.cites) y.cites (omega arith))) in
    ap (with_cites n) front ∙ (ap (λ z. with_cites z y.cites) is ∙ conclusions_frame y y why premises those refl)
