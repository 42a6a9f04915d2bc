-- What is on a board says the same as the set that was put on it.
use Rattle.std.proofs.Common.{◌≡◌, ℕ, zero, suc, ◌<◌, Bool, true, false, cond, ◌&&◌, ◌||◌, ◌==◌}
use Rattle.std.proofs.Common.{List, [], ◌∷◌, refl, ◌∙◌, ap}
use Rattle.std.proofs.Common.{drop, length, arith}
use Rattle.std.specs.Prelude.{nat_eq, Some, get_or}
use Rattle.std.specs.List.{list_any}
use Rattle.std.specs.Map.{lookup}
use Rattle.std.proofs.Math.Path.{fun_ext}
use Rattle.std.proofs.lemmas.Bool.Decides.{nat_tests}
use Rattle.vc_value.specs.declared.value.Value.{Value}
use Rattle.vc_plan.specs.declared.atoms.Atom.{Atom}
use Rattle.vc_plan.specs.declared.atoms.Atom.TheVariants.{Here, Out, Is}
use Rattle.vc_plan.specs.Seen.{Seen, seen_of}
use Rattle.vc_check_board.specs.Boards.{same_excluded, seen_in, seen_beside}
use Rattle.vc_check_board.specs.declared.board.Excluded.{Excluded}

-- a set with an atom before the others
pub seen_more : (a : Atom) (set : List Atom) → seen_beside a (seen_of set) ≡ seen_of (a ∷ set)
seen_more (Here i) set = refl
seen_more (Out v g) set = refl
seen_more (Is v a) set = refl

swapped : (m n : ℕ) → (m == n) ≡ (n == m)
swapped m n = grind (arith, nat_tests)

if_same : (b : Bool) (c : Bool) → cond b true c ≡ (b || c)
if_same true c = refl
if_same false c = refl

-- a slot, a grain or a value more
pub slot_put : (old new : List ℕ) (slot : ℕ) (out : List Excluded) (values : List (ℕ × Value))
    → ((i : ℕ) → list_any (nat_eq i) new ≡ cond (nat_eq slot i) true (list_any (nat_eq i) old))
    → seen_in new out values ≡ seen_beside (Here slot) (seen_in old out values)
slot_put old new slot out values is =
    ap (λ f. record { here = f; out = (seen_in old out values).out; value = (seen_in old out values).value })
    (fun_ext (λ i. is i
    ∙ (if_same (nat_eq slot i) (list_any (nat_eq i) old)
    ∙ ap (λ b. b || list_any (nat_eq i) old) (swapped slot i))))

pub grain_put : (old new : List Excluded) (var grain : ℕ) (here : List ℕ) (values : List (ℕ × Value))
    → ((e : Excluded) → list_any (same_excluded e) new
    ≡ cond (same_excluded (record { var = var; grain = grain }) e) true (list_any (same_excluded e) old))
    → seen_in here new values ≡ seen_beside (Out var grain) (seen_in here old values)
grain_put old new var grain here values is =
    ap (λ f. record { here = (seen_in here old values).here; out = f; value = (seen_in here old values).value })
    (fun_ext (λ v. fun_ext (λ g. is (record { var = v; grain = g })
    ∙ (if_same ((var == v) && (grain == g)) (list_any (same_excluded (record { var = v; grain = g })) old)
    ∙ ap (λ b. b || list_any (same_excluded (record { var = v; grain = g })) old)
    (ap (λ b. b && (grain == g)) (swapped var v) ∙ ap (λ b. (v == var) && b) (swapped grain g))))))

pub value_put : (old new : List (ℕ × Value)) (var : ℕ) (a : Value) (here : List ℕ) (out : List Excluded)
    → ((v : ℕ) → lookup (nat_eq v) new ≡ cond (nat_eq var v) (Some a) (lookup (nat_eq v) old))
    → seen_in here out new ≡ seen_beside (Is var a) (seen_in here out old)
value_put old new var a here out is =
    ap (λ f. record { here = (seen_in here out old).here; out = (seen_in here out old).out; value = f }) (fun_ext is)

-- the atoms from one on, by that one and those after it
drop_next : {X : Type 0} (xs : List X) (i : ℕ) (d : X) → i < length xs → get_or xs i d ∷ drop (suc i) xs ≡ drop i xs
drop_next [] i d h = absurd (omega arith)
drop_next (x ∷ xs) zero d h = refl
drop_next (x ∷ xs) (suc i) d h = drop_next xs i d (omega arith)

pub shown_next : (set : List Atom) (i n : ℕ) (d : Atom) (board new : Seen) → n ≡ suc i → i < length set
    → board ≡ seen_of (drop n set)
    → new ≡ seen_beside (get_or set i d) board → new ≡ seen_of (drop i set)
shown_next set i n d board new e h is put =
    put
    ∙ (ap (seen_beside (get_or set i d)) (is ∙ ap (λ k. seen_of (drop k set)) e)
    ∙ (seen_more (get_or set i d) (drop (suc i) set) ∙ ap seen_of (drop_next set i d h)))
