-- The atoms that can't stand together: how they are found and put, and how many there are at most.
use Rattle.std.proofs.Common.{◌≡◌, ℕ, ◌+◌, ◌≤◌, Bool, true, false, cond, not, ◌&&◌, List, [], ◌∷◌, ◌++◌}
use Rattle.std.proofs.Common.{length, map, refl, sym, ◌∙◌, ap, subst, inl, inr, arith, length-append, append_assoc}
use Rattle.std.specs.Prelude.{◌==◌, max, nat_le, Option, None, Some, slice_get}
use Rattle.std.specs.List.{filter, find}
use Rattle.std.specs.Option.{option_to_list}
use Rattle.std.proofs.lemmas.Bool.{le-leb, or_from}
use Rattle.std.proofs.lemmas.List.{length-map}
use Rattle.std.proofs.lemmas.List.FromFn.{length-range_with_len}
use Rattle.vc_base.proofs.Settling.{IsIn}
use Rattle.vc_plan.specs.declared.atoms.Atom.{Atom}
use Rattle.vc_plan.specs.declared.atoms.Atom.TheVariants.{Here, Out}
use Rattle.vc_plan.specs.declared.plans.Plan.{Plan}
use Rattle.vc_plan.specs.Bounds.{greatest}
use Rattle.vc_plan.specs.Clear.{collides, is_exhausted}
use Rattle.vc_plan.specs.Domains.{count_of, numbers_below}
use Rattle.vc_plan.specs.Seen.{seen_of, slot_in}
use Rattle.vc_plan_reasons.specs.Checking.{set_with}
use Rattle.vc_plan_blame.specs.Blame.{are_at_odds, beside_atom, colliding_by, exhausted_by, exhausting, is_out}
use Rattle.vc_plan_blame.specs.Blame.{or_else, pair_with}
use Rattle.vc_plan_blame.proofs.BlameLaws.Colliding.{self_apart}
use Rattle.vc_plan_blame.proofs.BlameLaws.Unclear.{found}
use Rattle.vc_rule_yield.specs.Filling.{emptied, Filled}
use Rattle.vc_net_standing.specs.declared.standing.Fact.{Fact}
use Rattle.vc_net_standing.specs.Standing.{atoms_of}
use Rattle.vc_net_blame.specs.Finding.{colliding_with, collision_bound}
use Rattle.vc_net_blame.specs.Laws.{CollisionsFit}
use Rattle.vc_net_blame.specs.Searching.{first_at_odds, out_at_odds, pushed_all, slot_beside_root}

-- the last of a list isn't found where it fails
find_last : (p : Atom → Bool) (xs : List Atom) (a : Atom) → p a ≡ false → find p (xs ++ a ∷ []) ≡ find p xs
find_last p [] a e = ap (λ b. cond b (Some a) None) e
find_last p (x ∷ xs) a e = ap (λ o. cond (p x) (Some x) o) (find_last p xs a e)

-- no atom is at odds with itself, so the pair is found among the others
odds_itself : (plan : Plan) (a : Atom) → are_at_odds plan a a ≡ false
odds_itself plan a = or_from (collides plan a a) (collides plan a a) (self_apart plan a) (self_apart plan a)

and_no : (b c : Bool) → c ≡ false → (b && c) ≡ false
and_no true c e = e
and_no false c e = refl

pub pair_found : (plan : Plan) (facts : List Fact) (atom : Atom)
    → beside_atom plan (atoms_of facts ++ atom ∷ []) atom ≡ pair_with atom (first_at_odds plan facts atom)
pair_found plan facts atom =
    ap (λ o. pair_with atom (or_else o (find (are_at_odds plan atom) (atoms_of facts ++ atom ∷ []))))
    (find_last (out_at_odds plan atom) (atoms_of facts) atom
    (and_no (is_out atom) (are_at_odds plan atom atom) (odds_itself plan atom)))
    ∙ ap (λ o. pair_with atom (or_else (find (out_at_odds plan atom) (atoms_of facts)) o))
    (find_last (are_at_odds plan atom) (atoms_of facts) atom (odds_itself plan atom))

pub pair_put : (plan : Plan) (facts : List Fact) (atom : Atom) (list : Filled Atom) (o : Option Atom)
    → o ≡ first_at_odds plan facts atom
    → pushed_all list (pair_with atom o) ≡ pushed_all list (beside_atom plan (atoms_of facts ++ atom ∷ []) atom)
pair_put plan facts atom list o e =
    ap (λ p. pushed_all list (pair_with atom p)) e ∙ ap (pushed_all list) (sym (pair_found plan facts atom))

-- with room for all of them, all are put
pub all_put : (list : Filled Atom) (xs : List Atom) → length list.items + length xs ≤ list.room
    → pushed_all list xs ≡ record { items = list.items ++ xs; room = list.room }
all_put list [] h = λ i. record { items = none_after list.items i; room = list.room }
  where
    none_after : (ys : List Atom) → ys ≡ ys ++ []
    none_after [] = refl
    none_after (y ∷ ys) = ap (λ zs. y ∷ zs) (none_after ys)
all_put list (x ∷ xs) h =
    let one : Filled Atom = record { items = list.items ++ x ∷ []; room = list.room } in
    let fits : nat_le (length list.items + 1) list.room ≡ true =
    le-leb (length list.items + 1) list.room (omega arith) in
    let longer : length (list.items ++ x ∷ []) ≡ length list.items + 1 = length-append list.items (x ∷ []) in
    ap (λ b. pushed_all (cond b one list) xs) fits
    ∙ (all_put one xs (omega arith)
    ∙ (λ i. record { items = append_assoc list.items (x ∷ []) xs i; room = list.room }))

-- how many there are
filter_short : (p : ℕ → Bool) (o : Option ℕ) → length (map Here (filter p (option_to_list o))) ≤ 1
filter_short p None = omega arith
filter_short p (Some i) = by (p i)
  where
    by : (b : Bool) → length (map Here (cond b (i ∷ []) [])) ≤ 1
    by true = omega arith
    by false = omega arith

greatest_in : (f : ℕ → ℕ) (x : ℕ) (xs : List ℕ) → IsIn x xs → f x ≤ greatest f xs
greatest_in f x [] there = absurd there
greatest_in f x (y ∷ ys) (inl same) = subst (λ z. f z ≤ max (f y) (greatest f ys)) (sym same) (omega arith)
greatest_in f x (y ∷ ys) (inr there) = let h = greatest_in f x ys there in omega arith

exhausting_few : (plan : Plan) (v : ℕ) → IsIn v (numbers_below (length plan.vars))
    → length (exhausting plan v) ≤ collision_bound plan
exhausting_few plan v there =
    let slot = filter_short (λ i. not (i == 0)) (slot_in (slice_get plan.vars v)) in
    let outs = map (Out v) (numbers_below (count_of plan v)) in
    let all : length (exhausting plan v) ≡ length (slot_beside_root plan v) + length outs =
    length-append (slot_beside_root plan v) outs in
    let counted : length outs ≡ count_of plan v =
    length-map (numbers_below (count_of plan v)) (Out v) ∙ length-range_with_len 0 (count_of plan v) in
    let most = greatest_in (count_of plan) v (numbers_below (length plan.vars)) there in
    omega arith

pair_few : (plan : Plan) (atom : Atom) (o : Option Atom) → length (pair_with atom o) ≤ collision_bound plan
pair_few plan atom None = omega arith
pair_few plan atom (Some other) = omega arith

pub collisions_fit : CollisionsFit
collisions_fit plan facts atom = by (exhausted_by plan stand) refl
  where
    stand : List Atom
    stand = atoms_of facts ++ atom ∷ []

    by : (o : Option ℕ) → exhausted_by plan stand ≡ o
        → length (colliding_by plan stand atom o) ≤ collision_bound plan
    by None e =
        pair_few plan atom (or_else (find (λ b. is_out b && are_at_odds plan atom b) stand)
        (find (are_at_odds plan atom) stand))
    by (Some v) e =
        let f = found (is_exhausted plan (seen_of (set_with stand))) (numbers_below (length plan.vars)) v e in
        exhausting_few plan v f.1

-- so a list with room for so many, emptied, has just these then
pub all_within : (plan : Plan) (facts : List Fact) (atom : Atom) (old cleared put : Filled Atom)
    → collision_bound plan ≤ old.room → cleared ≡ emptied old
    → put ≡ pushed_all cleared (colliding_with plan facts atom)
    → put ≡ record { items = colliding_with plan facts atom; room = old.room }
all_within plan facts atom old cleared put room p q =
    let few = collisions_fit plan facts atom in
    q ∙ (ap (λ list. pushed_all list (colliding_with plan facts atom)) p
    ∙ all_put (emptied old) (colliding_with plan facts atom) (omega arith))
