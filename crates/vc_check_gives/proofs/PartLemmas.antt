-- What is among parts, and whether all of them is said.
use Rattle.std.proofs.Common.{◌≡◌, ℕ, zero, suc, ◌<◌, Bool, true, false, not, ◌&&◌, ◌||◌, ◌==◌, List, [], ◌∷◌}
use Rattle.std.proofs.Common.{◌++◌, cond, length, map, refl, ◌∙◌, ap, arith}
use Rattle.std.specs.Prelude.{nat_eq, nat_lt, slice_get}
use Rattle.std.specs.List.{filter, list_all}
use Rattle.std.proofs.lemmas.Bool.{and_parts, and_from, lt-ltb, ltb-true}
use Rattle.std.proofs.lemmas.Bool.Decides.{nat_tests}
use Rattle.std.proofs.lemmas.List.Folds.{list_any-append}
use Rattle.vc_base.specs.Rounds.{Given, clash, atoms, atoms_of, is_clash}
use Rattle.vc_base.specs.Sets.{has}
use Rattle.vc_base.proofs.ListLaws.{number_exact, number_itself, range_has, has_range}
use Rattle.vc_base.proofs.SetLaws.{same_test, has_filter, filter_has}
use Rattle.vc_base.proofs.RangeLaws.{all_next, all_here, all_done}
use Rattle.vc_value.specs.declared.value.Value.{Value}
use Rattle.vc_plan.specs.declared.atoms.Atom.{Atom}
use Rattle.vc_plan.specs.declared.atoms.Atom.TheVariants.{Here, Out, Is}
use Rattle.vc_plan.specs.declared.conditions.Piece.{Piece}
use Rattle.vc_plan.specs.declared.plans.Plan.{Plan}
use Rattle.vc_plan.specs.Answers.{beside}
use Rattle.vc_plan.specs.Domains.{numbers_below, grains_of, count_of, is_grain_with, passes}
use Rattle.vc_plan.specs.Restrictions.{failing}
use Rattle.vc_plan.specs.Seen.{Seen, same_atom, says}
use Rattle.vc_check_gives.specs.Parts.{all_said, fails, fails_in, part_given, passes_by, passes_or_out, puts_out}
use Rattle.vc_check_gives.specs.declared.parts.Part.TheVariants.{Others}
use Rattle.vc_check_gives.specs.declared.tests.Test.{Test}

or_none : (b : Bool) → (b || false) ≡ b
or_none true = refl
or_none false = refl

and_all : (b : Bool) → (b && true) ≡ b
and_all true = refl
and_all false = refl

-- one atom alone
pub one_atom : (x a : Atom) → has same_atom (x ∷ []) a ≡ same_atom a x
one_atom x a = or_none (same_atom a x)

pub one_said : (seen : Seen) (x : Atom) → all_said seen (atoms (x ∷ [])) ≡ says seen x
one_said seen x = and_all (says seen x)

-- grains that are out
pub no_slot : (v : ℕ) (gs : List ℕ) (i : ℕ) → has same_atom (map (Out v) gs) (Here i) ≡ false
no_slot v [] i = refl
no_slot v (g ∷ gs) i = no_slot v gs i

pub no_value : (v : ℕ) (gs : List ℕ) (w : ℕ) (a : Value) → has same_atom (map (Out v) gs) (Is w a) ≡ false
no_value v [] w a = refl
no_value v (g ∷ gs) w a = no_value v gs w a

pub out_of : (v : ℕ) (gs : List ℕ) (w g : ℕ)
    → has same_atom (map (Out v) gs) (Out w g) ≡ ((w == v) && has nat_eq gs g)
out_of v [] w g = by (w == v)
  where
    by : (b : Bool) → false ≡ (b && false)
    by true = refl
    by false = refl
out_of v (h ∷ gs) w g =
    ap (λ b. ((w == v) && (g == h)) || b) (out_of v gs w g) ∙ by (w == v) (g == h) (has nat_eq gs g)
  where
    by : (b c d : Bool) → ((b && c) || (b && d)) ≡ (b && (c || d))
    by true c d = refl
    by false c d = refl

pub among_below : (p : ℕ → Bool) (n g : ℕ) → has nat_eq (filter p (numbers_below n)) g ≡ (nat_lt g n && p g)
among_below p n g =
    same_test (has nat_eq (filter p (numbers_below n)) g) (nat_lt g n && p g)
    (λ e.
    let q : (has nat_eq (numbers_below n) g ≡ true) × (p g ≡ true)
    = has_filter nat_eq number_exact number_itself p (numbers_below n) g e in
    let r = has_range 0 n g q.0 in
    let below : g < n = omega (arith, r.1) in
    and_from (nat_lt g n) (p g) (lt-ltb g n below) q.1)
    (λ e.
    let q : (nat_lt g n ≡ true) × (p g ≡ true) = and_parts (nat_lt g n) (p g) e in
    let below : g < n = ltb-true g n q.0 in
    filter_has nat_eq number_exact number_itself p (numbers_below n) g
    (range_has 0 n g (omega arith) (omega (arith, below))) q.1)

none_below : (g : ℕ) → nat_lt g 0 ≡ false
none_below g = grind (arith, nat_tests)

some_below : (n : ℕ) → nat_lt 0 (suc n) ≡ true
some_below n = grind (arith, nat_tests)

one_less : (g n : ℕ) → nat_lt (suc g) (suc n) ≡ nat_lt g n
one_less g n = grind (arith, nat_tests)

fails_there : (test : Test) (pieces : List Piece) (g : ℕ)
    → (nat_lt g (length pieces) && not (passes (passes_by test) (slice_get pieces g)))
    ≡ fails_in test (slice_get pieces g)
fails_there test [] g = ap (λ b. b && true) (none_below g)
fails_there test (x ∷ pieces) zero = ap (λ b. b && not (passes_by test x)) (some_below (length pieces))
fails_there test (x ∷ pieces) (suc g) =
    ap (λ b. b && not (passes (passes_by test) (slice_get pieces g))) (one_less g (length pieces))
    ∙ fails_there test pieces g

pub out_among : (plan : Plan) (v : ℕ) (test : Test) (w g : ℕ)
    → has same_atom (map (Out v) (failing plan v (passes_by test))) (Out w g) ≡ ((w == v) && fails plan v test g)
out_among plan v test w g =
    out_of v (failing plan v (passes_by test)) w g
    ∙ ap (λ b. (w == v) && b)
    (among_below (λ h. not (is_grain_with plan v (passes_by test) h)) (count_of plan v) g
    ∙ fails_there test (grains_of plan v) g)

pub puts_out_is : (plan : Plan) (v : ℕ) (test : Test) (a : Atom)
    → has same_atom (map (Out v) (failing plan v (passes_by test))) a ≡ puts_out plan v test a
puts_out_is plan v test (Here i) = no_slot v (failing plan v (passes_by test)) i
puts_out_is plan v test (Out w g) = out_among plan v test w g
puts_out_is plan v test (Is w a) = no_value v (failing plan v (passes_by test)) w a

pub ruleset being_among = (one_atom, puts_out_is)

-- all grains that fail are out just where each passes or is out
pub outs_said : (seen : Seen) (p : ℕ → Bool) (v : ℕ) (gs : List ℕ)
    → list_all (says seen) (map (Out v) (filter (λ g. not (p g)) gs)) ≡ list_all (λ g. p g || seen.out v g) gs
outs_said seen p v [] = refl
outs_said seen p v (g ∷ gs) = by (p g) (outs_said seen p v gs)
  where
    rest : List ℕ
    rest = filter (λ h. not (p h)) gs

    by : (b : Bool) → list_all (says seen) (map (Out v) rest) ≡ list_all (λ h. p h || seen.out v h) gs
        → list_all (says seen) (map (Out v) (cond (not b) (g ∷ rest) rest))
        ≡ ((b || seen.out v g) && list_all (λ h. p h || seen.out v h) gs)
    by true e = e
    by false e = ap (λ c. seen.out v g && c) e

pub others_said : (plan : Plan) (seen : Seen) (v : ℕ) (test : Test)
    → all_said seen (part_given plan (Others v test))
    ≡ list_all (passes_or_out plan seen v test) (numbers_below (count_of plan v))
others_said plan seen v test =
    outs_said seen (is_grain_with plan v (passes_by test)) v (numbers_below (count_of plan v))

pub ruleset silence = (others_said, all_next, all_here, all_done)

-- two parts beside each other
pub clash_beside : (x y : Given Atom) → is_clash (beside x y) ≡ (is_clash x || is_clash y)
clash_beside clash y = refl
clash_beside (atoms xs) clash = refl
clash_beside (atoms xs) (atoms ys) = refl

pub in_clash : (x y : Given Atom) (a : Atom) → (is_clash x || is_clash y) ≡ true
    → has same_atom (atoms_of (beside x y)) a ≡ false
in_clash clash y a e = refl
in_clash (atoms xs) clash a e = refl
in_clash (atoms xs) (atoms ys) a e = absurd (cc)

pub in_atoms : (x y : Given Atom) (a : Atom) → (is_clash x || is_clash y) ≡ false
    → has same_atom (atoms_of (beside x y)) a ≡ (has same_atom (atoms_of x) a || has same_atom (atoms_of y) a)
in_atoms clash y a e = absurd (cc)
in_atoms (atoms xs) clash a e = absurd (cc)
in_atoms (atoms xs) (atoms ys) a e = list_any-append (same_atom a) xs ys

pub ruleset in_beside = (in_clash, in_atoms)

pub all_append : (p : Atom → Bool) (xs ys : List Atom) → list_all p (xs ++ ys) ≡ (list_all p xs && list_all p ys)
all_append p [] ys = refl
all_append p (x ∷ xs) ys =
    ap (λ b. p x && b) (all_append p xs ys) ∙ by (p x) (list_all p xs) (list_all p ys)
  where
    by : (b c d : Bool) → (b && (c && d)) ≡ ((b && c) && d)
    by true c d = refl
    by false c d = refl

none_and : (b : Bool) → false ≡ (b && false)
none_and true = refl
none_and false = refl

pub said_beside : (seen : Seen) (x y : Given Atom)
    → all_said seen (beside x y) ≡ (all_said seen x && all_said seen y)
said_beside seen clash y = refl
said_beside seen (atoms xs) clash = none_and (list_all (says seen) xs)
said_beside seen (atoms xs) (atoms ys) = all_append (says seen) xs ys
