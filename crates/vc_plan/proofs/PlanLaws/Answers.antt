-- Answers that hold at a larger set too: a clash stays a clash, and each atom is given or there is a clash.
use Rattle.std.proofs.Common.{◌≡◌, ℕ, Bool, true, false, cond, not, ◌⊎◌, List, [], ◌∷◌, ◌++◌, map, refl, sym, ap, subst}
use Rattle.std.proofs.Common.{inl, inr}
use Rattle.std.specs.List.{filter}
use Rattle.std.proofs.lemmas.Bool.{not_from_false}
use Rattle.vc_base.specs.Rounds.{Given, clash, atoms, is_clash, atoms_of}
use Rattle.vc_base.specs.Sets.{has}
use Rattle.vc_base.proofs.SetLaws.{told, both, has_either, has_front, has_back, has_cases, has_first, has_more}
use Rattle.vc_base.proofs.SetLaws.{has_filter, filter_has}
use Rattle.vc_plan.specs.declared.atoms.Atom.{Atom}
use Rattle.vc_plan.specs.declared.plans.Plan.{Plan}
use Rattle.vc_plan.specs.Answers.{nothing, clash_if, beside, gathered, fresh, last_atoms, is_nothing}
use Rattle.vc_plan.specs.Seen.{Seen, same_atom, says}
use Rattle.vc_plan.proofs.PlanLaws.Atoms.{atom_exact, atom_itself}
use Rattle.vc_plan.proofs.PlanLaws.Lists.{Implies}

pub record Below (x y : Given Atom) : Type 0 where
  pub clash : is_clash x ≡ true → is_clash y ≡ true
  pub atom : (a : Atom) → has same_atom (atoms_of x) a ≡ true
      → (has same_atom (atoms_of y) a ≡ true) ⊎ (is_clash y ≡ true)

pub below_self : (x : Given Atom) → Below x x
below_self x = record { clash = λ e. e; atom = λ a h. inl h }

pub below_nothing : (y : Given Atom) → Below nothing y
below_nothing y = record { clash = λ e. absurd (cc); atom = λ a h. absurd (cc) }

pub below_clash : (x : Given Atom) → Below x clash
below_clash x = record { clash = λ e. refl; atom = λ a h. inr refl }

pub below_atoms : (xs ys : List Atom) → ((a : Atom) → has same_atom xs a ≡ true → has same_atom ys a ≡ true)
    → Below (atoms xs) (atoms ys)
below_atoms xs ys f = record { clash = λ e. e; atom = λ a h. inl (f a h) }

pub below_clash_if : (b c : Bool) (x y : Given Atom) → (b ≡ true → c ≡ true) → (c ≡ false → Below x y)
    → Below (clash_if b x) (clash_if c y)
below_clash_if true true x y f g = below_self clash
below_clash_if true false x y f g = let no : false ≡ true = f refl in absurd (cc)
below_clash_if false true x y f g = below_clash x
below_clash_if false false x y f g = g refl

pub below_if : (b : Bool) (x y z w : Given Atom) → Below x z → Below y w → Below (cond b x y) (cond b z w)
below_if true x y z w f g = f
below_if false x y z w f g = g

pub below_when : (b c : Bool) (x y : Given Atom) → (b ≡ true → c ≡ true) → (c ≡ true → Below x y)
    → Below (cond b x nothing) (cond c y nothing)
below_when true true x y f g = g refl
below_when true false x y f g = let no : false ≡ true = f refl in absurd (cc)
below_when false c x y f g = below_nothing (cond c y nothing)

pub below_beside : (x y z w : Given Atom) → Below x z → Below y w → Below (beside x y) (beside z w)
below_beside clash y clash w f g = below_self clash
below_beside clash y (atoms zs) w f g = let no : false ≡ true = f.clash refl in absurd (cc)
below_beside (atoms xs) y clash w f g = below_clash (beside (atoms xs) y)
below_beside (atoms xs) clash (atoms zs) clash f g = below_self clash
below_beside (atoms xs) clash (atoms zs) (atoms ws) f g = let no : false ≡ true = g.clash refl in absurd (cc)
below_beside (atoms xs) (atoms ys) (atoms zs) clash f g = below_clash (atoms (xs ++ ys))
below_beside (atoms xs) (atoms ys) (atoms zs) (atoms ws) f g = below_atoms (xs ++ ys) (zs ++ ws) (λ a h.
    elim (has_either same_atom atom_exact atom_itself xs ys a h) [
      | inl k ↦ elim (f.atom a k) [ inl q ↦ has_front same_atom atom_exact atom_itself zs ws a q | inr q ↦ absurd (cc) ]
      | inr k ↦ elim (g.atom a k) [ inl q ↦ has_back same_atom atom_exact atom_itself zs ws a q | inr q ↦ absurd (cc) ]
    ])

pub below_gathered : {X : Type 0} (f g : X → Given Atom) → ((x : X) → Below (f x) (g x)) → (xs : List X)
    → Below (gathered f xs) (gathered g xs)
below_gathered f g h [] = below_self nothing
below_gathered f g h (x ∷ xs) = below_beside (f x) (gathered f xs) (g x) (gathered g xs) (h x) (below_gathered f g h xs)

-- the atoms of the numbers that pass a test
filter_step : (f : ℕ → Atom) (x : ℕ) (xs ys : List ℕ) (a : Atom) (b c : Bool) → (b ≡ true → c ≡ true)
    → (has same_atom (map f xs) a ≡ true → has same_atom (map f ys) a ≡ true)
    → has same_atom (map f (cond b (x ∷ xs) xs)) a ≡ true → has same_atom (map f (cond c (x ∷ ys) ys)) a ≡ true
filter_step f x xs ys a true true g h e =
    elim (has_cases same_atom atom_exact atom_itself (f x) (map f xs) a e) [
      | inl q ↦ subst (λ z. has same_atom (f x ∷ map f ys) z ≡ true) (sym q)
          (has_first same_atom atom_exact atom_itself (f x) (map f ys))
      | inr q ↦ has_more same_atom atom_exact atom_itself (f x) (map f ys) a (h q)
    ]
filter_step f x xs ys a true false g h e = let no : false ≡ true = g refl in absurd (cc)
filter_step f x xs ys a false true g h e = has_more same_atom atom_exact atom_itself (f x) (map f ys) a (h e)
filter_step f x xs ys a false false g h e = h e

mapped_grows : (f : ℕ → Atom) (p q : ℕ → Bool) → Implies p q → (xs : List ℕ) (a : Atom)
    → has same_atom (map f (filter p xs)) a ≡ true
    → has same_atom (map f (filter q xs)) a ≡ true
mapped_grows f p q g [] a e = e
mapped_grows f p q g (x ∷ xs) a e =
    filter_step f x (filter p xs) (filter q xs) a (p x) (q x) (g x) (mapped_grows f p q g xs a) e

pub below_mapped : (f : ℕ → Atom) (p q : ℕ → Bool) → Implies p q → (xs : List ℕ)
    → Below (atoms (map f (filter p xs))) (atoms (map f (filter q xs)))
below_mapped f p q g xs = below_atoms (map f (filter p xs)) (map f (filter q xs)) (mapped_grows f p q g xs)

-- the value of the one grain that remains, where it goes on remaining or none does
pub below_last : (plan : Plan) (v : ℕ) (gs hs : List ℕ) → ((g : ℕ) → gs ≡ g ∷ [] → (hs ≡ []) ⊎ (hs ≡ g ∷ []))
    → is_nothing hs ≡ false
    → Below (atoms (last_atoms plan v gs)) (atoms (last_atoms plan v hs))
below_last plan v [] hs f some = below_nothing (atoms (last_atoms plan v hs))
below_last plan v (g ∷ []) hs f some =
    elim (f g refl) [
      | inl e ↦ absurd (both (ap is_nothing e) some)
      | inr e ↦ subst (λ z. Below (atoms (last_atoms plan v (g ∷ []))) (atoms (last_atoms plan v z))) (sym e)
          (below_self (atoms (last_atoms plan v (g ∷ []))))
    ]
below_last plan v (g ∷ (h ∷ more)) hs f some = below_nothing (atoms (last_atoms plan v hs))

-- what is fresh at the smaller set is said at the larger, or fresh there, or there is a clash
pub fresh_clash : (s t : Seen) (x y : Given Atom) → Below x y → is_clash (fresh s x) ≡ true
    → is_clash (fresh t y) ≡ true
fresh_clash s t clash clash b e = e
fresh_clash s t clash (atoms ys) b e = b.clash e
fresh_clash s t (atoms xs) clash b e = refl
fresh_clash s t (atoms xs) (atoms ys) b e = e

pub fresh_atom : (s t : Seen) (x y : Given Atom) → Below x y → (a : Atom)
    → has same_atom (atoms_of (fresh s x)) a ≡ true
    → (says t a ≡ true) ⊎ ((has same_atom (atoms_of (fresh t y)) a ≡ true) ⊎ (is_clash (fresh t y) ≡ true))
fresh_atom s t clash y b a h = absurd (cc)
fresh_atom s t (atoms xs) clash b a h = inr (inr refl)
fresh_atom s t (atoms xs) (atoms ys) b a h =
    let p : (has same_atom xs a ≡ true) × (not (says s a) ≡ true)
    = has_filter same_atom atom_exact atom_itself (λ c. not (says s c)) xs a h in
    elim (told (says t a)) [
      | inl e ↦ inl e
      | inr e ↦ elim (b.atom a p.0) [
        | inl q ↦ inr (inl (filter_has same_atom atom_exact atom_itself (λ c. not (says t c)) ys a q
            (not_from_false (says t a) e)))
        | inr q ↦ absurd (cc)
      ]
    ]
