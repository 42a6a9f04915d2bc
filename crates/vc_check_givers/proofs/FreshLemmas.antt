-- What is given is what is said and doesn't stand yet.
use Rattle.std.proofs.Common.{◌≡◌, Bool, true, false, cond, not, ◌&&◌, [], ◌∷◌, refl}
use Rattle.std.specs.List.{filter, list_all}
use Rattle.std.proofs.lemmas.Bool.{and_parts, and_from}
use Rattle.vc_base.specs.Rounds.{Given, atoms, atoms_of, clash, is_clash}
use Rattle.vc_base.specs.Sets.{has}
use Rattle.vc_base.proofs.SetLaws.{filter_has, has_filter, same_test}
use Rattle.vc_plan.specs.declared.atoms.Atom.{Atom}
use Rattle.vc_plan.specs.Answers.{fresh}
use Rattle.vc_plan.specs.Seen.{Seen, same_atom, says}
use Rattle.vc_plan.proofs.PlanLaws.Atoms.{atom_exact, atom_itself}
use Rattle.vc_plan_reasons.specs.Checking.{is_silent}
use Rattle.vc_check_gives.specs.Parts.{all_said}

pub clash_fresh : (seen : Seen) (x : Given Atom) → is_clash (fresh seen x) ≡ is_clash x
clash_fresh seen clash = refl
clash_fresh seen (atoms xs) = refl

none_and : (b : Bool) → false ≡ (b && false)
none_and true = refl
none_and false = refl

pub has_fresh : (seen : Seen) (x : Given Atom) (a : Atom)
    → has same_atom (atoms_of (fresh seen x)) a ≡ (not (says seen a) && has same_atom (atoms_of x) a)
has_fresh seen clash a = none_and (not (says seen a))
has_fresh seen (atoms xs) a =
    same_test (has same_atom (filter (λ b. not (says seen b)) xs) a) (not (says seen a) && has same_atom xs a)
    (λ e.
    let p : (has same_atom xs a ≡ true) × (not (says seen a) ≡ true)
    = has_filter same_atom atom_exact atom_itself (λ b. not (says seen b)) xs a e in
    and_from (not (says seen a)) (has same_atom xs a) p.1 p.0)
    (λ e.
    let p : (not (says seen a) ≡ true) × (has same_atom xs a ≡ true)
    = and_parts (not (says seen a)) (has same_atom xs a) e in
    filter_has same_atom atom_exact atom_itself (λ b. not (says seen b)) xs a p.1 p.0)

pub silent_fresh : (seen : Seen) (x : Given Atom) → is_silent (fresh seen x) ≡ all_said seen x
silent_fresh seen clash = refl
silent_fresh seen (atoms []) = refl
silent_fresh seen (atoms (a ∷ xs)) = by (says seen a) (silent_fresh seen (atoms xs))
  where
    by : (b : Bool) → is_silent (atoms (filter (λ c. not (says seen c)) xs)) ≡ list_all (says seen) xs
        → is_silent (atoms (cond (not b) (a ∷ filter (λ c. not (says seen c)) xs) (filter (λ c. not (says seen c)) xs)))
        ≡ (b && list_all (says seen) xs)
    by true e = e
    by false e = refl
