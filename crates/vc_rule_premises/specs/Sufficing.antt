-- When premises are enough for what is said.
use Rattle.std.specs.Prelude.{◌≡◌, ℕ, Bool, true, List, ◌∷◌, Some}
use Rattle.std.specs.List.{list_all, AllByRecursion}
use Rattle.vc_base.specs.Rounds.{Given, is_clash, atoms_of}
use Rattle.vc_base.specs.Sets.{has}
use Rattle.vc_value.specs.declared.value.Value.{Value}
use Rattle.vc_plan.specs.declared.atoms.Atom.{Atom}
use Rattle.vc_plan.specs.declared.atoms.Atom.TheVariants.{Here}
use Rattle.vc_plan.specs.Seen.{Seen, same_atom, seen_of, says}
use Rattle.vc_rule_yield.specs.Yielding.{Conclusion}
use Rattle.vc_rule_premises.specs.Saying.{Said, clashing, concluding}

-- the first says no more than the second
pub record IsPartOf (part whole : Seen) : Type 0 where
  pub here : (i : ℕ) → part.here i ≡ true → whole.here i ≡ true
  pub out : (v g : ℕ) → part.out v g ≡ true → whole.out v g ≡ true
  pub value : (v : ℕ) (a : Value) → part.value v ≡ Some a → whole.value v ≡ Some a

-- all of the atoms are said
abbrev pub SaysAll : Seen → List Atom → Type 0
SaysAll seen premises = list_all (says seen) premises ≡ true

-- whether each premise of what is said passes a test
abbrev pub each_premise : (Atom → Bool) → Said → Bool
each_premise test (clashing premises) = list_all test premises
each_premise test (concluding conclusions) = list_all (λ conclusion. list_all test conclusion.premises) conclusions

-- the atom is given wherever a part of what is seen says its premises
abbrev pub Follows : (Seen → Given Atom) → Seen → Conclusion → Type 0
Follows gives seen conclusion =
    (part : Seen) → IsPartOf part seen → SaysAll part conclusion.premises
    → has same_atom (atoms_of (gives part)) conclusion.atom ≡ true

-- and so is each that is said; of a clash, there is a clash
abbrev pub EachFollows : (Seen → Given Atom) → Seen → Said → Type 0
EachFollows gives seen (clashing premises) = (part : Seen) → IsPartOf part seen → SaysAll part premises
    → is_clash (gives part) ≡ true
EachFollows gives seen (concluding conclusions) = AllByRecursion (Follows gives seen) conclusions

-- what a set of premises says, with that the root is here
abbrev pub seen_from : List Atom → Seen
seen_from premises = seen_of (Here 0 ∷ premises)
