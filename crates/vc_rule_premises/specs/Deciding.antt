-- Of which variables the values make a condition true, or false.
use Rattle.std.specs.Prelude.{◌≡◌, ℕ, Bool, not, if◌then◌else◌, List, [], ◌∷◌, ◌++◌}
use Rattle.vc_plan.specs.declared.conditions.Condition.{Condition}
use Rattle.vc_plan.specs.declared.conditions.Condition.TheVariants.{Always, Compared, IsIn, Specified, Holds, Filled}
use Rattle.vc_plan.specs.declared.conditions.Condition.TheVariants.{Not', And', Or'}
use Rattle.vc_plan.specs.Kleene.{is_true, is_false}
use Rattle.vc_plan.specs.Readings.{Reading}
use Rattle.vc_plan.specs.Reads.{vars_in}
use Rattle.vc_plan.specs.Seen.{Seen}
use Rattle.vc_plan.specs.Truth.{truth}

-- what makes both sides so, and what makes the first side so where it is, else the second
abbrev pub both_or_first : Bool → Bool → List ℕ → List ℕ → List ℕ
both_or_first both first xs ys = if both then xs ++ ys else (if first then xs else ys)

-- The variables whose values make the condition true, or false, where it is so: an AND is true by both its sides and
-- false by
-- the first that is false, an OR the other way, and a NOT is true by what makes the rest false.
abbrev pub deciding : Reading → Bool → Condition → List ℕ
deciding reading so Always = []
deciding reading so (Compared r a b) = vars_in a ++ vars_in b
deciding reading so (IsIn v pieces) = v ∷ []
deciding reading so (Specified v) = v ∷ []
deciding reading so (Holds set text) = []
deciding reading so (Filled set) = []
deciding reading so (Not' p c) = deciding reading (not so) c
deciding reading so (And' p c q d) =
    let xs = deciding reading so c in let ys
    = deciding reading so d in both_or_first so (is_false (truth reading c)) xs ys
deciding reading so (Or' p c q d) =
    let xs = deciding reading so c in let ys
    = deciding reading so d in both_or_first (not so) (is_true (truth reading c)) xs ys

-- both say the same values of these variables
abbrev pub SameValues : Seen → Seen → List ℕ → Type 0
SameValues t s [] = Unit {0}
SameValues t s (v ∷ vs) = (t.value v ≡ s.value v) × SameValues t s vs
