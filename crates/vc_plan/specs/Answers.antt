-- What answers of rules are put together from.
use Rattle.std.specs.Prelude.{ℕ, Bool, true, false, not, if◌then◌else◌, List, [], ◌∷◌, ◌++◌, slice_get, Option, None}
use Rattle.std.specs.Prelude.{Some}
use Rattle.std.specs.List.{filter}
use Rattle.vc_base.specs.Rounds.{Given, clash, atoms}
use Rattle.vc_value.specs.declared.value.Value.{Value}
use Rattle.vc_plan.specs.declared.atoms.Atom.{Atom}
use Rattle.vc_plan.specs.declared.atoms.Atom.TheVariants.{Is}
use Rattle.vc_plan.specs.declared.conditions.Kleene.{Kleene}
use Rattle.vc_plan.specs.declared.conditions.Piece.{Piece}
use Rattle.vc_plan.specs.declared.plans.Plan.{Plan}
use Rattle.vc_plan.specs.Domains.{grains_of}
use Rattle.vc_plan.specs.Kleene.{is_false}
use Rattle.vc_plan.specs.Pieces.{one_value}
use Rattle.vc_plan.specs.Seen.{Seen, says}

-- nothing
abbrev pub nothing : Given Atom
nothing = atoms []

-- a clash where the test holds, else the answer
abbrev pub clash_if : Bool → Given Atom → Given Atom
clash_if test given = if test then clash else given

-- a clash where the truth is False, else the answer
abbrev pub clash_if_false : Kleene → Given Atom → Given Atom
clash_if_false k given = clash_if (is_false k) given

-- both answers, where a clash of either is the clash
abbrev pub beside : Given Atom → Given Atom → Given Atom
beside clash second = clash
beside (atoms xs) clash = clash
beside (atoms xs) (atoms ys) = atoms (xs ++ ys)

-- the answers for all of a list
abbrev pub gathered : {X : Type 0} → (X → Given Atom) → List X → Given Atom
gathered f [] = atoms []
gathered f (x ∷ xs) = beside (f x) (gathered f xs)

-- the answer without what is said already
abbrev pub fresh : Seen → Given Atom → Given Atom
fresh seen clash = clash
fresh seen (atoms xs) = atoms (filter (λ a. not (says seen a)) xs)

-- the variable's value, if there is one
abbrev pub value_atoms : ℕ → Option Value → List Atom
value_atoms v None = []
value_atoms v (Some a) = Is v a ∷ []

-- the value of a grain that has one alone
abbrev pub value_of_piece : Option Piece → Option Value
value_of_piece None = None
value_of_piece (Some piece) = one_value piece

abbrev pub only_value : Plan → ℕ → ℕ → Option Value
only_value plan v g = value_of_piece (slice_get (grains_of plan v) g)

-- of these grains of the variable, if there is one alone, its value, if it has one alone
abbrev pub last_atoms : Plan → ℕ → List ℕ → List Atom
last_atoms plan v [] = []
last_atoms plan v (g ∷ []) = value_atoms v (only_value plan v g)
last_atoms plan v (g ∷ (h ∷ more)) = []

-- whether there is none
abbrev pub is_nothing : List ℕ → Bool
is_nothing [] = true
is_nothing (g ∷ gs) = false
