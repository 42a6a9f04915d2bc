-- A machine that writes bytes, over a whole list of items.
use Rattle.std.specs.Prelude.{◌≡◌, ℕ, List, [], ◌∷◌, ◌++◌}

-- from a state the items, one after another, write these bytes and leave that state
abbrev pub Run : {State Item : Type 0} → (State → Item → List ℕ → State → Type 0) → State → List Item → List ℕ → State
    → Type 0
Run step state [] bytes next = (bytes ≡ []) × (next ≡ state)
Run {State = State} step state (item ∷ items) bytes next =
    (between : State) × (first : List ℕ) × (later : List ℕ)
    × step state item first between × (bytes ≡ first ++ later) × Run step between items later next
