-- The links of a door, as it may tell them.
use Rattle.std.specs.Prelude.{◌≡◌, ℕ, List, [], ◌∷◌, ◌++◌, Option, Some, option_map, Result, Ok, Err}
use Rattle.vc_outside.specs.declared.fault.Failed.{Failed}

-- where a door listens after a call: at this address, or, after an error, where it did before
abbrev pub Listens : Option (List ℕ) → Option (List ℕ) → List ℕ → Result Unit Failed → Type 0
Listens before now address (Ok done) = now ≡ Some address
Listens before now address (Err failed) = now ≡ before

-- the first of the links to come is taken; after an error they are as before
abbrev pub Takes : {C : Type 0} → Option (List C) → Option (List C) → Result C Failed → Type 0
Takes before now (Ok link) = before ≡ option_map (λ links. link ∷ links) now
Takes before now (Err failed) = now ≡ before

-- a link is behind those that are done
abbrev pub Finishes : {C : Type 0} → Option (List C) → Option (List C) → C → Type 0
Finishes before now link = now ≡ option_map (λ links. links ++ link ∷ []) before
