-- What is put in two steps.
use Rattle.std.proofs.Common.{◌≡◌, ℕ, List, ◌++◌, ap, ◌∙◌, append_assoc}

pub onto : (old mid new a b : List ℕ) → mid ≡ old ++ a → new ≡ mid ++ b → new ≡ old ++ (a ++ b)
onto old mid new a b e f = f ∙ ap (λ text. text ++ b) e ∙ append_assoc old a b
