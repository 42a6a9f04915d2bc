-- Laws of what is written in pieces.
use Rattle.std.proofs.Common.{ℕ, List, ◌++◌, sym, ap, ◌∙◌, append_assoc, Option, Result, Ok, Err, OnErr}
use Rattle.std.specs.Io.KnownBytes.{Appends}
use Rattle.std.proofs.KnownBytes.{Appends-trans}
use Rattle.vc_outside.specs.Sinks.{AppendsFront}

-- a front of the first piece is a front of both
pub front_of_first : (old new : Option (List ℕ)) (first second : List ℕ) → AppendsFront old new first
    → AppendsFront old new (first ++ second)
front_of_first old new first second f =
    (f.0, f.1 ++ second, ap (λ bytes. bytes ++ second) f.2 ∙ append_assoc f.0 f.1 second, f.3)

-- the first piece and a front of the second are a front of both
pub front_of_second : (old between new : Option (List ℕ)) (first second : List ℕ) → Appends old between first
    → AppendsFront between new second → AppendsFront old new (first ++ second)
front_of_second old between new first second a f = (
  first ++ f.0,
  f.1,
  ap (λ bytes. first ++ bytes) f.2
      ∙ sym (append_assoc first f.0 f.1),
  Appends-trans old between new first f.0 a f.3,
)

-- what holds at all holds after an error
pub on_err : {T E P : Type 0} (r : Result T E) → P → OnErr r P
on_err (Ok x) p = tt
on_err (Err e) p = p
