-- Premises cited in turn, each once.
use Rattle.std.specs.Prelude.{◌||◌, if◌then◌else◌, List, [], ◌∷◌, ◌++◌}
use Rattle.vc_base.specs.Sets.{has}
use Rattle.vc_plan.specs.declared.atoms.Atom.{Atom}
use Rattle.vc_plan.specs.declared.atoms.Atom.TheVariants.{Here}
use Rattle.vc_plan.specs.Seen.{same_atom}

-- with one more, where it isn't there yet and isn't that the root is here
abbrev pub cited_with : List Atom → Atom → List Atom
cited_with cites a = if same_atom (Here 0) a || has same_atom cites a then cites else cites ++ a ∷ []

-- with each of the atoms in turn
abbrev pub cited_onto : List Atom → List Atom → List Atom
cited_onto cites [] = cites
cited_onto cites (a ∷ more) = cited_onto (cited_with cites a) more

-- each atom of the list once, in order, but for that the root is here
abbrev pub cited_once : List Atom → List Atom
cited_once premises = cited_onto [] premises
