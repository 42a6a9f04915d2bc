-- Names as they are declared.
use Rattle.std.specs.Prelude.{ℕ, List, ◌∷◌, map}
use Rattle.std.proofs.Common.{Bor}
use Rattle.vc_syntax_tree.specs.declared.NameLeaf.{NameLeaf}
use Rattle.vc_syntax_tree.specs.declared.Object.{Object}

abbrev pub name_seen : Bor NameLeaf → List ℕ
name_seen leaf = (leaf.now).name

abbrev pub names_seen : List (Bor NameLeaf) → List (List ℕ)
names_seen leaves = map name_seen leaves

-- the variables that an object declares
abbrev pub declared_names : Object → List (List ℕ)
declared_names object = object.variable.name ∷ map (λ alias. alias.variable.name) object.aliases
