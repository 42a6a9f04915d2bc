-- Files by name, as a shelf may tell them.
use Rattle.std.specs.Prelude.{◌≡◌, ℕ, Bool, ◌<◌, List, [], ◌∷◌, length, ⊤, Option, Some, None, IsSome, if◌then◌else◌}
use Rattle.std.specs.Option.{IsSomeAnd}
use Rattle.std.specs.Str.{bytes_eq}
use Rattle.vc_outside.specs.declared.shelf.Found.{Found}
use Rattle.vc_outside.specs.declared.shelf.Found.TheVariants.{There, Missing}

-- a name and what its file holds
abbrev pub File : Type 0
File = List ℕ × List ℕ

abbrev pub Files : Type 0
Files = List File

-- what the first file of this name holds
abbrev pub content_of : Files → List ℕ → Option (List ℕ)
content_of [] name = None
content_of (file ∷ files) name = if bytes_eq file.0 name then Some file.1 else content_of files name

-- files that are told hold this content under the name
abbrev pub Holds : Option Files → List ℕ → List ℕ → Type 0
Holds None name content = ⊤
Holds (Some files) name content = content_of files name ≡ Some content

-- files that are told have none of this name
abbrev pub Lacks : Option Files → List ℕ → Type 0
Lacks None name = ⊤
Lacks (Some files) name = content_of files name ≡ None

-- files that are told hold more bytes under the name than the limit
abbrev pub Exceeds : ℕ → Option Files → List ℕ → Type 0
Exceeds limit None name = ⊤
Exceeds limit (Some files) name = IsSomeAnd (content_of files name) (λ content. limit < length content)

-- a file that is there is begun with all of its bytes left, and one that is missing is none of the files
abbrev pub Begins : Option Files → List ℕ → Found → Option (List ℕ) → Type 0
Begins None name found left = ⊤
Begins (Some files) name There left = IsSome left × (content_of files name ≡ left)
Begins (Some files) name Missing left = content_of files name ≡ None

-- what every shelf over the file system says: whether a file is begun, and the count of faults
pub record EdgeState : Type 0 where
  pub begun : Bool
  pub faults : ℕ
