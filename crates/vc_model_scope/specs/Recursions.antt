-- What the lines before a line say, the nearest of them first.
use Rattle.std.specs.Prelude.{ℕ, Bool, false, ◌||◌, List, [], ◌∷◌, ◌++◌, Option, Some, None, unwrap_or, if◌then◌else◌}
use Rattle.vc_model_lines.specs.declared.line.Line.{Line}
use Rattle.vc_model_scope.specs.Names.{with_name}

-- one of the lines passes the test
abbrev pub some_line : (Line → Bool) → List Line → Bool
some_line test [] = false
some_line test (line ∷ earlier) = test line || some_line test earlier

-- what the nearest line says that says something, or else the first
abbrev pub last_said : {X : Type 0} → X → (Line → Option X) → List Line → X
last_said none say [] = none
last_said none say (line ∷ earlier) = unwrap_or (say line) (last_said none say earlier)

-- a list with what is added to it, if there is something
abbrev pub with_option : {X : Type 0} → (List X → X → List X) → List X → Option X → List X
with_option add xs None = xs
with_option add xs (Some x) = add xs x

-- an element at the end
abbrev pub with_last : {X : Type 0} → List X → X → List X
with_last xs x = xs ++ x ∷ []

-- the names that the lines declare, in the order of the text
abbrev pub declared : (Line → Option (List ℕ)) → List Line → List (List ℕ)
declared name [] = []
declared name (line ∷ earlier) = with_option with_name (declared name earlier) (name line)

-- what is listed since the nearest line that ends the list, in the order of the text
abbrev pub listed : {X : Type 0} → (List X → X → List X) → (Line → Bool) → (Line → Option X) → List Line → List X
listed add ends item [] = []
listed add ends item (line ∷ earlier) = if ends line
    then [] else with_option add (listed add ends item earlier) (item line)
