-- Names that stand twice, in lists that are joined.
use Rattle.std.proofs.Common.{◌≡◌, ℕ, suc, ◌+◌, ◌<◌, Bool, true, false, ◌||◌, List, [], ◌∷◌, ◌++◌, length, get_or, take}
use Rattle.std.proofs.Common.{drop, map, flat_map, refl, sym, ap, ◌∙◌, arith, Option, Some, None, is_some}
use Rattle.std.proofs.Common.{if◌then◌else◌}
use Rattle.std.proofs.Math.Seq.{take-suc}
use Rattle.std.proofs.lemmas.List.{map-append, take-append-drop}
use Rattle.std.proofs.lemmas.List.Folds.{list_any-append}
use Rattle.std.specs.List.{list_any}
use Rattle.std.specs.Option.{option_or}
use Rattle.std.specs.Str.{bytes_eq}
use Rattle.vc_model_parts.specs.declared.parts.Model.{Model}
use Rattle.vc_syntax_tree.specs.declared.Alias.{Alias}
use Rattle.vc_syntax_tree.specs.declared.Object.{Object}
use Rattle.vc_types.specs.Meanings.{alias_of, class_meant, variables_of, variables_of_object}
use Rattle.vc_types.specs.NameFaults.{some_twice}
use Rattle.vc_types_dependency.specs.DeclaredNames.{declared_names}

shuffle : (a b c d : Bool) → ((a || (b || false)) || (c || d)) ≡ ((a || c) || (b || d))
shuffle true b c d = refl
shuffle false true true d = refl
shuffle false true false d = refl
shuffle false false c d = refl

-- one more name stands twice with an earlier one
pub twice_push : (names : List (List ℕ)) (name : List ℕ)
    → some_twice (names ++ name ∷ []) ≡ (some_twice names || list_any (λ n. bytes_eq n name) names)
twice_push [] name = refl
twice_push (first ∷ names) name =
    ap (λ b. b || some_twice (names ++ name ∷ [])) (list_any-append (bytes_eq first) names (name ∷ []))
    ∙ ap (λ b. (list_any (bytes_eq first) names || (bytes_eq first name || false)) || b) (twice_push names name)
    ∙ shuffle (list_any (bytes_eq first) names) (bytes_eq first name) (some_twice names)
    (list_any (λ n. bytes_eq n name) names)

-- what stands twice in a front stands twice
front : (a b c d : Bool) → (c ≡ true → d ≡ true) → (a || c) ≡ true → ((a || b) || d) ≡ true
front true b c d more is = refl
front false true c d more is = refl
front false false c d more is = more is

pub twice_front : (names more : List (List ℕ)) → some_twice names ≡ true → some_twice (names ++ more) ≡ true
twice_front [] more is = absurd (cc is)
twice_front (first ∷ names) more is =
    ap (λ b. b || some_twice (names ++ more)) (list_any-append (bytes_eq first) names more)
    ∙ front (list_any (bytes_eq first) names) (list_any (bytes_eq first) more) (some_twice names)
    (some_twice (names ++ more)) (twice_front names more) is

-- the names that objects declare are those of their variables
join_names : (model : Model) (objects : List Object)
    → map (λ v. v.name) (variables_of model objects) ≡ flat_map declared_names objects
join_names model [] = refl
join_names model (object ∷ objects) =
    map-append (λ v. v.name) (variables_of_object model object) (variables_of model objects)
    ∙ ap (λ names. (object.variable.name ∷ names) ++ map (λ v. v.name) (variables_of model objects))
    (alias_names (class_meant model object.kind) object.aliases)
    ∙ ap (λ names. declared_names object ++ names) (join_names model objects)
  where
    alias_names : (class : _) (aliases : List Alias)
        → map (λ v. v.name) (map (alias_of model class) aliases) ≡ map (λ alias. alias.variable.name) aliases
    alias_names class [] = refl
    alias_names class (alias ∷ aliases) = ap (λ names. alias.variable.name ∷ names) (alias_names class aliases)

pub names_declared : (model : Model) (objects : List Object)
    → flat_map declared_names objects ≡ map (λ v. v.name) (variables_of model objects)
names_declared model objects = sym (join_names model objects)

-- a list's front with one more name
front_next : {X : Type 0} (xs : List X) (i : ℕ) (x : X) → i < length xs → x ≡ get_or xs i x
    → take (i + 1) xs ≡ take i xs ++ x ∷ []
front_next xs i x inside is = let next : i + 1
    ≡ suc i = omega arith in ap (λ n. take n xs) next ∙ take-suc xs i x inside ∙ ap (λ e. take i xs ++ e ∷ []) (sym is)

-- the next name stands twice with those so far
next_twice : {X : Type 0} (name_of : X → List ℕ) (xs : List X) (i : ℕ) (x : X) → i < length xs → x ≡ get_or xs i x
    → some_twice (map name_of (take (i + 1) xs))
    ≡ (some_twice (map name_of (take i xs)) || list_any (λ n. bytes_eq n (name_of x)) (map name_of (take i xs)))
next_twice name_of xs i x inside is =
    ap (λ front. some_twice (map name_of front)) (front_next xs i x inside is)
    ∙ ap some_twice (map-append name_of (take i xs) (x ∷ []))
    ∙ twice_push (map name_of (take i xs)) (name_of x)

or_is : (a b : Bool) → b ≡ true → (a || b) ≡ true
or_is true b is = refl
or_is false b is = is

-- a name that stood before makes the list have one twice
pub is_twice : {X : Type 0} (name_of : X → List ℕ) (xs : List X) (i : ℕ) (x : X) → i < length xs → x ≡ get_or xs i x
    → list_any (λ n. bytes_eq n (name_of x)) (map name_of (take i xs)) ≡ true → some_twice (map name_of xs) ≡ true
is_twice name_of xs i x inside is met =
    ap (λ list. some_twice (map name_of list)) (sym (take-append-drop (i + 1) xs))
    ∙ ap some_twice (map-append name_of (take (i + 1) xs) (drop (i + 1) xs))
    ∙ twice_front (map name_of (take (i + 1) xs)) (map name_of (drop (i + 1) xs))
    (next_twice name_of xs i x inside is
    ∙ or_is (some_twice (map name_of (take i xs))) (list_any (λ n. bytes_eq n (name_of x)) (map name_of (take i xs)))
    met)

none_is : (a b : Bool) → a ≡ false → b ≡ false → (a || b) ≡ false
none_is a b first second = ap (λ c. c || b) first ∙ second

-- one that didn't keeps the front without
pub still_once : {X : Type 0} (name_of : X → List ℕ) (xs : List X) (i : ℕ) (x : X) → i < length xs → x ≡ get_or xs i x
    → some_twice (map name_of (take i xs)) ≡ false
    → list_any (λ n. bytes_eq n (name_of x)) (map name_of (take i xs)) ≡ false
    → some_twice (map name_of (take (i + 1) xs)) ≡ false
still_once name_of xs i x inside is none new =
    next_twice name_of xs i x inside is
    ∙ none_is (some_twice (map name_of (take i xs))) (list_any (λ n. bytes_eq n (name_of x)) (map name_of (take i xs)))
    none new

some_or : {V : Type 0} (o : Option V) (b : Bool) (v : V)
    → is_some (option_or o (if b then Some v else None)) ≡ (is_some o || (b || false))
some_or None true v = refl
some_or None false v = refl
some_or (Some x) b v = refl

-- the names met, with one more
pub met_more : {X V : Type 0} (name_of : X → List ℕ) (xs : List X) (i : ℕ) (x : X) (name : List ℕ)
    (before after : Option V) (v : V)
    → i < length xs → x ≡ get_or xs i x → is_some before ≡ list_any (λ n. bytes_eq n name) (map name_of (take i xs))
    → after ≡ option_or before (if bytes_eq (name_of x) name then Some v else None)
    → is_some after ≡ list_any (λ n. bytes_eq n name) (map name_of (take (i + 1) xs))
met_more name_of xs i x name before after v inside is so_far added =
    ap is_some added ∙ some_or before (bytes_eq (name_of x) name) v
    ∙ ap (λ b. b || (bytes_eq (name_of x) name || false)) so_far
    ∙ sym (list_any-append (λ n. bytes_eq n name) (map name_of (take i xs)) (name_of x ∷ []))
    ∙ ap (list_any (λ n. bytes_eq n name)) (sym (map-append name_of (take i xs) (x ∷ [])))
    ∙ ap (λ front. list_any (λ n. bytes_eq n name) (map name_of front)) (sym (front_next xs i x inside is))
