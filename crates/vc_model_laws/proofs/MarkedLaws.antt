-- Some of the names that lines declare are marked: a name that isn't marked where it is declared is never.
use Rattle.std.proofs.Common.{◌≡◌, ℕ, zero, suc, Bool, true, false, ◌||◌, ◌⊎◌, inl, inr, List, [], ◌∷◌, ◌++◌, length}
use Rattle.std.proofs.Common.{map, Option, Some, None, if◌then◌else◌}
use Rattle.std.proofs.Common.{refl, sym, ap, subst, ◌∙◌, length-append, arith}
use Rattle.std.specs.Prelude.{slice_get}
use Rattle.std.proofs.lemmas.Bool.{or_cases, false_from_ne_true}
use Rattle.std.proofs.lemmas.List.Folds.{list_any-append}
use Rattle.std.specs.Cmp.Lexicographic.{bytes_decides}
use Rattle.vc_value.specs.Words.{same_bytes}
use Rattle.vc_model_lines.specs.declared.line.Line.{Line}
use Rattle.vc_model_scope.specs.Names.{is_among, with_name}
use Rattle.vc_model_scope.specs.Recursions.{declared, with_option}
use Rattle.vc_model_scope.specs.Scope.{scope_of}
use Rattle.vc_model_faults.specs.First.{backwards}
use Rattle.vc_model_laws.proofs.DeclaringLaws.{Adds}
use Rattle.vc_model_laws.proofs.IndicesLaws.{among_with, own_name}
use Rattle.vc_model_laws.proofs.Walks.{Passes, Sound, Stands, all_keep}

-- a name of a list with one more stood there, or is the one
pub among_cases : (names : List (List ℕ)) (other name : List ℕ) → is_among (with_name names other) name ≡ true
    → (is_among names name ≡ true) ⊎ (name ≡ other)
among_cases names other name h = by (is_among names other) h
  where
    by : (b : Bool) → is_among (if b then names else names ++ other ∷ []) name ≡ true
        → (is_among names name ≡ true) ⊎ (name ≡ other)
    by true h = inl h
    by false h = last (or_cases (is_among names name) (same_bytes name other || false)
        (sym (list_any-append (same_bytes name) names (other ∷ [])) ∙ h))
      where
        last : (is_among names name ≡ true) ⊎ ((same_bytes name other || false) ≡ true)
            → (is_among names name ≡ true) ⊎ (name ≡ other)
        last (inl there) = inl there
        last (inr same) = one (or_cases (same_bytes name other) false same)
          where
            one : (same_bytes name other ≡ true) ⊎ (false ≡ true) → (is_among names name ≡ true) ⊎ (name ≡ other)
            one (inl is) = inr ((bytes_decides name other).0 is)
            one (inr e) = absurd (cc)

-- a name that is added at the end wasn't there
no_longer : {X : Type 0} (xs : List X) (x : X) → xs ≡ xs ++ x ∷ [] → ⊥
no_longer xs x e = absurd (let n = ap length e in omega (arith, n, length-append xs (x ∷ [])))

pub added_new : (f : Line → Option (List ℕ)) (earlier : List Line) (name : List ℕ) → Adds f earlier (Some name)
    → is_among (declared f earlier) name ≡ false
added_new f earlier name h = by (is_among (declared f earlier) name) refl h
  where
    by : (b : Bool) → is_among (declared f earlier) name ≡ b
        → (if b then declared f earlier else declared f earlier ++ name ∷ []) ≡ declared f earlier ++ name ∷ []
        → is_among (declared f earlier) name ≡ false
    by true is e = absurd (no_longer (declared f earlier) name e)
    by false is e = is

-- a line marks the name that it declares, or none
abbrev pub Marks : (Line → Option (List ℕ)) → (Line → Option (List ℕ)) → Type 0
Marks f g = (line : Line) → (g line ≡ None) ⊎ (g line ≡ f line)

pub marked_declared : (f g : Line → Option (List ℕ)) → Marks f g → (earlier : List Line) (name : List ℕ)
    → is_among (declared g earlier) name ≡ true
    → is_among (declared f earlier) name ≡ true
marked_declared f g marks [] name h = absurd (cc)
marked_declared f g marks (line ∷ earlier) name h =
    by (marks line) (λ there. marked_declared f g marks earlier name there)
  where
    same : (o : Option (List ℕ)) → f line ≡ o
        → (is_among (declared g earlier) name ≡ true → is_among (declared f earlier) name ≡ true)
        → is_among (with_option with_name (declared g earlier) o) name ≡ true
        → is_among (with_option with_name (declared f earlier) o) name ≡ true
    same None is before there = before there
    same (Some other) is before there = either (among_cases (declared g earlier) other name there)
      where
        either : (is_among (declared g earlier) name ≡ true) ⊎ (name ≡ other)
            → is_among (with_name (declared f earlier) other) name ≡ true
        either (inl stood) = among_with (declared f earlier) (Some other) name (before stood)
        either (inr e) = subst (λ n. is_among (with_name (declared f earlier) other) n ≡ true) (sym e)
            (own_name (declared f earlier) other)

    by : (g line ≡ None) ⊎ (g line ≡ f line)
        → (is_among (declared g earlier) name ≡ true → is_among (declared f earlier) name ≡ true)
        → is_among (with_option with_name (declared f earlier) (f line)) name ≡ true
    by (inl none) before = among_with (declared f earlier) (f line) name
        (before (subst (λ o. is_among (with_option with_name (declared g earlier) o) name ≡ true) none h))
    by (inr e) before = same (f line) refl before
        (subst (λ o. is_among (with_option with_name (declared g earlier) o) name ≡ true) e h)

-- declared, but not marked
abbrev pub Unmarked : (Line → Option (List ℕ)) → (Line → Option (List ℕ)) → List ℕ → List Line → Type 0
Unmarked f g name earlier = (is_among (declared f earlier) name ≡ true) × (is_among (declared g earlier) name ≡ false)

pub unmarked_kept : (f g : Line → Option (List ℕ)) → Marks f g
    → ((earlier : List Line) (line : Line) (below : List Line) → Passes (scope_of earlier) line below
    → Adds f earlier (f line))
    → (name : List ℕ) (earlier : List Line) (line : Line) (below : List Line) → Passes (scope_of earlier) line below
    → Unmarked f g name earlier → Unmarked f g name (line ∷ earlier)
unmarked_kept f g marks adds name earlier line below p h =
    (among_with (declared f earlier) (f line) name h.0, by (marks line))
  where
    same : (o : Option (List ℕ)) → Adds f earlier o
        → is_among (with_option with_name (declared g earlier) o) name ≡ false
    same None added = h.1
    same (Some other) added = false_from_ne_true (is_among (with_name (declared g earlier) other) name)
        (λ there. either (among_cases (declared g earlier) other name there))
      where
        either : (is_among (declared g earlier) name ≡ true) ⊎ (name ≡ other) → ⊥
        either (inl stood) = let no = h.1 in cc
        either (inr e) = let no : is_among (declared f earlier) name ≡ false = ap (is_among (declared f earlier)) e
            ∙ added_new f earlier other added in let yes = h.0 in cc

    by : (g line ≡ None) ⊎ (g line ≡ f line)
        → is_among (with_option with_name (declared g earlier) (g line)) name ≡ false
    by (inl none) = ap (λ o. is_among (with_option with_name (declared g earlier) o) name) none ∙ h.1
    by (inr e) = ap (λ o. is_among (with_option with_name (declared g earlier) o) name) e
        ∙ same (f line) (adds earlier line below p)

-- what is unmarked above some lines is so among all
pub unmarked_all : (f g : Line → Option (List ℕ)) → Marks f g
    → ((earlier : List Line) (line : Line) (below : List Line) → Passes (scope_of earlier) line below
    → Adds f earlier (f line))
    → (all : List Line) (name : List ℕ) (earlier ls : List Line) → Sound earlier ls → backwards earlier ls ≡ all
    → Unmarked f g name earlier
    → is_among (declared g all) name ≡ false
unmarked_all f g marks adds all name earlier ls s e h =
    subst (λ ks. is_among (declared g ks) name ≡ false) e
    (all_keep (Unmarked f g name) (unmarked_kept f g marks adds name) earlier ls s h).1

-- a line that declares a name without a mark
pub line_unmarked : (f g : Line → Option (List ℕ)) → Marks f g
    → ((earlier : List Line) (line : Line) (below : List Line) → Passes (scope_of earlier) line below
    → Adds f earlier (f line))
    → (all earlier : List Line) (line : Line) (below : List Line) (name : List ℕ) → Stands all earlier line below
    → f line ≡ Some name → g line ≡ None
    → is_among (declared g all) name ≡ false
line_unmarked f g marks adds all earlier line below name s declares unmarked =
    let added : Adds f earlier (Some name) = subst (Adds f earlier) declares (adds earlier line below s.passes) in
    let new = added_new f earlier name added in
    let here : is_among (declared f (line ∷ earlier)) name ≡ true =
    ap (λ o. is_among (with_option with_name (declared f earlier) o) name) declares
    ∙ own_name (declared f earlier) name in
    let none : is_among (declared g earlier) name ≡ false =
    false_from_ne_true (is_among (declared g earlier) name)
    (λ there. let yes = marked_declared f g marks earlier name there in cc) in
    unmarked_all f g marks adds all name (line ∷ earlier) below s.after s.all_are
    (here, ap (λ o. is_among (with_option with_name (declared g earlier) o) name) unmarked ∙ none)

-- the thing of a number, and its name
pub thing_at : {X : Type 0} (key : X → List ℕ) (xs : List X) (k : ℕ) (name : List ℕ)
    → slice_get (map key xs) k ≡ Some name
    → (x : X) × (slice_get xs k ≡ Some x) × (key x ≡ name)
thing_at key [] k name e = absurd (cc)
thing_at key (x ∷ xs) zero name e = (x, refl, cc)
thing_at key (x ∷ xs) (suc k) name e = thing_at key xs k name e
