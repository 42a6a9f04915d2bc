-- The first fault, found line by line, is the one of the whole list.
use Rattle.std.proofs.Common.{◌≡◌, ℕ, zero, suc, ◌+◌, ◌-◌, ◌<◌, ◌≤◌, Bool, List, [], ◌∷◌, ◌++◌, length, get_or, take}
use Rattle.std.proofs.Common.{drop, option_to_list, Option, Some, None, if◌then◌else◌, refl, sym, ap, ◌∙◌, arith}
use Rattle.vc_model_lines.specs.declared.line.Line.{Line}
use Rattle.std.proofs.lemmas.Grind.{common_steps}
use Rattle.vc_model_scope.specs.Scope.{scope_of, with_line}
use Rattle.vc_model_scope.proofs.ScopeLaws.{scope-more}
use Rattle.vc_model_scope.specs.declared.scope.Scope.{Scope}
use Rattle.vc_model_faults.specs.declared.fault.ModelFaultKind.{ModelFaultKind}
use Rattle.vc_model_faults.specs.declared.fault.ModelFaultKind.TheVariants.{NoRoot}
use Rattle.vc_model_faults.specs.Kinds.{kind_at}
use Rattle.vc_model_faults.specs.First.{backwards, readings_of, kind_by, IsFirstFault, HasNoFault}
use Rattle.vc_model_faults.specs.Readings.{Reading, reading}

abbrev pub Fault : Type 0
Fault = ModelFaultKind × ℕ

-- a fault at the line of this number, or else one of those behind it
abbrev pub fault_or : ℕ → Option ModelFaultKind → Option Fault → Option Fault
fault_or number None later = later
fault_or number (Some kind) later = Some (kind, number)

-- the first fault of lines, of which the first has this number, where those before them are given from the nearest on
abbrev pub first_fault : ℕ → List Line → List Line → Option Fault
first_fault number earlier [] = fault_or number (kind_by earlier []) None
first_fault number earlier (line ∷ after) =
    fault_or number (kind_at (scope_of earlier) line after) (first_fault (number + 1) (line ∷ earlier) after)

-- the kind at a place of the lines behind others
abbrev pub kind_behind : List Line → List Line → ℕ → Option ModelFaultKind
kind_behind earlier lines place = kind_by (backwards earlier (take place lines)) (drop place lines)

none_here : (number : ℕ) (here : Option ModelFaultKind) (later : Option Fault) → fault_or number here later ≡ None
    → (here ≡ None) × (later ≡ None)
none_here number None later e = (refl, e)
none_here number (Some kind) later e = absurd (cc)

none_behind : (number : ℕ) (earlier lines : List Line) → first_fault number earlier lines ≡ None → (place : ℕ)
    → place ≤ length lines → kind_behind earlier lines place ≡ None
none_behind number earlier [] e zero inside = (none_here number (kind_by earlier []) None e).0
none_behind number earlier [] e (suc place) inside = absurd (omega arith)
none_behind number earlier (line ∷ after) e zero inside =
    (none_here number (kind_at (scope_of earlier) line after) (first_fault (number + 1) (line ∷ earlier) after) e).0
none_behind number earlier (line ∷ after) e (suc place) inside =
    none_behind (number + 1) (line ∷ earlier) after
    ((none_here number (kind_at (scope_of earlier) line after) (first_fault (number + 1) (line ∷ earlier) after)
    e).1) place (omega arith)

-- where no fault is found, none stands
pub no_fault : (lines : List Line) → first_fault 1 [] lines ≡ None → HasNoFault lines
unfolding HasNoFault
no_fault lines e = none_behind 1 [] lines e

-- the first fault behind other lines
abbrev IsFirstBehind : List Line → List Line → ModelFaultKind → ℕ → ℕ → Type 0
IsFirstBehind earlier lines kind number found =
    (place : ℕ) × (place ≤ length lines) × (found ≡ number + place) × (kind_behind earlier lines place ≡ Some kind)
    × ((before : ℕ) → before < place → kind_behind earlier lines before ≡ None)

none_below : (n : ℕ) → 0 ≤ n
none_below n = omega arith

plus_zero : (m n : ℕ) → m ≡ n → m ≡ n + 0
plus_zero m n e = omega arith

no_less : (n : ℕ) → n < 0 → ⊥
no_less n h = omega arith

some_here : (number : ℕ) (here : Option ModelFaultKind) (kind : ModelFaultKind) (found : ℕ)
    → fault_or number here None ≡ Some (kind, found) → (here ≡ Some kind) × (found ≡ number)
some_here number None kind found e = absurd (cc)
some_here number (Some other) kind found e =
    let here : Fault = (other, number) in
    let there : Fault = (kind, found) in
    let same : here ≡ there = cc in (ap (λ f. Some f.0) same, sym (ap (λ f. f.1) same))

first_behind : (number : ℕ) (earlier lines : List Line) (kind : ModelFaultKind) (found : ℕ)
    → first_fault number earlier lines ≡ Some (kind, found) → IsFirstBehind earlier lines kind number found
first_behind number earlier [] kind found e =
    let p : (kind_by earlier [] ≡ Some kind) × (found ≡ number) = some_here number (kind_by earlier []) kind found e in
    (0, omega arith, omega (arith, p.1), p.0, λ before h. absurd (omega arith))
first_behind number earlier (line ∷ after) kind found e =
    by (kind_at (scope_of earlier) line after) refl e
    (λ f. first_behind (number + 1) (line ∷ earlier) after kind found f)
  where
    later : (place : ℕ) → kind_at (scope_of earlier) line after ≡ None
        → ((before : ℕ) → before < place → kind_behind (line ∷ earlier) after before ≡ None)
        → (before : ℕ) → before < suc place → kind_behind earlier (line ∷ after) before ≡ None
    later place here none zero h = here
    later place here none (suc before) h = none before (omega arith)

    by : (here : Option ModelFaultKind) → kind_at (scope_of earlier) line after ≡ here
        → fault_or number here (first_fault (number + 1) (line ∷ earlier) after) ≡ Some (kind, found)
        → (first_fault (number + 1) (line ∷ earlier) after ≡ Some (kind, found)
        → IsFirstBehind (line ∷ earlier) after kind (number + 1) found)
        → IsFirstBehind earlier (line ∷ after) kind number found
    by None is f behind =
        let p : IsFirstBehind (line ∷ earlier) after kind (number + 1) found = behind f in
        (suc p.0, omega (arith, p.1), omega (arith, p.2), p.3, later p.0 is p.4)
    by (Some other) is f behind =
        let p : (Some other ≡ Some kind) × (found ≡ number) = some_here number (Some other) kind found f in (
          0,
          none_below (length (line ∷ after)),
          plus_zero found number p.1,
          is
              ∙ p.0,
          λ before h. absurd (no_less before h),
        )

-- the fault that is found is the first
pub is_first : (lines : List Line) (kind : ModelFaultKind) (found : ℕ) → first_fault 1 [] lines ≡ Some (kind, found)
    → IsFirstFault lines kind found
unfolding IsFirstFault
is_first lines kind found e =
    let p : IsFirstBehind [] lines kind 1 found = first_behind 1 [] lines kind found e in
    (p.0, p.1, omega (arith, p.2), p.3, p.4)

tail_of : {X : Type 0} (x : X) (xs : List X) → take (length (x ∷ xs) - 1) (drop 1 (x ∷ xs)) ≡ xs
tail_of x xs = grind (arith, common_steps)

-- what a pattern of a first line and more leaves
pub split : (rest : List Line) (line : Line) → 1 ≤ length rest → line ≡ get_or rest 0 line
    → rest ≡ line ∷ take (length rest - 1) (drop 1 rest)
split [] line h is = absurd (omega arith)
split (first ∷ more) line h is = ap (λ l. l ∷ more) (sym is) ∙ ap (λ t. line ∷ t) (sym (tail_of first more))

-- the loop went over a line without a fault
pub passed : (number : ℕ) (earlier rest all after : List Line) (line : Line) (old new : Scope)
    (kept more : List Reading) → rest ≡ line ∷ after
    → (old ≡ scope_of earlier) × (kept ≡ readings_of earlier rest) × (backwards earlier rest ≡ backwards [] all)
    × (first_fault number earlier rest ≡ first_fault 1 [] all)
    → kind_at old line after ≡ None → new ≡ with_line old line → more ≡ kept ++ option_to_list (reading line after)
    → (new ≡ scope_of (line ∷ earlier)) × (more ≡ readings_of (line ∷ earlier) after)
    × (backwards (line ∷ earlier) after ≡ backwards [] all)
    × (first_fault (number + 1) (line ∷ earlier) after ≡ first_fault 1 [] all)
passed number earlier rest all after line old new kept more e so_far none extended added =
    let behind = first_fault (number + 1) (line ∷ earlier) after in
    let here : kind_at (scope_of earlier) line after ≡ None = sym (ap (λ s. kind_at s line after) so_far.0) ∙ none in (
      extended ∙ ap (λ s. with_line s line) so_far.0 ∙ sym (scope-more line earlier),
      added ∙ ap (λ ts. ts ++ option_to_list (reading line after)) (so_far.1 ∙ ap (readings_of earlier) e),
      sym (ap (backwards earlier) e) ∙ so_far.2,
      sym (ap (λ k. fault_or number k behind) here) ∙ sym (ap (first_fault number earlier) e) ∙ so_far.3,
    )

-- the loop met a fault
pub met : (number : ℕ) (earlier rest all after : List Line) (line : Line) (old : Scope) (kind : ModelFaultKind)
    → rest ≡ line ∷ after
    → old ≡ scope_of earlier → first_fault number earlier rest ≡ first_fault 1 [] all
    → kind_at old line after ≡ Some kind → IsFirstFault all kind number
met number earlier rest all after line old kind e is found stands =
    let behind = first_fault (number + 1) (line ∷ earlier) after in
    let here : kind_at (scope_of earlier) line after ≡ Some kind = sym (ap (λ a. kind_at a line after) is) ∙ stands in
    is_first all kind number (sym found ∙ ap (first_fault number earlier) e ∙ ap (λ k. fault_or number k behind) here)

-- the loop came to the end
pub ended : (number : ℕ) (earlier rest all : List Line) (old : Scope) (root : Bool) → rest ≡ []
    → old ≡ scope_of earlier → first_fault number earlier rest ≡ first_fault 1 [] all → old.root ≡ root
    → first_fault 1 [] all ≡ fault_or number (if root then None else Some NoRoot) None
ended number earlier rest all old root e is found rooted =
    sym found ∙ ap (first_fault number earlier) e
    ∙ ap (λ r. fault_or number (if r then None else Some NoRoot) None) (sym (ap (λ a. a.root) is) ∙ rooted)
