-- Lines without a fault, gone over from the first to the last, each with those before it and those below it.
use Rattle.std.proofs.Common.{◌≡◌, ℕ, suc, ◌+◌, ◌≤◌, Bool, true, false, cond, List, [], ◌∷◌, ◌++◌, length, map, take}
use Rattle.std.proofs.Common.{drop, option_to_list, Option, Some, None, if◌then◌else◌}
use Rattle.std.proofs.Common.{refl, sym, ap, ◌∙◌, append_assoc, append-nil, arith}
use Rattle.std.specs.Prelude.{option_map, find}
use Rattle.std.specs.List.{cons_option, list_all}
use Rattle.std.proofs.lemmas.Bool.{and_parts, and_from}
use Rattle.vc_model_lines.specs.declared.line.Line.{Line}
use Rattle.vc_model_scope.specs.Recursions.{declared, listed, with_option}
use Rattle.vc_model_scope.specs.Names.{with_name}
use Rattle.vc_model_scope.specs.Scope.{scope_of}
use Rattle.vc_model_scope.specs.declared.scope.Scope.{Scope}
use Rattle.vc_model_faults.specs.declared.fault.ModelFaultKind.TheVariants.{NoRoot}
use Rattle.vc_model_faults.specs.First.{backwards, kind_by, HasNoFault}
use Rattle.vc_model_faults.specs.Kinds.{stands, kinds, kind_at, is_too_long, is_no_form, lacks_values, is_mixed}
use Rattle.vc_model_faults.specs.Limits.{is_too_many}
use Rattle.vc_model_faults.specs.Misplaced.{is_misplaced}
use Rattle.vc_model_faults.specs.Misspelled.{is_misspelled}
use Rattle.vc_model_faults.specs.Readings.{is_unread}
use Rattle.vc_model_faults.specs.Twice.{is_twice}
use Rattle.vc_model_faults.specs.Unknown.{is_unknown, is_wrong}
use Rattle.vc_model_faults.specs.Values.{is_bad}
use Rattle.vc_model_drafts.specs.Models.{until, never}
use Rattle.vc_model_laws.proofs.Holding.{each}
use Rattle.vc_model_laws.proofs.LineForms.{is_formed}

-- a line has the shape of its form and no fault
pub record Passes (scope : Scope) (line : Line) (below : List Line) : Type 0 where
  pub formed : is_formed line ≡ true
  pub short : is_too_long line below ≡ false
  pub shaped : is_no_form line ≡ false
  pub placed : is_misplaced scope line below ≡ false
  pub spelled : is_misspelled line ≡ false
  pub once : is_twice scope line ≡ false
  pub known : is_unknown scope line ≡ false
  pub fit : is_bad scope line ≡ false
  pub read : is_unread line below ≡ false
  pub right : is_wrong scope line ≡ false
  pub valued : lacks_values line below ≡ false
  pub few : is_too_many scope line ≡ false
  pub unmixed : is_mixed line ≡ false

-- none of a list passes a test
abbrev NonePass : {X : Type 0} → (X → Bool) → List X → Type 0
NonePass p [] = Unit {0}
NonePass p (x ∷ xs) = (p x ≡ false) × NonePass p xs

none_found : {X : Type 0} (p : X → Bool) (x : X) (xs : List X) → find p (x ∷ xs) ≡ None
    → (p x ≡ false) × (find p xs ≡ None)
none_found p x xs e = by (p x) refl e
  where
    by : (b : Bool) → p x ≡ b → cond b (Some x) (find p xs) ≡ None → (p x ≡ false) × (find p xs ≡ None)
    by true is none = absurd (cc)
    by false is none = (is, none)

none_pass : {X : Type 0} (p : X → Bool) (xs : List X) → find p xs ≡ None → NonePass p xs
none_pass p [] e = tt
none_pass p (x ∷ xs) e = let here = none_found p x xs e in (here.0, none_pass p xs here.1)

passes_tests : (scope : Scope) (line : Line) (below : List Line) → is_formed line ≡ true
    → NonePass (stands scope line below) kinds → Passes scope line below
passes_tests scope line below formed none = record {
  formed = formed;
  short = none.1.0;
  shaped = none.1.1.0;
  placed = none.1.1.1.0;
  spelled = none.1.1.1.1.0;
  once = none.1.1.1.1.1.0;
  known = none.1.1.1.1.1.1.0;
  fit = none.1.1.1.1.1.1.1.0;
  read = none.1.1.1.1.1.1.1.1.0;
  right = none.1.1.1.1.1.1.1.1.1.0;
  valued = none.1.1.1.1.1.1.1.1.1.1.1.0;
  few = none.1.1.1.1.1.1.1.1.1.1.1.1.0;
  unmixed = none.1.1.1.1.1.1.1.1.1.1.1.1.1.1.0;
}

passes : (scope : Scope) (line : Line) (below : List Line) → is_formed line ≡ true → kind_at scope line below ≡ None
    → Passes scope line below
unfolding kind_at
passes scope line below formed none = passes_tests scope line below formed
    (none_pass (stands scope line below) kinds none)

-- no line behind others has a fault, and a ROOT stands above the end
abbrev pub Sound : List Line → List Line → Type 0
Sound earlier [] = (scope_of earlier).root ≡ true
Sound earlier (line ∷ below) = Passes (scope_of earlier) line below × Sound (line ∷ earlier) below

rooted : (root : Bool) → (if root then None else Some NoRoot) ≡ None → root ≡ true
rooted true e = refl
rooted false e = absurd (cc)

sound_behind : (earlier lines : List Line) → list_all is_formed lines ≡ true
    → ((place : ℕ) → place ≤ length lines → kind_by (backwards earlier (take place lines)) (drop place lines) ≡ None)
    → Sound earlier lines
sound_behind earlier [] formed none = rooted (scope_of earlier).root (none 0 (omega arith))
sound_behind earlier (line ∷ below) formed none =
    let f = and_parts (is_formed line) (list_all is_formed below) formed in (
      passes (scope_of earlier) line below f.0 (none 0 (omega arith)),
      sound_behind (line ∷ earlier) below f.1
          (λ place h. none (suc place) (omega (arith, h))),
    )

pub sound : (lines : List Line) → list_all is_formed lines ≡ true → HasNoFault lines → Sound [] lines
unfolding HasNoFault
sound lines formed none = sound_behind [] lines formed none

-- a line at its place among all lines, which are given from the last to the first
pub record Stands (all earlier : List Line) (line : Line) (below : List Line) : Type 0 where
  pub passes : Passes (scope_of earlier) line below
  pub after : Sound (line ∷ earlier) below
  pub all_are : backwards (line ∷ earlier) below ≡ all

-- what is kept from each line to the next is kept to the end
pub all_keep : (C : List Line → Type 0) → ((earlier : List Line) (line : Line) (below : List Line)
    → Passes (scope_of earlier) line below → C earlier → C (line ∷ earlier))
    → (earlier lines : List Line) → Sound earlier lines → C earlier → C (backwards earlier lines)
all_keep C step earlier [] s c = c
all_keep C step earlier (line ∷ below) s c = all_keep C step (line ∷ earlier) below s.1 (step earlier line below s.0 c)

-- what lines say each, up to one that ends it
abbrev pub said : {K : Type 0} → (Line → Bool) → (Line → Option K) → List Line → List K
said ends f [] = []
said ends f (line ∷ below) = if ends line then [] else cons_option (f line) (said ends f below)

one_more : {K : Type 0} (xs ys : List K) (o : Option K) → (xs ++ option_to_list o) ++ ys ≡ xs ++ cons_option o ys
one_more xs ys None = ap (λ l. l ++ ys) (append-nil xs)
one_more xs ys (Some x) = append_assoc xs (x ∷ []) ys

-- what is kept from each line to the next is kept to the one that ends a list, and the list is what these lines say
pub until_keeps : {K : Type 0} (add : List K → K → List K) (ends : Line → Bool) (f : Line → Option K)
    (C : List Line → Type 0)
    → ((earlier : List Line) (line : Line) (below : List Line) → Passes (scope_of earlier) line below
    → ends line ≡ false → C earlier → C (line ∷ earlier))
    → ((earlier : List Line) (line : Line) (below : List Line) → Passes (scope_of earlier) line below
    → ends line ≡ false → C earlier
    → with_option add (listed add ends f earlier) (f line) ≡ listed add ends f earlier ++ option_to_list (f line))
    → (earlier lines : List Line) → Sound earlier lines → C earlier
    → (last : List Line) × C last × (listed add ends f last ≡ listed add ends f earlier ++ said ends f lines)
until_keeps add ends f C step adds earlier [] s c = (earlier, c, sym (append-nil (listed add ends f earlier)))
until_keeps {K = K} add ends f C step adds earlier (line ∷ below) s c =
    by (ends line) refl (λ going. until_keeps add ends f C step adds (line ∷ earlier) below s.1
    (step earlier line below s.0 going c))
  where
    by : (b : Bool) → ends line ≡ b
        → (ends line ≡ false → (last : List Line) × C
        last × (listed add ends f last ≡ listed add ends f (line ∷ earlier) ++ said ends f below))
        → (last : List Line) × C last × (listed add ends f last ≡ listed add ends f
        earlier ++ (if b then [] else cons_option (f line) (said ends f below)))
    by true is more = (earlier, c, sym (append-nil (listed add ends f earlier)))
    by false is more =
        let found = more is in
        let here : listed add ends f (line ∷ earlier) ≡ listed add ends f earlier ++ option_to_list (f line) =
        ap (λ b. if b then [] else with_option add (listed add ends f earlier) (f line)) is
        ∙ adds earlier line below s.0 is c in (
          found.0,
          found.1,
          found.2 ∙ ap (λ l. l ++ said ends f below) here
              ∙ one_more (listed add ends f earlier) (said ends f below) (f line),
        )

-- the names that all lines declare, where none declares one again
pub declared_is : (f : Line → Option (List ℕ))
    → ((earlier : List Line) (line : Line) (below : List Line) → Passes (scope_of earlier) line below
    → with_option with_name (declared f earlier) (f line) ≡ declared f earlier ++ option_to_list (f line))
    → (earlier lines : List Line) → Sound earlier lines
    → declared f (backwards earlier lines) ≡ declared f earlier ++ said never f lines
declared_is f adds earlier [] s = sym (append-nil (declared f earlier))
declared_is f adds earlier (line ∷ below) s =
    declared_is f adds (line ∷ earlier) below s.1
    ∙ ap (λ l. l ++ said never f below) (adds earlier line below s.0)
    ∙ one_more (declared f earlier) (said never f below) (f line)

-- what lines say, seen by a part of it
map_option : {X K : Type 0} (key : X → K) (o : Option X) (xs : List X)
    → map key (cons_option o xs) ≡ cons_option (option_map key o) (map key xs)
map_option key None xs = refl
map_option key (Some x) xs = refl

pub until_maps : {X K N : Type 0} (ends : Line → Bool) (say : ℕ → Line → List Line → Option X) (key : X → N)
    (f : Line → Option K) (g : K → N)
    → ((earlier : List Line) (number : ℕ) (line : Line) (below : List Line) → Passes (scope_of earlier) line below
    → option_map key (say number line below) ≡ option_map g (f line))
    → (earlier : List Line) (number : ℕ) (lines : List Line) → Sound earlier lines
    → map key (until ends say number lines) ≡ map g (said ends f lines)
until_maps ends say key f g same earlier number [] s = refl
until_maps {N = N} ends say key f g same earlier number (line ∷ below) s =
    by (ends line) (until_maps ends say key f g same (line ∷ earlier) (number + 1) below s.1)
  where
    by : (b : Bool) → map key (until ends say (number + 1) below) ≡ map g (said ends f below)
        → map key (if b then [] else cons_option (say number line below) (until ends say (number + 1) below))
        ≡ map g (if b then [] else cons_option (f line) (said ends f below))
    by true rest = refl
    by false rest =
        map_option key (say number line below) (until ends say (number + 1) below)
        ∙ ap (λ o. cons_option o (map key (until ends say (number + 1) below))) (same earlier number line below s.0)
        ∙ ap (cons_option (option_map g (f line))) rest ∙ sym (map_option g (f line) (said ends f below))

-- what passes a test where lines say it passes it in the list
with_passing : {X : Type 0} (test : X → Bool) (o : Option X) (xs : List X) → each test o ≡ true
    → list_all test xs ≡ true → list_all test (cons_option o xs) ≡ true
with_passing test None xs h g = g
with_passing test (Some x) xs h g = and_from (test x) (list_all test xs) h g

pub each_said : {X : Type 0} (ends : Line → Bool) (say : ℕ → Line → List Line → Option X) (test : X → Bool)
    (all : List Line)
    → ((earlier : List Line) (number : ℕ) (line : Line) (below : List Line) → Stands all earlier line below
    → each test (say number line below) ≡ true)
    → (earlier : List Line) (number : ℕ) (lines : List Line) → Sound earlier lines → backwards earlier lines ≡ all
    → list_all test (until ends say number lines) ≡ true
each_said ends say test all holds earlier number [] s a = refl
each_said ends say test all holds earlier number (line ∷ below) s a =
    by (ends line) (each_said ends say test all holds (line ∷ earlier) (number + 1) below s.1 a)
  where
    by : (b : Bool) → list_all test (until ends say (number + 1) below) ≡ true
        → list_all test (if b then [] else cons_option (say number line below) (until ends say (number + 1) below))
        ≡ true
    by true rest = refl
    by false rest =
        with_passing test (say number line below) (until ends say (number + 1) below)
        (holds earlier number line below (record { passes = s.0; after = s.1; all_are = a })) rest

-- the same, where something is kept from each line to the next
pub each_under : {X : Type 0} (ends : Line → Bool) (say : ℕ → Line → List Line → Option X) (test : X → Bool)
    (all : List Line) (C : List Line → Type 0)
    → ((earlier : List Line) (line : Line) (below : List Line) → Passes (scope_of earlier) line below
    → ends line ≡ false → C earlier → C (line ∷ earlier))
    → ((earlier : List Line) (number : ℕ) (line : Line) (below : List Line) → Stands all earlier line below → C earlier
    → each test (say number line below) ≡ true)
    → (earlier : List Line) (number : ℕ) (lines : List Line) → Sound earlier lines → backwards earlier lines ≡ all
    → C earlier
    → list_all test (until ends say number lines) ≡ true
each_under ends say test all C step holds earlier number [] s a c = refl
each_under ends say test all C step holds earlier number (line ∷ below) s a c =
    by (ends line) refl (λ going. each_under ends say test all C step holds (line ∷ earlier) (number + 1) below s.1 a
    (step earlier line below s.0 going c))
  where
    by : (b : Bool) → ends line ≡ b → (ends line ≡ false → list_all test (until ends say (number + 1) below) ≡ true)
        → list_all test (if b then [] else cons_option (say number line below) (until ends say (number + 1) below))
        ≡ true
    by true is rest = refl
    by false is rest =
        with_passing test (say number line below) (until ends say (number + 1) below)
        (holds earlier number line below (record { passes = s.0; after = s.1; all_are = a }) c) (rest is)
