-- How many rules a constraint has at its tuples.
use Rattle.std.proofs.Common.{◌≡◌, ℕ, suc, ◌+◌, ◌<◌, ◌≤◌, ◌==◌, Bool, true, false, List, [], ◌∷◌, ◌++◌, drop, get_or}
use Rattle.std.proofs.Common.{length, map, refl, ap, ◌∙◌, arith, flat_map, length-append, Option, None, Some, IfSome}
use Rattle.std.proofs.Common.{IfNone}
use Rattle.std.proofs.Math.Seq.{drop-cons}
use Rattle.std.proofs.lemmas.Bool.Decides.{nat_tests}
use Rattle.vc_model_parts.specs.declared.parts.Model.{Model}
use Rattle.vc_plan.specs.declared.plans.Slot.{Slot}
use Rattle.vc_syntax_tree.specs.Trees.{Constraint}
use Rattle.vc_compile_plan.specs.Layouts.{Layout, layout_over}
use Rattle.vc_compile_plan.specs.Rules.{Draft, restriction_drafts}
use Rattle.vc_compile_plan.specs.Tuples.{tuples_of}
use Rattle.vc_compile_plan.specs.Uses.{active_constraints}
use Rattle.vc_compile_rules.proofs.RuleLemmas.{restrictions_are_counted}

abbrev pub drafts_at : Layout → ℕ → Constraint → List ℕ → List Draft
drafts_at layout d constraint tuple = restriction_drafts layout d constraint tuple 1 constraint.restrictions

-- without restrictions there are none
pub none_at : (layout : Layout) (d : ℕ) (constraint : Constraint) (tuples : List (List ℕ))
    → constraint.restrictions ≡ []
    → flat_map (drafts_at layout d constraint) tuples ≡ []
none_at layout d constraint [] is = refl
none_at layout d constraint (tuple ∷ tuples) is =
    ap (λ restrictions. restriction_drafts layout d constraint tuple 1 restrictions
    ++ flat_map (drafts_at layout d constraint) tuples) is
    ∙ none_at layout d constraint tuples is

-- with some, each tuple has one at least
pub some_at : (layout : Layout) (d : ℕ) (constraint : Constraint) (tuples : List (List ℕ))
    → 0 < length constraint.restrictions
    → length tuples ≤ length (flat_map (drafts_at layout d constraint) tuples)
some_at layout d constraint [] some = omega arith
some_at layout d constraint (tuple ∷ tuples) some =
    let counted = restrictions_are_counted layout d constraint tuple 1 constraint.restrictions in
    let rest = some_at layout d constraint tuples some in
    let parts = length-append (drafts_at layout d constraint tuple) (flat_map (drafts_at layout d constraint) tuples) in
    omega (arith, some)

-- tuples and active constraints hang on the model and its slots alone
pub same_tuples : (layout : Layout) (model : Model) (slots : List Slot) (constraint : Constraint) → model ≡ layout.model
    → slots ≡ layout.slots
    → tuples_of (layout_over model layout.standings slots) constraint ≡ tuples_of layout constraint
same_tuples layout model slots constraint of_model of_slots =
    ap (λ m. tuples_of (layout_over m layout.standings slots) constraint) of_model
    ∙ ap (λ s. tuples_of (layout_over layout.model layout.standings s) constraint) of_slots

pub same_active : (layout : Layout) (model : Model) (slots : List Slot) → model ≡ layout.model → slots ≡ layout.slots
    → active_constraints (layout_over model layout.standings slots) ≡ active_constraints layout
same_active layout model slots of_model of_slots =
    ap (λ m. active_constraints (layout_over m layout.standings slots)) of_model
    ∙ ap (λ s. active_constraints (layout_over layout.model layout.standings s)) of_slots

pub if_some : {X : Type 0} {P Q : X → Type 0} (o : Option X) → IfSome o P → ((x : X) → P x → Q x) → IfSome o Q
if_some None holds more = holds
if_some (Some x) holds more = more x holds

pub if_none : {X P Q : Type 0} (o : Option X) → IfNone o P → (P → Q) → IfNone o Q
if_none None holds more = more holds
if_none (Some x) holds more = holds

pub told_of_none : {X P : Type 0} (o : Option X) → o ≡ None → IfNone o P → P
told_of_none None is holds = holds
told_of_none (Some x) is holds = absurd (cc is)

-- whether a list has an element
pub no_more : {X Y : Type 0} (f : X → Y) (xs : List X) (b : Bool) → b ≡ (length xs == 0) → b ≡ true → map f xs ≡ []
no_more f [] b tests is = refl
no_more f (x ∷ xs) b tests is = absurd (apart (length xs) b tests is)
  where
    apart : (n : ℕ) (b : Bool) → b ≡ (suc n == 0) → b ≡ true → ⊥
    apart n b tests is = grind (arith, nat_tests)

pub some_more : {X Y : Type 0} (f : X → Y) (xs : List X) (b : Bool) → b ≡ (length xs == 0) → b ≡ false
    → 0 < length (map f xs)
some_more f [] b tests is = absurd (cc (tests, is))
some_more f (x ∷ xs) b tests is = omega arith

-- the drafts of one number, and those after it
pub first_number : (f : ℕ → List Draft) (xs : List ℕ) (i : ℕ) → i < length xs
    → flat_map f (drop i xs) ≡ f (get_or xs i 0) ++ flat_map f (drop (i + 1) xs)
first_number f xs i inside =
    let next : suc i ≡ i + 1 = omega arith in
    ap (flat_map f) (drop-cons xs i 0 inside) ∙ ap (λ n. f (get_or xs i 0) ++ flat_map f (drop n xs)) next
