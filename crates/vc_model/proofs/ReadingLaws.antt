-- A text spells one model at most, and has a fault exactly where it spells none.
use Rattle.std.proofs.Common.{◌≡◌, ◌↔◌, ℕ, Bool, true, false, ◌+◌, ◌<◌, ◌⊎◌, inl, inr, List, [], Option, Some, None}
use Rattle.std.proofs.Common.{Result, Ok, Err, IsUtf8, IfOk, refl, sym, ap, subst, ◌∙◌, arith}
use Rattle.vc_model_lines.specs.declared.line.Line.{Line}
use Rattle.vc_model_lines.specs.Classified.{lines_of}
use Rattle.vc_model_faults.specs.declared.fault.ModelFaultKind.{ModelFaultKind}
use Rattle.vc_model_faults.specs.declared.fault.ModelFaultKind.TheVariants.{NotText}
use Rattle.vc_model_faults.specs.declared.fault.ModelFault.{ModelFault}
use Rattle.vc_model_faults.specs.declared.fault.ModelFault.TheVariants.{Bad, OutOfMemory}
use Rattle.vc_model_scope.specs.Scope.{scope_of}
use Rattle.vc_model_scope.specs.declared.scope.Scope.{Scope}
use Rattle.vc_model_faults.specs.First.{IsFirstFault, HasNoFault, backwards, kind_of}
use Rattle.vc_model_faults.proofs.FirstLaws.{Fault, first_fault, no_fault, is_first}
use Rattle.vc_model_parts.specs.declared.parts.Model.{Model}
use Rattle.vc_model_drafts.specs.Drafts.{SeenDraft, draft_of, model_in}
use Rattle.vc_model_drafts.specs.Models.{model_by, model_of}
use Rattle.vc_model_drafts.specs.Seen.{SeenModel, seen_model}
use Rattle.vc_model.specs.Spelled as s
use Rattle.vc_model.specs.Spelled.{Spells, IsFault, Answers, HasFault, SpellsNone}
use Rattle.std.specs.Str.{is_utf8}
use Rattle.std.proofs.lemmas.Str.{IsUtf8-from_is_utf8, is_utf8-from_IsUtf8}
use Rattle.std.proofs.lemmas.Bool.{false≢true}

-- lines with a first fault don't have none
pub not_both : (lines : List Line) (kind : ModelFaultKind) (number : ℕ) → HasNoFault lines
    → IsFirstFault lines kind number → ⊥
unfolding HasNoFault IsFirstFault
not_both lines kind number none first = let here : kind_of lines first.0
    ≡ None = none first.0 first.1 in let there : kind_of lines first.0 ≡ Some kind = first.3 in cc

-- there is one first fault at most
pub one_first : (lines : List Line) (kind other : ModelFaultKind) (number count : ℕ) → IsFirstFault lines kind number
    → IsFirstFault lines other count → (kind ≡ other) × (number ≡ count)
unfolding IsFirstFault
one_first lines kind other number count first second = by (order first.0 second.0)
  where
    order : (m n : ℕ) → (m < n) ⊎ ((n < m) ⊎ (m ≡ n))
    order m n = grind arith

    by : (first.0 < second.0) ⊎ ((second.0 < first.0) ⊎ (first.0 ≡ second.0)) → (kind ≡ other) × (number ≡ count)
    by (inl h) = absurd (let here : kind_of lines first.0
        ≡ None = second.4 first.0 h in let there : kind_of lines first.0 ≡ Some kind = first.3 in cc)
    by (inr (inl h)) = absurd
        (let here : kind_of lines second.0 ≡ None = first.4 second.0 h in let there : kind_of lines second.0
        ≡ Some other = second.3 in cc)
    by (inr (inr h)) =
        let same : Some kind ≡ Some other = sym first.3 ∙ ap (kind_of lines) h ∙ second.3 in
        (cc, first.2 ∙ ap (λ n. n + 1) h ∙ sym second.2)

-- a text with a fault spells no model
pub spells_none : (text : List ℕ) (model : SeenModel) (kind : ModelFaultKind) (number : ℕ) → Spells text model
    → IsFault text kind number → ⊥
spells_none text model _ _ spelled (s.not_text refused) = refused spelled.utf8
spells_none text model kind number spelled (s.at_line utf8 first) =
    not_both (lines_of text) kind number spelled.sound first

-- a text has one fault at most
pub one_fault : (text : List ℕ) (kind other : ModelFaultKind) (number count : ℕ) → IsFault text kind number
    → IsFault text other count → (kind ≡ other) × (number ≡ count)
one_fault text _ _ _ _ (s.not_text refused) (s.not_text refused') = (refl, refl)
one_fault text _ _ _ _ (s.not_text refused) (s.at_line utf8 first) = absurd (refused utf8)
one_fault text _ _ _ _ (s.at_line utf8 first) (s.not_text refused) = absurd (refused utf8)
one_fault text kind other number count (s.at_line utf8 first) (s.at_line utf8' second) =
    one_first (lines_of text) kind other number count first second

-- an answer that says what it should is the only one
pub only_model : (text : List ℕ) (answer : Result Model ModelFault) → IfOk answer (λ m. Spells text (seen_model m))
    → ((kind : ModelFaultKind) (line : ℕ) → answer ≡ Err (Bad kind line) → IsFault text kind line) → (model : SeenModel)
    → Spells text model → Answers answer (Ok model)
only_model text (Ok m) found told model spelled = ap Ok (spelled.model_is ∙ sym found.model_is)
only_model text (Err OutOfMemory) found told model spelled = tt
only_model text (Err (Bad kind line)) found told model spelled =
    absurd (spells_none text model kind line spelled (told kind line refl))

pub only_fault : (text : List ℕ) (answer : Result Model ModelFault) → IfOk answer (λ m. Spells text (seen_model m))
    → ((kind : ModelFaultKind) (line : ℕ) → answer ≡ Err (Bad kind line) → IsFault text kind line)
    → (kind : ModelFaultKind) (line : ℕ) → IsFault text kind line → Answers answer (Err (Bad kind line))
only_fault text (Ok m) found told kind line fault = absurd (spells_none text (seen_model m) kind line found fault)
only_fault text (Err OutOfMemory) found told kind line fault = tt
only_fault text (Err (Bad other count)) found told kind line fault =
    let same : (kind ≡ other) × (line ≡ count) = one_fault text kind other line count fault (told other count refl) in
    ap (λ k. Err (Bad k line)) same.0 ∙ ap (λ n. Err (Bad other n)) same.1

-- lines have a first fault or none
pub judge : (lines : List Line)
    → HasNoFault lines ⊎ ((kind : ModelFaultKind) × (number : ℕ) × IsFirstFault lines kind number)
judge lines = by (first_fault 1 [] lines) refl
  where
    by : (o : Option Fault) → first_fault 1 [] lines ≡ o
        → HasNoFault lines ⊎ ((kind : ModelFaultKind) × (number : ℕ) × IsFirstFault lines kind number)
    by None e = inl (no_fault lines e)
    by (Some fault) e = inr (fault.0, fault.1, is_first lines fault.0 fault.1 e)

-- a text has a fault exactly where it spells no model
pub fault_or_model : (text : List ℕ) → HasFault text ↔ SpellsNone text
fault_or_model text =
    (λ fault model spelled. spells_none text model fault.0 fault.1 spelled fault.2, λ none. by (is_utf8 text) refl none)
  where
    at_lines : IsUtf8 text
        → (HasNoFault (lines_of text)
        ⊎ ((kind : ModelFaultKind) × (number : ℕ) × IsFirstFault (lines_of text) kind number)) → SpellsNone text
        → HasFault text
    at_lines utf8 (inl sound) none =
        absurd (none (model_of (lines_of text)) record { utf8 = utf8; sound = sound; model_is = refl })
    at_lines utf8 (inr first) none = (first.0, first.1, s.at_line utf8 first.2)

    by : (test : Bool) → is_utf8 text ≡ test → SpellsNone text → HasFault text
    by true e none = at_lines (IsUtf8-from_is_utf8 text e) (judge (lines_of text)) none
    by false e none = (NotText, 0, s.not_text (λ h. absurd (false≢true (sym e ∙ is_utf8-from_IsUtf8 text h))))

-- what is read from the lines of a text, which is the same bytes, is read from the text
pub found_text : (inner text : List ℕ) (answer : Result Model ModelFault) → inner ≡ text → IsUtf8 text
    → IfOk answer (λ m. HasNoFault (lines_of inner))
    → IfOk answer (λ m. seen_model m ≡ model_of (lines_of inner)) → IfOk answer (λ m. Spells text (seen_model m))
found_text inner text (Ok m) same utf8 sound is =
    let P : List ℕ → Type 0 = λ t. HasNoFault (lines_of t) in
    record { utf8 = utf8; sound = subst P same sound; model_is = is ∙ ap (λ t. model_of (lines_of t)) same }
found_text inner text (Err fault) same utf8 sound is = tt

pub told_text : (inner text : List ℕ) (kind : ModelFaultKind) (line : ℕ) → inner ≡ text → IsUtf8 text
    → IsFirstFault (lines_of inner) kind line
    → IsFault text kind line
told_text inner text kind line same utf8 first =
    let P : List ℕ → Type 0 = λ t. IsFirstFault (lines_of t) kind line in s.at_line utf8 (subst P same first)

-- a text that isn't UTF-8 has the fault NotText at line 0
pub told_not_text : (text : List ℕ) (kind : ModelFaultKind) (line : ℕ) → ¬ IsUtf8 text → Bad NotText 0 ≡ Bad kind line
    → IsFault text kind line
told_not_text text kind line refused e =
    let k : NotText ≡ kind = cc in
    let n : 0 ≡ line = cc in
    let P : ModelFaultKind → Type 0 = λ kind. IsFault text kind line in
    let Q : ℕ → Type 0 = λ line. IsFault text NotText line in
    subst P k (subst Q n (s.not_text refused))

-- the model of the draft of all lines, with the texts of the scope, is the model of the lines
pub described_is : (lines : List Line) (scope : Scope) (texts : List (List ℕ)) (draft : SeenDraft) (model : SeenModel)
    → model ≡ model_in texts draft
    → draft ≡ draft_of scope 1 lines → texts ≡ scope.declared.texts → scope ≡ scope_of (backwards [] lines)
    → model ≡ model_of lines
unfolding draft_of
described_is lines scope texts draft model m d t f =
    m ∙ ap (λ x. model_in x draft) t ∙ ap (model_in scope.declared.texts) d ∙ ap (λ x. model_by x lines) f
