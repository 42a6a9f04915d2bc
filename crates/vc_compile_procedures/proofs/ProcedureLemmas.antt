-- Drafts that come one list behind another.
use Rattle.std.proofs.Common.{◌≡◌, ℕ, suc, ◌+◌, ◌<◌, List, [], ◌∷◌, ◌++◌, drop, get_or, length}
use Rattle.std.proofs.Common.{filter_map, Option, Result, Ok, Err, OnOk, ap, sym, ◌∙◌, arith}
use Rattle.std.proofs.lemmas.List.Elements.{filter_map-append}
use Rattle.std.proofs.Math.Seq.{drop-cons}
use Rattle.vc_compile_plan.specs.Numbering.{Brings, procedure_brings, procedure_from, statement_brings, statement_from}
use Rattle.vc_compile_numbering.specs.Growing.{Numbered, with_draft, with_drafts}
use Rattle.vc_compile_numbering.proofs.NumberingLaws.{drafts_append, drafts_are_numbered}
use Rattle.vc_plan.specs.declared.procedures.Procedure.{Procedure}
use Rattle.vc_plan.specs.declared.procedures.Statement.{Statement}
use Rattle.vc_compile_plan.specs.Procedures.{ProcedureDraft}

-- one element more of a list some of whose elements bring a draft
pub filter_step : {X D Y : Type 0} (brings : Brings D) (make : ℕ → ℕ → D → Y) (f : X → Option D) (xs : List X) (i : ℕ)
    (d : X) (before now next : Numbered Y)
    → i < length xs → with_drafts brings make now (filter_map f (drop i xs)) ≡ before
    → next ≡ with_drafts brings make now (filter_map f (get_or xs i d ∷ []))
    → with_drafts brings make next (filter_map f (drop (i + 1) xs)) ≡ before
filter_step brings make f xs i d before now next inside same is =
    let after : suc i ≡ i + 1 = omega arith in
    let one = filter_map f (get_or xs i d ∷ []) in
    let rest = filter_map f (drop (i + 1) xs) in
    let first : drop i xs ≡ (get_or xs i d ∷ []) ++ drop (i + 1) xs
    = drop-cons xs i d inside ∙ ap (λ n. get_or xs i d ∷ drop n xs) after in
    ap (λ n. with_drafts brings make n rest) is ∙ sym (drafts_append brings make now one rest)
    ∙ ap (with_drafts brings make now)
    (sym (ap (filter_map f) first ∙ filter_map-append f (get_or xs i d ∷ []) (drop (i + 1) xs))) ∙ same

abbrev pub with_procedure : Numbered Procedure → Numbered Statement → ProcedureDraft → Numbered Procedure
with_procedure before after draft = record {
  kept = after.kept;
  items = before.items
      ++ record { slot = draft.slot; dependency = draft.dependency; trigger = draft.trigger; statements = after.items }
      ∷ [];
}

-- a procedure more, with its statements, whose conditions and terms follow those that are there
pub procedure_more : (before : Numbered Procedure) (after : Numbered Statement) (draft : ProcedureDraft)
    → after ≡ with_drafts statement_brings statement_from (record { kept = before.kept; items = [] }) draft.statements
    → with_procedure before after draft ≡ with_draft procedure_brings procedure_from before draft
procedure_more before after draft is =
    ap (λ s. with_procedure before s draft)
    (is ∙ drafts_are_numbered statement_brings statement_from before.kept.conditions before.kept.terms []
    draft.statements)

pub on_ok : {X E P Q : Type 0} (r : Result X E) → OnOk r P → (P → Q) → OnOk r Q
on_ok (Ok x) holds more = more holds
on_ok (Err e) holds more = holds
