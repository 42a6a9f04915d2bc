-- The steps of what contradicts: those of the log, and that of a fact that couldn't come.
use Rattle.std.proofs.Common.{◌≡◌, ℕ, List, [], ◌∷◌, ◌++◌, length, take, sym, ◌∙◌, ap, arith}
use Rattle.std.specs.Prelude.{Option, None, Some}
use Rattle.std.proofs.lemmas.List.{take_all}
use Rattle.vc_plan.specs.declared.atoms.Atom.{Atom}
use Rattle.vc_plan.specs.declared.atoms.Step.{Step}
use Rattle.vc_net_log.specs.Logs.{step_from}
use Rattle.vc_net_standing.specs.declared.standing.Fact.{Fact}
use Rattle.vc_net_going.specs.Breaking.{steps_with}

pub with_last : (steps : List Step) (kept : Option Fact) (fact : Fact) (reasons told : List Atom) (last : Step)
    → kept ≡ Some fact → last ≡ step_from steps fact told → told ≡ reasons
    → steps ++ last ∷ [] ≡ steps_with steps kept reasons
with_last steps kept fact reasons told last is from same =
    ap (λ step. steps ++ step ∷ []) (from ∙ ap (step_from steps fact) same)
    ∙ ap (λ o. steps_with steps o reasons) (sym is)

pub without_last : (steps : List Step) (kept : Option Fact) (reasons : List Atom) (count : ℕ) → kept ≡ None
    → count ≡ length steps → take count steps ≡ steps_with steps kept reasons
without_last steps kept reasons count is many =
    ap (λ n. take n steps) many
    ∙ (take_all (length steps) steps (omega arith) ∙ ap (λ o. steps_with steps o reasons) (sym is))
