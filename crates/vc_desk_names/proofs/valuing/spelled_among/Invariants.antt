-- The first of those to come that is spelled so is the first of all.
use Rattle.std.proofs.Common.{◌≡◌, drop}
use Rattle.std.specs.Prelude.{slice_get}
use Rattle.std.specs.List.{find}
use Rattle.vc_desk_names.specs.Meant.{is_word}
use Rattle.vc_desk_names.proofs.valuing.spelled_among.Given as goal

abbrev pub invariant-loop-text : goal.invariant-loop-text
invariant-loop-text l =
    find (λ t. is_word l.word (slice_get l.plan.texts t)) (drop l.text-index l.texts)
    ≡ find (λ t. is_word l.word (slice_get l.plan.texts t)) l.texts
