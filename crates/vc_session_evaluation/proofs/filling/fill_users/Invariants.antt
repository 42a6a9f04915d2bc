-- The user's values so far, and what was there from the variable on.
use Rattle.std.proofs.Common.{◌≡◌, None}
use Rattle.std.specs.Prelude.{slice_index_or}
use Rattle.vc_session_evaluation.proofs.FillLemmas.{IsFilled}
use Rattle.vc_session_evaluation.proofs.filling.fill_users.Given as goal

abbrev pub invariant-loop-var : goal.invariant-loop-var
invariant-loop-var l = record {
  filled : IsFilled (λ v. slice_index_or l.users.values v None) l.fn.sources.user l.sources.user l.var;
  kept : l.sources.written ≡ l.fn.sources.written;
}
