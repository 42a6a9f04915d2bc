-- The variable's value is put into its place.
use Rattle.std.proofs.Common.{◌≡◌, ◌∙◌, None, ap, arith}
use Rattle.std.specs.Prelude.{slice_index_or}
use Rattle.vc_session_evaluation.proofs.FillLemmas.{filled_next, filled_whole}
use Rattle.vc_session_evaluation.proofs.filling.fill_users.Goals as goal

pub loop-var-preserved : goal.loop-var-preserved
loop-var-preserved c =
    let values = c.args.users.now.values in
    record {
      filled = filled_next (λ v. slice_index_or values v None) c.args.sources.now.user c.loop-var.sources.user
          c.set_user.new.self.user
          c.value.result c.loop-var.var
          (omega (arith, c.loop-var-test.true, c.len-var-end.ensures, c.requires.lengths.0))
          c.loop-var.invariant.filled c.value.ensures (ap (λ sources. sources.user) c.set_user.ensures);
      kept = ap (λ sources. sources.written) c.set_user.ensures ∙ c.loop-var.invariant.kept;
    }

pub returns : goal.returns
returns c =
    let whole : c.loop-var.sources.user ≡ c.args.users.now.values =
    filled_whole c.args.users.now.values c.args.sources.now.user c.loop-var.sources.user c.loop-var.var
    c.loop-var.invariant.filled
    (omega (arith, c.loop-var-test.false, c.loop-var.auto.var-end, c.len-var-end.ensures, c.requires.lengths.0))
    (omega (arith, c.loop-var-test.false, c.loop-var.auto.var-end, c.len-var-end.ensures, c.requires.users)) in
    let kept = c.loop-var.invariant.kept in
    λ j. record { user = whole j; written = kept j }
