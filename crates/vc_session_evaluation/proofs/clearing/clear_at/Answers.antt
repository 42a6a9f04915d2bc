-- The first variable has nothing then.
use Rattle.std.proofs.Common.{◌∙◌, ap, length}
use Rattle.std.proofs.lemmas.List.{length-set}
use Rattle.vc_session_evaluation.proofs.BlankLaws.{blank_at_end, blank_next}
use Rattle.vc_session_evaluation.proofs.clearing.clear_at.Goals as goal

pub loop-rest-preserved : goal.loop-rest-preserved
loop-rest-preserved c = record {
  blank = blank_next c.loop-rest.rest.now 0 c.loop-rest.overlay c.enter.new.self c.in-len1-up.len_at_least
      c.loop-rest.invariant.blank c.enter.ensures;
  long = ap length c.enter.ensures ∙ length-set c.loop-rest.overlay _ _ ∙ c.loop-rest.invariant.long;
}

pub returns : goal.returns
returns c =
    blank_at_end c.loop-rest.rest.now c.loop-rest.overlay (length c.args.overlay.now) c.in_default.len_below
    c.loop-rest.invariant.long c.loop-rest.invariant.blank
