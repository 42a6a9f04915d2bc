-- The last byte that is no space ends what is kept.
use Rattle.std.proofs.Common.{sym, ◌∙◌, arith}
use Rattle.vc_model_lines.proofs.WordLemmas.{kept_up_to, left_out_last}
use Rattle.vc_model_lines.proofs.words.without_spaces_behind.Goals as goal

pub returns-then-bytes-length-ne32 : goal.returns-then-bytes-length-ne32
returns-then-bytes-length-ne32 c =
    sym (kept_up_to c.args.bytes.now c.loop-length.length c.loop-length-test.true c.loop-length.invariant.within
    c.if-bytes-length-ne32.true)
    ∙ c.loop-length.invariant.kept

pub loop-length-preserved : goal.loop-length-preserved
loop-length-preserved c = record {
  kept = sym (left_out_last c.args.bytes.now c.loop-length.length c.loop-length-test.true c.loop-length.invariant.within
      c.if-bytes-length-ne32.false)
      ∙ c.loop-length.invariant.kept;
  within = omega (arith, c.loop-length.invariant.within);
}
