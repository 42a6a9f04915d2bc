use Rattle.vc_http_heads.specs.Heads as heads
use Rattle.vc_http_heads.specs.Heads.{said_of}
use Rattle.vc_http_messages.proofs.ExtentLaws.{head_fits}
use Rattle.vc_http_messages.proofs.judging.judge.Goals as goal

pub judge_whole-requires-clause-within : goal.judge_whole-requires-clause-within
judge_whole-requires-clause-within c =
    head_fits c.args.bytes.now (heads.whole (said_of c.in-Whole.head)) c.in-Whole.ensures
