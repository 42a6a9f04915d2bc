use Rattle.std.proofs.Common.{◌≡◌, length}
use Rattle.vc_http_heads.specs.Ends.{skip_blank}
use Rattle.vc_http_heads.proofs.ends.skip_blank.Given as goal

abbrev pub invariant-loop-first : goal.invariant-loop-first
invariant-loop-first l = skip_blank l.rest ≡ skip_blank l.head

abbrev pub decreases-loop-first : goal.decreases-loop-first
decreases-loop-first l = length l.rest
