use Rattle.std.proofs.Common.{◌≡◌, drop, map}
use Rattle.httparse.specs.Spans.{header_bytes}
use Rattle.vc_http_heads.specs.Fields.{values_named}
use Rattle.vc_http_heads.proofs.fields.first_named.Given as goal

abbrev pub invariant-loop-field : goal.invariant-loop-field
invariant-loop-field l =
    values_named l.name (map (header_bytes l.head) (drop l.field-index l.spans))
    ≡ values_named l.name (map (header_bytes l.head) l.spans)
