use Rattle.std.proofs.Common.{◌≡◌, drop, map}
use Rattle.std.specs.Prelude.{codes}
use Rattle.std.specs.List.{list_any}
use Rattle.httparse.specs.Spans.{header_bytes}
use Rattle.vc_http_heads.specs.Fields.{is_close, values_named}
use Rattle.vc_http_heads.proofs.fields.closes.Given as goal

abbrev pub invariant-loop-field : goal.invariant-loop-field
invariant-loop-field l =
    list_any is_close (values_named (codes "connection") (map (header_bytes l.head) (drop l.field-index l.spans)))
    ≡ list_any is_close (values_named (codes "connection") (map (header_bytes l.head) l.spans))
