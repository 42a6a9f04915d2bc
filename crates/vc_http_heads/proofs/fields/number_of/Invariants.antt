use Rattle.std.proofs.Common.{◌≡◌, ◌<◌, ◌^◌, take}
use Rattle.vc_value.specs.Decimals.{number_of}
use Rattle.vc_http_heads.proofs.fields.number_of.Given as goal

abbrev pub invariant-loop-digit : goal.invariant-loop-digit
invariant-loop-digit l = record {
  so_far : l.number ≡ number_of (take l.digit-index l.digits);
  small : l.number < 10 ^ l.digit-index;
}
