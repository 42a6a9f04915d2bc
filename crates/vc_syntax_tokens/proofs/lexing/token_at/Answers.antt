-- A token ends behind its start, and within the bytes.
use Rattle.std.proofs.Common.{◌<◌, ◌≤◌, length, arith}
use Rattle.vc_syntax_tokens.proofs.Lengths.{lexed_within}
use Rattle.vc_syntax_tokens.proofs.lexing.token_at.Goals as goal

pub overflow_cast-result : goal.overflow_cast-result
overflow_cast-result c =
    let within : (0 < c.in-Ok.field-0.length) × (c.in-Ok.field-0.length ≤ length c.args.bytes.now)
    = lexed_within c.args.bytes.now c.in-Ok.field-0 c.in-Ok.ensures in
    omega (arith, within.1, c.requires.fits)

pub overflow_add-result : goal.overflow_add-result
overflow_add-result c =
    let within : (0 < c.in-Ok.field-0.length) × (c.in-Ok.field-0.length ≤ length c.args.bytes.now)
    = lexed_within c.args.bytes.now c.in-Ok.field-0 c.in-Ok.ensures in
    omega (arith, within.1, c.requires.fits)

pub returns-in-Ok-clause-within : goal.returns-in-Ok-clause-within
returns-in-Ok-clause-within c =
    let within : (0 < c.in-Ok.field-0.length) × (c.in-Ok.field-0.length ≤ length c.args.bytes.now)
    = lexed_within c.args.bytes.now c.in-Ok.field-0 c.in-Ok.ensures in
    (omega (arith, within.0), omega (arith, within.1))
