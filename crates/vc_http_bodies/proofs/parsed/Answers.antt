-- What is read of a text that is UTF-8.
use Rattle.std.proofs.Common.{◌≡◌, true, false, cond, refl, sym, ap, ◌∙◌}
use Rattle.std.specs.Prelude.{Option, None}
use Rattle.std.specs.Str.{is_utf8}
use Rattle.std.proofs.lemmas.Str.{IsUtf8-from_is_utf8, is_utf8-from_IsUtf8}
use Rattle.serde_json.specs.Data.{Data}
use Rattle.serde_json.specs.Read.{read}
use Rattle.vc_http_bodies.proofs.parsed.Goals as goal

abbrev nothing : Option Data
nothing = None

pub returns-in-Ok : goal.returns-in-Ok
returns-in-Ok c =
    let text = c.args.bytes.now in
    sym (ap (λ b. cond b (read text) nothing) (is_utf8-from_IsUtf8 text c.in-Ok.ensures.ok.0) ∙ c.in-Ok.ensures.ok.1)

pub returns-in_default : goal.returns-in_default
returns-in_default c =
    let text = c.args.bytes.now in
    elim (is_utf8 text) as (λ b. is_utf8 text ≡ b → nothing ≡ cond b (read text) nothing) [
      | true ↦ λ e.
          sym (c.in-Err.ensures.err (λ memory. c.in_default.not-Memory (c.classify.ensures.memory.1 memory))
          (IsUtf8-from_is_utf8 text e))
      | false ↦ λ e. refl
    ] refl
