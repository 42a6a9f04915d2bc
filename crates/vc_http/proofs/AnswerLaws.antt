-- A response by what its status and its body are.
use Rattle.std.proofs.Common.{◌≡◌, ℕ, Bool, List, [], Option, Result, subst}
use Rattle.vc_http_responses.specs.Responses.{response}
use Rattle.vc_http_responses.specs.Sending.{Sends}
use Rattle.vc_http_responses.specs.declared.responses.SendFault.{SendFault}

pub sends_as : {status other : ℕ} {body text : List ℕ} (result : Result Unit SendFault) (old new : Option (List ℕ))
    (before now : ℕ) (keep : Bool) → status ≡ other → body ≡ text
    → Sends old new before now (response status [] keep body) result
    → Sends old new before now (response other [] keep text) result
sends_as {status} {other} {body} {text} result old new before now keep same alike sends =
    subst (λ xs. Sends old new before now (response other [] keep xs) result) alike
    (subst (λ number. Sends old new before now (response number [] keep body) result) same sends)
