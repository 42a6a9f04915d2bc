-- That what is written of a request is read as that request.
use Rattle.std.specs.Prelude.{◌≡◌, ℕ, List, Some}
use Rattle.vc_wire_requests.specs.Requests.{line_text, request_of}
use Rattle.vc_wire_requests.specs.declared.request.Request.{Request}

-- a request that some line spells is read again from what is written of it
abbrev pub WrittenIsRead : Type 0
WrittenIsRead = (line : List ℕ) (request : Request) → request_of line ≡ Some request
    → request_of (line_text request) ≡ Some request
