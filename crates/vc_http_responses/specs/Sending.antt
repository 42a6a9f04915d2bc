-- What sending a response leaves of a link.
use Rattle.std.specs.Prelude.{◌≡◌, ℕ, List, Option, Result, Ok, Err}
use Rattle.std.specs.Io.KnownBytes.{Appends}
use Rattle.vc_outside.specs.Faults.{Raised}
use Rattle.vc_outside.specs.Sinks.{AppendsFront}
use Rattle.vc_http_responses.specs.declared.responses.SendFault.{SendFault}
use Rattle.vc_http_responses.specs.declared.responses.SendFault.TheVariants as faults

-- by what the link tells of what was written and its count of faults, each before and after: all of the bytes are
-- written; or the link failed, and a front of them is; or memory was wanting, and nothing is
abbrev pub Sends : Option (List ℕ) → Option (List ℕ) → ℕ → ℕ → List ℕ → Result Unit SendFault → Type 0
Sends old new before now bytes (Ok done) = Appends old new bytes × (now ≡ before)
Sends old new before now bytes (Err faults.Failed) = AppendsFront old new bytes × Raised before now
Sends old new before now bytes (Err faults.OutOfMemory) = (new ≡ old) × (now ≡ before)
