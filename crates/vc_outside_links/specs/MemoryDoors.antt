-- A door in memory.
use Rattle.std.specs.Prelude.{◌≡◌, ℕ, Bool, true, false, List, [], ◌∷◌, ◌++◌, Option, Some, Result, Ok, Err}
use Rattle.std.specs.Prelude.{if◌then◌else◌}
use Rattle.vc_outside.specs.Faults.{next_fails}
use Rattle.vc_outside.specs.MemorySinks.{SinkState}
use Rattle.vc_outside.specs.declared.fault.Failed.{Failed}
use Rattle.vc_outside_links.specs.Counting.{with_counted, with_refused}
use Rattle.vc_outside_links.specs.MemoryLinks.{LinkState}

-- what a door in memory is: the links to come, those that are done, where it listens, whether a link is out, and the
-- sink that counts its calls
pub record DoorState : Type 0 where
  pub coming : List LinkState
  pub finished : List LinkState
  pub address : Option (List ℕ)
  pub is_out : Bool
  pub sink : SinkState

abbrev pub first_of : List LinkState → Result LinkState Failed
first_of [] = Err (record {})
first_of (link ∷ links) = Ok link

-- a link is given but where the next call is to fail or none is left
abbrev pub next_answer : DoorState → Result LinkState Failed
next_answer s = if next_fails s.sink.calls then Err (record {}) else first_of s.coming

abbrev pub with_taken : DoorState → List LinkState → DoorState
with_taken s [] = record s { sink = with_refused s.sink }
with_taken s (link ∷ links) =
    if next_fails s.sink.calls then record s { sink = with_counted s.sink }
    else record s { coming = links; is_out = true; sink = with_counted s.sink }

abbrev pub with_next : DoorState → DoorState
with_next s = with_taken s s.coming

abbrev pub with_done : DoorState → LinkState → DoorState
with_done s link = record s { finished = s.finished ++ link ∷ []; is_out = false }

-- a door listens but where the next call is to fail or memory is wanting
abbrev pub ListensInMemory : DoorState → DoorState → List ℕ → Result Unit Failed → Type 0
ListensInMemory s now address (Ok done) = now ≡ record s { address = Some address; sink = with_counted s.sink }
ListensInMemory s now address (Err failed) = now ≡ record s { sink = with_refused s.sink }
