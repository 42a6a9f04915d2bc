-- What a door over TCP says.
use Rattle.std.specs.Prelude.{ℕ, Bool, List, Option}

-- where it listens, whether a link is out, and the count of faults; of its links it tells nothing
pub record DoorEdge : Type 0 where
  pub address : Option (List ℕ)
  pub is_out : Bool
  pub faults : ℕ
