-- How a door is made ready for a desk.
use Rattle.std.specs.Prelude.{◌≡◌, ℕ, List, Some, Result, Ok, Err}
use Rattle.vc_outside.specs.Faults.{Raised}
use Rattle.vc_app_serve.specs.Serving.{AtDoor, IsUntouched}
use Rattle.vc_app_serve.specs.Visits.{Links}
use Rattle.vc_app_serve.specs.declared.stop.Stop.{Stop}
use Rattle.vc_app_serve.specs.declared.stop.Stop.TheVariants as stops

-- no link was taken, and none is done that wasn't
pub record TakesNone {Conn : Type 0} (l : Links Conn) : Type 0 where
  pub coming : l.coming_after ≡ l.coming_before
  pub finished : l.finished_after ≡ l.finished_before

-- why it isn't ready: there was no memory for the bytes of a connection, and it wasn't asked; or it failed
abbrev pub IsUnready : {Conn : Type 0} → AtDoor Conn → Stop → Type 0
IsUnready d (stops.Model stop) = ⊥
IsUnready d (stops.Keeper fault) = ⊥
IsUnready d stops.OutOfMemory = IsUntouched d
IsUnready d stops.Door = TakesNone d.links × (d.address_after ≡ d.address_before)
    × Raised d.faults_before d.faults_after

-- it listens at the address, or isn't ready
abbrev pub Readies : {Conn T : Type 0} → List ℕ → AtDoor Conn → Result T Stop → Type 0
Readies address d (Ok buffer) = TakesNone d.links × (d.address_after ≡ Some address)
    × (d.faults_after ≡ d.faults_before)
Readies address d (Err stop) = IsUnready d stop

-- a door that failed stops the desk
abbrev pub stopped_by_door : {E : Type 0} → Result Unit E → Result Unit Stop
stopped_by_door (Ok done) = Ok tt
stopped_by_door (Err failed) = Err stops.Door
