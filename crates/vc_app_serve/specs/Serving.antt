-- How `serve` ends, why, and what it has said, saved and sent then.
use Rattle.std.specs.Prelude.{◌≡◌, ◌≢◌, ℕ, ◌<◌, List, Option, Some, Result, Ok, Err}
use Rattle.std.specs.Io.KnownBytes.{Appends}
use Rattle.vc_outside.specs.Faults.{Raised}
use Rattle.vc_outside.specs.Keepers.{RaisesFor}
use Rattle.vc_outside.specs.Shelves.{Files}
use Rattle.vc_outside.specs.declared.keeper.KeepFault.{KeepFault}
use Rattle.vc_plan.specs.declared.plans.Plan.{Plan}
use Rattle.vc_desk.specs.States.{OpenSessions, State, kept, start_state}
use Rattle.vc_desk.specs.Keeping.{Keeping}
use Rattle.vc_app_models.specs.Loading.{IsPlanIn, IsStop}
use Rattle.vc_app_models.specs.declared.stop.ModelStop.{ModelStop}
use Rattle.vc_app_check.specs.Checking.{IsQuiet, IsSaid, Outside}
use Rattle.vc_app_serve.specs.Telling.{stop_line, stop_status}
use Rattle.vc_app_serve.specs.Visits.{Links, Serves, Telling}
use Rattle.vc_app_serve.specs.declared.stop.Stop.{Stop}
use Rattle.vc_app_serve.specs.declared.stop.Stop.TheVariants as stops

-- what the command asks for: the model, the address at which links are awaited, how many, and the file that keeps what
-- is saved, if one does
pub record Service : Type 0 where
  pub model : List ℕ
  pub address : List ℕ
  pub count : ℕ
  pub keep_file : Option (List ℕ)

abbrev pub service : List ℕ → List ℕ → ℕ → Option (List ℕ) → Service
service model address count keep_file = record {
  model = model;
  address = address;
  count = count;
  keep_file = keep_file;
}

-- what is known of a door around a call: the links that it tells, where it listens, and its count of faults
pub record AtDoor (Conn : Type 0) : Type 0 where
  pub links : Links Conn
  pub address_before : Option (List ℕ)
  pub address_after : Option (List ℕ)
  pub faults_before : ℕ
  pub faults_after : ℕ

abbrev pub at_door : {Conn : Type 0} → Links Conn → Option (List ℕ) → Option (List ℕ) → ℕ → ℕ → AtDoor Conn
at_door links address_before address_after faults_before faults_after = record {
  links = links;
  address_before = address_before;
  address_after = address_after;
  faults_before = faults_before;
  faults_after = faults_after;
}

-- what the shelf told, and its count of faults before and after
pub record Read : Type 0 where
  pub files : Option Files
  pub before : ℕ
  pub after : ℕ

abbrev pub read_from : Option Files → ℕ → ℕ → Read
read_from files before after = record { files = files; before = before; after = after }

-- the door is as before
pub record IsUntouched {Conn : Type 0} (d : AtDoor Conn) : Type 0 where
  pub coming : d.links.coming_after ≡ d.links.coming_before
  pub finished : d.links.finished_after ≡ d.links.finished_before
  pub address : d.address_after ≡ d.address_before
  pub faults : d.faults_after ≡ d.faults_before

-- where the door failed: it couldn't listen, and no link was taken; or it did, and fewer links came than were asked for
pub data FailedAt {Conn : Type 0} (address : List ℕ) (count : ℕ) (d : AtDoor Conn) (served : ℕ) : Type 0 where
  in_listening : d.address_after ≡ d.address_before → served ≡ 0 → FailedAt address count d served
  behind_links : d.address_after ≡ Some address → served < count → FailedAt address count d served

-- so many links were served as were asked for, at the address, and no call of the door failed
pub record ServesAll {Conn : Type 0} (tells : Telling Conn) (plan : Plan) (address : List ℕ) (count : ℕ)
    (before after : State) (d : AtDoor Conn) : Type 0 where
  pub listened : d.address_after ≡ Some address
  pub calm : d.faults_after ≡ d.faults_before
  pub serves : Serves tells plan before after d.links count

-- a call of the door failed, and the links before that were served
pub record BreaksOff {Conn : Type 0} (tells : Telling Conn) (plan : Plan) (address : List ℕ) (count : ℕ)
    (before after : State) (d : AtDoor Conn) : Type 0 where
  pub raised : Raised d.faults_before d.faults_after
  pub served : ℕ
  pub failed : FailedAt address count d served
  pub serves : Serves tells plan before after d.links served

-- how a desk of the plan ends that is asked to serve so many links at the address: with all of them; or there was no
-- memory for the bytes of a connection, and all is as before; or the door failed
abbrev pub DeskEnds : {Conn : Type 0} → Telling Conn → Plan → List ℕ → ℕ → State → State → AtDoor Conn
    → Result Unit Stop → Type 0
DeskEnds tells plan address count before after d (Ok done) = ServesAll tells plan address count before after d
DeskEnds tells plan address count before after d (Err (stops.Model stop)) = ⊥
DeskEnds tells plan address count before after d (Err (stops.Keeper fault)) = ⊥
DeskEnds tells plan address count before after d (Err stops.OutOfMemory) = (after ≡ before) × IsUntouched d
DeskEnds tells plan address count before after d (Err stops.Door) = BreaksOff tells plan address count before after d

-- so, with no session open at first, from what the keeper tells once it is begun to what it tells then
pub record EndsFromStart {Conn : Type 0} (tells : Telling Conn) (plan : Plan) (address : List ℕ) (count : ℕ)
    (k : Keeping) (d : AtDoor Conn) (end : Result Unit Stop) : Type 0 where
  pub last : OpenSessions
  pub ends : DeskEnds tells plan address count (start_state k.saved_at_start k.faults_before)
      (kept last k.saved_after k.faults_after) d end

-- the model has a plan, texts are saved where it was asked, and a desk of the plan ends so
pub record PlanEnds {Conn : Type 0} (tells : Telling Conn) (s : Service) (r : Read) (k : Keeping) (d : AtDoor Conn)
    (end : Result Unit Stop) : Type 0 where
  pub plan : Plan
  pub loads : IsPlanIn r.files s.model plan
  pub begun : k.begun ≡ Some s.keep_file
  pub ends : EndsFromStart tells plan s.address s.count k d end

-- the model has a plan, and the keeper couldn't be begun
pub record IsUnkept {Conn : Type 0} (s : Service) (r : Read) (k : Keeping) (d : AtDoor Conn) (fault : KeepFault) :
    Type 0 where
  pub plan : Plan
  pub loads : IsPlanIn r.files s.model plan
  pub raises : RaisesFor k.faults_before k.faults_after fault
  pub saved : k.saved_after ≡ k.saved_before
  pub stays : IsUntouched d

-- the model has no plan, and neither keeper nor door was asked: both stay, as `Stays` says
pub record HasNoPlan {Conn : Type 0} (s : Service) (r : Read) (k : Keeping) (Stays : Type 0) (d : AtDoor Conn)
    (stop : ModelStop) : Type 0 where
  pub cause : IsStop r.files r.before r.after s.model stop
  pub saved : k.saved_after ≡ k.saved_before
  pub faults : k.faults_after ≡ k.faults_before
  pub both : Stays
  pub stays : IsUntouched d

-- how it ended: the model has no plan; or the keeper couldn't be begun; or it was, and a desk ended so
abbrev pub Ends : {Conn : Type 0} → Telling Conn → Service → Read → Keeping → Type 0 → AtDoor Conn → Result Unit Stop
    → Type 0
Ends tells s r k Stays d (Ok done) = PlanEnds tells s r k d (Ok done)
Ends tells s r k Stays d (Err (stops.Model stop)) = HasNoPlan s r k Stays d stop
Ends tells s r k Stays d (Err (stops.Keeper fault)) = IsUnkept s r k d fault
Ends tells s r k Stays d (Err stops.OutOfMemory) = PlanEnds tells s r k d (Err stops.OutOfMemory)
Ends tells s r k Stays d (Err stops.Door) = PlanEnds tells s r k d (Err stops.Door)

-- what it said: nothing where all links were served, and else why not, and nothing else
abbrev pub Says : Service → Outside → ℕ → Result Unit Stop → Type 0
Says s o status (Ok done) = (status ≡ 0) × (o.written_after ≡ o.written_before) × (o.sink_after ≡ o.sink_before)
Says s o status (Err stop) =
    IsSaid o.written_before o.written_after o.sink_before o.sink_after (stop_line s.model stop)
    (stop_status stop) status

abbrev pub read_by : Outside → Read
read_by o = read_from o.files o.shelf_before o.shelf_after

-- that the model has no plan was said whole, with its status
pub record IsRefused (s : Service) (o : Outside) (status : ℕ) (stop : ModelStop) : Type 0 where
  pub line : Appends o.written_before o.written_after (stop_line s.model (stops.Model stop))
  pub ends : status ≡ stop_status (stops.Model stop)

-- how it ended is what it said; and by files that are told, a model without a plan was refused so, and one with a plan
-- was served by to the end, wherever no count of faults rose and memory was there
pub record EndsServe {Conn : Type 0} (tells : Telling Conn) (s : Service) (o : Outside) (k : Keeping) (Stays : Type 0)
    (d : AtDoor Conn) (status : ℕ) : Type 0 where
  pub end : Result Unit Stop
  pub ends : Ends tells s (read_by o) k Stays d end
  pub says : Says s o status end
  pub exact : (files : Files) (stop : ModelStop) → IsQuiet o files status → stop_status (stops.Model stop) ≢ 8
      → IsStop o.files o.shelf_before o.shelf_after s.model stop → IsRefused s o status stop
  pub complete : (files : Files) (plan : Plan) → IsQuiet o files status → ¬ Raised k.faults_before k.faults_after
      → ¬ Raised d.faults_before d.faults_after → IsPlanIn o.files s.model plan → status ≡ 0
