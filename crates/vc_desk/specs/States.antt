-- What the desk keeps between requests: of each open session what its user chose, and whom it blames where that
-- contradicts itself; and the texts that are saved. Nothing else that follows from either is kept.
use Rattle.std.specs.Prelude.{◌≡◌, ⊤, ℕ, List, Option, None, Some, is_some}
use Rattle.std.specs.Cmp.Lexicographic.{slice_cmp}
use Rattle.std.specs.Ordering.{nat_cmp}
use Rattle.std.specs.FinMap.{FinMap, empty, get, insert, len, remove}
use Rattle.vc_outside.specs.Keepers.{Texts}
use Rattle.vc_desk_shown.specs.Standing.{Standing}

-- a finite map whose keys are words
abbrev pub ByName : Type 0 → Type 0
ByName A = FinMap (slice_cmp nat_cmp) A

-- how each open session stands
abbrev pub OpenSessions : Type 0
OpenSessions = ByName Standing

-- what is kept: the open sessions; of what is saved that which the keeper tells, if it does; and how many calls of the
-- keeper failed, as it counts them
pub record State : Type 0 where
  pub sessions : OpenSessions
  pub saved : Option Texts
  pub faults : ℕ

abbrev pub kept : OpenSessions → Option Texts → ℕ → State
kept sessions saved faults = record { sessions = sessions; saved = saved; faults = faults }

-- no session is open
abbrev pub start_state : Option Texts → ℕ → State
start_state saved faults = kept empty saved faults

-- how the session of this name stands, if one is open
abbrev pub standing_in : OpenSessions → List ℕ → Option Standing
standing_in sessions name = get sessions name

-- how many are open
abbrev pub open_count : OpenSessions → ℕ
open_count sessions = len sessions

-- the session of this name is open and stands so; it is open no more
abbrev pub with_session : OpenSessions → List ℕ → Standing → OpenSessions
with_session sessions name standing = insert sessions name standing

abbrev pub without_session : OpenSessions → List ℕ → OpenSessions
without_session sessions name = remove sessions name

-- nothing changes but open sessions
abbrev pub KeeperStays : State → State → Type 0
KeeperStays state next = (next.saved ≡ state.saved) × (next.faults ≡ state.faults)

-- these texts are saved: those that the keeper tells; of one that doesn't tell they may be any
abbrev pub AreSaved : Option Texts → Texts → Type 0
AreSaved None texts = ⊤
AreSaved (Some told) texts = texts ≡ told

-- this holds of the texts that are saved before and after
pub record HoldsOfSaved (before after : Option Texts) (Holds : Texts → Texts → Type 0) : Type 0 where
  pub texts : Texts
  pub next : Texts
  pub alike : is_some after ≡ is_some before
  pub saved : AreSaved before texts
  pub saved_next : AreSaved after next
  pub holds : Holds texts next
