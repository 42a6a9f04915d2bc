-- Links that are served one after another: taken from those that come to a door, talked to, and done.
use Rattle.std.specs.Prelude.{◌≡◌, ◌<◌, ℕ, List, [], ◌∷◌, ◌++◌, length, map, Option, option_map, Result, Ok, Err}
use Rattle.vc_outside.specs.declared.fault.Failed.{Failed}
use Rattle.vc_plan.specs.declared.plans.Plan.{Plan}
use Rattle.vc_desk.specs.States.{State}
use Rattle.vc_http_talk.specs.Talk.{TalksTo}

-- what links of a kind tell: the bytes left to read, the bytes written, and the count of faults
pub record Telling (Conn : Type 0) : Type 0 where
  pub left : Conn → Option (List ℕ)
  pub written : Conn → Option (List ℕ)
  pub faults : Conn → ℕ

abbrev pub telling : {Conn : Type 0} → (Conn → Option (List ℕ)) → (Conn → Option (List ℕ)) → (Conn → ℕ) → Telling Conn
telling left written faults = record { left = left; written = written; faults = faults }

-- a link as it came and as it was done: it was talked to, from a state of the desk to another
abbrev pub IsVisit : {Conn : Type 0} → Telling Conn → Plan → State → Conn × Conn → State → Type 0
IsVisit tells plan before visit after =
    TalksTo plan before after (tells.left visit.0) (tells.written visit.0) (tells.written visit.1)
    (tells.faults visit.0) (tells.faults visit.1)

-- links one after another, each from the state that the one before it left
abbrev pub AreVisits : {Conn : Type 0} → Telling Conn → Plan → State → List (Conn × Conn) → State → Type 0
AreVisits tells plan state [] next = next ≡ state
AreVisits tells plan state (visit ∷ visits) next =
    (between : State) × IsVisit tells plan state visit between × AreVisits tells plan between visits next

-- the links that a door tells, before and after: those to come, and those that are done
pub record Links (Conn : Type 0) : Type 0 where
  pub coming_before : Option (List Conn)
  pub coming_after : Option (List Conn)
  pub finished_before : Option (List Conn)
  pub finished_after : Option (List Conn)

abbrev pub links : {Conn : Type 0} → Option (List Conn) → Option (List Conn) → Option (List Conn)
    → Option (List Conn) → Links Conn
links coming_before coming_after finished_before finished_after = record {
  coming_before = coming_before;
  coming_after = coming_after;
  finished_before = finished_before;
  finished_after = finished_after;
}

-- so many links were served: the first of those to come, in their order, which are behind those that were done before
pub record Serves {Conn : Type 0} (tells : Telling Conn) (plan : Plan) (before after : State) (l : Links Conn)
    (count : ℕ) : Type 0 where
  pub visits : List (Conn × Conn)
  pub many : length visits ≡ count
  pub talks : AreVisits tells plan before visits after
  pub taken : l.coming_before ≡ option_map (λ later. map (λ visit. visit.0) visits ++ later) l.coming_after
  pub done : l.finished_after ≡ option_map (λ earlier. earlier ++ map (λ visit. visit.1) visits) l.finished_before

-- so many were, or, where the door failed, fewer
abbrev pub ServesUnless : {Conn : Type 0} → Telling Conn → Plan → State → State → Links Conn → ℕ → Result Unit Failed
    → Type 0
ServesUnless tells plan before after l count (Ok done) = Serves tells plan before after l count
ServesUnless tells plan before after l count (Err failed) =
    (served : ℕ) × (served < count) × Serves tells plan before after l served

-- one was
pub record ServesOne {Conn : Type 0} (tells : Telling Conn) (plan : Plan) (before after : State) (l : Links Conn) :
    Type 0 where
  pub visit : Conn × Conn
  pub talks : IsVisit tells plan before visit after
  pub taken : l.coming_before ≡ option_map (λ later. visit.0 ∷ later) l.coming_after
  pub done : l.finished_after ≡ option_map (λ earlier. earlier ++ visit.1 ∷ []) l.finished_before
