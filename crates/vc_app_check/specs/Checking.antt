-- How `check` ends, why, and what it has written then.
use Rattle.std.specs.Prelude.{◌≡◌, ◌≢◌, ℕ, List, Bool, true, false, if◌then◌else◌, Option, Some}
use Rattle.std.specs.Io.KnownBytes.{Appends}
use Rattle.vc_outside.specs.Faults.{Raised}
use Rattle.vc_outside.specs.Shelves.{Files}
use Rattle.vc_outside.specs.Sinks.{AppendsFront}
use Rattle.vc_plan.specs.declared.plans.Plan.{Plan}
use Rattle.vc_app_models.specs.Loading.{IsPlanIn, IsStop}
use Rattle.vc_app_models.specs.declared.stop.ModelStop.{ModelStop}
use Rattle.vc_app_check.specs.Lines.{counts_line, counts_of, stop_line}
use Rattle.vc_app_check.specs.Statuses.{stop_status}

-- what lies outside: the files that the shelf tells, and before and after the call the shelf's faults, what the sink
-- tells, and the sink's faults
pub record Outside : Type 0 where
  pub files : Option Files
  pub shelf_before : ℕ
  pub shelf_after : ℕ
  pub written_before : Option (List ℕ)
  pub written_after : Option (List ℕ)
  pub sink_before : ℕ
  pub sink_after : ℕ

abbrev pub outside : Option Files → ℕ → ℕ → Option (List ℕ) → Option (List ℕ) → ℕ → ℕ → Outside
outside files shelf_before shelf_after written_before written_after sink_before sink_after = record {
  files = files;
  shelf_before = shelf_before;
  shelf_after = shelf_after;
  written_before = written_before;
  written_after = written_after;
  sink_before = sink_before;
  sink_after = sink_after;
}

-- the line is written whole; or the sink's count of faults rose, and a front of it stands
pub record IsCut (old new : Option (List ℕ)) (before after : ℕ) (line : List ℕ) : Type 0 where
  pub front : AppendsFront old new line
  pub raised : Raised before after

abbrev pub IsWritten : Bool → Option (List ℕ) → Option (List ℕ) → ℕ → ℕ → List ℕ → Type 0
IsWritten true old new before after line = Appends old new line
IsWritten false old new before after line = IsCut old new before after line

-- what is said by the line and the status ended with another status, 5 where the line isn't whole
pub record IsSaid (old new : Option (List ℕ)) (before after : ℕ) (line : List ℕ) (status ended : ℕ) : Type 0 where
  pub whole : Bool
  pub written : IsWritten whole old new before after line
  pub ends : ended ≡ (if whole then status else 5)

-- what the model of a name comes to: a plan, or why there is none
pub data Answer : Type 0 where
  counted : Plan → Answer
  stopped : ModelStop → Answer

abbrev pub IsAnswer : List ℕ → Outside → Answer → Type 0
IsAnswer name o (counted plan) = IsPlanIn o.files name plan
IsAnswer name o (stopped stop) = IsStop o.files o.shelf_before o.shelf_after name stop

abbrev pub answer_line : List ℕ → Answer → List ℕ
answer_line name (counted plan) = counts_line (counts_of plan)
answer_line name (stopped stop) = stop_line name stop

abbrev pub answer_status : Answer → ℕ
answer_status (counted plan) = 0
answer_status (stopped stop) = stop_status stop

-- no count of faults rose, memory was there, and the shelf tells its files
pub record IsQuiet (o : Outside) (files : Files) (status : ℕ) : Type 0 where
  pub told : o.files ≡ Some files
  pub shelf : ¬ Raised o.shelf_before o.shelf_after
  pub sink : ¬ Raised o.sink_before o.sink_after
  pub memory : status ≢ 8

-- this answer was written whole, with its status
pub record IsGiven (name : List ℕ) (o : Outside) (status : ℕ) (answer : Answer) : Type 0 where
  pub line : Appends o.written_before o.written_after (answer_line name answer)
  pub ends : status ≡ answer_status answer

-- what the model of this name comes to is said, and nothing else; and what it comes to by files that are told was said
-- wherever no count of faults rose and memory was there, a plan or the one refusal: no other answer can be
pub record EndsCheck (name : List ℕ) (o : Outside) (status : ℕ) : Type 0 where
  pub answer : Answer
  pub is : IsAnswer name o answer
  pub said : IsSaid o.written_before o.written_after o.sink_before o.sink_after (answer_line name answer)
      (answer_status answer) status
  pub exact : (files : Files) (due : Answer) → IsQuiet o files status → answer_status due ≢ 8 → IsAnswer name o due
      → IsGiven name o status due
