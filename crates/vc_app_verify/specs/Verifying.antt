-- How `verify` ends, why, and what it has written then.
use Rattle.std.specs.Prelude.{◌≡◌, ◌≢◌, ℕ, List}
use Rattle.std.specs.Io.KnownBytes.{Appends}
use Rattle.vc_outside.specs.Shelves.{Files}
use Rattle.vc_plan.specs.declared.plans.Plan.{Plan}
use Rattle.vc_app_models.specs.Loading.{IsPlanIn}
use Rattle.vc_app_check.specs.Checking.{IsQuiet, IsSaid, Outside}
use Rattle.vc_app_verify.specs.Claims.{IsClaim, IsNoClaim}
use Rattle.vc_app_verify.specs.Telling.{claim_told, stop_told}
use Rattle.vc_app_verify.specs.declared.claims.Claim.{Claim}
use Rattle.vc_app_verify.specs.declared.claims.Stop.{Stop}
use Rattle.vc_app_verify.specs.declared.telling.Told.{Told}

-- what the model and the chain file of two names come to: a claim, or why there is none
pub data Answer : Type 0 where
  judged : Claim → Answer
  stopped : Stop → Answer

abbrev pub IsAnswer : List ℕ → List ℕ → Outside → Answer → Type 0
IsAnswer model chain o (judged claim) = IsClaim o.files model chain claim
IsAnswer model chain o (stopped stop) = IsNoClaim o.files o.shelf_before o.shelf_after model chain stop

abbrev pub answer_told : List ℕ → List ℕ → Answer → Told
answer_told model chain (judged claim) = claim_told claim
answer_told model chain (stopped stop) = stop_told model chain stop

-- this was written whole, with its status
pub record IsGiven (o : Outside) (status : ℕ) (told : Told) : Type 0 where
  pub line : Appends o.written_before o.written_after told.line
  pub ends : status ≡ told.status

-- what is told of the text by a plan of the model was given; plans of one model differ in the places of their trees in
-- memory alone
pub record IsJudged (model : List ℕ) (o : Outside) (status : ℕ) (text : List ℕ) : Type 0 where
  pub plan : Plan
  pub loads : IsPlanIn o.files model plan
  pub given : IsGiven o status (claim_told (record { plan = plan; text = text }))

-- what the model and the chain file of these names come to is said, and nothing else; and by files that are told, what
-- stops was said, and each claim was judged, wherever no count of faults rose and memory was there
pub record EndsVerify (model chain : List ℕ) (o : Outside) (status : ℕ) : Type 0 where
  pub answer : Answer
  pub is : IsAnswer model chain o answer
  pub said : IsSaid o.written_before o.written_after o.sink_before o.sink_after (answer_told model chain answer).line
      (answer_told model chain answer).status status
  pub exact : (files : Files) (stop : Stop) → IsQuiet o files status → (stop_told model chain stop).status ≢ 8
      → IsNoClaim o.files o.shelf_before o.shelf_after model chain stop
      → IsGiven o status (stop_told model chain stop)
  pub complete : (files : Files) (claim : Claim) → IsQuiet o files status → IsClaim o.files model chain claim
      → IsJudged model o status claim.text
