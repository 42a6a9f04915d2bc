-- Laws of a desk that is asked to serve links.
use Rattle.std.proofs.Common.{◌≡◌, ℕ, List, Option, Some, Result, Ok, Err, refl, subst, ◌∙◌}
use Rattle.vc_outside.specs.Faults.{HasCause, Raised}
use Rattle.vc_outside.specs.declared.fault.Failed.{Failed}
use Rattle.vc_plan.specs.declared.plans.Plan.{Plan}
use Rattle.vc_desk.specs.States.{State}
use Rattle.vc_app_serve.specs.Readying.{IsUnready, TakesNone, stopped_by_door}
use Rattle.vc_app_serve.specs.Serving.{AtDoor, DeskEnds, at_door, behind_links, in_listening}
use Rattle.vc_app_serve.specs.Visits.{ServesUnless, Telling, links}
use Rattle.vc_app_serve.specs.declared.stop.Stop.{Stop}
use Rattle.vc_app_serve.specs.declared.stop.Stop.TheVariants as stops
use Rattle.vc_app_serve.proofs.VisitLaws.{serves_none, serves_then}

-- where a door isn't ready, no link is served
pub unready : {C : Type 0} (tells : Telling C) (plan : Plan) (address : List ℕ) (count : ℕ) (state : State)
    (d : AtDoor C) (stop : Stop) → IsUnready d stop → DeskEnds tells plan address count state state d (Err stop)
unready tells plan address count state d (stops.Model stop) h = absurd h
unready tells plan address count state d (stops.Keeper fault) h = absurd h
unready tells plan address count state d stops.OutOfMemory h = (refl, h)
unready tells plan address count state d stops.Door h = record {
  raised = h.2;
  served = 0;
  failed = in_listening h.1 refl;
  serves = serves_none tells plan state d.links h.0;
}

-- where it is, links are served, or fewer where it fails then
module _ {C : Type 0} (tells : Telling C) (plan : Plan) (address : List ℕ) (count : ℕ) (before after : State)
    (coming coming_between coming_after finished finished_between finished_after : Option (List C))
    (at at_between at_after : Option (List ℕ)) (faults faults_between faults_after : ℕ) where
  pub served_by : (served : Result Unit Failed)
      → TakesNone (links coming coming_between finished finished_between) → at_between ≡ Some address
      → faults_between ≡ faults
      → ServesUnless tells plan before after (links coming_between coming_after finished_between finished_after) count
      served
      → at_after ≡ at_between → HasCause faults_between faults_after served
      → DeskEnds tells plan address count before after
      (at_door (links coming coming_after finished finished_after) at at_after faults faults_after)
      (stopped_by_door served)
  served_by (Ok done) none listened calm serves stays cause = record {
    listened = stays ∙ listened;
    calm = cause.calm ∙ calm;
    serves = serves_then tells plan before after coming coming_between coming_after finished finished_between
        finished_after count none serves;
  }
  served_by (Err failed) none listened calm serves stays cause = record {
    raised = subst (λ n. Raised n faults_after) calm cause.failed;
    served = serves.0;
    failed = behind_links (stays ∙ listened) serves.1;
    serves = serves_then tells plan before after coming coming_between coming_after finished finished_between
        finished_after serves.0 none serves.2;
  }
