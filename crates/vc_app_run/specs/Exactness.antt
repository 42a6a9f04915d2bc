-- That words and files decide how the program ends: where the shelf tells its files, no count of faults rose and memory
-- was there, each cause has its own status and line, and a job is answered.
use Rattle.std.specs.Prelude.{◌≡◌, ◌≢◌, ℕ}
use Rattle.vc_outside.specs.Faults.{Raised}
use Rattle.vc_outside.specs.Shelves.{Files}
pub use Rattle.vc_app_check.specs.Checking.{IsQuiet}
use Rattle.vc_app_run.specs.Endings.{Words, Outside, Causes, Keeping, LoadsRun, stop_status}
use Rattle.vc_app_run.specs.Statuses.{Says}
use Rattle.vc_app_run.specs.declared.loading.Job.{Job}
use Rattle.vc_app_run.specs.declared.ending.Stop.{Stop}

-- this stop was said whole, with its status
pub record IsStopped (words : Words) (o : Outside) (status : ℕ) (stop : Stop) : Type 0 where
  pub ends : status ≡ stop_status stop
  pub says : Says words o stop

-- whatever stops what the words ask, but want of memory, of which nothing is told, is what was said: no command, a file
-- that is missing or too large, the fault of a text, a table, the typing or a size. And where files hold the job of the
-- words and the keeper didn't fail, all of it is done.
pub record IsExact (words : Words) (o : Outside) (k : Keeping) (status : ℕ) : Type 0 where
  pub stopped : (files : Files) (stop : Stop) → IsQuiet o files status → stop_status stop ≢ 8
      → Causes words o.files o.shelf_before o.shelf_after stop → IsStopped words o status stop
  pub complete : (files : Files) (job : Job) → IsQuiet o files status → ¬ Raised k.faults_before k.faults_after
      → LoadsRun words o.files job → status ≡ 0
