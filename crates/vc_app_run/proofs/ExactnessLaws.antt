-- Words and files decide one thing alone: what they come to, and so what is said and the status.
use Rattle.std.proofs.Common.{◌≡◌, ◌≢◌, ℕ, List, refl, ap, subst, ◌∙◌, Some}
use Rattle.vc_outside.specs.Faults.{Raised}
use Rattle.vc_outside.specs.Keepers.{RaisesFor}
use Rattle.vc_outside.specs.Shelves.{Files}
use Rattle.vc_outside.specs.declared.file.FileFault.{FileFault}
use Rattle.vc_outside.specs.declared.keeper.KeepFault.{KeepFault}
use Rattle.vc_outside.specs.declared.keeper.KeepFault.TheVariants as keep_faults
use Rattle.vc_compile_plan.specs.Trees.{Spot}
use Rattle.vc_app_models.specs.Loading.{IsPlanIn, IsStop, IsUnread}
use Rattle.vc_app_models.specs.declared.stop.ModelStop.{ModelStop}
use Rattle.vc_app_models.proofs.OneLaws.{IsHeldFault, held, is_held, no_stop, one_held_fault, one_stop, unread_is}
use Rattle.vc_app_check.specs.Statuses as statuses
use Rattle.vc_app_check.proofs.CheckLaws.{told_fault, told_stop}
use Rattle.vc_app_run.specs.Endings.{Words, Outside, Keeping, IsRun, LoadsRun, Causes, StopCauses, Ends, EndsWith}
use Rattle.vc_app_run.specs.Endings.{HasSinkCause, status_of, stop_status, without_job, without_keeper}
use Rattle.vc_app_run.specs.Statuses.{Says}
use Rattle.vc_app_run.specs.Exactness.{IsExact, IsQuiet, IsStopped}
use Rattle.vc_app_run.specs.declared.loading.Job.{Job}
use Rattle.vc_app_run.specs.declared.ending.Stop.{Stop}
use Rattle.vc_app_run.specs.declared.ending.Stop.TheVariants as stops
use Rattle.vc_app_run.specs.declared.ending.Ending.{Ending}
use Rattle.vc_app_run.specs.declared.ending.Ending.TheVariants as endings

-- words name one model and one script
same_model : (words : Words) (m s n t : List ℕ) → IsRun words m s → IsRun words n t → m ≡ n
same_model words m s n t p q = cc

same_script : (words : Words) (m s n t : List ℕ) → IsRun words m s → IsRun words n t → s ≡ t
same_script words m s n t p q = cc

-- what stops them is one, where no count of the shelf's faults rose
module _ (p : Spot) (words : Words) (files : Files) (before after : ℕ) (quiet : ¬ Raised before after) where
  abbrev Stops : List ℕ → ModelStop → Type 0
  Stops name stop = IsStop (Some files) before after name stop

  plan_or_stop : (plan_words stop_words : (model : List ℕ) × (script : List ℕ) × IsRun words model script)
      (stop : ModelStop) → statuses.stop_status stop ≢ 8
      → ((plan : _) × IsPlanIn (Some files) plan_words.0 plan) → Stops stop_words.0 stop → ⊥
  plan_or_stop x y stop memory has stops_it =
      no_stop p files before after x.0 has.0 stop quiet (told_stop stop memory) has.1
      (subst (λ name. Stops name stop) (same_model words y.0 y.1 x.0 x.1 y.2 x.2) stops_it)

  fault_is : (x y : (model : List ℕ) × (script : List ℕ) × IsRun words model script) (fault : FileFault)
      → statuses.file_status fault ≢ 8 → IsUnread (Some files) before after y.1 fault
      → IsHeldFault (held files x.1) fault
  fault_is x y fault memory unread =
      unread_is files before after x.1 fault quiet (told_fault fault memory)
      (subst (λ name. IsUnread (Some files) before after name fault) (same_script words y.0 y.1 x.0 x.1 y.2 x.2) unread)

  one_cause : (a b : Stop) → stop_status a ≢ 8 → stop_status b ≢ 8 → Causes words (Some files) before after a
      → Causes words (Some files) before after b → a ≡ b
  one_cause stops.Usage stops.Usage memory_a memory_b x y = refl
  one_cause stops.Usage (stops.Model b) memory_a memory_b x y = absurd (x y.0 y.1 y.2)
  one_cause stops.Usage (stops.ScriptUnread b) memory_a memory_b x y = absurd (x y.0 y.1 y.2)
  one_cause stops.Usage (stops.Keeper b) memory_a memory_b x y = absurd y
  one_cause (stops.Keeper a) b memory_a memory_b x y = absurd x
  one_cause (stops.Model a) (stops.Keeper b) memory_a memory_b x y = absurd y
  one_cause (stops.ScriptUnread a) (stops.Keeper b) memory_a memory_b x y = absurd y
  one_cause (stops.Model a) stops.Usage memory_a memory_b x y = absurd (y x.0 x.1 x.2)
  one_cause (stops.Model a) (stops.Model b) memory_a memory_b x y =
      ap stops.Model
      (one_stop p files before after y.0 a b quiet (told_stop a memory_a) (told_stop b memory_b)
      (subst (λ name. Stops name a) (same_model words x.0 x.1 y.0 y.1 x.2 y.2) x.3) y.3)
  one_cause (stops.Model a) (stops.ScriptUnread b) memory_a memory_b x y =
      absurd (plan_or_stop (y.0, y.1, y.2) (x.0, x.1, x.2) a memory_a (y.3.0, y.3.1) x.3)
  one_cause (stops.ScriptUnread a) stops.Usage memory_a memory_b x y = absurd (y x.0 x.1 x.2)
  one_cause (stops.ScriptUnread a) (stops.Model b) memory_a memory_b x y =
      absurd (plan_or_stop (x.0, x.1, x.2) (y.0, y.1, y.2) b memory_b (x.3.0, x.3.1) y.3)
  one_cause (stops.ScriptUnread a) (stops.ScriptUnread b) memory_a memory_b x y =
      ap stops.ScriptUnread
      (one_held_fault (held files x.1) a b (fault_is (x.0, x.1, x.2) (x.0, x.1, x.2) a memory_a x.3.2)
      (fault_is (x.0, x.1, x.2) (y.0, y.1, y.2) b memory_b y.3.2))

  -- and nothing stops a job that files hold
  no_cause : (job : Job) (stop : Stop) → stop_status stop ≢ 8 → LoadsRun words (Some files) job
      → Causes words (Some files) before after stop → ⊥
  no_cause job stops.Usage memory x y = y x.0 x.1 x.2
  no_cause job (stops.Keeper fault) memory x y = absurd y
  no_cause job (stops.Model stop) memory x y =
      plan_or_stop (x.0, x.1, x.2) (y.0, y.1, y.2) stop memory (job.plan, x.3.loads) y.3
  no_cause job (stops.ScriptUnread fault) memory x y =
      subst (λ h. IsHeldFault h fault) (is_held files x.1 job.script x.3.held x.3.small)
      (fault_is (x.0, x.1, x.2) (y.0, y.1, y.2) fault memory y.3.2)

-- so an ending is that of the cause, or of the job
module _ (p : Spot) (words : Words) (files : Files) (o : Outside) (k : Keeping) (Stays : Type 0)
    (status : ℕ) (q : IsQuiet o files status) where
  caused : (stop : Stop) → Causes words o.files o.shelf_before o.shelf_after stop
      → Causes words (Some files) o.shelf_before o.shelf_after stop
  caused stop cause = subst (λ fs. Causes words fs o.shelf_before o.shelf_after stop) q.told cause

  loaded : (job : Job) → LoadsRun words o.files job → LoadsRun words (Some files) job
  loaded job loads = subst (λ fs. LoadsRun words fs job) q.told loads

  stopped_by : (stop : Stop) → stop_status stop ≢ 8 → Causes words o.files o.shelf_before o.shelf_after stop
      → (ending : Ending) → status ≡ status_of ending → Ends words o k Stays ending
      → HasSinkCause o.sink_before o.sink_after ending → IsStopped words o status stop
  stopped_by stop memory cause endings.Answered number ends sink =
      absurd (no_cause p words files o.shelf_before o.shelf_after q.shelf ends.0 stop memory (loaded ends.0 ends.1)
      (caused stop cause))
  stopped_by stop memory cause (endings.Stopped other) number ends sink = by ends.0.cause
    where
      by : StopCauses words o k Stays other → IsStopped words o status stop
      by (without_job c stays) =
          let same : other ≡ stop
          = one_cause p words files o.shelf_before o.shelf_after q.shelf other stop
          (λ eight. q.memory (number ∙ eight)) memory (caused other c) (caused stop cause) in
          record { ends = number ∙ ap stop_status same; says = subst (Says words o) same ends.1 }
      by (without_keeper job fault loads raises same) =
          absurd (no_cause p words files o.shelf_before o.shelf_after q.shelf job stop memory (loaded job loads)
          (caused stop cause))
  stopped_by stop memory cause endings.Exhausted number ends sink = absurd (q.memory number)
  stopped_by stop memory cause (endings.MessageCut other) number ends sink = absurd (q.sink sink)
  stopped_by stop memory cause endings.AnswerCut number ends sink = absurd (q.sink sink)
  stopped_by stop memory cause endings.ExhaustedCut number ends sink = absurd (q.sink sink)

  no_keeper_fault : (fault : KeepFault) → ¬ Raised k.faults_before k.faults_after
      → RaisesFor k.faults_before k.faults_after fault → status ≡ stop_status (stops.Keeper fault) → ⊥
  no_keeper_fault keep_faults.Failed calm raises number = calm raises
  no_keeper_fault keep_faults.OutOfMemory calm raises number = q.memory number

  done_by : ¬ Raised k.faults_before k.faults_after → (job : Job) → LoadsRun words o.files job → (ending : Ending)
      → status ≡ status_of ending → Ends words o k Stays ending → HasSinkCause o.sink_before o.sink_after ending
      → status ≡ 0
  done_by calm job loads endings.Answered number ends sink = number
  done_by calm job loads (endings.Stopped other) number ends sink = absurd (by ends.0.cause)
    where
      by : StopCauses words o k Stays other → ⊥
      by (without_job c stays) =
          no_cause p words files o.shelf_before o.shelf_after q.shelf job other (λ eight. q.memory (number ∙ eight))
          (loaded job loads) (caused other c)
      by (without_keeper done fault ready raises same) =
          no_keeper_fault fault calm raises (number ∙ ap stop_status same)
  done_by calm job loads endings.Exhausted number ends sink = absurd (q.memory number)
  done_by calm job loads (endings.MessageCut other) number ends sink = absurd (q.sink sink)
  done_by calm job loads endings.AnswerCut number ends sink = absurd (q.sink sink)
  done_by calm job loads endings.ExhaustedCut number ends sink = absurd (q.sink sink)

pub exactly : Spot → (words : Words) (o : Outside) (k : Keeping) (Stays : Type 0) (status : ℕ)
    → EndsWith words o k Stays status → IsExact words o k status
exactly p words o k Stays status e = record {
  stopped = λ files stop q memory cause.
      stopped_by p words files o k Stays status q stop memory cause e.ending e.number e.ends e.cause;
  complete = λ files job q calm loads.
      done_by p words files o k Stays status q calm job loads e.ending e.number e.ends e.cause;
}
