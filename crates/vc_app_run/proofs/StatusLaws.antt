-- What an ending's status promises.
use Rattle.std.proofs.Common.{◌≡◌, ◌≢◌, ℕ, true, refl, subst, arith, sym}
use Rattle.vc_outside.specs.Faults.{Raised}
use Rattle.vc_outside.specs.Keepers.{RaisesFor}
use Rattle.vc_outside.specs.declared.file.FileFault.{FileFault}
use Rattle.vc_outside.specs.declared.keeper.KeepFault.{KeepFault}
use Rattle.vc_outside.specs.declared.keeper.KeepFault.TheVariants as keep_faults
use Rattle.vc_outside.specs.declared.file.FileFault.TheVariants as faults
use Rattle.vc_table.specs.declared.table.TableFault.{TableFault}
use Rattle.vc_table.specs.declared.table.TableFault.TheVariants as tables
use Rattle.vc_compile_plan.specs.declared.fault.CompileFault.{CompileFault}
use Rattle.vc_compile_plan.specs.declared.fault.CompileFault.TheVariants as compile
use Rattle.vc_app_models.specs.declared.stop.ModelStop.{ModelStop}
use Rattle.vc_app_models.specs.declared.stop.ModelStop.TheVariants as model
use Rattle.vc_app_check.specs.Statuses as statuses
use Rattle.vc_app_run.specs.Endings.{Words, Outside, Keeping, IsNoCommand, Causes, StopCauses, StopsRun, EndsRun, Ends}
use Rattle.vc_app_run.specs.Endings.{EndsWith, HasSinkCause, status_of, stop_status, without_job, without_keeper}
use Rattle.vc_app_run.specs.Statuses.{Says, SaysKeeper, SaysStop, is_cut, IsStatus}
use Rattle.vc_app_run.specs.declared.ending.Stop.{Stop}
use Rattle.vc_app_run.specs.declared.ending.Stop.TheVariants as stops
use Rattle.vc_app_run.specs.declared.ending.Ending.{Ending}
use Rattle.vc_app_run.specs.declared.ending.Ending.TheVariants as endings

-- the promise of status 0
done_alone : (words : Words) (o : Outside) (k : Keeping) (Stays : Type 0) → EndsRun words o k endings.Answered
    → IsStatus words o k Stays 0
done_alone words o k Stays claim = record {
  known = refl;
  done = λ _. claim;
  usage = λ e. absurd (omega arith);
  model_refused = λ e. absurd (omega arith);
  no_such_file = λ e. absurd (omega arith);
  shelf_fault = λ e. absurd (omega arith);
  sink_fault = λ e. absurd (omega arith);
  keeper_fault = λ e. absurd (omega arith);
  no_memory = λ e. absurd (omega arith);
  too_large = λ e. absurd (omega arith);
}

-- the promise of status 1
usage_alone : (words : Words) (o : Outside) (k : Keeping) (Stays : Type 0)
    → (IsNoCommand words × Says words o stops.Usage × Stays)
    → IsStatus words o k Stays 1
usage_alone words o k Stays claim = record {
  known = refl;
  done = λ e. absurd (omega arith);
  usage = λ _. claim;
  model_refused = λ e. absurd (omega arith);
  no_such_file = λ e. absurd (omega arith);
  shelf_fault = λ e. absurd (omega arith);
  sink_fault = λ e. absurd (omega arith);
  keeper_fault = λ e. absurd (omega arith);
  no_memory = λ e. absurd (omega arith);
  too_large = λ e. absurd (omega arith);
}

-- the promise of status 2
model_refused_alone : (words : Words) (o : Outside) (k : Keeping) (Stays : Type 0) → SaysStop words o Stays 2
    → IsStatus words o k Stays 2
model_refused_alone words o k Stays claim = record {
  known = refl;
  done = λ e. absurd (omega arith);
  usage = λ e. absurd (omega arith);
  model_refused = λ _. claim;
  no_such_file = λ e. absurd (omega arith);
  shelf_fault = λ e. absurd (omega arith);
  sink_fault = λ e. absurd (omega arith);
  keeper_fault = λ e. absurd (omega arith);
  no_memory = λ e. absurd (omega arith);
  too_large = λ e. absurd (omega arith);
}

-- the promise of status 3
no_such_file_alone : (words : Words) (o : Outside) (k : Keeping) (Stays : Type 0) → SaysStop words o Stays 3
    → IsStatus words o k Stays 3
no_such_file_alone words o k Stays claim = record {
  known = refl;
  done = λ e. absurd (omega arith);
  usage = λ e. absurd (omega arith);
  model_refused = λ e. absurd (omega arith);
  no_such_file = λ _. claim;
  shelf_fault = λ e. absurd (omega arith);
  sink_fault = λ e. absurd (omega arith);
  keeper_fault = λ e. absurd (omega arith);
  no_memory = λ e. absurd (omega arith);
  too_large = λ e. absurd (omega arith);
}

-- the promise of status 4
shelf_fault_alone : (words : Words) (o : Outside) (k : Keeping) (Stays : Type 0)
    → (SaysStop words o Stays 4 × Raised o.shelf_before o.shelf_after)
    → IsStatus words o k Stays 4
shelf_fault_alone words o k Stays claim = record {
  known = refl;
  done = λ e. absurd (omega arith);
  usage = λ e. absurd (omega arith);
  model_refused = λ e. absurd (omega arith);
  no_such_file = λ e. absurd (omega arith);
  shelf_fault = λ _. claim;
  sink_fault = λ e. absurd (omega arith);
  keeper_fault = λ e. absurd (omega arith);
  no_memory = λ e. absurd (omega arith);
  too_large = λ e. absurd (omega arith);
}

-- the promise of status 5
sink_fault_alone : (words : Words) (o : Outside) (k : Keeping) (Stays : Type 0)
    → (Raised o.sink_before o.sink_after × (ending : Ending) × (is_cut ending ≡ true) × Ends words o k Stays ending)
    → IsStatus words o k Stays 5
sink_fault_alone words o k Stays claim = record {
  known = refl;
  done = λ e. absurd (omega arith);
  usage = λ e. absurd (omega arith);
  model_refused = λ e. absurd (omega arith);
  no_such_file = λ e. absurd (omega arith);
  shelf_fault = λ e. absurd (omega arith);
  sink_fault = λ _. claim;
  keeper_fault = λ e. absurd (omega arith);
  no_memory = λ e. absurd (omega arith);
  too_large = λ e. absurd (omega arith);
}

-- the promise of status 7
keeper_fault_alone : (words : Words) (o : Outside) (k : Keeping) (Stays : Type 0) → SaysKeeper words o k
    → IsStatus words o k Stays 7
keeper_fault_alone words o k Stays claim = record {
  known = refl;
  done = λ e. absurd (omega arith);
  usage = λ e. absurd (omega arith);
  model_refused = λ e. absurd (omega arith);
  no_such_file = λ e. absurd (omega arith);
  shelf_fault = λ e. absurd (omega arith);
  sink_fault = λ e. absurd (omega arith);
  keeper_fault = λ _. claim;
  no_memory = λ e. absurd (omega arith);
  too_large = λ e. absurd (omega arith);
}

-- the promise of status 8
no_memory_alone : (words : Words) (o : Outside) (k : Keeping) (Stays : Type 0)
    → ((ending : Ending) × (status_of ending ≡ 8) × Ends words o k Stays ending)
    → IsStatus words o k Stays 8
no_memory_alone words o k Stays claim = record {
  known = refl;
  done = λ e. absurd (omega arith);
  usage = λ e. absurd (omega arith);
  model_refused = λ e. absurd (omega arith);
  no_such_file = λ e. absurd (omega arith);
  shelf_fault = λ e. absurd (omega arith);
  sink_fault = λ e. absurd (omega arith);
  keeper_fault = λ e. absurd (omega arith);
  no_memory = λ _. claim;
  too_large = λ e. absurd (omega arith);
}

-- the promise of status 11
too_large_alone : (words : Words) (o : Outside) (k : Keeping) (Stays : Type 0) → SaysStop words o Stays 11
    → IsStatus words o k Stays 11
too_large_alone words o k Stays claim = record {
  known = refl;
  done = λ e. absurd (omega arith);
  usage = λ e. absurd (omega arith);
  model_refused = λ e. absurd (omega arith);
  no_such_file = λ e. absurd (omega arith);
  shelf_fault = λ e. absurd (omega arith);
  sink_fault = λ e. absurd (omega arith);
  keeper_fault = λ e. absurd (omega arith);
  no_memory = λ e. absurd (omega arith);
  too_large = λ _. claim;
}

-- what each reason not to answer promises, once it is said
module _ (words : Words) (o : Outside) (k : Keeping) (Stays : Type 0) where
  fault_raised : (stop : Stop) → StopsRun words o.files o.shelf_before o.shelf_after stop → stop_status stop ≡ 4
      → Raised o.shelf_before o.shelf_after
  fault_raised stops.Usage c e = absurd (omega arith)
  fault_raised (stops.Model (model.Unread faults.Failed)) c e = c.3
  fault_raised (stops.Model (model.Unread faults.Missing)) c e = absurd (omega arith)
  fault_raised (stops.Model (model.Unread faults.TooLarge)) c e = absurd (omega arith)
  fault_raised (stops.Model (model.Unread faults.OutOfMemory)) c e = absurd (omega arith)
  fault_raised (stops.Model (model.TextRefused kind line)) c e = absurd (omega arith)
  fault_raised (stops.Model (model.TableUnread file faults.Failed)) c e = c.3.2.3
  fault_raised (stops.Model (model.TableUnread file faults.Missing)) c e = absurd (omega arith)
  fault_raised (stops.Model (model.TableUnread file faults.TooLarge)) c e = absurd (omega arith)
  fault_raised (stops.Model (model.TableUnread file faults.OutOfMemory)) c e = absurd (omega arith)
  fault_raised (stops.Model (model.TableRefused table (tables.Columns row))) c e = absurd (omega arith)
  fault_raised (stops.Model (model.TableRefused table (tables.Cell row))) c e = absurd (omega arith)
  fault_raised (stops.Model (model.TableRefused table (tables.DoubleKey row))) c e = absurd (omega arith)
  fault_raised (stops.Model (model.TableRefused table tables.TooManyRows)) c e = absurd (omega arith)
  fault_raised (stops.Model (model.TableRefused table tables.OutOfMemory)) c e = absurd (omega arith)
  fault_raised (stops.Model (model.Uncompiled compile.TooDeep)) c e = absurd (omega arith)
  fault_raised (stops.Model (model.Uncompiled compile.TooManySlots)) c e = absurd (omega arith)
  fault_raised (stops.Model (model.Uncompiled compile.TooManyRules)) c e = absurd (omega arith)
  fault_raised (stops.Model (model.Uncompiled compile.TooManyAtoms)) c e = absurd (omega arith)
  fault_raised (stops.Model (model.Uncompiled compile.TooManyCells)) c e = absurd (omega arith)
  fault_raised (stops.Model (model.Uncompiled (compile.Typing kind line))) c e = absurd (omega arith)
  fault_raised (stops.Model (model.Uncompiled compile.OutOfMemory)) c e = absurd (omega arith)
  fault_raised (stops.Model model.OutOfMemory) c e = absurd (omega arith)
  fault_raised (stops.Keeper fault) c e = absurd c.3
  fault_raised (stops.ScriptUnread faults.Failed) c e = c.3.2
  fault_raised (stops.ScriptUnread faults.Missing) c e = absurd (omega arith)
  fault_raised (stops.ScriptUnread faults.TooLarge) c e = absurd (omega arith)
  fault_raised (stops.ScriptUnread faults.OutOfMemory) c e = absurd (omega arith)

  says_stop : (status : ℕ) (stop : Stop) → StopsRun words o.files o.shelf_before o.shelf_after stop → Says words o stop
      → Stays → stop_status stop ≡ status → SaysStop words o Stays status
  says_stop status stop c says stays e = record { stop = stop; its = e; stops = c; says = says; stays = stays }

  refused_by : (stop : Stop) → StopsRun words o.files o.shelf_before o.shelf_after stop → Says words o stop → Stays
      → stop_status stop ≡ 2 → IsStatus words o k Stays 2
  refused_by stop c says stays e = model_refused_alone words o k Stays (says_stop 2 stop c says stays e)

  missing_by : (stop : Stop) → StopsRun words o.files o.shelf_before o.shelf_after stop → Says words o stop → Stays
      → stop_status stop ≡ 3 → IsStatus words o k Stays 3
  missing_by stop c says stays e = no_such_file_alone words o k Stays (says_stop 3 stop c says stays e)

  failed_by : (stop : Stop) → StopsRun words o.files o.shelf_before o.shelf_after stop → Says words o stop → Stays
      → stop_status stop ≡ 4 → IsStatus words o k Stays 4
  failed_by stop c says stays e =
      shelf_fault_alone words o k Stays (says_stop 4 stop c says stays e, fault_raised stop c e)

  large_by : (stop : Stop) → StopsRun words o.files o.shelf_before o.shelf_after stop → Says words o stop → Stays
      → stop_status stop ≡ 11 → IsStatus words o k Stays 11
  large_by stop c says stays e = too_large_alone words o k Stays (says_stop 11 stop c says stays e)

  fault_by : (stop : Stop) (fault : FileFault) → stop_status stop ≡ statuses.file_status fault
      → StopsRun words o.files o.shelf_before o.shelf_after stop → Ends words o k Stays (endings.Stopped stop)
      → Says words o stop → Stays
      → IsStatus words o k Stays (statuses.file_status fault)
  fault_by stop faults.Missing e c ends says stays = missing_by stop c says stays e
  fault_by stop faults.Failed e c ends says stays = failed_by stop c says stays e
  fault_by stop faults.TooLarge e c ends says stays = large_by stop c says stays e
  fault_by stop faults.OutOfMemory e c ends says stays = no_memory_alone words o k Stays (endings.Stopped stop, e, ends)

  table_by : (stop : Stop) (fault : TableFault) → stop_status stop ≡ statuses.table_status fault
      → StopsRun words o.files o.shelf_before o.shelf_after stop → Ends words o k Stays (endings.Stopped stop)
      → Says words o stop → Stays
      → IsStatus words o k Stays (statuses.table_status fault)
  table_by stop (tables.Columns row) e c ends says stays = refused_by stop c says stays e
  table_by stop (tables.Cell row) e c ends says stays = refused_by stop c says stays e
  table_by stop (tables.DoubleKey row) e c ends says stays = refused_by stop c says stays e
  table_by stop tables.TooManyRows e c ends says stays = refused_by stop c says stays e
  table_by stop tables.OutOfMemory e c ends says stays = no_memory_alone words o k Stays (endings.Stopped stop, e, ends)

  compile_by : (stop : Stop) (fault : CompileFault) → stop_status stop ≡ statuses.compile_status fault
      → StopsRun words o.files o.shelf_before o.shelf_after stop → Ends words o k Stays (endings.Stopped stop)
      → Says words o stop → Stays
      → IsStatus words o k Stays (statuses.compile_status fault)
  compile_by stop compile.TooDeep e c ends says stays = refused_by stop c says stays e
  compile_by stop compile.TooManySlots e c ends says stays = refused_by stop c says stays e
  compile_by stop compile.TooManyRules e c ends says stays = refused_by stop c says stays e
  compile_by stop compile.TooManyAtoms e c ends says stays = refused_by stop c says stays e
  compile_by stop compile.TooManyCells e c ends says stays = refused_by stop c says stays e
  compile_by stop (compile.Typing kind line) e c ends says stays = refused_by stop c says stays e
  compile_by stop compile.OutOfMemory e c ends says stays =
      no_memory_alone words o k Stays (endings.Stopped stop, e, ends)

  -- where the keeper was never begun, there is no job, and it stays
  jobless : (stop : Stop) → ((fault : KeepFault) → stop ≢ stops.Keeper fault) → StopCauses words o k Stays stop
      → Causes words o.files o.shelf_before o.shelf_after stop × Stays
  jobless stop other (without_job c stays) = (c, stays)
  jobless stop other (without_keeper job fault loads raises same) = absurd (other fault same)

  keeper_by : StopCauses words o k Stays (stops.Keeper keep_faults.Failed) → k.saved_after ≡ k.saved_before
      → Says words o (stops.Keeper keep_faults.Failed) → IsStatus words o k Stays 7
  keeper_by (without_job c stays) saved says = absurd c
  keeper_by (without_keeper job fault loads raises same) saved says =
      let is : fault ≡ keep_faults.Failed = cc in
      keeper_fault_alone words o k Stays (record {
        job = job;
        loads = loads;
        raised = subst (RaisesFor k.faults_before k.faults_after) is raises;
        says = says;
        saved = saved;
      })

  stopped_model : (stop : ModelStop) → Ends words o k Stays (endings.Stopped (stops.Model stop))
      → IsStatus words o k Stays (stop_status (stops.Model stop))
  stopped_model stop ends =
      let none = jobless (stops.Model stop) (λ fault e. cc) ends.0.cause in
      by stop none.0 ends none.1
    where
      by : (stop : ModelStop) → StopsRun words o.files o.shelf_before o.shelf_after (stops.Model stop)
          → Ends words o k Stays (endings.Stopped (stops.Model stop)) → Stays
          → IsStatus words o k Stays (stop_status (stops.Model stop))
      by (model.Unread fault) c ends stays =
          fault_by (stops.Model (model.Unread fault)) fault refl c ends ends.1 stays
      by (model.TextRefused kind line) c ends stays =
          refused_by (stops.Model (model.TextRefused kind line)) c ends.1 stays refl
      by (model.TableUnread file fault) c ends stays =
          fault_by (stops.Model (model.TableUnread file fault)) fault refl c ends ends.1 stays
      by (model.TableRefused table fault) c ends stays =
          table_by (stops.Model (model.TableRefused table fault)) fault refl c ends ends.1 stays
      by (model.Uncompiled fault) c ends stays =
          compile_by (stops.Model (model.Uncompiled fault)) fault refl c ends ends.1 stays
      by model.OutOfMemory c ends stays =
          no_memory_alone words o k Stays (endings.Stopped (stops.Model model.OutOfMemory), refl, ends)

  stopped : (stop : Stop) → Ends words o k Stays (endings.Stopped stop) → IsStatus words o k Stays (stop_status stop)
  stopped stops.Usage ends =
      let none = jobless stops.Usage (λ fault e. cc) ends.0.cause in
      usage_alone words o k Stays (none.0, ends.1, none.1)
  stopped (stops.Model stop) ends = stopped_model stop ends
  stopped (stops.ScriptUnread fault) ends =
      let none = jobless (stops.ScriptUnread fault) (λ other e. cc) ends.0.cause in
      fault_by (stops.ScriptUnread fault) fault refl none.0 ends ends.1 none.1
  stopped (stops.Keeper keep_faults.Failed) ends = keeper_by ends.0.cause ends.0.saved ends.1
  stopped (stops.Keeper keep_faults.OutOfMemory) ends =
      no_memory_alone words o k Stays (endings.Stopped (stops.Keeper keep_faults.OutOfMemory), refl, ends)

  -- what each ending promises
  ended : (ending : Ending) → Ends words o k Stays ending → HasSinkCause o.sink_before o.sink_after ending
      → IsStatus words o k Stays (status_of ending)
  ended endings.Answered ends cause = done_alone words o k Stays ends
  ended (endings.Stopped stop) ends cause = stopped stop ends
  ended endings.Exhausted ends cause = no_memory_alone words o k Stays (endings.Exhausted, refl, ends)
  ended (endings.MessageCut stop) ends cause =
      sink_fault_alone words o k Stays (cause, endings.MessageCut stop, refl, ends)
  ended endings.AnswerCut ends cause = sink_fault_alone words o k Stays (cause, endings.AnswerCut, refl, ends)
  ended endings.ExhaustedCut ends cause = sink_fault_alone words o k Stays (cause, endings.ExhaustedCut, refl, ends)

-- what an exit status promises
pub promised : (words : Words) (o : Outside) (k : Keeping) (Stays : Type 0) (status : ℕ)
    → EndsWith words o k Stays status → IsStatus words o k Stays status
promised words o k Stays status e =
    subst (λ s. IsStatus words o k Stays s) (sym e.number) (ended words o k Stays e.ending e.ends e.cause)
