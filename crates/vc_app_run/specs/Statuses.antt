-- What each exit status promises: one field a status. Of the keeper, where there is no job, it is what `Stays` says.
use Rattle.std.specs.Prelude.{◌≡◌, ℕ, [], ◌∷◌, ◌==◌, Bool, true, false}
use Rattle.std.specs.List.{list_any}
use Rattle.std.specs.Io.KnownBytes.{Appends}
use Rattle.vc_outside.specs.Faults.{Raised}
use Rattle.vc_outside.specs.declared.keeper.KeepFault.TheVariants.{Failed}
use Rattle.vc_app_run.specs.Endings.{Words, Outside, IsNoCommand, Keeping, LoadsRun, StopsRun, EndsRun, Ends, status_of}
use Rattle.vc_app_run.specs.Endings.{stop_line, stop_status}
use Rattle.vc_app_run.specs.declared.loading.Job.{Job}
use Rattle.vc_app_run.specs.declared.ending.Stop.{Stop}
use Rattle.vc_app_run.specs.declared.ending.Stop.TheVariants as stops
use Rattle.vc_app_run.specs.declared.ending.Ending.{Ending}
use Rattle.vc_app_run.specs.declared.ending.Ending.TheVariants as endings

-- the line that says why nothing was answered was written, and nothing else
abbrev pub Says : Words → Outside → Stop → Type 0
Says words o stop = Appends o.written_before o.written_after (stop_line words stop)

-- what the command names can't be run, for a reason that has this status, and it was said; the keeper stays
pub record SaysStop (words : Words) (o : Outside) (Stays : Type 0) (status : ℕ) : Type 0 where
  pub stop : Stop
  pub its : stop_status stop ≡ status
  pub stops : StopsRun words o.files o.shelf_before o.shelf_after stop
  pub says : Says words o stop
  pub stays : Stays

-- the job is there, but the keeper couldn't be begun as its count of faults rose, and it was said; what is saved is as
-- before
pub record SaysKeeper (words : Words) (o : Outside) (k : Keeping) : Type 0 where
  pub job : Job
  pub loads : LoadsRun words o.files job
  pub raised : Raised k.faults_before k.faults_after
  pub says : Says words o (stops.Keeper Failed)
  pub saved : k.saved_after ≡ k.saved_before

-- the sink failed in what was to be written: a message, or an answer or the word on memory behind whole answers
abbrev pub is_cut : Ending → Bool
is_cut (endings.MessageCut stop) = true
is_cut endings.AnswerCut = true
is_cut endings.ExhaustedCut = true
is_cut endings.Answered = false
is_cut endings.Exhausted = false
is_cut (endings.Stopped stop) = false

-- what the statuses promise
pub record IsStatus (words : Words) (o : Outside) (k : Keeping) (Stays : Type 0) (status : ℕ) : Type 0 where
  -- these and no others
  pub known : list_any (λ other. status == other) (0 ∷ (1 ∷ (2 ∷ (3 ∷ (4 ∷ (5 ∷ (7 ∷ (8 ∷ (11 ∷ []))))))))) ≡ true
  -- all lines of the script are answered, by the plan of the model, and texts are saved where the words say
  pub done : status ≡ 0 → EndsRun words o k endings.Answered
  -- the words are no command, and the keeper stays
  pub usage : status ≡ 1 → IsNoCommand words × Says words o stops.Usage × Stays
  -- the model's text or a table is refused, or the model is compiled to no plan
  pub model_refused : status ≡ 2 → SaysStop words o Stays 2
  -- a telling shelf has no such file
  pub no_such_file : status ≡ 3 → SaysStop words o Stays 3
  -- the shelf's count of faults rose
  pub shelf_fault : status ≡ 4 → SaysStop words o Stays 4 × Raised o.shelf_before o.shelf_after
  -- the sink's count of faults rose, and a front of what was to be written stands
  pub sink_fault : status ≡ 5 → Raised o.sink_before o.sink_after × (ending : Ending) ×
      (is_cut ending ≡ true) × Ends words o k Stays ending
  -- the keeper couldn't be begun
  pub keeper_fault : status ≡ 7 → SaysKeeper words o k
  -- before the script `no memory` alone, or whole answers and then that
  pub no_memory : status ≡ 8 → (ending : Ending) × (status_of ending ≡ 8) × Ends words o k Stays ending
  -- a file has too many bytes
  pub too_large : status ≡ 11 → SaysStop words o Stays 11
