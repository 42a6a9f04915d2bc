-- How the program ends, why, and what it has written then.
use Rattle.std.specs.Prelude.{◌≡◌, ℕ, ◌≤◌, List, [], ◌∷◌, length, map, codes, slice_get, Option, Result, Ok, Err}
use Rattle.std.specs.Prelude.{◌++◌, Some, string_bytes}
use Rattle.std.specs.Option.{option_map, option_map_or, option_to_list}
use Rattle.std.specs.Io.KnownBytes.{Appends}
use Rattle.std.specs.declared.string.String.{String}
use Rattle.std.specs.declared.alloc.Global.{Global}
use Rattle.vc_outside.specs.Faults.{Raised}
use Rattle.vc_outside.specs.Keepers.{RaisesFor}
use Rattle.vc_outside.specs.Shelves.{Files, Holds}
use Rattle.vc_outside.specs.Sinks.{AppendsFront}
use Rattle.vc_outside.specs.declared.fault.Failed.{Failed}
use Rattle.vc_outside.specs.declared.keeper.KeepFault.{KeepFault}
use Rattle.vc_outside.specs.declared.keeper.KeepFault.TheVariants as keep_faults
use Rattle.vc_outside.specs.declared.file.TheConstants.{FILE_LIMIT}
use Rattle.vc_plan.specs.declared.plans.Plan.{Plan}
use Rattle.vc_app_models.specs.Loading.{IsPlanIn, IsStop}
pub use Rattle.vc_app_models.specs.Loading.{IsUnread}
use Rattle.vc_app_models.specs.declared.stop.ModelStop.{ModelStop}
use Rattle.vc_app_models.specs.declared.stop.ModelStop.TheVariants.{OutOfMemory}
pub use Rattle.vc_app_check.specs.Checking.{Outside, outside}
pub use Rattle.vc_app_check.specs.Lines.{file_line}
use Rattle.vc_app_check.specs.Lines as lines
use Rattle.vc_app_check.specs.Lines.{keeper_line, memory_line}
use Rattle.vc_app_check.specs.Statuses as statuses
pub use Rattle.vc_desk.specs.Keeping.{Keeping, keeping}
use Rattle.vc_app_script.specs.Transcript.{AnswersAll, AnswersSome, BreaksOff}
use Rattle.vc_app_run.specs.declared.loading.Job.{Job}
use Rattle.vc_app_run.specs.declared.ending.Stop.{Stop}
use Rattle.vc_app_run.specs.declared.ending.Stop.TheVariants as stops
use Rattle.vc_app_run.specs.declared.ending.Ending.{Ending}
use Rattle.vc_app_run.specs.declared.ending.Ending.TheVariants as endings

abbrev pub Words : Type 0
Words = List (String Global)

-- the name of the file that keeps what is saved, if the words name one
abbrev pub keep_file : Words → Option (List ℕ)
keep_file words = option_map string_bytes (slice_get words 3)

-- the words are `run` and two names, and may be that of a file that keeps what is saved
abbrev pub IsRun : Words → List ℕ → List ℕ → Type 0
IsRun words model script =
    map string_bytes words ≡ codes "run" ∷ (model ∷ (script ∷ option_to_list (keep_file words)))

-- the words are no command
abbrev pub IsNoCommand : Words → Type 0
IsNoCommand words = (model script : List ℕ) → ¬ IsRun words model script

-- the files, where they are told, hold a model with its tables that has the job's plan, and its script
pub record LoadsJob (files : Option Files) (model script : List ℕ) (job : Job) : Type 0 where
  pub loads : IsPlanIn files model job.plan
  pub held : Holds files script job.script
  pub small : length job.script ≤ FILE_LIMIT

-- the words are those of a run, and the files hold the job
abbrev pub LoadsRun : Words → Option Files → Job → Type 0
LoadsRun words files job = (model : List ℕ) × (script : List ℕ) × IsRun words model script
    × LoadsJob files model script job

-- why the model and the script of these names are not there to be run: the model has no plan; or it has one, and the
-- script wasn't read
abbrev pub StopsJob : Option Files → ℕ → ℕ → List ℕ → List ℕ → Stop → Type 0
StopsJob files before after model script stops.Usage = ⊥
StopsJob files before after model script (stops.Model stop) = IsStop files before after model stop
StopsJob files before after model script (stops.ScriptUnread fault) =
    (plan : Plan) × IsPlanIn files model plan × IsUnread files before after script fault
StopsJob files before after model script (stops.Keeper fault) = ⊥

-- the words are those of a run, and what they name can't be run
abbrev pub StopsRun : Words → Option Files → ℕ → ℕ → Stop → Type 0
StopsRun words files before after stop =
    (model : List ℕ) × (script : List ℕ) × IsRun words model script × StopsJob files before after model script stop

-- why there is no job: the words are no command, or what they name can't be run
abbrev pub Causes : Words → Option Files → ℕ → ℕ → Stop → Type 0
Causes words files before after stops.Usage = IsNoCommand words
Causes words files before after (stops.Model stop) = StopsRun words files before after (stops.Model stop)
Causes words files before after (stops.ScriptUnread fault) =
    StopsRun words files before after (stops.ScriptUnread fault)
Causes words files before after (stops.Keeper fault) = ⊥

-- why nothing was answered: there is no job, and the keeper wasn't asked, so that what `Stays` says of it holds; or
-- there is one, and the keeper couldn't be begun
pub data StopCauses (words : Words) (o : Outside) (k : Keeping) (Stays : Type 0) (stop : Stop) : Type 0 where
  without_job : Causes words o.files o.shelf_before o.shelf_after stop → Stays → StopCauses words o k Stays stop
  without_keeper : (job : Job) (fault : KeepFault) → LoadsRun words o.files job
      → RaisesFor k.faults_before k.faults_after fault → stop ≡ stops.Keeper fault → StopCauses words o k Stays stop

-- nothing was answered for this reason, and what is saved is as before
pub record IsUnanswered (words : Words) (o : Outside) (k : Keeping) (Stays : Type 0) (stop : Stop) : Type 0 where
  pub cause : StopCauses words o k Stays stop
  pub saved : k.saved_after ≡ k.saved_before

-- a word by its place
abbrev pub word_at : Words → ℕ → List ℕ
word_at words place = option_map_or string_bytes (slice_get words place) []

-- the line that says why nothing was answered
abbrev pub stop_line : Words → Stop → List ℕ
stop_line words stops.Usage =
    codes "usage: configd check MODEL, run MODEL SCRIPT [KEEPFILE], serve MODEL ADDRESS N [KEEPFILE], "
    ++ codes "verify MODEL CHAIN, gen N\n"
stop_line words (stops.Model stop) = lines.stop_line (word_at words 1) stop
stop_line words (stops.ScriptUnread fault) = file_line (word_at words 2) fault
stop_line words (stops.Keeper fault) = keeper_line fault

-- the status where nothing was answered
abbrev pub stop_status : Stop → ℕ
stop_status stops.Usage = 1
stop_status (stops.Model stop) = statuses.stop_status stop
stop_status (stops.ScriptUnread fault) = statuses.file_status fault
stop_status (stops.Keeper keep_faults.Failed) = 7
stop_status (stops.Keeper keep_faults.OutOfMemory) = 8

-- the exit status
abbrev pub status_of : Ending → ℕ
status_of endings.Answered = 0
status_of (endings.Stopped stop) = stop_status stop
status_of endings.Exhausted = 8
status_of (endings.MessageCut stop) = 5
status_of endings.AnswerCut = 5
status_of endings.ExhaustedCut = 5

-- the first lines of the script are answered, and then the text is written, or a front of it
pub record IsAnsweredThen (plan : Plan) (script : List ℕ) (k : Keeping) (old new : Option (List ℕ))
    (Adds : Option (List ℕ) → Option (List ℕ) → Type 0) : Type 0 where
  pub between : Option (List ℕ)
  pub answered : AnswersSome plan script k old between
  pub added : Adds between new

-- how saying that memory was wanting ends
abbrev pub EndsExhausted : Option (List ℕ) → Option (List ℕ) → Ending → Type 0
EndsExhausted old new endings.Exhausted = Appends old new memory_line
EndsExhausted old new endings.ExhaustedCut = AppendsFront old new memory_line
EndsExhausted old new endings.Answered = ⊥
EndsExhausted old new endings.AnswerCut = ⊥
EndsExhausted old new (endings.Stopped stop) = ⊥
EndsExhausted old new (endings.MessageCut stop) = ⊥

-- how a job ends, and what it has written and saved then
abbrev pub EndsJob : Job → Keeping → Option (List ℕ) → Option (List ℕ) → Ending → Type 0
EndsJob job k old new endings.Answered = AnswersAll job.plan job.script k old new
EndsJob job k old new endings.Exhausted = IsAnsweredThen job.plan job.script k old new
    (λ a b. Appends a b memory_line)
EndsJob job k old new endings.AnswerCut = BreaksOff job.plan job.script k old new
EndsJob job k old new endings.ExhaustedCut = IsAnsweredThen job.plan job.script k old new
    (λ a b. AppendsFront a b memory_line)
EndsJob job k old new (endings.Stopped stop) = ⊥
EndsJob job k old new (endings.MessageCut stop) = ⊥

-- what is told of a stop: itself, or of a model's, where there is no memory for its line, want of memory
pub data IsToldAs (stop said : Stop) : Type 0 where
  itself : said ≡ stop → IsToldAs stop said
  exhausted : (of : ModelStop) → stop ≡ stops.Model of → said ≡ stops.Model OutOfMemory → IsToldAs stop said

-- the ending, by whether the line was written
abbrev pub said : Result Unit Failed → Stop → Ending
said (Ok done) stop = endings.Stopped stop
said (Err failed) stop = endings.MessageCut stop

-- how saying why nothing is answered ends, and what it has written then
abbrev pub EndsStop : Words → Stop → Option (List ℕ) → Option (List ℕ) → Ending → Type 0
EndsStop words stop old new (endings.Stopped told) = IsToldAs stop told × Appends old new (stop_line words told)
EndsStop words stop old new (endings.MessageCut told) = IsToldAs stop told × AppendsFront old new (stop_line words told)
EndsStop words stop old new endings.Answered = ⊥
EndsStop words stop old new endings.Exhausted = ⊥
EndsStop words stop old new endings.AnswerCut = ⊥
EndsStop words stop old new endings.ExhaustedCut = ⊥

-- an ending in which the sink failed is one where its count of faults rose
abbrev pub HasSinkCause : ℕ → ℕ → Ending → Type 0
HasSinkCause before after (endings.MessageCut stop) = Raised before after
HasSinkCause before after endings.AnswerCut = Raised before after
HasSinkCause before after endings.ExhaustedCut = Raised before after
HasSinkCause before after endings.Answered = Unit {0}
HasSinkCause before after endings.Exhausted = Unit {0}
HasSinkCause before after (endings.Stopped stop) = Unit {0}

-- the words are those of a run, the files hold the job, texts are saved where the words say, and it ends so
abbrev pub EndsRun : Words → Outside → Keeping → Ending → Type 0
EndsRun words o k ending = (job : Job) × LoadsRun words o.files job × (k.begun ≡ Some (keep_file words))
    × EndsJob job k o.written_before o.written_after ending

-- how the program ends, why, and what it has written then; where there is no job the keeper stays
abbrev pub Ends : Words → Outside → Keeping → Type 0 → Ending → Type 0
Ends words o k Stays (endings.Stopped stop) = IsUnanswered words o k Stays stop
    × Appends o.written_before o.written_after (stop_line words stop)
Ends words o k Stays (endings.MessageCut stop) = IsUnanswered words o k Stays stop
    × AppendsFront o.written_before o.written_after (stop_line words stop)
Ends words o k Stays endings.Answered = EndsRun words o k endings.Answered
Ends words o k Stays endings.Exhausted = EndsRun words o k endings.Exhausted
Ends words o k Stays endings.AnswerCut = EndsRun words o k endings.AnswerCut
Ends words o k Stays endings.ExhaustedCut = EndsRun words o k endings.ExhaustedCut

-- the exit status is that of an ending of the program, in which the sink failed only where its count of faults rose
pub record EndsWith (words : Words) (o : Outside) (k : Keeping) (Stays : Type 0) (status : ℕ) : Type 0 where
  pub ending : Ending
  pub number : status ≡ status_of ending
  pub ends : Ends words o k Stays ending
  pub cause : HasSinkCause o.sink_before o.sink_after ending
