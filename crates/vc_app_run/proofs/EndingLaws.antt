-- Laws of endings.
use Rattle.std.proofs.Common.{◌≡◌, ℕ, ◌<◌, ◌≤◌, Bool, true, List, [], ◌∷◌, length, get_or, sym, ◌∙◌, arith, subst}
use Rattle.std.proofs.Common.{Option, Some, Result, Ok, Err, IfOk, IfErr, OnOk, OnErr}
use Rattle.std.specs.Prelude.{codes, string_bytes}
use Rattle.std.specs.Str.{bytes_eq}
use Rattle.std.specs.declared.string.String.{String}
use Rattle.std.specs.declared.alloc.Global.{Global}
use Rattle.std.proofs.lemmas.Slice.Eq.{bytes_eq-Decides}
use Rattle.std.specs.Io.KnownBytes.{Appends}
use Rattle.vc_outside.specs.Faults.{HasCause}
use Rattle.vc_outside.specs.Keepers.{Texts}
use Rattle.vc_outside.specs.Shelves.{Files}
use Rattle.vc_outside.specs.Sinks.{AppendsFront}
use Rattle.vc_outside.specs.declared.fault.Failed.{Failed}
use Rattle.vc_app_run.specs.Endings.{Words, Outside, Keeping, IsRun, IsToldAs, LoadsJob, LoadsRun, StopsJob}
use Rattle.vc_app_run.specs.Endings.{Causes, StopCauses, EndsJob, EndsStop, Ends, HasSinkCause, exhausted, itself}
use Rattle.vc_app_run.specs.Endings.{keep_file, keeping, said, stop_line, without_job, without_keeper}
use Rattle.vc_app_run.specs.declared.loading.Job.{Job}
use Rattle.vc_app_run.specs.declared.ending.Stop.{Stop}
use Rattle.vc_app_run.specs.declared.ending.Stop.TheVariants as stops
use Rattle.vc_app_run.specs.declared.ending.Ending.{Ending}
use Rattle.vc_app_run.specs.declared.ending.Ending.TheVariants as endings

-- what stops a job of the command's names is the cause
run_stops : (words : Words) (files : Option Files) (before after : ℕ) (model script : List ℕ) (stop : Stop)
    → IsRun words model script → StopsJob files before after model script stop → Causes words files before after stop
run_stops words files before after model script stops.Usage command h = absurd h
run_stops words files before after model script (stops.Model stop) command h = (model, script, command, h)
run_stops words files before after model script (stops.ScriptUnread fault) command h = (model, script, command, h)
run_stops words files before after model script (stops.Keeper fault) command h = absurd h

pub run_causes : {A : Type 0} (r : Result A Stop) (words : Words) (files : Option Files) (before after : ℕ)
    (model script : List ℕ)
    → IsRun words model script → IfErr r (StopsJob files before after model script)
    → IfErr r (Causes words files before after)
run_causes (Ok x) words files before after model script command h = tt
run_causes (Err stop) words files before after model script command h =
    run_stops words files before after model script stop command h

pub run_loads : {E : Type 0} (r : Result Job E) (words : Words) (files : Option Files) (model script : List ℕ)
    → IsRun words model script → IfOk r (LoadsJob files model script) → IfOk r (LoadsRun words files)
run_loads (Ok job) words files model script command h = (model, script, command, h)
run_loads (Err e) words files model script command h = tt

-- a job ends so, whatever the keeper told before it was begun
pub job_begun : (job : Job) (told before start after : Option Texts) (faults_before faults_after : ℕ)
    (begun : Option (Option (List ℕ))) (old new : Option (List ℕ)) (ending : Ending)
    → EndsJob job (keeping told start after faults_before faults_after begun) old new ending
    → EndsJob job (keeping before start after faults_before faults_after begun) old new ending
job_begun job told before start after f g begun old new endings.Answered h = record {
  last = h.last;
  answered = h.answered;
}
job_begun job told before start after f g begun old new endings.Exhausted h = record {
  between = h.between;
  answered = record { last = h.answered.last; answered = h.answered.answered };
  added = h.added;
}
job_begun job told before start after f g begun old new endings.AnswerCut h = record {
  last = h.last;
  answered = h.answered;
}
job_begun job told before start after f g begun old new endings.ExhaustedCut h = record {
  between = h.between;
  answered = record { last = h.answered.last; answered = h.answered.answered };
  added = h.added;
}
job_begun job told before start after f g begun old new (endings.Stopped stop) h = h
job_begun job told before start after f g begun old new (endings.MessageCut stop) h = h

-- a job that the words ask for ends so
pub job_ends : (words : Words) (o : Outside) (k : Keeping) (Stays : Type 0) (job : Job) (ending : Ending)
    → LoadsRun words o.files job → k.begun ≡ Some (keep_file words)
    → EndsJob job k o.written_before o.written_after ending → Ends words o k Stays ending
job_ends words o k Stays job endings.Answered loads begun ends = (job, loads, begun, ends)
job_ends words o k Stays job endings.Exhausted loads begun ends = (job, loads, begun, ends)
job_ends words o k Stays job endings.AnswerCut loads begun ends = (job, loads, begun, ends)
job_ends words o k Stays job endings.ExhaustedCut loads begun ends = (job, loads, begun, ends)
job_ends words o k Stays job (endings.Stopped stop) loads begun ends = absurd ends
job_ends words o k Stays job (endings.MessageCut stop) loads begun ends = absurd ends

-- three words or four, of which the first is `run`
pub run_words : (words : Words) (a b d : String Global) (command model script : List ℕ) (is_run : Bool)
    → 3 ≤ length words → length words < 5 → a ≡ get_or words 0 a → b ≡ get_or words 1 b → d ≡ get_or words 2 d
    → command ≡ string_bytes a → model ≡ string_bytes b → script ≡ string_bytes d
    → is_run ≡ bytes_eq command (codes "run") → is_run ≡ true → IsRun words model script
run_words [] a b d command model script is_run least most p q r s t u test holds = absurd (omega arith)
run_words (x ∷ []) a b d command model script is_run least most p q r s t u test holds = absurd (omega arith)
run_words (x ∷ y ∷ []) a b d command model script is_run least most p q r s t u test holds = absurd (omega arith)
run_words (x ∷ y ∷ z ∷ []) a b d command model script is_run least most p q r s t u test holds =
    let run : command ≡ codes "run" = (bytes_eq-Decides command (codes "run")).0 (sym test ∙ holds) in
    cc
run_words (x ∷ y ∷ z ∷ w ∷ []) a b d command model script is_run least most p q r s t u test holds =
    let run : command ≡ codes "run" = (bytes_eq-Decides command (codes "run")).0 (sym test ∙ holds) in
    cc
run_words (x ∷ y ∷ z ∷ w ∷ v ∷ more) a b d command model script is_run least most p q r s t u test holds = absurd
    (omega arith)

-- what is told of a stop has its cause
told_causes : (words : Words) (o : Outside) (k : Keeping) (Stays : Type 0) (stop told : Stop) → IsToldAs stop told
    → StopCauses words o k Stays stop → StopCauses words o k Stays told
told_causes words o k Stays stop told (itself same) c = subst (StopCauses words o k Stays) (sym same) c
told_causes words o k Stays stop told (exhausted of is same) (without_job c stays) =
    let run : Causes words o.files o.shelf_before o.shelf_after (stops.Model of) =
    subst (Causes words o.files o.shelf_before o.shelf_after) is c in
    without_job (subst (Causes words o.files o.shelf_before o.shelf_after) (sym same) (run.0, run.1, run.2, tt))
    stays
told_causes words o k Stays stop told (exhausted of is same) (without_keeper job fault loads raises keeper) =
    absurd (let no : stops.Model of ≡ stops.Keeper fault = sym is ∙ keeper in cc)

pub stop_ends : (words : Words) (o : Outside) (k : Keeping) (Stays : Type 0) (stop : Stop) (ending : Ending)
    → StopCauses words o k Stays stop → k.saved_after ≡ k.saved_before
    → EndsStop words stop o.written_before o.written_after ending → Ends words o k Stays ending
stop_ends words o k Stays stop (endings.Stopped told) c saved ends =
    (record { cause = told_causes words o k Stays stop told ends.0 c; saved = saved }, ends.1)
stop_ends words o k Stays stop (endings.MessageCut told) c saved ends =
    (record { cause = told_causes words o k Stays stop told ends.0 c; saved = saved }, ends.1)
stop_ends words o k Stays stop endings.Answered c saved ends = absurd ends
stop_ends words o k Stays stop endings.Exhausted c saved ends = absurd ends
stop_ends words o k Stays stop endings.AnswerCut c saved ends = absurd ends
stop_ends words o k Stays stop endings.ExhaustedCut c saved ends = absurd ends

-- how saying it ends, by whether its line was written
pub said_ends : (words : Words) (stop told : Stop) (old new : Option (List ℕ)) (written : Result Unit Failed)
    → IsToldAs stop told
    → OnOk written (Appends old new (stop_line words told))
    → OnErr written (AppendsFront old new (stop_line words told))
    → EndsStop words stop old new (said written told)
said_ends words stop told old new (Ok done) told_as ok err = (told_as, ok)
said_ends words stop told old new (Err failed) told_as ok err = (told_as, err)

pub said_cause : (told : Stop) (before after : ℕ) (written : Result Unit Failed) → HasCause before after written
    → HasSinkCause before after (said written told)
said_cause told before after (Ok done) cause = tt
said_cause told before after (Err failed) cause = cause.failed
