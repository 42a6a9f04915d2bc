-- What is said of a model is how `check` ends, and nothing else can be due.
use Rattle.std.proofs.Common.{◌≡◌, ◌≢◌, ℕ, Bool, true, false, if◌then◌else◌, List, Option, Some, refl, ap, sym, subst}
use Rattle.std.proofs.Common.{◌∙◌}
use Rattle.std.specs.Io.KnownBytes.{Appends}
use Rattle.std.specs.declared.alloc.Global.{Global}
use denote.RawPtr.{null_ptr}
use Rattle.vc_outside.specs.Faults.{Raised}
use Rattle.vc_outside.specs.Shelves.{Files}
use Rattle.vc_outside.specs.declared.file.FileFault.{FileFault}
use Rattle.vc_outside.specs.declared.file.FileFault.TheVariants as faults
use Rattle.vc_plan.specs.declared.plans.Plan.{Plan}
use Rattle.vc_compile_plan.specs.Trees.{Spot}
use Rattle.vc_app_models.specs.Loading.{IsPlanIn, IsStop}
use Rattle.vc_app_models.specs.declared.stop.ModelStop.{ModelStop}
use Rattle.vc_app_models.specs.declared.stop.ModelStop.TheVariants as stops
use Rattle.vc_app_models.proofs.OneLaws.{AreAsLarge, IsTold, IsToldFault, as_large, no_stop, one_stop}
use Rattle.vc_app_check.specs.Checking.{Answer, EndsCheck, IsAnswer, IsGiven, IsQuiet, IsSaid, IsWritten, Outside}
use Rattle.vc_app_check.specs.Checking.{answer_line, answer_status, counted, stopped}
use Rattle.vc_app_check.specs.Lines.{counts_line, counts_of, memory_line, stop_line}
use Rattle.vc_app_check.specs.Statuses.{compile_status, file_status, stop_status}

-- some place in memory: what is said of all of them holds there
abbrev pub some_spot : Global → Spot
some_spot alloc = record { ptr = null_ptr; alloc = alloc; value = tt }

-- what has another status than want of memory is told
pub told_fault : (fault : FileFault) → file_status fault ≢ 8 → IsToldFault fault
told_fault faults.Missing memory = tt
told_fault faults.Failed memory = tt
told_fault faults.TooLarge memory = tt
told_fault faults.OutOfMemory memory = memory refl

pub told_stop : (stop : ModelStop) → stop_status stop ≢ 8 → IsTold stop
told_stop (stops.Unread fault) memory = told_fault fault memory
told_stop (stops.TextRefused kind line) memory = tt
told_stop (stops.TableUnread file fault) memory = told_fault fault memory
told_stop (stops.TableRefused table fault) memory = tt
told_stop (stops.Uncompiled fault) memory = λ e. memory (ap compile_status e)
told_stop stops.OutOfMemory memory = memory refl

-- two plans of one name have the same counts
same_counts : (files : Files) (name : List ℕ) (a b : Plan) → IsPlanIn (Some files) name a
    → IsPlanIn (Some files) name b → counts_of a ≡ counts_of b
same_counts files name a b x y =
    let large : AreAsLarge a b = as_large files name a b x y in λ i.
    record {
      slots = large.slots i;
      variables = large.variables i;
      rules = large.rules i;
      atoms = large.atoms i;
      cells = large.cells i;
    }

-- two answers of one name are told alike
module _ (p : Spot) (files : Files) (name : List ℕ) (o : Outside) where
  abbrev Has : Plan → Type 0
  Has plan = IsPlanIn (Some files) name plan

  abbrev Stops : ModelStop → Type 0
  Stops stop = IsStop (Some files) o.shelf_before o.shelf_after name stop

  abbrev Due : Answer → Type 0
  Due (counted plan) = Has plan
  Due (stopped stop) = Stops stop

  due : (a : Answer) → o.files ≡ Some files → IsAnswer name o a → Due a
  due (counted plan) told is = subst (λ fs. IsPlanIn fs name plan) told is
  due (stopped stop) told is = subst (λ fs. IsStop fs o.shelf_before o.shelf_after name stop) told is

  alike : (a b : Answer) → ¬ Raised o.shelf_before o.shelf_after → answer_status a ≢ 8 → answer_status b ≢ 8
      → Due a → Due b → (answer_line name a ≡ answer_line name b) × (answer_status a ≡ answer_status b)
  alike (counted a) (counted b) quiet memory_a memory_b x y = (ap counts_line (same_counts files name a b x y), refl)
  alike (counted a) (stopped b) quiet memory_a memory_b x y =
      absurd (no_stop p files o.shelf_before o.shelf_after name a b quiet (told_stop b memory_b) x y)
  alike (stopped a) (counted b) quiet memory_a memory_b x y =
      absurd (no_stop p files o.shelf_before o.shelf_after name b a quiet (told_stop a memory_a) y x)
  alike (stopped a) (stopped b) quiet memory_a memory_b x y =
      let same : a ≡ b
      = one_stop p files o.shelf_before o.shelf_after name a b quiet (told_stop a memory_a) (told_stop b memory_b) x
      y in
      (ap (stop_line name) same, ap stop_status same)

-- so what is due is what was said
given : Spot → (name : List ℕ) (o : Outside) (status : ℕ) (answer : Answer) (whole : Bool) → IsAnswer name o answer
    → IsWritten whole o.written_before o.written_after o.sink_before o.sink_after (answer_line name answer)
    → status ≡ (if whole then answer_status answer else 5)
    → (files : Files) (due_answer : Answer) → IsQuiet o files status → answer_status due_answer ≢ 8
    → IsAnswer name o due_answer → IsGiven name o status due_answer
given p name o status answer true is written ends files other quiet memory is_other =
    let same : (answer_line name answer ≡ answer_line name other) × (answer_status answer ≡ answer_status other)
    = alike p files name o answer other quiet.shelf (λ eight. quiet.memory (ends ∙ eight)) memory
    (due p files name o answer quiet.told is) (due p files name o other quiet.told is_other) in
    record { line = subst (Appends o.written_before o.written_after) same.0 written; ends = ends ∙ same.1 }
given p name o status answer false is written ends files other quiet memory is_other =
    absurd (quiet.sink written.raised)

ends_with : Spot → (name : List ℕ) (o : Outside) (status : ℕ) (answer : Answer) → IsAnswer name o answer
    → IsSaid o.written_before o.written_after o.sink_before o.sink_after (answer_line name answer)
    (answer_status answer) status
    → EndsCheck name o status
ends_with p name o status answer is said = record {
  answer = answer;
  is = is;
  said = said;
  exact = given p name o status answer said.whole is said.written said.ends;
}

pub plan_said : Spot → (name : List ℕ) (o : Outside) (plan : Plan) (line : List ℕ) (status : ℕ)
    → IsPlanIn o.files name plan → line ≡ counts_line (counts_of plan)
    → IsSaid o.written_before o.written_after o.sink_before o.sink_after line 0 status
    → EndsCheck name o status
plan_said p name o plan line status is tells said =
    ends_with p name o status (counted plan) is
    (subst (λ told. IsSaid o.written_before o.written_after o.sink_before o.sink_after told 0 status) tells said)

pub stop_said : Spot → (name : List ℕ) (o : Outside) (stop : ModelStop) (line : List ℕ) (own status : ℕ)
    → IsStop o.files o.shelf_before o.shelf_after name stop → line ≡ stop_line name stop → own ≡ stop_status stop
    → IsSaid o.written_before o.written_after o.sink_before o.sink_after line own status → EndsCheck name o status
stop_said p name o stop line own status is tells ends said =
    ends_with p name o status (stopped stop) is
    (subst (λ number. IsSaid o.written_before o.written_after o.sink_before o.sink_after (stop_line name stop)
    number status) ends
    (subst (λ told. IsSaid o.written_before o.written_after o.sink_before o.sink_after told own status) tells said))

pub memory_said : Spot → (name : List ℕ) (o : Outside) (status : ℕ)
    → IsSaid o.written_before o.written_after o.sink_before o.sink_after memory_line 8 status → EndsCheck name o status
memory_said p name o status said = ends_with p name o status (stopped stops.OutOfMemory) tt said
