-- What is told of a claim, or of what stops it, is how `verify` ends, and nothing else can be due.
use Rattle.std.proofs.Common.{◌≡◌, ◌≢◌, ℕ, Bool, true, false, if◌then◌else◌, List, refl, ap, sym, subst, ◌∙◌}
use Rattle.std.proofs.Common.{Some, Result, Ok, Err}
use Rattle.std.specs.Prelude.{IfOk}
use Rattle.std.proofs.lemmas.Option.{same_Some}
use Rattle.vc_outside.specs.Faults.{Raised}
use Rattle.vc_outside.specs.Shelves.{Files}
use Rattle.vc_outside.specs.declared.file.FileFault.{FileFault}
use Rattle.vc_compile_plan.specs.Trees.{Spot}
use Rattle.vc_app_models.specs.Loading.{IsUnread}
use Rattle.vc_app_models.specs.declared.stop.ModelStop.TheVariants.{OutOfMemory}
use Rattle.vc_app_models.proofs.OneLaws.{IsHeldFault, held, is_held, no_stop, one_held_fault, one_stop, unread_is}
use Rattle.vc_app_check.specs.Checking.{IsQuiet, IsSaid, IsWritten, Outside}
use Rattle.vc_app_check.specs.Statuses as statuses
use Rattle.vc_app_check.proofs.CheckLaws.{told_fault, told_stop}
use Rattle.vc_app_verify.specs.Claims.{IsClaim, IsNoClaim}
use Rattle.vc_app_verify.specs.Telling.{claim_told, stop_told, told_or_memory}
use Rattle.vc_app_verify.specs.Verifying.{Answer, EndsVerify, IsAnswer, IsGiven, IsJudged, answer_told}
use Rattle.vc_app_verify.specs.Verifying.{judged, stopped}
use Rattle.vc_app_verify.specs.declared.claims.Claim.{Claim}
use Rattle.vc_app_verify.specs.declared.claims.Stop.{Stop}
use Rattle.vc_app_verify.specs.declared.claims.Stop.TheVariants as stops
use Rattle.vc_app_verify.specs.declared.telling.Told.{Told}

-- what stops a model and a chain file that are told is one thing, where no count of the shelf's faults rose; and
-- nothing stops a claim
module _ (p : Spot) (files : Files) (before after : ℕ) (quiet : ¬ Raised before after) (model chain : List ℕ) where
  abbrev Stops : Stop → Type 0
  Stops stop = IsNoClaim (Some files) before after model chain stop

  abbrev IsFree : Stop → Type 0
  IsFree stop = (stop_told model chain stop).status ≢ 8

  fault_is : (fault : FileFault) → statuses.file_status fault ≢ 8 → IsUnread (Some files) before after chain fault
      → IsHeldFault (held files chain) fault
  fault_is fault memory unread = unread_is files before after chain fault quiet (told_fault fault memory) unread

  one_cause : (a b : Stop) → IsFree a → IsFree b → Stops a → Stops b → a ≡ b
  one_cause (stops.Model a) (stops.Model b) memory_a memory_b x y =
      ap stops.Model
      (one_stop p files before after model a b quiet (told_stop a memory_a) (told_stop b memory_b) x y)
  one_cause (stops.Model a) (stops.ChainUnread b) memory_a memory_b x y =
      absurd (no_stop p files before after model y.0 a quiet (told_stop a memory_a) y.1 x)
  one_cause (stops.ChainUnread a) (stops.Model b) memory_a memory_b x y =
      absurd (no_stop p files before after model x.0 b quiet (told_stop b memory_b) x.1 y)
  one_cause (stops.ChainUnread a) (stops.ChainUnread b) memory_a memory_b x y =
      ap stops.ChainUnread
      (one_held_fault (held files chain) a b (fault_is a memory_a x.2) (fault_is b memory_b y.2))

  no_cause : (claim : Claim) (stop : Stop) → IsFree stop → IsClaim (Some files) model chain claim → Stops stop → ⊥
  no_cause claim (stops.Model stop) memory x y =
      no_stop p files before after model claim.plan stop quiet (told_stop stop memory) x.loads y
  no_cause claim (stops.ChainUnread fault) memory x y =
      subst (λ h. IsHeldFault h fault) (is_held files chain claim.text x.held x.small) (fault_is fault memory y.2)

  one_text : (a b : Claim) → IsClaim (Some files) model chain a → IsClaim (Some files) model chain b → a.text ≡ b.text
  one_text a b x y = same_Some a.text b.text (sym x.held ∙ y.held)

-- so what was said is what is due
module _ (p : Spot) (model chain : List ℕ) (o : Outside) (status : ℕ) (files : Files) (q : IsQuiet o files status) where
  caused : (stop : Stop) → IsNoClaim o.files o.shelf_before o.shelf_after model chain stop
      → IsNoClaim (Some files) o.shelf_before o.shelf_after model chain stop
  caused stop cause = subst (λ fs. IsNoClaim fs o.shelf_before o.shelf_after model chain stop) q.told cause

  claimed : (claim : Claim) → IsClaim o.files model chain claim → IsClaim (Some files) model chain claim
  claimed claim is = subst (λ fs. IsClaim fs model chain claim) q.told is

  -- all was written, as the sink didn't fail
  given : (told : Told) (whole : Bool)
      → IsWritten whole o.written_before o.written_after o.sink_before o.sink_after told.line
      → status ≡ (if whole then told.status else 5) → IsGiven o status told
  given told true written ends = record { line = written; ends = ends }
  given told false written ends = absurd (q.sink written.raised)

  stop_due : (answer : Answer) → IsAnswer model chain o answer → IsGiven o status (answer_told model chain answer)
      → (stop : Stop) → (stop_told model chain stop).status ≢ 8
      → IsNoClaim o.files o.shelf_before o.shelf_after model chain stop → IsGiven o status (stop_told model chain stop)
  stop_due (judged claim) is was stop memory cause =
      absurd (no_cause p files o.shelf_before o.shelf_after q.shelf model chain claim stop memory (claimed claim is)
      (caused stop cause))
  stop_due (stopped other) is was stop memory cause =
      subst (λ s. IsGiven o status (stop_told model chain s))
      (one_cause p files o.shelf_before o.shelf_after q.shelf model chain other stop
      (λ eight. q.memory (was.ends ∙ eight)) memory (caused other is) (caused stop cause)) was

  claim_due : (answer : Answer) → IsAnswer model chain o answer → IsGiven o status (answer_told model chain answer)
      → (claim : Claim) → IsClaim o.files model chain claim → IsJudged model o status claim.text
  claim_due (judged other) is was claim due = record {
    plan = other.plan;
    loads = is.loads;
    given = subst (λ text. IsGiven o status (claim_told (record { plan = other.plan; text = text })))
        (one_text p files o.shelf_before o.shelf_after q.shelf model chain other claim (claimed other is)
        (claimed claim due)) was;
  }
  claim_due (stopped other) is was claim due =
      absurd (no_cause p files o.shelf_before o.shelf_after q.shelf model chain claim other
      (λ eight. q.memory (was.ends ∙ eight)) (claimed claim due) (caused other is))

ends_with : Spot → (model chain : List ℕ) (o : Outside) (status : ℕ) (answer : Answer) (told : Told)
    → IsAnswer model chain o answer → told ≡ answer_told model chain answer
    → IsSaid o.written_before o.written_after o.sink_before o.sink_after told.line told.status status
    → EndsVerify model chain o status
ends_with p model chain o status answer told is tells was =
    let said
    : IsSaid o.written_before o.written_after o.sink_before o.sink_after (answer_told model chain answer).line
    (answer_told model chain answer).status status
    = subst (λ t. IsSaid o.written_before o.written_after o.sink_before o.sink_after t.line t.status status) tells was
    in
    record {
      answer = answer;
      is = is;
      said = said;
      exact = λ files stop q memory cause.
          stop_due p model chain o status files q answer is
          (given p model chain o status files q (answer_told model chain answer) said.whole said.written said.ends)
          stop memory cause;
      complete = λ files claim q due.
          claim_due p model chain o status files q answer is
          (given p model chain o status files q (answer_told model chain answer) said.whole said.written said.ends)
          claim due;
    }

-- what is told of an answer, or that there was no memory for it
said_of : Spot → {E : Type 0} → (model chain : List ℕ) (o : Outside) (status : ℕ) (answer : Answer)
    (told : Result Told E) → IsAnswer model chain o answer
    → IfOk told (λ told. told ≡ answer_told model chain answer)
    → IsSaid o.written_before o.written_after o.sink_before o.sink_after (told_or_memory told).line
    (told_or_memory told).status status
    → EndsVerify model chain o status
said_of p model chain o status answer (Ok told) is tells said =
    ends_with p model chain o status answer told is tells said
said_of p model chain o status answer (Err error) is tells said =
    ends_with p model chain o status (stopped (stops.Model OutOfMemory)) (told_or_memory (Err error)) tt refl said

pub claim_said : Spot → {E : Type 0} → (model chain : List ℕ) (o : Outside) (status : ℕ) (claim : Claim)
    (told : Result Told E) → IsClaim o.files model chain claim → IfOk told (λ told. told ≡ claim_told claim)
    → IsSaid o.written_before o.written_after o.sink_before o.sink_after (told_or_memory told).line
    (told_or_memory told).status status
    → EndsVerify model chain o status
claim_said p model chain o status claim told is tells said =
    said_of p model chain o status (judged claim) told is tells said

pub stop_said : Spot → {E : Type 0} → (model chain : List ℕ) (o : Outside) (status : ℕ) (stop : Stop)
    (told : Result Told E) → IsNoClaim o.files o.shelf_before o.shelf_after model chain stop
    → IfOk told (λ told. told ≡ stop_told model chain stop)
    → IsSaid o.written_before o.written_after o.sink_before o.sink_after (told_or_memory told).line
    (told_or_memory told).status status
    → EndsVerify model chain o status
stop_said p model chain o status stop told is tells said =
    said_of p model chain o status (stopped stop) told is tells said
