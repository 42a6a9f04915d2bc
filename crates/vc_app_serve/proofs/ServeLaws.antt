-- What stops a model is told, and by files that are told nothing else can be due.
use Rattle.std.proofs.Common.{◌≡◌, ◌≢◌, ℕ, Bool, true, false, if◌then◌else◌, List, Option, Some, Result, Ok, Err, sym}
use Rattle.std.proofs.Common.{◌∙◌, subst}
use Rattle.std.specs.Io.KnownBytes.{Appends}
use Rattle.vc_outside.specs.Faults.{Raised}
use Rattle.vc_outside.specs.Keepers.{Texts}
use Rattle.vc_outside.specs.Shelves.{Files}
use Rattle.vc_outside.specs.declared.keeper.KeepFault.TheVariants as keep_faults
use Rattle.vc_plan.specs.declared.plans.Plan.{Plan}
use Rattle.vc_compile_plan.specs.Trees.{Spot}
use Rattle.vc_desk.specs.Keeping.{Keeping, keeping}
use Rattle.vc_desk.specs.States.{kept, start_state}
use Rattle.vc_app_models.specs.Loading.{IsPlanIn, IsStop}
use Rattle.vc_app_models.specs.declared.stop.ModelStop.{ModelStop}
use Rattle.vc_app_models.proofs.OneLaws.{no_stop, one_stop}
use Rattle.vc_app_check.specs.Checking.{IsQuiet, IsSaid, IsWritten, Outside}
use Rattle.vc_app_check.proofs.CheckLaws.{told_stop}
use Rattle.vc_app_serve.specs.Serving.{AtDoor, DeskEnds, Ends, EndsFromStart, EndsServe, IsRefused, PlanEnds, Read}
use Rattle.vc_app_serve.specs.Serving.{Says, Service, read_by}
use Rattle.vc_app_serve.specs.Telling.{IsToldAs, IsToldOf, exhausted, itself, stop_line, stop_status}
use Rattle.vc_app_serve.specs.Visits.{Telling}
use Rattle.vc_app_serve.specs.declared.stop.Stop.{Stop}
use Rattle.vc_app_serve.specs.declared.stop.Stop.TheVariants as stops

-- all was written, as the sink didn't fail
module _ (o : Outside) (status : ℕ) (files : Files) (q : IsQuiet o files status) where
  was_whole : (whole : Bool) (line : List ℕ) (own : ℕ)
      → IsWritten whole o.written_before o.written_after o.sink_before o.sink_after line
      → status ≡ (if whole then own else 5)
      → Appends o.written_before o.written_after line × (status ≡ own)
  was_whole true line own written ends = (written, ends)
  was_whole false line own written ends = absurd (q.sink written.raised)

  was_said : (line : List ℕ) (own : ℕ)
      → IsSaid o.written_before o.written_after o.sink_before o.sink_after line own status
      → Appends o.written_before o.written_after line × (status ≡ own)
  was_said line own said = was_whole said.whole line own said.written said.ends

-- what files that are told hold of a model: a plan, or what stops it, and one alone
module _ (p : Spot) (name : List ℕ) (o : Outside) (status : ℕ) (files : Files) (q : IsQuiet o files status) where
  planned : (plan : Plan) → IsPlanIn o.files name plan → IsPlanIn (Some files) name plan
  planned plan has = subst (λ fs. IsPlanIn fs name plan) q.told has

  caused : (stop : ModelStop) → IsStop o.files o.shelf_before o.shelf_after name stop
      → IsStop (Some files) o.shelf_before o.shelf_after name stop
  caused stop cause = subst (λ fs. IsStop fs o.shelf_before o.shelf_after name stop) q.told cause

  never_both : (plan : Plan) (stop : ModelStop) → stop_status (stops.Model stop) ≢ 8 → IsPlanIn o.files name plan
      → IsStop o.files o.shelf_before o.shelf_after name stop → ⊥
  never_both plan stop memory has cause =
      no_stop p files o.shelf_before o.shelf_after name plan stop q.shelf (told_stop stop memory) (planned plan has)
      (caused stop cause)

  one_alone : (a b : ModelStop) → stop_status (stops.Model a) ≢ 8 → stop_status (stops.Model b) ≢ 8
      → IsStop o.files o.shelf_before o.shelf_after name a → IsStop o.files o.shelf_before o.shelf_after name b → a ≡ b
  one_alone a b memory_a memory_b x y =
      one_stop p files o.shelf_before o.shelf_after name a b q.shelf (told_stop a memory_a) (told_stop b memory_b)
      (caused a x) (caused b y)

-- so what was said is what is due
module _ (p : Spot) {C : Type 0} (tells : Telling C) (s : Service) (o : Outside) (k : Keeping) (Stays : Type 0)
    (d : AtDoor C) (status : ℕ) (files : Files) (q : IsQuiet o files status) where
  stop_due : (end : Result Unit Stop) → Ends tells s (read_by o) k Stays d end → Says s o status end
      → (stop : ModelStop) → stop_status (stops.Model stop) ≢ 8
      → IsStop o.files o.shelf_before o.shelf_after s.model stop → IsRefused s o status stop
  stop_due (Ok done) ends says stop memory cause =
      absurd (never_both p s.model o status files q ends.plan stop memory ends.loads cause)
  stop_due (Err (stops.Model other)) ends says stop memory cause =
      let was = was_said o status files q (stop_line s.model (stops.Model other)) (stop_status (stops.Model other))
      says in
      subst (IsRefused s o status)
      (one_alone p s.model o status files q other stop (λ eight. q.memory (was.1 ∙ eight)) memory ends.cause cause)
      (record { line = was.0; ends = was.1 })
  stop_due (Err (stops.Keeper fault)) ends says stop memory cause =
      absurd (never_both p s.model o status files q ends.plan stop memory ends.loads cause)
  stop_due (Err stops.OutOfMemory) ends says stop memory cause =
      absurd (never_both p s.model o status files q ends.plan stop memory ends.loads cause)
  stop_due (Err stops.Door) ends says stop memory cause =
      absurd (never_both p s.model o status files q ends.plan stop memory ends.loads cause)

  plan_due : (end : Result Unit Stop) → Ends tells s (read_by o) k Stays d end → Says s o status end
      → ¬ Raised k.faults_before k.faults_after → ¬ Raised d.faults_before d.faults_after → (plan : Plan)
      → IsPlanIn o.files s.model plan → status ≡ 0
  plan_due (Ok done) ends says keeper door plan has = says.0
  plan_due (Err (stops.Model stop)) ends says keeper door plan has =
      let was = was_said o status files q (stop_line s.model (stops.Model stop)) (stop_status (stops.Model stop))
      says in
      absurd (never_both p s.model o status files q plan stop (λ eight. q.memory (was.1 ∙ eight)) has ends.cause)
  plan_due (Err (stops.Keeper keep_faults.Failed)) ends says keeper door plan has = absurd (keeper ends.raises)
  plan_due (Err (stops.Keeper keep_faults.OutOfMemory)) ends says keeper door plan has =
      absurd (q.memory (was_said o status files q (stop_line s.model (stops.Keeper keep_faults.OutOfMemory)) 8 says).1)
  plan_due (Err stops.OutOfMemory) ends says keeper door plan has =
      absurd (q.memory (was_said o status files q (stop_line s.model stops.OutOfMemory) 8 says).1)
  plan_due (Err stops.Door) ends says keeper door plan has = absurd (door ends.ends.ends.raised)

pub ends_with : Spot → {C : Type 0} → (tells : Telling C) (s : Service) (o : Outside) (k : Keeping) (Stays : Type 0)
    (d : AtDoor C) (status : ℕ) (end : Result Unit Stop)
    → Ends tells s (read_by o) k Stays d end → Says s o status end → EndsServe tells s o k Stays d status
ends_with p tells s o k Stays d status end ends says = record {
  end = end;
  ends = ends;
  says = says;
  exact = λ files stop q memory cause. stop_due p tells s o k Stays d status files q end ends says stop memory cause;
  complete = λ files plan q keeper door has.
      plan_due p tells s o k Stays d status files q end ends says keeper door plan has;
}

-- a desk of the plan ends so from what the keeper opened, whatever it told before it was begun
pub ends_begun : {C : Type 0} (tells : Telling C) (plan : Plan) (address : List ℕ) (count : ℕ)
    (told before start opened after : Option Texts) (count_begun count_before count_after : ℕ)
    (begun : Option (Option (List ℕ))) (d : AtDoor C) (end : Result Unit Stop)
    → start ≡ opened → count_begun ≡ count_before
    → EndsFromStart tells plan address count (keeping told start after count_begun count_after begun) d end
    → EndsFromStart tells plan address count (keeping before opened after count_before count_after begun) d end
ends_begun tells plan address count told before start opened after count_begun count_before count_after begun d end same
    calm h = record {
      last = h.last;
      ends =
          subst (λ saved. DeskEnds tells plan address count (start_state saved count_before)
          (kept h.last after count_after) d end) same
          (subst (λ faults. DeskEnds tells plan address count (start_state start faults)
          (kept h.last after count_after) d end) calm h.ends);
    }

-- it ends by no stop but its own
pub plan_ends : {C : Type 0} (tells : Telling C) (s : Service) (r : Read) (k : Keeping) (Stays : Type 0) (d : AtDoor C)
    (end : Result Unit Stop) → PlanEnds tells s r k d end → Ends tells s r k Stays d end
plan_ends tells s r k Stays d (Ok done) ends = ends
plan_ends tells s r k Stays d (Err (stops.Model stop)) ends = absurd ends.ends.ends
plan_ends tells s r k Stays d (Err (stops.Keeper fault)) ends = absurd ends.ends.ends
plan_ends tells s r k Stays d (Err stops.OutOfMemory) ends = ends
plan_ends tells s r k Stays d (Err stops.Door) ends = ends

-- what a stop is told as stops too
told_stops : {C : Type 0} (tells : Telling C) (s : Service) (r : Read) (k : Keeping) (Stays : Type 0) (d : AtDoor C)
    (stop told : Stop)
    → IsToldAs stop told → Ends tells s r k Stays d (Err stop) → Ends tells s r k Stays d (Err told)
told_stops tells s r k Stays d stop told (itself same) ends =
    subst (λ x. Ends tells s r k Stays d (Err x)) (sym same) ends
told_stops tells s r k Stays d stop told (exhausted of is same) ends =
    let unread = subst (λ x. Ends tells s r k Stays d (Err x)) is ends in
    subst (λ x. Ends tells s r k Stays d (Err x)) (sym same)
    (record { cause = tt; saved = unread.saved; faults = unread.faults; both = unread.both; stays = unread.stays })

pub ends_told : Spot → {C : Type 0} → (tells : Telling C) (s : Service) (o : Outside) (k : Keeping) (Stays : Type 0)
    (d : AtDoor C) (status : ℕ) (stop : Stop)
    → Ends tells s (read_by o) k Stays d (Err stop)
    → IsToldOf s.model stop o.written_before o.written_after o.sink_before o.sink_after status
    → EndsServe tells s o k Stays d status
ends_told p tells s o k Stays d status stop ends t =
    ends_with p tells s o k Stays d status (Err t.told)
    (told_stops tells s (read_by o) k Stays d stop t.told t.as_told ends) t.said
