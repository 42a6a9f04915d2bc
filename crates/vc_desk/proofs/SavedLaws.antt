-- What a keeper tells before and after a call, and what is answered by it.
use Rattle.std.proofs.Common.{◌≡◌, ℕ, List, [], Bool, true, false, cond, refl, sym, ap, ◌∙◌, subst}
use Rattle.std.specs.Prelude.{Option, None, Some, Result, Ok, Err, is_some, if◌then◌else◌}
use Rattle.std.specs.Cmp.Lexicographic.{slice_cmp, nat_list_cmp_total, texts_ties}
use Rattle.std.specs.FinMap.{empty, get, get-empty, get-insert, insert, remove}
use Rattle.std.specs.Ordering.{nat_cmp}
use Rattle.std.proofs.lemmas.Slice.Eq.{bytes_eq-Decides}
use Rattle.vc_outside.specs.Keepers.{Forgets, Puts, RaisesFor, Tells, Texts}
use Rattle.vc_outside.specs.declared.keeper.KeepFault.{KeepFault}
use Rattle.vc_outside.specs.declared.keeper.KeepFault.TheVariants as keep_faults
use Rattle.vc_plan.specs.declared.plans.Plan.{Plan}
use Rattle.vc_plan_users.specs.Choosing.{Chosen}
use Rattle.vc_wire_replies.specs.declared.reply.Refusal.{Refusal}
use Rattle.vc_wire_replies.specs.declared.reply.Refusal.TheVariants.{NothingSaved, OutOfMemory}
use Rattle.vc_wire_replies.specs.declared.reply.Reply.{Reply}
use Rattle.vc_wire_replies.specs.declared.reply.Reply.TheVariants.{Forgotten, Refused, Saved}
use Rattle.vc_desk_shown.specs.Standing.{Standing}
use Rattle.vc_desk.specs.Editing.{EditsTo}
use Rattle.vc_desk.specs.Saved as wanted
use Rattle.vc_desk.specs.Saved.{ForgetsSaved, IsGiven, IsKeeperRefusal, IsLoaded, IsSaved, LoadsSession}
use Rattle.vc_desk.specs.Saved.{SavesSession}
use Rattle.vc_desk.specs.Saved.{UnlessKeeperFails, after_load, answers, exhausted, failed, given, keeper_failed}
use Rattle.vc_desk.specs.Saved.{keeper_refusal, loaded, memory, no_memory, refused}
use Rattle.vc_desk.specs.States.{AreSaved, HoldsOfSaved, OpenSessions, kept}
use Rattle.vc_desk.proofs.OpenLaws.{removed_none}
use Rattle.vc_store.specs.Saving.{saved_text}

-- what follows from what holds
so_holds : {before after : Option Texts} (P Q : Texts → Texts → Type 0)
    → ((texts next : Texts) → P texts next → Q texts next) → HoldsOfSaved before after P → HoldsOfSaved before after Q
so_holds P Q leads h = record {
  texts = h.texts;
  next = h.next;
  alike = h.alike;
  saved = h.saved;
  saved_next = h.saved_next;
  holds = leads h.texts h.next h.holds;
}

-- of texts that are told, and of some where none are told
of_told : (told next : Texts) (after : Option Texts) (P : Texts → Texts → Type 0) → after ≡ Some next → P told next
    → HoldsOfSaved (Some told) after P
of_told told next after P same holds = record {
  texts = told;
  next = next;
  alike = ap is_some same;
  saved = refl;
  saved_next = subst (λ o. AreSaved o next) (sym same) refl;
  holds = holds;
}

of_some : (texts next : Texts) (after : Option Texts) (P : Texts → Texts → Type 0) → after ≡ None → P texts next
    → HoldsOfSaved None after P
of_some texts next after P same holds = record {
  texts = texts;
  next = next;
  alike = ap is_some same;
  saved = tt;
  saved_next = subst (λ o. AreSaved o next) (sym same) tt;
  holds = holds;
}

-- a text that is put
pub put_holds : (before after : Option Texts) (name text : List ℕ) (done : Unit {0})
    → Puts before after name text (Ok done)
    → HoldsOfSaved before after (λ texts next. next ≡ insert texts name text)
put_holds None after name text done puts =
    of_some empty (insert empty name text) after (λ texts next. next ≡ insert texts name text) puts refl
put_holds (Some told) after name text done puts =
    of_told told (insert told name text) after (λ texts next. next ≡ insert texts name text) puts refl

pub put_fails : (before after : Option Texts) (name text : List ℕ) (fault : KeepFault)
    → Puts before after name text (Err fault) → after ≡ before
put_fails None after name text fault puts = puts
put_fails (Some told) after name text fault puts = puts

-- the texts of a keeper that answers so: those that it tells, or else this one alone
abbrev one_text : List ℕ → Option (List ℕ) → Texts
one_text name None = empty
one_text name (Some text) = insert empty name text

one_is_got : (name : List ℕ) (found : Option (List ℕ)) → get (one_text name found) name ≡ found
one_is_got name None = get-empty (slice_cmp nat_cmp) name
one_is_got name (Some text) =
    get-insert nat_list_cmp_total nothing name text name
    ∙ ap (λ b. cond b (Some text) (get nothing name))
    (sym (texts_ties name name) ∙ (bytes_eq-Decides name name).1 refl)
  where
    nothing : Texts
    nothing = empty

abbrev IsGot : List ℕ → Option (List ℕ) → Texts → Texts → Type 0
IsGot name found texts next = (get texts name ≡ found) × (next ≡ texts)

got_holds : (before after : Option Texts) (name : List ℕ) (found : Option (List ℕ)) → after ≡ before
    → Tells before name (Ok found) → HoldsOfSaved before after (IsGot name found)
got_holds None after name found same tells =
    of_some (one_text name found) (one_text name found) after (IsGot name found) same (one_is_got name found, refl)
got_holds (Some told) after name found same tells =
    of_told told told after (IsGot name found) same (sym tells, refl)

-- what is loaded of it
pub is_loaded : (plan : Plan) (name : List ℕ) (before after : Option Texts) (faults faults_after : ℕ)
    (found : Option (List ℕ)) (result : Result Chosen Refusal) → after ≡ before → Tells before name (Ok found)
    → faults_after ≡ faults → result ≡ after_load plan found
    → IsLoaded plan name before after faults faults_after result
is_loaded plan name before after faults faults_after found result same tells calm is =
    loaded calm
    (so_holds (IsGot name found) (λ texts next. (result ≡ after_load plan (get texts name)) × (next ≡ texts))
    (λ texts next got. (is ∙ sym (ap (after_load plan) got.0), got.1))
    (got_holds before after name found same tells))

pub is_given : (plan : Plan) (name text : List ℕ) (before after : Option Texts) (faults faults_after : ℕ)
    (result : Result Chosen Refusal) → after ≡ before → Tells before name (Ok (Some text))
    → faults_after ≡ faults → IsGiven plan text result
    → IsLoaded plan name before after faults faults_after result
is_given plan name text before after faults faults_after result same tells calm (no_memory is) =
    refused OutOfMemory is (memory refl calm) same
is_given plan name text before after faults faults_after result same tells calm (given is) =
    is_loaded plan name before after faults faults_after (Some text) result same tells calm is

-- a text that is taken away, or none
abbrev pub answer_by : Bool → Reply
answer_by true = Forgotten
answer_by false = Refused NothingSaved

forgets_by : (texts : Texts) (name : List ℕ) (found : Option (List ℕ)) (there : Bool) → there ≡ is_some found
    → get texts name ≡ found → wanted.Forgets texts name found (answer_by there) (remove texts name)
forgets_by texts name None true e got = absurd (cc)
forgets_by texts name None false e got = (refl, removed_none texts name (ap is_some got))
forgets_by texts name (Some text) true e got = (refl, refl)
forgets_by texts name (Some text) false e got = absurd (cc)

abbrev IsForgotten : List ℕ → Bool → Texts → Texts → Type 0
IsForgotten name there texts next = wanted.Forgets texts name (get texts name) (answer_by there) next

forgotten : (texts : Texts) (name : List ℕ) (there : Bool) → there ≡ is_some (get texts name)
    → IsForgotten name there texts (remove texts name)
forgotten texts name there e = forgets_by texts name (get texts name) there e refl

forgets_holds : (before after : Option Texts) (name : List ℕ) (there : Bool) → Forgets before after name (Ok there)
    → HoldsOfSaved before after (IsForgotten name there)
forgets_holds None after name there forgets =
    let text : Option (List ℕ) = if there then Some [] else None in
    let texts = one_text name text in
    of_some texts (remove texts name) after (IsForgotten name there) forgets
    (forgotten texts name there (by there ∙ ap is_some (sym (one_is_got name text))))
  where
    nothing : Option (List ℕ)
    nothing = None

    by : (b : Bool) → b ≡ is_some (if b then Some [] else nothing)
    by true = refl
    by false = refl
forgets_holds (Some told) after name there forgets =
    of_told told (remove told name) after (IsForgotten name there) forgets.1 (forgotten told name there forgets.0)

forgets_fails : (before after : Option Texts) (name : List ℕ) (fault : KeepFault)
    → Forgets before after name (Err fault) → after ≡ before
forgets_fails None after name fault forgets = forgets
forgets_fails (Some told) after name fault forgets = forgets

-- a keeper's fault has its cause
pub refuses : (before after : ℕ) (fault : KeepFault) → RaisesFor before after fault
    → IsKeeperRefusal before after (keeper_refusal fault)
refuses before after keep_faults.Failed raised = failed refl raised
refuses before after keep_faults.OutOfMemory same = memory refl same

module _ (sessions : OpenSessions) (before after : Option Texts) (faults faults_after : ℕ) where
  -- it is said, and nothing else changes
  fails : (next : OpenSessions) (reply : Reply) (refusal : Refusal) (Answers : Texts → Texts → Type 0)
      → IsKeeperRefusal faults faults_after refusal → after ≡ before → next ≡ sessions → reply ≡ Refused refusal
      → UnlessKeeperFails (kept sessions before faults) reply (kept next after faults_after) Answers
  fails next reply refusal Answers (failed is raised) same stays said =
      keeper_failed (said ∙ ap Refused is) raised same stays
  fails next reply refusal Answers (memory is calm) same stays said =
      exhausted (said ∙ ap Refused is) (λ j. kept (stays j) (same j) (calm j))

  -- `save` of what is chosen
  pub saves_done : (plan : Plan) (name : List ℕ) (standing : Standing) (done : Unit {0})
      → IsSaved before after faults faults_after name (saved_text plan standing.chosen) (Ok done)
      → SavesSession plan (kept sessions before faults) name (Some standing) Saved (kept sessions after faults_after)
  saves_done plan name standing done is =
      let text = saved_text plan standing.chosen in
      answers is.0
      (so_holds (λ texts next. next ≡ insert texts name text)
      (λ texts next. (Saved ≡ Saved) × (sessions ≡ sessions) × (next ≡ insert texts name text))
      (λ texts next put. (refl, refl, put)) is.1)

  pub saves_failed : (plan : Plan) (name : List ℕ) (standing : Standing) (refusal : Refusal) (reply : Reply)
      → IsSaved before after faults faults_after name (saved_text plan standing.chosen) (Err refusal)
      → reply ≡ Refused refusal
      → SavesSession plan (kept sessions before faults) name (Some standing) reply (kept sessions after faults_after)
  saves_failed plan name standing refusal reply is said =
      let text = saved_text plan standing.chosen in
      fails sessions reply refusal
      (λ texts next. (reply ≡ Saved) × (sessions ≡ sessions) × (next ≡ insert texts name text)) is.0 is.1 refl said

  -- `load` of what the text that is saved gives
  pub loads_by : (plan : Plan) (session name : List ℕ) (standing : Standing) (result : Result Chosen Refusal)
      (reply : Reply) (next : OpenSessions) → IsLoaded plan name before after faults faults_after result
      → EditsTo plan sessions session result reply next
      → LoadsSession plan (kept sessions before faults) session name (Some standing) reply
      (kept next after faults_after)
  loads_by plan session name standing result reply next (refused refusal is keeper same) edits =
      let said : EditsTo plan sessions session (Err refusal) reply next =
      subst (λ r. EditsTo plan sessions session r reply next) is edits in
      fails next reply refusal
      (λ texts last. EditsTo plan sessions session (after_load plan (get texts name)) reply next × (last ≡ texts))
      keeper same said.1 said.0
  loads_by plan session name standing result reply next (loaded calm holds) edits =
      answers calm
      (so_holds (λ texts last. (result ≡ after_load plan (get texts name)) × (last ≡ texts))
      (λ texts last. EditsTo plan sessions session (after_load plan (get texts name)) reply next × (last ≡ texts))
      (λ texts last h. (subst (λ r. EditsTo plan sessions session r reply next) h.0 edits, h.1)) holds)

  -- `forget`
  pub forgets_done : (name : List ℕ) (there : Bool) → Forgets before after name (Ok there) → faults_after ≡ faults
      → ForgetsSaved (kept sessions before faults) name (answer_by there) (kept sessions after faults_after)
  forgets_done name there forgets calm =
      answers calm
      (so_holds (IsForgotten name there) (λ texts next. IsForgotten name there texts next × (sessions ≡ sessions))
      (λ texts next h. (h, refl)) (forgets_holds before after name there forgets))

  pub forgets_failed : (name : List ℕ) (fault : KeepFault) (reply : Reply)
      → Forgets before after name (Err fault) → RaisesFor faults faults_after fault
      → reply ≡ Refused (keeper_refusal fault)
      → ForgetsSaved (kept sessions before faults) name reply (kept sessions after faults_after)
  forgets_failed name fault reply forgets raises said =
      fails sessions reply (keeper_refusal fault)
      (λ texts next. wanted.Forgets texts name (get texts name) reply next × (sessions ≡ sessions))
      (refuses faults faults_after fault raises) (forgets_fails before after name fault forgets) refl said
