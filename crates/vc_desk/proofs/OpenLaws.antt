-- What is kept of the open sessions, as a finite map by their names.
use Rattle.std.proofs.Common.{◌≡◌, ℕ, suc, ◌+◌, ◌-◌, ◌<◌, ◌≤◌, Bool, true, false, cond, ◌&&◌, List, [], ◌∷◌, length}
use Rattle.std.proofs.Common.{map}
use Rattle.std.proofs.Common.{refl, sym, ap, ◌∙◌, subst, arith, T}
use Rattle.std.specs.Prelude.{Option, None, Some, IfSome, is_some}
use Rattle.std.specs.Cmp.Lexicographic.{slice_cmp, nat_list_cmp_total}
use Rattle.std.specs.FinMap.{contains_key, empty, entries, entries-from_sorted, entries_sorted, find, from_entries}
use Rattle.std.specs.FinMap.{from_sorted, get, get-empty, get-entries, get-from_entries, get-from_sorted, get-insert}
use Rattle.std.specs.FinMap.{get-remove, insert, is_sorted, len, len-empty, len-entries, len-insert, len-remove}
use Rattle.std.specs.FinMap.{remove}
use Rattle.std.specs.FinMap.Entries.{below_all}
use Rattle.std.specs.Option.{option_map}
use Rattle.std.specs.Ordering.{is_lt, nat_cmp}
use Rattle.vc_outside.proofs.NameLaws.{is_name, name_is, same_answers}
use Rattle.vc_outside.specs.Keepers.{Texts}
use Rattle.vc_plan.specs.declared.plans.Plan.{Plan}
use Rattle.vc_desk_shown.specs.Standing.{Standing, standing_of}
use Rattle.vc_session.specs.Sessions.{IsSessionOf, Opened}
use Rattle.vc_desk.specs.Desks.{AreSessionsOf, Kept, open_of, standing_entry, state_of}
use Rattle.vc_desk.specs.States.{ByName, State, kept, open_count, standing_in, start_state, with_session}
use Rattle.vc_desk.specs.States.{without_session}

abbrev standing_found : Option Opened → Option Standing
standing_found found = option_map standing_of found

-- how a session that is found stands
found_standing : (q : List ℕ) (sessions : List (List ℕ × Opened))
    → find (slice_cmp nat_cmp) q (map standing_entry sessions) ≡ standing_found (find (slice_cmp nat_cmp) q sessions)
found_standing q [] = refl
found_standing q (entry ∷ sessions) = by (is_name q entry.0) (found_standing q sessions)
  where
    by : (b : Bool) → find (slice_cmp nat_cmp) q (map standing_entry sessions)
        ≡ standing_found (find (slice_cmp nat_cmp) q sessions)
        → cond b (Some (standing_of entry.1)) (find (slice_cmp nat_cmp) q (map standing_entry sessions))
        ≡ standing_found (cond b (Some entry.1) (find (slice_cmp nat_cmp) q sessions))
    by true rest = refl
    by false rest = rest

pub standing_at : (sessions : ByName Opened) (q : List ℕ)
    → standing_in (open_of sessions) q ≡ standing_found (get sessions q)
standing_at sessions q =
    get-from_entries nat_list_cmp_total (map standing_entry (entries sessions)) q
    ∙ found_standing q (entries sessions)
    ∙ ap standing_found (sym (get-entries sessions q))

standing_cond : (b : Bool) (new other : Option Opened)
    → standing_found (cond b new other) ≡ cond b (standing_found new) (standing_found other)
standing_cond true new other = refl
standing_cond false new other = refl

pub none_open : open_of empty ≡ empty
none_open = same_answers (open_of empty) empty (λ q.
    standing_at empty q ∙ ap standing_found (get-empty (slice_cmp nat_cmp) q) ∙ sym (get-empty (slice_cmp nat_cmp) q))

pub open_put : (sessions : ByName Opened) (name : List ℕ) (new : Opened)
    → open_of (insert sessions name new) ≡ with_session (open_of sessions) name (standing_of new)
open_put sessions name new =
    same_answers (open_of (insert sessions name new)) (with_session (open_of sessions) name (standing_of new)) (λ q.
    standing_at (insert sessions name new) q
    ∙ ap standing_found (get-insert nat_list_cmp_total sessions name new q)
    ∙ standing_cond (is_name q name) (Some new) (get sessions q)
    ∙ ap (cond (is_name q name) (Some (standing_of new))) (sym (standing_at sessions q))
    ∙ sym (get-insert nat_list_cmp_total (open_of sessions) name (standing_of new) q))

pub open_removed : (sessions : ByName Opened) (name : List ℕ)
    → open_of (remove sessions name) ≡ without_session (open_of sessions) name
open_removed sessions name =
    same_answers (open_of (remove sessions name)) (without_session (open_of sessions) name) (λ q.
    standing_at (remove sessions name) q
    ∙ ap standing_found (get-remove nat_list_cmp_total sessions name q)
    ∙ standing_cond (is_name q name) None (get sessions q)
    ∙ ap (cond (is_name q name) none) (sym (standing_at sessions q))
    ∙ sym (get-remove nat_list_cmp_total (open_of sessions) name q))
  where
    none : Option Standing
    none = None

-- a session in its own place
pub put_same : (sessions : ByName Opened) (name : List ℕ) (session : Opened) → get sessions name ≡ Some session
    → insert sessions name session ≡ sessions
put_same sessions name session there = same_answers (insert sessions name session) sessions (λ q.
    get-insert nat_list_cmp_total sessions name session q ∙ by q (is_name q name) refl)
  where
    by : (q : List ℕ) (b : Bool) → is_name q name ≡ b → cond b (Some session) (get sessions q) ≡ get sessions q
    by q true e = sym (ap (get sessions) (name_is q name e) ∙ there)
    by q false e = refl

-- as many are open; the entries ascend by the same names
below_standing : (name : List ℕ) (sessions : List (List ℕ × Opened))
    → below_all (slice_cmp nat_cmp) name (map standing_entry sessions) ≡ below_all (slice_cmp nat_cmp) name sessions
below_standing name [] = refl
below_standing name (entry ∷ sessions) =
    ap (λ b. is_lt (slice_cmp nat_cmp name entry.0) && b) (below_standing name sessions)

sorted_standing : (sessions : List (List ℕ × Opened))
    → is_sorted (slice_cmp nat_cmp) (map standing_entry sessions) ≡ is_sorted (slice_cmp nat_cmp) sessions
sorted_standing [] = refl
sorted_standing (entry ∷ sessions) =
    ap (λ b. b && is_sorted (slice_cmp nat_cmp) (map standing_entry sessions)) (below_standing entry.0 sessions)
    ∙ ap (λ b. below_all (slice_cmp nat_cmp) entry.0 sessions && b) (sorted_standing sessions)

length_sorted : {X : Type 0} (list : List (List ℕ × X)) → T (is_sorted (slice_cmp nat_cmp) list)
    → len (from_entries {R = slice_cmp nat_cmp} list) ≡ length list
length_sorted list sorted =
    ap len (same_answers (from_entries list) (from_sorted list) (λ q.
    get-from_entries nat_list_cmp_total list q ∙ sym (get-from_sorted (slice_cmp nat_cmp) list q sorted)))
    ∙ len-entries (from_sorted {R = slice_cmp nat_cmp} list)
    ∙ ap length (entries-from_sorted (slice_cmp nat_cmp) list sorted)

count_standing : (sessions : List (List ℕ × Opened)) → length (map standing_entry sessions) ≡ length sessions
count_standing [] = refl
count_standing (entry ∷ sessions) = ap suc (count_standing sessions)

pub count_is : (sessions : ByName Opened) → open_count (open_of sessions) ≡ len sessions
count_is sessions =
    length_sorted (map standing_entry (entries sessions))
    (subst T (sym (sorted_standing (entries sessions))) (entries_sorted sessions))
    ∙ count_standing (entries sessions)
    ∙ sym (len-entries sessions)

-- sessions of the plan stay such
abbrev nobody : Option Opened
nobody = None

pub is_none_at : {X : Type 0} (o : Option X) → is_some o ≡ false → o ≡ None
is_none_at None e = refl
is_none_at (Some x) e = absurd (cc)

-- nothing is taken out where there is nothing
pub removed_none : {X : Type 0} (m : ByName X) (name : List ℕ) → is_some (get m name) ≡ false → remove m name ≡ m
removed_none {X = X} m name gone = same_answers (remove m name) m (λ q.
    get-remove nat_list_cmp_total m name q ∙ by q (is_name q name) refl)
  where
    nothing : Option X
    nothing = None

    by : (q : List ℕ) (b : Bool) → is_name q name ≡ b → cond b nothing (get m q) ≡ get m q
    by q true e = sym (ap (get m) (name_is q name e) ∙ is_none_at (get m name) gone)
    by q false e = refl

pub no_sessions : (plan : Plan) → AreSessionsOf plan empty
no_sessions plan = record {
  each = λ name. subst (λ (found : Option Opened). IfSome found (IsSessionOf plan))
      (sym (get-empty (slice_cmp nat_cmp) name)) tt;
  few = (let none = len-empty (slice_cmp nat_cmp) Opened in omega (arith, none));
}

module _ (plan : Plan) (sessions : ByName Opened) (of : AreSessionsOf plan sessions) where
  abbrev IsOf : Option Opened → Type 0
  IsOf found = IfSome found (IsSessionOf plan)

  with_one : (b : Bool) (new : Opened) (other : Option Opened) → IsSessionOf plan new → IsOf other
      → IsOf (cond b (Some new) other)
  with_one true new other is rest = is
  with_one false new other is rest = rest

  without_one : (b : Bool) (other : Option Opened) → IsOf other → IsOf (cond b nobody other)
  without_one true other rest = tt
  without_one false other rest = rest

  each_put : (name : List ℕ) (new : Opened) → IsSessionOf plan new → (q : List ℕ)
      → IsOf (get (insert sessions name new) q)
  each_put name new is q =
      subst IsOf (sym (get-insert nat_list_cmp_total sessions name new q))
      (with_one (is_name q name) new (get sessions q) is (of.each q))

  -- one more, where there is room
  pub opened_sessions : (name : List ℕ) (new : Opened) → IsSessionOf plan new → len sessions < 32
      → AreSessionsOf plan (insert sessions name new)
  opened_sessions name new is room = record {
    each = each_put name new is;
    few = by (contains_key sessions name) (len-insert nat_list_cmp_total sessions name new);
  }
    where
      by : (b : Bool) → len (insert sessions name new) ≡ cond b (len sessions) (len sessions + 1)
          → len (insert sessions name new) ≤ 32
      by true e = omega (arith, e, room)
      by false e = omega (arith, e, room)

  -- another in the place of one
  pub changed_sessions : (name : List ℕ) (old new : Opened) → get sessions name ≡ Some old → IsSessionOf plan new
      → AreSessionsOf plan (insert sessions name new)
  changed_sessions name old new there is = record {
    each = each_put name new is;
    few = (
        let same : len (insert sessions name new) ≡ len sessions =
        len-insert nat_list_cmp_total sessions name new
        ∙ ap (λ (o : Option Opened). cond (is_some o) (len sessions) (len sessions + 1)) there in
        omega (arith, same, of.few)
        );
  }

  -- one fewer
  pub closed_sessions : (name : List ℕ) → AreSessionsOf plan (remove sessions name)
  closed_sessions name = record {
    each = λ q. subst IsOf (sym (get-remove nat_list_cmp_total sessions name q))
        (without_one (is_name q name) (get sessions q) (of.each q));
    few = by (contains_key sessions name) (len-remove nat_list_cmp_total sessions name);
  }
    where
      by : (b : Bool) → len (remove sessions name) ≡ cond b (len sessions - 1) (len sessions)
          → len (remove sessions name) ≤ 32
      by true e = let few = of.few in omega (arith, e, few)
      by false e = let few = of.few in omega (arith, e, few)

  pub one_of : (name : List ℕ) (found : Opened) → get sessions name ≡ Some found → IsSessionOf plan found
  one_of name found there = subst IsOf there (of.each name)

-- a desk of the plan at which no session is open has the state before the first link
pub begins : (desk : Kept) (plan : Plan) (saved : Option Texts) (faults : ℕ) (Holds : Plan → State → Type 0)
    → desk.plan ≡ plan → open_of desk.sessions ≡ empty
    → Holds desk.plan (state_of desk.sessions saved faults) → Holds plan (start_state saved faults)
begins desk plan saved faults Holds its none holds =
    subst (λ p. Holds p (start_state saved faults)) its
    (subst (Holds desk.plan) (ap (λ sessions. kept sessions saved faults) none) holds)
