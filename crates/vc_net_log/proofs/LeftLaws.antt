-- What is left of a log when sources change is kept as a log is.
use Rattle.std.proofs.Common.{◌≡◌, ℕ, zero, suc, ◌+◌, ◌≤◌, Bool, true, false, cond, not, List, [], ◌∷◌, ◌++◌}
use Rattle.std.proofs.Common.{drop, length, map, take, refl, sym, ◌∙◌, ap, subst, arith}
use Rattle.std.specs.Prelude.{Some, if◌then◌else◌, nat_eq, nat_lt, slice_get}
use Rattle.std.specs.List.{IsDistinct, list_all, position_or_len}
use Rattle.std.proofs.lemmas.Bool.{and_from, and_parts, le-leb}
use Rattle.std.proofs.lemmas.List.{length-drop, length-map, map-append, take-append-drop}
use Rattle.vc_base.specs.Chains.{cites_earlier}
use Rattle.vc_base.specs.Sets.{has}
use Rattle.vc_base.proofs.SetLaws.{has_front}
use Rattle.vc_plan.specs.declared.atoms.Atom.{Atom}
use Rattle.vc_plan.specs.declared.atoms.Step.{Step}
use Rattle.vc_plan.specs.Seen.{same_atom}
use Rattle.vc_plan.specs.Sources.{Sources}
use Rattle.vc_plan.proofs.PlanLaws.Atoms.{atom_exact, atom_itself}
use Rattle.vc_plan_reasons.specs.Checking.{step_form}
use Rattle.vc_plan_reasons.specs.Keeping.{kept_of}
use Rattle.vc_rule_yield.specs.Filling.{Filled, emptied, with_items}
use Rattle.vc_net_standing.specs.declared.standing.Fact.{Fact}
use Rattle.vc_net_standing.specs.Standing.{Stood, atoms_of, first_facts, places_of}
use Rattle.vc_net_log.specs.Going.{WereTaken, with_steps}
use Rattle.vc_net_log.specs.Keeping.{AreCells, IsCounted, IsKept, log_kept, step_kept}
use Rattle.vc_net_log.specs.Logs.{Logged}
use Rattle.vc_net_log.specs.Staying.{HasCells, differs, needed, staying, with_facts}
use Rattle.vc_net_log.proofs.KeptLaws.{inside_cells, same_atoms, stands_by}
use Rattle.vc_net_log.proofs.KeepLaws.{below_without, once_without}
use Rattle.vc_net_log.proofs.StayLaws.{left_are_kept, left_need_left, staying_part}

pub has_cells : (stood : Stood) (begins counts cells : List ℕ) → AreCells stood begins counts cells
    → HasCells stood.index begins counts cells
has_cells stood begins counts cells kept p low =
    let long = kept.long in
    let counted = kept.counted in
    (omega (arith, low, long), omega (arith, low, counted), inside_cells stood begins counts cells kept p low)

-- an element of a list all of whose elements pass, and a list each of whose elements does
pub all_get : {X : Type 0} (p : X → Bool) (xs : List X) (n : ℕ) (x : X) → list_all p xs ≡ true
    → slice_get xs n ≡ Some x → p x ≡ true
all_get p [] n x h e = absurd (cc)
all_get p (y ∷ xs) zero x h e =
    let is : y ≡ x = cc in ap p (sym is) ∙ (and_parts (p y) (list_all p xs) h).0
all_get p (y ∷ xs) (suc n) x h e = all_get p xs n x (and_parts (p y) (list_all p xs) h).1 e

all_got : {X : Type 0} (p : X → Bool) (xs : List X) → ((n : ℕ) (x : X) → slice_get xs n ≡ Some x → p x ≡ true)
    → list_all p xs ≡ true
all_got p [] h = refl
all_got p (x ∷ xs) h = and_from (p x) (list_all p xs) (h 0 x refl) (all_got p xs (λ n y e. h (suc n) y e))

-- none before the first passes
before_first : {X : Type 0} (p : X → Bool) (xs : List X)
    → list_all (λ x. not (p x)) (take (position_or_len p xs) xs) ≡ true
before_first p [] = refl
before_first p (x ∷ xs) = by (p x) refl (before_first p xs)
  where
    by : (b : Bool) → p x ≡ b → list_all (λ y. not (p y)) (take (position_or_len p xs) xs) ≡ true
        → list_all (λ y. not (p y)) (take (cond (not b) (1 + position_or_len p xs) 0) (x ∷ xs)) ≡ true
    by true e h = refl
    by false e h =
        let more : 1 + position_or_len p xs ≡ suc (position_or_len p xs) = omega arith in
        ap (λ n. list_all (λ y. not (p y)) (take n (x ∷ xs))) more
        ∙ and_from (not (p x)) (list_all (λ y. not (p y)) (take (position_or_len p xs) xs)) (ap not e) h

-- what is put into a buffer that has room for it
pub buffered : (buffer cleared filled : Filled Fact) (facts : List Fact) → cleared ≡ emptied buffer
    → filled ≡ with_items cleared facts → length facts ≤ buffer.room
    → filled ≡ record { items = facts; room = buffer.room }
buffered buffer cleared filled facts e f few =
    f ∙ (ap (λ b. with_items b facts) e
    ∙ ap (λ b. let whole : Filled Fact = record { items = facts; room = buffer.room } in
    if b then whole else emptied buffer)
    (le-leb (length {A = Fact} [] + length facts) buffer.room (omega (arith, few))))

module _ (stood : Stood) (begins counts cells outs : List ℕ) (kept : IsKept stood begins counts cells outs)
    (log : Logged) (is : log_kept stood begins counts cells ≡ log) (old new : Sources)
    (earlier : cites_earlier step_form 1 log.steps ≡ true) (n : ℕ)
    (first : n ≡ position_or_len (differs old new) stood.facts) where
  abbrev front : List Fact
  front = take n stood.facts

  abbrev rest : List Fact
  rest = drop n stood.facts

  abbrev needs : Fact → List ℕ
  needs = needed stood.index begins counts cells

  split : stood.facts ≡ front ++ rest
  split = sym (take-append-drop n stood.facts)

  there : list_all (λ fact. list_all (has nat_eq (places_of stood.index stood.facts)) (needs fact)) stood.facts ≡ true
  there =
      all_got (λ fact. list_all (has nat_eq (places_of stood.index stood.facts)) (needs fact)) stood.facts
      kept.premises.there

  stay : list_all (λ f. not (differs old new f)) front ≡ true
  stay = ap (λ k. list_all (λ f. not (differs old new f)) (take k stood.facts)) first
      ∙ before_first (differs old new) stood.facts

  steps_are : log.steps ≡ map (step_kept stood begins counts cells) stood.facts
  steps_are = ap (λ (l : Logged). l.steps) (sym is)

  cites : cites_earlier step_form 1 (map (step_kept stood begins counts cells) stood.facts) ≡ true
  cites = sym (ap (λ steps. cites_earlier step_form 1 steps) steps_are) ∙ earlier

  -- what is left
  abbrev pub facts_left : List Fact
  facts_left = front ++ staying stood.index (differs old new) needs front rest

  abbrev pub stood_left : Stood
  stood_left = record { index = stood.index; facts = facts_left }

  left_steps : kept_of old new log.steps ≡ map (step_kept stood_left begins counts cells) facts_left
  left_steps =
      ap (kept_of old new) steps_are
      ∙ left_are_kept stood.index old new needs stood.facts kept.premises.once front rest split there cites stay

  pub left_is_log : log_kept stood_left begins counts cells ≡ with_steps log (kept_of old new log.steps)
  left_is_log =
      ap (λ (steps : List Step). let l : Logged = record { index = stood.index; begins = begins; steps = steps } in l)
      (sym left_steps)
      ∙ ap (λ (l : Logged). with_steps l (kept_of old new log.steps)) is

  pub left_is_kept : (counted : List ℕ) → IsCounted (atoms_of facts_left) counted → length counted ≡ length outs
      → IsKept stood_left begins counts cells counted
  left_is_kept counted are long = record {
    premises = record {
      once = staying_part stood.index old new needs stood.facts kept.premises.once
          (λ facts. IsDistinct nat_eq (places_of stood.index facts)) (once_without stood.index) front rest
          (subst (λ facts. IsDistinct nat_eq (places_of stood.index facts)) split kept.premises.once);
      below = staying_part stood.index old new needs stood.facts kept.premises.once
          (λ facts. list_all (λ p. nat_lt p (length stood.index.things)) (places_of stood.index facts) ≡ true)
          (below_without stood.index) front rest
          (subst (λ facts. list_all (λ p. nat_lt p (length stood.index.things)) (places_of stood.index facts) ≡ true)
          split kept.premises.below);
      places = kept.premises.places;
      long = kept.premises.long;
      ends = kept.premises.ends;
      small = kept.premises.small;
      ordered = kept.premises.ordered;
      counted = kept.premises.counted;
      few = kept.premises.few;
      there = λ k fact e.
          all_get (λ f. list_all (has nat_eq (places_of stood.index facts_left)) (needs f)) facts_left k fact
          (left_need_left stood.index old new needs stood.facts kept.premises.once front rest split there cites stay) e;
    };
    vars = long ∙ kept.vars;
    counted = are;
  }

  pub were_taken : WereTaken log.steps (map (step_kept stood_left begins counts cells) facts_left) rest
  were_taken = record {
    front = front;
    split = ap (λ (s : Stood). s.facts) (sym (stands_by stood begins counts cells log is)) ∙ split;
    stayed = λ a h.
        ap (λ atoms. has same_atom atoms a) (same_atoms stood_left begins counts cells facts_left
        ∙ map-append (λ (f : Fact). f.atom) front (staying stood.index (differs old new) needs front rest))
        ∙ has_front same_atom atom_exact atom_itself (atoms_of front)
        (atoms_of (staying stood.index (differs old new) needs front rest)) a h;
  }

  -- the facts from the first that goes on are counted no more
  pub counted_front : (lowered : List ℕ)
      → ((others : List Atom) → IsCounted (others ++ atoms_of rest) outs → IsCounted others lowered)
      → IsCounted (atoms_of front) lowered
  counted_front lowered lowers =
      lowers (atoms_of front)
      (subst (λ atoms. IsCounted atoms outs)
      (ap atoms_of split ∙ map-append (λ (f : Fact). f.atom) front rest) kept.counted)

  -- which is what the calls make, one after the other
  module _ (taken cleared filled : Filled Fact) (facts part again : List Fact)
      (room : length log.steps ≤ taken.room) (clears : cleared ≡ emptied taken) (facts_is : facts ≡ stood.facts)
      (part_is : part ≡ drop n facts) (fills : filled ≡ with_items cleared part) (again_is : again ≡ filled.items) where
    part_rest : part ≡ rest
    part_rest = part_is ∙ ap (drop n) facts_is

    fits : length part ≤ taken.room
    fits =
        let same = ap (λ xs. length xs) part_rest in
        let dropped = length-drop n stood.facts in
        let steps = ap (λ xs. length xs) steps_are ∙ length-map stood.facts (step_kept stood begins counts cells) in
        omega (arith, same, dropped, steps, room)

    pub items_rest : filled.items ≡ rest
    items_rest =
        ap (λ (b : Filled Fact). b.items) (buffered taken cleared filled part clears fills fits) ∙ part_rest

    pub again_rest : again ≡ rest
    again_rest = again_is ∙ items_rest

    pub stood_is : (less later : Stood) (counts' cells' : List ℕ) → less ≡ first_facts stood n → counts' ≡ counts
        → cells' ≡ cells
        → later ≡ with_facts less (staying less.index (differs old new) (needed less.index begins counts' cells')
        less.facts again) → later ≡ stood_left
    stood_is less later counts' cells' e f g h =
        h
        ∙ (ap (λ cs. with_facts less (staying less.index (differs old new) (needed less.index begins cs cells')
        less.facts again)) f
        ∙ (ap (λ cs. with_facts less (staying less.index (differs old new) (needed less.index begins counts cs)
        less.facts again)) g
        ∙ (ap (λ xs. with_facts less (staying less.index (differs old new) (needed less.index begins counts cells)
        less.facts xs)) again_rest
        ∙ ap (λ (s : Stood). with_facts s (staying s.index (differs old new) (needed s.index begins counts cells)
        s.facts rest)) e)))
