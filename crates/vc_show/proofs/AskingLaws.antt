-- What is asked for is what is marked, or what a selection condition demands: whether something is open is found by one
-- pass over the variables, one over the sets and one over the selection conditions.
use Rattle.std.proofs.Common.{◌≡◌, ◌<◌, ℕ, Bool, true, false, not, ◌&&◌, ◌||◌, List, [], ◌∷◌, length, refl, sym, ◌∙◌}
use Rattle.std.proofs.Common.{ap, cond, subst, inl, inr}
use Rattle.std.specs.Prelude.{Option, None, Some, slice_get}
use Rattle.std.specs.List.{filter, list_any}
use Rattle.std.proofs.lemmas.Bool.{and_from, and_parts, or_cases, or_left, or_right}
use Rattle.std.proofs.lemmas.Option.{slice_get_within}
use Rattle.vc_base.proofs.SetLaws.{both, same_test, told}
use Rattle.vc_base.proofs.Settling.{IsIn, any_at, at_any}
use Rattle.vc_base.proofs.RangeLaws.{some_below}
use Rattle.vc_plan.specs.declared.plans.Named.{Named}
use Rattle.vc_plan.specs.declared.plans.Named.TheVariants.{Var, Set}
use Rattle.vc_plan.specs.declared.plans.Plan.{Plan}
use Rattle.vc_plan.specs.declared.plans.Requirement.{Requirement}
use Rattle.vc_plan.specs.declared.plans.TextSet.{TextSet}
use Rattle.vc_plan.specs.declared.plans.Var.{Var as Variable}
use Rattle.vc_plan.specs.Domains.{numbers_below}
use Rattle.vc_plan.specs.Readings.{Reading}
use Rattle.vc_plan.specs.Seen.{Seen, is_slot_here, slot_in}
use Rattle.vc_plan.specs.Showing.{characteristic_of, has_open, has_value, is_hidden, is_marked, is_named_here, is_open}
use Rattle.vc_plan.specs.Showing.{same_named, slot_of_set}
use Rattle.vc_show.specs.Asking.{is_bare, is_demanding, lacks_demanded, lacks_marked, lacks_some, marked_of}
use Rattle.vc_show.proofs.HidingLemmas.{same_is, same_itself}

-- two tests may be made in either order
pub in_turn : (a b c : Bool) → (a && (b && c)) ≡ (b && (a && c))
in_turn true b c = refl
in_turn false true c = refl
in_turn false false c = refl

-- here, and marked or demanded, and not hidden, and without value
parted : (h v m d hid : Bool)
    → (h && (m || d) && not hid && not v) ≡ ((h && not v && (m && not hid)) || (h && not v && (d && not hid)))
parted false v m d hid = refl
parted true false true true true = refl
parted true false true true false = refl
parted true false true false true = refl
parted true false true false false = refl
parted true false false true true = refl
parted true false false true false = refl
parted true false false false true = refl
parted true false false false false = refl
parted true true true true true = refl
parted true true true true false = refl
parted true true true false true = refl
parted true true true false false = refl
parted true true false true true = refl
parted true true false true false = refl
parted true true false false true = refl
parted true true false false false = refl

-- an element passes one of two tests where one passes the first or one the second
regrouped : (a b c d : Bool) → ((a || b) || (c || d)) ≡ ((a || c) || (b || d))
regrouped true b c d = refl
regrouped false true true d = refl
regrouped false true false d = refl
regrouped false false c d = refl

either_passes : {X : Type 0} (p q r : X → Bool) → ((x : X) → p x ≡ (q x || r x)) → (xs : List X)
    → list_any p xs ≡ (list_any q xs || list_any r xs)
either_passes p q r each [] = refl
either_passes p q r each (x ∷ xs) =
    ap (λ b. b || list_any p xs) (each x) ∙ (ap (λ b. (q x || r x) || b) (either_passes p q r each xs)
    ∙ regrouped (q x) (r x) (list_any q xs) (list_any r xs))

-- where all that pass a test pass another, one of all passes it where one of those does that pass the other
any_filtered : {X : Type 0} (p q : X → Bool) → ((x : X) → p x ≡ true → q x ≡ true) → (xs : List X)
    → list_any p (filter q xs) ≡ list_any p xs
any_filtered p q narrow [] = refl
any_filtered p q narrow (x ∷ xs) = by (q x) refl (any_filtered p q narrow xs)
  where
    by : (b : Bool) → q x ≡ b → list_any p (filter q xs) ≡ list_any p xs
        → list_any p (cond b (x ∷ filter q xs) (filter q xs)) ≡ (p x || list_any p xs)
    by true e rest = ap (λ c. p x || c) rest
    by false e rest =
        elim (told (p x)) [
          | inl passes ↦ absurd (both (narrow x passes) e)
          | inr fails ↦ rest ∙ sym (ap (λ c. c || list_any p xs) fails)
        ]

collected : (a b c d : Bool) → ((a || b) || (c || d)) ≡ (a || (c || (b || d)))
collected true b c d = refl
collected false true true d = refl
collected false true false d = refl
collected false false c d = refl

module _ (plan : Plan) (seen : Seen) (reading : Reading) where
  abbrev demanded : Named → Bool
  demanded named = list_any (λ (r : Requirement). same_named r.at named && is_demanding plan reading r)
      plan.requirements

  -- its instance is here, and it is demanded, not hidden and without value
  abbrev owed : Named → Bool
  owed named = is_bare plan seen reading named && (demanded named && not (is_hidden plan reading named))

  open_parts : (named : Named) → is_open plan seen reading named ≡ (lacks_marked plan seen reading named || owed named)
  open_parts named =
      parted (is_named_here plan seen named) (has_value reading named) (is_marked (characteristic_of plan named))
      (demanded named) (is_hidden plan reading named)

  abbrev var_owed : Bool
  var_owed = list_any (λ v. owed (Var v)) (numbers_below (length plan.vars))

  abbrev set_owed : Bool
  set_owed = list_any (λ s. owed (Set s)) (numbers_below (length plan.sets))

  abbrev some_demanded : Bool
  some_demanded = list_any (lacks_demanded plan seen reading) plan.requirements

  -- what is owed is demanded by some selection condition
  owed_demanded : (named : Named) → owed named ≡ true → some_demanded ≡ true
  owed_demanded named e =
      let outer
      = and_parts (is_bare plan seen reading named) (demanded named && not (is_hidden plan reading named)) e in
      let inner = and_parts (demanded named) (not (is_hidden plan reading named)) outer.1 in
      let found : (r : Requirement) × IsIn r plan.requirements
      × ((same_named r.at named && is_demanding plan reading r) ≡ true) =
      any_at (λ (r : Requirement). same_named r.at named && is_demanding plan reading r) plan.requirements inner.0 in
      let r = found.0 in
      let both = and_parts (same_named r.at named) (is_demanding plan reading r) found.2 in
      let is : named ≡ r.at = sym (same_is r.at named both.0) in
      let bare : is_bare plan seen reading r.at ≡ true = subst (λ n. is_bare plan seen reading n ≡ true) is outer.0 in
      let shown : not (is_hidden plan reading r.at) ≡ true
      = subst (λ n. not (is_hidden plan reading n) ≡ true) is inner.1 in
      at_any (lacks_demanded plan seen reading) r plan.requirements found.1
      (and_from (is_bare plan seen reading r.at) (is_demanding plan reading r && not (is_hidden plan reading r.at)) bare
      (and_from (is_demanding plan reading r) (not (is_hidden plan reading r.at)) both.1 shown))

  -- what is bare is a variable or a set of the plan
  var_inside : (v : ℕ) → is_bare plan seen reading (Var v) ≡ true → v < length plan.vars
  var_inside v e =
      let here = (and_parts (is_named_here plan seen (Var v)) (not (has_value reading (Var v))) e).0 in
      by (slice_get plan.vars v) refl here
    where
      by : (o : Option Variable) → slice_get plan.vars v ≡ o → is_slot_here seen (slot_in o) ≡ true
          → v < length plan.vars
      by None is here = absurd (cc)
      by (Some x) is here = slice_get_within plan.vars v x is

  set_inside : (s : ℕ) → is_bare plan seen reading (Set s) ≡ true → s < length plan.sets
  set_inside s e =
      let here = (and_parts (is_named_here plan seen (Set s)) (not (has_value reading (Set s))) e).0 in
      by (slice_get plan.sets s) refl here
    where
      by : (o : Option TextSet) → slice_get plan.sets s ≡ o → is_slot_here seen (slot_of_set o) ≡ true
          → s < length plan.sets
      by None is here = absurd (cc)
      by (Some x) is here = slice_get_within plan.sets s x is

  owed_named : (named : Named) → is_bare plan seen reading named ≡ true → owed named ≡ true
      → (var_owed || set_owed) ≡ true
  owed_named (Var v) bare e =
      or_left var_owed set_owed (some_below (λ w. owed (Var w)) (length plan.vars) v (var_inside v bare) e)
  owed_named (Set s) bare e =
      or_right var_owed set_owed (some_below (λ t. owed (Set t)) (length plan.sets) s (set_inside s bare) e)

  demanded_owed : some_demanded ≡ true → (var_owed || set_owed) ≡ true
  demanded_owed e =
      let found : (r : Requirement) × IsIn r plan.requirements × (lacks_demanded plan seen reading r ≡ true) =
      any_at (lacks_demanded plan seen reading) plan.requirements e in
      let r = found.0 in
      let outer
      = and_parts (is_bare plan seen reading r.at)
      (is_demanding plan reading r && not (is_hidden plan reading r.at)) found.2 in
      let inner = and_parts (is_demanding plan reading r) (not (is_hidden plan reading r.at)) outer.1 in
      let asked : demanded r.at ≡ true =
      at_any (λ (s : Requirement). same_named s.at r.at && is_demanding plan reading s) r plan.requirements found.1
      (and_from (same_named r.at r.at) (is_demanding plan reading r) (same_itself r.at) inner.0) in
      owed_named r.at outer.0
      (and_from (is_bare plan seen reading r.at) (demanded r.at && not (is_hidden plan reading r.at)) outer.0
      (and_from (demanded r.at) (not (is_hidden plan reading r.at)) asked inner.1))

  some_owed : (b c : Bool) → (b || c) ≡ true → (b ≡ true → some_demanded ≡ true) → (c ≡ true → some_demanded ≡ true)
      → some_demanded ≡ true
  some_owed b c e f g = elim (or_cases b c e) [ inl h ↦ f h | inr h ↦ g h ]

  owed_is : (var_owed || set_owed) ≡ some_demanded
  owed_is =
      same_test (var_owed || set_owed) some_demanded
      (λ e. some_owed var_owed set_owed e
      (λ h. let found = any_at (λ v. owed (Var v)) (numbers_below (length plan.vars)) h in
      owed_demanded (Var found.0) found.2)
      (λ h. let found = any_at (λ s. owed (Set s)) (numbers_below (length plan.sets)) h in
      owed_demanded (Set found.0) found.2))
      demanded_owed

  -- what lacks is marked
  pub marked_lack : list_any (λ v. lacks_marked plan seen reading (Var v)) (marked_of plan)
      ≡ list_any (λ v. lacks_marked plan seen reading (Var v)) (numbers_below (length plan.vars))
  marked_lack =
      any_filtered (λ v. lacks_marked plan seen reading (Var v)) (λ v. is_marked (characteristic_of plan (Var v)))
      (λ v e. (and_parts (is_marked (characteristic_of plan (Var v))) (not (is_hidden plan reading (Var v)))
      (and_parts (is_bare plan seen reading (Var v))
      (is_marked (characteristic_of plan (Var v)) && not (is_hidden plan reading (Var v))) e).1).0)
      (numbers_below (length plan.vars))

  pub open_lacks : lacks_some plan seen reading ≡ has_open plan seen reading
  open_lacks =
      let marked_var = list_any (λ v. lacks_marked plan seen reading (Var v)) (numbers_below (length plan.vars)) in
      let marked_set = list_any (λ s. lacks_marked plan seen reading (Set s)) (numbers_below (length plan.sets)) in
      let vars : list_any (λ v. is_open plan seen reading (Var v)) (numbers_below (length plan.vars))
      ≡ (marked_var || var_owed) =
      either_passes (λ v. is_open plan seen reading (Var v)) (λ v. lacks_marked plan seen reading (Var v))
      (λ v. owed (Var v))
      (λ v. open_parts (Var v)) (numbers_below (length plan.vars)) in
      let sets : list_any (λ s. is_open plan seen reading (Set s)) (numbers_below (length plan.sets))
      ≡ (marked_set || set_owed) =
      either_passes (λ s. is_open plan seen reading (Set s)) (λ s. lacks_marked plan seen reading (Set s))
      (λ s. owed (Set s))
      (λ s. open_parts (Set s)) (numbers_below (length plan.sets)) in
      sym (ap (λ b. b || list_any (λ s. is_open plan seen reading (Set s)) (numbers_below (length plan.sets))) vars
      ∙ (ap (λ b. (marked_var || var_owed) || b) sets
      ∙ (collected marked_var var_owed marked_set set_owed
      ∙ ap (λ b. marked_var || (marked_set || b)) owed_is)))
