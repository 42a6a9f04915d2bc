-- The last step of a list that makes what is concluded unclear: what it is at odds with, and whom that blames.
use Rattle.std.proofs.Common.{◌≡◌, ℕ, true, false, ◌&&◌, ◌||◌, ◌⊎◌, List, [], ◌∷◌, ◌++◌, length, map, refl, sym, ◌∙◌}
use Rattle.std.proofs.Common.{ap, subst, inl, inr}
use Rattle.std.specs.Prelude.{Option, None, Some}
use Rattle.std.specs.List.{find, list_any}
use Rattle.std.proofs.lemmas.Bool.{and_from, and_parts, false_from_ne_true, or_cases, or_left, or_right}
use Rattle.vc_base.specs.Sets.{has, Within}
use Rattle.vc_base.proofs.SetLaws.{both, has_back, has_cases, has_either, has_first, has_more, none_at, none_passes}
use Rattle.vc_base.proofs.SetLaws.{told}
use Rattle.vc_base.proofs.Settling.{any_at}
use Rattle.vc_plan.specs.declared.atoms.Atom.{Atom}
use Rattle.vc_plan.specs.declared.atoms.Atom.TheVariants.{Here}
use Rattle.vc_plan.specs.declared.atoms.Step.{Step}
use Rattle.vc_plan.specs.declared.plans.Plan.{Plan}
use Rattle.vc_plan.specs.Clear.{collides, is_clear, is_exhausted}
use Rattle.vc_plan.specs.Domains.{numbers_below}
use Rattle.vc_plan.specs.Seen.{same_atom, seen_of}
use Rattle.vc_plan.specs.Sources.{Sources}
use Rattle.vc_plan.proofs.PlanLaws.Atoms.{atom_exact, atom_itself}
use Rattle.vc_plan.proofs.PlanLaws.Facts.{Facts, clear_from, facts}
use Rattle.vc_plan_reasons.specs.Checking.{concluded, set_with}
use Rattle.vc_plan_blame.specs.Blame.{are_at_odds, clash_citing, colliding_by, exhausted_by, exhausting, is_out}
use Rattle.vc_plan_blame.specs.Blame.{number_of, or_else, pair_with}
use Rattle.vc_plan_blame.specs.Laws.{Blames, IsSettling, UnclearIsBlamed}
use Rattle.vc_plan_blame.proofs.BlameLaws.Citing.{numbers_found}
use Rattle.vc_plan_blame.proofs.BlameLaws.Colliding.{AreNamed, HasRoom, Member, exhausting_within, its_grain, its_slot}
use Rattle.vc_plan_blame.proofs.BlameLaws.Colliding.{member, self_apart, slot_apart}
use Rattle.vc_plan_blame.proofs.BlameLaws.Unclear.{concluded_named, exhausted_is_blamed, found, has_room, in_has}
use Rattle.vc_plan_blame.proofs.BlameLaws.Unclear.{nothing_found, out_is_blamed, values_are_blamed}

-- what is concluded with one step more
pub concluded_next : (log : List Step) (step : Step)
    → concluded (log ++ step ∷ []) ≡ concluded log ++ step.conclusion ∷ []
concluded_next [] step = refl
concluded_next (first ∷ log) step = ap (λ xs. first.conclusion ∷ xs) (concluded_next log step)

-- what exhausts a variable is concluded: the root isn't among it
exhausting_concluded : (plan : Plan) (stand : List Atom) (v : ℕ) → is_exhausted plan (seen_of (set_with stand)) v ≡ true
    → Within same_atom (exhausting plan v) stand
exhausting_concluded plan stand v e a h =
    elim (has_cases same_atom atom_exact atom_itself (Here 0) stand a
    (exhausting_within plan (set_with stand) v e a h)) [
      | inl q ↦ absurd (no_root (member plan v a h) q)
      | inr k ↦ k
    ]
  where
    no_root : Member plan v a → a ≡ Here 0 → ⊥
    no_root (its_slot i q nonzero s) r = let same : Here i ≡ Here 0 = sym q ∙ r in nonzero (cc)
    no_root (its_grain g q below) r = cc

-- being at odds is mutual, and no atom is with itself
odds_turned : (plan : Plan) (a b : Atom) → are_at_odds plan a b ≡ true → are_at_odds plan b a ≡ true
odds_turned plan a b e =
    elim (or_cases (collides plan a b) (collides plan b a) e) [
      | inl h ↦ or_right (collides plan b a) (collides plan a b) h
      | inr h ↦ or_left (collides plan b a) (collides plan a b) h
    ]

odds_itself : (plan : Plan) (a : Atom) → are_at_odds plan a a ≡ true → ⊥
odds_itself plan a e =
    elim (or_cases (collides plan a a) (collides plan a a) e)
    [ inl h ↦ both h (self_apart plan a) | inr h ↦ both h (self_apart plan a) ]

-- two atoms of a clear set aren't at odds
clear_calm : (plan : Plan) (set : List Atom) (a b : Atom) → is_clear plan set ≡ true → has same_atom set a ≡ true
    → has same_atom set b ≡ true → are_at_odds plan a b ≡ true → ⊥
clear_calm plan set a b clear h k e =
    let f : Facts plan set = facts plan set clear in
    elim (or_cases (collides plan a b) (collides plan b a) e) [
      | inl q ↦ both q (f.apart a b h k)
      | inr q ↦ both q (f.apart b a k h)
    ]

-- where no variable is exhausted, a set that isn't clear has two atoms at odds
record Odds (plan : Plan) (set : List Atom) : Type 0 where
  a : Atom
  b : Atom
  a_in : has same_atom set a ≡ true
  b_in : has same_atom set b ≡ true
  collide : collides plan a b ≡ true

odds_found : (plan : Plan) (set : List Atom) → AreNamed plan set → HasRoom plan set → is_clear plan set ≡ false
    → Odds plan set
odds_found plan set named room unclear =
    elim (told (list_any (λ a. list_any (collides plan a) set) set)) [
      | inl some ↦
          let r = any_at (λ a. list_any (collides plan a) set) set some in
          let q = any_at (collides plan r.0) set r.2 in
          record { a = r.0; b = q.0; a_in = in_has set r.0 r.1; b_in = in_has set q.0 q.1; collide = q.2 }
      | inr none ↦
          let clear = clear_from plan set (record {
            named = named;
            apart = λ a b h k.
                none_at same_atom atom_exact atom_itself (collides plan a) set b
                (none_at same_atom atom_exact atom_itself (λ c. list_any (collides plan c) set) set a none h) k;
            room = room;
          }) in
          absurd (both clear unclear)
    ]

-- one of the two is the atom that came last
record AtOdds (plan : Plan) (stand : List Atom) (atom : Atom) : Type 0 where
  other : Atom
  stands : has same_atom stand other ≡ true
  odds : are_at_odds plan atom other ≡ true

-- what stands with the atom that came last stood before, or is it
before_or_last : (stand : List Atom) (atom a : Atom) → has same_atom (stand ++ atom ∷ []) a ≡ true
    → (has same_atom stand a ≡ true) ⊎ (a ≡ atom)
before_or_last stand atom a h =
    elim (has_either same_atom atom_exact atom_itself stand (atom ∷ []) a h) [
      | inl k ↦ inl k
      | inr k ↦ elim (has_cases same_atom atom_exact atom_itself atom [] a k) [ inl q ↦ inr q | inr z ↦ absurd (cc) ]
    ]

no_slot : (plan : Plan) (a : Atom) (i : ℕ) → are_at_odds plan a (Here i) ≡ true → ⊥
no_slot plan a i e =
    elim (or_cases (collides plan a (Here i)) (collides plan (Here i) a) e)
    [ inl h ↦ both h (slot_apart plan a i) | inr h ↦ absurd (cc) ]

at_odds : (plan : Plan) (stand : List Atom) (atom : Atom) → is_clear plan (set_with stand) ≡ true
    → Odds plan (set_with (stand ++ atom ∷ [])) → AtOdds plan (stand ++ atom ∷ []) atom
at_odds plan stand atom clear o =
    elim (before_or_last (set_with stand) atom o.a o.a_in) [
      | inr q ↦ beside o.b o.b_in
          (subst (λ z. are_at_odds plan z o.b ≡ true) q
          (or_left (collides plan o.a o.b) (collides plan o.b o.a) o.collide))
      | inl h ↦ elim (before_or_last (set_with stand) atom o.b o.b_in) [
        | inr q ↦ beside o.a o.a_in
            (subst (λ z. are_at_odds plan z o.a ≡ true) q
            (or_right (collides plan o.b o.a) (collides plan o.a o.b) o.collide))
        | inl k ↦ absurd (clear_calm plan (set_with stand) o.a o.b clear h k
            (or_left (collides plan o.a o.b) (collides plan o.b o.a) o.collide))
      ]
    ]
  where
    beside : (b : Atom) → has same_atom (set_with (stand ++ atom ∷ [])) b ≡ true → are_at_odds plan atom b ≡ true
        → AtOdds plan (stand ++ atom ∷ []) atom
    beside b h e =
        elim (has_cases same_atom atom_exact atom_itself (Here 0) (stand ++ atom ∷ []) b h) [
          | inl q ↦ absurd (no_slot plan atom 0 (subst (λ z. are_at_odds plan atom z ≡ true) q e))
          | inr k ↦ record { other = b; stands = k; odds = e }
        ]

-- what is found is blamed, in the order of the search
pair_within : (stand : List Atom) (a b : Atom) → has same_atom stand a ≡ true → has same_atom stand b ≡ true
    → Within same_atom (a ∷ b ∷ []) stand
pair_within stand a b h k c m =
    elim (has_cases same_atom atom_exact atom_itself a (b ∷ []) c m) [
      | inl q ↦ subst (λ z. has same_atom stand z ≡ true) (sym q) h
      | inr r ↦ elim (has_cases same_atom atom_exact atom_itself b [] c r) [
        | inl q ↦ subst (λ z. has same_atom stand z ≡ true) (sym q) k
        | inr z ↦ absurd (cc)
      ]
    ]

module _ (plan : Plan) (sources : Sources) (log : List Step) (step : Step)
    (s : IsSettling plan sources (log ++ step ∷ []))
    (clear : is_clear plan (set_with (concluded log)) ≡ true) where
  abbrev whole : List Step
  whole = log ++ step ∷ []

  abbrev atom : Atom
  atom = step.conclusion

  atom_stands : has same_atom (concluded whole) atom ≡ true
  atom_stands =
      subst (λ xs. has same_atom xs atom ≡ true) (sym (concluded_next log step))
      (has_back same_atom atom_exact atom_itself (concluded log) (atom ∷ []) atom
      (has_first same_atom atom_exact atom_itself atom []))

  before : (a : Atom) → has same_atom (concluded whole) a ≡ true → (a ≡ atom → ⊥)
      → has same_atom (set_with (concluded log)) a ≡ true
  before a h other =
      elim (before_or_last (concluded log) atom a
      (subst (λ xs. has same_atom xs a ≡ true) (concluded_next log step) h)) [
        | inl k ↦ has_more same_atom atom_exact atom_itself (Here 0) (concluded log) a k
        | inr q ↦ absurd (other q)
      ]

  -- no excluded grain is at odds with either of two values
  none_out : (b : Atom) → is_out atom ≡ false → has same_atom (concluded whole) b ≡ true
      → are_at_odds plan atom b ≡ true
      → list_any (λ o. is_out o && are_at_odds plan atom o) (concluded whole) ≡ false
      → list_any (λ o. is_out o && (are_at_odds plan b o || are_at_odds plan atom o)) (concluded whole) ≡ false
  none_out b value h e none =
      none_passes same_atom atom_exact atom_itself (λ o. is_out o && (are_at_odds plan b o || are_at_odds plan atom o))
      (concluded whole)
      (λ o k. false_from_ne_true (is_out o && (are_at_odds plan b o || are_at_odds plan atom o)) (λ q.
      let p = and_parts (is_out o) (are_at_odds plan b o || are_at_odds plan atom o) q in
      elim (or_cases (are_at_odds plan b o) (are_at_odds plan atom o) p.1) [
        | inl r ↦ clear_calm plan (set_with (concluded log)) b o clear
            (before b h (λ is. odds_itself plan atom (subst (λ z. are_at_odds plan atom z ≡ true) is e)))
            (before o k (λ is. both p.0 (ap is_out is ∙ value))) r
        | inr r ↦ both (and_from (is_out o) (are_at_odds plan atom o) p.0 r)
            (none_at same_atom atom_exact atom_itself (λ z. is_out z && are_at_odds plan atom z) (concluded whole) o
            none k)
      ]))

  abbrev BlamesFor : List Atom → Type 0
  BlamesFor premises = Blames plan sources (clash_citing plan whole (map (number_of (concluded whole)) premises))

  by_variable : (v : ℕ) → exhausted_by plan (concluded whole) ≡ Some v → BlamesFor (exhausting plan v)
  by_variable v e =
      let f = found (is_exhausted plan (seen_of (set_with (concluded whole)))) (numbers_below (length plan.vars)) v e in
      exhausted_is_blamed plan sources whole v (map (number_of (concluded whole)) (exhausting plan v)) s f.0
      (numbers_found (concluded whole) (exhausting plan v) (exhausting_concluded plan (concluded whole) v f.0))

  by_grain : (b : Atom) → exhausted_by plan (concluded whole) ≡ None
      → find (λ o. is_out o && are_at_odds plan atom o) (concluded whole) ≡ Some b → BlamesFor (b ∷ atom ∷ [])
  by_grain b room e =
      let f = found (λ o. is_out o && are_at_odds plan atom o) (concluded whole) b e in
      let p = and_parts (is_out b) (are_at_odds plan atom b) f.0 in
      out_is_blamed plan sources whole b atom (map (number_of (concluded whole)) (b ∷ atom ∷ [])) s room
      (numbers_found (concluded whole) (b ∷ atom ∷ [])
      (pair_within (concluded whole) b atom (in_has (concluded whole) b f.1) atom_stands))
      (odds_turned plan atom b p.1) (or_left (is_out b) (is_out atom) p.0)

  by_value : (b : Atom) → exhausted_by plan (concluded whole) ≡ None
      → list_any (λ o. is_out o && are_at_odds plan atom o) (concluded whole) ≡ false
      → find (are_at_odds plan atom) (concluded whole) ≡ Some b → BlamesFor (b ∷ atom ∷ [])
  by_value b room none e =
      let f = found (are_at_odds plan atom) (concluded whole) b e in
      let b_in = in_has (concluded whole) b f.1 in
      let numbers = map (number_of (concluded whole)) (b ∷ atom ∷ []) in
      let cited_pair
      = numbers_found (concluded whole) (b ∷ atom ∷ []) (pair_within (concluded whole) b atom b_in atom_stands) in
      elim (told (is_out atom)) [
        | inl out ↦ out_is_blamed plan sources whole b atom numbers s room cited_pair (odds_turned plan atom b f.0)
            (or_right (is_out b) (is_out atom) out)
        | inr value ↦ values_are_blamed plan sources whole b atom numbers s room cited_pair
            (odds_turned plan atom b f.0)
            (none_out b value b_in f.0 none)
      ]

  -- some atom is at odds with the last
  odd : exhausted_by plan (concluded whole) ≡ None → is_clear plan (set_with (concluded whole)) ≡ false
      → AtOdds plan (concluded whole) atom
  odd room unclear =
      let o : Odds plan (set_with (concluded whole))
      = odds_found plan (set_with (concluded whole)) (concluded_named plan sources whole s)
      (has_room plan (concluded whole) room) unclear in
      subst (λ xs. AtOdds plan xs atom) (sym (concluded_next log step))
      (at_odds plan (concluded log) atom clear (subst (λ xs. Odds plan (set_with xs)) (concluded_next log step) o))

  by_search : exhausted_by plan (concluded whole) ≡ None → is_clear plan (set_with (concluded whole)) ≡ false
      → (o p : Option Atom) → find (λ b. is_out b && are_at_odds plan atom b) (concluded whole) ≡ o
      → find (are_at_odds plan atom) (concluded whole) ≡ p → BlamesFor (pair_with atom (or_else o p))
  by_search room unclear (Some b) p e q = by_grain b room e
  by_search room unclear None (Some b) e q =
      by_value b room (nothing_found (λ z. is_out z && are_at_odds plan atom z) (concluded whole) e) q
  by_search room unclear None None e q =
      let d = odd room unclear in
      absurd (both d.odds
      (none_at same_atom atom_exact atom_itself (are_at_odds plan atom) (concluded whole) d.other
      (nothing_found (are_at_odds plan atom) (concluded whole) q) d.stands))

  by_room : is_clear plan (set_with (concluded whole)) ≡ false → (o : Option ℕ)
      → exhausted_by plan (concluded whole) ≡ o
      → BlamesFor (colliding_by plan (concluded whole) atom o)
  by_room unclear (Some v) e = by_variable v e
  by_room unclear None e =
      by_search e unclear (find (λ b. is_out b && are_at_odds plan atom b) (concluded whole))
      (find (are_at_odds plan atom) (concluded whole)) refl refl

pub unclear_is_blamed : UnclearIsBlamed
unclear_is_blamed plan sources log step s clear unclear =
    by_room plan sources log step s clear unclear (exhausted_by plan (concluded (log ++ step ∷ []))) refl
