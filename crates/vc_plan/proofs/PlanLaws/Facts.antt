-- Clear sets of atoms, read as facts on what stands; a part of one is one.
use Rattle.std.proofs.Common.{◌≡◌, ℕ, ◌≤◌, true, false, not, ◌&&◌, List, length, ap, inl, inr, arith}
use Rattle.std.specs.Prelude.{nat_eq, Option, None, Some, slice_get}
use Rattle.std.specs.List.{list_any, list_all}
use Rattle.std.proofs.lemmas.Bool.{and_parts, and_from, not-true, not_from_false, false_from_ne_true, cases_lt}
use Rattle.vc_base.specs.Sets.{has, Within}
use Rattle.vc_base.proofs.SetLaws.{both, all_at, all_from, none_at, none_passes}
use Rattle.vc_plan.specs.declared.atoms.Atom.{Atom}
use Rattle.vc_plan.specs.declared.atoms.Atom.TheVariants.{Here, Out}
use Rattle.vc_plan.specs.declared.plans.Plan.{Plan}
use Rattle.vc_plan.specs.Clear.{is_named, collides, are_all_out, is_exhausted, is_clear}
use Rattle.vc_plan.specs.Domains.{numbers_below, count_of}
use Rattle.vc_plan.specs.Seen.{Seen, same_atom, seen_of, slot_in, is_slot_here, is_here}
use Rattle.vc_base.proofs.ListLaws.{number_exact, number_itself, range_has}
use Rattle.vc_plan.proofs.PlanLaws.Atoms.{atom_exact, atom_itself}
use Rattle.vc_plan.proofs.PlanLaws.Lists.{all_grows, get_past}

-- what clear says of what stands
pub record Facts (plan : Plan) (set : List Atom) : Type 0 where
  pub named : (a : Atom) → has same_atom set a ≡ true → is_named plan a ≡ true
  pub apart : (a b : Atom) → has same_atom set a ≡ true → has same_atom set b ≡ true → collides plan a b ≡ false
  pub room : (v : ℕ) → is_exhausted plan (seen_of set) v ≡ false

-- a variable that isn't there has no slot
pub not_exhausted_past : (plan : Plan) (s : Seen) (v : ℕ) → length plan.vars ≤ v → is_exhausted plan s v ≡ false
not_exhausted_past plan s v past =
    ap (λ o. is_slot_here s (slot_in o) && are_all_out plan s v) (get_past plan.vars v past)

pub facts : (plan : Plan) (set : List Atom) → is_clear plan set ≡ true → Facts plan set
facts plan set clear =
    let names = list_all (is_named plan) set in
    let pairs = list_all (λ a. not (list_any (collides plan a) set)) set in
    let some = list_any (is_exhausted plan (seen_of set)) (numbers_below (length plan.vars)) in
    let outer : ((names && pairs) ≡ true) × (not some ≡ true) = and_parts (names && pairs) (not some) clear in
    let inner : (names ≡ true) × (pairs ≡ true) = and_parts names pairs outer.0 in
    record {
      named = λ a h. all_at same_atom atom_exact atom_itself (is_named plan) set a inner.0 h;
      apart = λ a b h k.
          none_at same_atom atom_exact atom_itself (collides plan a) set b
          (not-true (list_any (collides plan a) set)
          (all_at same_atom atom_exact atom_itself (λ c. not (list_any (collides plan c) set)) set a inner.1 h)) k;
      room = λ v. elim (cases_lt v (length plan.vars)) [
        | inl below ↦
            none_at nat_eq number_exact number_itself (is_exhausted plan (seen_of set))
            (numbers_below (length plan.vars)) v (not-true some outer.1)
            (range_has 0 (length plan.vars) v (omega arith) (omega arith))
        | inr past ↦ not_exhausted_past plan (seen_of set) v past
      ];
    }

pub clear_from : (plan : Plan) (set : List Atom) → Facts plan set → is_clear plan set ≡ true
clear_from plan set f =
    let names = list_all (is_named plan) set in
    let pairs = list_all (λ a. not (list_any (collides plan a) set)) set in
    let some = list_any (is_exhausted plan (seen_of set)) (numbers_below (length plan.vars)) in
    let all_named : names ≡ true = all_from same_atom atom_exact atom_itself (is_named plan) set f.named in
    let all_apart : pairs ≡ true
    = all_from same_atom atom_exact atom_itself (λ c. not (list_any (collides plan c) set)) set
    (λ a h. not_from_false (list_any (collides plan a) set)
    (none_passes same_atom atom_exact atom_itself (collides plan a) set (λ b k. f.apart a b h k))) in
    let rooms : some ≡ false
    = none_passes nat_eq number_exact number_itself (is_exhausted plan (seen_of set)) (numbers_below (length plan.vars))
    (λ v h. f.room v) in
    and_from (names && pairs) (not some) (and_from names pairs all_named all_apart) (not_from_false some rooms)

-- a slot that is here stays here
pub slot_stays : (s t : Seen) → ((i : ℕ) → s.here i ≡ true → t.here i ≡ true) → (o : Option ℕ) → is_slot_here s o ≡ true
    → is_slot_here t o ≡ true
slot_stays s t f None e = e
slot_stays s t f (Some i) e = f i e

-- a part says no more than the whole: so it is as apart, and has as much room
pub fewer : (plan : Plan) (part set : List Atom) → Within same_atom part set → Facts plan set → Facts plan part
fewer plan part set within f =
    let s = seen_of part in
    let t = seen_of set in
    record {
      named = λ a h. f.named a (within a h);
      apart = λ a b h k. f.apart a b (within a h) (within b k);
      room = λ v. false_from_ne_true (is_exhausted plan s v) (λ e.
          let p : (is_here plan s v ≡ true) × (are_all_out plan s v ≡ true)
          = and_parts (is_here plan s v) (are_all_out plan s v) e in
          both
          (and_from (is_here plan t v) (are_all_out plan t v)
          (slot_stays s t (λ i h. within (Here i) h) (slot_in (slice_get plan.vars v)) p.0)
          (all_grows (s.out v) (t.out v) (λ g h. within (Out v g) h) (numbers_below (count_of plan v)) p.1))
          (f.room v));
    }

pub part_clear : (plan : Plan) (part set : List Atom) → is_clear plan set ≡ true → Within same_atom part set
    → is_clear plan part ≡ true
part_clear plan part set clear within = clear_from plan part (fewer plan part set within (facts plan set clear))
