-- A new atom that leaves a set clear has a place at which nothing stands.
use Rattle.std.proofs.Common.{◌≡◌, ℕ, ◌<◌, Bool, true, false, not, ◌&&◌, List, [], ◌∷◌, ◌++◌, length, refl, sym, ◌∙◌}
use Rattle.std.proofs.Common.{ap, subst, inl, inr, arith}
use Rattle.std.specs.Prelude.{nat_eq, nat_lt}
use Rattle.std.proofs.lemmas.Bool.{and_from, lt-ltb, not_from_false}
use Rattle.vc_base.specs.Sets.{has, Within}
use Rattle.vc_base.proofs.ListLaws.{number_exact, number_itself}
use Rattle.vc_base.proofs.SetLaws.{both, has_back, has_cases, has_first, has_front, has_more, told}
use Rattle.vc_plan.specs.declared.atoms.Atom.{Atom}
use Rattle.vc_plan.specs.declared.atoms.Atom.TheVariants.{Here, Out, Is}
use Rattle.vc_plan.specs.declared.plans.Plan.{Plan}
use Rattle.vc_plan.specs.Bounds.{Place, here_at, is_at, out_at, place_for}
use Rattle.vc_plan.specs.Clear.{collides}
use Rattle.vc_plan.specs.Domains.{atom_count}
use Rattle.vc_plan.specs.Pieces.{same_value}
use Rattle.vc_plan.specs.Seen.{same_atom}
use Rattle.vc_plan.proofs.PlanLaws.Atoms.{atom_exact, atom_itself}
use Rattle.vc_plan.proofs.PlanLaws.Facts.{Facts, facts, part_clear}
use Rattle.vc_plan_reasons.specs.Checking.{set_with}
use Rattle.vc_plan_blame.proofs.BlameLaws.Growing.{has_says}
use Rattle.vc_net_places.specs.Places.{Index, is_place, number_of, place_in, place_of}
use Rattle.vc_net_places.proofs.PlaceLaws.Numbering.{named_have_places, places_are_apart, places_are_counted}
use Rattle.vc_net_places.proofs.PlaceLaws.Things.{index_tells_places, things_are_counted}
use Rattle.vc_net_standing.specs.declared.standing.Fact.{Fact}
use Rattle.vc_net_standing.specs.Laws.{NewAtomsAreFree}
use Rattle.vc_net_standing.specs.Standing.{atoms_of, places_of, set_of}

-- atoms of one place that don't collide are one
slot_at : Place → ℕ
slot_at (here_at i) = i
slot_at (out_at v g) = 0
slot_at (is_at v) = 0

var_at : Place → ℕ
var_at (here_at i) = 0
var_at (out_at v g) = v
var_at (is_at v) = v

grain_at : Place → ℕ
grain_at (here_at i) = 0
grain_at (out_at v g) = g
grain_at (is_at v) = 0

equal : (m n : ℕ) → m ≡ n → nat_eq m n ≡ true
equal m n e = ap (nat_eq m) (sym e) ∙ number_itself m

same_there : (plan : Plan) (a b : Atom) → place_for a ≡ place_for b → collides plan a b ≡ false → same_atom a b ≡ true
unfolding slot_at var_at grain_at
same_there plan (Here i) (Here j) e c = equal i j (ap slot_at e)
same_there plan (Here i) (Out w h) e c = absurd (cc)
same_there plan (Here i) (Is w b) e c = absurd (cc)
same_there plan (Out v g) (Here j) e c = absurd (cc)
same_there plan (Out v g) (Out w h) e c = and_from (nat_eq v w) (nat_eq g h) (equal v w (ap var_at e))
    (equal g h (ap grain_at e))
same_there plan (Out v g) (Is w b) e c = absurd (cc)
same_there plan (Is v a) (Here j) e c = absurd (cc)
same_there plan (Is v a) (Out w h) e c = absurd (cc)
same_there plan (Is v a) (Is w b) e c = by (nat_eq v w) (same_value a b) (equal v w (ap var_at e)) c
  where
    by : (p q : Bool) → p ≡ true → (p && not q) ≡ false → (p && q) ≡ true
    by true true f g = refl
    by true false f g = absurd (cc)
    by false q f g = absurd (cc)

-- what stands at a place among those of facts
record At (index : Index) (facts : List Fact) (p : ℕ) : Type 0 where
  fact : Fact
  among : has same_atom (atoms_of facts) fact.atom ≡ true
  place : place_in index fact.atom ≡ p

place_read : (index : Index) (all : List Fact) (p : ℕ) → has nat_eq (places_of index all) p ≡ true → At index all p
place_read index [] p h = absurd (cc)
place_read index (first ∷ all) p h =
    elim (has_cases nat_eq number_exact number_itself (place_in index first.atom) (places_of index all) p h) [
      | inl e ↦ record {
        fact = first;
        among = has_first same_atom atom_exact atom_itself first.atom (atoms_of all);
        place = sym e;
      }
      | inr later ↦
          let r = place_read index all p later in
          record {
            fact = r.fact;
            among = has_more same_atom atom_exact atom_itself first.atom
                (atoms_of all) r.fact.atom r.among;
            place = r.place;
          }
    ]

pub new_atoms_are_free : NewAtomsAreFree
new_atoms_are_free plan stood atom is clear new =
    let before = atoms_of stood.facts in
    let set = set_with (before ++ atom ∷ []) in
    let f : Facts plan set = facts plan set clear in
    let grows : Within same_atom (set_of stood) set = λ a h. has_front same_atom atom_exact atom_itself (set_of stood)
    (atom ∷ []) a h in
    let itself : has same_atom set atom ≡ true
    = has_back same_atom atom_exact atom_itself (set_of stood) (atom ∷ []) atom
    (has_first same_atom atom_exact atom_itself atom []) in
    let there : is_place plan (place_for atom) ≡ true = named_have_places plan atom (f.named atom itself) in
    let number : place_in stood.index atom ≡ place_of plan atom
    = ap (λ index. place_in index atom) is ∙ index_tells_places plan atom there in
    let counted : length stood.index.things ≡ atom_count plan
    = ap (λ (index : Index). length index.things) is ∙ things_are_counted plan in
    let low = places_are_counted plan (place_for atom) there in
    let below : place_in stood.index atom < length stood.index.things = omega (arith, number, counted, low) in
    let lacks : has nat_eq (places_of stood.index stood.facts) (place_in stood.index atom) ≡ false
    = elim (told (has nat_eq (places_of stood.index stood.facts) (place_in stood.index atom))) [
      | inl h ↦
          let r = place_read stood.index stood.facts (place_in stood.index atom) h in
          let old = r.fact.atom in
          let stands : has same_atom (set_of stood) old ≡ true
          = has_more same_atom atom_exact atom_itself (Here 0) before old r.among in
          let place : is_place plan (place_for old) ≡ true = named_have_places plan old
          (f.named old (grows old stands)) in
          let same_number : number_of plan (place_for old) ≡ number_of plan (place_for atom)
          = sym (ap (λ index. place_in index old) is ∙ index_tells_places plan old place) ∙ (r.place ∙ number) in
          let one : old ≡ atom
          = atom_exact old atom
          (same_there plan old atom (places_are_apart plan (place_for old) (place_for atom) place there same_number)
          (f.apart old atom (grows old stands) itself)) in
          let small = part_clear plan (set_of stood) set clear grows in
          absurd (both (has_says plan (set_of stood) small atom
          (subst (λ a. has same_atom (set_of stood) a ≡ true) one stands)) new)
      | inr h ↦ h
    ] in
    and_from (nat_lt (place_in stood.index atom) (length stood.index.things))
    (not (has nat_eq (places_of stood.index stood.facts) (place_in stood.index atom)))
    (lt-ltb (place_in stood.index atom) (length stood.index.things) below)
    (not_from_false (has nat_eq (places_of stood.index stood.facts) (place_in stood.index atom)) lacks)
