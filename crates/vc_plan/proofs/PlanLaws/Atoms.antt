-- Atoms and values are told apart exactly.
use Rattle.std.proofs.Common.{◌≡◌, true, refl, ◌∙◌, ap, subst}
use Rattle.std.specs.Prelude.{◌==◌}
use Rattle.std.specs.Cmp.{IsEquivalence}
use Rattle.std.proofs.lemmas.Bool.{and_parts, and_from, eqb-true, eq-eqb}
use Rattle.std.proofs.lemmas.Bool.Decides.{Decides-int_eq}
use Rattle.vc_base.proofs.SetLaws.{same_test}
use Rattle.vc_value.specs.declared.value.Value.{Value}
use Rattle.vc_value.specs.declared.value.Value.TheVariants.{Text, Num}
use Rattle.vc_plan.specs.declared.atoms.Atom.{Atom}
use Rattle.vc_plan.specs.declared.atoms.Atom.TheVariants.{Here, Out, Is}
use Rattle.vc_plan.specs.Pieces.{same_value}
use Rattle.vc_plan.specs.Seen.{same_atom}

pub value_exact : (a b : Value) → same_value a b ≡ true → a ≡ b
value_exact (Text s) (Text t) e = ap Text (eqb-true s t e)
value_exact (Text s) (Num b) e = absurd (cc)
value_exact (Num a) (Text t) e = absurd (cc)
value_exact (Num a) (Num b) e = let d = Decides-int_eq a.millionths b.millionths in
    ap (λ z. Num (record { millionths = z })) (d.0 e)

pub value_itself : (a : Value) → same_value a a ≡ true
value_itself (Text s) = eq-eqb s s refl
value_itself (Num a) = let d = Decides-int_eq a.millionths a.millionths in d.1 refl

pub atom_exact : (a b : Atom) → same_atom a b ≡ true → a ≡ b
atom_exact (Here i) (Here j) e = ap Here (eqb-true i j e)
atom_exact (Here i) (Out w h) e = absurd (cc)
atom_exact (Here i) (Is w b) e = absurd (cc)
atom_exact (Out v g) (Here j) e = absurd (cc)
atom_exact (Out v g) (Out w h) e =
    let p : ((v == w) ≡ true) × ((g == h) ≡ true) = and_parts (v == w) (g == h) e in
    ap (λ z. Out z g) (eqb-true v w p.0) ∙ ap (λ z. Out w z) (eqb-true g h p.1)
atom_exact (Out v g) (Is w b) e = absurd (cc)
atom_exact (Is v a) (Here j) e = absurd (cc)
atom_exact (Is v a) (Out w h) e = absurd (cc)
atom_exact (Is v a) (Is w b) e =
    let p : ((v == w) ≡ true) × (same_value a b ≡ true) = and_parts (v == w) (same_value a b) e in
    ap (λ z. Is z a) (eqb-true v w p.0) ∙ ap (λ z. Is w z) (value_exact a b p.1)

pub atom_itself : (a : Atom) → same_atom a a ≡ true
atom_itself (Here i) = eq-eqb i i refl
atom_itself (Out v g) = and_from (v == v) (g == g) (eq-eqb v v refl) (eq-eqb g g refl)
atom_itself (Is v a) = and_from (v == v) (same_value a a) (eq-eqb v v refl) (value_itself a)

pub atom_equivalence : IsEquivalence same_atom
atom_equivalence = record {
  refl = atom_itself;
  symm = λ x y. same_test (same_atom x y) (same_atom y x)
      (λ e. subst (λ z. same_atom z x ≡ true) (atom_exact x y e) (atom_itself x))
      (λ e. subst (λ z. same_atom z y ≡ true) (atom_exact y x e) (atom_itself y));
  congr = λ x y z e. ap (λ w. same_atom w z) (atom_exact x y e);
}
