-- A plain component of a model that a text spells is no object, and an object that a line has doesn't stand below the
-- line's.
use Rattle.std.proofs.Common.{◌≡◌, ℕ, zero, suc, ◌+◌, ◌<◌, ◌≤◌, Bool, true, false, cond, not, ◌⊎◌, inl, inr}
use Rattle.std.proofs.Common.{nat_lt, nat_le}
use Rattle.std.proofs.Common.{List, [], ◌∷◌, ◌++◌, length, map, Option, Some, None, refl}
use Rattle.std.proofs.Common.{sym, ap, subst, ◌∙◌, length-append, arith}
use Rattle.std.specs.Prelude.{slice_get}
use Rattle.std.specs.List.{list_all, list_any, position_or_len}
use Rattle.std.proofs.lemmas.Bool.{or_parts, not_from_false, false_from_ne_true, le-leb, lt-ltb, ne_eqb}
use Rattle.std.proofs.lemmas.List.Folds.{prefix_len-append}
use Rattle.vc_value.specs.Words.{same_bytes}
use Rattle.vc_model_lines.specs.declared.line.Line.{Line}
use Rattle.vc_model_lines.specs.declared.line.Line.TheVariants as lines
use Rattle.vc_model_lines.specs.declared.line.BillLine.{BillLine}
use Rattle.vc_model_lines.specs.declared.line.ObjectLine.{ObjectLine}
use Rattle.vc_model_scope.specs.Contents.{component_of, object_of}
use Rattle.vc_model_scope.specs.Names.{is_among, place_of, with_name}
use Rattle.vc_model_scope.specs.Recursions.{declared, with_option}
use Rattle.vc_model_scope.specs.Scope.{scope_of}
use Rattle.vc_model_scope.specs.Stands.{opens}
use Rattle.vc_model_scope.specs.declared.scope.Scope.{Scope}
use Rattle.vc_model_faults.specs.First.{backwards}
use Rattle.vc_model_faults.specs.Twice.{is_twice}
use Rattle.vc_model_drafts.specs.Models.{until, never, component_or, item_at, object_at, model_of}
use Rattle.vc_model_drafts.specs.Seen.{SeenItem, SeenObject}
use Rattle.vc_model_laws.specs.Components.{is_at_most, is_plain_apart, KeepsComponents}
use Rattle.vc_model_laws.proofs.DeclaringLaws.{object_add, objects_are}
use Rattle.vc_model_laws.proofs.IndicesLaws.{among_with, own_name, scope_objects}
use Rattle.vc_model_laws.proofs.KindsLaws.{not_placed}
use Rattle.vc_model_laws.proofs.LineCases.{object_made, at_item, at_object}
use Rattle.vc_model_laws.proofs.Holding.{each}
use Rattle.vc_model_laws.proofs.MarkedLaws.{among_cases}
use Rattle.vc_model_laws.proofs.NameCases.{by_object}
use Rattle.vc_model_laws.proofs.NameLemmas.{has_number, found_at, any_map}
use Rattle.vc_model_laws.proofs.NamesLaws.{made}
use Rattle.vc_model_laws.proofs.Walks.{Passes, Sound, Stands, said, all_keep, declared_is, each_said, each_under}

-- a plain component
none_among : (names : List (List ℕ)) (name : List ℕ) → place_of names name ≡ None → is_among names name ≡ false
none_among names name e = false_from_ne_true (is_among names name) (λ h. let at = (has_number names name h).is in cc)

plain_component : (names : List (List ℕ)) (objects : List SeenObject) (material : List ℕ) (o : Option ℕ)
    → place_of names material ≡ o
    → names ≡ map (λ o. o.material) objects → is_plain_apart objects (component_or material o) ≡ true
plain_component names objects material None e m =
    let none : list_any (λ o. same_bytes material o.material) objects ≡ false =
    any_map (λ o. o.material) (same_bytes material) objects ∙ ap (list_any (same_bytes material)) (sym m)
    ∙ none_among names material e in
    not_from_false (list_any (λ o. same_bytes material o.material) objects) none
plain_component names objects material (Some object) e m = refl

-- a name's number stays where more names come
kept_place : (names more : List (List ℕ)) (name : List ℕ) → is_among names name ≡ true
    → place_of (names ++ more) name ≡ place_of names name
kept_place names more name h =
    ap (λ n. cond (nat_lt n (length (names ++ more))) (Some n) None) same
    ∙ ap (λ b. cond b (Some at) None) (longer ∙ sym inside)
  where
    at : ℕ
    at = position_or_len (same_bytes name) names

    here : at < length names
    here = (found_at names name h).0

    apart : (m n : ℕ) → m < n → m ≡ n → ⊥
    apart m n l e = absurd (omega (arith, l, e))

    same : position_or_len (same_bytes name) (names ++ more) ≡ at
    same =
        prefix_len-append (λ other. not (same_bytes name other)) names more
        ∙ ap (λ b. cond b (length names + position_or_len (same_bytes name) more) at)
        (ne_eqb at (length names) (apart at (length names) here))

    inside : nat_lt at (length names) ≡ true
    inside = lt-ltb at (length names) here

    longer : nat_lt at (length (names ++ more)) ≡ true
    longer = lt-ltb at (length (names ++ more)) (omega (arith, here, length-append names more))

-- a material that a bill has, and no object above, is never an object's
abbrev Taken : List ℕ → List Line → Type 0
Taken name earlier = (is_among (declared component_of earlier) name ≡ true)
    × (is_among (declared object_of earlier) name ≡ false)

free : (earlier : List Line) (x : ObjectLine) → is_twice (scope_of earlier) (lines.Object x) ≡ false
    → is_among (declared component_of earlier) x.material ≡ false
unfolding is_twice scope_of
free earlier x once = (or_parts (is_among (declared object_of earlier) x.material)
    (is_among (declared component_of earlier) x.material) once).1

taken_kept : (name : List ℕ) (earlier : List Line) (line : Line) (below : List Line)
    → Passes (scope_of earlier) line below → Taken name earlier
    → Taken name (line ∷ earlier)
taken_kept name earlier line below p h = (
  among_with (declared component_of earlier) (component_of line) name h.0,
  by_object (scope_of earlier) line below (λ o. is_among (with_option with_name (declared object_of earlier) o)
      name ≡ false) h.1
      (λ x q. false_from_ne_true (is_among (with_name (declared object_of earlier) x.material) name)
      (λ there. another x.material (free earlier x q.once)
      (among_cases (declared object_of earlier) x.material name there))) p,
)
  where
    another : (material : List ℕ) → is_among (declared component_of earlier) material ≡ false
        → (is_among (declared object_of earlier) name ≡ true) ⊎ (name ≡ material) → ⊥
    another material none (inl stood) = let no = h.1 in cc
    another material none (inr e) = let no = ap (is_among (declared component_of earlier)) e ∙ none in let yes =
        h.0 in cc

-- no object is declared below another's line, up to one that ends its bill
no_object : (line : Line) → opens line ≡ false → object_of line ≡ None
no_object lines.Skipped going = refl
no_object (lines.Inner x) going = refl
no_object lines.LongInner going = refl
no_object lines.End going = refl
no_object (lines.TooLong x) going = absurd (cc)
no_object (lines.NoForm x) going = absurd (cc)
no_object (lines.Head x) going = absurd (cc)
no_object (lines.Char x) going = absurd (cc)
no_object (lines.Num x) going = absurd (cc)
no_object (lines.Text x) going = refl
no_object (lines.Interval x) going = refl
no_object (lines.Uses x) going = refl
no_object (lines.Class x) going = absurd (cc)
no_object (lines.Has x) going = refl
no_object (lines.Table x) going = absurd (cc)
no_object (lines.Column x) going = refl
no_object (lines.Net x) going = absurd (cc)
no_object (lines.Object x) going = absurd (cc)
no_object (lines.Bill x) going = refl
no_object (lines.Operation x) going = refl
no_object (lines.Block x) going = absurd (cc)
no_object (lines.Root x) going = absurd (cc)
no_object lines.Action going = absurd (cc)

abbrev Same : List (List ℕ) → List Line → Type 0
Same names earlier = declared object_of earlier ≡ names

same_kept : (names : List (List ℕ)) (earlier : List Line) (line : Line) (below : List Line)
    → Passes (scope_of earlier) line below → opens line ≡ false
    → Same names earlier → Same names (line ∷ earlier)
same_kept names earlier line below p going h =
    ap (λ o. with_option with_name (declared object_of earlier) o) (no_object line going) ∙ h

-- the object that a line of a bill has
place_at_most : (names : List (List ℕ)) (count : ℕ) (all earlier : List Line) (x : BillLine) (below : List Line)
    → Stands all earlier (lines.Bill x) below → Same names earlier → length names ≤ suc count
    → each (λ j. nat_le j count) (place_of (scope_of all).declared.objects x.material) ≡ true
place_at_most names count all earlier x below s same few =
    ap (λ ns. each (λ j. nat_le j count) (place_of ns x.material)) (scope_objects all)
    ∙ by (is_among (declared object_of earlier) x.material) refl
  where
    all_are : declared object_of all ≡ declared object_of earlier ++ said never object_of (lines.Bill x ∷ below)
    all_are =
        sym (ap (declared object_of) s.all_are) ∙ declared_is object_of object_add earlier (lines.Bill x ∷ below)
        (s.passes, s.after)

    less : (j : ℕ) → j < length names → j ≤ count
    less j h = omega (arith, h, few)

    by : (b : Bool) → is_among (declared object_of earlier) x.material ≡ b
        → each (λ j. nat_le j count) (place_of (declared object_of all) x.material) ≡ true
    by true is =
        let number = has_number (declared object_of earlier) x.material is in
        ap (λ ns. each (λ j. nat_le j count) (place_of ns x.material)) all_are
        ∙ ap (each (λ j. nat_le j count)) (kept_place (declared object_of earlier)
        (said never object_of (lines.Bill x ∷ below)) x.material is ∙ number.is)
        ∙ le-leb number.number count (less number.number (subst (λ ns. number.number < length ns) same number.inside))
    by false is =
        let taken : Taken x.material (lines.Bill x ∷ earlier) =
        (own_name (declared component_of earlier) x.material, is) in
        let none : is_among (declared object_of all) x.material ≡ false =
        subst (λ ls. is_among (declared object_of ls) x.material ≡ false) s.all_are
        (all_keep (Taken x.material) (taken_kept x.material) (lines.Bill x ∷ earlier) below s.after taken).1 in
        ap (each (λ j. nat_le j count)) (not_placed (declared object_of all) x.material none)

component_at_most : (count : ℕ) (material : List ℕ) (o : Option ℕ) → each (λ j. nat_le j count) o ≡ true
    → is_at_most count (component_or material o) ≡ true
component_at_most count material None h = refl
component_at_most count material (Some object) h = h

bill_at_most : (all earlier : List Line) (n : ℕ) (x : ObjectLine) (below : List Line)
    → Stands all earlier (lines.Object x) below
    → list_all (λ i. is_at_most (length (declared object_of earlier)) i.component)
    (object_made (scope_of all) n x below).bill ≡ true
bill_at_most all earlier n x below s =
    each_under opens (item_at a) test all (Same names) (same_kept names)
    (λ e n l b p c. at_item all e a n l b test
    (λ y q t. component_at_most count y.material (place_of a.declared.objects y.material)
    (place_at_most names count all e y b q c few)) p)
    (lines.Object x ∷ earlier) (n + 1) below s.after s.all_are refl
  where
    a : Scope
    a = scope_of all

    count : ℕ
    count = length (declared object_of earlier)

    names : List (List ℕ)
    names = declared object_of (lines.Object x ∷ earlier)

    test : SeenItem → Bool
    test i = is_at_most count i.component

    few : length names ≤ suc count
    few =
        let added : names ≡ declared object_of earlier ++ x.material ∷ [] =
        object_add earlier (lines.Object x) below s.passes in
        let n = ap length added in omega (arith, n, length-append (declared object_of earlier) (x.material ∷ []))

one_longer : (earlier : List Line) (x : ObjectLine) (below : List Line) (k : ℕ)
    → Passes (scope_of earlier) (lines.Object x) below
    → length (declared object_of (lines.Object x ∷ earlier)) + k ≡ length (declared object_of earlier) + suc k
one_longer earlier x below k p =
    let added : declared object_of (lines.Object x ∷ earlier) ≡ declared object_of earlier ++ x.material ∷ [] =
    object_add earlier (lines.Object x) below p in
    let n = ap length added in omega (arith, n, length-append (declared object_of earlier) (x.material ∷ []))

-- each object's bill, by its number
abbrev AtMost : ℕ → SeenObject → Type 0
AtMost number object = list_all (λ i. is_at_most number i.component) object.bill ≡ true

plus_none : (n : ℕ) → n ≡ n + 0
plus_none n = omega arith

plus_zero : (n : ℕ) → 0 + n ≡ n
plus_zero n = omega arith

some_same : (a b : SeenObject) → Some a ≡ Some b → a ≡ b
some_same a b e = cc

above_from : (all earlier : List Line) (n : ℕ) (ls : List Line) → Sound earlier ls → backwards earlier ls ≡ all
    → (k : ℕ) (object : SeenObject)
    → slice_get (until never (object_at (scope_of all)) n ls) k ≡ Some object
    → AtMost (length (declared object_of earlier) + k) object
above_from all earlier n [] s e k object h = absurd (cc)
above_from all earlier n (lines.Skipped ∷ below) s e k object h =
    above_from all (lines.Skipped ∷ earlier) (n + 1) below s.1 e k object h
above_from all earlier n ((lines.Inner x) ∷ below) s e k object h =
    above_from all ((lines.Inner x) ∷ earlier) (n + 1) below s.1 e k object h
above_from all earlier n (lines.LongInner ∷ below) s e k object h =
    above_from all (lines.LongInner ∷ earlier) (n + 1) below s.1 e k object h
above_from all earlier n (lines.End ∷ below) s e k object h =
    above_from all (lines.End ∷ earlier) (n + 1) below s.1 e k object h
above_from all earlier n ((lines.TooLong x) ∷ below) s e k object h =
    above_from all ((lines.TooLong x) ∷ earlier) (n + 1) below s.1 e k object h
above_from all earlier n ((lines.NoForm x) ∷ below) s e k object h =
    above_from all ((lines.NoForm x) ∷ earlier) (n + 1) below s.1 e k object h
above_from all earlier n ((lines.Head x) ∷ below) s e k object h =
    above_from all ((lines.Head x) ∷ earlier) (n + 1) below s.1 e k object h
above_from all earlier n ((lines.Char x) ∷ below) s e k object h =
    above_from all ((lines.Char x) ∷ earlier) (n + 1) below s.1 e k object h
above_from all earlier n ((lines.Num x) ∷ below) s e k object h =
    above_from all ((lines.Num x) ∷ earlier) (n + 1) below s.1 e k object h
above_from all earlier n ((lines.Text x) ∷ below) s e k object h =
    above_from all ((lines.Text x) ∷ earlier) (n + 1) below s.1 e k object h
above_from all earlier n ((lines.Interval x) ∷ below) s e k object h =
    above_from all ((lines.Interval x) ∷ earlier) (n + 1) below s.1 e k object h
above_from all earlier n ((lines.Uses x) ∷ below) s e k object h =
    above_from all ((lines.Uses x) ∷ earlier) (n + 1) below s.1 e k object h
above_from all earlier n ((lines.Class x) ∷ below) s e k object h =
    above_from all ((lines.Class x) ∷ earlier) (n + 1) below s.1 e k object h
above_from all earlier n ((lines.Has x) ∷ below) s e k object h =
    above_from all ((lines.Has x) ∷ earlier) (n + 1) below s.1 e k object h
above_from all earlier n ((lines.Table x) ∷ below) s e k object h =
    above_from all ((lines.Table x) ∷ earlier) (n + 1) below s.1 e k object h
above_from all earlier n ((lines.Column x) ∷ below) s e k object h =
    above_from all ((lines.Column x) ∷ earlier) (n + 1) below s.1 e k object h
above_from all earlier n ((lines.Net x) ∷ below) s e k object h =
    above_from all ((lines.Net x) ∷ earlier) (n + 1) below s.1 e k object h
above_from all earlier n (lines.Object x ∷ below) s e zero object h =
    let first = bill_at_most all earlier n x below (record { passes = s.0; after = s.1; all_are = e }) in
    let same : object_made (scope_of all) n x below ≡ object =
    some_same (object_made (scope_of all) n x below) object h in
    subst (AtMost (length (declared object_of earlier) + 0)) same
    (subst (λ (m : ℕ). AtMost m (object_made (scope_of all) n x below))
    (plus_none (length (declared object_of earlier))) first)
above_from all earlier n (lines.Object x ∷ below) s e (suc k) object h =
    subst (λ (m : ℕ). AtMost m object) (one_longer earlier x below k s.0)
    (above_from all (lines.Object x ∷ earlier) (n + 1) below s.1 e k object h)
above_from all earlier n ((lines.Bill x) ∷ below) s e k object h =
    above_from all ((lines.Bill x) ∷ earlier) (n + 1) below s.1 e k object h
above_from all earlier n ((lines.Operation x) ∷ below) s e k object h =
    above_from all ((lines.Operation x) ∷ earlier) (n + 1) below s.1 e k object h
above_from all earlier n ((lines.Block x) ∷ below) s e k object h =
    above_from all ((lines.Block x) ∷ earlier) (n + 1) below s.1 e k object h
above_from all earlier n ((lines.Root x) ∷ below) s e k object h =
    above_from all ((lines.Root x) ∷ earlier) (n + 1) below s.1 e k object h
above_from all earlier n (lines.Action ∷ below) s e k object h =
    above_from all (lines.Action ∷ earlier) (n + 1) below s.1 e k object h

pub keeps_components : (ls : List Line) → Sound [] ls → KeepsComponents (model_of ls)
keeps_components ls s =
    let all = backwards [] ls in
    let a = scope_of all in
    let objects = (model_of ls).objects in
    let plain : SeenItem → Bool = λ i. is_plain_apart objects i.component in
    let names : a.declared.objects ≡ map (λ o. o.material) objects = scope_objects all ∙ sym (objects_are ls s) in
    record {
      plain = made (object_at a) (λ o. list_all plain o.bill) ls s
          (λ e n l b p. at_object all e a n l b (λ o. list_all plain o.bill)
          (λ x q. each_said opens (item_at a) plain all
          (λ e n l b p. at_item all e a n l b plain
          (λ y q t. plain_component a.declared.objects objects y.material (place_of a.declared.objects y.material)
          refl names) p)
          (lines.Object x ∷ e) (n + 1) b q.after q.all_are) p);
      above = λ k object e. subst (λ (m : ℕ). AtMost m object) (plus_zero k) (above_from all [] 1 ls s refl k object e);
    }
