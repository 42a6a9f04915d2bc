-- A pass that came over lines without a fault, and what it finds next.
use Rattle.std.proofs.Common.{◌≡◌, ℕ, ◌+◌, Bool, true, false, List, [], ◌∷◌, ◌++◌, length, map, option_to_list, Some}
use Rattle.std.proofs.Common.{refl, sym, ap, subst, ◌∙◌, arith}
use Rattle.std.proofs.lemmas.List.{append-nil, map-append}
use Rattle.std.specs.Str.Lines.{lines}
use Rattle.vc_model_lines.specs.Classified.{line_of, lines_from, lines_below, is_in_block}
use Rattle.vc_model_lines.specs.declared.line.Line.{Line}
use Rattle.vc_model_scope.specs.Scope.{scope_of}
use Rattle.vc_model_scope.specs.Stands.{counts}
use Rattle.vc_model_scope.specs.declared.scope.Scope.{Scope}
use Rattle.vc_model_faults.specs.First.{backwards, readings_of, IsFirstFault, HasNoFault}
use Rattle.vc_model_faults.specs.Found.{Adds}
use Rattle.vc_model_faults.specs.Kinds.{kind_at}
use Rattle.vc_model_faults.specs.Places as places
use Rattle.vc_model_faults.specs.Places.{Numbered, Follows, Kept, line_at, seen_place, seen_places}
use Rattle.vc_model_faults.specs.Readings.{Reading, seen_readings}
use Rattle.vc_model_faults.specs.declared.fault.ModelFaultKind.{ModelFaultKind}
use Rattle.vc_model_faults.specs.declared.fault.ModelFaultKind.TheVariants.{NoRoot}
use Rattle.vc_model_faults.specs.declared.places.Place.{Place}
use Rattle.vc_model_faults.specs.declared.readings.Reading.{Reading as StoredReading}
use Rattle.vc_model_faults.proofs.FirstLaws as first
use Rattle.vc_model_faults.proofs.FirstLaws.{first_fault}
use Rattle.vc_model_faults.proofs.KindLaws.{quiet}

-- no line before the rest has a fault, the rest's first line has the number, and scope, readings and places are those
-- of the lines before it
pub record IsChecked (all rest : List Line) (number : ℕ) (scope : Scope) (readings : List Reading)
    (kept : List Numbered) : Type 0 where
  pub earlier : List Line
  pub number_is : number ≡ length earlier + 1
  pub scope_is : scope ≡ scope_of earlier
  pub readings_are : readings ≡ readings_of earlier rest
  pub places_are : Kept earlier kept
  pub all_are : backwards earlier rest ≡ backwards [] all
  pub fault_is : first_fault number earlier rest ≡ first_fault 1 [] all

pub check_begins : (text : List ℕ) (all : List Line) (scope : Scope) (readings : List StoredReading) (kept : List Place)
    → scope ≡ scope_of [] → readings ≡ []
    → kept ≡ [] → IsChecked all all 1 scope (seen_readings readings) (seen_places text kept)
unfolding seen_readings seen_places
check_begins text all scope readings kept f t k = record {
  earlier = [];
  number_is = refl;
  scope_is = f;
  readings_are = ap seen_readings t;
  places_are = let P : List Place → Type 0 = λ ps. Kept [] (seen_places text ps) in subst P (sym k) places.nothing;
  all_are = refl;
  fault_is = refl;
}

pub check_goes_on : (all rest after : List Line) (line : Line) (number : ℕ) (old new : Scope) (held more : List Reading)
    (before behind : List Numbered) (next : Bool)
    → IsChecked all rest number old held before → rest ≡ line ∷ after
    → Adds line number after old held before new more behind next
    → IsChecked all after (number + 1) new more behind
check_goes_on all rest after line number old new held more before behind next w e a =
    let p
    = first.passed number w.earlier rest all after line old new held more e
    (w.scope_is, w.readings_are, w.all_are, w.fault_is) a.sound a.scope_is a.readings_are in
    let P : ℕ → Type 0 = λ n. Follows line n before behind in
    record {
      earlier = line ∷ w.earlier;
      number_is = omega (arith, w.number_is);
      scope_is = p.0;
      readings_are = p.1;
      places_are = places.more w.places_are (subst P w.number_is a.places_are);
      all_are = p.2;
      fault_is = p.3;
    }

pub check_meets : (all rest after : List Line) (line : Line) (number : ℕ) (old : Scope) (held : List Reading)
    (before : List Numbered) (kind : ModelFaultKind)
    → IsChecked all rest number old held before → rest ≡ line ∷ after → kind_at old line after ≡ Some kind
    → IsFirstFault all kind number
check_meets all rest after line number old held before kind w e stands =
    first.met number w.earlier rest all after line old kind e w.scope_is w.fault_is stands

-- the rest of a text of which the first line is cut off
pub rest_is : (inside : Bool) (bytes raw more : List ℕ) → lines bytes ≡ raw ∷ lines more
    → lines_from inside (lines bytes) ≡ line_of inside raw ∷ lines_below (line_of inside raw) more
rest_is inside bytes raw more e = ap (lines_from inside) e

-- a line that is passed over adds nothing
pub adds_quiet : (line : Line) (number : ℕ) (below : List Line) (scope : Scope) (readings : List Reading)
    (kept : List Numbered) (next : Bool)
    → counts line ≡ false → next ≡ is_in_block line
    → Adds line number below scope readings kept scope readings kept next
adds_quiet line number below scope readings kept next q n =
    let p = quiet scope line below q in
    record {
      next_is = n;
      sound = p.0;
      scope_is = sym p.1;
      readings_are = sym (append-nil readings) ∙ ap (λ r. readings ++ option_to_list r) (sym p.2);
      places_are = places.passed q;
    }

-- a line that counts is kept behind those before it
pub keeps : (text : List ℕ) (old new : List Place) (place : Place) → new ≡ old ++ place ∷ []
    → Follows (line_at text place.start) place.number (seen_places text old) (seen_places text new)
unfolding seen_places
keeps text old new place e =
    let P : List Numbered → Type 0
    = λ ps. Follows (line_at text place.start) place.number (map (seen_place text) old) ps in
    subst P (sym (ap (map (seen_place text)) e ∙ map-append (seen_place text) old (place ∷ []))) places.kept

-- the pass came to the text's end
check_comes : (all rest : List Line) (number : ℕ) (scope : Scope) (readings : List Reading) (kept : List Numbered)
    → IsChecked all rest number scope readings kept
    → rest ≡ [] → (scope ≡ scope_of (backwards [] all)) × (readings ≡ readings_of (backwards [] all) [])
    × Kept (backwards [] all) kept
check_comes all rest number scope readings kept w e =
    let whole : w.earlier ≡ backwards [] all = sym (ap (backwards w.earlier) e) ∙ w.all_are in
    let P : List Line → Type 0 = λ ls. Kept ls kept in (
      w.scope_is ∙ ap scope_of whole,
      w.readings_are ∙ ap (readings_of w.earlier) e
          ∙ ap (λ ls. readings_of ls []) whole,
      subst P whole w.places_are,
    )

pub check_ends : (all rest : List Line) (number : ℕ) (scope : Scope) (readings : List Reading) (kept : List Numbered)
    → IsChecked all rest number scope readings kept
    → rest ≡ [] → scope.root ≡ true
    → HasNoFault all × (scope ≡ scope_of (backwards [] all)) × (readings ≡ readings_of (backwards [] all) [])
    × Kept (backwards [] all) kept
check_ends all rest number scope readings kept w e rooted =
    let come = check_comes all rest number scope readings kept w e in (
      first.no_fault all (first.ended number w.earlier rest all scope true e w.scope_is w.fault_is rooted),
      come.0,
      come.1,
      come.2,
    )

pub check_ends_rootless : (all rest : List Line) (number : ℕ) (scope : Scope) (readings : List Reading)
    (kept : List Numbered)
    → IsChecked all rest number scope readings kept → rest ≡ [] → scope.root ≡ false → IsFirstFault all NoRoot number
check_ends_rootless all rest number scope readings kept w e rootless =
    first.is_first all NoRoot number
    (first.ended number w.earlier rest all scope false e w.scope_is w.fault_is rootless)
