-- A draft of lines with one more in front is the draft of all of them.
use Rattle.std.proofs.Common.{◌≡◌, ℕ, ◌+◌, false, List, [], ◌∷◌, ◌++◌, length, map, reverse, option_to_list, Some, None}
use Rattle.std.proofs.Common.{refl, sym, ap, subst, ◌∙◌, append_assoc, arith}
use Rattle.std.proofs.lemmas.List.{append-nil, map-append, reverse-append, reverse-reverse}
use Rattle.vc_model_lines.specs.declared.line.Line.{Line}
use Rattle.vc_model_lines.specs.declared.line.Line.TheVariants as lines
use Rattle.vc_model_scope.specs.Stands.{counts}
use Rattle.vc_model_scope.specs.declared.scope.Scope.{Scope}
use Rattle.vc_model_faults.specs.First.{backwards, readings_of}
use Rattle.vc_model_faults.specs.Places as kept
use Rattle.vc_model_faults.specs.Places.{Numbered, Kept, seen_place, seen_places}
use Rattle.vc_model_faults.specs.declared.places.Place.{Place}
use Rattle.vc_model_faults.specs.Readings.{Reading, reading, seen_reading, seen_readings}
use Rattle.vc_model_faults.specs.declared.readings.Reading.{Reading as StoredReading}
use Rattle.vc_model_drafts.specs.Drafts.{SeenDraft, draft_of, with_front}

pub front : (a : Scope) (n : ℕ) (line : Line) (below : List Line)
    → with_front a n (reading line below) line (draft_of a (n + 1) below) ≡ draft_of a n (line ∷ below)
unfolding with_front draft_of
front a n lines.Skipped below = refl
front a n (lines.Inner x) below = refl
front a n lines.LongInner below = refl
front a n lines.End below = refl
front a n (lines.TooLong x) below = refl
front a n (lines.NoForm x) below = refl
front a n (lines.Head x) below = refl
front a n (lines.Char x) below = refl
front a n (lines.Num x) below = refl
front a n (lines.Text x) below = refl
front a n (lines.Interval x) below = refl
front a n (lines.Uses x) below = refl
front a n (lines.Class x) below = refl
front a n (lines.Has x) below = refl
front a n (lines.Table x) below = refl
front a n (lines.Column x) below = refl
front a n (lines.Net x) below = refl
front a n (lines.Object x) below = refl
front a n (lines.Bill x) below = refl
front a n (lines.Operation x) below = refl
front a n (lines.Block x) below = refl
front a n (lines.Root x) below = refl
front a n lines.Action below = refl

skipped : (a : Scope) (n : ℕ) (below : List Line) → draft_of a (n + 1) below ≡ draft_of a n (lines.Skipped ∷ below)
unfolding draft_of
skipped a n below = refl

inner : (a : Scope) (n : ℕ) (text : List ℕ) (below : List Line)
    → draft_of a (n + 1) below ≡ draft_of a n (lines.Inner text ∷ below)
unfolding draft_of
inner a n text below = refl

long_inner : (a : Scope) (n : ℕ) (below : List Line) → draft_of a (n + 1) below ≡ draft_of a n (lines.LongInner ∷ below)
unfolding draft_of
long_inner a n below = refl

end : (a : Scope) (n : ℕ) (below : List Line) → draft_of a (n + 1) below ≡ draft_of a n (lines.End ∷ below)
unfolding draft_of
end a n below = refl

no_reading_of : (line : Line) (below : List Line) → counts line ≡ false → reading line below ≡ None
unfolding reading
no_reading_of lines.Skipped below e = refl
no_reading_of (lines.Inner x) below e = refl
no_reading_of lines.LongInner below e = refl
no_reading_of lines.End below e = refl
no_reading_of (lines.TooLong x) below e = absurd (cc)
no_reading_of (lines.NoForm x) below e = absurd (cc)
no_reading_of (lines.Head x) below e = absurd (cc)
no_reading_of (lines.Char x) below e = absurd (cc)
no_reading_of (lines.Num x) below e = absurd (cc)
no_reading_of (lines.Text x) below e = absurd (cc)
no_reading_of (lines.Interval x) below e = absurd (cc)
no_reading_of (lines.Uses x) below e = absurd (cc)
no_reading_of (lines.Class x) below e = absurd (cc)
no_reading_of (lines.Has x) below e = absurd (cc)
no_reading_of (lines.Table x) below e = absurd (cc)
no_reading_of (lines.Column x) below e = absurd (cc)
no_reading_of (lines.Net x) below e = absurd (cc)
no_reading_of (lines.Object x) below e = absurd (cc)
no_reading_of (lines.Bill x) below e = absurd (cc)
no_reading_of (lines.Operation x) below e = absurd (cc)
no_reading_of (lines.Block x) below e = absurd (cc)
no_reading_of (lines.Root x) below e = absurd (cc)
no_reading_of lines.Action below e = absurd (cc)

-- a line that doesn't count changes nothing
pub passed : (a : Scope) (n : ℕ) (line : Line) (below : List Line) → counts line ≡ false
    → draft_of a (n + 1) below ≡ draft_of a n (line ∷ below)
passed a n lines.Skipped below e = skipped a n below
passed a n (lines.Inner x) below e = inner a n x below
passed a n lines.LongInner below e = long_inner a n below
passed a n lines.End below e = end a n below
passed a n (lines.TooLong x) below e = absurd (cc)
passed a n (lines.NoForm x) below e = absurd (cc)
passed a n (lines.Head x) below e = absurd (cc)
passed a n (lines.Char x) below e = absurd (cc)
passed a n (lines.Num x) below e = absurd (cc)
passed a n (lines.Text x) below e = absurd (cc)
passed a n (lines.Interval x) below e = absurd (cc)
passed a n (lines.Uses x) below e = absurd (cc)
passed a n (lines.Class x) below e = absurd (cc)
passed a n (lines.Has x) below e = absurd (cc)
passed a n (lines.Table x) below e = absurd (cc)
passed a n (lines.Column x) below e = absurd (cc)
passed a n (lines.Net x) below e = absurd (cc)
passed a n (lines.Object x) below e = absurd (cc)
passed a n (lines.Bill x) below e = absurd (cc)
passed a n (lines.Operation x) below e = absurd (cc)
passed a n (lines.Block x) below e = absurd (cc)
passed a n (lines.Root x) below e = absurd (cc)
passed a n lines.Action below e = absurd (cc)

-- and reads nothing
pub reads_nothing : (line : Line) (below : List Line) (readings : List Reading) → counts line ≡ false
    → readings ++ option_to_list (reading line below) ≡ readings
reads_nothing line below readings e = ap (λ r. readings ++ option_to_list r) (no_reading_of line below e)
    ∙ append-nil readings

-- lines from the last to the first, and back
backwards_is : (earlier lines : List Line) → backwards earlier lines ≡ reverse lines ++ earlier
backwards_is earlier [] = refl
backwards_is earlier (line ∷ lines) =
    backwards_is (line ∷ earlier) lines ∙ sym (append_assoc (reverse lines) (line ∷ []) earlier)
    ∙ ap (λ ls. ls ++ earlier) (sym (reverse-append (line ∷ []) lines))

pub same_backwards : (one other : List Line) → backwards [] one ≡ backwards [] other → one ≡ other
same_backwards one other e =
    let turned : reverse one ≡ reverse other =
    sym (append-nil (reverse one)) ∙ sym (backwards_is [] one) ∙ e ∙ backwards_is [] other
    ∙ append-nil (reverse other) in
    sym (reverse-reverse one) ∙ ap reverse turned ∙ reverse-reverse other

-- what stands before the last element of equal lists is equal, and so is the last
pub last_same : {X : Type 0} (xs ys : List X) (x y : X) → xs ++ x ∷ [] ≡ ys ++ y ∷ [] → (xs ≡ ys) × (x ≡ y)
last_same xs ys x y e =
    let turned : x ∷ reverse xs ≡ y ∷ reverse ys
    = sym (reverse-append xs (x ∷ [])) ∙ ap reverse e ∙ reverse-append ys (y ∷ []) in
    let ends : x ≡ y = cc in
    let fronts : reverse xs ≡ reverse ys = cc in
    (sym (reverse-reverse xs) ∙ ap reverse fronts ∙ reverse-reverse ys, ends)

-- a list with a last element isn't empty
no_end : {X : Type 0} (xs : List X) (x : X) → [] ≡ xs ++ x ∷ [] → ⊥
no_end [] x e = cc
no_end (y ∷ ys) x e = cc

-- the last of a list that is kept in memory is the last that is seen
pub last_reading : (old new : List StoredReading) (found : StoredReading) (before : List Reading) (read : Reading)
    → old ≡ new ++ found ∷ [] → seen_readings old ≡ before ++ read ∷ []
    → (seen_readings new ≡ before) × (Some (seen_reading found) ≡ Some read)
unfolding seen_readings
last_reading old new found before read e s =
    let p
    = last_same (map seen_reading new) before (seen_reading found) read
    (sym (map-append seen_reading new (found ∷ [])) ∙ ap (map seen_reading) (sym e) ∙ s) in
    (p.0, ap Some p.1)

-- and where there is none, none is seen
pub no_reading : {Y : Type 0} (old : List StoredReading) (before : List Reading) (read : Reading)
    → old ≡ [] → seen_readings old ≡ before ++ read ∷ [] → Y
unfolding seen_readings
no_reading {Y = Y} old [] read e s = absurd (let none : [] ≡ read ∷ [] = ap (map seen_reading) (sym e) ∙ s in cc)
no_reading {Y = Y} old (first ∷ before) read e s =
    absurd (let none : [] ≡ first ∷ before ++ read ∷ [] = ap (map seen_reading) (sym e) ∙ s in cc)

-- the lines behind those that are left, which are given from the nearest on, are drafted; readings and places left are
-- those of the lines left
pub record IsDrafted (all : List Line) (a : Scope) (draft : SeenDraft) (readings : List Reading)
    (places : List Numbered) : Type 0 where
  pub earlier : List Line
  pub below : List Line
  pub all_are : backwards earlier below ≡ backwards [] all
  pub draft_is : draft ≡ draft_of a (length earlier + 1) below
  pub readings_are : readings ≡ readings_of earlier below
  pub places_are : Kept earlier places

pub draft_begins : (all : List Line) (a : Scope) (draft : SeenDraft) (readings : List Reading) (places : List Numbered)
    → ((n : ℕ) → draft ≡ draft_of a n []) → readings ≡ readings_of (backwards [] all) []
    → Kept (backwards [] all) places
    → IsDrafted all a draft readings places
draft_begins all a draft readings places d t k = record {
  earlier = backwards [] all;
  below = [];
  all_are = refl;
  draft_is = d (length (backwards [] all) + 1);
  readings_are = t;
  places_are = k;
}

one_more : (line : Line) (earlier : List Line) → length (line ∷ earlier) + 1 ≡ length earlier + 1 + 1
one_more line earlier = omega arith

-- places that are kept in memory, with the last taken off, and none of them
pub seen_last : (text : List ℕ) (places fewer : List Place) (place : Place) → places ≡ fewer ++ place ∷ []
    → seen_places text places ≡ seen_places text fewer ++ seen_place text place ∷ []
unfolding seen_places
seen_last text places fewer place e = ap (map (seen_place text)) e ∙ map-append (seen_place text) fewer (place ∷ [])

pub seen_none : (text : List ℕ) (places : List Place) → places ≡ [] → seen_places text places ≡ []
unfolding seen_places
seen_none text places e = ap (map (seen_place text)) e

-- the last place is that of a line behind which all are drafted
pub record IsAtLine (all : List Line) (a : Scope) (draft : SeenDraft) (readings : List Reading) (fewer : List Numbered)
    (place : Numbered) : Type 0 where
  pub earlier : List Line
  pub below : List Line
  pub number_is : place.number ≡ length earlier + 1
  pub all_are : backwards earlier (place.line ∷ below) ≡ backwards [] all
  pub draft_is : draft ≡ draft_of a (place.number + 1) below
  pub readings_are : readings ≡ readings_of earlier (place.line ∷ below) ++ option_to_list (reading place.line below)
  pub places_are : Kept earlier fewer

at_line : (all earlier below : List Line) (a : Scope) (draft : SeenDraft) (readings : List Reading)
    (places fewer : List Numbered) (place : Numbered)
    → Kept earlier places → places ≡ fewer ++ place ∷ [] → backwards earlier below ≡ backwards [] all
    → draft ≡ draft_of a (length earlier + 1) below → readings ≡ readings_of earlier below
    → IsAtLine all a draft readings fewer place
at_line all _ below a draft readings _ fewer place kept.nothing e all_are d r = absurd (no_end fewer place e)
at_line all _ below a draft readings _ fewer place
    (kept.more {line = line} {earlier = earlier} before (kept.passed quiet)) e all_are d r =
    at_line all earlier (line ∷ below) a draft readings _ fewer place before e all_are
    (d ∙ ap (λ n. draft_of a n below) (one_more line earlier) ∙ passed a (length earlier + 1) line below quiet)
    (r ∙ reads_nothing line below (readings_of earlier (line ∷ below)) quiet)
at_line all _ below a draft readings _ fewer place
    (kept.more {line = line} {earlier = earlier} {before = held} before kept.kept) e all_are d r =
    let p = last_same held fewer (record { number = length earlier + 1; line = line }) place e in
    let P : List Numbered → Type 0 = λ ps. Kept earlier ps in
    let Q : Numbered → Type 0 = λ q. IsAtLine all a draft readings fewer q in
    subst Q p.1 (record {
      earlier = earlier;
      below = below;
      number_is = refl;
      all_are = all_are;
      draft_is = d ∙ ap (λ n. draft_of a n below) (one_more line earlier);
      readings_are = r;
      places_are = subst P p.0 before;
    })

pub comes_to_line : (all : List Line) (a : Scope) (draft : SeenDraft) (readings : List Reading)
    (places fewer : List Numbered) (place : Numbered)
    → IsDrafted all a draft readings places → places ≡ fewer ++ place ∷ [] → IsAtLine all a draft readings fewer place
comes_to_line all a draft readings places fewer place d e =
    at_line all d.earlier d.below a draft readings places fewer place d.places_are e d.all_are d.draft_is d.readings_are

pub draft_goes_on : (all : List Line) (a : Scope) (old new : SeenDraft) (readings left : List Reading)
    (fewer : List Numbered) (place : Numbered)
    → (at : IsAtLine all a old readings fewer place) → left ≡ readings_of at.earlier (place.line ∷ at.below)
    → new ≡ with_front a place.number (reading place.line at.below) place.line old → IsDrafted all a new left fewer
draft_goes_on all a old new readings left fewer place at l f = record {
  earlier = at.earlier;
  below = place.line ∷ at.below;
  all_are = at.all_are;
  draft_is =
      f ∙ ap (with_front a place.number (reading place.line at.below) place.line) at.draft_is
      ∙ front a place.number place.line at.below ∙ ap (λ n. draft_of a n (place.line ∷ at.below)) at.number_is;
  readings_are = l;
  places_are = at.places_are;
}

-- the lines left count none
none_left : (all earlier below : List Line) (a : Scope) (draft : SeenDraft) (places : List Numbered)
    → Kept earlier places → places ≡ []
    → backwards earlier below ≡ backwards [] all → draft ≡ draft_of a (length earlier + 1) below
    → draft ≡ draft_of a 1 all
none_left all _ below a draft _ kept.nothing e all_are d = d ∙ ap (draft_of a 1) (same_backwards below all all_are)
none_left all _ below a draft _ (kept.more {line = line} {earlier = earlier} before (kept.passed quiet)) e all_are d =
    none_left all earlier (line ∷ below) a draft _ before e all_are
    (d ∙ ap (λ n. draft_of a n below) (one_more line earlier) ∙ passed a (length earlier + 1) line below quiet)
none_left all _ below a draft _ (kept.more {line = line} {earlier = earlier} {before = held} before kept.kept) e all_are
    d =
    absurd (no_end held (record { number = length earlier + 1; line = line }) (sym e))

pub draft_ends : (all : List Line) (a : Scope) (draft : SeenDraft) (readings : List Reading) (places : List Numbered)
    → IsDrafted all a draft readings places
    → places ≡ [] → draft ≡ draft_of a 1 all
draft_ends all a draft readings places d e =
    none_left all d.earlier d.below a draft places d.places_are e d.all_are d.draft_is
