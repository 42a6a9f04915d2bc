-- The numbers of names that are listed, or used, below one line are different.
use Rattle.std.proofs.Common.{◌≡◌, ℕ, suc, ◌+◌, ◌<◌, Bool, true, false, cond, not, nat_lt, List, []}
use Rattle.std.proofs.Common.{◌∷◌, ◌++◌, length, map, option_to_list, Option, Some, None, if◌then◌else◌}
use Rattle.std.proofs.Common.{refl, sym, ap, subst, ◌∙◌, arith}
use Rattle.std.specs.Prelude.{slice_get, unwrap_or, ◌==◌}
use Rattle.std.specs.List.{cons_option, filter_map, list_all, list_any, position_or_len}
use Rattle.std.proofs.lemmas.Bool.{and_parts, and_from, or_parts, or_from, not_from_false, not-true}
use Rattle.std.proofs.lemmas.Bool.{false_from_ne_true, ltb-true, eqb-true}
use Rattle.std.specs.Cmp.Lexicographic.{bytes_decides}
use Rattle.vc_value.specs.Words.{same_bytes}
use Rattle.vc_model_lines.specs.declared.line.Line.{Line}
use Rattle.vc_model_lines.specs.declared.line.Line.TheVariants as lines
use Rattle.vc_model_scope.specs.Contents.{characteristic_of, text_of, member_of, column_of}
use Rattle.vc_model_scope.specs.Contents.{use_of}
use Rattle.vc_model_scope.specs.Names.{is_among, place_of, with_name}
use Rattle.vc_model_scope.specs.Recursions.{declared, listed, with_option}
use Rattle.vc_model_scope.specs.Scope.{scope_of}
use Rattle.vc_model_scope.specs.Stands.{opens, ends_uses}
use Rattle.vc_model_scope.specs.declared.scope.Scope.{Scope}
use Rattle.vc_model_faults.specs.First.{backwards}
use Rattle.vc_model_drafts.specs.Models.{until, number_of, uses_below, nets_below, use_at, net_use_at}
use Rattle.vc_plan.specs.Orders.{are_apart}
use Rattle.vc_model_laws.specs.Lists.{are_different}
use Rattle.vc_model_laws.proofs.IndicesLaws.{among_later, among_all, own_name, known_has, known_column}
use Rattle.vc_model_laws.proofs.IndicesLaws.{scope_characteristics, scope_texts}
use Rattle.vc_model_laws.proofs.Holding.{each}
use Rattle.vc_model_laws.proofs.ListingLaws.{use_add}
use Rattle.vc_model_laws.proofs.NameLemmas.{one_and, has_number, listed_apart}
use Rattle.vc_model_laws.proofs.Walks.{Passes, Sound, Stands, said, until_keeps}

-- the names of one number are the same
same_some : (a b : List ℕ) → Some a ≡ Some b → a ≡ b
same_some a b e = cc

one_number : (names : List (List ℕ)) (a b : List ℕ) → is_among names a ≡ true → is_among names b ≡ true
    → number_of names a ≡ number_of names b → a ≡ b
one_number names a b ha hb e =
    let fa = has_number names a ha in
    let fb = has_number names b hb in
    let same : fa.number ≡ fb.number = ap (λ o. unwrap_or o 0) (sym fa.is) ∙ e ∙ ap (λ o. unwrap_or o 0) fb.is in
    same_some a b (sym fa.here ∙ ap (slice_get names) same ∙ fb.here)

-- different names have different numbers
none_numbered : (names : List (List ℕ)) (name : List ℕ) (others : List (List ℕ)) → is_among names name ≡ true
    → list_all (is_among names) others ≡ true
    → list_any (same_bytes name) others ≡ false
    → list_any (λ k. number_of names name == k) (map (number_of names) others) ≡ false
none_numbered names name [] h all none = refl
none_numbered names name (other ∷ others) h all none =
    let there = and_parts (is_among names other) (list_all (is_among names) others) all in
    let apart = or_parts (same_bytes name other) (list_any (same_bytes name) others) none in
    or_from (number_of names name == number_of names other)
    (list_any (λ k. number_of names name == k) (map (number_of names) others))
    (false_from_ne_true (number_of names name == number_of names other) (λ e.
    let same = one_number names name other h there.0 (eqb-true (number_of names name) (number_of names other) e) in
    let is = (bytes_decides name other).1 same in cc))
    (none_numbered names name others h there.1 apart.1)

different : (names xs : List (List ℕ)) → are_apart same_bytes xs ≡ true → list_all (is_among names) xs ≡ true
    → are_different (map (number_of names) xs) ≡ true
different names [] apart all = refl
different names (x ∷ xs) apart all =
    let parts = and_parts (not (list_any (same_bytes x) xs)) (are_apart same_bytes xs) apart in
    let there = and_parts (is_among names x) (list_all (is_among names) xs) all in
    and_from (not (list_any (λ k. number_of names x == k) (map (number_of names) xs)))
    (are_different (map (number_of names) xs))
    (not_from_false (list_any (λ k. number_of names x == k) (map (number_of names) xs))
    (none_numbered names x xs there.0 there.1 (not-true (list_any (same_bytes x) xs) parts.0)))
    (different names xs parts.1 there.1)

-- what lines list passes a test where each does
pub said_passes : {K : Type 0} (ends : Line → Bool) (f : Line → Option K) (test : K → Bool) (all : List Line)
    → ((earlier : List Line) (line : Line) (below : List Line) → Stands all earlier line below
    → each test (f line) ≡ true)
    → (earlier ls : List Line) → Sound earlier ls → backwards earlier ls ≡ all → list_all test (said ends f ls) ≡ true
said_passes ends f test all holds earlier [] s e = refl
said_passes {K = K} ends f test all holds earlier (line ∷ below) s e =
    by (ends line) (said_passes ends f test all holds (line ∷ earlier) below s.1 e)
  where
    with_front : (o : Option K) → each test o ≡ true → list_all test (said ends f below) ≡ true
        → list_all test (cons_option o (said ends f below)) ≡ true
    with_front None h rest = rest
    with_front (Some x) h rest = and_from (test x) (list_all test (said ends f below)) h rest

    by : (b : Bool) → list_all test (said ends f below) ≡ true
        → list_all test (if b then [] else cons_option (f line) (said ends f below)) ≡ true
    by true rest = refl
    by false rest = with_front (f line) (holds earlier line below (record { passes = s.0; after = s.1; all_are = e }))
        rest

-- names that lines list are apart
abbrev Adding : (Line → Bool) → (Line → Option (List ℕ)) → Type 0
Adding ends f = (earlier : List Line) (line : Line) (below : List Line) → Passes (scope_of earlier) line below
    → with_option with_name (listed with_name ends f earlier) (f line) ≡ listed with_name ends f
    earlier ++ option_to_list (f line)

said_apart : (ends : Line → Bool) (f : Line → Option (List ℕ)) → Adding ends f
    → (earlier ls : List Line) → Sound earlier ls → listed with_name ends f earlier ≡ []
    → are_apart same_bytes (said ends f ls) ≡ true
said_apart ends f adds earlier ls s e =
    let kept = until_keeps with_name ends f (λ earlier. Unit {0}) (λ earlier line below p going h. tt)
    (λ earlier line below p going h. adds earlier line below p) earlier ls s tt in
    subst (λ xs. are_apart same_bytes xs ≡ true) (kept.2 ∙ ap (λ xs. xs ++ said ends f ls) e)
    (listed_apart ends f kept.0)

-- the numbers of what is listed below a line are different
pub numbers_different : (names : List (List ℕ)) (f : Line → Option (List ℕ)) (all : List Line) → Adding opens f
    → ((earlier : List Line) (line : Line) (below : List Line) → Stands all earlier line below
    → each (is_among names) (f line) ≡ true)
    → (earlier ls : List Line) → Sound earlier ls → backwards earlier ls ≡ all → listed with_name opens f earlier ≡ []
    → are_different (map (number_of names) (said opens f ls)) ≡ true
numbers_different names f all adds there earlier ls s e l =
    different names (said opens f ls) (said_apart opens f adds earlier ls s l)
    (said_passes opens f (is_among names) all there earlier ls s e)

pub member_there : (all earlier : List Line) (line : Line) (below : List Line) → Stands all earlier line below
    → each (is_among (scope_of all).declared.characteristics) (member_of line) ≡ true
member_there all earlier lines.Skipped below s = refl
member_there all earlier (lines.Inner x) below s = refl
member_there all earlier lines.LongInner below s = refl
member_there all earlier lines.End below s = refl
member_there all earlier (lines.TooLong x) below s = refl
member_there all earlier (lines.NoForm x) below s = refl
member_there all earlier (lines.Head x) below s = refl
member_there all earlier (lines.Char x) below s = refl
member_there all earlier (lines.Num x) below s = refl
member_there all earlier (lines.Text x) below s = refl
member_there all earlier (lines.Interval x) below s = refl
member_there all earlier (lines.Uses x) below s = refl
member_there all earlier (lines.Class x) below s = refl
member_there all earlier (lines.Has x) below s =
    subst (λ names. is_among names x ≡ true) (sym (scope_characteristics all))
    (among_all characteristic_of all earlier (lines.Has x) below x s (known_has earlier x s.passes.known))
member_there all earlier (lines.Table x) below s = refl
member_there all earlier (lines.Column x) below s = refl
member_there all earlier (lines.Net x) below s = refl
member_there all earlier (lines.Object x) below s = refl
member_there all earlier (lines.Bill x) below s = refl
member_there all earlier (lines.Operation x) below s = refl
member_there all earlier (lines.Block x) below s = refl
member_there all earlier (lines.Root x) below s = refl
member_there all earlier lines.Action below s = refl

pub column_there : (all earlier : List Line) (line : Line) (below : List Line) → Stands all earlier line below
    → each (is_among (scope_of all).declared.characteristics) (column_of line) ≡ true
column_there all earlier lines.Skipped below s = refl
column_there all earlier (lines.Inner x) below s = refl
column_there all earlier lines.LongInner below s = refl
column_there all earlier lines.End below s = refl
column_there all earlier (lines.TooLong x) below s = refl
column_there all earlier (lines.NoForm x) below s = refl
column_there all earlier (lines.Head x) below s = refl
column_there all earlier (lines.Char x) below s = refl
column_there all earlier (lines.Num x) below s = refl
column_there all earlier (lines.Text x) below s = refl
column_there all earlier (lines.Interval x) below s = refl
column_there all earlier (lines.Uses x) below s = refl
column_there all earlier (lines.Class x) below s = refl
column_there all earlier (lines.Has x) below s = refl
column_there all earlier (lines.Table x) below s = refl
column_there all earlier (lines.Column x) below s =
    subst (λ names. is_among names x.characteristic ≡ true) (sym (scope_characteristics all))
    (among_all characteristic_of all earlier (lines.Column x) below x.characteristic s
    (known_column earlier x s.passes.known))
column_there all earlier (lines.Net x) below s = refl
column_there all earlier (lines.Object x) below s = refl
column_there all earlier (lines.Bill x) below s = refl
column_there all earlier (lines.Operation x) below s = refl
column_there all earlier (lines.Block x) below s = refl
column_there all earlier (lines.Root x) below s = refl
column_there all earlier lines.Action below s = refl

pub text_there : (all earlier : List Line) (line : Line) (below : List Line) → Stands all earlier line below
    → each (is_among (scope_of all).declared.texts) (text_of line) ≡ true
text_there all earlier lines.Skipped below s = refl
text_there all earlier (lines.Inner x) below s = refl
text_there all earlier lines.LongInner below s = refl
text_there all earlier lines.End below s = refl
text_there all earlier (lines.TooLong x) below s = refl
text_there all earlier (lines.NoForm x) below s = refl
text_there all earlier (lines.Head x) below s = refl
text_there all earlier (lines.Char x) below s = refl
text_there all earlier (lines.Num x) below s = refl
text_there all earlier (lines.Text x) below s =
    subst (λ names. is_among names x ≡ true) (sym (scope_texts all))
    (subst (λ ls. is_among (declared text_of ls) x ≡ true) s.all_are
    (among_later text_of (lines.Text x ∷ earlier) below x (own_name (declared text_of earlier) x)))
text_there all earlier (lines.Interval x) below s = refl
text_there all earlier (lines.Uses x) below s = refl
text_there all earlier (lines.Class x) below s = refl
text_there all earlier (lines.Has x) below s = refl
text_there all earlier (lines.Table x) below s = refl
text_there all earlier (lines.Column x) below s = refl
text_there all earlier (lines.Net x) below s = refl
text_there all earlier (lines.Object x) below s = refl
text_there all earlier (lines.Bill x) below s = refl
text_there all earlier (lines.Operation x) below s = refl
text_there all earlier (lines.Block x) below s = refl
text_there all earlier (lines.Root x) below s = refl
text_there all earlier lines.Action below s = refl

-- what is used
place_here : (names : List (List ℕ)) (name : List ℕ) → position_or_len (same_bytes name) names < length names
    → slice_get names (position_or_len (same_bytes name) names) ≡ Some name
place_here [] name h = absurd (omega arith)
place_here (first ∷ names) name h = by (same_bytes name first) refl h (λ inside. place_here names name inside)
  where
    by : (b : Bool) → same_bytes name first ≡ b
        → cond (not b) (1 + position_or_len (same_bytes name) names) 0 < suc (length names)
        → (position_or_len (same_bytes name) names < length names
        → slice_get names (position_or_len (same_bytes name) names) ≡ Some name)
        → slice_get (first ∷ names) (cond (not b) (1 + position_or_len (same_bytes name) names) 0) ≡ Some name
    by true is inside on = ap Some (sym ((bytes_decides name first).0 is))
    by false is inside on = ap (slice_get (first ∷ names)) (one_and (position_or_len (same_bytes name) names))
        ∙ on (omega (arith, inside))

pub here_at : (names : List (List ℕ)) (name : List ℕ) (k : ℕ) → place_of names name ≡ Some k
    → slice_get names k ≡ Some name
here_at names name k e = by (nat_lt (position_or_len (same_bytes name) names) (length names)) refl e
  where
    by : (b : Bool) → nat_lt (position_or_len (same_bytes name) names) (length names) ≡ b
        → cond b (Some (position_or_len (same_bytes name) names)) None ≡ Some k → slice_get names k ≡ Some name
    by true is found =
        let same : position_or_len (same_bytes name) names ≡ k = cc in
        subst (λ (j : ℕ). slice_get names j ≡ Some name) same
        (place_here names name (ltb-true (position_or_len (same_bytes name) names) (length names) is))
    by false is found = absurd (cc)

none_placed : (names : List (List ℕ)) (name : List ℕ) (k : ℕ) (others : List (List ℕ)) → place_of names name ≡ Some k
    → list_any (same_bytes name) others ≡ false → list_any (λ j. k == j) (filter_map (place_of names) others) ≡ false
none_placed names name k [] e none = refl
none_placed names name k (other ∷ others) e none =
    by (place_of names other) refl (none_placed names name k others e
    (or_parts (same_bytes name other) (list_any (same_bytes name) others) none).1)
  where
    apart : (same_bytes name other ≡ false) × (list_any (same_bytes name) others ≡ false)
    apart = or_parts (same_bytes name other) (list_any (same_bytes name) others) none

    by : (o : Option ℕ) → place_of names other ≡ o → list_any (λ j. k == j) (filter_map (place_of names) others) ≡ false
        → list_any (λ j. k == j) (cons_option o (filter_map (place_of names) others)) ≡ false
    by None is rest = rest
    by (Some j) is rest = or_from (k == j) (list_any (λ j. k == j) (filter_map (place_of names) others))
        (false_from_ne_true (k == j) (λ t.
        let same : name ≡ other = same_some name other
        (sym (here_at names name k e) ∙ ap (slice_get names) (eqb-true k j t) ∙ here_at names other j is) in
        let tells = (bytes_decides name other).1 same in
        let no = apart.0 in cc)) rest

placed_different : (names xs : List (List ℕ)) → are_apart same_bytes xs ≡ true
    → are_different (filter_map (place_of names) xs) ≡ true
placed_different names [] apart = refl
placed_different names (x ∷ xs) apart =
    by (place_of names x) refl (placed_different names xs
    (and_parts (not (list_any (same_bytes x) xs)) (are_apart same_bytes xs) apart).1)
  where
    parts : (not (list_any (same_bytes x) xs) ≡ true) × (are_apart same_bytes xs ≡ true)
    parts = and_parts (not (list_any (same_bytes x) xs)) (are_apart same_bytes xs) apart

    by : (o : Option ℕ) → place_of names x ≡ o → are_different (filter_map (place_of names) xs) ≡ true
        → are_different (cons_option o (filter_map (place_of names) xs)) ≡ true
    by None is rest = rest
    by (Some k) is rest = and_from (not (list_any (λ j. k == j) (filter_map (place_of names) xs)))
        (are_different (filter_map (place_of names) xs))
        (not_from_false (list_any (λ j. k == j) (filter_map (place_of names) xs))
        (none_placed names x k xs is (not-true (list_any (same_bytes x) xs) parts.0))) rest

-- the numbers that lines use are those of the names that they use, where these have one
abbrev chosen : {K : Type 0} → (K → Option ℕ) → Option K → Option ℕ
chosen g None = None
chosen g (Some x) = g x

until_chooses : (ends : Line → Bool) (say : ℕ → Line → List Line → Option ℕ) (f : Line → Option (List ℕ))
    (g : List ℕ → Option ℕ)
    → ((n : ℕ) (line : Line) (below : List Line) → say n line below ≡ chosen g (f line))
    → (n : ℕ) (ls : List Line) → until ends say n ls ≡ filter_map g (said ends f ls)
until_chooses ends say f g same n [] = refl
until_chooses ends say f g same n (line ∷ below) = by (ends line) (until_chooses ends say f g same (n + 1) below)
  where
    front : (o : Option (List ℕ)) → cons_option (chosen g o) (filter_map g (said ends f below)) ≡ filter_map g
        (cons_option o (said ends f below))
    front None = refl
    front (Some x) = refl

    by : (b : Bool) → until ends say (n + 1) below ≡ filter_map g (said ends f below)
        → (if b then [] else cons_option (say n line below) (until ends say (n + 1) below))
        ≡ filter_map g (if b then [] else cons_option (f line) (said ends f below))
    by true rest = refl
    by false rest = ap (λ o. cons_option o (until ends say (n + 1) below)) (same n line below)
        ∙ ap (cons_option (chosen g (f line))) rest ∙ front (f line)

use_chosen : (a : Scope) (n : ℕ) (line : Line) (below : List Line)
    → use_at a n line below ≡ chosen (place_of a.dependencies.all) (use_of line)
use_chosen a n lines.Skipped below = refl
use_chosen a n (lines.Inner x) below = refl
use_chosen a n lines.LongInner below = refl
use_chosen a n lines.End below = refl
use_chosen a n (lines.TooLong x) below = refl
use_chosen a n (lines.NoForm x) below = refl
use_chosen a n (lines.Head x) below = refl
use_chosen a n (lines.Char x) below = refl
use_chosen a n (lines.Num x) below = refl
use_chosen a n (lines.Text x) below = refl
use_chosen a n (lines.Interval x) below = refl
use_chosen a n (lines.Uses x) below = refl
use_chosen a n (lines.Class x) below = refl
use_chosen a n (lines.Has x) below = refl
use_chosen a n (lines.Table x) below = refl
use_chosen a n (lines.Column x) below = refl
use_chosen a n (lines.Net x) below = refl
use_chosen a n (lines.Object x) below = refl
use_chosen a n (lines.Bill x) below = refl
use_chosen a n (lines.Operation x) below = refl
use_chosen a n (lines.Block x) below = refl
use_chosen a n (lines.Root x) below = refl
use_chosen a n lines.Action below = refl

net_use_chosen : (a : Scope) (n : ℕ) (line : Line) (below : List Line)
    → net_use_at a n line below ≡ chosen (place_of a.dependencies.nets) (use_of line)
net_use_chosen a n lines.Skipped below = refl
net_use_chosen a n (lines.Inner x) below = refl
net_use_chosen a n lines.LongInner below = refl
net_use_chosen a n lines.End below = refl
net_use_chosen a n (lines.TooLong x) below = refl
net_use_chosen a n (lines.NoForm x) below = refl
net_use_chosen a n (lines.Head x) below = refl
net_use_chosen a n (lines.Char x) below = refl
net_use_chosen a n (lines.Num x) below = refl
net_use_chosen a n (lines.Text x) below = refl
net_use_chosen a n (lines.Interval x) below = refl
net_use_chosen a n (lines.Uses x) below = refl
net_use_chosen a n (lines.Class x) below = refl
net_use_chosen a n (lines.Has x) below = refl
net_use_chosen a n (lines.Table x) below = refl
net_use_chosen a n (lines.Column x) below = refl
net_use_chosen a n (lines.Net x) below = refl
net_use_chosen a n (lines.Object x) below = refl
net_use_chosen a n (lines.Bill x) below = refl
net_use_chosen a n (lines.Operation x) below = refl
net_use_chosen a n (lines.Block x) below = refl
net_use_chosen a n (lines.Root x) below = refl
net_use_chosen a n lines.Action below = refl

pub uses_different : (a : Scope) (earlier : List Line) (n : ℕ) (ls : List Line) → Sound earlier ls
    → listed with_name ends_uses use_of earlier ≡ []
    → are_different (uses_below a n ls) ≡ true
uses_different a earlier n ls s e =
    subst (λ xs. are_different xs ≡ true) (sym
    (until_chooses ends_uses (use_at a) use_of (place_of a.dependencies.all) (use_chosen a) n ls))
    (placed_different a.dependencies.all (said ends_uses use_of ls)
    (said_apart ends_uses use_of use_add earlier ls s e))

pub nets_different : (a : Scope) (earlier : List Line) (n : ℕ) (ls : List Line) → Sound earlier ls
    → listed with_name ends_uses use_of earlier ≡ []
    → are_different (nets_below a n ls) ≡ true
nets_different a earlier n ls s e =
    subst (λ xs. are_different xs ≡ true) (sym
    (until_chooses ends_uses (net_use_at a) use_of (place_of a.dependencies.nets) (net_use_chosen a) n ls))
    (placed_different a.dependencies.nets (said ends_uses use_of ls)
    (said_apart ends_uses use_of use_add earlier ls s e))
