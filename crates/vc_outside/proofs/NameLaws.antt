-- Entries in the order of their names, as a finite map.
use Rattle.std.proofs.Common.{◌≡◌, ℕ, suc, ◌+◌, Bool, true, false, cond, List, [], ◌∷◌, length, map, refl, sym, ap, ◌∙◌}
use Rattle.std.proofs.Common.{subst, arith}
use Rattle.std.specs.Prelude.{Option, None, Some, is_some}
use Rattle.vc_value.specs.Words.{same_bytes}
use Rattle.std.specs.BTreeMap.{insert_entry}
use Rattle.std.specs.Cmp.Lexicographic.{slice_cmp, nat_list_cmp_total, texts_ties}
use Rattle.std.specs.FinMap.{FinMap, find, from_entries, get, get-from_entries, get-insert, get-remove, insert, len}
use Rattle.std.specs.FinMap.{len-empty, len-insert, nat_cmp-IsAntisymmetric, remove, same_map}
use Rattle.std.specs.FinMap.{slice_cmp-IsAntisymmetric}
use Rattle.std.specs.List.{AllByRecursion}
use Rattle.std.specs.List.Sorted.{IsStrictlySortedBy}
use Rattle.std.specs.Map.{keys_of, lookup, remove_entry, set_value}
use Rattle.std.specs.Ordering.{is_eq, match_ordering, nat_cmp}
use Rattle.std.specs.declared.cmp.Ordering.{Ordering}
use Rattle.std.specs.declared.cmp.Ordering.TheVariants.{Less, Equal, Greater}
use Rattle.std.proofs.lemmas.Slice.Eq.{bytes_eq-Decides}

abbrev Name : Type 0
Name = List ℕ

abbrev order : Name → Name → Ordering
order = slice_cmp nat_cmp

abbrev pub is_name : Name → Name → Bool
is_name q name = is_eq (order q name)

name_same : (q name : Name) → is_name q name ≡ same_bytes q name
name_same q name = sym (texts_ties q name)

pub name_is : (q name : Name) → is_name q name ≡ true → q ≡ name
name_is q name e = (bytes_eq-Decides q name).0 (sym (name_same q name) ∙ e)

pub name_itself : (name : Name) → is_name name name ≡ true
name_itself name = name_same name name ∙ (bytes_eq-Decides name name).1 refl

swapped : {A : Type 0} (a b : Bool) (x y z : A) → (a ≡ true → b ≡ true → ⊥)
    → cond a x (cond b y z) ≡ cond b y (cond a x z)
swapped true true x y z apart = absurd (apart refl refl)
swapped true false x y z apart = refl
swapped false b x y z apart = refl

shadowed : {A : Type 0} (b : Bool) (x y z : A) → cond b x z ≡ cond b x (cond b y z)
shadowed true x y z = refl
shadowed false x y z = refl

-- no name is two names
never_both : (q name other : Name) → is_name name other ≡ false → is_name q other ≡ true → is_name q name ≡ true → ⊥
never_both q name other apart a b =
    let same : name ≡ other = sym (name_is q name b) ∙ name_is q other a in
    let both : true ≡ false = sym (name_itself name) ∙ ap (is_name name) same ∙ apart in cc

-- two finite maps that answer alike
pub same_answers : {X : Type 0} (m n : FinMap (slice_cmp nat_cmp) X) → ((q : Name) → get m q ≡ get n q) → m ≡ n
same_answers m n same = same_map nat_list_cmp_total (slice_cmp-IsAntisymmetric nat_cmp-IsAntisymmetric) m n same

-- how a key is compared by its name, and looked for
abbrev pub order_by : {K : Type 0} → (K → Name) → K → K → Ordering
order_by name_of a b = order (name_of a) (name_of b)

abbrev pub is_of : {K : Type 0} → (K → Name) → Name → K → Bool
is_of name_of name k = is_eq (order name (name_of k))

-- entries whose keys have names
module _ {K X : Type 0} (name_of : K → Name) where
  abbrev entries_by : List (K × X) → List (Name × X)
  entries_by es = map (λ e. (name_of e.0, e.1)) es

  abbrev by : List (K × X) → FinMap (slice_cmp nat_cmp) X
  by es = from_entries (entries_by es)

  abbrev look_up : Name → List (K × X) → Option X
  look_up q es = find order q (entries_by es)

  looked_up : (q : Name) (es : List (K × X)) → look_up q es ≡ lookup (is_of name_of q) es
  looked_up q [] = refl
  looked_up q (e ∷ es) = ap (cond (is_of name_of q e.0) (Some e.1)) (looked_up q es)

  pub found : (es : List (K × X)) (q : Name) → get (by es) q ≡ lookup (is_of name_of q) es
  found es q = get-from_entries nat_list_cmp_total (entries_by es) q ∙ looked_up q es

  -- an entry is put in its place
  look_up_inserted : (q : Name) (k : K) (x : X) (es : List (K × X))
      → look_up q (insert_entry (order_by name_of) es k x) ≡ cond (is_name q (name_of k)) (Some x) (look_up q es)
  look_up_inserted q k x [] = refl
  look_up_inserted q k x (e ∷ es) =
      elim (order_by name_of k e.0) as (λ o. order_by name_of k e.0 ≡ o
      → look_up q (match_ordering o ((k, x) ∷ e ∷ es) ((e.0, x) ∷ es) (e ∷ insert_entry (order_by name_of) es k x))
      ≡ cond (is_name q (name_of k)) (Some x) (cond (is_of name_of q e.0) (Some e.1) (look_up q es))) [
        | Less ↦ λ p. refl
        | Equal ↦ λ p.
            let same : name_of k ≡ name_of e.0 = name_is (name_of k) (name_of e.0) (ap is_eq p) in
            shadowed (is_of name_of q e.0) (Some x) (Some e.1) (look_up q es)
            ∙ ap (λ n. cond (is_name q n) (Some x) (cond (is_of name_of q e.0) (Some e.1) (look_up q es))) (sym same)
        | Greater ↦ λ p.
            ap (cond (is_of name_of q e.0) (Some e.1)) (look_up_inserted q k x es)
            ∙ swapped (is_of name_of q e.0) (is_name q (name_of k)) (Some e.1) (Some x) (look_up q es)
            (never_both q (name_of k) (name_of e.0) (ap is_eq p))
      ] refl

  pub inserted : (es : List (K × X)) (k : K) (x : X)
      → by (insert_entry (order_by name_of) es k x) ≡ insert (by es) (name_of k) x
  inserted es k x = same_answers (by (insert_entry (order_by name_of) es k x)) (insert (by es) (name_of k) x) (λ q.
      get-from_entries nat_list_cmp_total (entries_by (insert_entry (order_by name_of) es k x)) q
      ∙ look_up_inserted q k x es
      ∙ ap (cond (is_name q (name_of k)) (Some x)) (sym (get-from_entries nat_list_cmp_total (entries_by es) q))
      ∙ sym (get-insert nat_list_cmp_total (by es) (name_of k) x q))

  -- one that is there gets another value
  look_up_set : (q name : Name) (new : X) (es : List (K × X)) (old : X) → lookup (is_of name_of name) es ≡ Some old
      → look_up q (set_value (is_of name_of name) es new) ≡ cond (is_name q name) (Some new) (look_up q es)
  look_up_set q name new [] old there = absurd (cc)
  look_up_set q name new (e ∷ es) old there =
      at (is_of name_of name e.0) refl there (look_up_set q name new es old)
    where
      at : (b : Bool) → is_of name_of name e.0 ≡ b → cond b (Some e.1) (lookup (is_of name_of name) es) ≡ Some old
          → (lookup (is_of name_of name) es ≡ Some old → look_up q (set_value (is_of name_of name) es new)
          ≡ cond (is_name q name) (Some new) (look_up q es))
          → look_up q (cond b ((e.0, new) ∷ es) (e ∷ set_value (is_of name_of name) es new))
          ≡ cond (is_name q name) (Some new) (cond (is_of name_of q e.0) (Some e.1) (look_up q es))
      at true p there rest =
          shadowed (is_of name_of q e.0) (Some new) (Some e.1) (look_up q es)
          ∙ ap (λ n. cond (is_name q n) (Some new) (cond (is_of name_of q e.0) (Some e.1) (look_up q es)))
          (sym (name_is name (name_of e.0) p))
      at false p there rest =
          ap (cond (is_of name_of q e.0) (Some e.1)) (rest there)
          ∙ swapped (is_of name_of q e.0) (is_name q name) (Some e.1) (Some new) (look_up q es)
          (never_both q name (name_of e.0) p)

  pub value_set : (es : List (K × X)) (name : Name) (new old : X) → lookup (is_of name_of name) es ≡ Some old
      → by (set_value (is_of name_of name) es new) ≡ insert (by es) name new
  value_set es name new old there =
      same_answers (by (set_value (is_of name_of name) es new)) (insert (by es) name new) (λ q.
      get-from_entries nat_list_cmp_total (entries_by (set_value (is_of name_of name) es new)) q
      ∙ look_up_set q name new es old there
      ∙ ap (cond (is_name q name) (Some new)) (sym (get-from_entries nat_list_cmp_total (entries_by es) q))
      ∙ sym (get-insert nat_list_cmp_total (by es) name new q))

  -- a name that is below all is none of theirs
  look_up_below : (q : Name) (es : List (K × X)) → AllByRecursion (λ k. order q (name_of k) ≡ Less) (keys_of es)
      → look_up q es ≡ None
  look_up_below q [] below = refl
  look_up_below q (e ∷ es) below =
      ap (λ o. cond (is_eq o) (Some e.1) (look_up q es)) below.0 ∙ look_up_below q es below.1

  abbrev IsInOrder : List (K × X) → Type 0
  IsInOrder es = IsStrictlySortedBy (order_by name_of) (keys_of es)

  first_below : (e : K × X) (es : List (K × X)) → IsInOrder (e ∷ es)
      → AllByRecursion (λ k. order (name_of e.0) (name_of k) ≡ Less) (keys_of es)
  unfolding IsStrictlySortedBy
  first_below e es sorted = sorted.0

  later_sorted : (e : K × X) (es : List (K × X)) → IsInOrder (e ∷ es) → IsInOrder es
  unfolding IsStrictlySortedBy
  later_sorted e es sorted = sorted.1

  abbrev nothing : Option X
  nothing = None

  -- one is taken out
  look_up_removed : (q name : Name) (es : List (K × X)) → IsInOrder es
      → look_up q (remove_entry (is_of name_of name) es) ≡ cond (is_name q name) nothing (look_up q es)
  look_up_removed q name [] sorted = at (is_name q name)
    where
      at : (b : Bool) → nothing ≡ cond b nothing nothing
      at true = refl
      at false = refl
  look_up_removed q name (e ∷ es) sorted =
      at (is_of name_of name e.0) refl (look_up_removed q name es (later_sorted e es sorted))
    where
      first : (b : Bool) → is_name q (name_of e.0) ≡ b
          → look_up q es ≡ cond b nothing (cond b (Some e.1) (look_up q es))
      first true p =
          subst (λ n. look_up n es ≡ nothing) (sym (name_is q (name_of e.0) p))
          (look_up_below (name_of e.0) es (first_below e es sorted))
      first false p = refl

      at : (b : Bool) → is_of name_of name e.0 ≡ b
          → look_up q (remove_entry (is_of name_of name) es) ≡ cond (is_name q name) nothing (look_up q es)
          → look_up q (cond b es (e ∷ remove_entry (is_of name_of name) es))
          ≡ cond (is_name q name) nothing (cond (is_of name_of q e.0) (Some e.1) (look_up q es))
      at true p rest =
          first (is_of name_of q e.0) refl
          ∙ ap (λ n. cond (is_name q n) nothing (cond (is_of name_of q e.0) (Some e.1) (look_up q es)))
          (sym (name_is name (name_of e.0) p))
      at false p rest =
          ap (cond (is_of name_of q e.0) (Some e.1)) rest
          ∙ swapped (is_of name_of q e.0) (is_name q name) (Some e.1) None (look_up q es)
          (never_both q name (name_of e.0) p)

  pub removed : (es : List (K × X)) (name : Name) → IsInOrder es
      → by (remove_entry (is_of name_of name) es) ≡ remove (by es) name
  removed es name sorted = same_answers (by (remove_entry (is_of name_of name) es)) (remove (by es) name) (λ q.
      get-from_entries nat_list_cmp_total (entries_by (remove_entry (is_of name_of name) es)) q
      ∙ look_up_removed q name es sorted
      ∙ ap (cond (is_name q name) nothing) (sym (get-from_entries nat_list_cmp_total (entries_by es) q))
      ∙ sym (get-remove nat_list_cmp_total (by es) name q))

  -- how many there are
  pub counted : (es : List (K × X)) → IsInOrder es → len (by es) ≡ length es
  counted [] sorted = len-empty (slice_cmp nat_cmp) X
  counted (e ∷ es) sorted =
      let missing : get (by es) (name_of e.0) ≡ None =
      get-from_entries nat_list_cmp_total (entries_by es) (name_of e.0)
      ∙ look_up_below (name_of e.0) es (first_below e es sorted) in
      let rest = counted es (later_sorted e es sorted) in
      len-insert nat_list_cmp_total (by es) (name_of e.0) e.1
      ∙ ap (λ (o : Option X). cond (is_some o) (len (by es)) (len (by es) + 1)) missing
      ∙ (let more : len (by es) + 1 ≡ suc (length es) = omega (arith, rest) in more)
