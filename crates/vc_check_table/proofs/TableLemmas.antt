-- What a table call says, by variables, grains and rows.
use Rattle.std.proofs.Common.{◌≡◌, ℕ, Bool, true, false, cond, not, ◌&&◌, ◌||◌, ◌==◌, List, [], ◌∷◌, map, refl, sym}
use Rattle.std.proofs.Common.{◌∙◌, ap}
use Rattle.std.proofs.Math.Path.{fun_ext}
use Rattle.std.specs.Prelude.{flat_map, Option}
use Rattle.std.specs.List.{filter, list_all, list_any}
use Rattle.std.proofs.lemmas.List.Folds.{list_any-append}
use Rattle.vc_base.specs.Rounds.{Given, atoms, atoms_of, is_clash}
use Rattle.vc_base.specs.Sets.{has}
use Rattle.vc_value.specs.declared.value.Value.{Value}
use Rattle.vc_plan.specs.declared.atoms.Atom.{Atom}
use Rattle.vc_plan.specs.declared.atoms.Atom.TheVariants.{Here, Out, Is}
use Rattle.vc_plan.specs.declared.plans.Plan.{Plan}
use Rattle.vc_plan.specs.declared.rules.Binding.{Binding}
use Rattle.vc_plan.specs.declared.rules.Rule.{Rule}
use Rattle.vc_plan.specs.Answers.{beside, clash_if, gathered, value_atoms}
use Rattle.vc_plan.specs.Domains.{count_of, is_restrictable, numbers_below}
use Rattle.vc_plan.specs.Seen.{Seen, same_atom, says}
use Rattle.vc_plan.specs.TableRows.{agreed, by_table, columns_of, for_variable, has_grain, is_column_of}
use Rattle.vc_plan.specs.TableRows.{is_possible_in, missing_grains, narrowed, rows_for, rows_of}
use Rattle.vc_check_gives.specs.Parts.{all_said}
use Rattle.vc_check_gives.proofs.PartLemmas.{all_append, among_below, no_slot, no_value, out_of, outs_said}
use Rattle.vc_check_table.specs.Columns.{gives_narrowed, keeps, kept_or_out, possible_elsewhere, puts_out}
use Rattle.vc_check_table.specs.Columns.{says_narrowed}

and_all : (b : Bool) → (b && true) ≡ b
and_all true = refl
and_all false = refl

and_none : (b : Bool) → (b && false) ≡ false
and_none true = refl
and_none false = refl

-- one that passes is among those that pass another test
any_that : {X : Type 0} (q p : X → Bool) (xs : List X) → list_any p (filter q xs) ≡ list_any (λ x. p x && q x) xs
any_that q p [] = refl
any_that q p (x ∷ xs) = by (q x) (p x) (any_that q p xs)
  where
    by : (b c : Bool) → list_any p (filter q xs) ≡ list_any (λ y. p y && q y) xs
        → list_any p (cond b (x ∷ filter q xs) (filter q xs)) ≡ ((p x && b) || list_any (λ y. p y && q y) xs)
    by true c e = ap (λ d. p x || d) e ∙ ap (λ d. d || list_any (λ y. p y && q y) xs) (sym (and_all (p x)))
    by false c e = e ∙ ap (λ d. d || list_any (λ y. p y && q y) xs) (sym (and_none (p x)))

any_given : {X : Type 0} (q p : X → Bool) (xs : List X) → list_any p (filter q xs) ≡ list_any (λ x. q x && p x) xs
any_given q p [] = refl
any_given q p (x ∷ xs) = by (q x) (any_given q p xs)
  where
    by : (b : Bool) → list_any p (filter q xs) ≡ list_any (λ y. q y && p y) xs
        → list_any p (cond b (x ∷ filter q xs) (filter q xs)) ≡ ((b && p x) || list_any (λ y. q y && p y) xs)
    by true e = ap (λ d. p x || d) e
    by false e = e

all_given : {X : Type 0} (q p : X → Bool) (xs : List X)
    → list_all p (filter q xs) ≡ list_all (λ x. not (q x) || p x) xs
all_given q p [] = refl
all_given q p (x ∷ xs) = by (q x) (all_given q p xs)
  where
    by : (b : Bool) → list_all p (filter q xs) ≡ list_all (λ y. not (q y) || p y) xs
        → list_all p (cond b (x ∷ filter q xs) (filter q xs))
        ≡ ((not b || p x) && list_all (λ y. not (q y) || p y) xs)
    by true e = ap (λ c. p x && c) e
    by false e = e

or_swap : (b c : Bool) → (b || c) ≡ (c || b)
or_swap true true = refl
or_swap true false = refl
or_swap false true = refl
or_swap false false = refl

module _ (plan : Plan) (seen : Seen) (table : ℕ) (columns : List Binding) where
  missing_is : (v : ℕ)
      → missing_grains plan v (columns_of v columns) (rows_for plan seen table columns v)
      ≡ filter (λ g. not (keeps plan seen v columns (rows_of plan table) g)) (numbers_below (count_of plan v))
  missing_is v =
      ap (λ (f : ℕ → Bool). filter (λ g. not (f g)) (numbers_below (count_of plan v)))
      (fun_ext (λ g. any_that (possible_elsewhere plan seen v columns) (has_grain plan v (columns_of v columns) g)
      (rows_of plan table)))

  -- where it is restrictable
  outs_for : (v : ℕ) → is_restrictable plan v ≡ true
      → for_variable plan seen table columns v
      ≡ atoms (map (Out v)
      (filter (λ g. not (keeps plan seen v columns (rows_of plan table) g)) (numbers_below (count_of plan v))))
  outs_for v e =
      ap (λ b. atoms (cond b
      (map (Out v) (missing_grains plan v (columns_of v columns) (rows_for plan seen table columns v)))
      (agreed plan v (columns_of v columns) (rows_for plan seen table columns v)))) e
      ∙ ap (λ gs. atoms (map (Out v) gs)) (missing_is v)

  agreed_for : (v : ℕ) → is_restrictable plan v ≡ false
      → for_variable plan seen table columns v
      ≡ atoms (agreed plan v (columns_of v columns) (rows_for plan seen table columns v))
  agreed_for v e =
      ap (λ b. atoms (cond b
      (map (Out v) (missing_grains plan v (columns_of v columns) (rows_for plan seen table columns v)))
      (agreed plan v (columns_of v columns) (rows_for plan seen table columns v)))) e

  outs_among : (v : ℕ) (a : Atom)
      → has same_atom (map (Out v)
      (filter (λ g. not (keeps plan seen v columns (rows_of plan table) g)) (numbers_below (count_of plan v)))) a
      ≡ puts_out plan seen v columns (rows_of plan table) a
  outs_among v (Here i) =
      no_slot v
      (filter (λ g. not (keeps plan seen v columns (rows_of plan table) g)) (numbers_below (count_of plan v))) i
  outs_among v (Out w g) =
      out_of v (filter (λ h. not (keeps plan seen v columns (rows_of plan table) h)) (numbers_below (count_of plan v)))
      w g
      ∙ ap (λ b. (w == v) && b)
      (among_below (λ h. not (keeps plan seen v columns (rows_of plan table) h)) (count_of plan v) g)
  outs_among v (Is w a) =
      no_value v
      (filter (λ g. not (keeps plan seen v columns (rows_of plan table) g)) (numbers_below (count_of plan v)))
      w a

  pub gives_outs : (v : ℕ) (a : Atom) → is_restrictable plan v ≡ true
      → has same_atom (atoms_of (for_variable plan seen table columns v)) a
      ≡ puts_out plan seen v columns (rows_of plan table) a
  gives_outs v a e = ap (λ x. has same_atom (atoms_of x) a) (outs_for v e) ∙ outs_among v a

  pub says_outs : (v : ℕ) → is_restrictable plan v ≡ true
      → all_said seen (for_variable plan seen table columns v)
      ≡ list_all (kept_or_out plan seen v columns (rows_of plan table)) (numbers_below (count_of plan v))
  says_outs v e =
      ap (all_said seen) (outs_for v e)
      ∙ (outs_said seen (keeps plan seen v columns (rows_of plan table)) v (numbers_below (count_of plan v))
      ∙ ap (λ (f : ℕ → Bool). list_all f (numbers_below (count_of plan v)))
      (fun_ext (λ g. or_swap (keeps plan seen v columns (rows_of plan table) g) (seen.out v g))))

  -- where it isn't: what is said of the value that all rows agree on
  pub for_agreed : (v : ℕ) (value : Option Value) (x : Given Atom) → is_restrictable plan v ≡ false
      → value_atoms v value ≡ agreed plan v (columns_of v columns) (rows_for plan seen table columns v)
      → x ≡ atoms (value_atoms v value)
      → x ≡ for_variable plan seen table columns v
  for_agreed v value x e f g = g ∙ (ap atoms f ∙ sym (agreed_for v e))

-- all variables
gathered_atoms : (g : ℕ → List Atom) (vs : List ℕ) → gathered (λ v. atoms (g v)) vs ≡ atoms (flat_map g vs)
gathered_atoms g [] = refl
gathered_atoms g (v ∷ vs) = ap (beside (atoms (g v))) (gathered_atoms g vs)

has_flat : (g : ℕ → List Atom) (vs : List ℕ) (a : Atom)
    → has same_atom (flat_map g vs) a ≡ list_any (λ v. has same_atom (g v) a) vs
has_flat g [] a = refl
has_flat g (v ∷ vs) a =
    list_any-append (same_atom a) (g v) (flat_map g vs) ∙ ap (λ b. has same_atom (g v) a || b) (has_flat g vs a)

all_flat : (p : Atom → Bool) (g : ℕ → List Atom) (vs : List ℕ)
    → list_all p (flat_map g vs) ≡ list_all (λ v. list_all p (g v)) vs
all_flat p g [] = refl
all_flat p g (v ∷ vs) = all_append p (g v) (flat_map g vs) ∙ ap (λ b. list_all p (g v) && b) (all_flat p g vs)

module _ (plan : Plan) (seen : Seen) (rule : Rule) (table : ℕ) (columns : List Binding) where
  all_gathered : (vs : List ℕ)
      → gathered (for_variable plan seen table columns) vs
      ≡ atoms (flat_map (λ v. atoms_of (for_variable plan seen table columns v)) vs)
  all_gathered vs = gathered_atoms (λ v. atoms_of (for_variable plan seen table columns v)) vs

  by_rows : (b : Bool) → list_any (is_possible_in plan seen columns) (rows_of plan table) ≡ b
      → by_table plan seen rule table columns
      ≡ clash_if (not b)
      (atoms (flat_map (λ v. atoms_of (for_variable plan seen table columns v)) (narrowed rule columns)))
  by_rows b e =
      ap (λ c. clash_if (not c) (gathered (for_variable plan seen table columns) (narrowed rule columns))) e
      ∙ ap (clash_if (not b)) (all_gathered (narrowed rule columns))

  pub clash_is : is_clash (by_table plan seen rule table columns)
      ≡ not (list_any (is_possible_in plan seen columns) (rows_of plan table))
  clash_is =
      ap is_clash (by_rows (list_any (is_possible_in plan seen columns) (rows_of plan table)) refl)
      ∙ by (list_any (is_possible_in plan seen columns) (rows_of plan table))
    where
      by : (b : Bool)
          → is_clash (clash_if (not b)
          (atoms (flat_map (λ v. atoms_of (for_variable plan seen table columns v)) (narrowed rule columns))))
          ≡ not b
      by true = refl
      by false = refl

  pub table_gives : (a : Atom) → list_any (is_possible_in plan seen columns) (rows_of plan table) ≡ true
      → has same_atom (atoms_of (by_table plan seen rule table columns)) a
      ≡ list_any (gives_narrowed plan seen table columns a) rule.inferred
  table_gives a e =
      ap (λ x. has same_atom (atoms_of x) a) (by_rows true e)
      ∙ (has_flat (λ v. atoms_of (for_variable plan seen table columns v)) (narrowed rule columns) a
      ∙ any_given (λ v. list_any (is_column_of v) columns)
      (λ v. has same_atom (atoms_of (for_variable plan seen table columns v)) a) rule.inferred)

  pub table_gives_nothing : (a : Atom) → list_any (is_possible_in plan seen columns) (rows_of plan table) ≡ false
      → has same_atom (atoms_of (by_table plan seen rule table columns)) a ≡ false
  table_gives_nothing a e = ap (λ x. has same_atom (atoms_of x) a) (by_rows false e)

  pub table_said : list_any (is_possible_in plan seen columns) (rows_of plan table) ≡ true
      → all_said seen (by_table plan seen rule table columns)
      ≡ list_all (says_narrowed plan seen table columns) rule.inferred
  table_said e =
      ap (all_said seen) (by_rows true e)
      ∙ (all_flat (says seen) (λ v. atoms_of (for_variable plan seen table columns v)) (narrowed rule columns)
      ∙ all_given (λ v. list_any (is_column_of v) columns)
      (λ v. all_said seen (for_variable plan seen table columns v)) rule.inferred)

  pub table_unsaid : list_any (is_possible_in plan seen columns) (rows_of plan table) ≡ false
      → all_said seen (by_table plan seen rule table columns) ≡ false
  table_unsaid e = ap (all_said seen) (by_rows false e)

pub ruleset giving = (gives_outs, for_agreed)

pub ruleset saying = (says_outs, for_agreed)

pub ruleset giving_all = (table_gives, table_gives_nothing)

pub ruleset saying_all = (table_said, table_unsaid)
