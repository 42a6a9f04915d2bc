-- Marks by the keys of grains, and rows with one key chained in order.
use Rattle.std.specs.Prelude.{◌≡◌, ℕ, ◌+◌, ◌<◌, ◌≤◌, Bool, true, false, ◌||◌, if◌then◌else◌, List, [], ◌∷◌}
use Rattle.std.specs.Prelude.{drop, length}
use Rattle.std.specs.Prelude.{slice_get, slice_set, Option, None, Some}
use Rattle.std.specs.List.{filter}
use Rattle.vc_value.specs.declared.table_header.Domain.{Domain}
use Rattle.vc_value.specs.declared.value.Value.{Value}
use Rattle.vc_plan.specs.declared.rules.Binding.{Binding}
use Rattle.vc_plan.specs.declared.plans.Plan.{Plan}
use Rattle.vc_plan.specs.Domains.{domain_of}
use Rattle.vc_plan.specs.Seen.{Seen}
use Rattle.vc_plan.specs.TableRows.{columns_of, is_possible_in, other_columns}
use Rattle.vc_rule_yield.specs.declared.scratch.Marks.{Marks}
use Rattle.vc_rule_table.specs.TableSaid.{has_column}
use Rattle.vc_rule_table_grains.specs.Keys.{IsApart, grain_key, row_key, same_key, some_has_key}

-- what is put at a key, if there is one
abbrev pub put_at : {A : Type 0} → Option ℕ → A → List A → List A
put_at None x xs = xs
put_at (Some k) x xs = slice_set xs k x

-- at the keys of the first grains stands this
abbrev pub AreAt : {A : Type 0} → Domain → ℕ → A → List A → Type 0
AreAt {A} domain n x xs = (g k : ℕ) (y : A) → g < n → grain_key domain g ≡ Some k → slice_get xs k ≡ Some y → y ≡ x

-- with the rows that are to come the marks tell which keys possible rows have
abbrev pub TellsMarks : Domain → List Binding → (List Value → Bool) → List (List Value) → List (List Value) → List Bool
    → Type 0
TellsMarks domain own possible rest rows had = (g k : ℕ) (b : Bool) → grain_key domain g ≡ Some k
    → slice_get had k ≡ Some b
    → (b || some_has_key domain own (filter possible rest) k) ≡ some_has_key domain own (filter possible rows) k

abbrev pub AreMarks : Domain → List Binding → (List Value → Bool) → List (List Value) → List Bool → Type 0
AreMarks domain own possible rows had = TellsMarks domain own possible [] rows had

-- with the mark of one row more
abbrev pub marked_by : Bool → Option ℕ → List Bool → List Bool
marked_by false key had = had
marked_by true key had = put_at key true had

abbrev pub had_in : Option Marks → List Bool
had_in None = []
had_in (Some marks) = marks.had

abbrev pub heads_in : Option Marks → List ℕ
heads_in None = []
heads_in (Some marks) = marks.heads

abbrev pub next_in : Option Marks → List ℕ
next_in None = []
next_in (Some marks) = marks.next

-- the place of the first of these rows that has the key, where the first of them stands at the place; past them where
-- none has it
abbrev pub next_with : Domain → List Binding → ℕ → ℕ → List (List Value) → ℕ
next_with domain own k i [] = i
next_with domain own k i (row ∷ rows) =
    if same_key (row_key domain own row) (Some k) then i else next_with domain own k (i + 1) rows

-- for the rows from one on: by keys the first, and by rows the next with the same key
abbrev pub AreHeads : Domain → List Binding → List (List Value) → ℕ → List ℕ → Type 0
AreHeads domain own rows at heads = (g k h : ℕ) → grain_key domain g ≡ Some k → slice_get heads k ≡ Some h
    → h ≡ next_with domain own k at (drop at rows)

abbrev pub AreNext : Domain → List Binding → List (List Value) → ℕ → ℕ → List ℕ → Type 0
AreNext domain own rows at count next = (g k r n : ℕ) (row : List Value) → grain_key domain g ≡ Some k → k < count
    → at ≤ r → slice_get rows r ≡ Some row → row_key domain own row ≡ Some k → slice_get next r ≡ Some n
    → n ≡ next_with domain own k (r + 1) (drop (r + 1) rows)

abbrev pub AreChains : Domain → List Binding → List (List Value) → List ℕ → List ℕ → Type 0
AreChains domain own rows heads next =
    (length rows ≤ length next)
    × (AreHeads domain own rows 0 heads × AreNext domain own rows 0 (length heads) next)

-- what stands at a key, if there is one and room for it
abbrev pub at_key : {A : Type 0} → Option ℕ → List A → Option A
at_key None xs = None
at_key (Some k) xs = slice_get xs k

-- the row at the place leads on to the one that was the first with its key
abbrev pub linked : ℕ → Option ℕ → List ℕ → List ℕ
linked at None next = next
linked at (Some head) next = slice_set next at head

-- what is known where the grains of a variable are gone through
pub record IsMarked (plan : Plan) (seen : Seen) (columns : List Binding) (v : ℕ) (domain : Domain)
    (rows : List (List Value)) (marks : Option Marks) (chained : Bool) : Type 0 where
  pub apart : IsApart domain
  pub of : domain_of plan (slice_get plan.vars v) ≡ Some domain
  pub given : has_column columns v ≡ true
  pub tells : AreMarks domain (columns_of v columns) (is_possible_in plan seen (other_columns v columns)) rows
      (had_in marks)
  pub chains : chained ≡ true → AreChains domain (columns_of v columns) rows (heads_in marks) (next_in marks)
