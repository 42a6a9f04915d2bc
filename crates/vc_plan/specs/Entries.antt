-- What statements wrote.
use Rattle.std.specs.Prelude.{ℕ, Bool, true, not, List, map, Option, None, Some, option_map, slice_index_or, slice_set}
use Rattle.vc_value.specs.declared.value.Value.{Value}
use Rattle.vc_plan.specs.declared.atoms.Mark.{Mark}
use Rattle.vc_plan.specs.declared.atoms.Mark.TheVariants.{Held, Outside}
use Rattle.vc_plan.specs.declared.plans.Plan.{Plan}
use Rattle.vc_plan.specs.Seen.{Seen}
use Rattle.vc_plan.specs.Sources.{Entry}

-- what stands for a variable: the value that it has or that it can't have, hard or as a default, and which statement of
-- which procedure wrote it
pub record Written : Type 0 where
  pub mark : Mark
  pub hard : Bool
  pub procedure : ℕ
  pub statement : ℕ

-- of each variable what stands for it, if anything
abbrev pub Entries : Type 0
Entries = List (Option Written)

-- nothing written
abbrev pub no_entries : Plan → Entries
no_entries plan = map (λ x. None) plan.vars

-- what stands for a variable, and the entries with this for it
abbrev pub written_at : Entries → ℕ → Option Written
written_at entries v = slice_index_or entries v None

abbrev pub with_entry : ℕ → Option Written → Entries → Entries
with_entry v written entries = slice_set entries v written

-- the entries as sources of the net
abbrev pub entry_in : Written → Entry
entry_in written = record { mark = written.mark; procedure = written.procedure; statement = written.statement }

abbrev pub sources_in : Entries → List (Option Entry)
sources_in entries = map (option_map entry_in) entries

-- the value of a mark: one outside the variable's values reads as none
abbrev pub value_of_mark : Mark → Option Value
value_of_mark (Held a) = Some a
value_of_mark Outside = None

-- what a procedure reads of a variable: what stands for it, else the value in the stage
abbrev pub value_beside : Seen → ℕ → Option Written → Option Value
value_beside seen v None = seen.value v
value_beside seen v (Some written) = value_of_mark written.mark

abbrev pub value_read : Seen → Entries → ℕ → Option Value
value_read seen entries v = value_beside seen v (written_at entries v)

-- whether nothing hard stands
abbrev pub is_soft : Option Written → Bool
is_soft None = true
is_soft (Some written) = not written.hard
