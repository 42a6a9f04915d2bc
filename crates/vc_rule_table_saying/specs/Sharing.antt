-- Why rows aren't possible, cited once for all variables at whose columns no row fails first.
use Rattle.std.specs.Prelude.{◌≡◌, ℕ, ◌≤◌, Bool, true, false, not, ◌&&◌, nat_le, List, take, length, slice_get, Option}
use Rattle.std.specs.Prelude.{None, Some}
use Rattle.std.specs.List.{list_any}
use Rattle.vc_plan.specs.declared.atoms.Atom.{Atom}
use Rattle.vc_plan.specs.declared.rules.Binding.{Binding}
use Rattle.vc_plan.specs.TableRows.{is_column_of}
use Rattle.vc_rule_yield.specs.declared.scratch.Note.{Note}
use Rattle.vc_rule_yield.specs.Yielding.{Yielded, with_cites}
use Rattle.vc_rule_premises.specs.Citing.{cited_all}

-- whether the column, if there is one, is given the variable
abbrev pub is_given_in : ℕ → Option Binding → Bool
is_given_in v None = false
is_given_in v (Some column) = is_column_of v column

-- whether the row of the note fails first at a column of the variable
abbrev pub fails_first : List Binding → ℕ → Note → Bool
fails_first columns v note = is_given_in v (slice_get columns note.first)

-- whether none of so many rows does, as notes of all of them tell
abbrev pub shares : List Binding → ℕ → ℕ → List Note → Bool
shares columns v count notes = nat_le count (length notes) && not (list_any (fails_first columns v) (take count notes))

-- the first cited premises alone, so many
abbrev pub kept : ℕ → Yielded → Yielded
kept base y = with_cites y (take base y.cites)

-- behind what is cited already these are, or nothing is
abbrev pub citing : Bool → List Atom → Yielded → Yielded
citing true reasons y = cited_all y reasons
citing false reasons y = y

pub record IsCiting (base : ℕ) (reasons : List Atom) (shared : Bool) (y : Yielded) : Type 0 where
  pub stands : base ≤ length y.cites
  pub cites : y ≡ citing shared reasons (kept base y)
