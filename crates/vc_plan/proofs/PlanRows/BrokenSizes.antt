-- Plans that pass one limit, and those that stand at it.
use Rattle.std.proofs.Common.{◌≡◌, ℕ, ◌<◌, [], ◌∷◌, map, replicate, refl, arith}
use Rattle.std.proofs.lemmas.Bool.{leb-true}
use Rattle.std.specs.Prelude.{codes}
use Rattle.vc_value.specs.declared.table_header.Domain.TheVariants.{Texts}
use Rattle.vc_plan.specs.declared.plans.Plan.{Plan}
use Rattle.vc_plan.specs.declared.plans.Table.{Table}
use Rattle.vc_plan.specs.Bounds.{cell_bound}
use Rattle.vc_plan.specs.Domains.{numbers_below, atom_count}
use Rattle.vc_plan.specs.Valid.{IsValid}
use Rattle.vc_plan.proofs.PlanRows.Facts.{Breaks, broken}
use Rattle.vc_plan.proofs.PlanRows.Models.{fixed_var, last}
use Rattle.vc_plan.proofs.PlanRows.SmallModels.{bare, chain, material, wheel, cutting}
use Rattle.vc_plan.proofs.PlanRows.WholeModels.{listed, object, plain, piece_line}

-- four levels of slots, and five; forty slots, and forty-one
five_levels : Breaks (codes "levels") (chain 4)
five_levels = refl

forty_one_slots : Breaks (codes "slot_limit") (wheel 40)
forty_one_slots = refl

-- a table of 21 columns, and of 20
abbrev columned : ℕ → Plan
columned n = record bare {
  characteristics = map (λ c. listed (material c) (Texts [])) (numbers_below n);
  tables = record { name = codes "T"; columns = map plain (numbers_below n); rows = [] } ∷ [];
}

twenty_columns : broken (columned 20) ≡ []
twenty_columns = refl

twenty_one_columns : Breaks (codes "column_limit") (columned 21)
twenty_one_columns = refl

-- the other limits are large: a plan that passes one is refused by its fact, whatever else it breaks
rules : IsValid (record bare { rules = replicate 20_001 (last 0) }) → ⊥
rules valid = let e = valid.rule_limit in cc

-- forty variables of 999 texts have 40,000 atoms and the root's
atoms : IsValid (record bare { domains = Texts (replicate 999 0) ∷ []; vars = replicate 40 (fixed_var 0) }) → ⊥
atoms valid = let e = valid.atom_limit in cc

just_40_000 : atom_count
    (record bare { slots = []; domains = Texts (replicate 999 0) ∷ []; vars = replicate 40 (fixed_var 0) })
    ≡ 40_000
just_40_000 = refl

cells : (plan : Plan) → 500_000 < cell_bound plan → IsValid plan → ⊥
cells plan over valid = let e = leb-true (cell_bound plan) 500_000 valid.cell_limit in omega arith

characteristics : IsValid (record bare { characteristics = replicate 2_001 (listed (codes "W") (Texts [])) }) → ⊥
characteristics valid = let e = valid.characteristic_limit in cc

listed_values : IsValid (record bare { characteristics = listed (codes "W") (Texts (replicate 1_001 0)) ∷ [] }) → ⊥
listed_values valid = let e = valid.list_limit in cc

class_of_many : IsValid (record bare { objects = object (codes "BARE") (replicate 501 0) ∷ [] }) → ⊥
class_of_many valid = let e = valid.class_limit in cc

objects : IsValid (record bare { objects = replicate 501 (object (codes "BARE") []) }) → ⊥
objects valid = let e = valid.object_limit in cc

dependencies : IsValid (record bare { dependencies = replicate 2_001 (codes "C") }) → ⊥
dependencies valid = let e = valid.dependency_limit in cc

abbrev table_of_rows : ℕ → Table
table_of_rows n = record { name = codes "T"; columns = []; rows = replicate n [] }

tables : IsValid (record bare { tables = replicate 201 (table_of_rows 0) }) → ⊥
tables valid = let e = valid.table_limit in cc

rows : IsValid (record bare { tables = table_of_rows 10_001 ∷ [] }) → ⊥
rows valid = let e = valid.row_limit in cc

lines : IsValid (record bare { lines = replicate 1_001 (piece_line 10 (codes "SCREW") 0 []) }) → ⊥
lines valid = let e = valid.line_limit in cc

operations : IsValid (record bare { operations = replicate 1_001 (cutting 0 10) }) → ⊥
operations valid = let e = valid.operation_limit in cc
