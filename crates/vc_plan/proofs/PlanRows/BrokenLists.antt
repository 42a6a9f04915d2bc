-- Plans that break one fact alone: what slots of one object have alike, lists, and the domains cut from them.
use Rattle.std.proofs.Common.{◌≡◌, pos, List, [], ◌∷◌, true, refl}
use Rattle.std.specs.Prelude.{codes, Box}
use Rattle.std.specs.declared.alloc.Global.{Global}
use Rattle.vc_value.specs.Grains.{interval}
use Rattle.vc_value.specs.declared.table_header.Domain.{Domain}
use Rattle.vc_value.specs.declared.table_header.Domain.TheVariants.{Texts, Nums}
use Rattle.vc_value.specs.declared.value.Value.TheVariants.{Text}
use Rattle.vc_plan.specs.declared.plans.Plan.{Plan}
use Rattle.vc_plan.proofs.PlanRows.Facts.{Breaks, broken}
use Rattle.vc_plan.proofs.PlanRows.Models.{from_to, last}
use Rattle.vc_plan.proofs.PlanRows.SmallModels.{bare, box, length_at, options_at, screw, cutting, keyed, keyed_table}
use Rattle.vc_plan.proofs.PlanRows.StepModel.{flow_grains}
use Rattle.vc_plan.proofs.PlanRows.WholeModels.{listed, piece_line, plain, whole_ring, whole_step}

-- the lengths of two lids with a domain each, and one of them open to the net
abbrev three_domains : List Domain
three_domains = Nums 0 (from_to 1 9 ∷ []) ∷ Texts (0 ∷ 1 ∷ []) ∷ Nums 0 (from_to 1 9 ∷ []) ∷ []

two_domains : Breaks (codes "one_domain")
    (record box { domains = three_domains; vars = length_at 1 0 ∷ length_at 2 2 ∷ [] })
two_domains = refl

open_once : Breaks (codes "one_domain")
    (record box { vars = length_at 1 0 ∷ record (length_at 2 0) { restrictable = true } ∷ [] })
open_once = refl

two_text_lists : Breaks (codes "one_text_list")
    (record box {
      domains = Nums 0 (from_to 1 9 ∷ []) ∷ Texts (0 ∷ 1 ∷ []) ∷ Texts (0 ∷ 1 ∷ []) ∷ [];
      sets = options_at 1 1 ∷ options_at 2 2 ∷ [];
    })
two_text_lists = refl

-- a second lid with a nail in place of the screw, and with no line
nail : Breaks (codes "one_bill")
    (record box {
      lines =
          piece_line 10 (codes "LID") 0 [] ∷ piece_line 20 (codes "LID") 0 [] ∷ screw 1
          ∷ record (screw 2) { material = codes "NAIL" } ∷ [];
    })
nail = refl

no_screw : Breaks (codes "one_bill")
    (record box { lines = piece_line 10 (codes "LID") 0 [] ∷ piece_line 20 (codes "LID") 0 [] ∷ screw 1 ∷ [] })
no_screw = refl

other_number : Breaks (codes "one_routing") (record box { operations = cutting 1 10 ∷ cutting 2 20 ∷ [] })
other_number = refl

-- lists: entries that overlap, that descend, that have a decimal too many, and a text twice
abbrev with_list : Domain → Plan
with_list list = record bare {
  texts = codes "A" ∷ codes "B" ∷ [];
  characteristics = listed (codes "W") list ∷ [];
}

a_list : broken (with_list (Nums 1 (from_to 0 5 ∷ from_to 6 9 ∷ []))) ≡ []
a_list = refl

overlapping : Breaks (codes "lists") (with_list (Nums 1 (from_to 0 5 ∷ from_to 5 9 ∷ [])))
overlapping = refl

descending : Breaks (codes "lists") (with_list (Nums 1 (from_to 6 9 ∷ from_to 0 5 ∷ [])))
descending = refl

two_decimals : Breaks (codes "lists") (with_list (Nums 1 (interval (pos 0) (pos 5_050_000) ∷ [])))
two_decimals = refl

text_twice : Breaks (codes "lists") (with_list (Texts (0 ∷ 1 ∷ 0 ∷ [])))
text_twice = refl

-- a box whose lids have these lengths, cut so
abbrev lengths : Domain → Domain → Plan
lengths list domain = record box {
  characteristics = listed (codes "LEN") list ∷ listed (codes "OPT") (Texts (0 ∷ 1 ∷ [])) ∷ [];
  domains = domain ∷ Texts (0 ∷ 1 ∷ []) ∷ [];
}

cut_lengths : broken
    (lengths (Nums 0 (from_to 1 9 ∷ from_to 10 20 ∷ []))
    (Nums 0 (from_to 1 4 ∷ from_to 5 5 ∷ from_to 6 9 ∷ from_to 10 20 ∷ []))) ≡ []
cut_lengths = refl

no_length : Breaks (codes "some_grain") (lengths (Nums 0 []) (Nums 0 []))
no_length = refl

-- grains that share numbers
shared : Breaks (codes "proper")
    (lengths (Nums 0 (from_to 1 9 ∷ [])) (Nums 0 (from_to 1 5 ∷ from_to 3 9 ∷ from_to 6 9 ∷ [])))
shared = refl

-- 6 to 9 missing, 5 missing between two grains, 10 too many, two entries joined, and another number of decimals
end_missing : Breaks (codes "whole") (lengths (Nums 0 (from_to 1 9 ∷ [])) (Nums 0 (from_to 1 5 ∷ [])))
end_missing = refl

middle_missing : Breaks (codes "whole") (lengths (Nums 0 (from_to 1 9 ∷ [])) (Nums 0 (from_to 1 4 ∷ from_to 6 9 ∷ [])))
middle_missing = refl

begin_missing : Breaks (codes "whole") (lengths (Nums 0 (from_to 1 9 ∷ [])) (Nums 0 (from_to 2 9 ∷ [])))
begin_missing = refl

one_more : Breaks (codes "whole") (lengths (Nums 0 (from_to 1 9 ∷ [])) (Nums 0 (from_to 1 10 ∷ [])))
one_more = refl

joined : Breaks (codes "whole") (lengths (Nums 0 (from_to 1 9 ∷ from_to 10 20 ∷ [])) (Nums 0 (from_to 1 20 ∷ [])))
joined = refl

other_decimals : Breaks (codes "whole") (lengths (Nums 0 (from_to 1 9 ∷ [])) (Nums 1 (from_to 1 9 ∷ [])))
other_decimals = refl

-- FLOW, which is compared with 5 and with 10, uncut; and cut at 5 alone
uncut : (p : Box (Unit {0}) Global) → Breaks (codes "cut")
    (record (whole_step p) {
      domains = Nums 0 (from_to 0 0 ∷ from_to 1 1 ∷ from_to 2 2 ∷ from_to 3 50 ∷ []) ∷ Nums 1 (from_to 0 100 ∷ []) ∷ [];
    })
uncut p = refl

-- STEPS, which a restriction compares with 1 and with 2, cut at 1 alone
cut_once : (p : Box (Unit {0}) Global) → Breaks (codes "cut")
    (record (whole_step p)
    { domains = Nums 0 (from_to 0 0 ∷ from_to 1 1 ∷ from_to 2 50 ∷ []) ∷ Nums 1 flow_grains ∷ [] })
cut_once p = refl

-- options of which one isn't listed with the characteristic, and numbers for options
fewer_texts : Breaks (codes "set_texts") (record box { domains = Nums 0 (from_to 1 9 ∷ []) ∷ Texts (0 ∷ []) ∷ [] })
fewer_texts = refl

-- a table with two columns of one characteristic, and one with a column of options
a_column_twice : Breaks (codes "table_columns") (record whole_ring {
  rules = last 0 ∷ last 1 ∷ last 2 ∷ [];
  tables = record { name = codes "AB"; columns = plain 1 ∷ plain 2 ∷ plain 1 ∷ []; rows = [] } ∷ [];
})
a_column_twice = refl

options_in_table : Breaks (codes "single_columns")
    (record box { tables = record { name = codes "T"; columns = plain 1 ∷ []; rows = [] } ∷ [] })
options_in_table = refl

-- a cell that is no value of its column's list
unlisted_cell : Breaks (codes "cells") (record keyed { tables = keyed_table ((Text 0 ∷ Text 1 ∷ []) ∷ []) ∷ [] })
unlisted_cell = refl
