-- At which numbers a plan cuts a variable.
use Rattle.std.proofs.Common.{◌≡◌, ℕ, ◌*◌, pos, true, false, List, [], ◌∷◌, map, refl}
use Rattle.std.specs.Prelude.{◌≢◌, Box}
use Rattle.std.specs.Ordering.{int_eq}
use Rattle.std.specs.declared.alloc.Global.{Global}
use Rattle.vc_value.specs.Grains.{interval}
use Rattle.vc_value.specs.declared.decimal.Dec.{Dec}
use Rattle.vc_value.specs.declared.grains.Grain.{Grain}
use Rattle.vc_value.specs.declared.table_header.Domain.TheVariants.{Nums}
use Rattle.vc_plan.specs.declared.conditions.Condition.{Condition}
use Rattle.vc_plan.specs.declared.conditions.Condition.TheVariants.{Always, Compared, IsIn, Not', And', Or'}
use Rattle.vc_plan.specs.declared.conditions.Piece.TheVariants.{Stretch}
use Rattle.vc_plan.specs.declared.conditions.Relation.TheVariants.{Equal, Unequal, AtMost, Less}
use Rattle.vc_plan.specs.declared.plans.Plan.{Plan}
use Rattle.vc_plan.specs.declared.rules.Kind.{Kind}
use Rattle.vc_plan.specs.declared.rules.Kind.TheVariants.{Among, Compare, Equate, ByTable, Never}
use Rattle.vc_plan.specs.declared.rules.Operand.TheVariants.{Constant}
use Rattle.vc_plan.specs.declared.rules.Restriction.TheVariants.{Against, OneOf}
use Rattle.vc_plan.specs.declared.terms.Operator.TheVariants.{Plus}
use Rattle.vc_plan.specs.declared.terms.Term.TheVariants.{Literal, Read, Joined'}
use Rattle.vc_plan.specs.Cuts.{cuts_of, is_cut}
use Rattle.vc_plan.proofs.PlanRows.Models.{column, empty, from_to, number, open_var, root, rule, table_of, whole}

-- variables 0 and 1 from 0 to 100 with one decimal, of which the second is the one that is looked at; a table of both
abbrev dec : ℕ → Dec
dec n = record { millionths = pos (n * 1_000_000) }

abbrev two_vars : Plan
two_vars = record empty {
  domains = Nums 1 (from_to 0 100 ∷ []) ∷ Nums 1 (from_to 0 100 ∷ []) ∷ [];
  tables = table_of ((whole 1 ∷ whole 2 ∷ whole 3 ∷ []) ∷ (whole 4 ∷ whole 5 ∷ whole 6 ∷ []) ∷ []) ∷ [];
  slots = root ∷ [];
  vars = open_var 0 ∷ open_var 1 ∷ [];
  terms = Read 1 ∷ Literal (whole 5) ∷ [];
}

abbrev asked : Condition → List Dec
asked c = cuts_of (record two_vars { conditions = Always ∷ c ∷ [] }) 1

abbrev said : Kind → List Dec
said kind = cuts_of (record two_vars { rules = rule 0 [] Never ∷ rule 0 (1 ∷ []) kind ∷ [] }) 1

abbrev five : Condition
five = Compared AtMost (Read 1) (Literal (whole 5))

abbrev seven : Condition
seven = Compared Less (Literal (whole 7)) (Read 1)

-- a literal on either side, as the whole of it
first_side : asked five ≡ dec 5 ∷ []
first_side = refl

second_side : asked seven ≡ dec 7 ∷ []
second_side = refl

second_side_too : asked seven ≢ []
second_side_too e = cc

other_variable : asked (Compared AtMost (Read 0) (Literal (whole 5))) ≡ []
other_variable = refl

in_a_sum : (p : Box (Unit {0}) Global)
    → asked (Compared AtMost (Joined' Plus p (Read 1) p (Literal (whole 1))) (Literal (whole 5))) ≡ []
in_a_sum p = refl

-- a condition doesn't round its literal
unrounded : asked (Compared Equal (Read 1) (Literal (number (pos 5_050_000))))
    ≡ record { millionths = pos 5_050_000 } ∷ []
unrounded = refl

-- the items of IN, with both ends of an interval
items : asked (IsIn 1 (Stretch (from_to 5 5) ∷ Stretch (from_to 7 9) ∷ [])) ≡ dec 5 ∷ dec 5 ∷ dec 7 ∷ dec 9 ∷ []
items = refl

low_ends : asked (IsIn 1 (Stretch (from_to 7 9) ∷ [])) ≢ dec 7 ∷ []
low_ends e = cc

others_items : asked (IsIn 0 (Stretch (from_to 7 9) ∷ [])) ≡ []
others_items = refl

-- under NOT, and on both sides of AND and OR
under_not : (p : Box (Unit {0}) Global) → asked (Not' p five) ≡ dec 5 ∷ []
under_not p = refl

both_of_and : (p : Box (Unit {0}) Global) → asked (And' p five p seven) ≡ dec 5 ∷ dec 7 ∷ []
both_of_and p = refl

both_of_or : (p : Box (Unit {0}) Global) → asked (Or' p five p seven) ≡ dec 5 ∷ dec 7 ∷ []
both_of_or p = refl

nothing_of_not : (p : Box (Unit {0}) Global) → asked (Not' p five) ≢ []
nothing_of_not p e = cc

left_of_or : (p : Box (Unit {0}) Global) → asked (Or' p five p seven) ≢ dec 5 ∷ []
left_of_or p e = cc

-- a restriction of the variable against a literal or items, of a later rule; behind `=` the literal rounded too
against : said (Among 1 (Against AtMost (whole 5))) ≡ dec 5 ∷ dec 5 ∷ []
against = refl

rounded_too : said (Among 1 (Against Equal (number (pos 5_050_000))))
    ≡ record { millionths = pos 5_050_000 } ∷ record { millionths = pos 5_100_000 } ∷ []
rounded_too = refl

not_rounded : map (λ n. int_eq n.millionths (pos 5_050_000)) (said (Among 1 (Against Equal (number (pos 5_050_000))))) ≢
    true ∷ true ∷ []
not_rounded e = cc

unequal : said (Among 1 (Against Unequal (number (pos 5_050_000))))
    ≡ record { millionths = pos 5_050_000 } ∷ record { millionths = pos 5_050_000 } ∷ []
unequal = refl

one_of : said (Among 1 (OneOf (Stretch (from_to 5 5) ∷ Stretch (from_to 7 9) ∷ [])))
    ≡ dec 5 ∷ dec 5 ∷ dec 7 ∷ dec 9 ∷ []
one_of = refl

of_the_other : said (Among 0 (Against AtMost (whole 5))) ≡ []
of_the_other = refl

-- the cells of each column that it is given to
cells : said (ByTable 0 (column 0 0 ∷ column 1 1 ∷ column 2 1 ∷ [])) ≡ dec 2 ∷ dec 5 ∷ dec 3 ∷ dec 6 ∷ []
cells = refl

first_row : said (ByTable 0 (column 1 1 ∷ [])) ≢ dec 2 ∷ []
first_row e = cc

no_cells : said (ByTable 0 (column 0 0 ∷ record { column = 1; operand = Constant (whole 2) } ∷ [])) ≡ []
no_cells = refl

-- comparisons and equations with terms cut nothing
compared : said (Compare AtMost 0 1) ≡ []
compared = refl

equated : said (Equate 0 1) ≡ []
equated = refl

-- all of a plan's conditions count, and each grain is cut at each number: at 5 and 7, at 5 alone, and not at all
abbrev cut_so : List Grain → Plan
cut_so grains = record two_vars {
  domains = Nums 1 (from_to 0 100 ∷ []) ∷ Nums 1 grains ∷ [];
  conditions = Always ∷ five ∷ seven ∷ [];
}

abbrev tenths : ℕ → ℕ → Grain
tenths low high = interval (pos (low * 100_000)) (pos (high * 100_000))

cut_at_both : is_cut (cut_so (tenths 0 49 ∷ tenths 50 50 ∷ tenths 51 69 ∷ tenths 70 70 ∷ tenths 71 1_000 ∷ [])) 1 ≡ true
cut_at_both = refl

cut_at_one : is_cut (cut_so (tenths 0 49 ∷ tenths 50 50 ∷ tenths 51 1_000 ∷ [])) 1 ≡ false
cut_at_one = refl

cut_before : is_cut (cut_so (tenths 0 49 ∷ tenths 50 69 ∷ tenths 70 70 ∷ tenths 71 1_000 ∷ [])) 1 ≡ false
cut_before = refl

first_alone : is_cut (cut_so (tenths 0 49 ∷ tenths 50 50 ∷ tenths 51 1_000 ∷ [])) 1 ≢ true
first_alone e = cc
