-- The truth of conditions, in both readings.
use Rattle.std.proofs.Common.{◌≡◌, ◌==◌, ◌&&◌, [], ◌∷◌, refl}
use Rattle.std.specs.Prelude.{◌≢◌, Box}
use Rattle.std.specs.declared.alloc.Global.{Global}
use Rattle.vc_value.specs.declared.table_header.Domain.TheVariants.{Texts}
use Rattle.vc_value.specs.declared.value.Value.TheVariants.{Text}
use Rattle.vc_plan.specs.declared.atoms.Atom.TheVariants.{Here, Is}
use Rattle.vc_plan.specs.declared.conditions.Condition.{Condition}
use Rattle.vc_plan.specs.declared.conditions.Condition.TheVariants.{Compared, IsIn, Specified, Holds, Filled, Not'}
use Rattle.vc_plan.specs.declared.conditions.Condition.TheVariants.{And', Or'}
use Rattle.vc_plan.specs.declared.conditions.Kleene.{Kleene}
use Rattle.vc_plan.specs.declared.conditions.Kleene.TheVariants.{True, False, Unknown}
use Rattle.vc_plan.specs.declared.conditions.Piece.TheVariants.{OneText}
use Rattle.vc_plan.specs.declared.conditions.Relation.TheVariants.{Equal, Unequal}
use Rattle.vc_plan.specs.declared.plans.Plan.{Plan}
use Rattle.vc_plan.specs.declared.terms.Term.TheVariants.{Literal, Read}
use Rattle.vc_plan.specs.Readings.{net_reading, full_reading}
use Rattle.vc_plan.specs.Seen.{seen_of}
use Rattle.vc_plan.specs.Truth.{truth}
use Rattle.vc_plan.proofs.PlanRows.Models.{empty, root}

-- variable 0 is the text 0, variable 1 has no value; set 0 has the text 4 of 4 and 5, set 1 is empty
abbrev plan : Plan
plan = record empty {
  domains = Texts (4 ∷ 5 ∷ []) ∷ [];
  slots = root ∷ [];
  sets = record { slot = 0; characteristic = 2; domain = 0 } ∷ record { slot = 0; characteristic = 3; domain = 0 } ∷ [];
}

abbrev net : Condition → Kleene
net c = truth (net_reading (seen_of (Is 0 (Text 0) ∷ Here 0 ∷ []))) c

abbrev full : Condition → Kleene
full c = truth (full_reading plan (seen_of (Is 0 (Text 0) ∷ Here 0 ∷ [])) (λ set text. (set == 0) && (text == 4))) c

-- a comparison without a value is unknown, `<>` too
known : net (Compared Equal (Read 0) (Literal (Text 0))) ≡ True
known = refl

known_other : net (Compared Equal (Read 0) (Literal (Text 1))) ≡ False
known_other = refl

unknown : full (Compared Equal (Read 1) (Literal (Text 0))) ≡ Unknown
unknown = refl

unknown_unequal : full (Compared Unequal (Read 1) (Literal (Text 0))) ≢ True
unknown_unequal e = cc

unknown_in : net (IsIn 1 (OneText 0 ∷ [])) ≡ Unknown
unknown_in = refl

known_in : net (IsIn 0 (OneText 1 ∷ OneText 0 ∷ [])) ≡ True
known_in = refl

-- SPECIFIED of what has no value: unknown in a net, false elsewhere
specified : net (Specified 0) ≡ True
specified = refl

unspecified_net : net (Specified 1) ≡ Unknown
unspecified_net = refl

unspecified_full : full (Specified 1) ≡ False
unspecified_full = refl

net_false : net (Specified 1) ≢ False
net_false e = cc

-- sets: a text that is there, one that isn't, and any text of an empty set
there : full (Holds 0 4) ≡ True
there = refl

not_there : full (Holds 0 5) ≡ False
not_there = refl

in_empty : full (Holds 1 4) ≡ Unknown
in_empty = refl

empty_false : full (Holds 1 4) ≢ False
empty_false e = cc

filled : full (Filled 0) ≡ True
filled = refl

unfilled : full (Filled 1) ≡ False
unfilled = refl

-- Kleene's tables: a false part decides AND, a true one OR, and NOT leaves what is unknown
not_unknown : (p : Box (Unit {0}) Global) → net (Not' p (Specified 1)) ≡ Unknown
not_unknown p = refl

and_false : (p : Box (Unit {0}) Global)
    → net (And' p (Specified 1) p (Compared Equal (Read 0) (Literal (Text 1)))) ≡ False
and_false p = refl

and_unknown : (p : Box (Unit {0}) Global) → net (And' p (Specified 1) p (Specified 0)) ≡ Unknown
and_unknown p = refl

or_true : (p : Box (Unit {0}) Global) → net (Or' p (Specified 1) p (Specified 0)) ≡ True
or_true p = refl

or_unknown : (p : Box (Unit {0}) Global)
    → net (Or' p (Specified 1) p (Compared Equal (Read 0) (Literal (Text 1)))) ≡ Unknown
or_unknown p = refl
