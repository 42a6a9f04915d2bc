-- Rules of which it is told at a glance that they say nothing new.
use Rattle.std.specs.Prelude.{ℕ, Bool, false, not, nat_lt, ◌&&◌, ◌==◌, Option, None, Some}
use Rattle.vc_value.specs.declared.value.Value.{Value}
use Rattle.vc_value.specs.declared.value.Value.TheVariants.{Text, Num}
use Rattle.vc_plan.specs.declared.conditions.Relation.{Relation}
use Rattle.vc_plan.specs.declared.conditions.Relation.TheVariants.{Equal, Unequal, Less, AtMost, Greater, AtLeast}
use Rattle.vc_plan.specs.declared.plans.Plan.{Plan}
use Rattle.vc_plan.specs.declared.rules.Kind.{Kind}
use Rattle.vc_plan.specs.declared.rules.Kind.TheVariants.{Among, Compare, Equate, ByTable, Never, Last, Line}
use Rattle.vc_plan.specs.declared.rules.Restriction.{Restriction}
use Rattle.vc_plan.specs.declared.rules.Restriction.TheVariants.{Against, OneOf}
use Rattle.vc_plan.specs.Domains.{count_of, is_restrictable}
use Rattle.vc_plan.specs.Seen.{Seen}

-- whether both are one text
abbrev pub same_text : Value → Value → Bool
same_text (Text s) (Text t) = s == t
same_text (Text s) (Num b) = false
same_text (Num a) b = false

abbrev pub is_text : Value → Option Value → Bool
is_text a None = false
is_text a (Some b) = same_text a b

-- whether the value is a text that is asked for by itself
abbrev pub asks_for_text : Relation → Value → Option Value → Bool
asks_for_text Equal a value = is_text a value
asks_for_text Unequal a value = false
asks_for_text Less a value = false
asks_for_text AtMost a value = false
asks_for_text Greater a value = false
asks_for_text AtLeast a value = false

abbrev pub asks_for : Restriction → Option Value → Bool
asks_for (Against r a) value = asks_for_text r a value
asks_for (OneOf pieces) value = false

-- whether a variable with so many grains has two of which it is told that they aren't out: its first ones
abbrev pub are_two_left : (ℕ → Bool) → ℕ → Bool
are_two_left out count = nat_lt 1 count && (not (out 0) && not (out 1))

-- whether it gives a variable that isn't restrictable the text that this has, or is the rule of the last grain of one
-- that has two
abbrev pub rests : Plan → Seen → Kind → Bool
rests plan seen (Among v restriction) = asks_for restriction (seen.value v) && not (is_restrictable plan v)
rests plan seen (Compare r a b) = false
rests plan seen (Equate a b) = false
rests plan seen (ByTable table columns) = false
rests plan seen Never = false
rests plan seen (Last v) = are_two_left (seen.out v) (count_of plan v)
rests plan seen (Line i) = false
