-- Rules that come one list of drafts behind another, and the room that they take.
use Rattle.std.proofs.Common.{◌≡◌, ℕ, suc, ◌+◌, ◌-◌, ◌<◌, ◌≤◌, List, [], ◌∷◌, ◌++◌, length, drop, get_or, map, refl}
use Rattle.std.proofs.Common.{sym, ap, subst, ◌∙◌, arith, flat_map, length-append, Option, None, Some, option_map}
use Rattle.std.specs.List.{range_with_len}
use Rattle.std.proofs.Math.Seq.{drop-cons}
use Rattle.std.proofs.lemmas.List.FromFn.{length-map-range_with_len}
use Rattle.vc_plan.specs.declared.rules.Rule.{Rule}
use Rattle.vc_compile_plan.specs.Conditions.{condition_at}
use Rattle.vc_compile_plan.specs.Layouts.{Layout}
use Rattle.vc_compile_plan.specs.Numbering.{rule_brings, rule_from}
use Rattle.vc_compile_plan.specs.Refusals.{most_rules}
use Rattle.vc_compile_plan.specs.Rules.{Draft, drafts_of_slot, last, line_drafts_from, own_draft, restriction_drafts}
use Rattle.vc_compile_plan.specs.Rules.{slot_drafts_from}
use Rattle.vc_compile_plan.specs.Places.{Asked}
use Rattle.vc_compile_plan.specs.Sites.{Site}
use Rattle.vc_compile_plan.specs.declared.standings.Standing.{Standing}
use Rattle.vc_compile_plan.specs.Tuples.{both}
use Rattle.vc_syntax_tree.specs.Trees as syntax
use Rattle.vc_compile_numbering.specs.Growing.{Numbered, with_draft, with_drafts}
use Rattle.vc_compile_numbering.proofs.NumberingLaws.{drafts_append, drafts_are_counted}
use Rattle.vc_compile_rules.specs.Adding.{Adds, both_asked}
use Rattle.vc_compile_rules.specs.declared.adding.Room.{Room}
use Rattle.vc_compile_rules.specs.declared.adding.Room.TheVariants as rooms

-- the rules of drafts
abbrev pub with_rules : Numbered Rule → List Draft → Numbered Rule
with_rules before drafts = with_drafts rule_brings rule_from before drafts

-- what asks two things, where it stands
pub both_at : (layout : Layout) (site : Site) (left right : Option syntax.Condition)
    → option_map (condition_at layout site) (both left right)
    ≡ both_asked (option_map (condition_at layout site) left) (option_map (condition_at layout site) right)
both_at layout site None right = refl
both_at layout site (Some left) None = refl
both_at layout site (Some left) (Some right) = refl

-- some of the rules are there: those to come are as many more
pub left_to_add : (before now : Numbered Rule) (all rest : List Draft) → with_rules now rest ≡ with_rules before all
    → length now.items + length rest ≡ length before.items + length all
left_to_add before now all rest same =
    sym (drafts_are_counted rule_brings rule_from now rest) ∙ ap (λ n. length n.items) same
    ∙ drafts_are_counted rule_brings rule_from before all

-- a list of drafts more
pub step_over : (before now next : Numbered Rule) (all first rest : List Draft)
    → with_rules now (first ++ rest) ≡ with_rules before all → next ≡ with_rules now first
    → with_rules next rest ≡ with_rules before all
step_over before now next all first rest same is =
    ap (λ n. with_rules n rest) is ∙ sym (drafts_append rule_brings rule_from now first rest) ∙ same

-- there are too many if some of those to come are too many
pub too_many_in_all : (before now : Numbered Rule) (all first rest : List Draft)
    → with_rules now (first ++ rest) ≡ with_rules before all → most_rules < length now.items + length first
    → most_rules < length before.items + length all
too_many_in_all before now all first rest same many =
    let sum = left_to_add before now all (first ++ rest) same in
    let parts = length-append first rest in
    omega arith

-- there are too many if no room is left and one more is to come
pub too_many_now : (before now : Numbered Rule) (all rest : List Draft) (draft : Draft)
    → with_rules now (draft ∷ rest) ≡ with_rules before all → most_rules ≤ length now.items
    → most_rules < length before.items + length all
too_many_now before now all rest draft same full =
    let sum = left_to_add before now all (draft ∷ rest) same in
    omega arith

-- some of the rules are there, one more is to come, and no room is left
pub too_many_if : (before now : Numbered Rule) (all rest : List Draft) → with_rules now rest ≡ with_rules before all
    → most_rules ≤ length now.items → 0 < length rest → most_rules < length before.items + length all
too_many_if before now all rest same full some = let sum = left_to_add before now all rest same in omega arith

pub restrictions_are_counted : (layout : Layout) (d : ℕ) (constraint : syntax.Constraint) (tuple : List ℕ) (n : ℕ)
    (restrictions : List syntax.Restriction)
    → length (restriction_drafts layout d constraint tuple n restrictions) ≡ length restrictions
restrictions_are_counted layout d constraint tuple n [] = refl
restrictions_are_counted layout d constraint tuple n (restriction ∷ restrictions) =
    ap suc (restrictions_are_counted layout d constraint tuple (suc n) restrictions)

pub selections_are_counted : (layout : Layout) (site : Site) (i n : ℕ) (selections : List Asked)
    → length (line_drafts_from layout site i n selections) ≡ length selections
selections_are_counted layout site i n [] = refl
selections_are_counted layout site i n (asked ∷ selections) =
    ap suc (selections_are_counted layout site i (suc n) selections)

-- the numbers from one on begin with it
pub range_step : (g n : ℕ) → g < n → range_with_len g (n - g) ≡ g ∷ range_with_len (g + 1) (n - (g + 1))
range_step g n below =
    let count : n - g ≡ suc (n - (g + 1)) = omega (below, arith) in
    ap (range_with_len g) count

-- the rule of one variable more
pub last_more : (before now next : Numbered Rule) (v n : ℕ) → v < n
    → with_rules now (map (λ w. own_draft (last w)) (range_with_len v (n - v))) ≡ before
    → next ≡ with_draft rule_brings rule_from now (own_draft (last v))
    → with_rules next (map (λ w. own_draft (last w)) (range_with_len (v + 1) (n - (v + 1)))) ≡ before
last_more before now next v n below same is =
    ap (λ s. with_rules s (map (λ w. own_draft (last w)) (range_with_len (v + 1) (n - (v + 1))))) is
    ∙ sym (ap (λ vs. with_rules now (map (λ w. own_draft (last w)) vs)) (range_step v n below)) ∙ same

pub some_left : (v n : ℕ) → v < n → 0 < length (map (λ w. own_draft (last w)) (range_with_len v (n - v)))
some_left v n below =
    let count = length-map-range_with_len (λ w. own_draft (last w)) v (n - v) in
    omega (below, count, arith)

drop_first : {X : Type 0} (xs : List X) (i : ℕ) (x : X) → i < length xs → x ≡ get_or xs i x
    → drop i xs ≡ x ∷ drop (i + 1) xs
drop_first xs i x inside is =
    let next : suc i ≡ i + 1 = omega arith in
    drop-cons xs i x inside ∙ ap (λ y. y ∷ drop (suc i) xs) (sym is) ∙ ap (λ n. x ∷ drop n xs) next

-- the drafts of one element, and those after it
pub first_of_all : {X : Type 0} (f : X → List Draft) (xs : List X) (i : ℕ) (x : X) → i < length xs → x ≡ get_or xs i x
    → flat_map f (drop i xs) ≡ f x ++ flat_map f (drop (i + 1) xs)
first_of_all f xs i x inside is = ap (flat_map f) (drop_first xs i x inside is)

pub first_slot : (layout : Layout) (xs : List Standing) (i : ℕ) (d : Standing) → i < length xs
    → slot_drafts_from layout i (drop i xs)
    ≡ drafts_of_slot layout i (get_or xs i d) (get_or xs i d).parent
    ++ slot_drafts_from layout (i + 1) (drop (i + 1) xs)
first_slot layout xs i d inside =
    let next : suc i ≡ i + 1 = omega arith in
    ap (slot_drafts_from layout i) (drop-cons xs i d inside)
    ∙ ap (λ n. drafts_of_slot layout i (get_or xs i d) (get_or xs i d).parent ++ slot_drafts_from layout n (drop n xs))
    next

-- what came when some drafts were to be added, where the whole list has them next
pub adds_too_many : (room : Room) (before now after : Numbered Rule) (all first rest : List Draft)
    → room ≡ rooms.TooMany → Adds room now first after
    → with_rules now (first ++ rest) ≡ with_rules before all → most_rules < length before.items + length all
adds_too_many room before now after all first rest is added same =
    too_many_in_all before now all first rest same (subst (λ r. Adds r now first after) is added)

pub adds_enough : (room : Room) (before now after : Numbered Rule) (all first rest : List Draft) → room ≡ rooms.Enough
    → Adds room now first after
    → with_rules now (first ++ rest) ≡ with_rules before all → with_rules after rest ≡ with_rules before all
adds_enough room before now after all first rest is added same =
    step_over before now after all first rest same (subst (λ r. Adds r now first after) is added)
