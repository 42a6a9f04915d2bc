-- Lists of grains, and what is found among numbers.
use Rattle.std.proofs.Common.{◌≡◌, ℕ, ◌+◌, ◌^◌, ◌<◌, Bool, ◌||◌, List, [], ◌∷◌, ◌++◌}
use Rattle.std.proofs.Common.{length, map, refl, sym, ◌∙◌, ap, append_assoc, length-append}
use Rattle.std.specs.Prelude.{slice_get, Some}
use Rattle.std.specs.List.{list_any, range_with_len}
use Rattle.std.proofs.lemmas.List.{length-map}
use Rattle.vc_value.specs.declared.grains.Grain.{Grain}
use Rattle.vc_value.specs.declared.value.Value.{Value}
use Rattle.vc_plan.specs.declared.conditions.Piece.{Piece}
use Rattle.vc_plan.specs.declared.conditions.Piece.TheVariants.{OneText, Stretch}
use Rattle.vc_plan.specs.declared.plans.Plan.{Plan}
use Rattle.vc_plan.specs.Domains.{numbers_below, atom_count, passes}
use Rattle.vc_plan.specs.Pieces.{lies_in, lies_in_some}
use Rattle.vc_plan_values.proofs.GrainLemmas.{count_within}
use Rattle.vc_rule_table.specs.Cells.{FewGrains, grain_holds}

pub texts_counted : (texts : List ℕ) → length (map OneText texts) ≡ length texts
texts_counted texts = length-map texts OneText

pub stretches_counted : (grains : List Grain) → length (map Stretch grains) ≡ length grains
stretches_counted grains = length-map grains Stretch

-- a list's elements by their numbers: the elements from one on, where others come before
pub element_after : {A : Type 0} (before after : List A) (x : A)
    → slice_get (before ++ x ∷ after) (length before) ≡ Some x
element_after [] after x = refl
element_after (y ∷ before) after x = element_after before after x

pub any_after : (test : Piece → Bool) (before after : List Piece)
    → list_any (λ g. passes test (slice_get (before ++ after) g)) (range_with_len (length before) (length after))
    ≡ list_any test after
any_after test before [] = refl
any_after test before (x ∷ after) =
    let whole : before ++ x ∷ after ≡ (before ++ x ∷ []) ++ after = sym (append_assoc before (x ∷ []) after) in
    let long : length (before ++ x ∷ []) ≡ length before + 1 = length-append before (x ∷ []) in
    let first : passes test (slice_get (before ++ x ∷ after) (length before)) ≡ test x
    = ap (passes test) (element_after before after x) in
    let later : list_any (λ g. passes test (slice_get (before ++ x ∷ after) g))
    (range_with_len (length before + 1) (length after)) ≡ list_any test after =
    ap (λ xs. list_any (λ g. passes test (slice_get xs g)) (range_with_len (length before + 1) (length after))) whole
    ∙ (ap (λ n. list_any (λ g. passes test (slice_get ((before ++ x ∷ []) ++ after) g))
    (range_with_len n (length after))) (sym long)
    ∙ any_after test (before ++ x ∷ []) after) in
    ap (λ b. b || list_any (λ g. passes test (slice_get (before ++ x ∷ after) g))
    (range_with_len (length before + 1) (length after))) first
    ∙ ap (λ b. test x || b) later

-- whether a grain by its number holds the value is whether one does
pub some_holds : (grains : List Piece) (a : Value)
    → list_any (grain_holds grains a) (numbers_below (length grains)) ≡ lies_in_some grains a
some_holds grains a = any_after (lies_in a) [] grains

-- where there are few atoms, each variable has few grains
pub few_grains : (plan : Plan) → atom_count plan < 2 ^ 32 → FewGrains plan
few_grains plan few v = count_within plan v few
