-- Lists that were put one after another are found again.
use Rattle.std.proofs.Common.{◌≡◌, ℕ, ◌+◌, ◌-◌, List, [], ◌∷◌, ◌++◌, drop, length, map, take, refl, sym, ◌∙◌, ap}
use Rattle.std.proofs.Common.{◌<◌, append-nil, append_assoc, arith}
use Rattle.std.specs.Prelude.{option_map, slice_get}
use Rattle.std.proofs.lemmas.List.{drop-append-le, drop_all, length-append, take-append-le, take_all}
use Rattle.std.proofs.lemmas.Option.{slice_get-map}
use Rattle.vc_net_readers.specs.declared.lists.Span.{Span}
use Rattle.vc_net_readers.specs.Filing.{list_at, list_or_none}
use Rattle.vc_net_readers.specs.Lists.{all_numbers, numbers_in, spans_from}

pub length_joined : (xs ys : List ℕ) → length (xs ++ ys) ≡ length xs + length ys
length_joined xs ys = length-append xs ys

-- a list between others
middle : (before list after : List ℕ) (n : ℕ) → n ≡ length before
    → take ((n + length list) - n) (drop n (before ++ (list ++ after))) ≡ list
middle before list after n at =
    ap (take ((n + length list) - n))
    (drop-append-le n before (list ++ after) (omega (arith, at))
    ∙ ap (λ xs. xs ++ (list ++ after)) (drop_all n before (omega (arith, at))))
    ∙ (ap (λ k. take k (list ++ after)) count
    ∙ (take-append-le (length list) list after (omega arith) ∙ take_all (length list) list (omega arith)))
  where
    count : (n + length list) - n ≡ length list
    count = omega arith

found_from : (before : List ℕ) (lists : List (List ℕ)) (n : ℕ) → n ≡ length before
    → map (numbers_in (before ++ all_numbers lists)) (spans_from n lists) ≡ lists
found_from before [] n at = refl
found_from before (list ∷ lists) n at =
    ap (λ xs. xs ∷ map (numbers_in (before ++ (list ++ all_numbers lists))) (spans_from (n + length list) lists))
    (middle before list (all_numbers lists) n at)
    ∙ ap (λ more. list ∷ more)
    (ap (λ ns. map (numbers_in ns) (spans_from (n + length list) lists))
    (sym (append_assoc before list (all_numbers lists)))
    ∙ found_from (before ++ list) lists (n + length list)
    (ap (λ k. k + length list) at ∙ sym (length-append before list)))

lists_found : (lists : List (List ℕ)) → map (numbers_in (all_numbers lists)) (spans_from 0 lists) ≡ lists
lists_found lists = found_from [] lists 0 refl

-- the list of a number is that of its span
pub list_told : (numbers : List ℕ) (spans : List Span) (place : ℕ)
    → list_at (map (numbers_in numbers) spans) place
    ≡ list_or_none (option_map (numbers_in numbers) (slice_get spans place))
list_told numbers spans place = ap list_or_none (slice_get-map (numbers_in numbers) spans place)

-- so are all, where none is to come
pub all_put : (spans : List Span) (numbers : List ℕ) (rest lists : List (List ℕ)) → length rest < 1
    → spans ++ spans_from (length numbers) rest ≡ spans_from 0 lists → numbers ++ all_numbers rest ≡ all_numbers lists
    → map (numbers_in numbers) spans ≡ lists
all_put spans numbers (list ∷ rest) lists none s n = absurd (omega (arith, none))
all_put spans numbers [] lists none s n =
    ap (λ ns. map (numbers_in ns) spans) (sym (append-nil numbers) ∙ n)
    ∙ (ap (map (numbers_in (all_numbers lists))) (sym (append-nil spans) ∙ s) ∙ lists_found lists)
