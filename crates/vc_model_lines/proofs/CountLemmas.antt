-- Numbers that are cut off at a ceiling.
use Rattle.std.proofs.Common.{◌≡◌, ℕ, ◌+◌, ◌*◌, ◌-◌, ◌<◌, ◌∙◌, ◌&&◌, Some, None, if◌then◌else◌, List, [], ◌∷◌, true}
use Rattle.std.proofs.Common.{false, min, fold, ap, sym, arith, refl}
use Rattle.std.proofs.lemmas.Bool.Decides.{nat_tests}
use Rattle.vc_value.specs.Decimals.{are_digits, number_of}
use Rattle.vc_model_lines.specs.Counts.{is_between, count_in}

-- one digit more, cut off
min_digit : (c n d : ℕ) → min c (min c n * 10 + (d - 48)) ≡ min c (n * 10 + (d - 48))
min_digit c n d = omega arith

-- cutting off at each digit or at the end is the same
fold_cut : (c n : ℕ) (ds : List ℕ)
    → fold (λ n d. min c (n * 10 + (d - 48))) (min c n) ds ≡ min c (fold (λ n d. n * 10 + (d - 48)) n ds)
fold_cut c n [] = refl
fold_cut c n (d ∷ ds) = ap (λ m. fold (λ n d. min c (n * 10 + (d - 48))) m ds) (min_digit c n d)
    ∙ fold_cut c (n * 10 + (d - 48)) ds

-- limits below the ceiling don't see the cut
between_cut : (least most c n : ℕ) → most < c → is_between least most (min c n) ≡ is_between least most n
between_cut least most c n below = grind (arith, nat_tests)

-- what is within the limits isn't cut
within_cut : (least most c n : ℕ) → most < c → is_between least most n ≡ true → min c n ≡ n
within_cut least most c n below between = grind (arith, nat_tests)

-- a word of digits whose number, cut off, lies between the limits, or doesn't
pub counted : (least most c cut : ℕ) (word : List ℕ) → most < c
    → cut ≡ fold (λ n d. min c (n * 10 + (d - 48))) (min c 0) word
    → true ≡ are_digits word → true ≡ is_between least most cut → Some cut ≡ count_in least most word
counted least most c cut word below is digits between =
    let whole : cut ≡ min c (number_of word) = is ∙ fold_cut c 0 word in
    let fits : is_between least most (number_of word) ≡ true =
    sym (between_cut least most c (number_of word) below) ∙ ap (is_between least most) (sym whole) ∙ sym between in
    ap Some (whole ∙ within_cut least most c (number_of word) below fits)
    ∙ sym (ap (λ b. if b then Some (number_of word) else None)
    (ap (λ b. b && is_between least most (number_of word)) (sym digits) ∙ fits))

pub not_counted : (least most c cut : ℕ) (word : List ℕ) → most < c
    → cut ≡ fold (λ n d. min c (n * 10 + (d - 48))) (min c 0) word
    → true ≡ are_digits word → false ≡ is_between least most cut → None ≡ count_in least most word
not_counted least most c cut word below is digits between =
    let whole : cut ≡ min c (number_of word) = is ∙ fold_cut c 0 word in
    let fails : is_between least most (number_of word) ≡ false =
    sym (between_cut least most c (number_of word) below) ∙ ap (is_between least most) (sym whole) ∙ sym between in
    sym (ap (λ b. if b then Some (number_of word) else None)
    (ap (λ b. b && is_between least most (number_of word)) (sym digits) ∙ fails))
