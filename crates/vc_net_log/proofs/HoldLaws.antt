-- In which grain of a variable a value lies, and whether it is out.
use Rattle.std.proofs.Common.{◌≡◌, ℕ, suc, ◌+◌, add-zero, Bool, true, false, not, ◌&&◌, ◌||◌, List, [], ◌∷◌}
use Rattle.std.proofs.Common.{length, refl}
use Rattle.std.proofs.Common.{sym, ◌∙◌, ap, arith}
use Rattle.std.specs.Prelude.{Option, None, Some, cond, option_to_list, slice_get}
use Rattle.std.specs.List.{filter, list_all, list_any, range_with_len}
use Rattle.vc_value.specs.declared.value.Value.{Value}
use Rattle.vc_plan.specs.declared.conditions.Piece.{Piece}
use Rattle.vc_plan.specs.declared.plans.Plan.{Plan}
use Rattle.vc_plan.specs.Alike.{is_proper}
use Rattle.vc_plan.specs.Domains.{count_of, grains_of, is_grain_with, numbers_below, passes}
use Rattle.vc_plan.specs.Pieces.{lies_in, lies_in_some}
use Rattle.vc_plan.specs.Seen.{Seen}
use Rattle.vc_rule_grains.specs.Finding.{grain_with}
use Rattle.vc_rule_grains.proofs.FindingLemmas.{alone, once_of}
use Rattle.vc_net_log.specs.Coming.{lies_in_left, lies_in_out}

-- some of a list passes where some number does whose element passes
some_from : (test : Piece → Bool) (p : ℕ → Bool) (pieces : List Piece) (a : ℕ)
    → ((g : ℕ) → p (a + g) ≡ passes test (slice_get pieces g))
    → list_any test pieces ≡ list_any p (range_with_len a (length pieces))
some_from test p [] a same = refl
some_from test p (x ∷ pieces) a same =
    ap (λ b. b || list_any test pieces) (sym (ap p (sym (add-zero a)) ∙ same 0))
    ∙ ap (λ b. p a || b) (some_from test p pieces (a + 1) (λ g. ap p (omega arith) ∙ same (suc g)))

-- what passes both of two tests is, of those that pass the first, what passes the second
any_kept : (p q : ℕ → Bool) (gs : List ℕ) → list_any (λ g. p g && q g) gs ≡ list_any q (filter p gs)
any_kept p q [] = refl
any_kept p q (g ∷ gs) = by (p g) (any_kept p q gs)
  where
    by : (b : Bool) → list_any (λ n. p n && q n) gs ≡ list_any q (filter p gs)
        → ((b && q g) || list_any (λ n. p n && q n) gs) ≡ list_any q (cond b (g ∷ filter p gs) (filter p gs))
    by true h = ap (λ c. q g || c) h
    by false h = h

some_kept : (p : ℕ → Bool) (gs : List ℕ) → list_any p gs ≡ list_any (λ g. true) (filter p gs)
some_kept p [] = refl
some_kept p (g ∷ gs) = by (p g) (some_kept p gs)
  where
    by : (b : Bool) → list_any p gs ≡ list_any (λ n. true) (filter p gs)
        → (b || list_any p gs) ≡ list_any (λ n. true) (cond b (g ∷ filter p gs) (filter p gs))
    by true h = refl
    by false h = h

-- whether a grain is there, and not out
abbrev is_left_at : Seen → ℕ → Option ℕ → Bool
is_left_at seen v None = false
is_left_at seen v (Some g) = not (seen.out v g)

-- the one grain in which a value lies tells whether it lies in one that is left alone
pub left_told : (plan : Plan) (seen : Seen) (v : ℕ) (a : Value) → list_all is_proper plan.domains ≡ true
    → (o : Option ℕ) → o ≡ grain_with plan v a → is_left_at seen v o ≡ lies_in_left (grains_of plan v) seen v a
left_told plan seen v a proper o e = by o some out
  where
    kept : filter (is_grain_with plan v (lies_in a)) (numbers_below (count_of plan v)) ≡ option_to_list o
    kept =
        alone (is_grain_with plan v (lies_in a)) (once_of plan v a proper) 0 (count_of plan v)
        ∙ ap option_to_list (sym e)

    some : lies_in_some (grains_of plan v) a ≡ list_any (λ g. true) (option_to_list o)
    some =
        some_from (lies_in a) (is_grain_with plan v (lies_in a)) (grains_of plan v) 0
        (λ g. ap (is_grain_with plan v (lies_in a)) (omega arith))
        ∙ (some_kept (is_grain_with plan v (lies_in a)) (numbers_below (count_of plan v))
        ∙ ap (list_any (λ g. true)) kept)

    out : lies_in_out (grains_of plan v) seen v a ≡ list_any (seen.out v) (option_to_list o)
    out =
        any_kept (is_grain_with plan v (lies_in a)) (seen.out v) (numbers_below (count_of plan v))
        ∙ ap (list_any (seen.out v)) kept

    or_false : (b : Bool) → (b || false) ≡ b
    or_false true = refl
    or_false false = refl

    by : (o : Option ℕ) → lies_in_some (grains_of plan v) a ≡ list_any (λ g. true) (option_to_list o)
        → lies_in_out (grains_of plan v) seen v a ≡ list_any (seen.out v) (option_to_list o)
        → is_left_at seen v o ≡ lies_in_left (grains_of plan v) seen v a
    by None s t = sym (ap (λ b. b && not (lies_in_out (grains_of plan v) seen v a)) s)
    by (Some g) s t =
        sym (ap (λ b. b && not (lies_in_out (grains_of plan v) seen v a)) s ∙ ap not (t ∙ or_false (seen.out v g)))
