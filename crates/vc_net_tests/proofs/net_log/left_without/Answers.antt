-- The sources are of one variable, of which nothing is written.
use Rattle.std.proofs.Common.{◌≡◌, zero, suc, List, [], ◌∷◌, length, refl, sym, ◌∙◌, ap, arith}
use Rattle.std.specs.Prelude.{Option, None, slice_index_or}
use Rattle.vc_net_log.specs.Differing.{SameBeside}
use Rattle.vc_net_tests.proofs.net_log.left_without.Goals as goal

one_touched : {A : Type 0} (xs ys : List (Option A)) → length xs ≡ 1 → length ys ≡ 1 → SameBeside (0 ∷ []) xs ys
one_touched xs ys one other zero none = absurd (cc none)
one_touched [] ys one other (suc v) none = absurd (omega (arith, one))
one_touched (x ∷ xs) [] one other (suc v) none = absurd (omega (arith, other))
one_touched (x ∷ []) (y ∷ []) one other (suc v) none = refl
one_touched (x ∷ []) (y ∷ (z ∷ ys)) one other (suc v) none = absurd (omega (arith, other))
one_touched (x ∷ (z ∷ xs)) (y ∷ ys) one other (suc v) none = absurd (omega (arith, one))

pub keep_at-requires-clause-touched : goal.keep_at-requires-clause-touched
keep_at-requires-clause-touched g c =
    one_touched c.sources_of-old.result.user c.sources_of-new.result.user c.sources_of-old.ensures.users
    c.sources_of-new.ensures.users

pub keep_at-requires-clause-written : goal.keep_at-requires-clause-written
keep_at-requires-clause-written g c =
    λ v none. ap (λ xs. slice_index_or xs v None)
    (c.sources_of-old.ensures.written ∙ sym c.sources_of-new.ensures.written)
