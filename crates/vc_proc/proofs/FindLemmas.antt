-- The first element of a list that passes: the first of all, or the first of those after it; and what a look-up does.
use Rattle.std.proofs.Common.{◌≡◌, ℕ, ◌-◌, ◌≤◌, Bool, true, false, cond, List, [], ◌∷◌, length, take, drop, get_or, sym}
use Rattle.std.proofs.Common.{◌∙◌, ap, arith}
use Rattle.std.specs.Prelude.{Some}
use Rattle.std.specs.List.{find}
use Rattle.std.proofs.lemmas.List.{take_all}
use Rattle.vc_plan.specs.declared.plans.Plan.{Plan}
use Rattle.vc_plan.specs.declared.procedures.Action.{Action}
use Rattle.vc_plan.specs.declared.procedures.Action.TheVariants.{LookUp}
use Rattle.vc_plan.specs.declared.procedures.FilledColumn.{FilledColumn}
use Rattle.vc_plan.specs.declared.procedures.KeyTerm.{KeyTerm}
use Rattle.vc_plan.specs.Entries.{Entries}
use Rattle.vc_plan.specs.Readings.{Reading}
use Rattle.vc_plan.specs.Seen.{Seen}
use Rattle.vc_plan.specs.Statements.{Place, acted, has_keys, with_row}
use Rattle.vc_plan.specs.TableRows.{rows_of}

pub find_here : {A : Type 0} (p : A → Bool) (xs : List A) (x y : A) → 1 ≤ length xs → x ≡ get_or xs 0 x → y ≡ x
    → p y ≡ true → find p xs ≡ Some y
find_here p [] x y some is same e = absurd (omega (arith, some))
find_here p (z ∷ xs) x y some is same e =
    let one : z ≡ y = sym is ∙ sym same in
    ap (λ b. cond b (Some z) (find p xs)) (ap p one ∙ e) ∙ ap Some one

pub find_later : {A : Type 0} (p : A → Bool) (xs : List A) (x y : A) → 1 ≤ length xs → x ≡ get_or xs 0 x → y ≡ x
    → p y ≡ false
    → find p (take (length xs - 1) (drop 1 xs)) ≡ find p xs
find_later p [] x y some is same e = absurd (omega (arith, some))
find_later p (z ∷ xs) x y some is same e =
    let more : take (length (z ∷ xs) - 1) xs ≡ xs = take_all (length (z ∷ xs) - 1) xs (omega arith) in
    let one : z ≡ y = sym is ∙ sym same in
    ap (find p) more ∙ sym (ap (λ b. cond b (Some z) (find p xs)) (ap p one ∙ e))

pub looked_up : (plan : Plan) (seen : Seen) (reading : Reading) (place : Place) (action : Action) (table : ℕ)
    (keys ks : List KeyTerm)
    → (filled fs : List FilledColumn) (old new : Entries) → action ≡ LookUp table keys filled → ks ≡ keys → fs ≡ filled
    → new ≡ with_row plan place fs (find (has_keys plan reading ks) (rows_of plan table)) old
    → new ≡ acted plan seen reading place action old
looked_up plan seen reading place action table keys ks filled fs old new is k f e =
    e
    ∙ (ap (λ cs. with_row plan place cs (find (has_keys plan reading ks) (rows_of plan table)) old) f
    ∙ (ap (λ cs. with_row plan place filled (find (has_keys plan reading cs) (rows_of plan table)) old) k
    ∙ sym (ap (λ a. acted plan seen reading place a old) is)))
