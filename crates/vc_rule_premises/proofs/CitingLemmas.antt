-- What is cited in parts is cited together.
use Rattle.std.proofs.Common.{◌≡◌, ℕ, Bool, List, [], ◌∷◌, ◌++◌, refl, sym, ◌∙◌, ap, append_assoc}
use Rattle.vc_plan.specs.declared.atoms.Atom.{Atom}
use Rattle.vc_plan.specs.declared.conditions.Condition.{Condition}
use Rattle.vc_plan.specs.Readings.{net_reading}
use Rattle.vc_plan.specs.Seen.{Seen}
use Rattle.vc_rule_yield.specs.Yielding.{Yielded, cited}
use Rattle.vc_rule_premises.specs.Citing.{cited_all, value_of, values_of}
use Rattle.vc_rule_premises.specs.Deciding.{deciding}

pub cited_append : (y : Yielded) (xs ys : List Atom) → cited_all (cited_all y xs) ys ≡ cited_all y (xs ++ ys)
cited_append y [] ys = refl
cited_append y (x ∷ xs) ys = cited_append (cited y x) xs ys

pub values_append : (seen : Seen) (vs ws : List ℕ) → values_of seen (vs ++ ws) ≡ values_of seen vs ++ values_of seen ws
values_append seen [] ws = refl
values_append seen (v ∷ vs) ws =
    ap (λ rest. value_of seen v ++ rest) (values_append seen vs ws)
    ∙ sym (append_assoc (value_of seen v) (values_of seen vs) (values_of seen ws))

-- first the values of some variables, then those of others
pub cited_values : (y m n : Yielded) (seen : Seen) (vs ws : List ℕ) → m ≡ cited_all y (values_of seen vs)
    → n ≡ cited_all m (values_of seen ws)
    → n ≡ cited_all y (values_of seen (vs ++ ws))
cited_values y m n seen vs ws p q =
    q ∙ (ap (λ z. cited_all z (values_of seen ws)) p
    ∙ (cited_append y (values_of seen vs) (values_of seen ws) ∙ ap (cited_all y) (sym (values_append seen vs ws))))

-- both sides of a condition cited, where both make it so
pub both_cited : (seen : Seen) (y m n : Yielded) (so is : Bool) (left right first second c : Condition)
    → so ≡ is → first ≡ left → second ≡ right
    → deciding (net_reading seen) is c ≡ deciding (net_reading seen) is left ++ deciding (net_reading seen) is right
    → m ≡ cited_all y (values_of seen (deciding (net_reading seen) so first))
    → n ≡ cited_all m (values_of seen (deciding (net_reading seen) so second))
    → n ≡ cited_all y (values_of seen (deciding (net_reading seen) so c))
both_cited seen y m n so is left right first second c e f g h p q =
    let by
    = λ (z : Yielded) (b : Bool) (a : Condition). cited_all z (values_of seen (deciding (net_reading seen) b a)) in
    let one : m ≡ by y is left = p ∙ (ap (λ b. by y b first) e ∙ ap (by y is) f) in
    let two : n ≡ by m is right = q ∙ (ap (λ b. by m b second) e ∙ ap (by m is) g) in
    let all : by y so c ≡ cited_all y
    (values_of seen (deciding (net_reading seen) is left ++ deciding (net_reading seen) is right)) =
    ap (λ b. by y b c) e ∙ ap (λ vs. cited_all y (values_of seen vs)) h in
    cited_values y m n seen (deciding (net_reading seen) is left) (deciding (net_reading seen) is right) one two
    ∙ sym all
