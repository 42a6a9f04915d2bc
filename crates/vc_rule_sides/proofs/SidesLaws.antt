-- What is said of two sides, one after the other.
use Rattle.std.proofs.Common.{◌≡◌, ℕ, Bool, true, false, cond, not, List, [], ◌∷◌, ◌++◌, map, refl, sym, ◌∙◌, ap}
use Rattle.std.specs.Prelude.{Option, None, Some}
use Rattle.std.specs.List.{filter}
use Rattle.vc_base.specs.Rounds.{Given, clash, atoms, is_clash}
use Rattle.vc_value.specs.declared.value.Value.{Value}
use Rattle.vc_plan.specs.declared.atoms.Atom.{Atom}
use Rattle.vc_plan.specs.declared.atoms.Atom.TheVariants.{Out}
use Rattle.vc_plan.specs.declared.conditions.Piece.{Piece}
use Rattle.vc_plan.specs.Domains.{is_restrictable}
use Rattle.vc_plan.specs.declared.conditions.Relation.{Relation}
use Rattle.vc_plan.specs.declared.plans.Plan.{Plan}
use Rattle.vc_plan.specs.Restrictions.{failing, left_with, of_remaining, confined, related}
use Rattle.vc_plan.specs.Seen.{Seen, says}
use Rattle.vc_rule_yield.specs.Yielding.{Yielded}
use Rattle.vc_rule_premises.specs.Saying.{Said, together, conclusion_from, said_from, taken}
use Rattle.vc_rule_premises.proofs.SayingLaws.{conclusions_append}
use Rattle.vc_rule_grains.specs.Confining.{why_confined}
use Rattle.vc_rule_grains.specs.Remaining.{remaining_of}
use Rattle.vc_rule_grains.specs.declared.remaining.Remaining.TheVariants.{One, Several}
use Rattle.vc_rule_sides.specs.Comparing.{may_relate, related_said}

-- what is said of a side is said from one list of premises
abbrev pub related_premises : Plan → Seen → Relation → Option ℕ → List Atom → Option Value → List Atom
related_premises plan seen r None others a = []
related_premises plan seen r (Some v) others None = []
related_premises plan seen r (Some v) others (Some a) = others ++ why_confined plan seen v (may_relate r a)

pub from_premises : (plan : Plan) (seen : Seen) (r : Relation) (v : Option ℕ) (others : List Atom) (a : Option Value)
    → related_said plan seen r v others a
    ≡ said_from seen (related_premises plan seen r v others a) (related plan seen r v a)
from_premises plan seen r None others a = refl
from_premises plan seen r (Some v) others None = refl
from_premises plan seen r (Some v) others (Some a) = refl

-- the first clashes
pub first_clashes : (seen : Seen) (premises : List Atom) (given : Given Atom) (s t : Said)
    → s ≡ said_from seen premises given
    → is_clash given ≡ true → s ≡ together s t
first_clashes seen premises clash s t e c = e ∙ sym (ap (λ z. together z t) e)
first_clashes seen premises (atoms xs) s t e c = absurd (cc)

-- the second alone clashes
pub second_clashes : (seen : Seen) (premises more : List Atom) (given next : Given Atom) (s t : Said)
    → s ≡ said_from seen premises given
    → t ≡ said_from seen more next → is_clash given ≡ false → is_clash next ≡ true → t ≡ together s t
second_clashes seen premises more clash next s t e f c d = absurd (cc)
second_clashes seen premises more (atoms xs) (atoms ys) s t e f c d = absurd (cc)
second_clashes seen premises more (atoms xs) clash s t e f c d =
    f ∙ sym (ap (λ z. together z t) e ∙ ap (together (said_from seen premises (atoms xs))) f)

-- none clashes
pub none_clashes : (seen : Seen) (premises more : List Atom) (given next : Given Atom) (s t : Said) (y : Yielded)
    → s ≡ said_from seen premises given
    → t ≡ said_from seen more next → is_clash given ≡ false → is_clash next ≡ false
    → taken (taken y s) t ≡ taken y (together s t)
none_clashes seen premises more clash next s t y e f c d = absurd (cc)
none_clashes seen premises more (atoms xs) clash s t y e f c d = absurd (cc)
none_clashes seen premises more (atoms xs) (atoms ys) s t y e f c d =
    ap (λ z. taken (taken y z) t) e
    ∙ (ap (taken (taken y (said_from seen premises (atoms xs)))) f
    ∙ (conclusions_append y (map (conclusion_from premises) (filter (λ a. not (says seen a)) xs))
    (map (conclusion_from more) (filter (λ a. not (says seen a)) ys))
    ∙ sym (ap (λ z. taken y (together z t)) e ∙ ap (λ z. taken y (together (said_from seen premises (atoms xs)) z)) f)))

-- where a grain is left that passes, nothing is ruled out
pub one_is_left : (plan : Plan) (seen : Seen) (v : ℕ) (test : Piece → Bool) (g : ℕ) → is_restrictable plan v ≡ false
    → remaining_of (left_with plan seen v test) ≡ One g → false ≡ is_clash (confined plan seen v test)
one_is_left plan seen v test g r e = by (left_with plan seen v test) refl e
  where
    outs : List Atom
    outs = map (Out v) (failing plan v test)

    by : (gs : List ℕ) → left_with plan seen v test ≡ gs → remaining_of gs ≡ One g
        → false ≡ is_clash (confined plan seen v test)
    by [] k q = absurd (cc)
    by (h ∷ []) k q = sym
        (ap (λ b. is_clash (cond b (atoms outs) (of_remaining plan v (left_with plan seen v test)))) r
        ∙ ap (λ gs. is_clash (of_remaining plan v gs)) k)
    by (h ∷ (i ∷ more)) k q = absurd (cc)

pub several_are_left : (plan : Plan) (seen : Seen) (v : ℕ) (test : Piece → Bool) → is_restrictable plan v ≡ false
    → remaining_of (left_with plan seen v test) ≡ Several → false ≡ is_clash (confined plan seen v test)
several_are_left plan seen v test r e = by (left_with plan seen v test) refl e
  where
    outs : List Atom
    outs = map (Out v) (failing plan v test)

    by : (gs : List ℕ) → left_with plan seen v test ≡ gs → remaining_of gs ≡ Several
        → false ≡ is_clash (confined plan seen v test)
    by [] k q = absurd (cc)
    by (h ∷ []) k q = absurd (cc)
    by (h ∷ (i ∷ more)) k q =
        sym (ap (λ b. is_clash (cond b (atoms outs) (of_remaining plan v (left_with plan seen v test)))) r
        ∙ ap (λ gs. is_clash (of_remaining plan v gs)) k)
