-- What a comparison and an equation say, without what it follows from, is what they give.
use Rattle.std.proofs.Common.{◌≡◌, true, false, not, List, [], ◌∷◌, ◌++◌, map, refl, sym, ◌∙◌, ap}
use Rattle.std.specs.Prelude.{min, ◌&&◌, is_none}
use Rattle.std.specs.List.{filter}
use Rattle.std.proofs.lemmas.List.{map-append}
use Rattle.std.proofs.lemmas.List.Elements.{filter-append}
use Rattle.vc_base.specs.Rounds.{Given, clash, atoms}
use Rattle.vc_plan.specs.declared.atoms.Atom.{Atom}
use Rattle.vc_plan.specs.Answers.{beside, clash_if, fresh}
use Rattle.vc_plan.specs.Kleene.{is_false}
use Rattle.vc_plan.specs.Pieces.{turned}
use Rattle.vc_plan.specs.Readings.{net_reading}
use Rattle.vc_plan.specs.Restrictions.{related, lone, lone_inferred, equal_to, decimals_in_side, differ}
use Rattle.vc_plan.specs.Seen.{Seen, says}
use Rattle.vc_plan.specs.Truth.{compared, value_at}
use Rattle.vc_rule_yield.specs.Yielding.{Conclusion}
use Rattle.vc_rule_premises.specs.Saying.{Said, together, clash_when, conclusion_from, said_from, given_of}
use Rattle.vc_rule_sides.specs.Comparing.{values_in, related_said}
use Rattle.vc_rule_sides.specs.Laws.{CompareIsSaid, EquateIsSaid}
use Rattle.vc_rule_sides.proofs.SidesLaws.{related_premises, from_premises}

atoms_kept : (premises xs : List Atom) → map (λ (c : Conclusion). c.atom) (map (conclusion_from premises) xs) ≡ xs
atoms_kept premises [] = refl
atoms_kept premises (x ∷ xs) = ap (λ ys. x ∷ ys) (atoms_kept premises xs)

-- two that are said together are given beside each other
given_together : (seen : Seen) (premises more : List Atom) (given next : Given Atom) (s t : Said)
    → s ≡ said_from seen premises given → t ≡ said_from seen more next
    → given_of (together s t) ≡ fresh seen (beside given next)
given_together seen premises more clash next s t e f = ap (λ z. given_of (together z t)) e
given_together seen premises more (atoms xs) clash s t e f =
    ap (λ z. given_of (together z t)) e ∙ ap (λ z. given_of (together (said_from seen premises (atoms xs)) z)) f
given_together seen premises more (atoms xs) (atoms ys) s t e f =
    let new = λ (zs : List Atom). filter (λ a. not (says seen a)) zs in
    ap (λ z. given_of (together z t)) e
    ∙ (ap (λ z. given_of (together (said_from seen premises (atoms xs)) z)) f
    ∙ ap atoms (map-append (λ (c : Conclusion). c.atom) (map (conclusion_from premises) (new xs))
    (map (conclusion_from more) (new ys))
    ∙ (ap (λ zs. zs ++ map (λ (c : Conclusion). c.atom) (map (conclusion_from more) (new ys)))
    (atoms_kept premises (new xs))
    ∙ (ap (λ zs. new xs ++ zs) (atoms_kept more (new ys)) ∙ sym (filter-append (λ a. not (says seen a)) xs ys)))))

pub compare_is_said : CompareIsSaid
compare_is_said plan seen rule r a b =
    let first = value_at plan (net_reading seen) a in
    let second = value_at plan (net_reading seen) b in
    let v = lone_inferred plan rule a in
    let w = lone_inferred plan rule b in
    let p = related_premises plan seen r v (values_in plan seen b) second in
    let q = related_premises plan seen (turned r) w (values_in plan seen a) first in
    elim (is_false (compared r first second)) as (λ c.
    given_of (clash_when c (values_in plan seen a ++ values_in plan seen b)
    (together (related_said plan seen r v (values_in plan seen b) second)
    (related_said plan seen (turned r) w (values_in plan seen a) first)))
    ≡ fresh seen (clash_if c (beside (related plan seen r v second) (related plan seen (turned r) w first)))) [
      | true ↦ refl
      | false ↦ given_together seen p q (related plan seen r v second) (related plan seen (turned r) w first)
          (related_said plan seen r v (values_in plan seen b) second)
          (related_said plan seen (turned r) w (values_in plan seen a) first)
          (from_premises plan seen r v (values_in plan seen b) second)
          (from_premises plan seen (turned r) w (values_in plan seen a) first)
    ]

pub equate_is_said : EquateIsSaid
equate_is_said plan seen rule a b =
    let first = value_at plan (net_reading seen) a in
    let second = value_at plan (net_reading seen) b in
    let v = lone_inferred plan rule a in
    let w = lone_inferred plan rule b in
    let decimals = min (decimals_in_side plan (lone plan a)) (decimals_in_side plan (lone plan b)) in
    let of_a = said_from seen (values_in plan seen b) (equal_to plan v second) in
    let of_b = said_from seen (values_in plan seen a) (equal_to plan w first) in
    elim ((is_none v && is_none w) && differ decimals first second) as (λ c.
    given_of (clash_when c (values_in plan seen a ++ values_in plan seen b) (together of_a of_b))
    ≡ fresh seen (clash_if c (beside (equal_to plan v second) (equal_to plan w first)))) [
      | true ↦ refl
      | false ↦ given_together seen (values_in plan seen b) (values_in plan seen a) (equal_to plan v second)
          (equal_to plan w first) of_a of_b refl refl
    ]
