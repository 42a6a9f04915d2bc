-- What is concluded one by one is concluded together.
use Rattle.std.proofs.Common.{◌≡◌, ℕ, ◌+◌, ◌-◌, ◌<◌, ◌≤◌, Bool, true, false, cond, not, ◌&&◌, List, [], ◌∷◌}
use Rattle.std.proofs.Common.{◌++◌, length, take, drop, get_or, map, refl, sym, ◌∙◌, ap, arith}
use Rattle.std.specs.Prelude.{None, Option, Some, flat_map, if◌then◌else◌, slice_get}
use Rattle.std.specs.List.{filter, list_any, range_with_len}
use Rattle.std.proofs.lemmas.Bool.{or_parts}
use Rattle.std.proofs.lemmas.Grind.{flat_map-append}
use Rattle.std.proofs.lemmas.List.{map-append, take_all}
use Rattle.std.proofs.lemmas.List.Elements.{filter-append}
use Rattle.vc_base.proofs.RangeLaws.{range_next}
use Rattle.vc_value.specs.declared.value.Value.{Value}
use Rattle.vc_plan.specs.declared.atoms.Atom.{Atom}
use Rattle.vc_plan.specs.declared.atoms.Atom.TheVariants.{Is}
use Rattle.vc_plan.specs.declared.plans.Plan.{Plan}
use Rattle.vc_plan.specs.declared.rules.Binding.{Binding}
use Rattle.vc_plan.specs.Answers.{value_atoms}
use Rattle.vc_plan.specs.Domains.{domain_of, grains_in, numbers_below}
use Rattle.vc_plan.specs.Seen.{Seen, says}
use Rattle.vc_plan.specs.TableRows.{has_grain, missing_grains, value_if}
use Rattle.vc_rule_yield.specs.Yielding.{Conclusion, Yielded}
use Rattle.vc_rule_premises.specs.Citing.{cited_all}
use Rattle.vc_rule_premises.specs.Saying.{take_conclusions}
use Rattle.vc_rule_premises.proofs.CitingLemmas.{cited_append}
use Rattle.vc_rule_premises.proofs.SayingLaws.{conclusions_append}
use Rattle.vc_rule_table.specs.TableSaid.{new_conclusions}

-- what is cited for the first of those that pass, and then for those after it
pub cited_those : {A : Type 0} (p : A → Bool) (f : A → List Atom) (y m : Yielded) (rest : List A) (x : A)
    → 1 ≤ length rest → x ≡ get_or rest 0 x
    → m ≡ cited_all y (flat_map f (filter p (x ∷ [])))
    → cited_all m (flat_map f (filter p (take (length rest - 1) (drop 1 rest))))
    ≡ cited_all y (flat_map f (filter p rest))
cited_those p f y m [] x some is e = absurd (omega arith)
cited_those p f y m (z ∷ rest) x some is e =
    let more : take (length (z ∷ rest) - 1) rest ≡ rest = take_all (length (z ∷ rest) - 1) rest (omega arith) in
    let split : flat_map f (filter p (z ∷ rest)) ≡ flat_map f (filter p (z ∷ [])) ++ flat_map f (filter p rest) =
    ap (flat_map f) (filter-append p (z ∷ []) rest) ∙ flat_map-append f (filter p (z ∷ [])) (filter p rest) in
    ap (λ xs. cited_all m (flat_map f (filter p xs))) more
    ∙ (ap (λ w. cited_all w (flat_map f (filter p rest)))
    (e ∙ ap (λ w. cited_all y (flat_map f (filter p (w ∷ [])))) is)
    ∙ (cited_append y (flat_map f (filter p (z ∷ []))) (flat_map f (filter p rest)) ∙ ap (cited_all y) (sym split)))

-- what is concluded of the first of some numbers that pass, and then of those after it
pub concluded_number : (seen : Seen) (f : ℕ → Conclusion) (p : ℕ → Bool) (y m : Yielded) (g n : ℕ) → g < n
    → m ≡ take_conclusions y (new_conclusions seen (map f (filter p (g ∷ []))))
    → take_conclusions m (new_conclusions seen (map f (filter p (range_with_len (g + 1) (n - (g + 1))))))
    ≡ take_conclusions y (new_conclusions seen (map f (filter p (range_with_len g (n - g)))))
concluded_number seen f p y m g n below e =
    let new = new_conclusions seen in
    let rest = range_with_len (g + 1) (n - (g + 1)) in
    let numbers : filter p (range_with_len g (n - g)) ≡ filter p (g ∷ []) ++ filter p rest =
    ap (filter p) (range_next g n below) ∙ filter-append p (g ∷ []) rest in
    let split : new (map f (filter p (range_with_len g (n - g))))
    ≡ new (map f (filter p (g ∷ []))) ++ new (map f (filter p rest)) =
    ap (λ gs. new (map f gs)) numbers
    ∙ (ap new (map-append f (filter p (g ∷ [])) (filter p rest))
    ∙ filter-append (λ conclusion. not (says seen conclusion.atom)) (map f (filter p (g ∷ [])))
    (map f (filter p rest))) in
    ap (λ w. take_conclusions w (new (map f (filter p rest)))) e
    ∙ (conclusions_append y (new (map f (filter p (g ∷ [])))) (new (map f (filter p rest)))
    ∙ ap (take_conclusions y) (sym split))

-- what is concluded for the first variable that passes, and then for those after it
pub concluded_first : (p : ℕ → Bool) (f : ℕ → List Conclusion) (y m : Yielded) (rest : List ℕ) → 1 ≤ length rest
    → m ≡ take_conclusions y (flat_map f (filter p (get_or rest 0 0 ∷ [])))
    → take_conclusions m (flat_map f (filter p (take (length rest - 1) (drop 1 rest))))
    ≡ take_conclusions y (flat_map f (filter p rest))
concluded_first p f y m [] some e = absurd (omega arith)
concluded_first p f y m (x ∷ rest) some e =
    let more : take (length (x ∷ rest) - 1) rest ≡ rest = take_all (length (x ∷ rest) - 1) rest (omega arith) in
    let split : flat_map f (filter p (x ∷ rest)) ≡ flat_map f (filter p (x ∷ [])) ++ flat_map f (filter p rest) =
    ap (flat_map f) (filter-append p (x ∷ []) rest) ∙ flat_map-append f (filter p (x ∷ [])) (filter p rest) in
    ap (λ xs. take_conclusions m (flat_map f (filter p xs))) more
    ∙ (ap (λ w. take_conclusions w (flat_map f (filter p rest))) e
    ∙ (conclusions_append y (flat_map f (filter p (x ∷ []))) (flat_map f (filter p rest))
    ∙ ap (take_conclusions y) (sym split)))

-- a variable that isn't there misses no grain
pub nothing_missing : (plan : Plan) (v : ℕ) (own : List Binding) (rows : List (List Value))
    → domain_of plan (slice_get plan.vars v) ≡ None
    → missing_grains plan v own rows ≡ []
nothing_missing plan v own rows e =
    ap (λ o. filter (λ g. not (list_any (has_grain plan v own g) rows)) (numbers_below (length (grains_in o)))) e

-- where no grain is newly missing nothing is concluded
pub none_newly : (seen : Seen) (v : ℕ) (out : ℕ → Bool) (missing : ℕ → Bool) (f : ℕ → Conclusion)
    → ((g : ℕ) → not (says seen (f g).atom) ≡ not (out g)) → (gs : List ℕ)
    → list_any (λ g. not (out g) && missing g) gs ≡ false
    → new_conclusions seen (map f (filter missing gs)) ≡ []
none_newly seen v out missing f is [] e = refl
none_newly seen v out missing f is (g ∷ gs) e =
    let parts = or_parts (not (out g) && missing g) (list_any (λ h. not (out h) && missing h) gs) e in
    by (missing g) (not (out g)) (is g) parts.0 (none_newly seen v out missing f is gs parts.1)
  where
    by : (b c : Bool) → not (says seen (f g).atom) ≡ c → (c && b) ≡ false
        → new_conclusions seen (map f (filter missing gs)) ≡ []
        → new_conclusions seen (map f (cond b (g ∷ filter missing gs) (filter missing gs))) ≡ []
    by false c s none later = later
    by true true s none later = absurd (cc)
    by true false s none later =
        ap (λ b. cond b (f g ∷ new_conclusions seen (map f (filter missing gs)))
        (new_conclusions seen (map f (filter missing gs)))) s
        ∙ later

-- a cell that is asked first whether it is new, and then whether it passes
pub new_first : (passes : Value → Bool) (new : Atom → Bool) (v : ℕ) (cell asked : Option Value)
    → value_atoms v asked ≡ filter new (value_atoms v cell)
    → value_if passes v asked ≡ filter new (value_if passes v cell)
new_first passes new v None None e = refl
new_first passes new v None (Some b) e = absurd (cc)
new_first passes new v (Some a) asked e = by (new (Is v a)) refl asked e
  where
    by : (b : Bool) → new (Is v a) ≡ b → (o : Option Value)
        → value_atoms v o ≡ (if b then Is v a ∷ [] else [])
        → value_if passes v o ≡ filter new (value_if passes v (Some a))
    by true is None e = absurd (cc)
    by true is (Some b) e =
        let same : b ≡ a = cc in
        ap (λ x. value_if passes v (Some x)) same ∙ kept (passes a)
      where
        kept : (c : Bool) → (if c then Is v a ∷ [] else []) ≡ filter new (if c then Is v a ∷ [] else [])
        kept true = sym (ap (λ d. if d then Is v a ∷ [] else []) is)
        kept false = refl
    by false is None e = dropped (passes a)
      where
        dropped : (c : Bool) → [] ≡ filter new (if c then Is v a ∷ [] else [])
        dropped true = sym (ap (λ d. if d then Is v a ∷ [] else []) is)
        dropped false = refl
    by false is (Some b) e = absurd (cc)
