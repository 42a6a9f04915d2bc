-- All givers are those of each sort.
use Rattle.std.proofs.Common.{◌≡◌, ℕ, Bool, true, false, ◌&&◌, List, [], ◌∷◌, ◌++◌, length, map, refl, sym, ◌∙◌, ap}
use Rattle.std.specs.Prelude.{is_none, Option, None, Some}
use Rattle.std.specs.Option.{is_some}
use Rattle.std.specs.List.{list_all}
use Rattle.vc_plan.specs.declared.atoms.Atom.{Atom}
use Rattle.vc_plan.specs.declared.atoms.Step.{Step}
use Rattle.vc_plan.specs.declared.plans.Plan.{Plan}
use Rattle.vc_plan.specs.Domains.{numbers_below}
use Rattle.vc_plan.specs.Gives.{Giver, by_rule, by_user, by_entry, gives}
use Rattle.vc_plan.specs.Seen.{seen_of}
use Rattle.vc_plan.specs.Sources.{Sources}
use Rattle.vc_plan_reasons.specs.Checking.{concluded, first_refused_step, is_accepted, is_silent, is_whole, set_with}
use Rattle.vc_check.specs.declared.settling.Family.TheVariants.{Rules, Users, Entries}
use Rattle.vc_check.specs.Families.{all_are_silent, is_closed, is_silent_in}
use Rattle.vc_check.proofs.FollowingLemmas.{unrefused}

all_two : (p : Giver → Bool) (xs ys : List Giver) → list_all p (xs ++ ys) ≡ (list_all p xs && list_all p ys)
all_two p [] ys = refl
all_two p (x ∷ xs) ys = ap (λ b. p x && b) (all_two p xs ys) ∙ by (p x) (list_all p xs) (list_all p ys)
  where
    by : (b c d : Bool) → (b && (c && d)) ≡ ((b && c) && d)
    by true c d = refl
    by false c d = refl

all_mapped : (p : Giver → Bool) (f : ℕ → Giver) (ns : List ℕ) → list_all p (map f ns) ≡ list_all (λ n. p (f n)) ns
all_mapped p f [] = refl
all_mapped p f (n ∷ ns) = ap (λ b. p (f n) && b) (all_mapped p f ns)

pub families : (plan : Plan) (sources : Sources) (set : List Atom)
    → all_are_silent plan sources set
    ≡ (list_all (is_silent_in plan sources Rules set) (numbers_below (length plan.rules))
    && (list_all (is_silent_in plan sources Users set) (numbers_below (length plan.vars))
    && list_all (is_silent_in plan sources Entries set) (numbers_below (length plan.vars))))
families plan sources set =
    let p : Giver → Bool = λ giver. is_silent (gives plan sources giver (seen_of set)) in
    let rules = map by_rule (numbers_below (length plan.rules)) in
    let users = map by_user (numbers_below (length plan.vars)) in
    let entries = map by_entry (numbers_below (length plan.vars)) in
    all_two p rules (users ++ entries)
    ∙ (ap (λ b. b && list_all p (users ++ entries)) (all_mapped p by_rule (numbers_below (length plan.rules)))
    ∙ ap (λ b. list_all (λ n. p (by_rule n)) (numbers_below (length plan.rules)) && b)
    (all_two p users entries
    ∙ (ap (λ b. b && list_all p entries) (all_mapped p by_user (numbers_below (length plan.vars)))
    ∙ ap (λ b. list_all (λ n. p (by_user n)) (numbers_below (length plan.vars)) && b)
    (all_mapped p by_entry (numbers_below (length plan.vars))))))

-- a list that isn't refused is whole just where what it concludes is closed
pub unrefused_if : (o : Option ℕ) (b : Bool) → is_none o ≡ b → is_some o ≡ true → b ≡ false
unrefused_if None b e f = absurd (cc)
unrefused_if (Some n) b e f = sym e

pub accepted_if : (o : Option ℕ) (b : Bool) → is_none o ≡ b → is_some o ≡ false → b ≡ true
accepted_if None b e f = sym e
accepted_if (Some n) b e f = absurd (cc)

pub not_whole : (plan : Plan) (sources : Sources) (list : List Step)
    → is_some (first_refused_step plan sources list) ≡ true
    → false ≡ is_whole plan sources list
not_whole plan sources list e =
    ap (λ b. b && is_closed plan sources (set_with (concluded list)))
    (sym (unrefused_if (first_refused_step plan sources list) (is_accepted plan sources list)
    (unrefused plan sources list) e))

pub whole_closed : (plan : Plan) (sources : Sources) (list : List Step)
    → is_some (first_refused_step plan sources list) ≡ false
    → is_closed plan sources (set_with (concluded list)) ≡ is_whole plan sources list
whole_closed plan sources list e =
    ap (λ b. b && is_closed plan sources (set_with (concluded list)))
    (sym (accepted_if (first_refused_step plan sources list) (is_accepted plan sources list)
    (unrefused plan sources list) e))

pub ruleset wholeness = (not_whole, whole_closed)
