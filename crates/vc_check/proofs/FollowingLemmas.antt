-- What a valid plan lets the checker do, and which steps follow.
use Rattle.std.proofs.Common.{◌≡◌, ◌≤◌, Bool, true, false, ◌&&◌, List, [], length, refl, sym}
use Rattle.std.proofs.Common.{◌∙◌, ap, subst, arith}
use Rattle.std.specs.Prelude.{nat_eq, nat_lt, Option, None, is_none}
use Rattle.std.proofs.lemmas.Bool.{leb-true, ltb-true}
use Rattle.vc_base.specs.Rounds.{atoms_of}
use Rattle.vc_base.specs.Sets.{has}
use Rattle.vc_base.proofs.ListLaws.{number_exact, number_itself, range_has}
use Rattle.vc_base.proofs.SetLaws.{all_at}
use Rattle.vc_plan.specs.declared.atoms.Atom.{Atom}
use Rattle.vc_plan.specs.declared.atoms.Atom.TheVariants.{Is}
use Rattle.vc_plan.specs.declared.atoms.Step.{Step}
use Rattle.vc_plan.specs.declared.plans.Plan.{Plan}
use Rattle.vc_plan.specs.Clear.{is_clear}
use Rattle.vc_plan.specs.Domains.{atom_count, count_of, numbers_below}
use Rattle.vc_plan.specs.Gives.{Giver}
use Rattle.vc_plan.specs.Seen.{Seen, same_atom, seen_of}
use Rattle.vc_plan.specs.Sources.{Sources}
use Rattle.vc_plan.specs.Valid.{IsValid}
use Rattle.vc_plan.proofs.PlanLaws.Counts.{vars_within}
use Rattle.vc_plan.proofs.PlanLaws.Extending.{value_has}
use Rattle.vc_plan.proofs.PlanLaws.Facts.{Facts, facts}
use Rattle.vc_plan_reasons.specs.Checking.{are_of, first_refused_step, follows, given_by, is_accepted, set_with}
use Rattle.vc_plan_reasons.specs.Checking.{giver_of, things_read}
use Rattle.vc_plan_reasons.proofs.ReasonLaws.Closed.{accepted_unrefused}
use Rattle.vc_plan_values.specs.Computing.{LiesInGrains}
use Rattle.vc_check.specs.Citing.{CanCheck}

pub can_check : (plan : Plan) → IsValid plan → CanCheck plan
can_check plan valid = record {
  fit = record {
    domains_there = valid.domains_there;
    conditions_there = valid.conditions_there;
    terms_there = valid.terms_there;
    conditions_small = valid.conditions_small;
    terms_small = valid.terms_small;
  };
  few = let most : atom_count plan ≤ 40_000 = leb-true (atom_count plan) 40_000 valid.atom_limit in
      omega (arith, most);
  rules = let most : length plan.rules ≤ 20_000 = leb-true (length plan.rules) 20_000 valid.rule_limit in
      omega (arith, most);
  vars =
      let most : atom_count plan ≤ 40_000 = leb-true (atom_count plan) 40_000 valid.atom_limit in
      let within = vars_within plan (length plan.vars) in
      omega (arith, most, within);
  grains = λ v below.
      ltb-true 0 (count_of plan v)
      (all_at nat_eq number_exact number_itself (λ w. nat_lt 0 (count_of plan w)) (numbers_below (length plan.vars)) v
      valid.some_grain (range_has 0 (length plan.vars) v (omega arith) (omega (arith, below))));
}

-- the values that a clear set says lie in grains
pub clear_lies : (plan : Plan) (set : List Atom) (seen : Seen) → seen ≡ seen_of set → is_clear plan set ≡ true
    → LiesInGrains plan seen
clear_lies plan set seen is clear =
    subst (LiesInGrains plan) (sym is)
    (λ v a e. let f : Facts plan set = facts plan set clear in f.named (Is v a) (value_has set v a e))

-- a step follows just where it follows by its giver
pub by_giver : (plan : Plan) (sources : Sources) (step : Step) (set premises : List Atom) (o : Option Giver)
    → giver_of sources step ≡ o → set ≡ set_with premises
    → follows plan sources step premises
    ≡ ((is_clear plan set && are_of (things_read plan o) premises)
    && has same_atom (atoms_of (given_by plan sources o set)) step.conclusion)
by_giver plan sources step set premises o e is =
    ap (λ g. (is_clear plan (set_with premises) && are_of (things_read plan g) premises)
    && has same_atom (atoms_of (given_by plan sources g (set_with premises))) step.conclusion) e
    ∙ ap (λ s. (is_clear plan s && are_of (things_read plan o) premises)
    && has same_atom (atoms_of (given_by plan sources o s)) step.conclusion) (sym is)

none_and : (b : Bool) → (b && false) ≡ false
none_and true = refl
none_and false = refl

pub by_nobody : (plan : Plan) (sources : Sources) (step : Step) (premises : List Atom)
    → giver_of sources step ≡ None → false ≡ follows plan sources step premises
by_nobody plan sources step premises e =
    sym (by_giver plan sources step (set_with premises) premises None e refl
    ∙ none_and (is_clear plan (set_with premises) && are_of [] premises))

pub unrefused : (plan : Plan) (sources : Sources) (steps : List Step)
    → is_none (first_refused_step plan sources steps) ≡ is_accepted plan sources steps
unrefused plan sources steps = sym (accepted_unrefused plan sources steps)
