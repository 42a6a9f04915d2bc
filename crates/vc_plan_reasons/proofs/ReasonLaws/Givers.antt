-- What gives something is a giver of the plan, and an accepted step's conclusion is given by one.
use Rattle.std.proofs.Common.{◌≡◌, ℕ, zero, suc, ◌+◌, ◌<◌, ◌≤◌, true, cond, ◌&&◌, ◌⊎◌, List, ◌++◌, length, map, refl}
use Rattle.std.proofs.Common.{sym, ap, ◌∙◌, inl, inr, arith}
use Rattle.std.specs.Prelude.{Option, None, Some, slice_get}
use Rattle.std.specs.List.{range_with_len}
use Rattle.std.proofs.lemmas.Bool.{and_parts, ltb-true, cases_lt}
use Rattle.vc_base.specs.Rounds.{Given, is_clash, atoms_of}
use Rattle.vc_base.specs.Sets.{has}
use Rattle.vc_base.proofs.ChainLaws.{IsGiven, get_below}
use Rattle.vc_base.proofs.SetLaws.{both, has_first}
use Rattle.vc_base.proofs.Settling.{IsIn, in_front, in_back, in_map}
use Rattle.vc_plan.specs.declared.atoms.Atom.{Atom}
use Rattle.vc_plan.specs.declared.atoms.Atom.TheVariants.{Here}
use Rattle.vc_plan.specs.declared.atoms.Step.{Step}
use Rattle.vc_plan.specs.declared.plans.Plan.{Plan}
use Rattle.vc_plan.specs.declared.plans.Var.{Var}
use Rattle.vc_plan.specs.declared.rules.Rule.{Rule}
use Rattle.vc_plan.specs.Answers.{nothing, fresh}
use Rattle.vc_plan.specs.Clear.{is_clear}
use Rattle.vc_plan.specs.Domains.{numbers_below}
use Rattle.vc_plan.specs.Gives.{Giver, by_rule, by_user, by_entry, value_says, entry_says, rule_says, gives, givers_of}
use Rattle.vc_plan.specs.Seen.{Seen, same_atom, seen_of, slot_in, is_slot_here}
use Rattle.vc_plan.specs.Settle.{system_of, base}
use Rattle.vc_plan.specs.Sources.{Sources, user_of, entry_of}
use Rattle.vc_plan.proofs.PlanLaws.Atoms.{atom_exact, atom_itself}
use Rattle.vc_plan.proofs.PlanLaws.Facts.{Facts, facts}
use Rattle.vc_plan.proofs.PlanLaws.Givers.{system_laws}
use Rattle.vc_plan_reasons.specs.Checking.{are_of, follows, given_by, giver_of, set_with, step_form, things_read}

-- a number is in a range between its ends
in_range : (a n g : ℕ) → a ≤ g → g < a + n → IsIn g (range_with_len a n)
in_range a zero g low high = absurd (omega arith)
in_range a (suc n) g low high =
    elim (cases_lt a g) [
      | inl below ↦ inr (in_range (a + 1) n g (omega arith) (omega arith))
      | inr same ↦ inl (omega arith)
    ]

in_numbers : (n g : ℕ) → g < n → IsIn g (numbers_below n)
in_numbers n g below = in_range 0 n g (omega arith) (omega arith)

-- a rule that isn't there gives nothing, nor does a source of a variable that isn't
rule_there : (plan : Plan) (seen : Seen) (r : ℕ) (o : Option Rule) → slice_get plan.rules r ≡ o
    → (fresh seen (rule_says plan seen o) ≡ nothing → ⊥)
    → r < length plan.rules
rule_there plan seen r None e f = absurd (f refl)
rule_there plan seen r (Some rule) e f = get_below plan.rules r rule e

var_there : (plan : Plan) (seen : Seen) (v : ℕ) (said : Given Atom) (o : Option Var) → slice_get plan.vars v ≡ o
    → (fresh seen (cond (is_slot_here seen (slot_in o)) said nothing) ≡ nothing → ⊥) → v < length plan.vars
var_there plan seen v said None e f = absurd (f refl)
var_there plan seen v said (Some x) e f = get_below plan.vars v x e

-- what gives something is a giver of the plan
giver_in : (plan : Plan) (sources : Sources) (giver : Giver) (seen : Seen)
    → (gives plan sources giver seen ≡ nothing → ⊥)
    → IsIn giver (givers_of plan)
giver_in plan sources (by_rule r) seen f =
    in_front (by_rule r) (map by_rule (numbers_below (length plan.rules)))
    (map by_user (numbers_below (length plan.vars)) ++ map by_entry (numbers_below (length plan.vars)))
    (in_map by_rule r (numbers_below (length plan.rules))
    (in_numbers (length plan.rules) r (rule_there plan seen r (slice_get plan.rules r) refl f)))
giver_in plan sources (by_user v) seen f =
    let vars = numbers_below (length plan.vars) in
    in_back (by_user v) (map by_rule (numbers_below (length plan.rules))) (map by_user vars ++ map by_entry vars)
    (in_front (by_user v) (map by_user vars) (map by_entry vars)
    (in_map by_user v vars
    (in_numbers (length plan.vars) v
    (var_there plan seen v (value_says v (user_of sources v)) (slice_get plan.vars v) refl f))))
giver_in plan sources (by_entry v) seen f =
    let vars = numbers_below (length plan.vars) in
    in_back (by_entry v) (map by_rule (numbers_below (length plan.rules))) (map by_user vars ++ map by_entry vars)
    (in_back (by_entry v) (map by_user vars) (map by_entry vars)
    (in_map by_entry v vars
    (in_numbers (length plan.vars) v
    (var_there plan seen v (entry_says v (entry_of sources v)) (slice_get plan.vars v) refl f))))

-- so is what clashes, and what gives an atom
not_nothing_clash : (x : Given Atom) → is_clash x ≡ true → x ≡ nothing → ⊥
not_nothing_clash x h e = both h (ap is_clash e)

not_nothing_atom : (x : Given Atom) (a : Atom) → has same_atom (atoms_of x) a ≡ true → x ≡ nothing → ⊥
not_nothing_atom x a h e = both h (ap (λ y. has same_atom (atoms_of y) a) e)

pub clashing_in : (plan : Plan) (sources : Sources) (giver : Giver) (set : List Atom)
    → is_clash (gives plan sources giver (seen_of set)) ≡ true
    → IsIn giver (givers_of plan)
clashing_in plan sources giver set h =
    giver_in plan sources giver (seen_of set) (not_nothing_clash (gives plan sources giver (seen_of set)) h)

pub giving_in : (plan : Plan) (sources : Sources) (giver : Giver) (set : List Atom) (a : Atom)
    → has same_atom (atoms_of (gives plan sources giver (seen_of set))) a ≡ true → IsIn giver (givers_of plan)
giving_in plan sources giver set a h =
    giver_in plan sources giver (seen_of set) (not_nothing_atom (gives plan sources giver (seen_of set)) a h)

-- the variable of a source that gives something is one of the plan
pub giver_var_there : (plan : Plan) (sources : Sources) (giver : Giver) (v : ℕ)
    → (giver ≡ by_user v) ⊎ (giver ≡ by_entry v)
    → (set : List Atom) (a : Atom)
    → has same_atom (atoms_of (gives plan sources giver (seen_of set))) a ≡ true → v < length plan.vars
giver_var_there plan sources giver v (inl e) set a h =
    let given : has same_atom (atoms_of (gives plan sources (by_user v) (seen_of set))) a ≡ true
    = ap (λ g. has same_atom (atoms_of (gives plan sources g (seen_of set))) a) (sym e) ∙ h in
    var_there plan (seen_of set) v (value_says v (user_of sources v)) (slice_get plan.vars v) refl
    (not_nothing_atom (gives plan sources (by_user v) (seen_of set)) a given)
giver_var_there plan sources giver v (inr e) set a h =
    let given : has same_atom (atoms_of (gives plan sources (by_entry v) (seen_of set))) a ≡ true
    = ap (λ g. has same_atom (atoms_of (gives plan sources g (seen_of set))) a) (sym e) ∙ h in
    var_there plan (seen_of set) v (entry_says v (entry_of sources v)) (slice_get plan.vars v) refl
    (not_nothing_atom (gives plan sources (by_entry v) (seen_of set)) a given)

-- and so is that of an entry that clashes
pub entry_var_there : (plan : Plan) (sources : Sources) (v : ℕ) (set : List Atom)
    → is_clash (gives plan sources (by_entry v) (seen_of set)) ≡ true → v < length plan.vars
entry_var_there plan sources v set h =
    var_there plan (seen_of set) v (entry_says v (entry_of sources v)) (slice_get plan.vars v) refl
    (not_nothing_clash (gives plan sources (by_entry v) (seen_of set)) h)

-- what follows: its premises are clear, and a giver of the plan gives it at them
pub record Following (plan : Plan) (sources : Sources) (step : Step) (premises : List Atom) : Type 0 where
  pub clear : is_clear plan (set_with premises) ≡ true
  pub giver : Giver
  pub is_in : IsIn giver (givers_of plan)
  pub given : has same_atom (atoms_of (gives plan sources giver (seen_of (set_with premises)))) step.conclusion ≡ true

pub following : (plan : Plan) (sources : Sources) (step : Step) (premises : List Atom)
    → follows plan sources step premises ≡ true
    → Following plan sources step premises
following plan sources step premises e =
    let clear = is_clear plan (set_with premises) in
    let read = are_of (things_read plan (giver_of sources step)) premises in
    let given
    = has same_atom (atoms_of (given_by plan sources (giver_of sources step) (set_with premises)))
    step.conclusion in
    let p : ((clear && read) ≡ true) × (given ≡ true) = and_parts (clear && read) given e in
    let q : (clear ≡ true) × (read ≡ true) = and_parts clear read p.0 in
    by (giver_of sources step) q.0 p.1
  where
    by : (g : Option Giver) → is_clear plan (set_with premises) ≡ true
        → has same_atom (atoms_of (given_by plan sources g (set_with premises))) step.conclusion ≡ true
        → Following plan sources step premises
    by None c h = absurd (cc)
    by (Some giver) c h =
        record {
          clear = c;
          giver = giver;
          is_in =
              giving_in plan sources giver (set_with premises) step.conclusion h;
          given = h;
        }

pub is_given : (plan : Plan) (sources : Sources)
    → IsGiven (system_of plan sources) (system_laws plan sources) step_form (follows plan sources) base
is_given plan sources step premises e =
    let f = following plan sources step premises e in (f.giver, f.is_in, f.given)

-- a set that is clear with the start is of a plan that has a root
pub rooted : (plan : Plan) (premises : List Atom) → is_clear plan (set_with premises) ≡ true → 0 < length plan.slots
rooted plan premises clear =
    let f : Facts plan (set_with premises) = facts plan (set_with premises) clear in
    ltb-true 0 (length plan.slots) (f.named (Here 0) (has_first same_atom atom_exact atom_itself (Here 0) premises))
