-- Where the rounds of a plan end.
use Rattle.std.proofs.Common.{◌≡◌, ℕ, zero, suc, ◌<◌, true, List, sym, ◌∙◌, subst, arith}
use Rattle.std.specs.List.{IsDistinct}
use Rattle.vc_base.specs.Rounds.{settled, settle, next_round, all_given}
use Rattle.vc_base.specs.Sets.{Within}
use Rattle.vc_base.proofs.Counting as counting
use Rattle.vc_base.proofs.Settling as settling
use Rattle.vc_base.proofs.SetLaws.{with_all_left}
use Rattle.vc_plan.specs.declared.atoms.Atom.{Atom}
use Rattle.vc_plan.specs.declared.plans.Plan.{Plan}
use Rattle.vc_plan.specs.Clear.{is_clear}
use Rattle.vc_plan.specs.Domains.{atom_count}
use Rattle.vc_plan.specs.Laws.{RoundsSuffice, SettlesLeast, SettlesBelowClosed}
use Rattle.vc_plan.specs.Seen.{same_atom}
use Rattle.vc_plan.specs.Settle.{system_of, base}
use Rattle.vc_plan.specs.Sources.{Sources}
use Rattle.vc_plan.proofs.PlanLaws.Atoms.{atom_exact, atom_itself}
use Rattle.vc_plan.proofs.PlanLaws.Bound.{clear_sets_are_small}
use Rattle.vc_plan.proofs.PlanLaws.Facts.{part_clear}
use Rattle.vc_plan.proofs.PlanLaws.Givers.{system_laws}

base_distinct : IsDistinct same_atom base
unfolding IsDistinct
base_distinct = (tt, tt)

-- where one round or more end settled, they began at a clear set
began_clear : (plan : Plan) (sources : Sources) (n : ℕ) (start set : List Atom) → 0 < n
    → settle (system_of plan sources) n start ≡ settled set
    → is_clear plan start ≡ true
began_clear plan sources zero start set some ends = absurd (omega arith)
began_clear plan sources (suc n) start set some ends =
    let system = system_of plan sources in
    let r : counting.Ran system (system_laws plan sources) n start set
    = counting.ran system (system_laws plan sources) n start set ends in
    part_clear plan start (next_round system start) r.clear
    (λ a h. with_all_left same_atom atom_exact atom_itself start (all_given system start) a h)

pub rounds_suffice : RoundsSuffice
rounds_suffice plan sources set root ends =
    let clear : is_clear plan base ≡ true = began_clear plan sources (atom_count plan) base set (omega arith) ends in
    let c : settling.IsClosed (system_of plan sources) set
    = counting.enough_rounds (system_of plan sources) (system_laws plan sources) (atom_count plan) base set clear
    base_distinct (omega arith)
    (clear_sets_are_small plan) ends in
    record { clear = c.clear; calm = c.calm; given = c.given }

-- two settlements that are one have one set
same_set : (a b : List Atom) → settled a ≡ settled b → a ≡ b
same_set a b e = cc

pub settles_below_closed : SettlesBelowClosed
settles_below_closed plan sources closed c w =
    let low
    = settling.settles_within (system_of plan sources) (system_laws plan sources) (atom_count plan) base closed
    (record { clear = c.clear; calm = c.calm; given = c.given }) w in
    (low.set, low.is)

pub settles_least : SettlesLeast
settles_least plan sources set closed ends c w =
    let low
    = settling.settles_within (system_of plan sources) (system_laws plan sources) (atom_count plan) base closed
    (record { clear = c.clear; calm = c.calm; given = c.given }) w in
    subst (λ s. Within same_atom s closed) (same_set low.set set (sym low.is ∙ ends)) low.within
