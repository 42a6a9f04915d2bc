-- Who may have anything to say at the start.
use Rattle.std.proofs.Common.{◌≡◌, ℕ, zero, suc, ◌<◌, true, false, cond, [], ◌∷◌, length, refl, sym, ◌∙◌, ap, subst}
use Rattle.std.proofs.Common.{inl, inr, arith}
use Rattle.std.specs.Prelude.{Option, None, Some, nat_eq, if◌then◌else◌}
use Rattle.std.specs.List.{IsDistinct}
use Rattle.std.proofs.lemmas.Bool.{cases_lt}
use Rattle.vc_base.specs.Sets.{has}
use Rattle.vc_base.proofs.ListLaws.{number_exact, number_itself}
use Rattle.vc_base.proofs.SetLaws.{both, has_back, has_first, has_front, told}
use Rattle.vc_plan.specs.declared.plans.Plan.{Plan}
use Rattle.vc_plan.specs.Gives.{Giver, by_entry, by_rule, by_user, givers_of}
use Rattle.vc_plan.specs.Settle.{base}
use Rattle.vc_plan.specs.Sources.{Sources}
use Rattle.vc_plan_reasons.specs.Checking.{is_silent}
use Rattle.vc_net_laws.specs.declared.triggers.Trigger.{Trigger}
use Rattle.vc_net_laws.specs.Forced.{is_quiet}
use Rattle.vc_net_laws.specs.Triggers.{stands_in, trigger_by}
use Rattle.vc_net_laws.specs.Working.{IsWorking, same_giver}
use Rattle.vc_plan.specs.Clear.{is_clear}
use Rattle.vc_net_laws.proofs.NetLaws.Triggers.{triggers_are_needed}
use Rattle.vc_net_laws.proofs.NetLaws.Working.{giver_exact, giver_itself, work_begins}
use Rattle.vc_net_agenda.specs.Agendas.{nobody_on}
use Rattle.vc_net_readers.specs.Waiting.{is_free}
use Rattle.vc_net_agenda.proofs.AgendaLaws.{one_of}
use Rattle.vc_net_waking.specs.Beginning.{all_sources, beginners, begun, untriggered, untriggered_below}
use Rattle.vc_net_waking.specs.Laws.{BeginnersSuffice}
use Rattle.vc_net_waking.specs.Waking.{rules_in, sources_of}
use Rattle.vc_net_waking.proofs.GiverLaws.{each_waits}
use Rattle.vc_net_waking.proofs.WakingLaws.{entry_below, entry_in, rule_below, user_below, user_in}

-- a rule that waits for no value is among them
free_rule : (plan : Plan) (n r : ℕ) → r < n → is_free (trigger_by plan (by_rule r)) ≡ true
    → has nat_eq (untriggered_below plan n) r ≡ true
free_rule plan zero r below free = absurd (omega (arith, below))
free_rule plan (suc n) r below free =
    elim (cases_lt r n) [
      | inl less ↦
          has_front nat_eq number_exact number_itself (untriggered_below plan n)
          (if is_free (trigger_by plan (by_rule n)) then n ∷ [] else []) r (free_rule plan n r less free)
      | inr past ↦
          let same : r ≡ n = omega (arith, below, past) in
          has_back nat_eq number_exact number_itself (untriggered_below plan n)
          (if is_free (trigger_by plan (by_rule n)) then n ∷ [] else []) r
          (ap (λ b. has nat_eq (cond b (n ∷ []) []) r) (sym
          (ap (λ m. is_free (trigger_by plan (by_rule m))) same) ∙ free)
          ∙ (ap (λ m. has nat_eq (m ∷ []) r) (sym same) ∙ has_first nat_eq number_exact number_itself r []))
    ]

-- so are the sources of all variables
source_in : (n v : ℕ) (giver : Giver) → v < n → has same_giver (sources_of v) giver ≡ true
    → has same_giver (all_sources n) giver ≡ true
source_in zero v giver below h = absurd (omega (arith, below))
source_in (suc n) v giver below h =
    elim (cases_lt v n) [
      | inl less ↦ has_front same_giver giver_exact giver_itself (all_sources n) (sources_of n) giver
          (source_in n v giver less h)
      | inr past ↦
          let same : v ≡ n = omega (arith, below, past) in
          has_back same_giver giver_exact giver_itself (all_sources n) (sources_of n) giver
          (subst (λ m. has same_giver (sources_of m) giver ≡ true) same h)
    ]

-- who isn't among them waits for a value, which doesn't stand at the start
module _ (plan : Plan) (sources : Sources) where
  nothing_stands : (o : Option Trigger) → is_free o ≡ false → stands_in base o ≡ false
  nothing_stands None e = absurd (cc)
  nothing_stands (Some t) e = refl

  absent_quiet : (giver : Giver) → has same_giver (givers_of plan) giver ≡ true
      → has same_giver (beginners plan) giver ≡ false → is_quiet plan sources base giver ≡ true
  absent_quiet (by_rule r) there absent =
      elim (told (is_free (trigger_by plan (by_rule r)))) [
        | inl free ↦
            absurd (both
            (has_front same_giver giver_exact giver_itself (rules_in (untriggered plan))
            (all_sources (length plan.vars)) (by_rule r)
            (one_of by_rule r (λ n. refl) (untriggered plan)
            ∙ free_rule plan (length plan.rules) r (rule_below plan r there) free)) absent)
        | inr waits ↦
            ap is_silent (triggers_are_needed plan sources base (by_rule r)
            (nothing_stands (trigger_by plan (by_rule r)) waits))
      ]
  absent_quiet (by_user v) there absent =
      absurd (both
      (has_back same_giver giver_exact giver_itself (rules_in (untriggered plan))
      (all_sources (length plan.vars)) (by_user v)
      (source_in (length plan.vars) v (by_user v) (user_below plan v there) (user_in v))) absent)
  absent_quiet (by_entry v) there absent =
      absurd (both
      (has_back same_giver giver_exact giver_itself (rules_in (untriggered plan))
      (all_sources (length plan.vars)) (by_entry v)
      (source_in (length plan.vars) v (by_entry v) (entry_below plan v there) (entry_in v))) absent)

-- with all givers on the agenda the work may begin
whole_begins : (plan : Plan) (sources : Sources) → is_clear plan base ≡ true → IsWorking plan sources
    (givers_of plan) base
unfolding IsDistinct
whole_begins plan sources clear = work_begins plan sources [] (givers_of plan) refl clear (tt, tt) (λ giver h. h)

pub beginners_suffice : BeginnersSuffice
beginners_suffice plan sources agenda sizes clear =
    let whole = whole_begins plan sources clear in record {
      sound = whole.sound;
      distinct = whole.distinct;
      quiet = λ giver off. elim (told (has same_giver (givers_of plan) giver)) [
        | inl there ↦ absent_quiet plan sources giver there (off_list giver there off)
        | inr strange ↦ whole.quiet giver strange
      ];
    }
  where
    off_list : (giver : Giver) → has same_giver (givers_of plan) giver ≡ true
        → has same_giver (begun plan agenda).givers giver ≡ false → has same_giver (beginners plan) giver ≡ false
    off_list giver there off =
        elim (told (has same_giver (beginners plan) giver)) [
          | inl h ↦
              absurd (both (each_waits plan (nobody_on agenda.rules agenda.vars) (beginners plan) giver sizes h
              there) off)
          | inr h ↦ h
        ]
