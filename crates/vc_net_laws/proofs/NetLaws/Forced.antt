-- Forced and sound sets, and how their ends tell where settling ends.
use Rattle.std.proofs.Common.{◌≡◌, ◌<◌, true, List, [], ◌∷◌, ◌++◌, length, sym, inl, inr, subst, refl}
use Rattle.std.proofs.lemmas.Bool.{ltb-true}
use Rattle.vc_base.specs.Rounds.{is_clash, atoms_of, Settlement, broken, settled, some_clash}
use Rattle.vc_base.specs.Sets.{has, Within}
use Rattle.vc_base.proofs.SetLaws.{both, has_cases, has_either, has_first, has_front, same_test, told}
use Rattle.vc_base.proofs.Settling as settling
use Rattle.vc_plan.specs.declared.atoms.Atom.{Atom}
use Rattle.vc_plan.specs.declared.atoms.Atom.TheVariants.{Here}
use Rattle.vc_plan.specs.declared.plans.Plan.{Plan}
use Rattle.vc_plan.specs.Clear.{is_clear}
use Rattle.vc_plan.specs.Gives.{Giver, gives, givers_of}
use Rattle.vc_plan.specs.Laws.{IsClosed}
use Rattle.vc_plan.specs.Seen.{same_atom, seen_of}
use Rattle.vc_plan.specs.Settle.{system_of, base, settlement_of}
use Rattle.vc_plan.specs.Sources.{Sources}
use Rattle.vc_plan.proofs.PlanLaws.Atoms.{atom_exact, atom_itself}
use Rattle.vc_plan.proofs.PlanLaws.Facts.{Facts, facts, part_clear}
use Rattle.vc_plan.proofs.PlanLaws.Givers.{clashes_stay, system_laws}
use Rattle.vc_plan.proofs.PlanLaws.Rounds.{settles_below_closed, settles_least}
use Rattle.vc_plan_reasons.specs.Checking.{concluded}
use Rattle.vc_plan_reasons.proofs.ReasonLaws.Closed.{Settled, all_in, all_stand, conclusions_stand, settled_closed}
use Rattle.vc_plan_reasons.proofs.ReasonLaws.Closed.{silent_calm, silent_none}
use Rattle.vc_plan_reasons.proofs.ReasonLaws.Givers.{clashing_in, giving_in}
use Rattle.vc_net_laws.specs.Forced.{BaseIsForced, ClashBreaks, GivenIsForced, IsForced, IsSound, LogsAreForced}
use Rattle.vc_net_laws.specs.Forced.{QuietSettles, SoundSetsGrow, UnclearBreaks, is_quiet}

pub base_is_forced : BaseIsForced
base_is_forced plan sources closed c w = w

pub logs_are_forced : LogsAreForced
logs_are_forced plan sources log e closed c w =
    all_stand plan closed (concluded log) w (conclusions_stand plan sources log closed e c w)

pub given_is_forced : GivenIsForced
given_is_forced plan sources set giver atom forced h closed c w a e =
    let stands : has same_atom closed atom ≡ true
    = settling.given_stands (system_of plan sources) (system_laws plan sources) set closed giver atom
    (giving_in plan sources giver set atom h) (record { clear = c.clear; calm = c.calm; given = c.given })
    (forced closed c w) h in
    elim (has_cases same_atom atom_exact atom_itself atom [] a e) [
      | inl p ↦ subst (λ b. has same_atom closed b ≡ true) (sym p) stands
      | inr p ↦ absurd (cc)
    ]

-- a forced set with a forced atom more is forced
pub more_is_forced : (plan : Plan) (sources : Sources) (set : List Atom) (atom : Atom) → IsForced plan sources set
    → IsForced plan sources (atom ∷ []) → IsForced plan sources (set ++ atom ∷ [])
more_is_forced plan sources set atom f g closed c w a h =
    elim (has_either same_atom atom_exact atom_itself set (atom ∷ []) a h) [
      | inl p ↦ f closed c w a p
      | inr p ↦ g closed c w a p
    ]

pub sound_sets_grow : SoundSetsGrow
sound_sets_grow plan sources set atom sound forced clear = record {
  clear = clear;
  rooted = λ a h. has_front same_atom atom_exact atom_itself set (atom ∷ []) a (sound.rooted a h);
  forced = more_is_forced plan sources set atom sound.forced forced;
}

-- a plan with a sound set has a root
root_there : (plan : Plan) (sources : Sources) (set : List Atom) → IsSound plan sources set → 0 < length plan.slots
root_there plan sources set sound =
    let f : Facts plan set = facts plan set sound.clear in
    ltb-true 0 (length plan.slots)
    (f.named (Here 0) (sound.rooted (Here 0) (has_first same_atom atom_exact atom_itself (Here 0) [])))

-- where there is no closed set, settling is broken
breaks : (plan : Plan) (sources : Sources) → 0 < length plan.slots
    → ((closed : List Atom) → IsClosed plan sources closed → Within same_atom base closed → ⊥)
    → settlement_of plan sources ≡ broken
breaks plan sources root none = by (settlement_of plan sources) refl
  where
    by : (s : Settlement Atom) → settlement_of plan sources ≡ s → s ≡ broken
    by broken e = refl
    by (settled set) e =
        let s : Settled plan sources set = settled_closed plan sources set root e in absurd (none set s.closed s.root)

pub unclear_breaks : UnclearBreaks
unclear_breaks plan sources set atom sound forced unclear =
    breaks plan sources (root_there plan sources set sound)
    (λ closed c w. both (part_clear plan (set ++ atom ∷ []) closed c.clear
    (more_is_forced plan sources set atom sound.forced forced closed c w)) unclear)

pub clash_breaks : ClashBreaks
clash_breaks plan sources set giver sound h =
    breaks plan sources (root_there plan sources set sound)
    (λ closed c w.
    both (settling.at_any (λ g. is_clash (gives plan sources g (seen_of closed))) giver (givers_of plan)
    (clashing_in plan sources giver set h)
    (clashes_stay plan sources giver set closed c.clear (sound.forced closed c w) h)) c.calm)

-- a clear set at which all givers are quiet is closed
pub quiet_closed : (plan : Plan) (sources : Sources) (set : List Atom) → is_clear plan set ≡ true
    → ((giver : Giver) → settling.IsIn giver (givers_of plan) → is_quiet plan sources set giver ≡ true)
    → IsClosed plan sources set
quiet_closed plan sources set clear quiet =
    let system = system_of plan sources in
    record {
      clear = clear;
      calm = elim (told (some_clash system set)) [
        | inl e ↦
            let r = settling.any_at (λ giver. is_clash (gives plan sources giver (seen_of set))) (givers_of plan) e in
            absurd (silent_calm (gives plan sources r.0 (seen_of set)) (quiet r.0 r.1) r.2)
        | inr e ↦ e
      ];
      given = λ a h.
          let r = settling.giver_of system (system_laws plan sources)
          (λ giver. atoms_of (gives plan sources giver (seen_of set))) (givers_of plan) a h in
          absurd (silent_none (gives plan sources r.0 (seen_of set)) a (quiet r.0 r.1) r.2);
    }

-- a sound set that is closed is what settling ends at
pub closed_settles : (plan : Plan) (sources : Sources) (set : List Atom) → IsSound plan sources set
    → IsClosed plan sources set
    → (end : List Atom) × (settlement_of plan sources ≡ settled end)
    × ((atom : Atom) → has same_atom end atom ≡ has same_atom set atom)
closed_settles plan sources set sound closed =
    let end = settles_below_closed plan sources set closed sound.rooted in
    let s : Settled plan sources end.0
    = settled_closed plan sources end.0 (root_there plan sources set sound) end.1 in (
      end.0,
      end.1,
      λ a. same_test (has same_atom end.0 a) (has same_atom set a)
          (settles_least plan sources end.0 set end.1 closed sound.rooted a) (sound.forced end.0 s.closed s.root a),
    )

pub quiet_settles : QuietSettles
quiet_settles plan sources set sound quiet =
    closed_settles plan sources set sound
    (quiet_closed plan sources set sound.clear
    (λ giver i. all_in (is_quiet plan sources set) giver (givers_of plan) quiet i))
