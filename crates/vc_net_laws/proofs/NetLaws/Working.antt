-- The work on the way to where settling ends: how it begins, goes on and ends.
use Rattle.std.proofs.Common.{◌≡◌, Bool, true, false, ◌||◌, ◌⊎◌, List, [], ◌∷◌, ◌++◌, refl, sym, ◌∙◌, ap, subst, inl}
use Rattle.std.proofs.Common.{inr}
use Rattle.std.specs.List.{filter}
use Rattle.std.proofs.lemmas.Bool.{and_from, eq-eqb, eqb-true, or_cases, or_left, or_parts}
use Rattle.vc_base.specs.Rounds.{Given, clash, atoms, atoms_of, is_clash}
use Rattle.vc_base.specs.Sets.{has, Within}
use Rattle.vc_base.proofs.SetLaws.{both, filter_has, has_cases, has_either, has_first, has_front, has_more, told}
use Rattle.vc_base.proofs.SetLaws.{distinct_more}
use Rattle.vc_base.proofs.Settling as settling
use Rattle.vc_plan.specs.declared.atoms.Atom.{Atom}
use Rattle.vc_plan.specs.declared.plans.Plan.{Plan}
use Rattle.vc_plan.specs.Gives.{Giver, by_rule, by_user, by_entry, gives, givers_of}
use Rattle.vc_plan.specs.Seen.{same_atom, seen_of}
use Rattle.vc_plan.specs.Settle.{base}
use Rattle.vc_plan.specs.Sources.{Sources}
use Rattle.vc_plan.proofs.PlanLaws.Atoms.{atom_exact, atom_itself}
use Rattle.vc_plan.proofs.PlanLaws.Facts.{part_clear}
use Rattle.vc_plan_reasons.specs.Checking.{concluded, is_silent}
use Rattle.vc_plan_reasons.proofs.ReasonLaws.Givers.{clashing_in, giving_in}
use Rattle.vc_net_laws.specs.Forced.{is_quiet}
use Rattle.vc_net_laws.specs.Triggers.{stands_in, trigger_by}
use Rattle.vc_net_laws.specs.Waking.{IsSplit, giver_differs, is_woken, touches_some}
use Rattle.vc_net_laws.specs.Working.{AgendasMayGrow, AreAskedOrQuiet, AtomsCome, IsWorking, QuietMayLeave}
use Rattle.vc_net_laws.specs.Working.{WorkBegins, WorkEnds, WorkIsKept, is_disturbed, same_giver}
use Rattle.vc_net_laws.proofs.NetLaws.Forced.{closed_settles, logs_are_forced, quiet_closed, sound_sets_grow}
use Rattle.vc_net_laws.proofs.NetLaws.Triggers.{triggers_are_needed}
use Rattle.vc_net_laws.proofs.NetLaws.Waking.{unchanged_gives_the_same, woken_is_enough}

-- givers are told apart exactly
pub giver_exact : (a b : Giver) → same_giver a b ≡ true → a ≡ b
giver_exact (by_rule r) (by_rule s) e = ap by_rule (eqb-true r s e)
giver_exact (by_rule r) (by_user w) e = absurd (cc)
giver_exact (by_rule r) (by_entry w) e = absurd (cc)
giver_exact (by_user v) (by_rule s) e = absurd (cc)
giver_exact (by_user v) (by_user w) e = ap by_user (eqb-true v w e)
giver_exact (by_user v) (by_entry w) e = absurd (cc)
giver_exact (by_entry v) (by_rule s) e = absurd (cc)
giver_exact (by_entry v) (by_user w) e = absurd (cc)
giver_exact (by_entry v) (by_entry w) e = ap by_entry (eqb-true v w e)

pub giver_itself : (a : Giver) → same_giver a a ≡ true
giver_itself (by_rule r) = eq-eqb r r refl
giver_itself (by_user v) = eq-eqb v v refl
giver_itself (by_entry v) = eq-eqb v v refl

in_has : (giver : Giver) (givers : List Giver) → settling.IsIn giver givers → has same_giver givers giver ≡ true
in_has giver [] i = absurd i
in_has giver (x ∷ xs) (inl e) =
    subst (λ g. has same_giver (x ∷ xs) g ≡ true) (sym e) (has_first same_giver giver_exact giver_itself x xs)
in_has giver (x ∷ xs) (inr i) = has_more same_giver giver_exact giver_itself x xs giver (in_has giver xs i)

-- who isn't a giver of the plan is quiet
loud : (x : Given Atom) → is_silent x ≡ false
    → (is_clash x ≡ true) ⊎ ((a : Atom) × (has same_atom (atoms_of x) a ≡ true))
loud clash e = inl refl
loud (atoms []) e = absurd (cc)
loud (atoms (a ∷ more)) e = inr (a, has_first same_atom atom_exact atom_itself a more)

stranger_quiet : (plan : Plan) (sources : Sources) (set : List Atom) (giver : Giver)
    → has same_giver (givers_of plan) giver ≡ false → is_quiet plan sources set giver ≡ true
stranger_quiet plan sources set giver e =
    elim (told (is_quiet plan sources set giver)) [
      | inl q ↦ q
      | inr q ↦ elim (loud (gives plan sources giver (seen_of set)) q) [
        | inl h ↦ absurd (both (in_has giver (givers_of plan) (clashing_in plan sources giver set h)) e)
        | inr r ↦ absurd (both (in_has giver (givers_of plan) (giving_in plan sources giver set r.0 r.1)) e)
      ]
    ]

-- what isn't in a whole isn't in a part
part_lacks : (part whole : List Giver) → Within same_giver part whole → (giver : Giver)
    → has same_giver whole giver ≡ false
    → has same_giver part giver ≡ false
part_lacks part whole w giver e =
    elim (told (has same_giver part giver)) [
      | inl h ↦ absurd (both (w giver h) e)
      | inr h ↦ h
    ]

-- of the givers of the plan that pass a test, one that is asked or quiet is quiet where it isn't asked
unasked_quiet : (plan : Plan) (sources : Sources) (agenda : List Giver) (set : List Atom) (p : Giver → Bool)
    (giver : Giver)
    → AreAskedOrQuiet plan sources agenda set (filter p (givers_of plan)) → has same_giver (givers_of plan) giver ≡ true
    → has same_giver agenda giver ≡ false → (p giver ≡ false → is_quiet plan sources set giver ≡ true)
    → is_quiet plan sources set giver ≡ true
unasked_quiet plan sources agenda set p giver asked there off others =
    elim (told (p giver)) [
      | inl h ↦ elim (or_cases (has same_giver agenda giver) (is_quiet plan sources set giver)
          (asked giver (filter_has same_giver giver_exact giver_itself p (givers_of plan) giver there h))) [
            | inl on ↦ absurd (both on off)
            | inr quiet ↦ quiet
          ]
      | inr h ↦ others h
    ]

pub work_begins : WorkBegins
work_begins plan sources log agenda accepted clear distinct all = record {
  sound = record {
    clear = clear;
    rooted = λ a h. has_front same_atom atom_exact atom_itself base (concluded log) a h;
    forced = logs_are_forced plan sources log accepted;
  };
  distinct = distinct;
  quiet = λ giver e. stranger_quiet plan sources (base ++ concluded log) giver
      (part_lacks (givers_of plan) agenda all giver e);
}

pub atoms_come : AtomsCome
atoms_come plan sources agenda later set atom work forced new clear stay wake = record {
  sound = sound_sets_grow plan sources set atom work.sound forced clear;
  distinct = distinct_more same_atom atom_exact atom_itself set atom work.distinct new;
  quiet = λ giver e. elim (told (has same_giver (givers_of plan) giver)) [
    | inl i ↦
        unasked_quiet plan sources later (set ++ atom ∷ []) (is_woken plan set atom) giver wake i e
        (woken_is_enough plan sources set atom giver work.sound.clear
        (work.quiet giver (part_lacks agenda later stay giver e)))
    | inr i ↦ stranger_quiet plan sources (set ++ atom ∷ []) giver i
  ];
}

pub quiet_may_leave : QuietMayLeave
quiet_may_leave plan sources agenda set giver work done = record {
  sound = work.sound;
  distinct = work.distinct;
  quiet = λ other e. elim (told (has same_giver (agenda ++ giver ∷ []) other)) [
    | inl h ↦ elim (has_either same_giver giver_exact giver_itself agenda (giver ∷ []) other h) [
      | inl p ↦ absurd (both p e)
      | inr p ↦ elim (has_cases same_giver giver_exact giver_itself giver [] other p) [
        | inl q ↦ ap (is_quiet plan sources set) q ∙ done
        | inr q ↦ absurd (cc)
      ]
    ]
    | inr h ↦ work.quiet other h
  ];
}

pub agendas_may_grow : AgendasMayGrow
agendas_may_grow plan sources agenda later set work stay = record {
  sound = work.sound;
  distinct = work.distinct;
  quiet = λ giver e. work.quiet giver (part_lacks agenda later stay giver e);
}

-- a part of what is split
split_part : (set kept dropped : List Atom) → IsSplit set kept dropped → Within same_atom kept set
split_part set kept dropped split a h = split a ∙ or_left (has same_atom kept a) (has same_atom dropped a) h

-- who isn't disturbed is as quiet as it was
undisturbed_quiet : (plan : Plan) (old new : Sources) (agenda : List Giver) (set kept dropped : List Atom)
    (giver : Giver)
    → IsWorking plan old agenda set → IsSplit set kept dropped → has same_giver agenda giver ≡ false
    → is_disturbed plan old new kept dropped giver ≡ false → is_quiet plan new kept giver ≡ true
undisturbed_quiet plan old new agenda set kept dropped giver work split off e =
    let differs = giver_differs old new giver in
    let touched = touches_some plan dropped giver in
    elim (told (stands_in kept (trigger_by plan giver))) [
      | inl t ↦ elim (told (differs || touched)) [
        | inl h ↦ absurd (both (and_from (differs || touched) (stands_in kept (trigger_by plan giver)) h t) e)
        | inr h ↦
            let p = or_parts differs touched h in
            ap is_silent (unchanged_gives_the_same plan old new set kept dropped giver work.sound.clear split p.1 p.0)
            ∙ work.quiet giver off
      ]
      | inr t ↦ ap is_silent (triggers_are_needed plan new kept giver t)
    ]

pub work_is_kept : WorkIsKept
work_is_kept plan old new agenda later set kept dropped work split forced root distinct stay wake = record {
  sound = record {
    clear = part_clear plan kept set work.sound.clear (split_part set kept dropped split);
    rooted = root;
    forced = forced;
  };
  distinct = distinct;
  quiet = λ giver e. elim (told (has same_giver (givers_of plan) giver)) [
    | inl i ↦
        unasked_quiet plan new later kept (is_disturbed plan old new kept dropped) giver wake i e
        (undisturbed_quiet plan old new agenda set kept dropped giver work split
        (part_lacks agenda later stay giver e))
    | inr i ↦ stranger_quiet plan new kept giver i
  ];
}

pub work_ends : WorkEnds
work_ends plan sources set work =
    closed_settles plan sources set work.sound
    (quiet_closed plan sources set work.sound.clear (λ giver i. work.quiet giver refl))
