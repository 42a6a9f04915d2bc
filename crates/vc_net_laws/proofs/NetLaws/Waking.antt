-- Who doesn't touch what came, went or changed gives what it gave.
use Rattle.std.proofs.Common.{◌≡◌, Bool, true, false, ◌&&◌, ◌||◌, List, [], ◌∷◌, ◌++◌, refl, sym, ◌∙◌, ap, inl, inr}
use Rattle.std.specs.Prelude.{Option, None, Some}
use Rattle.std.proofs.lemmas.Bool.{and_from, and_parts, not-false, or_left, or_right}
use Rattle.std.proofs.lemmas.List.Folds.{list_any-append}
use Rattle.vc_base.specs.Rounds.{atoms_of}
use Rattle.vc_base.specs.Sets.{has, Within}
use Rattle.vc_base.proofs.SetLaws.{both, has_cases, has_either, has_front, none_at, same_test, told}
use Rattle.vc_value.specs.declared.value.Value.{Value}
use Rattle.vc_plan.specs.declared.atoms.Atom.{Atom}
use Rattle.vc_plan.specs.declared.atoms.Atom.TheVariants.{Is}
use Rattle.vc_plan.specs.declared.atoms.Mark.{Mark}
use Rattle.vc_plan.specs.declared.atoms.Mark.TheVariants.{Held, Outside}
use Rattle.vc_plan.specs.declared.plans.Plan.{Plan}
use Rattle.vc_plan.specs.Answers.{fresh}
use Rattle.vc_plan.specs.Gives.{Giver, by_rule, by_user, by_entry, entry_says, gives, if_here, mark_says, value_says}
use Rattle.vc_plan.specs.Seen.{Seen, same_atom, seen_of}
use Rattle.vc_plan.specs.Sources.{Sources, Entry, entry_of, user_of}
use Rattle.vc_plan.proofs.PlanLaws.Atoms.{atom_exact, atom_itself, value_exact}
use Rattle.vc_plan_reasons.specs.Checking.{is_silent}
use Rattle.vc_plan_reasons.specs.Keeping.{same_entry, same_mark, same_user}
use Rattle.vc_plan_reasons.specs.Things.{Thing, giver_reads, giver_writes, has_thing, same_thing, thing_of}
use Rattle.vc_plan_reasons.proofs.ReasonLaws.Local.{gives_locally}
use Rattle.vc_plan_reasons.proofs.ReasonLaws.Writing.{gives_what_it_writes}
use Rattle.vc_net_laws.specs.Triggers.{stands_in, trigger_by}
use Rattle.vc_net_laws.specs.Waking.{GiversWakeThemselves, UnchangedGivesTheSame, UntouchedGivesTheSame, WokenIsEnough}
use Rattle.vc_net_laws.specs.Waking.{giver_differs, giver_touches}
use Rattle.vc_net_laws.specs.declared.triggers.Trigger.{Trigger}
use Rattle.vc_net_laws.proofs.NetLaws.Triggers.{triggers_are_needed}

-- what a giver touches, as a list
touches_as : (plan : Plan) (giver : Giver) (thing : Thing)
    → has_thing (giver_reads plan giver ++ giver_writes plan giver) thing ≡ giver_touches plan giver thing
touches_as plan giver thing = list_any-append (same_thing thing) (giver_reads plan giver) (giver_writes plan giver)

pub untouched_gives_the_same : UntouchedGivesTheSame
untouched_gives_the_same plan sources set atom giver clear untouched =
    gives_locally plan sources giver (set ++ atom ∷ []) set clear
    (λ b h. same_test (has same_atom (set ++ atom ∷ []) b) (has same_atom set b)
    (λ e. elim (has_either same_atom atom_exact atom_itself set (atom ∷ []) b e) [
      | inl p ↦ p
      | inr p ↦ elim (has_cases same_atom atom_exact atom_itself atom [] b p) [
        | inl q ↦
            absurd (both (sym (touches_as plan giver (thing_of b)) ∙ h)
            (ap (λ a. giver_touches plan giver (thing_of a)) q ∙ untouched))
        | inr q ↦ absurd (cc)
      ]
    ])
    (λ e. has_front same_atom atom_exact atom_itself set (atom ∷ []) b e))

-- sources that don't differ say the same
user_same : (o p : Option Value) → same_user o p ≡ true → o ≡ p
user_same None None e = refl
user_same None (Some b) e = absurd (cc)
user_same (Some a) None e = absurd (cc)
user_same (Some a) (Some b) e = ap Some (value_exact a b e)

mark_same : (a b : Mark) → same_mark a b ≡ true → a ≡ b
mark_same (Held a) (Held b) e = ap Held (value_exact a b e)
mark_same (Held a) Outside e = absurd (cc)
mark_same Outside (Held b) e = absurd (cc)
mark_same Outside Outside e = refl

entry_same : (v : _) (o p : Option Entry) → same_entry o p ≡ true → entry_says v o ≡ entry_says v p
entry_same v None None e = refl
entry_same v None (Some f) e = absurd (cc)
entry_same v (Some d) None e = absurd (cc)
entry_same v (Some d) (Some f) e =
    ap (mark_says v) (mark_same d.mark f.mark (and_parts (same_mark d.mark f.mark) _ e).0)

sources_same : (plan : Plan) (old new : Sources) (giver : Giver) (seen : Seen) → giver_differs old new giver ≡ false
    → gives plan new giver seen ≡ gives plan old giver seen
sources_same plan old new (by_rule r) seen e = refl
sources_same plan old new (by_user v) seen e =
    ap (λ o. fresh seen (if_here plan seen v (value_says v o)))
    (sym (user_same (user_of old v) (user_of new v) (not-false (same_user (user_of old v) (user_of new v)) e)))
sources_same plan old new (by_entry v) seen e =
    ap (λ said. fresh seen (if_here plan seen v said))
    (sym (entry_same v (entry_of old v) (entry_of new v) (not-false (same_entry (entry_of old v) (entry_of new v)) e)))

pub unchanged_gives_the_same : UnchangedGivesTheSame
unchanged_gives_the_same plan old new set kept dropped giver clear split untouched same =
    let test : Atom → Bool = λ atom. giver_touches plan giver (thing_of atom) in
    gives_locally plan new giver kept set clear
    (λ b h. same_test (has same_atom kept b) (has same_atom set b)
    (λ e. split b ∙ or_left (has same_atom kept b) (has same_atom dropped b) e)
    (λ e. elim (told (has same_atom kept b)) [
      | inl p ↦ p
      | inr p ↦ elim (told (has same_atom dropped b)) [
        | inl q ↦
            absurd (both (sym (touches_as plan giver (thing_of b)) ∙ h)
            (none_at same_atom atom_exact atom_itself test dropped b untouched q))
        | inr q ↦ absurd (both (sym (split b) ∙ e) (ap (λ x. x || has same_atom dropped b) p ∙ q))
      ]
    ]))
    ∙ sources_same plan old new giver (seen_of set) same

-- a trigger that stands in a part stands in the whole
stands_more : (part set : List Atom) → Within same_atom part set → (o : Option Trigger) → stands_in part o ≡ true
    → stands_in set o ≡ true
stands_more part set w None e = refl
stands_more part set w (Some trigger) e = w (Is trigger.var trigger.value) e

pub woken_is_enough : WokenIsEnough
woken_is_enough plan sources set atom giver clear quiet unwoken =
    let whole = set ++ atom ∷ [] in
    elim (told (giver_touches plan giver (thing_of atom))) [
      | inl e ↦
          let untriggered : stands_in whole (trigger_by plan giver) ≡ false
          = sym (ap (λ b. b && stands_in whole (trigger_by plan giver)) e) ∙ unwoken in
          ap is_silent (triggers_are_needed plan sources whole giver untriggered)
      | inr e ↦ ap is_silent (untouched_gives_the_same plan sources set atom giver clear e) ∙ quiet
    ]

pub givers_wake_themselves : GiversWakeThemselves
givers_wake_themselves plan sources part set atom giver w h =
    let writes : has_thing (giver_writes plan giver) (thing_of atom) ≡ true
    = gives_what_it_writes plan sources giver part atom h in
    let whole : Within same_atom part (set ++ atom ∷ [])
    = λ a k. has_front same_atom atom_exact atom_itself set (atom ∷ []) a (w a k) in
    and_from (giver_touches plan giver (thing_of atom)) (stands_in (set ++ atom ∷ []) (trigger_by plan giver))
    (or_right (has_thing (giver_reads plan giver) (thing_of atom)) (has_thing (giver_writes plan giver) (thing_of atom))
    writes)
    (elim (told (stands_in part (trigger_by plan giver))) [
      | inl e ↦ stands_more part (set ++ atom ∷ []) whole (trigger_by plan giver) e
      | inr e ↦ absurd (both h
          (ap (λ x. has same_atom (atoms_of x) atom) (triggers_are_needed plan sources part giver e)))
    ])
