-- What is read beside what was written.
use Rattle.std.proofs.Common.{◌≡◌, ℕ, refl}
use Rattle.std.specs.Prelude.{Option, None, Some, option_map}
use Rattle.vc_value.specs.declared.value.Value.{Value}
use Rattle.vc_plan.specs.declared.atoms.Mark.{Mark}
use Rattle.vc_plan.specs.declared.atoms.Mark.TheVariants.{Held, Outside}
use Rattle.vc_plan.specs.Entries.{Written, value_beside}
use Rattle.vc_plan.specs.Seen.{Seen}

pub held_beside : (seen : Seen) (v : ℕ) (o : Option Written) (a : Value)
    → option_map (λ written. written.mark) o ≡ Some (Held a) → value_beside seen v o ≡ Some a
held_beside seen v None a e = absurd (cc)
held_beside seen v (Some w) a e = by w.mark e
  where
    by : (mark : Mark) → Some mark ≡ Some (Held a)
        → value_beside seen v
        (Some (record { mark = mark; hard = w.hard; procedure = w.procedure; statement = w.statement })) ≡ Some a
    by (Held b) e = cc
    by Outside e = absurd (cc)

pub outside_beside : (seen : Seen) (v : ℕ) (o : Option Written) → option_map (λ written. written.mark) o ≡ Some Outside
    → value_beside seen v o ≡ None
outside_beside seen v None e = absurd (cc)
outside_beside seen v (Some w) e = by w.mark e
  where
    by : (mark : Mark) → Some mark ≡ Some Outside
        → value_beside seen v
        (Some (record { mark = mark; hard = w.hard; procedure = w.procedure; statement = w.statement })) ≡ None
    by (Held b) e = absurd (cc)
    by Outside e = refl

pub nothing_beside : (seen : Seen) (v : ℕ) (o : Option Written) → option_map (λ written. written.mark) o ≡ None
    → value_beside seen v o ≡ seen.value v
nothing_beside seen v None e = refl
nothing_beside seen v (Some w) e = absurd (cc)

pub ruleset beside = (held_beside, outside_beside, nothing_beside)
