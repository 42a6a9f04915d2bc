-- MACH: a drive that is there where DRIVEN is Y.
use Rattle.std.proofs.Common.{◌≡◌, [], ◌∷◌, true, false, refl}
use Rattle.std.specs.Prelude.{Some, ◌≢◌}
use Rattle.vc_base.specs.Rounds.{settled}
use Rattle.vc_value.specs.declared.table_header.Domain.TheVariants.{Texts}
use Rattle.vc_value.specs.declared.value.Value.TheVariants.{Text}
use Rattle.vc_plan.specs.declared.atoms.Atom.TheVariants.{Here, Is}
use Rattle.vc_plan.specs.declared.conditions.Condition.TheVariants.{Always, Compared}
use Rattle.vc_plan.specs.declared.conditions.Relation.TheVariants.{Equal}
use Rattle.vc_plan.specs.declared.plans.Plan.{Plan}
use Rattle.vc_plan.specs.declared.rules.Kind.TheVariants.{Line}
use Rattle.vc_plan.specs.declared.terms.Term.TheVariants.{Literal, Read}
use Rattle.vc_plan.specs.Bounds.{place_bound, cell_bound, here_at}
use Rattle.vc_plan.specs.Domains.{atom_count}
use Rattle.vc_plan.specs.Settle.{settlement_of}
use Rattle.vc_plan.proofs.PlanRows.Models.{empty, root, fixed_var, own_rule, last, users, settles_at}

-- variable 0 is DRIVEN, of the root; variable 1 is POWER, of the drive
abbrev machine : Plan
machine = record empty {
  domains = Texts (0 ∷ 1 ∷ []) ∷ Texts (2 ∷ 3 ∷ []) ∷ [];
  slots = root ∷ record { parent = Some 0; depth = 1; object = 1; line = 0 } ∷ [];
  vars = fixed_var 0 ∷ record { slot = 1; characteristic = 1; domain = 1; restrictable = false } ∷ [];
  conditions = Always ∷ Compared Equal (Read 0) (Literal (Text 0)) ∷ [];
  rules = last 0 ∷ last 1 ∷ own_rule 1 (Line 1) ∷ [];
}

driven : settles_at machine (users (Some (Text 0) ∷ [])) (Here 0 ∷ Is 0 (Text 0) ∷ Here 1 ∷ []) ≡ true
driven = refl

not_driven : settles_at machine (users (Some (Text 1) ∷ [])) (Here 0 ∷ Is 0 (Text 1) ∷ []) ≡ true
not_driven = refl

-- as long as that is unknown, it isn't there
unknown : settlement_of machine (users []) ≡ settled (Here 0 ∷ [])
unknown = refl

anyway : settles_at machine (users []) (Here 0 ∷ Here 1 ∷ []) ≢ true
anyway e = cc

-- a value at a slot that isn't here sleeps
sleeping : settles_at machine (users (Some (Text 1) ∷ Some (Text 2) ∷ [])) (Here 0 ∷ Is 0 (Text 1) ∷ []) ≡ true
sleeping = refl

awake : settles_at machine (users (Some (Text 0) ∷ Some (Text 2) ∷ []))
    (Here 0 ∷ Is 0 (Text 0) ∷ Here 1 ∷ Is 1 (Text 2) ∷ []) ≡ true
awake = refl

-- premises: that the parent is here, and the condition's variable
line_bound : place_bound machine (here_at 1) ≡ 2
line_bound = refl

atoms : atom_count machine ≡ 8
atoms = refl

-- that the drive is here 2, each variable's value 2, each excluded text 0, and 1 for a clash
cells : cell_bound machine ≡ 7
cells = refl
