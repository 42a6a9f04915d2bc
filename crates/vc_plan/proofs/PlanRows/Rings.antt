-- RING: A is 1 where X is 1, and A and B are equal by a table. Neither holds the other up.
use Rattle.std.proofs.Common.{◌≡◌, [], ◌∷◌, true, refl}
use Rattle.std.specs.Prelude.{None, Some, ◌≢◌}
use Rattle.vc_base.specs.Rounds.{broken, settled}
use Rattle.vc_value.specs.declared.table_header.Domain.TheVariants.{Texts}
use Rattle.vc_value.specs.declared.value.Value.TheVariants.{Text}
use Rattle.vc_plan.specs.declared.atoms.Atom.TheVariants.{Here, Out, Is}
use Rattle.vc_plan.specs.declared.conditions.Condition.TheVariants.{Always, Compared}
use Rattle.vc_plan.specs.declared.conditions.Relation.TheVariants.{Equal}
use Rattle.vc_plan.specs.declared.plans.Plan.{Plan}
use Rattle.vc_plan.specs.declared.rules.Kind.TheVariants.{Among, ByTable}
use Rattle.vc_plan.specs.declared.rules.Restriction.TheVariants.{Against}
use Rattle.vc_plan.specs.declared.terms.Term.TheVariants.{Literal, Read}
use Rattle.vc_plan.specs.Settle.{settlement_of}
use Rattle.vc_plan.proofs.PlanRows.Models.{empty, root, open_var, fixed_var, rule, of, last, column, table_of, users}
use Rattle.vc_plan.proofs.PlanRows.Models.{settles_at}

abbrev pub ring : Plan
ring = record empty {
  domains = Texts (0 ∷ 1 ∷ []) ∷ Texts (1 ∷ 2 ∷ []) ∷ Texts (1 ∷ 2 ∷ []) ∷ [];
  tables = table_of ((Text 1 ∷ Text 1 ∷ []) ∷ (Text 2 ∷ Text 2 ∷ []) ∷ []) ∷ [];
  slots = root ∷ [];
  vars = fixed_var 0 ∷ open_var 1 ∷ open_var 2 ∷ [];
  conditions = Always ∷ Compared Equal (Read 0) (Literal (Text 1)) ∷ [];
  rules =
      rule 1 (1 ∷ []) (Among 1 (Against Equal (Text 1)))
      ∷ of 1 1 (rule 0 (1 ∷ 2 ∷ []) (ByTable 0 (column 0 1 ∷ column 1 2 ∷ [])))
      ∷ last 0
      ∷ last 1
      ∷ last 2
      ∷ [];
}

-- with X 1, A and B follow
held : settles_at ring (users (Some (Text 1) ∷ []))
    (Here 0 ∷ Is 0 (Text 1) ∷ Out 1 1 ∷ Is 1 (Text 1) ∷ Out 2 1 ∷ Is 2 (Text 1) ∷ []) ≡ true
held = refl

-- without X nothing stands: a condition that is unknown gives nothing, and A and B don't hold each other up
nothing : settlement_of ring (users []) ≡ settled (Here 0 ∷ [])
nothing = refl

held_up : settles_at ring (users []) (Here 0 ∷ Out 1 1 ∷ Is 1 (Text 1) ∷ Out 2 1 ∷ Is 2 (Text 1) ∷ []) ≢ true
held_up e = cc

-- nor with X 0: a condition that is false gives nothing
other : settles_at ring (users (Some (Text 0) ∷ [])) (Here 0 ∷ Is 0 (Text 0) ∷ []) ≡ true
other = refl

-- X isn't inferred: that A is 2 says nothing of it
not_back : settles_at ring (users (None ∷ Some (Text 2) ∷ []))
    (Here 0 ∷ Is 1 (Text 2) ∷ Out 1 0 ∷ Out 2 0 ∷ Is 2 (Text 2) ∷ []) ≡ true
not_back = refl

-- but with X 1 it can't be
broken_ring : settlement_of ring (users (Some (Text 1) ∷ Some (Text 2) ∷ [])) ≡ broken
broken_ring = refl
