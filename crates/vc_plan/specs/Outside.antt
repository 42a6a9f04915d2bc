-- The conditions and terms that no statement has.
use Rattle.std.specs.Prelude.{ℕ, List, [], ◌∷◌, ◌++◌, map, flat_map}
use Rattle.vc_plan.specs.declared.plans.Plan.{Plan}
use Rattle.vc_plan.specs.declared.rules.Kind.{Kind}
use Rattle.vc_plan.specs.declared.rules.Kind.TheVariants.{Among, Compare, Equate, ByTable, Never, Last, Line}

-- the numbers of all conditions, and of all terms, that no statement has
abbrev pub conditions_outside : Plan → List ℕ
conditions_outside plan =
    (map (λ rule. rule.condition) plan.rules ++ map (λ guard. guard.condition) plan.guards)
    ++ (map (λ requirement. requirement.selection.condition) plan.requirements
    ++ (flat_map (λ line. map (λ selection. selection.condition) line.selections) plan.lines
    ++ flat_map (λ operation. map (λ selection. selection.condition) operation.selections) plan.operations))

abbrev pub kind_terms : Kind → List ℕ
kind_terms (Among v restriction) = []
kind_terms (Compare r a b) = a ∷ b ∷ []
kind_terms (Equate a b) = a ∷ b ∷ []
kind_terms (ByTable table columns) = []
kind_terms Never = []
kind_terms (Last v) = []
kind_terms (Line i) = []

abbrev pub terms_outside : Plan → List ℕ
terms_outside plan =
    flat_map (λ rule. kind_terms rule.kind) plan.rules
    ++ (map (λ line. line.quantity) plan.lines ++ map (λ operation. operation.time) plan.operations)
