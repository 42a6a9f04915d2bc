-- The variables that terms and conditions read.
use Rattle.std.specs.Prelude.{ℕ, List, [], ◌∷◌, ◌++◌, Option, None, Some}
use Rattle.vc_plan.specs.declared.conditions.Condition.{Condition}
use Rattle.vc_plan.specs.declared.conditions.Condition.TheVariants.{Always, Compared, IsIn, Specified, Holds, Filled}
use Rattle.vc_plan.specs.declared.conditions.Condition.TheVariants.{Not', And', Or'}
use Rattle.vc_plan.specs.declared.terms.Term.{Term}
use Rattle.vc_plan.specs.declared.terms.Term.TheVariants.{Literal, Read, PartSum, PartCount, Applied', Joined'}

-- the variables that a term and a condition read
abbrev pub vars_in : Term → List ℕ
vars_in (Literal a) = []
vars_in (Read v) = v ∷ []
vars_in (PartSum slot characteristic) = []
vars_in (PartCount slot) = []
vars_in (Applied' function p a) = vars_in a
vars_in (Joined' operator p a q b) = vars_in a ++ vars_in b

abbrev pub vars_read : Condition → List ℕ
vars_read Always = []
vars_read (Compared r a b) = vars_in a ++ vars_in b
vars_read (IsIn v pieces) = v ∷ []
vars_read (Specified v) = v ∷ []
vars_read (Holds set text) = []
vars_read (Filled set) = []
vars_read (Not' p c) = vars_read c
vars_read (And' p c q d) = vars_read c ++ vars_read d
vars_read (Or' p c q d) = vars_read c ++ vars_read d

-- those of a plan's term and condition by their numbers
abbrev pub vars_of_term : Option Term → List ℕ
vars_of_term None = []
vars_of_term (Some term) = vars_in term

abbrev pub vars_of_condition : Option Condition → List ℕ
vars_of_condition None = []
vars_of_condition (Some c) = vars_read c
