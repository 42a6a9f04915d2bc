-- What is meant is there, and may be given.
use Rattle.std.specs.Prelude.{◌≡◌, ◌<◌, ℕ, true, List, length, None, Some}
use Rattle.vc_value.specs.declared.value.Value.{Value}
use Rattle.vc_plan.specs.declared.plans.Named.{Named}
use Rattle.vc_plan.specs.declared.plans.Plan.{Plan}
use Rattle.vc_plan.specs.Valid.{IsValid}
use Rattle.vc_session.specs.Edits.{may_be_given}
use Rattle.vc_desk_names.specs.Meant.{characteristic_named, find_named, value_named}

-- a value of the list may be given
abbrev pub ListedMayBeGiven : Type 0
ListedMayBeGiven = (plan : Plan) (named : Named) (word : List ℕ) (a : Value) → value_named plan named word ≡ Some a
    → may_be_given plan named a ≡ true

-- a slot of a valid plan has a variable or a set for each characteristic of its class, so a name means nothing only
-- where
-- no characteristic of the class is called so
abbrev pub OwnNamesAreMeant : Type 0
OwnNamesAreMeant = (plan : Plan) (i : ℕ) (name : List ℕ) → IsValid plan → i < length plan.slots
    → find_named plan i name ≡ None
    → characteristic_named plan i name ≡ None
