-- A saved text gives back what was saved, and no text gives what a user may not choose.
use Rattle.std.specs.Prelude.{◌≡◌, ℕ, List, Ok}
use Rattle.vc_plan.specs.declared.plans.Plan.{Plan}
use Rattle.vc_plan.specs.Valid.{IsValid}
use Rattle.vc_plan_users.specs.Choosing.{Chosen}
use Rattle.vc_session.specs.Sessions.{AreUsersOf}
use Rattle.vc_store.specs.Reading.{read_saved}
use Rattle.vc_store.specs.Saving.{saved_text}

-- what a session's user chose is read from the text that it is saved as, by the model of which it was saved
abbrev pub SavedIsRead : Type 0
SavedIsRead =
    (plan : Plan) (chosen : Chosen) → IsValid plan → AreUsersOf plan chosen
    → read_saved plan (saved_text plan chosen) ≡ Ok chosen

-- what is read of any text may be what a session's user chose
abbrev pub ReadMayBeChosen : Type 0
ReadMayBeChosen = (plan : Plan) (text : List ℕ) (chosen : Chosen) → read_saved plan text ≡ Ok chosen
    → AreUsersOf plan chosen
