-- That a connection ends, and that its bytes decide where.
use Rattle.std.specs.Prelude.{◌≡◌, ◌≤◌, ◌<◌, ℕ, Bool, true, List}
use Rattle.vc_plan.specs.declared.plans.Plan.{Plan}
use Rattle.vc_desk.specs.States.{State}
use Rattle.vc_http_talk.specs.Talk.{IsOver, Talk, answer_limit}

-- no more messages are answered than the limit
abbrev pub EndsInTime : Type 0
EndsInTime = (plan : Plan) (state : State) (bytes : List ℕ) (count : ℕ) (written : List ℕ) (next : State)
    (rest : List ℕ) (goes : Bool) → Talk plan state bytes count written next rest goes → count ≤ answer_limit

-- and fewer where it goes on behind them
abbrev pub GoesOnBelow : Type 0
GoesOnBelow = (plan : Plan) (state : State) (bytes : List ℕ) (count : ℕ) (written : List ℕ) (next : State)
    (rest : List ℕ) → Talk plan state bytes count written next rest true → count < answer_limit

-- the bytes decide what is left of them behind so many messages, and whether the connection goes on, whatever the
-- messages are answered
abbrev pub BytesDecide : Type 0
BytesDecide = (plan other : Plan) (state begun : State) (bytes : List ℕ) (count : ℕ) (written said : List ℕ)
    (next last : State) (rest left : List ℕ) (goes keeps : Bool)
    → Talk plan state bytes count written next rest goes → Talk other begun bytes count said last left keeps
    → (rest ≡ left) × (goes ≡ keeps)

-- and how many messages are all that is answered
abbrev pub OneEnd : Type 0
OneEnd = (plan other : Plan) (state begun : State) (bytes : List ℕ) (one two : ℕ) (written said : List ℕ)
    (next last : State) (rest left : List ℕ) (goes keeps : Bool)
    → Talk plan state bytes one written next rest goes → IsOver goes rest
    → Talk other begun bytes two said last left keeps → IsOver keeps left
    → one ≡ two
