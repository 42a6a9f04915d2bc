-- What comes of the next message of a connection: of the bytes that are kept, followed by those that the link has.
use Rattle.std.specs.Prelude.{◌≡◌, ⊤, ℕ, List, ◌++◌, Option, Some, None}
use Rattle.vc_outside.specs.Faults.{Raised}
use Rattle.vc_http_routes.specs.Methods.{methods_in}
use Rattle.vc_http_messages.specs.Messages.{Message, MessageOf, cut, refused, whole}
use Rattle.vc_http.specs.declared.turns.Turn.{Turn}
use Rattle.vc_http.specs.declared.turns.Turn.TheVariants as turn

-- the bytes behind a message; where a refused one ends isn't said
abbrev pub IsBehind : Message → List ℕ → Type 0
IsBehind (whole request keep more) rest = more ≡ rest
IsBehind (refused status methods) rest = ⊤
IsBehind cut rest = ⊥

-- a message stands at the front of the bytes: a request is taken, and the rest is what is behind it; one that is
-- refused stays; one for whose request memory was wanting is taken
abbrev pub Takes : List ℕ → List ℕ → Turn → Type 0
Takes bytes rest (turn.Asked request keep) = MessageOf bytes (whole request keep rest)
Takes bytes rest (turn.Bad status allow) = MessageOf bytes (refused status (methods_in allow)) × (rest ≡ bytes)
Takes bytes rest turn.End = ⊥
Takes bytes rest turn.Failed = ⊥
Takes bytes rest turn.OutOfMemory = (message : Message) × MessageOf bytes message × IsBehind message rest

-- or they end before a whole message does, or the link failed: then all of them are there still
abbrev pub Gives : List ℕ → List ℕ → Turn → Type 0
Gives bytes rest (turn.Asked request keep) = Takes bytes rest (turn.Asked request keep)
Gives bytes rest (turn.Bad status allow) = Takes bytes rest (turn.Bad status allow)
Gives bytes rest turn.End = MessageOf bytes cut × (rest ≡ bytes)
Gives bytes rest turn.Failed = rest ≡ bytes
Gives bytes rest turn.OutOfMemory = Takes bytes rest turn.OutOfMemory

-- what comes, by the bytes that were kept and those that the link had left, and what is kept and left then, however
-- the link gave them. Where it doesn't tell them, there are some that it gave
abbrev pub Comes : List ℕ → Option (List ℕ) → List ℕ → Option (List ℕ) → Turn → Type 0
Comes kept None rest left turn = (got : List ℕ) × Gives (kept ++ got) rest turn
Comes kept (Some more) rest None turn = ⊥
Comes kept (Some more) rest (Some left) turn = Gives (kept ++ more) (rest ++ left) turn

-- it fails only where the link's count was raised, and else the count is as it was
abbrev pub RaisesFor : ℕ → ℕ → Turn → Type 0
RaisesFor before now (turn.Asked request keep) = now ≡ before
RaisesFor before now (turn.Bad status allow) = now ≡ before
RaisesFor before now turn.End = now ≡ before
RaisesFor before now turn.Failed = Raised before now
RaisesFor before now turn.OutOfMemory = now ≡ before
