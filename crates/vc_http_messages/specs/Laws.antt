-- That bytes spell one message, and that it stays the same whatever bytes follow.
use Rattle.std.specs.Prelude.{◌≡◌, ⊤, List, ℕ, ◌++◌}
use Rattle.vc_http_messages.specs.Messages.{Message, MessageOf, cut, refused, whole}

abbrev pub OneMessage : Type 0
OneMessage = (bytes : List ℕ) (one other : Message) → MessageOf bytes one → MessageOf bytes other → one ≡ other

-- a message with more bytes behind it
abbrev pub IsSpelled : Message → Type 0
IsSpelled (whole request keep rest) = ⊤
IsSpelled (refused status methods) = ⊤
IsSpelled cut = ⊥

abbrev pub followed : Message → List ℕ → Message
followed (whole request keep rest) more = whole request keep (rest ++ more)
followed (refused status methods) more = refused status methods
followed cut more = cut

-- so it doesn't matter how the bytes are cut
abbrev pub CutsDontMatter : Type 0
CutsDontMatter = (bytes more : List ℕ) (message : Message) → MessageOf bytes message → IsSpelled message
    → MessageOf (bytes ++ more) (followed message more)
