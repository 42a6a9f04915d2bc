-- What comes of a message is the same however its bytes are cut.
use Rattle.std.proofs.Common.{◌≡◌, ℕ, List, [], ◌++◌, length, Option, None, Some, append_assoc}
use Rattle.std.proofs.Common.{ap, refl, sym, subst, ◌∙◌}
use Rattle.std.specs.Io.KnownBytes.{Consumes, IsAtEnd, Keeps}
use Rattle.std.proofs.KnownBytes.{Consumes-kept, Consumes-trans}
use Rattle.vc_outside.proofs.Reading.{no_length}
use Rattle.vc_http_routes.specs.Methods.{methods_in}
use Rattle.vc_http_messages.specs.Laws.{IsSpelled, followed}
use Rattle.vc_http_messages.specs.Messages.{Message, MessageOf, cut, refused, whole}
use Rattle.vc_http_messages.proofs.MessageLaws.{message_more, message_one}
use Rattle.vc_http_responses.proofs.ResponseLaws.{nothing_behind}
use Rattle.vc_http.specs.declared.turns.Turn.{Turn}
use Rattle.vc_http.specs.declared.turns.Turn.TheVariants as turn
use Rattle.vc_http.specs.Turns.{Comes, Gives, IsBehind, Takes}

-- what was read so far: it was taken from the link, and stands behind what was kept
abbrev pub Got : List ℕ → Option (List ℕ) → List ℕ → Option (List ℕ) → Type 0
Got kept more bytes left = (got : List ℕ) × Consumes more left got × (bytes ≡ kept ++ got)

pub begins : (kept : List ℕ) (more : Option (List ℕ)) → Got kept more kept more
begins kept None = ([], tt, sym (nothing_behind kept))
begins kept (Some more) = ([], refl, sym (nothing_behind kept))

-- one read more
pub reads_on : (kept bytes now : List ℕ) (more left later : Option (List ℕ)) → Got kept more bytes left
    → ((got : List ℕ) × Consumes left later got × (now ≡ bytes ++ got)) → Got kept more now later
reads_on kept bytes now more left later (one, first, so_far) (two, second, is) = (
  one ++ two,
  Consumes-trans more left later one two first second,
  is ∙ ap (λ front. front ++ two) so_far ∙ append_assoc kept one two,
)

-- a read that fails takes nothing
pub keeps_on : (kept bytes : List ℕ) (more left later : Option (List ℕ)) → Got kept more bytes left
    → Keeps left later → Got kept more bytes later
keeps_on kept bytes more left later (got, taken, is) same =
    (got, Consumes-kept more left later got taken same, is)

-- a message stays where it stands, whatever follows
taken_more : (bytes rest more : List ℕ) (came : Turn) → Takes bytes rest came
    → Gives (bytes ++ more) (rest ++ more) came
taken_more bytes rest more (turn.Asked request keep) is = message_more bytes more (whole request keep rest) is tt
taken_more bytes rest more (turn.Bad status allow) is =
    (message_more bytes more (refused status (methods_in allow)) is.0 tt, ap (λ xs. xs ++ more) is.1)
taken_more bytes rest more turn.End is = absurd is
taken_more bytes rest more turn.Failed is = absurd is
taken_more bytes rest more turn.OutOfMemory is = by is.0 is.1 is.2
  where
    by : (message : Message) → MessageOf bytes message → IsBehind message rest
        → (later : Message) × MessageOf (bytes ++ more) later × IsBehind later (rest ++ more)
    by (whole request keep behind) is same = (
      whole request keep (behind ++ more),
      message_more bytes more (whole request keep behind) is tt,
      ap (λ xs. xs ++ more) same,
    )
    by (refused status methods) is same =
        (refused status methods, message_more bytes more (refused status methods) is tt, tt)
    by cut is same = absurd same

taken_gives : (bytes rest : List ℕ) (came : Turn) → Takes bytes rest came → Gives bytes rest came
taken_gives bytes rest (turn.Asked request keep) is = is
taken_gives bytes rest (turn.Bad status allow) is = is
taken_gives bytes rest turn.End is = absurd is
taken_gives bytes rest turn.Failed is = absurd is
taken_gives bytes rest turn.OutOfMemory is = is

-- all that was kept and left, by what was read of it
all_of : (kept bytes more left got : List ℕ) → more ≡ got ++ left → bytes ≡ kept ++ got → bytes ++ left ≡ kept ++ more
all_of kept bytes more left got taken is =
    ap (λ xs. xs ++ left) is ∙ append_assoc kept got left ∙ ap (λ xs. kept ++ xs) (sym taken)

pub comes_taken : (kept bytes rest : List ℕ) (more left : Option (List ℕ)) (came : Turn) → Got kept more bytes left
    → Takes bytes rest came → Comes kept more rest left came
comes_taken kept bytes rest None left came (got, taken, is) takes =
    (got, subst (λ xs. Gives xs rest came) is (taken_gives bytes rest came takes))
comes_taken kept bytes rest (Some more) None came (got, taken, is) takes = absurd taken
comes_taken kept bytes rest (Some more) (Some left) came (got, taken, is) takes =
    subst (λ xs. Gives xs (rest ++ left) came) (all_of kept bytes more left got taken is)
    (taken_more bytes rest left came takes)

ended : (kept bytes : List ℕ) (more left : Option (List ℕ)) → Got kept more bytes left → MessageOf bytes cut
    → IsAtEnd left → Comes kept more bytes left turn.End
ended kept bytes None left (got, taken, is) ends none = (got, (subst (λ xs. MessageOf xs cut) is ends, is))
ended kept bytes (Some more) None (got, taken, is) ends none = absurd taken
ended kept bytes (Some more) (Some left) (got, taken, is) ends none =
    let all : bytes ++ left ≡ kept ++ more = all_of kept bytes more left got taken is in
    let same : bytes ++ left ≡ bytes = ap (λ xs. bytes ++ xs) none ∙ nothing_behind bytes in
    (subst (λ xs. MessageOf xs cut) (sym same ∙ all) ends, all)

-- a read that gives nothing, at the end
pub comes_end : (kept bytes now : List ℕ) (more left later : Option (List ℕ)) → Got kept more bytes left
    → MessageOf bytes cut
    → ((got : List ℕ) × Consumes left later got × (now ≡ bytes ++ got) × (length got ≡ 0)) → IsAtEnd later
    → Comes kept more now later turn.End
comes_end kept bytes now more left later so_far ends (got, taken, is, none) done =
    let same : now ≡ bytes = is ∙ ap (λ xs. bytes ++ xs) (no_length got none) ∙ nothing_behind bytes in
    ended kept now more later (reads_on kept bytes now more left later so_far (got, taken, is))
    (subst (λ xs. MessageOf xs cut) (sym same) ends) done

pub comes_failed : (kept bytes : List ℕ) (more left : Option (List ℕ)) → Got kept more bytes left
    → Comes kept more bytes left turn.Failed
comes_failed kept bytes None left (got, taken, is) = (got, is)
comes_failed kept bytes (Some more) None (got, taken, is) = absurd taken
comes_failed kept bytes (Some more) (Some left) (got, taken, is) = all_of kept bytes more left got taken is

-- where the bytes that are there end before a message does, those that were kept spelled none
pub spelled_none : (kept bytes : List ℕ) (more left : Option (List ℕ)) (message : Message) → Got kept more bytes left
    → MessageOf bytes cut → MessageOf kept message → IsSpelled message → ⊥
spelled_none kept bytes more left message (got, taken, is) ends spells spelled =
    by message spelled (message_one (kept ++ got) cut (followed message got) (subst (λ xs. MessageOf xs cut) is ends)
    (message_more kept got message spells spelled))
  where
    by : (message : Message) → IsSpelled message → cut ≡ followed message got → ⊥
    by (whole request keep rest) spelled same = absurd (cc same)
    by (refused status methods) spelled same = absurd (cc same)
    by cut spelled same = spelled
