-- What is taken of the bytes, by what was judged of them.
use Rattle.std.proofs.Common.{◌≡◌, ℕ, zero, suc, ◌≤◌, Bool, List, [], ◌∷◌, ◌++◌, ◌-◌, length, drop, take}
use Rattle.std.proofs.Common.{Option, None, Some}
use Rattle.std.proofs.Common.{ap, arith, sym, ◌∙◌, refl}
use Rattle.std.proofs.lemmas.List.{length-drop}
use Rattle.std.proofs.Math.Seq.{take-append_seam}
use Rattle.vc_wire_requests.specs.declared.request.Request.{Request}
use Rattle.vc_http_targets.specs.Asked.{request_for}
use Rattle.vc_http_messages.specs.declared.judging.Judged.TheVariants as judged
use Rattle.vc_http_messages.specs.Messages.{IsJudged, Leaves, MessageOf, Stage, by_request, cut, message_at}
use Rattle.vc_http_messages.specs.Messages.{reading, stage_of, stopped}
use Rattle.vc_http.specs.declared.turns.Turn.TheVariants as turn
use Rattle.vc_http.specs.Turns.{IsBehind, Takes}

pub fewer : (n : ℕ) (xs : List ℕ) → length (drop n xs) ≤ length xs
fewer zero xs = omega arith
fewer (suc n) [] = omega arith
fewer (suc n) (x ∷ xs) = omega (arith, fewer n xs)

-- the front is turned to the end, and cut off there
pub taken_front : (n : ℕ) (xs turned rest : List ℕ) → turned ≡ drop n xs ++ take n xs
    → rest ≡ take (length xs - n) turned → rest ≡ drop n xs
taken_front n xs turned rest turns cuts =
    cuts ∙ ap (λ ys. take (length xs - n) ys) turns
    ∙ ap (λ size. take size (drop n xs ++ take n xs)) (sym (length-drop n xs))
    ∙ take-append_seam (drop n xs) (take n xs)

pub ruleset front_rules = (taken_front, fewer)

pub judged_cut : (bytes : List ℕ) → IsJudged bytes judged.Cut → MessageOf bytes cut
judged_cut bytes (said, head, is) = (said, head, sym is)

pub judged_out : (bytes rest : List ℕ) (size : ℕ) → IsJudged bytes (judged.OutOfMemory size) → rest ≡ drop size bytes
    → Takes bytes rest turn.OutOfMemory
judged_out bytes rest size (said, head, (leaves, fits)) left =
    (message_at (stage_of bytes said), (said, head, refl), by (stage_of bytes said) leaves)
  where
    asked : (keep : Bool) (behind : List ℕ) (request : Option Request) → behind ≡ rest
        → IsBehind (by_request keep behind request) rest
    asked keep behind None is = tt
    asked keep behind (Some request) is = is

    by : (stage : Stage) → Leaves stage (drop size bytes) → IsBehind (message_at stage) rest
    by (stopped message) leaves = absurd leaves
    by (reading verb aim keep body behind) leaves =
        asked keep behind (request_for verb aim body) (leaves ∙ sym left)
