-- Rules that come in two lists, one behind the other, and the room that both take.
use Rattle.std.proofs.Common.{◌≡◌, ◌+◌, ◌<◌, List, ◌++◌, length, sym, ap, ◌∙◌, arith, length-append}
use Rattle.vc_plan.specs.declared.rules.Rule.{Rule}
use Rattle.vc_compile_plan.specs.Numbering.{rule_brings, rule_from}
use Rattle.vc_compile_plan.specs.Refusals.{most_rules}
use Rattle.vc_compile_plan.specs.Rules.{Draft}
use Rattle.vc_compile_numbering.specs.Growing.{Numbered, with_drafts}
use Rattle.vc_compile_numbering.proofs.NumberingLaws.{drafts_append, drafts_are_counted}
use Rattle.vc_compile_rules.specs.Adding.{Adds}
use Rattle.vc_compile_rules.specs.declared.adding.Room.{Room}
use Rattle.vc_compile_rules.specs.declared.adding.Room.TheVariants as rooms

pub adds_both : (room : Room) (before now after : Numbered Rule) (first second : List Draft)
    → now ≡ with_drafts rule_brings rule_from before first → Adds room now second after
    → Adds room before (first ++ second) after
adds_both rooms.Enough before now after first second is added =
    added ∙ ap (λ n. with_drafts rule_brings rule_from n second) is
    ∙ sym (drafts_append rule_brings rule_from before first second)
adds_both rooms.TooMany before now after first second is added =
    let counted : length now.items ≡ length before.items + length first
    = ap (λ n. length n.items) is ∙ drafts_are_counted rule_brings rule_from before first in
    let parts = length-append first second in
    omega arith

pub many_more : (before : Numbered Rule) (first second : List Draft) → most_rules < length before.items + length first
    → most_rules < length before.items + length (first ++ second)
many_more before first second many = let parts = length-append first second in omega arith
