-- Rules that are put behind others, unless there are more than a plan may have.
use Rattle.std.specs.Prelude.{◌≡◌, ◌+◌, ◌<◌, List, length, Option, None, Some}
use Rattle.vc_plan.specs.declared.rules.Kind.{Kind}
use Rattle.vc_plan.specs.declared.rules.Rule.{Rule}
use Rattle.vc_compile_plan.specs.Numbering.{demand_terms, kind_from, rule_brings, rule_from}
use Rattle.vc_compile_plan.specs.Refusals.{most_rules}
use Rattle.vc_compile_plan.specs.Rules.{Demand, Draft}
use Rattle.vc_compile_plan.specs.Trees.{Condition, And}
use Rattle.vc_compile_numbering.specs.Growing.{Kept, Numbered, with_drafts, with_terms}
use Rattle.vc_compile_rules.specs.declared.adding.Room.{Room}
use Rattle.vc_compile_rules.specs.declared.adding.Room.TheVariants as room

-- the rules of these drafts come behind the others; or the plan would have too many
abbrev pub Adds : Room → Numbered Rule → List Draft → Numbered Rule → Type 0
Adds room.Enough before drafts after = after ≡ with_drafts rule_brings rule_from before drafts
Adds room.TooMany before drafts after = most_rules < length before.items + length drafts

-- a demand as a kind of rule, with the terms that it brings
pub record IsDemanded (before : Kept) (demand : Demand) (demanded : Kind) (after : Kept) : Type 0 where
  pub kind : demanded ≡ kind_from (length before.terms) demand
  pub kept : after ≡ with_terms before (demand_terms demand)

-- a rule that asks two things asks both
abbrev pub both_asked : Option Condition → Option Condition → Option Condition
both_asked None condition = condition
both_asked (Some left) None = Some left
both_asked (Some left) (Some right) = Some (And left right)
