-- What an edit makes of the open sessions: this is chosen in its own, and all others stand as before.
use Rattle.std.proofs.Common.{◌≡◌, ◌∙◌, ℕ, false, List, ap, cond}
use Rattle.std.specs.Prelude.{Option, Some}
use Rattle.std.specs.Cmp.Lexicographic.{nat_list_cmp_total}
use Rattle.std.specs.FinMap.{get, get-insert}
use Rattle.std.specs.Option.{option_map}
use Rattle.vc_outside.proofs.NameLaws.{is_name}
use Rattle.vc_plan.specs.declared.plans.Plan.{Plan}
use Rattle.vc_plan_users.specs.Choosing.{Chosen}
use Rattle.vc_wire_replies.specs.declared.reply.Refusal.{Refusal}
use Rattle.vc_wire_replies.specs.declared.reply.Reply.{Reply}
use Rattle.vc_wire_replies.specs.declared.reply.Reply.TheVariants.{Refused}
use Rattle.vc_desk_shown.specs.Standing.{Standing}
use Rattle.vc_desk.specs.Editing.{Becomes}
use Rattle.vc_desk.specs.States.{OpenSessions, standing_in}
use Rattle.vc_desk.proofs.ConflictLaws.{stands_there}

abbrev chosen_there : Option Standing → Option Chosen
chosen_there found = option_map (λ standing. standing.chosen) found

module _ (plan : Plan) (sessions next : OpenSessions) (name : List ℕ) (chosen : Chosen) (reply : Reply)
    (becomes : Becomes plan sessions name chosen reply next) where
  chosen_in_its_own : chosen_there (standing_in next name) ≡ Some chosen
  chosen_in_its_own =
      ap (λ s. chosen_there (standing_in s name)) becomes.put
      ∙ ap chosen_there (stands_there sessions name becomes.standing)
      ∙ ap Some becomes.its

  others_stand : (q : List ℕ) → is_name q name ≡ false → standing_in next q ≡ standing_in sessions q
  others_stand q other =
      ap (λ s. standing_in s q) becomes.put
      ∙ get-insert nat_list_cmp_total sessions name becomes.standing q
      ∙ ap (λ b. cond b (Some becomes.standing) (get sessions q)) other

  -- slips: an edit that is done is told as refused
  refused_and_done : (refusal : Refusal) → reply ≡ Refused refusal → ⊥
  refused_and_done refusal refused = let said = becomes.said in cc
