-- The set that is read at the end is that of the last stage.
use Rattle.std.proofs.Common.{◌≡◌, ℕ, zero, suc, ◌+◌, List, [], ◌∷◌, ◌++◌, length, refl, sym, ap, ◌∙◌, arith}
use Rattle.vc_base.specs.Rounds.{Settlement, broken, settled}
use Rattle.vc_plan.specs.declared.atoms.Atom.{Atom}
use Rattle.vc_plan.specs.declared.plans.Plan.{Plan}
use Rattle.vc_plan.specs.Entries.{Entries, no_entries}
use Rattle.vc_plan.specs.Evaluate.{Users, between, broken_at, if_settled, reached, sources_of, stages_from}
use Rattle.vc_plan.specs.Settle.{settlement_of}
use Rattle.vc_plan.specs.StageLaws.{LastStageSettles}
use Rattle.vc_plan.specs.Writes.{last_stage, set_at}

behind : (sets : List (List Atom)) (set : List Atom) → set_at (sets ++ set ∷ []) (length sets) ≡ set
behind [] set = refl
behind (first ∷ sets) set = behind sets set

one_more : (sets : List (List Atom)) (set : List Atom) → length (sets ++ set ∷ []) ≡ length sets + 1
one_more [] set = refl
one_more (first ∷ sets) set = let rest = one_more sets set in omega (arith, rest)

stages_settle : (plan : Plan) (users : Users) (later k : ℕ) (sets all : List (List Atom)) (entries last : Entries)
    → length sets + later ≡ k
    → stages_from plan users later sets entries ≡ reached all last
    → settlement_of plan (sources_of users last) ≡ settled (set_at all k)
stages_settle plan users zero k sets all entries last count ends =
    step (settlement_of plan (sources_of users entries)) refl ends
  where
    step : (s : Settlement Atom) → settlement_of plan (sources_of users entries) ≡ s
        → if_settled s (broken_at (length sets) entries) (λ set. reached (sets ++ set ∷ []) entries) ≡ reached all last
        → settlement_of plan (sources_of users last) ≡ settled (set_at all k)
    step broken is e = absurd (cc e)
    step (settled set) is e =
        let same_sets : sets ++ set ∷ [] ≡ all = cc in
        let same_entries : entries ≡ last = cc in
        let number : length sets ≡ k = omega arith in
        ap (λ written. settlement_of plan (sources_of users written)) (sym same_entries) ∙ is
        ∙ ap settled (sym (behind sets set) ∙ ap (set_at (sets ++ set ∷ [])) number
        ∙ ap (λ found. set_at found k) same_sets)
stages_settle plan users (suc later) k sets all entries last count ends =
    step (settlement_of plan (sources_of users entries))
    (λ set. stages_settle plan users later k (sets ++ set ∷ []) all (between plan users later sets set entries) last
    (let more = one_more sets set in omega (arith, more))) ends
  where
    step : (s : Settlement Atom)
        → ((set : List Atom)
        → stages_from plan users later (sets ++ set ∷ []) (between plan users later sets set entries) ≡ reached all last
        → settlement_of plan (sources_of users last) ≡ settled (set_at all k))
        → if_settled s (broken_at (length sets) entries)
        (λ set. stages_from plan users later (sets ++ set ∷ []) (between plan users later sets set entries))
        ≡ reached all last
        → settlement_of plan (sources_of users last) ≡ settled (set_at all k)
    step broken later_on e = absurd (cc e)
    step (settled set) later_on e = later_on set e

pub last_stage_settles : LastStageSettles
last_stage_settles plan users sets entries ends =
    stages_settle plan users (last_stage plan) (last_stage plan) [] sets (no_entries plan) entries (omega arith) ends
