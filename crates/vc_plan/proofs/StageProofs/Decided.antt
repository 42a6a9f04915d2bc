-- The user's values decide the evaluation: settling looks at sources by variable, and procedures at sets by text.
use Rattle.std.proofs.Common.{◌≡◌, ℕ, zero, suc, List, [], ◌∷◌, ◌++◌, length, refl, ap, ◌∙◌}
use Rattle.std.proofs.Math.Path.{fun_ext}
use Rattle.vc_base.specs.Rounds.{Given, settle}
use Rattle.vc_plan.specs.declared.atoms.Atom.{Atom}
use Rattle.vc_plan.specs.declared.plans.Plan.{Plan}
use Rattle.vc_plan.specs.Answers.{fresh}
use Rattle.vc_plan.specs.Clear.{is_clear}
use Rattle.vc_plan.specs.Domains.{atom_count}
use Rattle.vc_plan.specs.Entries.{Entries, no_entries}
use Rattle.vc_plan.specs.Evaluate.{broken_at, reached, Users, between, holds, if_settled, sources_of, stages_from}
use Rattle.vc_plan.specs.Gives.{Giver, by_rule, by_user, by_entry, gives, givers_of, if_here, value_says}
use Rattle.vc_plan.specs.Seen.{same_atom, seen_of}
use Rattle.vc_plan.specs.Settle.{base, settlement_of}
use Rattle.vc_plan.specs.StageLaws.{ChooseAlike, UsersDecide}
use Rattle.vc_plan.specs.Writes.{depth_writes, last_stage, summing_writes}

gives_same : (plan : Plan) (users others : Users) (entries : Entries) → ChooseAlike users others
    → (giver : Giver) (set : List Atom)
    → gives plan (sources_of users entries) giver (seen_of set)
    ≡ gives plan (sources_of others entries) giver (seen_of set)
gives_same plan users others entries alike (by_rule r) set = refl
gives_same plan users others entries alike (by_user v) set =
    ap (λ a. fresh (seen_of set) (if_here plan (seen_of set) v (value_says v a))) (alike.values v)
gives_same plan users others entries alike (by_entry v) set = refl

settles_same : (plan : Plan) (users others : Users) (entries : Entries) → ChooseAlike users others
    → settlement_of plan (sources_of users entries) ≡ settlement_of plan (sources_of others entries)
settles_same plan users others entries alike =
    ap
    (λ (given : Giver → List Atom → Given Atom).
    settle (record { same = same_atom; is_clear = is_clear plan; gives = given; givers = givers_of plan })
    (atom_count plan) base)
    (fun_ext (λ giver. fun_ext (λ set. gives_same plan users others entries alike giver set)))

holds_same : (users others : Users) → ChooseAlike users others → holds users ≡ holds others
holds_same users others alike = fun_ext (λ set. fun_ext (λ text. alike.texts set text))

between_same : (plan : Plan) (users others : Users) → ChooseAlike users others
    → (later : ℕ) (sets : List (List Atom)) (set : List Atom) (entries : Entries)
    → between plan users later sets set entries ≡ between plan others later sets set entries
between_same plan users others alike zero sets set entries =
    ap (λ h. summing_writes plan h sets set entries) (holds_same users others alike)
between_same plan users others alike (suc later) sets set entries =
    ap (λ h. depth_writes plan h (length sets) set entries) (holds_same users others alike)

stages_same : (plan : Plan) (users others : Users) → ChooseAlike users others
    → (later : ℕ) (sets : List (List Atom)) (entries : Entries)
    → stages_from plan users later sets entries ≡ stages_from plan others later sets entries
stages_same plan users others alike zero sets entries =
    ap (λ s. if_settled s (broken_at (length sets) entries) (λ set. reached (sets ++ set ∷ []) entries))
    (settles_same plan users others entries alike)
stages_same plan users others alike (suc later) sets entries =
    ap
    (λ s. if_settled s (broken_at (length sets) entries)
    (λ set. stages_from plan users later (sets ++ set ∷ []) (between plan users later sets set entries)))
    (settles_same plan users others entries alike)
    ∙ ap (if_settled (settlement_of plan (sources_of others entries)) (broken_at (length sets) entries))
    (fun_ext
    (λ set.
    stages_same plan users others alike later (sets ++ set ∷ []) (between plan users later sets set entries)
    ∙ ap (stages_from plan others later (sets ++ set ∷ []))
    (between_same plan users others alike later sets set entries)))

pub users_decide : UsersDecide
users_decide plan users others alike = stages_same plan users others alike (last_stage plan) [] (no_entries plan)
