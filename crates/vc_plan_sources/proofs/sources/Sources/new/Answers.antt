-- So many of none are seen as so many of none.
use Rattle.std.proofs.Common.{◌≡◌, ℕ, zero, suc, List, ◌∷◌, Option, option_map, map, ap, refl, ◌∙◌, replicate, None}
use Rattle.std.proofs.Common.{length}
use Rattle.vc_value.specs.declared.value.Value.{Value}
use Rattle.vc_plan.specs.declared.atoms.Mark.{Mark}
use Rattle.vc_plan.specs.Sources.{Sources, Entry}
use Rattle.vc_plan_sources.specs.Changes.{entry_from, no_sources}
use Rattle.vc_plan_sources.proofs.sources.Sources.new.Goals as goal

none_seen : (count : ℕ) → map (option_map entry_from) (replicate count None) ≡ replicate count None
none_seen zero = refl
none_seen (suc count) = ap (λ (rest : List (Option Entry)). None ∷ rest) (none_seen count)

begun : (users : List (Option Value)) (entries : List (Option (Mark × ℕ × ℕ))) (m n count : ℕ)
    → users ≡ replicate m None → entries ≡ replicate n None → m ≡ count → n ≡ count
    → (let seen : Sources = record { user = users; written = map (option_map entry_from) entries } in seen)
    ≡ no_sources count
begun users entries m n count u e p q =
    let user : users ≡ replicate count None = u ∙ ap (λ k. replicate k None) p in
    let written : map (option_map entry_from) entries ≡ replicate count None =
    ap (map (option_map entry_from)) (e ∙ ap (λ k. replicate k None) q) ∙ none_seen count in
    ap (λ (told : List (Option Value)). let seen : Sources =
    record { user = told; written = map (option_map entry_from) entries } in seen) user
    ∙ ap (λ (told : List (Option Entry)). let seen : Sources = record { user = replicate count None; written = told } in
    seen) written

pub returns : goal.returns
returns c = begun c.in_ok-users.users c.in_ok-entries.entries c.len.result c.len-2.result (length c.args.plan.now.vars)
    c.in_ok-users.ensures c.in_ok-entries.ensures c.len.ensures c.len-2.ensures
