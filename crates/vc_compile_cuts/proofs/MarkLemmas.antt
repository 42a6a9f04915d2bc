-- Marks of lists that are joined.
use Rattle.std.proofs.Common.{◌≡◌, ◌<◌, ◌+◌, ℕ, suc, List, ◌∷◌, ◌++◌, length, map, flat_map, get_or, drop, sym, ap}
use Rattle.std.proofs.Common.{◌∙◌, arith, append_assoc}
use Rattle.std.proofs.Math.Seq.{drop-cons}
use Rattle.std.proofs.lemmas.Grind.{flat_map-append}
use Rattle.std.proofs.lemmas.List.{map-append}
use Rattle.vc_compile_plan.specs.Cuts.{Mark}
use Rattle.vc_compile_cuts.specs.Marks.{marks_seen}
use Rattle.vc_compile_cuts.specs.declared.marks.Mark.{Mark as Kept}

pub ruleset joins = (map-append, flat_map-append)

-- the marks of an element more
pub next_marks : {X Y : Type 0} (f : Y → List Mark) (v : X → Y) (xs : List X) (i : ℕ) (x : X) (out after : List Kept)
    (all : List Mark)
    → i < length xs → x ≡ get_or xs i x → marks_seen after ≡ marks_seen out ++ f (v x)
    → marks_seen out ++ flat_map f (map v (drop i xs)) ≡ all
    → marks_seen after ++ flat_map f (map v (drop (i + 1) xs)) ≡ all
next_marks f v xs i x out after all inside is put so_far =
    let next : i + 1 ≡ suc i = omega arith in
    ap (λ ms. ms ++ flat_map f (map v (drop (i + 1) xs))) put
    ∙ append_assoc (marks_seen out) (f (v x)) (flat_map f (map v (drop (i + 1) xs)))
    ∙ ap (λ y. marks_seen out ++ (f (v y) ++ flat_map f (map v (drop (i + 1) xs)))) is
    ∙ ap (λ n. marks_seen out ++ flat_map f (map v (get_or xs i x ∷ drop n xs))) next
    ∙ ap (λ ys. marks_seen out ++ flat_map f (map v ys)) (sym (drop-cons xs i x inside))
    ∙ so_far
