-- Lists of entries, as they are kept and as they are seen.
use Rattle.std.proofs.Common.{◌≡◌, ℕ, zero, suc, ◌+◌, ◌<◌, ◌≤◌, List, [], ◌∷◌, ◌++◌, length, map, drop, replicate, refl}
use Rattle.std.proofs.Common.{sym, ◌∙◌, ap, arith}
use Rattle.std.specs.Prelude.{Option, None, option_map, slice_get, slice_index_or, slice_set}
use Rattle.std.proofs.lemmas.List.{length-map, length-set, map-set, set_past}
use Rattle.vc_plan.specs.declared.plans.Plan.{Plan}
use Rattle.vc_plan.specs.declared.plans.Var.{Var}
use Rattle.vc_plan.specs.Entries.{Entries, no_entries, with_entry}
use Rattle.vc_plan.specs.Entries as entries
use Rattle.vc_proc.specs.declared.overlay.Written.{Written}
use Rattle.vc_proc.specs.Overlays.{written_from}

pub read_past : {A : Type 0} (xs : List A) (i : ℕ) (d : A) → slice_get xs i ≡ None → d ≡ slice_index_or xs i d
read_past [] i d e = refl
read_past (x ∷ xs) zero d e = absurd (cc)
read_past (x ∷ xs) (suc i) d e = read_past xs i d e

none_seen : (n : ℕ) → map (option_map written_from) (replicate n None) ≡ replicate n None
none_seen zero = refl
none_seen (suc n) = ap (λ (rest : List (Option entries.Written)). None ∷ rest) (none_seen n)

-- nothing for so many variables
abbrev pub none_for : ℕ → Entries
none_for n = replicate n None

pub none_each : (vars : List Var) → none_for (length vars) ≡ map (λ x. None) vars
none_each [] = refl
none_each (x ∷ vars) = ap (λ (rest : List (Option entries.Written)). None ∷ rest) (none_each vars)

pub begun : (plan : Plan) (list : List (Option Written)) (n : ℕ) → list ≡ replicate n None → n ≡ length plan.vars
    → map (option_map written_from) list ≡ no_entries plan
begun plan list n e same =
    ap (map (option_map written_from)) e ∙ (none_seen n ∙ (ap none_for same ∙ none_each plan.vars))

pub entered : (list after : List (Option Written)) (seen : Entries) (v : ℕ) (w : Option Written)
    → map (option_map written_from) list ≡ seen
    → after ≡ slice_set list v w → map (option_map written_from) after ≡ with_entry v (option_map written_from w) seen
entered list after seen v w is e =
    ap (map (option_map written_from)) e
    ∙ (map-set (option_map written_from) list v w ∙ ap (with_entry v (option_map written_from w)) is)

pub past_entered : (seen : Entries) (v : ℕ) (w : Option entries.Written) → length seen ≤ v → seen ≡ with_entry v w seen
past_entered seen v w past = sym (set_past seen v w past)

-- those so far are none
cleared_next : (old : List (Option Written)) (n : ℕ) → n < length old
    → slice_set (replicate n None ++ drop n old) n None ≡ replicate (suc n) None ++ drop (suc n) old
cleared_next [] n below = absurd (omega (arith, below))
cleared_next (x ∷ old) zero below = refl
cleared_next (x ∷ old) (suc n) below =
    ap (λ (rest : List (Option Written)). None ∷ rest) (cleared_next old n (omega (arith, below)))

pub cleared_step : (old list after : List (Option Written)) (n : ℕ) → n < length old
    → list ≡ replicate n None ++ drop n old → length list ≡ length old
    → after ≡ slice_set list n None → (after ≡ replicate (n + 1) None ++ drop (n + 1) old) × (length after ≡ length old)
cleared_step old list after n below so_far long e =
    let one : suc n ≡ n + 1 = omega arith in (
      e ∙ (ap (λ (xs : List (Option Written)). slice_set xs n None) so_far
          ∙ (cleared_next old n below ∙ ap (λ k. replicate k None ++ drop k old) one)),
      ap length e ∙ (length-set list n None ∙ long),
    )

pub cleared : (list after : List (Option Written)) (seen : Entries) → map (option_map written_from) list ≡ seen
    → after ≡ replicate (length list) None
    → map (option_map written_from) after ≡ replicate (length seen) None
cleared list after seen is e =
    let long : length list ≡ length seen = sym (length-map list (option_map written_from)) ∙ ap length is in
    ap (map (option_map written_from)) e ∙ (none_seen (length list) ∙ ap (λ k. replicate k None) long)
