-- The values as JSON, slot by slot, are those of all that is saved.
use Rattle.std.proofs.Common.{◌≡◌, ℕ, ◌+◌, ◌<◌, List, [], ◌∷◌, ◌++◌, length, map, drop, get_or, refl, sym, ap, ◌∙◌}
use Rattle.std.proofs.Common.{append_assoc}
use Rattle.std.specs.List.{flat_map}
use Rattle.std.proofs.lemmas.List.{at_drop_more, map-append}
use Rattle.vc_plan.specs.declared.plans.Plan.{Plan}
use Rattle.vc_plan.specs.Domains.{numbers_below}
use Rattle.vc_plan_users.specs.Choosing.{Chosen}
use Rattle.vc_show_rows.specs.Rows.{class_of, named_of}
use Rattle.vc_store_forms.specs.Forms.{choice_data}
use Rattle.vc_store.specs.Saving.{all_json, choices_at, choices_of, json_at, saved_of}

map_each : {X Y Z : Type 0} (f : Y → Z) (g : X → List Y) (h : X → List Z) → ((x : X) → h x ≡ map f (g x))
    → (xs : List X) → flat_map h xs ≡ map f (flat_map g xs)
map_each f g h same [] = refl
map_each f g h same (x ∷ xs) =
    ap (λ ys. ys ++ flat_map h xs) (same x) ∙ ap (λ ys. map f (g x) ++ ys) (map_each f g h same xs)
    ∙ sym (map-append f (g x) (flat_map g xs))

slot_json : (plan : Plan) (chosen : Chosen) (i : ℕ) → json_at plan chosen i ≡ map choice_data (choices_at plan chosen i)
slot_json plan chosen i =
    map_each choice_data (λ c. choices_of plan chosen i (named_of plan i c))
    (λ c. map choice_data (choices_of plan chosen i (named_of plan i c))) (λ c. refl) (class_of plan i)

pub all_json_is : (plan : Plan) (chosen : Chosen)
    → all_json plan chosen ≡ map choice_data (saved_of plan chosen).choices
all_json_is plan chosen =
    map_each choice_data (choices_at plan chosen) (json_at plan chosen) (slot_json plan chosen)
    (numbers_below (length plan.slots))

-- what is put, with what the elements to come give, is all of it: also when the next has been put
pub walk_rest : {X Y : Type 0} (g : X → List Y) (xs : List X) (i : ℕ) (d : X) (out next whole : List Y)
    → i < length xs → next ≡ out ++ g (get_or xs i d) → out ++ flat_map g (drop i xs) ≡ whole
    → next ++ flat_map g (drop (i + 1) xs) ≡ whole
walk_rest g xs i d out next whole low put so_far =
    let rest = flat_map g (drop (i + 1) xs) in
    ap (λ ys. ys ++ rest) put ∙ append_assoc out (g (get_or xs i d)) rest
    ∙ sym (at_drop_more (λ ys. out ++ flat_map g ys) xs i d low) ∙ so_far
