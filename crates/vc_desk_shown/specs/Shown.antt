-- What `show`, `bill` and `routing` tell of what a user chose: it is read off the evaluation of that.
use Rattle.std.specs.Prelude.{ℕ, Bool, false, is_some, if◌then◌else◌, List, [], ◌∷◌, ◌++◌, codes, length, map}
use Rattle.std.specs.Prelude.{slice_index_or, Option, None, Some}
use Rattle.std.specs.List.{flat_map}
use Rattle.std.specs.Fmt.{decimal}
use Rattle.vc_value.specs.declared.value.Value.{Value}
use Rattle.vc_plan.specs.declared.plans.Named.{Named}
use Rattle.vc_plan.specs.declared.plans.Named.TheVariants.{Var, Set}
use Rattle.vc_plan.specs.declared.plans.Plan.{Plan}
use Rattle.vc_plan.specs.Domains.{numbers_below}
use Rattle.vc_plan.specs.Entries.{Entries, Written, written_at}
use Rattle.vc_plan.specs.Evaluate.{Evaluated, Users, broken_at, evaluation_of, is_late, last_set, reached}
use Rattle.vc_plan.specs.Seen.{Seen, seen_of}
use Rattle.vc_plan.specs.Shown.{bill, reading_of, routing}
use Rattle.vc_bill.specs.Texts.{bill_text, routing_text}
use Rattle.vc_show_rows.specs.declared.rows.Row.{Row}
use Rattle.vc_show_rows.specs.declared.rows.Row.TheVariants.{Valued, Asked, Chosen}
use Rattle.vc_show_rows.specs.Rows.{class_of, named_of, rows_of}
use Rattle.vc_show_rows.specs.Texts.{instance_text, name_of, row_text, text_of, value_text}

-- who gave a variable its value: the user; else a statement, hard or as a default; else it follows
abbrev pub giver_by : Option Written → List ℕ
giver_by None = codes "inferred"
giver_by (Some written) = if written.hard then codes "procedure" else codes "default"

abbrev pub giver_of : Users → Entries → ℕ → List ℕ
giver_of users entries v =
    if is_some (slice_index_or users.values v None) then codes "user" else giver_by (written_at entries v)

abbrev pub row_giver : Users → Entries → Row → List ℕ
row_giver users entries (Valued v a) = giver_of users entries v
row_giver users entries (Asked v pieces required) = []
row_giver users entries (Chosen s texts required) = []

-- the rows of an instance under its line, where it is here
abbrev pub rows_text : Plan → Users → Entries → List Row → List ℕ
rows_text plan users entries rows = flat_map (λ row. row_text plan (row_giver users entries row) row) rows

abbrev pub instance_rows : Plan → Users → Seen → Entries → Bool → ℕ → List ℕ
instance_rows plan users seen entries late i =
    instance_text plan i late ++ rows_text plan users entries (rows_of plan seen (reading_of plan users seen) i)

abbrev pub instance_if_here : Plan → Users → Seen → Entries → List Bool → ℕ → List ℕ
instance_if_here plan users seen entries late i =
    let rows = instance_rows plan users seen entries (slice_index_or late i false) i in if seen.here i then rows else []

-- all instances, by slot
abbrev pub instances_text : Plan → Users → Seen → Entries → List Bool → List ℕ
instances_text plan users seen entries late =
    flat_map (instance_if_here plan users seen entries late) (numbers_below (length plan.slots))

-- what the user set: `user i C = value`, and `user i C { values }`
abbrev pub chosen_value : Plan → ℕ → ℕ → Option Value → List ℕ
chosen_value plan i v None = []
chosen_value plan i v (Some a) =
    codes "user " ++ (decimal i
    ++ (codes " " ++ (name_of plan (Var v) ++ (codes " = " ++ (value_text plan a ++ codes "\n")))))

abbrev pub chosen_set : Plan → ℕ → ℕ → List ℕ → List ℕ
chosen_set plan i s texts =
    codes "user " ++ (decimal i ++ (codes " " ++ (name_of plan (Set s)
    ++ (codes " {" ++ (flat_map (λ t. codes " " ++ text_of plan t) texts ++ codes " }\n")))))

abbrev pub chosen_texts : Plan → ℕ → ℕ → List ℕ → List ℕ
chosen_texts plan i s [] = []
chosen_texts plan i s (t ∷ texts) = chosen_set plan i s (t ∷ texts)

abbrev pub chosen_row : Plan → Users → ℕ → Option Named → List ℕ
chosen_row plan users i None = []
chosen_row plan users i (Some (Var v)) = chosen_value plan i v (slice_index_or users.values v None)
chosen_row plan users i (Some (Set s)) = chosen_texts plan i s (slice_index_or users.texts s [])

-- by slot and class order
abbrev pub chosen_at : Plan → Users → ℕ → List ℕ
chosen_at plan users i = flat_map (λ c. chosen_row plan users i (named_of plan i c)) (class_of plan i)

abbrev pub chosen_text : Plan → Users → List ℕ
chosen_text plan users = flat_map (chosen_at plan users) (numbers_below (length plan.slots))

-- the rows of `show`: all instances of the last stage; where a stage is broken, what the user set
abbrev pub shown_after : Plan → Users → Evaluated → List ℕ
shown_after plan users (broken_at k entries) = chosen_text plan users
shown_after plan users (reached sets entries) =
    instances_text plan users (seen_of (last_set plan sets)) entries
    (map (is_late plan sets) (numbers_below (length plan.slots)))

abbrev pub shown : Plan → Users → List ℕ
shown plan users = shown_after plan users (evaluation_of plan users)

-- the lines of the bill and of the routing
abbrev pub bill_shown : Plan → Users → List ℕ
bill_shown plan users = bill_text plan (bill plan users)

abbrev pub routing_shown : Plan → Users → List ℕ
routing_shown plan users = routing_text plan (routing plan users)
