-- How much room a yield needs for what the rules of a plan say.
use Rattle.std.specs.Prelude.{ℕ, ◌+◌, ◌*◌, ◌==◌, if◌then◌else◌, max, List, [], ◌∷◌, length, slice_get, Option, None}
use Rattle.std.specs.Prelude.{Some}
use Rattle.vc_value.specs.declared.table_header.Domain.{Domain}
use Rattle.vc_plan.specs.declared.plans.Plan.{Plan}
use Rattle.vc_plan.specs.declared.plans.Table.{Table}
use Rattle.vc_plan.specs.declared.rules.Kind.{Kind}
use Rattle.vc_plan.specs.declared.rules.Kind.TheVariants.{Among, Compare, Equate, ByTable, Never, Last, Line}
use Rattle.vc_plan.specs.declared.rules.Rule.{Rule}
use Rattle.vc_plan.specs.Domains.{count_of, grains_in}
use Rattle.vc_plan.specs.Reads.{vars_of_condition, vars_of_term}
use Rattle.vc_plan.specs.Restrictions.{lone_inferred}
use Rattle.vc_plan.specs.TableRows.{rows_of}
use Rattle.vc_rule_yield.specs.Yielding.{Rooms}
use Rattle.vc_rule.specs.declared.rooms.Room.{Room}

-- the room as a yield has it
abbrev pub room_in : Room → Rooms
room_in room = record { cites = room.cites; atoms = room.atoms; premises = room.premises }

-- the greater of each
abbrev pub greater : Rooms → Rooms → Rooms
greater a b = record { cites = max a.cites b.cites; atoms = max a.atoms b.atoms; premises = max a.premises b.premises }

-- the slots of a rule and each reading of a variable by its condition; a variable that is read twice counts twice
abbrev pub acting_reads : Plan → Rule → ℕ
acting_reads plan rule = length rule.slots + length (vars_of_condition (slice_get plan.conditions rule.condition))

-- the same of two terms
abbrev pub sides_reads : Plan → ℕ → ℕ → ℕ
sides_reads plan a b = length (vars_of_term (slice_get plan.terms a)) + length (vars_of_term (slice_get plan.terms b))

-- the grains of a variable, if there is one, and of all of a list
abbrev pub lone_grains : Plan → Option ℕ → ℕ
lone_grains plan None = 0
lone_grains plan (Some v) = count_of plan v

abbrev pub grains_in_all : Plan → List ℕ → ℕ
grains_in_all plan [] = 0
grains_in_all plan (v ∷ vs) = count_of plan v + grains_in_all plan vs

-- Room for a clash or so many conclusions: each follows from the common premises, and so many lists of premises of
-- their own come beside these
abbrev pub room_by : ℕ → ℕ → ℕ → ℕ → Rooms
room_by common own atoms lists =
    record { cites = common + own; atoms = atoms; premises = (atoms + 1) * common + lists * own }

-- Compare: the grains of a side follow from the values of the other alone, or the others of them are cited once
abbrev pub comparison_room : Plan → Rule → ℕ → ℕ → ℕ → Rooms
comparison_room plan rule acting a b =
    let grains = lone_grains plan (lone_inferred plan rule a) + lone_grains plan (lone_inferred plan rule b) in
    room_by (acting + sides_reads plan a b) grains grains 1

-- Table: the grains of each inferred variable cite each row once
abbrev pub table_room : Plan → Rule → ℕ → ℕ → Rooms
table_room plan rule acting table =
    room_by acting (length (rows_of plan table)) (grains_in_all plan rule.inferred) (length rule.inferred + 1)

-- what a rule of the kind needs
abbrev pub room_of_kind : Plan → Rule → Kind → Rooms
room_of_kind plan rule (Among v restriction) = room_by (acting_reads plan rule) (count_of plan v) (count_of plan v) 1
room_of_kind plan rule (Compare r a b) = comparison_room plan rule (acting_reads plan rule) a b
room_of_kind plan rule (Equate a b) = room_by (acting_reads plan rule + sides_reads plan a b) 0 2 0
room_of_kind plan rule (ByTable table columns) = table_room plan rule (acting_reads plan rule) table
room_of_kind plan rule Never = room_by (acting_reads plan rule) 0 0 0
room_of_kind plan rule (Last v) = room_by (acting_reads plan rule) (count_of plan v + 1) 1 1
room_of_kind plan rule (Line i) = room_by (acting_reads plan rule) 1 1 1

-- what each of the rules needs
abbrev pub rooms_of_rules : Plan → List Rule → Rooms
rooms_of_rules plan [] = record { cites = 0; atoms = 0; premises = 0 }
rooms_of_rules plan (rule ∷ rules) = greater (room_of_kind plan rule rule.kind) (rooms_of_rules plan rules)

abbrev pub rooms_of : Plan → Rooms
rooms_of plan = rooms_of_rules plan plan.rules

-- the most rows of a table, and the most grains of a domain, with what is the most before
abbrev pub most_rows : ℕ → List Table → ℕ
most_rows most [] = most
most_rows most (table ∷ tables) = most_rows (max most (length table.rows)) tables

abbrev pub most_grains : ℕ → List Domain → ℕ
most_grains most [] = most
most_grains most (domain ∷ domains) = most_grains (max most (length (grains_in (Some domain)))) domains

-- as many keys as there are texts, or grains of a domain, if there is a table
abbrev pub keys_for : Plan → ℕ
keys_for plan = if length plan.tables == 0 then 0 else max (length plan.texts) (most_grains 0 plan.domains)
