-- Small valid plans, for facts that the models of the rows don't touch.
use Rattle.std.proofs.Common.{ℕ, ◌+◌, List, [], ◌∷◌, ◌++◌, map, true, false, refl}
use Rattle.std.specs.Prelude.{Some, codes}
use Rattle.vc_value.specs.declared.table_header.Domain.TheVariants.{Texts, Nums}
use Rattle.vc_value.specs.declared.value.Value.{Value}
use Rattle.vc_value.specs.declared.value.Value.TheVariants.{Text}
use Rattle.vc_plan.specs.declared.plans.Line.{Line}
use Rattle.vc_plan.specs.declared.plans.Operation.{Operation}
use Rattle.vc_plan.specs.declared.plans.Plan.{Plan}
use Rattle.vc_plan.specs.declared.plans.Slot.{Slot}
use Rattle.vc_plan.specs.declared.plans.Table.{Table}
use Rattle.vc_plan.specs.declared.plans.TextSet.{TextSet}
use Rattle.vc_plan.specs.declared.plans.Var.{Var}
use Rattle.vc_plan.specs.declared.procedures.Action.{Action}
use Rattle.vc_plan.specs.declared.procedures.Action.TheVariants.{LookUp}
use Rattle.vc_plan.specs.declared.procedures.FilledColumn.{FilledColumn}
use Rattle.vc_plan.specs.declared.procedures.KeyTerm.{KeyTerm}
use Rattle.vc_plan.specs.declared.rules.Kind.TheVariants.{Line as LineRule}
use Rattle.vc_plan.specs.declared.terms.Term.TheVariants.{Literal, Read}
use Rattle.vc_plan.specs.Domains.{numbers_below}
use Rattle.vc_plan.specs.Valid.{IsValid}
use Rattle.vc_plan.proofs.PlanRows.Facts.{valid_from}
use Rattle.vc_plan.proofs.PlanRows.Models.{empty, root, own_rule, last, whole, from_to}
use Rattle.vc_plan.proofs.PlanRows.WholeModels.{listed, object, plain, piece_line, profile, whole_ring, whole_gear}
use Rattle.vc_plan.proofs.StageRows.StageModels.{says}

-- an object and nothing else
abbrev pub bare : Plan
bare = record empty { name = codes "BARE"; objects = object (codes "BARE") [] ∷ []; slots = root ∷ [] }

bare_valid : IsValid bare
bare_valid = valid_from bare refl refl

-- a box with two lids of one object, each with a length, options, a screw and an operation
abbrev pub lid : ℕ → Slot
lid n = record { parent = Some 0; depth = 1; object = 1; line = n }

abbrev pub length_at : ℕ → ℕ → Var
length_at slot domain = record { slot = slot; characteristic = 0; domain = domain; restrictable = false }

abbrev pub options_at : ℕ → ℕ → TextSet
options_at slot domain = record { slot = slot; characteristic = 1; domain = domain }

abbrev pub screw : ℕ → Line
screw slot = record (piece_line 10 (codes "SCREW") 0 []) { slot = slot }

abbrev pub cutting : ℕ → ℕ → Operation
cutting slot n = record { slot = slot; number = n; name = codes "CUT"; unit = codes "MIN"; time = 0; selections = [] }

abbrev pub box : Plan
box = record empty {
  name = codes "BOX";
  texts = codes "A" ∷ codes "B" ∷ [];
  dependencies = codes "C" ∷ [];
  characteristics = listed (codes "LEN") (Nums 0 (from_to 1 9 ∷ [])) ∷ listed (codes "OPT") (Texts (0 ∷ 1 ∷ [])) ∷ [];
  objects = object (codes "BOX") [] ∷ object (codes "LID") (0 ∷ 1 ∷ []) ∷ [];
  domains = Nums 0 (from_to 1 9 ∷ []) ∷ Texts (0 ∷ 1 ∷ []) ∷ [];
  slots = root ∷ lid 0 ∷ lid 1 ∷ [];
  vars = length_at 1 0 ∷ length_at 2 0 ∷ [];
  sets = options_at 1 1 ∷ options_at 2 1 ∷ [];
  terms = Literal (whole 1) ∷ [];
  rules = last 0 ∷ last 1 ∷ own_rule 0 (LineRule 1) ∷ own_rule 0 (LineRule 2) ∷ [];
  lines = piece_line 10 (codes "LID") 0 [] ∷ piece_line 20 (codes "LID") 0 [] ∷ screw 1 ∷ screw 2 ∷ [];
  operations = cutting 1 10 ∷ cutting 2 10 ∷ [];
}

box_valid : IsValid box
box_valid = valid_from box refl refl

-- GEAR with P3 a component of P1: slots 1 and 3 are the root's parts, slot 2 is that of slot 1
abbrev pub deep : List Slot → Plan
deep slots = record whole_gear {
  slots = slots;
  lines =
      piece_line 10 (codes "P1") 0 [] ∷ piece_line 20 (codes "P2") 1 []
      ∷ record (piece_line 10 (codes "P3") 0 []) { slot = 1 } ∷ [];
}

abbrev pub part_of : ℕ → ℕ → ℕ → ℕ → Slot
part_of parent depth object line = record { parent = Some parent; depth = depth; object = object; line = line }

abbrev pub deep_gear : Plan
deep_gear = record (deep (root ∷ part_of 0 1 1 0 ∷ part_of 1 2 3 2 ∷ part_of 0 1 2 1 ∷ [])) { name = codes "DEEP" }

deep_valid : IsValid deep_gear
deep_valid = valid_from deep_gear refl refl

-- RING with A as the key of its table, and B looked up by it
abbrev pub keyed_table : List (List Value) → Table
keyed_table rows = record {
  name = codes "AB";
  columns = record { characteristic = 1; key = true } ∷ plain 2 ∷ [];
  rows = rows;
}

abbrev pub key : ℕ → ℕ → KeyTerm
key column term = record { column = column; term = term }

abbrev pub fills : ℕ → ℕ → FilledColumn
fills column v = record { column = column; var = v }

abbrev pub looking : Action → Plan
looking action = record whole_ring {
  tables = keyed_table ((Text 1 ∷ Text 1 ∷ []) ∷ (Text 2 ∷ Text 2 ∷ []) ∷ []) ∷ [];
  terms = Read 1 ∷ Read 0 ∷ Literal (whole 1) ∷ [];
  procedures = profile 0 (says action 0 ∷ []) ∷ [];
}

abbrev pub keyed : Plan
keyed = looking (LookUp 0 (key 0 0 ∷ []) (fills 1 2 ∷ []))

keyed_valid : IsValid keyed
keyed_valid = valid_from keyed refl refl

-- so many objects, each the one component of the one before
abbrev pub material : ℕ → List ℕ
material n = codes "M" ++ (65 + n) ∷ []

abbrev pub chain_slot : ℕ → Slot
chain_slot n = record { parent = Some n; depth = n + 1; object = n + 1; line = n }

abbrev pub chain_line : ℕ → Line
chain_line n = record (piece_line 10 (material (n + 1)) 0 []) { slot = n }

abbrev pub chain : ℕ → Plan
chain levels = record empty {
  name = codes "CHAIN";
  objects = map (λ n. object (material n) []) (numbers_below (levels + 1));
  slots = root ∷ map chain_slot (numbers_below levels);
  terms = Literal (whole 1) ∷ [];
  rules = map (λ n. own_rule 0 (LineRule (n + 1))) (numbers_below levels);
  lines = map chain_line (numbers_below levels);
}

chain_valid : IsValid (chain 3)
chain_valid = valid_from (chain 3) refl refl

-- so many parts of one object
abbrev pub wheel : ℕ → Plan
wheel spokes = record empty {
  name = codes "WHEEL";
  objects = object (codes "WHEEL") [] ∷ object (codes "SPOKE") [] ∷ [];
  slots = root ∷ map lid (numbers_below spokes);
  terms = Literal (whole 1) ∷ [];
  rules = map (λ n. own_rule 0 (LineRule (n + 1))) (numbers_below spokes);
  lines = map (λ n. piece_line n (codes "SPOKE") 0 []) (numbers_below spokes);
}

wheel_valid : IsValid (wheel 39)
wheel_valid = valid_from (wheel 39) refl refl
