-- The lines of a chain: what each step concludes, by whom and from which steps, and what ends it.
use Rattle.std.specs.Prelude.{ℕ, Bool, ◌==◌, if◌then◌else◌, List, [], codes, Option, None, Some}
use Rattle.std.specs.Option.{option_copied}
use Rattle.vc_value.specs.Words.{same_ignoring_case}
use Rattle.vc_plan.specs.declared.atoms.Atom.{Atom}
use Rattle.vc_plan.specs.declared.atoms.Atom.TheVariants.{Here, Out, Is}
use Rattle.vc_plan.specs.declared.atoms.Culprit.{Culprit}
use Rattle.vc_plan.specs.declared.atoms.Culprit.TheVariants as culprits
use Rattle.vc_plan.specs.declared.atoms.Origin.{Origin}
use Rattle.vc_plan.specs.declared.atoms.Origin.TheVariants.{Rule, User, Written}
use Rattle.vc_plan.specs.declared.atoms.Step.{Step}
use Rattle.vc_plan.specs.declared.plans.Plan.{Plan}
use Rattle.vc_wire_requests.specs.Requests.{cut_at_space, ◌>>=◌}
use Rattle.vc_wire_chains_lines.specs.Cutting.{after, number_in, numbers_at, part_before, part_behind}
use Rattle.vc_wire_chains_meanings.specs.Meant.{constraint_named, is_writer, last_of, line_numbered, statement_numbered}
use Rattle.vc_wire_chains_meanings.specs.Meant.{variable_named}
use Rattle.vc_wire_chains_lines.specs.Values.{behind_grain, behind_value, grain_ahead, value_ahead}
use Rattle.vc_wire_chains_lines.specs.declared.endings.Ending.{Ending}
use Rattle.vc_wire_chains_lines.specs.declared.places.Place.{Place}

-- whether a word is this one, in letters of either case
abbrev pub is_word : List ℕ → List ℕ → Bool
is_word text word = same_ignoring_case word text

-- `NAME k at W`: a dependency's name, a number and a word, and what follows the space behind it
pub record Stood : Type 0 where
  pub name : List ℕ
  pub number : ℕ
  pub slots : List ℕ
  pub rest : Option (List ℕ)

abbrev pub stood_by : Place → Stood
stood_by place = record {
  name = place.name.now;
  number = place.number;
  slots = place.slots.now;
  rest = option_copied place.rest;
}

abbrev pub place_at : List ℕ → ℕ → List ℕ → Stood
place_at name n text = record {
  name = name;
  number = n;
  slots = part_before 32 text;
  rest = part_behind 32 text;
}

abbrev pub place_of : List ℕ → Option Stood
place_of line = do
  name ← cut_at_space line
  number ← cut_at_space name.1
  n ← number_in number.0
  slots ← after (codes "at ") number.1
  Some (place_at name.0 n slots)

-- a constraint's restriction at its slots, `NAME k at i,j`; a statement at its procedure's slot, `NAME n at i`
abbrev pub constraint_at : Plan → Stood → Option ℕ
constraint_at plan place = do
  slots ← numbers_at 44 place.slots
  constraint_named plan place.name place.number slots

abbrev pub statement_at : Plan → Stood → Option (ℕ × ℕ)
statement_at plan place = do
  i ← number_in place.slots
  statement_numbered plan place.name place.number i

-- `from P`: the numbers of the premises, none where nothing is left of the line
abbrev pub premises_from : List ℕ → Option (List ℕ)
premises_from text = do
  numbers ← after (codes "from ") text
  numbers_at 32 numbers

abbrev pub premises_of : Option (List ℕ) → Option (List ℕ)
premises_of None = Some []
premises_of (Some text) = premises_from text

-- the step to a conclusion by somebody, whose premises are left of the line
abbrev pub step_to : Atom → Origin → Option (List ℕ) → Option Step
step_to conclusion origin rest = do
  premises ← premises_of rest
  Some (record { conclusion = conclusion; origin = origin; premises = premises })

-- `i by line k`: a slot that is here
abbrev pub here_step : Plan → List ℕ → Option Step
here_step plan line = do
  slot ← cut_at_space line
  i ← number_in slot.0
  number ← after (codes "by line ") slot.1
  k ← number_in (part_before 32 number)
  r ← line_numbered plan i k
  step_to (Here i) (Rule r) (part_behind 32 number)

-- `i C`: a variable, and what follows the space behind it
abbrev pub variable_at : Plan → List ℕ → Option (ℕ × List ℕ)
variable_at plan line = do
  slot ← cut_at_space line
  i ← number_in slot.0
  name ← cut_at_space slot.1
  v ← variable_named plan i name.0
  Some (v, name.1)

-- `i C GRAIN by constraint NAME k at i,j`: a grain that is out
abbrev pub out_by : Plan → Atom → List ℕ → Option Step
out_by plan conclusion by = do
  place ← place_of by
  r ← constraint_at plan place
  step_to conclusion (Rule r) place.rest

abbrev pub out_step : Plan → List ℕ → Option Step
out_step plan line = do
  variable ← variable_at plan line
  grain ← grain_ahead plan variable.0 variable.1
  rest ← behind_grain variable.1
  by ← after (codes "by constraint ") rest
  out_by plan (Out variable.0 grain) by

-- who gave a variable its value: a statement that writes it, a constraint, the user or its last grain
abbrev pub writer_if : Plan → ℕ → ℕ → ℕ → Option Origin
writer_if plan v procedure statement =
    if is_writer plan v procedure statement then Some (Written procedure statement) else None

abbrev pub writer_at : Plan → ℕ → Stood → Option Origin
writer_at plan v place = do
  written ← statement_at plan place
  writer_if plan v written.0 written.1

abbrev pub ruled : Option ℕ → Option Origin
ruled r = do
  rule ← r
  Some (Rule rule)

abbrev pub giver_at : Plan → ℕ → List ℕ → Stood → Option Origin
giver_at plan v kind place =
    if is_word (codes "procedure") kind
    then writer_at plan v place
    else (if is_word (codes "constraint") kind then ruled (constraint_at plan place) else None)

-- the step by a dependency of this kind, by the last grain, and by whoever is named
abbrev pub placed_step : Plan → Atom → ℕ → List ℕ → Option (List ℕ) → Option Step
placed_step plan conclusion v kind rest = do
  more ← rest
  place ← place_of more
  origin ← giver_at plan v kind place
  step_to conclusion origin place.rest

abbrev pub last_step : Plan → Atom → ℕ → Option (List ℕ) → Option Step
last_step plan conclusion v rest = do
  r ← last_of plan v
  step_to conclusion (Rule r) rest

abbrev pub given_step : Plan → Atom → ℕ → List ℕ → Option (List ℕ) → Option Step
given_step plan conclusion v kind rest =
    if is_word (codes "user") kind
    then step_to conclusion User rest
    else (if is_word (codes "last") kind
    then last_step plan conclusion v rest
    else placed_step plan conclusion v kind rest)

abbrev pub is_by : Plan → Atom → ℕ → List ℕ → Option Step
is_by plan conclusion v by = given_step plan conclusion v (part_before 32 by) (part_behind 32 by)

-- `i C value by WHOM`: a value
abbrev pub is_step : Plan → List ℕ → Option Step
is_step plan line = do
  variable ← variable_at plan line
  value ← value_ahead plan variable.0 variable.1
  rest ← behind_value variable.1
  by ← after (codes "by ") rest
  is_by plan (Is variable.0 value) variable.0 by

-- what a line says after its number
abbrev pub step_said : Plan → List ℕ → List ℕ → Option Step
step_said plan verb line =
    if is_word (codes "here") verb
    then here_step plan line
    else (if is_word (codes "out") verb
    then out_step plan line
    else (if is_word (codes "is") verb then is_step plan line else None))

-- the step of this number that a line spells
abbrev pub step_behind : Plan → List ℕ → Option Step
step_behind plan line = do
  verb ← cut_at_space line
  step_said plan verb.0 verb.1

abbrev pub step_if : Plan → ℕ → ℕ → List ℕ → Option Step
step_if plan number n line = if n == number then step_behind plan line else None

abbrev pub step_of : Plan → ℕ → List ℕ → Option Step
step_of plan number line = do
  own ← cut_at_space line
  n ← number_in own.0
  step_if plan number n own.1

-- `clash by CULPRIT`: a constraint's rule or a statement that contradicts
abbrev pub blamed : Option ℕ → Option Culprit
blamed r = do
  rule ← r
  Some (culprits.Rule rule)

abbrev pub wrote : Option (ℕ × ℕ) → Option Culprit
wrote w = do
  written ← w
  Some (culprits.Written written.0 written.1)

abbrev pub culprit_at : Plan → List ℕ → Stood → Option Culprit
culprit_at plan kind place =
    if is_word (codes "procedure") kind
    then wrote (statement_at plan place)
    else (if is_word (codes "constraint") kind then blamed (constraint_at plan place) else None)

abbrev pub ending_with : Culprit → Option (List ℕ) → Option Ending
ending_with culprit rest = do
  premises ← premises_of rest
  Some (record { culprit = culprit; premises = premises })

abbrev pub ending_by : Plan → List ℕ → List ℕ → Option Ending
ending_by plan kind text = do
  place ← place_of text
  culprit ← culprit_at plan kind place
  ending_with culprit place.rest

abbrev pub ending_of : Plan → List ℕ → Option Ending
ending_of plan line = do
  by ← after (codes "clash by ") line
  kind ← cut_at_space by
  ending_by plan kind.0 kind.1
