-- Chain files: `chain` or `whole`, steps numbered from 1, after `chain` a clash if there is one, and `end`.
use Rattle.std.specs.Prelude.{ℕ, ◌+◌, Bool, true, false, ◌==◌, if◌then◌else◌, List, [], ◌∷◌, ◌++◌, length, codes}
use Rattle.std.specs.Prelude.{Option, None, Some, Result, Ok, Err}
use Rattle.vc_plan.specs.declared.atoms.Step.{Step}
use Rattle.vc_plan.specs.declared.plans.Plan.{Plan}
use Rattle.vc_wire_chains_lines.specs.Cutting.{parts_at}
use Rattle.vc_wire_chains_lines.specs.Steps.{ending_of, is_word, step_of}
use Rattle.vc_wire_chains_lines.specs.declared.endings.Ending.{Ending}
use Rattle.vc_wire_chains.specs.declared.drafts.ChainFile.{ChainFile}
use Rattle.vc_wire_chains.specs.declared.drafts.Draft.{Draft}
use Rattle.vc_wire_chains.specs.declared.drafts.Stage.{Stage}
use Rattle.vc_wire_chains.specs.declared.drafts.Stage.TheVariants.{Stepping, Clashed, Ended}

-- the lines of a text: what stands before each LF, and what follows the last where it isn't empty
abbrev pub without_empty_last : List (List ℕ) → List (List ℕ)
without_empty_last [] = []
without_empty_last (part ∷ []) = if length part == 0 then [] else part ∷ []
without_empty_last (part ∷ (next ∷ parts)) = part ∷ without_empty_last (next ∷ parts)

abbrev pub lines_of : List ℕ → List (List ℕ)
lines_of text = without_empty_last (parts_at 10 text)

-- the first line: whether the file tells all that follows
abbrev pub kind_of : List ℕ → Option Bool
kind_of line =
    if is_word (codes "chain") line then Some false else (if is_word (codes "whole") line then Some true else None)

-- a file of this kind of which no further line is read
abbrev pub begun : Bool → Draft
begun whole = record { stage = Stepping; file = record { whole = whole; steps = []; clash = None } }

-- the file with one more step, with its clash, and at its end
abbrev pub with_step : Draft → Step → Draft
with_step draft step = record {
  stage = draft.stage;
  file = record {
    whole = draft.file.whole;
    steps = draft.file.steps ++ step ∷ [];
    clash = draft.file.clash;
  };
}

abbrev pub with_clash : Draft → Ending → Draft
with_clash draft ending = record {
  stage = Clashed;
  file = record {
    whole = draft.file.whole;
    steps = draft.file.steps;
    clash = Some ending;
  };
}

abbrev pub ended : Draft → Draft
ended draft = record { stage = Ended; file = draft.file }

-- what a line that is allowed makes of it: `end`, a clash, which a whole list hasn't, or the next step
abbrev pub at_end : Draft → List ℕ → Option Draft
at_end draft line = if is_word (codes "end") line then Some (ended draft) else None

abbrev pub clash_if : Draft → Option Ending → Option Draft
clash_if draft None = None
clash_if draft (Some ending) = Some (with_clash draft ending)

abbrev pub at_clash : Plan → Draft → List ℕ → Option Draft
at_clash plan draft line = if draft.file.whole then None else clash_if draft (ending_of plan line)

abbrev pub behind_steps : Plan → Draft → List ℕ → Option Draft
behind_steps plan draft line =
    if is_word (codes "end") line then Some (ended draft) else at_clash plan draft line

abbrev pub step_or : Plan → Draft → List ℕ → Option Step → Option Draft
step_or plan draft line None = behind_steps plan draft line
step_or plan draft line (Some step) = Some (with_step draft step)

abbrev pub at_step : Plan → Draft → List ℕ → Option Draft
at_step plan draft line = step_or plan draft line (step_of plan (length draft.file.steps + 1) line)

abbrev pub next_at : Plan → Draft → List ℕ → Stage → Option Draft
next_at plan draft line Stepping = at_step plan draft line
next_at plan draft line Clashed = at_end draft line
next_at plan draft line Ended = None

abbrev pub next : Plan → Draft → List ℕ → Option Draft
next plan draft line = next_at plan draft line draft.stage

-- the file that all lines spell, behind those that made it what it is so far, or the number of the first that isn't
-- allowed; where lines are wanting, the number behind the last
abbrev pub finished : Draft → ℕ → Stage → Result ChainFile ℕ
finished draft n Stepping = Err n
finished draft n Clashed = Err n
finished draft n Ended = Ok draft.file

abbrev pub or_fault : {A B : Type 0} → ℕ → Option A → (A → Result B ℕ) → Result B ℕ
or_fault n None f = Err n
or_fault n (Some a) f = f a

abbrev pub read_from : Plan → Draft → ℕ → List (List ℕ) → Result ChainFile ℕ
read_from plan draft n [] = finished draft n draft.stage
read_from plan draft n (line ∷ lines) =
    or_fault n (next plan draft line) (λ grown. read_from plan grown (n + 1) lines)

abbrev pub read_kind : Plan → Option Bool → List (List ℕ) → Result ChainFile ℕ
read_kind plan kind lines = or_fault 1 kind (λ whole. read_from plan (begun whole) 2 lines)

abbrev pub chain_in : Plan → List (List ℕ) → Result ChainFile ℕ
chain_in plan [] = Err 1
chain_in plan (head ∷ lines) = read_kind plan (kind_of head) lines

-- the file that a text spells in the plan, or the number of the first line that isn't allowed
abbrev pub chain_of : Plan → List ℕ → Result ChainFile ℕ
chain_of plan text = chain_in plan (lines_of text)
