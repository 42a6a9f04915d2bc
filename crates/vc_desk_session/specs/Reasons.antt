-- What requests for reasons ask about, and how they are answered: each by the evaluation of what the user chose, and
-- by rules that only look at the steps that are told.
use Rattle.std.specs.Prelude.{◌≡◌, ℕ, is_some, if◌then◌else◌, List, [], slice_index_or, Option, None}
use Rattle.std.specs.Prelude.{Some, Result, Ok, Err}
use Rattle.std.specs.List.{find}
use Rattle.std.specs.Option.{ok_or, option_map}
use Rattle.vc_value.specs.declared.value.Value.{Value}
use Rattle.vc_plan.specs.declared.atoms.Atom.{Atom}
use Rattle.vc_plan.specs.declared.atoms.Atom.TheVariants.{Is, Out}
use Rattle.vc_plan.specs.declared.atoms.Clash.{Clash}
use Rattle.vc_plan.specs.declared.atoms.Outcome.TheVariants.{Broken}
use Rattle.vc_plan.specs.declared.atoms.Step.{Step}
use Rattle.vc_plan.specs.declared.plans.Named.{Named}
use Rattle.vc_plan.specs.declared.plans.Named.TheVariants.{Set, Var}
use Rattle.vc_plan.specs.declared.plans.Plan.{Plan}
use Rattle.vc_plan.specs.declared.shown.Status.{Status}
use Rattle.vc_plan.specs.declared.shown.Status.TheVariants.{Complete, Contradiction, Unfinished}
use Rattle.vc_plan.specs.Domains.{count_of, is_grain_with, numbers_below}
use Rattle.vc_plan.specs.Evaluate.{Evaluated, Users, broken_at, evaluation_of, last_set, reached}
use Rattle.vc_plan.specs.Pieces.{lies_in}
use Rattle.vc_plan.specs.Seen.{seen_of}
use Rattle.vc_plan_users.specs.Choosing.{Chosen, users_of}
use Rattle.vc_net_chains.specs.Explaining.{IsClash, IsLog, IsWhy}
use Rattle.vc_wire_replies.specs.declared.reply.Refusal.{Refusal}
use Rattle.vc_wire_replies.specs.declared.reply.Refusal.TheVariants.{NoConflict, NoSession, NotInferred, NotInList}
use Rattle.vc_wire_replies.specs.declared.reply.Refusal.TheVariants.{OutOfMemory}
use Rattle.vc_wire_replies.specs.declared.reply.Reply.{Reply}
use Rattle.vc_wire_replies.specs.declared.reply.Reply.TheVariants.{Chain, Clashed, Hidden, Refused, Shown, Whole}
use Rattle.vc_desk_names.specs.Meant.{value_named}
use Rattle.vc_desk_shown.specs.Standing.{Standing, StandsAs}
use Rattle.vc_desk_session.specs.Edits.{◌>>=◌, named_for}
use Rattle.vc_desk_session.specs.declared.reasons.Question.{Question}
use Rattle.vc_desk_session.specs.declared.reasons.Question.TheVariants as questions

-- the value that a variable has at the end, where no stage is broken
abbrev pub value_after : Plan → Evaluated → ℕ → Option Value
value_after plan (broken_at k entries) v = None
value_after plan (reached sets entries) v = (seen_of (last_set plan sets)).value v

-- `why` asks for a value that the user didn't set, of a variable
abbrev pub value_asked : Plan → Users → Named → Option Atom
value_asked plan users (Var v) =
    if is_some (slice_index_or users.values v None) then None
    else option_map (Is v) (value_after plan (evaluation_of plan users) v)
value_asked plan users (Set s) = None

-- `whynot` asks for the grain of a variable in which the value lies: that it is out
abbrev pub grain_of_value : Plan → ℕ → Value → Option ℕ
grain_of_value plan v a = find (is_grain_with plan v (lies_in a)) (numbers_below (count_of plan v))

abbrev pub grain_asked : Plan → Named → Value → Option Atom
grain_asked plan (Var v) a = option_map (Out v) (grain_of_value plan v a)
grain_asked plan (Set s) a = None

-- by the words of the request, or the first refusal
abbrev pub why_asked : Plan → ℕ → List ℕ → Chosen → Result Atom Refusal
why_asked plan i name chosen = do
  named ← named_for plan i name
  ok_or (value_asked plan (users_of chosen) named) NotInferred

abbrev pub whynot_asked : Plan → ℕ → List ℕ → List ℕ → Result Atom Refusal
whynot_asked plan i name word = do
  named ← named_for plan i name
  a ← ok_or (value_named plan named word) NotInList
  ok_or (grain_asked plan named a) NotInferred

-- reasons for an atom: a chain that is accepted, or that it doesn't follow; memory may be wanting
pub data ExplainsAtom (plan : Plan) (users : Users) (atom : Atom) (reply : Reply) : Type 0 where
  exhausted : reply ≡ Refused OutOfMemory → ExplainsAtom plan users atom reply
  untold : IsWhy plan users atom None → reply ≡ Refused NotInferred → ExplainsAtom plan users atom reply
  told : (steps : List Step) → IsWhy plan users atom (Some steps) → reply ≡ Chain steps
      → ExplainsAtom plan users atom reply

abbrev pub Explains : Plan → Users → Result Atom Refusal → Reply → Type 0
Explains plan users (Err refusal) reply = reply ≡ Refused refusal
Explains plan users (Ok atom) reply = ExplainsAtom plan users atom reply

-- what contradicts: a clash that refutes, and blames whom the outcome blames; where no stage is broken, the
-- precondition that is violated, if one is
abbrev pub reply_without_clash : Status → Reply
reply_without_clash Unfinished = Refused NoConflict
reply_without_clash Complete = Refused NoConflict
reply_without_clash (Contradiction culprit) = Hidden culprit

pub data Conflicts (plan : Plan) (standing : Standing) (reply : Reply) : Type 0 where
  exhausted : reply ≡ Refused OutOfMemory → Conflicts plan standing reply
  clashes : (clash : Clash) → IsClash plan (users_of standing.chosen) (Some clash)
      → standing.outcome ≡ Broken clash.culprit → reply ≡ Clashed clash → Conflicts plan standing reply
  settled : (status : Status) → IsClash plan (users_of standing.chosen) None → StandsAs plan standing status
      → reply ≡ reply_without_clash status → Conflicts plan standing reply

-- all steps of the last stage; where one is broken, its status alone
pub data Logs (plan : Plan) (standing : Standing) (reply : Reply) : Type 0 where
  exhausted : reply ≡ Refused OutOfMemory → Logs plan standing reply
  whole : (steps : List Step) → IsLog plan (users_of standing.chosen) (Some steps) → reply ≡ Whole steps
      → Logs plan standing reply
  broken : (status : Status) → IsLog plan (users_of standing.chosen) None → StandsAs plan standing status
      → reply ≡ Shown status [] → Logs plan standing reply

-- what may be asked of a session beside what it shows: why a characteristic has its value, why a value doesn't remain,
-- what contradicts, and all that follows
pub data Asked : Type 0 where
  Why : ℕ → List ℕ → Asked
  WhyNot : ℕ → List ℕ → List ℕ → Asked
  Conflict : Asked
  Log : Asked

abbrev pub IsAnswerTo : Plan → Asked → Standing → Reply → Type 0
IsAnswerTo plan (Why i characteristic) standing reply =
    Explains plan (users_of standing.chosen) (why_asked plan i characteristic standing.chosen) reply
IsAnswerTo plan (WhyNot i characteristic word) standing reply =
    Explains plan (users_of standing.chosen) (whynot_asked plan i characteristic word) reply
IsAnswerTo plan Conflict standing reply = Conflicts plan standing reply
IsAnswerTo plan Log standing reply = Logs plan standing reply

-- of the session of a name, if one is open
abbrev pub AsksSession : Plan → Asked → Option Standing → Reply → Type 0
AsksSession plan asked None reply = reply ≡ Refused NoSession
AsksSession plan asked (Some standing) reply = IsAnswerTo plan asked standing reply

-- a question by its words
abbrev pub asked_by : Question → Asked
asked_by (questions.Why i characteristic) = Why i characteristic.now
asked_by (questions.WhyNot i characteristic word) = WhyNot i characteristic.now word.now
asked_by questions.Conflict = Conflict
asked_by questions.Log = Log
