-- The request that asks for a task.
use Rattle.std.specs.Prelude.{ℕ, List, Option, None, Some}
use Rattle.vc_wire_requests.specs.declared.request.Request.{Request}
use Rattle.vc_wire_requests.specs.declared.request.Request.TheVariants as requests
use Rattle.vc_desk_session.specs.declared.edits.Edit.{Edit}
use Rattle.vc_desk_session.specs.declared.edits.Edit.TheVariants as edits
use Rattle.vc_desk_session.specs.declared.reasons.Question.{Question}
use Rattle.vc_desk_session.specs.declared.reasons.Question.TheVariants as questions
use Rattle.vc_desk_session.specs.declared.telling.Told.{Told}
use Rattle.vc_desk_session.specs.declared.telling.Told.TheVariants as told
use Rattle.vc_desk.specs.declared.tasks.Task.{Task}
use Rattle.vc_desk.specs.declared.tasks.Task.TheVariants as tasks

-- no request replaces all that was chosen by what it tells itself
abbrev pub edit_request : List ℕ → Edit → Option Request
edit_request session (edits.Set i name word) = Some (requests.Set session i name.now word.now)
edit_request session (edits.Add i name word) = Some (requests.Add session i name.now word.now)
edit_request session (edits.Retract i name) = Some (requests.Retract session i name.now)
edit_request session (edits.Drop i name word) = Some (requests.Drop session i name.now word.now)
edit_request session (edits.Restore users) = None

abbrev pub show_request : List ℕ → Told → Request
show_request session told.Rows = requests.Show session
show_request session told.Bill = requests.Bill session
show_request session told.Routing = requests.Routing session

abbrev pub reason_request : List ℕ → Question → Request
reason_request session (questions.Why i name) = requests.Why session i name.now
reason_request session (questions.WhyNot i name word) = requests.WhyNot session i name.now word.now
reason_request session questions.Conflict = requests.Conflict session
reason_request session questions.Log = requests.Log session

abbrev pub request_of : Task → Option Request
request_of (tasks.Start session) = Some (requests.Start session.now)
request_of (tasks.Close session) = Some (requests.Close session.now)
request_of (tasks.Edit session edit) = edit_request session.now edit
request_of (tasks.Tell session what) = Some (show_request session.now what)
request_of (tasks.Explain session question) = Some (reason_request session.now question)
request_of (tasks.Save session name) = Some (requests.Save session.now name.now)
request_of (tasks.Load session name) = Some (requests.Load session.now name.now)
request_of (tasks.Forget name) = Some (requests.Forget name.now)
