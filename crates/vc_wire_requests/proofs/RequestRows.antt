-- Lines and the requests that they spell, and lines that spell none.
use Rattle.std.proofs.Common.{◌≡◌, ℕ, [], ap, arith, refl}
use Rattle.std.specs.Prelude.{◌≢◌, Option, None, Some, codes, slice_index_or}
use Rattle.std.specs.Fmt.{digits}
use Rattle.vc_wire_requests.specs.Requests.{fields_text, line_text, request_of}
use Rattle.vc_wire_requests.specs.declared.request.Request.{Request}
use Rattle.vc_wire_requests.specs.declared.request.Request.TheVariants as requests

opens : request_of (codes "open desk-1") ≡ Some (requests.Start (codes "desk-1"))
opens = refl

-- the case of a verb and of a characteristic doesn't count, that of a session and of a value does
sets : request_of (codes "SET Desk 0 size Xl") ≡ Some (requests.Set (codes "Desk") 0 (codes "SIZE") (codes "Xl"))
sets = refl

-- a value is the rest of the line: with its spaces, or nothing
sets_words : request_of (codes "add a 12 C  two words ")
    ≡ Some (requests.Add (codes "a") 12 (codes "C") (codes " two words "))
sets_words = refl

sets_nothing : request_of (codes "drop a 999999999 C ") ≡ Some (requests.Drop (codes "a") 999999999 (codes "C") [])
sets_nothing = refl

retracts : request_of (codes "retract a 10 _c") ≡ Some (requests.Retract (codes "a") 10 (codes "_C"))
retracts = refl

shows : request_of (codes "show a") ≡ Some (requests.Show (codes "a"))
shows = refl

bills : request_of (codes "bill a") ≡ Some (requests.Bill (codes "a"))
bills = refl

routes : request_of (codes "routing a") ≡ Some (requests.Routing (codes "a"))
routes = refl

closes : request_of (codes "close a") ≡ Some (requests.Close (codes "a"))
closes = refl

-- why a value stands, or can't; what contradicts; all that follows
asks_why : request_of (codes "Why a 0 motor") ≡ Some (requests.Why (codes "a") 0 (codes "MOTOR"))
asks_why = refl

asks_why_not : request_of (codes "WHYNOT a 0 motor e 1")
    ≡ Some (requests.WhyNot (codes "a") 0 (codes "MOTOR") (codes "e 1"))
asks_why_not = refl

asks_what_contradicts : request_of (codes "conflict a") ≡ Some (requests.Conflict (codes "a"))
asks_what_contradicts = refl

asks_all : request_of (codes "log a") ≡ Some (requests.Log (codes "a"))
asks_all = refl

-- of a value that stands it is asked without one, of another with it
why_with_a_value : request_of (codes "why a 0 C x") ≡ None
why_with_a_value = refl

why_not_without : request_of (codes "whynot a 0 C") ≡ None
why_not_without = refl

conflict_at : request_of (codes "conflict a 0 C") ≡ None
conflict_at = refl

-- a byte of what follows the verb
abbrev byte_asked : ℕ → Option Request → ℕ
byte_asked place None = 0
byte_asked place (Some request) = slice_index_or (fields_text request) place 0

-- the session comes first, and the name under which its values are saved keeps its case
saves : request_of (codes "SAVE Desk My-1_x") ≡ Some (requests.Save (codes "Desk") (codes "My-1_x"))
saves = refl

loads : request_of (codes "Load a b") ≡ Some (requests.Load (codes "a") (codes "b"))
loads = refl

saved_first : request_of (codes "load a b") ≢ Some (requests.Load (codes "b") (codes "a"))
saved_first e = let first : 97 ≡ 98 = ap (byte_asked 0) e in absurd (omega (arith, first))

name_in_upper_case : request_of (codes "save a b") ≢ Some (requests.Save (codes "a") (codes "B"))
name_in_upper_case e = let name : 98 ≡ 66 = ap (byte_asked 2) e in absurd (omega (arith, name))

loads_for_saves : request_of (codes "save a b") ≢ Some (requests.Load (codes "a") (codes "b"))
loads_for_saves e = absurd (cc e)

-- what is forgotten is of no session
forgets : request_of (codes "forget B") ≡ Some (requests.Forget (codes "B"))
forgets = refl

forgets_of_a_session : request_of (codes "forget a b") ≡ None
forgets_of_a_session = refl

-- one name each, spelled as a session's name is, and nothing behind it
saves_without : request_of (codes "save a") ≡ None
saves_without = refl

saves_no_name : request_of (codes "save a ") ≡ None
saves_no_name = refl

saves_more : request_of (codes "save a b c") ≡ None
saves_more = refl

loads_behind : request_of (codes "load a b ") ≡ None
loads_behind = refl

saves_of_no_session : request_of (codes "save a.b c") ≡ None
saves_of_no_session = refl

loads_no_name : request_of (codes "load a b.c") ≡ None
loads_no_name = refl

forgets_no_name : request_of (codes "forget b/c") ≡ None
forgets_no_name = refl

forgets_nothing : request_of (codes "forget ") ≡ None
forgets_nothing = refl

-- words are separated by one space each, and none is left out
two_spaces : request_of (codes "open  a") ≡ None
two_spaces = refl

behind : request_of (codes "open a ") ≡ None
behind = refl

alone : request_of (codes "show") ≡ None
alone = refl

no_value : request_of (codes "set a 0 C") ≡ None
no_value = refl

more_words : request_of (codes "retract a 0 C x") ≡ None
more_words = refl

-- an instance's number has no leading zero, no sign and at most nine digits
zeros : request_of (codes "set a 00 C x") ≡ None
zeros = refl

leading_zero : request_of (codes "set a 01 C x") ≡ None
leading_zero = refl

sign : request_of (codes "set a -1 C x") ≡ None
sign = refl

ten_digits : request_of (codes "set a 1000000000 C x") ≡ None
ten_digits = refl

no_number : request_of (codes "set a  C x") ≡ None
no_number = refl

-- what is no name
no_session : request_of (codes "open a.b") ≡ None
no_session = refl

no_characteristic : request_of (codes "set a 0 1C x") ≡ None
no_characteristic = refl

no_verb : request_of (codes "opens a") ≡ None
no_verb = refl

-- as requests are written
written_set : line_text (requests.Set (codes "a") 12 (codes "SIZE") (codes "L x")) ≡ codes "set a 12 SIZE L x"
unfolding digits
written_set = refl

written_start : line_text (requests.Start (codes "a")) ≡ codes "open a"
written_start = refl

written_retract : line_text (requests.Retract (codes "a") 0 (codes "SIZE")) ≡ codes "retract a 0 SIZE"
unfolding digits
written_retract = refl

written_why : line_text (requests.Why (codes "a") 0 (codes "SIZE")) ≡ codes "why a 0 SIZE"
unfolding digits
written_why = refl

written_why_not : line_text (requests.WhyNot (codes "a") 7 (codes "SIZE") (codes "L")) ≡ codes "whynot a 7 SIZE L"
unfolding digits
written_why_not = refl

written_conflict : line_text (requests.Conflict (codes "a")) ≡ codes "conflict a"
written_conflict = refl

written_log : line_text (requests.Log (codes "a")) ≡ codes "log a"
written_log = refl

written_save : line_text (requests.Save (codes "a") (codes "Mine")) ≡ codes "save a Mine"
written_save = refl

written_load : line_text (requests.Load (codes "a") (codes "Mine")) ≡ codes "load a Mine"
written_load = refl

written_forget : line_text (requests.Forget (codes "Mine")) ≡ codes "forget Mine"
written_forget = refl
