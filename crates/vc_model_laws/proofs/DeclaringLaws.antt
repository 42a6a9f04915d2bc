-- The names that all lines declare are those of the things that they make.
use Rattle.std.proofs.Common.{◌≡◌, ℕ, false, List, [], ◌++◌, map, option_to_list, Option, Some, None, refl, sym, ◌∙◌}
use Rattle.std.proofs.Common.{append-nil}
use Rattle.std.specs.Prelude.{option_map}
use Rattle.std.proofs.lemmas.Bool.{or_parts}
use Rattle.std.proofs.lemmas.List.{map-id}
use Rattle.vc_syntax_tree.specs.Trees.{Dependency}
use Rattle.vc_model_lines.specs.declared.line.Line.{Line}
use Rattle.vc_model_lines.specs.declared.line.Line.TheVariants as lines
use Rattle.vc_model_lines.specs.declared.line.BlockLine.{BlockLine}
use Rattle.vc_model_lines.specs.declared.line.CharLine.{CharLine}
use Rattle.vc_model_lines.specs.declared.line.NumLine.{NumLine}
use Rattle.vc_model_lines.specs.declared.line.ObjectLine.{ObjectLine}
use Rattle.vc_model_lines.specs.declared.line.TableLine.{TableLine}
use Rattle.vc_model_scope.specs.Contents.{characteristic_of, class_of, table_of, object_of, net_of, dependency_of}
use Rattle.vc_model_scope.specs.Names.{is_among, with_name}
use Rattle.vc_model_scope.specs.Recursions.{declared, with_option}
use Rattle.vc_model_scope.specs.Scope.{scope_of}
use Rattle.vc_model_scope.specs.declared.scope.Scope.{Scope}
use Rattle.vc_model_faults.specs.First.{backwards}
use Rattle.vc_model_faults.specs.Readings.{dependency_reading, dependency_read, reading, tells_unread, is_unread}
use Rattle.vc_model_faults.specs.Readings.{tree_in}
use Rattle.vc_model_faults.specs.Twice.{is_twice}
use Rattle.vc_model_scope.specs.LookAhead.{block_text}
use Rattle.vc_model_drafts.specs.Models.{never, throughout, characteristic_at, class_at, table_at, dependency_at}
use Rattle.vc_model_drafts.specs.Models.{net_at, object_at, model_of}
use Rattle.vc_model_laws.proofs.LineCases.{dependency_made}
use Rattle.vc_model_laws.proofs.NameCases.{by_characteristic, by_class, by_table, by_object, by_net, by_dependency}
use Rattle.vc_model_laws.proofs.NameLemmas.{put_last}
use Rattle.vc_model_laws.proofs.Walks.{Passes, Sound, declared_is, until_maps}

-- where each line that passes adds its name, and makes a thing of this name
declares : {X : Type 0} (f : Line → Option (List ℕ)) (say : ℕ → Line → List Line → Option X) (key : X → List ℕ)
    → ((earlier : List Line) (line : Line) (below : List Line) → Passes (scope_of earlier) line below
    → with_option with_name (declared f earlier) (f line) ≡ declared f earlier ++ option_to_list (f line))
    → ((earlier : List Line) (number : ℕ) (line : Line) (below : List Line) → Passes (scope_of earlier) line below
    → option_map key (say number line below) ≡ option_map (λ name. name) (f line))
    → (ls : List Line) → Sound [] ls → map key (throughout say 1 ls) ≡ declared f (backwards [] ls)
declares f say key adds same ls s =
    until_maps never say key f (λ name. name) same [] 1 ls s ∙ map-id _ ∙ sym (declared_is f adds [] ls s)

-- a name that is added stands above already, or comes last
abbrev pub Adds : (Line → Option (List ℕ)) → List Line → Option (List ℕ) → Type 0
Adds f earlier o = with_option with_name (declared f earlier) o ≡ declared f earlier ++ option_to_list o

new_char : (earlier : List Line) (x : CharLine) → is_twice (scope_of earlier) (lines.Char x) ≡ false
    → is_among (declared characteristic_of earlier) x.name ≡ false
unfolding is_twice scope_of
new_char earlier x once = once

new_num : (earlier : List Line) (x : NumLine) → is_twice (scope_of earlier) (lines.Num x) ≡ false
    → is_among (declared characteristic_of earlier) x.name ≡ false
unfolding is_twice scope_of
new_num earlier x once = once

pub characteristic_add : (earlier : List Line) (line : Line) (below : List Line) → Passes (scope_of earlier) line below
    → Adds characteristic_of earlier (characteristic_of line)
characteristic_add earlier line below s =
    by_characteristic (scope_of earlier) line below (Adds characteristic_of earlier)
    (sym (append-nil (declared characteristic_of earlier)))
    (λ x p. put_last (declared characteristic_of earlier) x.name (new_char earlier x p.once))
    (λ x p. put_last (declared characteristic_of earlier) x.name (new_num earlier x p.once))
    s

new_class : (earlier : List Line) (x : List ℕ) → is_twice (scope_of earlier) (lines.Class x) ≡ false
    → is_among (declared class_of earlier) x ≡ false
unfolding is_twice scope_of
new_class earlier x once = once

pub class_add : (earlier : List Line) (line : Line) (below : List Line) → Passes (scope_of earlier) line below
    → Adds class_of earlier (class_of line)
class_add earlier line below s =
    by_class (scope_of earlier) line below (Adds class_of earlier) (sym (append-nil (declared class_of earlier)))
    (λ x p. put_last (declared class_of earlier) x (new_class earlier x p.once))
    s

new_table : (earlier : List Line) (x : TableLine) → is_twice (scope_of earlier) (lines.Table x) ≡ false
    → is_among (declared table_of earlier) x.name ≡ false
unfolding is_twice scope_of
new_table earlier x once = once

pub table_add : (earlier : List Line) (line : Line) (below : List Line) → Passes (scope_of earlier) line below
    → Adds table_of earlier (table_of line)
table_add earlier line below s =
    by_table (scope_of earlier) line below (Adds table_of earlier) (sym (append-nil (declared table_of earlier)))
    (λ x p. put_last (declared table_of earlier) x.name (new_table earlier x p.once))
    s

new_object : (earlier : List Line) (x : ObjectLine) → is_twice (scope_of earlier) (lines.Object x) ≡ false
    → is_among (declared object_of earlier) x.material ≡ false
unfolding is_twice scope_of
new_object earlier x once = (or_parts _ _ once).0

pub object_add : (earlier : List Line) (line : Line) (below : List Line) → Passes (scope_of earlier) line below
    → Adds object_of earlier (object_of line)
object_add earlier line below s =
    by_object (scope_of earlier) line below (Adds object_of earlier) (sym (append-nil (declared object_of earlier)))
    (λ x p. put_last (declared object_of earlier) x.material (new_object earlier x p.once))
    s

new_net : (earlier : List Line) (x : List ℕ) → is_twice (scope_of earlier) (lines.Net x) ≡ false
    → is_among (declared net_of earlier) x ≡ false
unfolding is_twice scope_of
new_net earlier x once = (or_parts _ _ once).0

pub net_add : (earlier : List Line) (line : Line) (below : List Line) → Passes (scope_of earlier) line below
    → Adds net_of earlier (net_of line)
net_add earlier line below s =
    by_net (scope_of earlier) line below (Adds net_of earlier) (sym (append-nil (declared net_of earlier)))
    (λ x p. put_last (declared net_of earlier) x (new_net earlier x p.once))
    s

new_block : (earlier : List Line) (x : BlockLine) → is_twice (scope_of earlier) (lines.Block x) ≡ false
    → is_among (declared dependency_of earlier) x.name ≡ false
unfolding is_twice scope_of
new_block earlier x once = (or_parts _ _ once).1

pub dependency_add : (earlier : List Line) (line : Line) (below : List Line) → Passes (scope_of earlier) line below
    → Adds dependency_of earlier (dependency_of line)
dependency_add earlier line below s =
    by_dependency (scope_of earlier) line below (Adds dependency_of earlier)
    (sym (append-nil (declared dependency_of earlier)))
    (λ x p. put_last (declared dependency_of earlier) x.name (new_block earlier x p.once))
    s

-- each line makes a thing of the name that it declares
things_named : (a : Scope) (n : ℕ) (line : Line) (below : List Line)
    → (option_map (λ c. c.name) (characteristic_at a n line below) ≡ option_map (λ name. name) (characteristic_of line))
    × (option_map (λ c. c.name) (class_at a n line below) ≡ option_map (λ name. name) (class_of line))
    × (option_map (λ t. t.name) (table_at a n line below) ≡ option_map (λ name. name) (table_of line))
    × (option_map (λ m. m.name) (net_at a n line below) ≡ option_map (λ name. name) (net_of line))
    × (option_map (λ o. o.material) (object_at a n line below) ≡ option_map (λ name. name) (object_of line))
things_named a n lines.Skipped below = (refl, refl, refl, refl, refl)
things_named a n (lines.Inner x) below = (refl, refl, refl, refl, refl)
things_named a n lines.LongInner below = (refl, refl, refl, refl, refl)
things_named a n lines.End below = (refl, refl, refl, refl, refl)
things_named a n (lines.TooLong x) below = (refl, refl, refl, refl, refl)
things_named a n (lines.NoForm x) below = (refl, refl, refl, refl, refl)
things_named a n (lines.Head x) below = (refl, refl, refl, refl, refl)
things_named a n (lines.Char x) below = (refl, refl, refl, refl, refl)
things_named a n (lines.Num x) below = (refl, refl, refl, refl, refl)
things_named a n (lines.Text x) below = (refl, refl, refl, refl, refl)
things_named a n (lines.Interval x) below = (refl, refl, refl, refl, refl)
things_named a n (lines.Uses x) below = (refl, refl, refl, refl, refl)
things_named a n (lines.Class x) below = (refl, refl, refl, refl, refl)
things_named a n (lines.Has x) below = (refl, refl, refl, refl, refl)
things_named a n (lines.Table x) below = (refl, refl, refl, refl, refl)
things_named a n (lines.Column x) below = (refl, refl, refl, refl, refl)
things_named a n (lines.Net x) below = (refl, refl, refl, refl, refl)
things_named a n (lines.Object x) below = (refl, refl, refl, refl, refl)
things_named a n (lines.Bill x) below = (refl, refl, refl, refl, refl)
things_named a n (lines.Operation x) below = (refl, refl, refl, refl, refl)
things_named a n (lines.Block x) below = (refl, refl, refl, refl, refl)
things_named a n (lines.Root x) below = (refl, refl, refl, refl, refl)
things_named a n lines.Action below = (refl, refl, refl, refl, refl)

read_is : (n : ℕ) (x : BlockLine) (tree : Option Dependency) → tells_unread (Some (dependency_reading tree)) ≡ false
    → option_map (λ d. d.name) (option_map (dependency_made n x) (dependency_read (Some (dependency_reading tree))))
    ≡ Some x.name
read_is n x None read = absurd (cc)
read_is n x (Some tree) read = refl

block_named : (n : ℕ) (x : BlockLine) (below : List Line) → is_unread (lines.Block x) below ≡ false
    → option_map (λ d. d.name) (option_map (dependency_made n x) (dependency_read (reading (lines.Block x) below)))
    ≡ Some x.name
unfolding reading is_unread
block_named n x below read = read_is n x (tree_in x.kind (block_text below)) read

dependency_named : (a : Scope) (n : ℕ) (line : Line) (below : List Line) → is_unread line below ≡ false
    → option_map (λ d. d.name) (dependency_at a n line below) ≡ option_map (λ name. name) (dependency_of line)
dependency_named a n lines.Skipped below s = refl
dependency_named a n (lines.Inner x) below s = refl
dependency_named a n lines.LongInner below s = refl
dependency_named a n lines.End below s = refl
dependency_named a n (lines.TooLong x) below s = refl
dependency_named a n (lines.NoForm x) below s = refl
dependency_named a n (lines.Head x) below s = refl
dependency_named a n (lines.Char x) below s = refl
dependency_named a n (lines.Num x) below s = refl
dependency_named a n (lines.Text x) below s = refl
dependency_named a n (lines.Interval x) below s = refl
dependency_named a n (lines.Uses x) below s = refl
dependency_named a n (lines.Class x) below s = refl
dependency_named a n (lines.Has x) below s = refl
dependency_named a n (lines.Table x) below s = refl
dependency_named a n (lines.Column x) below s = refl
dependency_named a n (lines.Net x) below s = refl
dependency_named a n (lines.Object x) below s = refl
dependency_named a n (lines.Bill x) below s = refl
dependency_named a n (lines.Operation x) below s = refl
dependency_named a n (lines.Block x) below s = block_named n x below s
dependency_named a n (lines.Root x) below s = refl
dependency_named a n lines.Action below s = refl

pub characteristics_are : (ls : List Line) → Sound [] ls
    → map (λ c. c.name) (model_of ls).characteristics ≡ declared characteristic_of (backwards [] ls)
characteristics_are ls s =
    let a = scope_of (backwards [] ls) in
    declares characteristic_of (characteristic_at a) (λ c. c.name) characteristic_add
    (λ earlier n line below p. (things_named a n line below).0) ls s

pub classes_are : (ls : List Line) → Sound [] ls
    → map (λ c. c.name) (model_of ls).classes ≡ declared class_of (backwards [] ls)
classes_are ls s =
    let a = scope_of (backwards [] ls) in
    declares class_of (class_at a) (λ c. c.name) class_add (λ earlier n line below p. (things_named a n line below).1)
    ls s

pub tables_are : (ls : List Line) → Sound [] ls
    → map (λ t. t.name) (model_of ls).tables ≡ declared table_of (backwards [] ls)
tables_are ls s =
    let a = scope_of (backwards [] ls) in
    declares table_of (table_at a) (λ t. t.name) table_add (λ earlier n line below p. (things_named a n line below).2)
    ls s

pub nets_are : (ls : List Line) → Sound [] ls → map (λ m. m.name) (model_of ls).nets ≡ declared net_of (backwards [] ls)
nets_are ls s =
    let a = scope_of (backwards [] ls) in
    declares net_of (net_at a) (λ m. m.name) net_add (λ earlier n line below p. (things_named a n line below).3) ls s

pub objects_are : (ls : List Line) → Sound [] ls
    → map (λ o. o.material) (model_of ls).objects ≡ declared object_of (backwards [] ls)
objects_are ls s =
    let a = scope_of (backwards [] ls) in
    declares object_of (object_at a) (λ o. o.material) object_add
    (λ earlier n line below p. (things_named a n line below).4) ls s

pub dependencies_are : (ls : List Line) → Sound [] ls
    → map (λ d. d.name) (model_of ls).dependencies ≡ declared dependency_of (backwards [] ls)
dependencies_are ls s =
    let a = scope_of (backwards [] ls) in
    declares dependency_of (dependency_at a) (λ d. d.name) dependency_add
    (λ earlier n line below p. dependency_named a n line below p.read) ls s
