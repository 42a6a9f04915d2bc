-- Objects marked level by level have so many levels below them.
use Rattle.std.proofs.Common.{◌≡◌, ℕ, zero, suc, Bool, true, false, ◌||◌, List, [], ◌∷◌, map, refl}
use Rattle.std.specs.Prelude.{Option, None, Some, slice_get, filter_map, is_some}
use Rattle.std.specs.List.{list_any, cons_option}
use Rattle.vc_model_parts.specs.declared.parts.BillItem.{BillItem}
use Rattle.vc_model_parts.specs.declared.parts.Model.{Model}
use Rattle.vc_model_parts.specs.declared.parts.Object.{Object}
use Rattle.vc_compile_plan.specs.Slots.{bill_in, object_in, has_levels_below, is_too_deep}
use Rattle.vc_compile_slots.specs.Levels.{is_marked, is_marked_if, brings_object, brings_marked, with_components}
use Rattle.vc_compile_slots.specs.Levels.{with_marked}

-- a test of the object of a number
abbrev in_object : (Object → Bool) → Option Object → Bool
in_object test None = false
in_object test (Some object) = test object

marked_object : (test : Object → Bool) (objects : List Object) (o : ℕ)
    → is_marked (map test objects) o ≡ in_object test (slice_get objects o)
marked_object test [] o = refl
marked_object test (object ∷ objects) zero = refl
marked_object test (object ∷ objects) (suc o) = marked_object test objects o

-- a line more
line_marked : (marks : List Bool) (test : ℕ → Bool) → ((c : ℕ) → is_marked marks c ≡ test c)
    → (found : Option ℕ) (rest : List ℕ) (later : Bool) → later ≡ list_any test rest
    → (is_marked_if marks found || later) ≡ list_any test (cons_option found rest)
line_marked marks test same None rest later e = e
line_marked marks test same (Some c) rest later e = rw (same c, e) refl

line_there : (found : Option ℕ) (rest : List ℕ) (later : Bool) → later ≡ list_any (λ c. true) rest
    → (is_some found || later) ≡ list_any (λ c. true) (cons_option found rest)
line_there None rest later e = e
line_there (Some c) rest later e = refl

bill_marked : (marks : List Bool) (test : ℕ → Bool) → ((c : ℕ) → is_marked marks c ≡ test c)
    → (bill : List BillItem)
    → list_any (brings_marked marks) bill ≡ list_any test (filter_map (λ line. object_in line.component) bill)
bill_marked marks test same [] = refl
bill_marked marks test same (line ∷ bill) =
    line_marked marks test same (object_in line.component) (filter_map (λ line. object_in line.component) bill)
    (list_any (brings_marked marks) bill) (bill_marked marks test same bill)

bill_there : (bill : List BillItem)
    → list_any brings_object bill ≡ list_any (λ c. true) (filter_map (λ line. object_in line.component) bill)
bill_there [] = refl
bill_there (line ∷ bill) =
    line_there (object_in line.component) (filter_map (λ line. object_in line.component) bill)
    (list_any brings_object bill) (bill_there bill)

object_marked : (marks : List Bool) (test : ℕ → Bool) → ((c : ℕ) → is_marked marks c ≡ test c)
    → (found : Option Object)
    → in_object (λ object. list_any (brings_marked marks) object.bill) found
    ≡ list_any test (filter_map (λ line. object_in line.component) (bill_in found))
object_marked marks test same None = refl
object_marked marks test same (Some object) = bill_marked marks test same object.bill

object_there : (found : Option Object)
    → in_object (λ object. list_any brings_object object.bill) found
    ≡ list_any (λ c. true) (filter_map (λ line. object_in line.component) (bill_in found))
object_there None = refl
object_there (Some object) = bill_there object.bill

-- a level more
first_level : (model : Model) (o : ℕ) → is_marked (with_components model.objects) o ≡ has_levels_below model 1 o
first_level model o =
    rw (marked_object (λ object. list_any brings_object object.bill) model.objects o)
    (object_there (slice_get model.objects o))

next_level : (model : Model) (n : ℕ) (marks : List Bool) → ((o : ℕ) → is_marked marks o ≡ has_levels_below model n o)
    → (o : ℕ) → is_marked (with_marked marks model.objects) o ≡ has_levels_below model (suc n) o
next_level model n marks same o =
    rw (marked_object (λ object. list_any (brings_marked marks) object.bill) model.objects o)
    (object_marked marks (has_levels_below model n) same (slice_get model.objects o))

four_levels : (model : Model)
    → is_marked (with_marked (with_marked (with_marked (with_components model.objects) model.objects) model.objects)
    model.objects) model.root
    ≡ is_too_deep model
four_levels model =
    next_level model 3 _ (next_level model 2 _ (next_level model 1 _ (first_level model))) model.root

pub too_deep : (model : Model) (one two three four : List Bool) (deep : Bool)
    → one ≡ with_components model.objects
    → two ≡ with_marked one model.objects
    → three ≡ with_marked two model.objects
    → four ≡ with_marked three model.objects
    → deep ≡ is_marked four model.root
    → deep ≡ is_too_deep model
too_deep model one two three four deep a b c d e = rw (e, d, c, b, a) (four_levels model)
