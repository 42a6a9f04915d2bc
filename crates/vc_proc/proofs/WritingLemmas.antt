-- Marks tell which values lie in grains, and so which entries are made and taken away.
use Rattle.std.proofs.Common.{◌≡◌, ℕ, Bool, true, false, not, ◌&&◌, [], ◌∷◌, refl, sym, ◌∙◌, ap}
use Rattle.std.specs.Prelude.{if◌then◌else◌, Option, None, Some, is_none}
use Rattle.std.proofs.lemmas.Bool.{and_parts}
use Rattle.vc_base.specs.Rounds.{atoms, clash}
use Rattle.vc_value.specs.declared.value.Value.{Value}
use Rattle.vc_plan.specs.declared.atoms.Atom.TheVariants.{Is}
use Rattle.vc_plan.specs.declared.atoms.Mark.{Mark}
use Rattle.vc_plan.specs.declared.atoms.Mark.TheVariants.{Held, Outside}
use Rattle.vc_plan.specs.declared.plans.Plan.{Plan}
use Rattle.vc_plan.specs.Domains.{count_of, grains_of, is_grain_with, numbers_below}
use Rattle.vc_plan.specs.Entries.{Entries, Written, is_soft, value_of_mark, with_entry, written_at}
use Rattle.vc_plan.specs.Pieces.{lies_in, lies_in_some, same_value}
use Rattle.vc_plan.specs.Restrictions.{assigned}
use Rattle.vc_plan.specs.Seen.{Seen, is_left, is_value}
use Rattle.vc_plan.specs.Statements.{Place, entered, fitted, is_default_of, mark_of, takes_default, with_default}
use Rattle.vc_plan.specs.Statements.{without_default}
use Rattle.vc_plan.specs.TableRows.{has_left}
use Rattle.vc_plan.proofs.PlanLaws.Atoms.{value_exact}
use Rattle.vc_plan.proofs.PlanLaws.Lists.{any_grows}
use Rattle.vc_rule_sides.specs.Assigning.{assigned_given}
use Rattle.vc_rule_sides.specs.declared.assigning.Assigned.{Assigned}
use Rattle.vc_rule_sides.specs.declared.assigning.Assigned.TheVariants.{Nothing, NoGrain, To}
use Rattle.vc_rule_table.specs.Cells.{grain_holds}
use Rattle.vc_rule_table.proofs.CellLemmas.{some_holds}
use Rattle.vc_proc.specs.Overlays.{EntriesLie, held_by}
use Rattle.vc_proc.specs.Writing.{mark_for}

-- what a variable is to have, told as a mark
pub mark_is : (plan : Plan) (v : ℕ) (a : Value) (x : Assigned) → assigned_given x ≡ assigned plan v a
    → mark_for x ≡ mark_of plan v a
mark_is plan v a x e = by (lies_in_some (grains_of plan v) a) x e
  where
    by : (b : Bool) (x : Assigned) → assigned_given x ≡ (if b then atoms (Is v a ∷ []) else clash)
        → mark_for x ≡ (if b then Held a else Outside)
    by true Nothing e = absurd (cc)
    by true NoGrain e = absurd (cc)
    by true (To w b) e = cc
    by false Nothing e = refl
    by false NoGrain e = refl
    by false (To w b) e = absurd (cc)

pub held_is : (plan : Plan) (v : ℕ) (b f : Value) → Held f ≡ mark_of plan v b → f ≡ b
held_is plan v b f e = by (lies_in_some (grains_of plan v) b) e
  where
    by : (c : Bool) → Held f ≡ (if c then Held b else Outside) → f ≡ b
    by true e = cc
    by false e = absurd (cc)

outside_is : (plan : Plan) (v : ℕ) (b : Value) → Outside ≡ mark_of plan v b → lies_in_some (grains_of plan v) b ≡ false
outside_is plan v b e = by (lies_in_some (grains_of plan v) b) e
  where
    by : (c : Bool) → Outside ≡ (if c then Held b else Outside) → c ≡ false
    by true e = absurd (cc)
    by false e = refl

pub held_lies : (plan : Plan) (v : ℕ) (b a : Value) → mark_of plan v b ≡ Held a
    → lies_in_some (grains_of plan v) a ≡ true
held_lies plan v b a e = by (lies_in_some (grains_of plan v) b) refl e
  where
    by : (c : Bool) → lies_in_some (grains_of plan v) b ≡ c → (if c then Held b else Outside) ≡ Held a
        → lies_in_some (grains_of plan v) a ≡ true
    by true k e = let same : b ≡ a = cc in ap (lies_in_some (grains_of plan v)) (sym same) ∙ k
    by false k e = absurd (cc)

-- a value that a grain left of the variable holds lies in a grain
pub left_lies : (plan : Plan) (seen : Seen) (v : ℕ) (a : Value) → has_left plan seen v a ≡ true
    → lies_in_some (grains_of plan v) a ≡ true
left_lies plan seen v a e =
    sym (some_holds (grains_of plan v) a)
    ∙ any_grows (λ g. is_left plan seen v g && is_grain_with plan v (lies_in a) g) (grain_holds (grains_of plan v) a)
    (λ g k. (and_parts (is_left plan seen v g) (is_grain_with plan v (lies_in a) g) k).1)
    (numbers_below (count_of plan v)) e

not_left : (plan : Plan) (seen : Seen) (v : ℕ) (a : Value) → lies_in_some (grains_of plan v) a ≡ false
    → has_left plan seen v a ≡ false
not_left plan seen v a e = by (has_left plan seen v a) (left_lies plan seen v a)
  where
    by : (b : Bool) → (b ≡ true → lies_in_some (grains_of plan v) a ≡ true) → b ≡ false
    by true f = absurd (let lies = f refl in cc)
    by false f = refl

last_fails : (x y z : Bool) → z ≡ false → (x && y && z) ≡ false
last_fails true true z e = e
last_fails true false z e = refl
last_fails false y z e = refl

-- a default is entered by what is held, and where nothing is, nothing is entered
pub default_held : (plan : Plan) (seen : Seen) (place : Place) (v : ℕ) (a f : Value) (old new : Entries)
    → Held f ≡ mark_of plan v (fitted plan v a)
    → new ≡ (if takes_default plan seen v f old then with_entry v (entered place (Held f) false) old else old)
    → new ≡ with_default plan seen place v a old
default_held plan seen place v a f old new e k =
    k ∙ ap (λ b. if takes_default plan seen v b old then with_entry v (entered place (Held b) false) old else old)
    (held_is plan v (fitted plan v a) f e)

pub default_outside : (plan : Plan) (seen : Seen) (place : Place) (v : ℕ) (a : Value) (old : Entries)
    → Outside ≡ mark_of plan v (fitted plan v a) → old ≡ with_default plan seen place v a old
default_outside plan seen place v a old e =
    let b = fitted plan v a in
    let none = not_left plan seen v b (outside_is plan v b e) in
    let fails : takes_default plan seen v b old ≡ false
    = last_fails (is_none (seen.value v)) (is_soft (written_at old v)) (has_left plan seen v b) none in
    sym (ap (λ t. if t then with_entry v (entered place (Held b) false) old else old) fails)

-- and so is a default taken away
pub removed_held : (plan : Plan) (v : ℕ) (a f : Value) (old new : Entries)
    → Held f ≡ mark_of plan v (fitted plan v a)
    → new ≡ (if is_default_of f (written_at old v) then with_entry v None old else old)
    → new ≡ without_default plan v a old
removed_held plan v a f old new e k =
    k ∙ ap (λ b. if is_default_of b (written_at old v) then with_entry v None old else old)
    (held_is plan v (fitted plan v a) f e)

pub removed_outside : (plan : Plan) (v : ℕ) (a : Value) (old : Entries) → EntriesLie plan old
    → Outside ≡ mark_of plan v (fitted plan v a) → old ≡ without_default plan v a old
removed_outside plan v a old lie e =
    let b = fitted plan v a in
    sym (ap (λ t. if t then with_entry v None old else old)
    (by (written_at old v) (λ c k. lie v c k) (outside_is plan v b e)))
  where
    apart : (c : Value) (t : Bool) → same_value (fitted plan v a) c ≡ t → lies_in_some (grains_of plan v) c ≡ true
        → lies_in_some (grains_of plan v) (fitted plan v a) ≡ false → t ≡ false
    apart c true k lies out =
        absurd (let same = ap (lies_in_some (grains_of plan v)) (value_exact (fitted plan v a) c k) in cc)
    apart c false k lies out = refl

    none_of : (hard : Bool) (mark : Mark)
        → ((c : Value) → value_of_mark mark ≡ Some c → lies_in_some (grains_of plan v) c ≡ true)
        → lies_in_some (grains_of plan v) (fitted plan v a) ≡ false
        → (not hard && is_value (fitted plan v a) (value_of_mark mark)) ≡ false
    none_of true mark f out = refl
    none_of false (Held c) f out = apart c (same_value (fitted plan v a) c) refl (f c refl) out
    none_of false Outside f out = refl

    by : (o : Option Written) → ((c : Value) → held_by o ≡ Some c → lies_in_some (grains_of plan v) c ≡ true)
        → lies_in_some (grains_of plan v) (fitted plan v a) ≡ false → is_default_of (fitted plan v a) o ≡ false
    by None f out = refl
    by (Some w) f out = none_of w.hard w.mark f out
