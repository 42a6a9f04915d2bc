-- What a plan is made of stands in the model without a fault: drafts by where their trees stand.
use Rattle.std.proofs.Common.{◌≡◌, ℕ, zero, suc, ◌+◌, ◌<◌, inl, inr, Bool, true, false, ◌&&◌, nat_lt, List, [], ◌∷◌}
use Rattle.std.proofs.Common.{◌++◌, length, map, flat_map, Option, Some, None, refl, sym, ap, ◌∙◌, arith, subst}
use Rattle.std.specs.Prelude.{◌==◌, option_map, slice_get}
use Rattle.std.specs.List.{cons_option, list_all, list_any}
use Rattle.std.proofs.lemmas.Bool.{and_parts, eq-eqb, lt-ltb, or_right}
use Rattle.std.proofs.lemmas.Option.{slice_get_within}
use Rattle.vc_model_parts.specs.declared.parts.BillItem.{BillItem}
use Rattle.vc_model_parts.specs.declared.parts.Characteristic.{Characteristic}
use Rattle.vc_model_parts.specs.declared.parts.Model.{Model}
use Rattle.vc_model_parts.specs.declared.parts.NamedDependency.{NamedDependency}
use Rattle.vc_model_parts.specs.declared.parts.Object.{Object}
use Rattle.vc_model_parts.specs.declared.parts.Operation as parts
use Rattle.vc_plan.specs.Domains.{numbers_below}
use Rattle.vc_plan.specs.declared.conditions.Piece.{Piece}
use Rattle.vc_plan.specs.declared.plans.Named.{Named}
use Rattle.vc_plan.specs.declared.plans.Slot.{Slot}
use Rattle.vc_plan.specs.declared.procedures.Trigger.{Trigger}
use Rattle.vc_plan.specs.declared.procedures.Trigger.TheVariants.{Anyway}
use Rattle.vc_syntax_tree.specs.declared.Object as declared
use Rattle.vc_syntax_tree.specs.declared.ObjectKind.{ObjectKind}
use Rattle.vc_syntax_tree.specs.declared.ObjectKind.TheVariants as objects
use Rattle.vc_syntax_tree.specs.Trees as syntax
use Rattle.vc_types.specs.Faults.{fault_of}
use Rattle.vc_types.specs.Looking.{class_in, class_named, object_named}
use Rattle.vc_types.specs.Settings.{is_constraint}
use Rattle.vc_types.specs.declared.place.At.{At}
use Rattle.vc_types.specs.declared.place.At.TheVariants as at
use Rattle.vc_types.specs.declared.place.Place.{Place}
use Rattle.vc_compile_plan.specs.Layouts.{Layout, layout_of, object_at, tree_of}
use Rattle.vc_compile_plan.specs.Places.{Asked, asked_by, characteristic_site, place_at, precondition_in}
use Rattle.vc_compile_plan.specs.Places.{preconditions_among, selection_in, selections_among, site_at, statements_in}
use Rattle.vc_compile_plan.specs.Procedures.{ProcedureDraft, entries_in, procedure_at, procedure_drafts}
use Rattle.vc_compile_plan.specs.Procedures.{procedures_among, procedures_at, profile_in, trigger_of}
use Rattle.vc_compile_plan.specs.Procedures.{uses_in as characteristic_uses, value_procedures}
use Rattle.vc_compile_plan.specs.Rules.{Draft, constraint_drafts, constraints_drafts, drafts_of_line, drafts_of_slot}
use Rattle.vc_compile_plan.specs.Rules.{last, last_drafts, line, line_draft, line_drafts, line_drafts_from, own_draft}
use Rattle.vc_compile_plan.specs.Rules.{restriction_draft, restriction_drafts, rule_drafts, slot_drafts_from}
use Rattle.vc_compile_plan.specs.Shown.{GuardDraft, ItemDraft, RequirementDraft, choice_at, entries_of, guard_drafts}
use Rattle.vc_compile_plan.specs.Shown.{guards_among, guards_at, guards_of, is_configurable, line_at}
use Rattle.vc_compile_plan.specs.Shown.{line_drafts as bill_drafts, operation_at, operation_drafts, operations_in}
use Rattle.vc_compile_plan.specs.Shown.{requirement_drafts, requirements_at, requirements_of}
use Rattle.vc_compile_plan.specs.Sites.{named_at}
use Rattle.vc_compile_plan.specs.Slots.{bill_if, bill_in, bill_of, slot_of, slots_of, standings_of}
use Rattle.vc_compile_plan.specs.Tuples.{are_different, are_of_kinds, are_parts_met, are_same, is_of_kind, tuples_of}
use Rattle.vc_compile_plan.specs.Uses.{active_constraints, is_active, is_one_of, is_used, object_of_slot}
use Rattle.vc_compile_plan.specs.Uses.{stands_somewhere, uses_of_characteristic, uses_of_members, uses_of_object}
use Rattle.vc_compile_plan.specs.Variables.{members_if, members_of}
use Rattle.vc_compile_plan.specs.declared.standings.Standing.{Standing}
use Rattle.vc_compile_valid.proofs.EachLaws.{Each, each_at, each_both, each_by_slot, each_flat, each_joined, each_left}
use Rattle.vc_compile_valid.proofs.EachLaws.{each_mapped, each_more, each_of_all}
use Rattle.vc_compile_valid.proofs.ListLaws.{any_there, passes_there}
use Rattle.vc_compile_valid.proofs.NamedLaws.{each_among}
use Rattle.vc_compile_valid.proofs.PlacedLaws.{IsPart, IsPlacedBelow, placed_at, slot_at}
use Rattle.vc_compile_valid.proofs.SlotwiseLaws.{below_count}
use Rattle.vc_compile_meant.specs.Scopes.{IsTyped}
use Rattle.vc_compile_meant.proofs.ComponentLaws.{configurable_is}
use Rattle.vc_compile_meant.proofs.FaultLaws.{IsTypedAt, each_here, each_split, each_unflat}
use Rattle.vc_compile_meant.proofs.ProcedureLaws.{own_uses}
use Rattle.vc_compile_meant.proofs.ScopeLaws.{precondition_is, selection_is}
use Rattle.vc_compile_meant.proofs.SoundLaws.{IsSoundLine, IsSoundOperation, line_place, operation_place, own_place}
use Rattle.vc_compile_meant.proofs.SoundLaws.{sound_at}
use Rattle.vc_compile_meant.proofs.TupleLaws.{IsOfNet, each_of_nets}
use Rattle.vc_compile_origins.specs.Trees.{TreesPass}
use Rattle.vc_compile_origins.proofs.Origins.{IsQuantity, IsTime, IsTreeOf, StandsAt, StandsIn}

-- what passes of each tree of the model
dependency_passes : (test : syntax.Dependency → Bool) (model : Model) → TreesPass test model
    → (tree : syntax.Dependency) (d : ℕ)
    → tree_of model d ≡ Some tree → test tree ≡ true
dependency_passes test model pass tree d e = by (slice_get model.dependencies d) refl
  where
    by : (o : Option NamedDependency) → slice_get model.dependencies d ≡ o → test tree ≡ true
    by None f = absurd (let gone : None ≡ Some tree = sym (ap (option_map (λ named. syntax.dependency_of named.tree)) f)
        ∙ e in cc)
    by (Some x) f =
        let same : Some (syntax.dependency_of x.tree) ≡ Some tree =
        sym (ap (option_map (λ named. syntax.dependency_of named.tree)) f) ∙ e in
        let one : syntax.dependency_of x.tree ≡ tree = cc in
        sym (ap test one)
        ∙ passes_there (λ named. test (syntax.dependency_of named.tree)) model.dependencies d x pass.dependencies f

quantity_passes : (test : syntax.Dependency → Bool) (model : Model) → TreesPass test model → (tree : syntax.Dependency)
    → IsQuantity model tree → test tree ≡ true
quantity_passes test model pass tree q = by (slice_get model.objects q.object) refl q.listed
  where
    by : (o : Option Object) → slice_get model.objects q.object ≡ o → slice_get (bill_in o) q.place ≡ Some q.item
        → test tree ≡ true
    by None f listed = absurd (cc)
    by (Some object) f listed =
        ap test q.counts
        ∙ passes_there (λ item. test (syntax.Counts (syntax.term_of item.quantity.value))) object.bill q.place q.item
        (passes_there (λ x. list_all (λ item. test (syntax.Counts
        (syntax.term_of item.quantity.value))) x.bill) model.objects q.object
        object pass.quantities f) listed

time_passes : (test : syntax.Dependency → Bool) (model : Model) → TreesPass test model → (tree : syntax.Dependency)
    → IsTime model tree → test tree ≡ true
time_passes test model pass tree q = by (slice_get model.objects q.object) refl q.listed
  where
    by : (o : Option Object) → slice_get model.objects q.object ≡ o
        → slice_get (operations_in o) q.place ≡ Some q.operation
        → test tree ≡ true
    by None f listed = absurd (cc)
    by (Some object) f listed =
        ap test q.counts
        ∙ passes_there (λ operation. test (syntax.Counts
        (syntax.term_of operation.time.value))) object.operations q.place q.operation
        (passes_there (λ x. list_all (λ operation. test
        (syntax.Counts (syntax.term_of operation.time.value))) x.operations) model.objects
        q.object object pass.times f) listed

pub tree_passes : (test : syntax.Dependency → Bool) (model : Model) → TreesPass test model → (tree : syntax.Dependency)
    → IsTreeOf model tree → test tree ≡ true
tree_passes test model pass tree (inl x) = dependency_passes test model pass tree x.0 x.1
tree_passes test model pass tree (inr (inl q)) = quantity_passes test model pass tree q
tree_passes test model pass tree (inr (inr q)) = time_passes test model pass tree q

-- a dependency that is used, and has no fault where it is
abbrev IsUsedAt : Model → (syntax.Dependency → Place) → ℕ → Type 0
IsUsedAt model place d = IsTypedAt model place d × (is_used (layout_of model) d ≡ true)

-- what is asked by uses that are typed: the condition of a dependency without a fault
record IsAskedAt (model : Model) (made : syntax.Condition → syntax.Dependency) (place : syntax.Dependency → Place)
    (a : Asked) : Type 0 where
  used : is_used (layout_of model) a.dependency ≡ true
  tree : tree_of model a.dependency ≡ Some (made a.condition)
  sound : fault_of model (place (made a.condition)) (made a.condition) ≡ None

asked_found : (condition_in : Option syntax.Dependency → Option syntax.Condition) (made : syntax.Condition
    → syntax.Dependency)
    → ((tree : syntax.Dependency) (c : syntax.Condition) → condition_in (Some tree) ≡ Some c → tree ≡ made c)
    → condition_in None ≡ None
    → (model : Model) (place : syntax.Dependency → Place) (uses : List ℕ) → Each (IsUsedAt model place) uses
    → Each (IsAskedAt model made place) (asked_by condition_in model uses)
asked_found condition_in made of none model place [] h = tt
asked_found condition_in made of none model place (d ∷ uses) h =
    by (tree_of model d) refl h.0 (condition_in (tree_of model d)) refl
    (asked_found condition_in made of none model place uses h.1)
  where
    by : (tree : Option syntax.Dependency) → tree_of model d ≡ tree → IsUsedAt model place d
        → (o : Option syntax.Condition)
        → condition_in (tree_of model d) ≡ o → Each (IsAskedAt model made place) (asked_by condition_in model uses)
        → Each (IsAskedAt model made place)
        (cons_option (option_map (λ condition. record { dependency = d; condition = condition }) o)
        (asked_by condition_in model uses))
    by tree e typed None f more = more
    by None e typed (Some c) f more = absurd (let gone : None ≡ Some c = sym none ∙ ap condition_in (sym e) ∙ f in cc)
    by (Some tree) e typed (Some c) f more =
        let same = of tree c (ap condition_in (sym e) ∙ f) in (
          record {
            used = typed.1;
            tree = e ∙ ap Some same;
            sound = subst (λ t. fault_of model (place t) t ≡ None) same (typed.0 tree e);
          },
          more,
        )

-- a precondition, and a selection condition, that stands at a slot
pub record StandsAsked (model : Model) (made : syntax.Condition → syntax.Dependency) (i : ℕ) (slot : Slot) (at : At)
    (a : Asked)
    : Type 0 where
  pub tree : tree_of model a.dependency ≡ Some (made a.condition)
  pub stands : StandsAt model i slot at (made a.condition)

preconditions_stand : (model : Model) (i : ℕ) (slot : Slot) → slice_get (slots_of model) i ≡ Some slot → (uses : List ℕ)
    → Each (IsUsedAt model (own_place model slot)) uses
    → Each (StandsAsked model syntax.Precondition i slot at.Characteristic) (preconditions_among model uses)
preconditions_stand model i slot there uses typed =
    each_more (IsAskedAt model syntax.Precondition (own_place model slot))
    (StandsAsked model syntax.Precondition i slot at.Characteristic)
    (λ a h. record {
      tree = h.tree;
      stands = record {
        there = there;
        apart = refl;
        sound = h.sound;
        setting = refl;
        acts = λ e. absurd (cc);
        origin = inl (a.dependency, h.tree, h.used);
      };
    }) (preconditions_among model uses)
    (asked_found precondition_in syntax.Precondition precondition_is refl model (own_place model slot) uses typed)

selections_stand : (model : Model) (i : ℕ) (slot : Slot) → slice_get (slots_of model) i ≡ Some slot → (at : At)
    → is_constraint at ≡ false → (place : syntax.Dependency → Place)
    → ((c : syntax.Condition) → place (syntax.Selection c) ≡ place_at (layout_of model) slot at) → (uses : List ℕ)
    → Each (IsUsedAt model place) uses → Each (StandsAsked model syntax.Selection i slot at)
    (selections_among model uses)
selections_stand model i slot there at apart place same uses typed =
    each_more (IsAskedAt model syntax.Selection place) (StandsAsked model syntax.Selection i slot at)
    (λ a h. record {
      tree = h.tree;
      stands = record {
        there = there;
        apart = apart;
        sound = subst (λ p. fault_of model p (syntax.Selection a.condition) ≡ None) (same a.condition) h.sound;
        setting = refl;
        acts = λ e. absurd (cc);
        origin = inl (a.dependency, h.tree, h.used);
      };
    }) (selections_among model uses)
    (asked_found selection_in syntax.Selection selection_is refl model place uses typed)

no_front : (k : ℕ) → k ≡ 0 + k
no_front k = omega arith

one_more : (n k : ℕ) → n + suc k ≡ suc n + k
one_more n k = omega arith

no_more : (n : ℕ) → n + 0 ≡ n
no_more n = omega arith

-- what stands at a slot's object
record UsesAt (P : ℕ → Type 0) (model : Model) (slot : Slot) : Type 0 where
  profile : Each P (profile_in (slice_get model.objects slot.object))
  members : Each (λ c. Each P (uses_of_characteristic (slice_get model.characteristics c)))
      (members_of model slot.object)
  lines : Each (λ item. Each P item.uses) (bill_in (slice_get model.objects slot.object))
  operations : Each (λ x. Each P x.uses) (operations_in (slice_get model.objects slot.object))

object_uses : (P : ℕ → Type 0) (model : Model) (slot : Slot)
    → Each P (uses_of_object model (slice_get model.objects slot.object))
    → UsesAt P model slot
object_uses P model slot h = by (slice_get model.objects slot.object) refl h
  where
    members_same : (o : Option Object) → slice_get model.objects slot.object ≡ o
        → members_of model slot.object ≡ members_if model (class_in o)
    members_same o e = ap (λ x. members_if model (class_in x)) e

    by : (o : Option Object) → slice_get model.objects slot.object ≡ o → Each P (uses_of_object model o)
        → UsesAt P model slot
    by None e k = record {
      profile = subst (λ x. Each P (profile_in x)) (sym e) tt;
      members = subst (Each (λ c. Each P (uses_of_characteristic (slice_get model.characteristics c))))
          (sym (members_same None e)) tt;
      lines = subst (λ x. Each (λ item. Each P item.uses) (bill_in x)) (sym e) tt;
      operations = subst (λ x. Each (λ y. Each P y.uses) (operations_in x)) (sym e) tt;
    }
    by (Some object) e k =
        let front = each_split P (object.procedures ++ uses_of_members model (Some object))
        (flat_map (λ line. line.uses) object.bill ++ flat_map (λ operation. operation.uses) object.operations) k in
        let own = each_split P object.procedures (uses_of_members model (Some object)) front.0 in
        let back = each_split P (flat_map (λ line. line.uses) object.bill)
        (flat_map (λ operation. operation.uses) object.operations) front.1 in
        record {
          profile = subst (λ x. Each P (profile_in x)) (sym e) own.0;
          members = subst (Each (λ c. Each P (uses_of_characteristic (slice_get model.characteristics c))))
              (sym (members_same (Some object) e))
              (each_unflat P (λ c. uses_of_characteristic (slice_get model.characteristics c))
              (members_if model (class_in (Some object))) own.1);
          lines = subst (λ x. Each (λ item. Each P item.uses) (bill_in x)) (sym e)
              (each_unflat P (λ line. line.uses) object.bill back.0);
          operations = subst (λ x. Each (λ y. Each P y.uses) (operations_in x)) (sym e)
              (each_unflat P (λ operation. operation.uses) object.operations back.1);
        }

slot_used : (model : Model) (k : ℕ) (slot : Slot) → slice_get (slots_of model) k ≡ Some slot
    → UsesAt (λ d. is_used (layout_of model) d ≡ true) model slot
slot_used model k slot there =
    let layout = layout_of model in
    let uses = uses_of_object model (slice_get model.objects slot.object) in
    object_uses (λ d. is_used (layout_of model) d ≡ true) model slot
    (each_more (λ d. list_any (λ m. m == d) uses ≡ true) (λ d. is_used (layout_of model) d ≡ true)
    (λ d h. or_right (is_active layout d) (stands_somewhere layout d)
    (any_there (λ s. is_one_of (uses_of_object model (object_of_slot layout s)) d)
    (slots_of model) k slot there h)) uses
    (each_among (λ d m. m == d) (λ d. eq-eqb d d refl) uses))

-- a line, an operation and a slot of which all is used, and has no fault
record IsUsedLine (model : Model) (slot : Slot) (item : BillItem) : Type 0 where
  quantity : fault_of model (line_place model slot (is_configurable item.component))
      (syntax.Counts (syntax.term_of item.quantity.value)) ≡ None
  uses : Each (IsUsedAt model (λ tree. line_place model slot (is_configurable item.component))) item.uses

record IsUsedOperation (model : Model) (slot : Slot) (x : parts.Operation) : Type 0 where
  time : fault_of model (operation_place model slot) (syntax.Counts (syntax.term_of x.time.value)) ≡ None
  uses : Each (IsUsedAt model (λ tree. operation_place model slot)) x.uses

record IsUsedSlot (model : Model) (slot : Slot) : Type 0 where
  profile : Each (IsUsedAt model (own_place model slot)) (profile_in (slice_get model.objects slot.object))
  members : Each (λ c. Each (IsUsedAt model (own_place model slot))
      (uses_of_characteristic (slice_get model.characteristics c)))
      (members_of model slot.object)
  lines : Each (IsUsedLine model slot) (bill_in (slice_get model.objects slot.object))
  operations : Each (IsUsedOperation model slot) (operations_in (slice_get model.objects slot.object))

uses_at : (model : Model) → IsTyped model → (k : ℕ) (slot : Slot) → slice_get (slots_of model) k ≡ Some slot
    → IsUsedSlot model slot
uses_at model sound k slot there =
    let typed = sound_at model sound k slot there in
    let used = slot_used model k slot there in
    let Used : ℕ → Type 0 = λ d. is_used (layout_of model) d ≡ true in
    let Typed : ℕ → Type 0 = IsTypedAt model (own_place model slot) in
    let uses : ℕ → List ℕ = λ c. uses_of_characteristic (slice_get model.characteristics c) in
    let bill = bill_in (slice_get model.objects slot.object) in
    let routing = operations_in (slice_get model.objects slot.object) in
    record {
      profile = each_both Typed Used (profile_in (slice_get model.objects slot.object)) typed.profile used.profile;
      members = each_more (λ c. Each Typed (uses c) × Each Used (uses c))
          (λ c. Each (IsUsedAt model (own_place model slot)) (uses c))
          (λ c h. each_both Typed Used (uses c) h.0 h.1) (members_of model slot.object)
          (each_both (λ c. Each Typed (uses c)) (λ c. Each Used (uses c))
          (members_of model slot.object) typed.members used.members);
      lines = each_more (λ item. IsSoundLine model slot item × Each Used item.uses) (IsUsedLine model slot)
          (λ item h. record {
            quantity = h.0.quantity;
            uses = each_both (IsTypedAt model (λ tree. line_place model slot
                (is_configurable item.component))) Used item.uses h.0.uses h.1;
          }) bill
          (each_both (IsSoundLine model slot) (λ item. Each Used item.uses) bill typed.lines used.lines);
      operations = each_more (λ x. IsSoundOperation model slot x × Each Used x.uses) (IsUsedOperation model slot)
          (λ x h. record {
            time = h.0.time;
            uses = each_both (IsTypedAt model (λ tree. operation_place model slot)) Used x.uses h.0.uses h.1;
          }) routing
          (each_both (IsSoundOperation model slot) (λ x. Each Used x.uses) routing typed.operations used.operations);
    }

-- preconditions
abbrev pub OfGuards : (GuardDraft → Type 0) → Model → Type 0
OfGuards P model =
    (i : ℕ) (slot : Slot) (n : Named) (value : Option Piece) (a : Asked)
    → StandsAsked model syntax.Precondition i slot at.Characteristic a
    → P (record {
      at = n;
      value = value;
      choice =
          choice_at (layout_of model) (characteristic_site (layout_of model) i slot) a;
    })

module _ (P : GuardDraft → Type 0) (model : Model) (of : OfGuards P model) where
  guards_stand : (i : ℕ) (slot : Slot) → slice_get (slots_of model) i ≡ Some slot
      → (n : Named) (value : Option Piece) (uses : List ℕ)
      → Each (IsUsedAt model (own_place model slot)) uses
      → Each P (guards_among (layout_of model) (characteristic_site (layout_of model) i slot) n value uses)
  guards_stand i slot there n value uses typed =
      each_mapped P
      (λ asked. record {
        at = n;
        value = value;
        choice = choice_at (layout_of model)
            (characteristic_site (layout_of model) i slot) asked;
      })
      (preconditions_among model uses)
      (each_more (StandsAsked model syntax.Precondition i slot at.Characteristic)
      (λ a. P (record {
        at = n;
        value = value;
        choice = choice_at (layout_of model)
            (characteristic_site (layout_of model) i slot) a;
      }))
      (λ a h. of i slot n value a h) (preconditions_among model uses)
      (preconditions_stand model i slot there uses typed))

  guards_of_one : (i : ℕ) (slot : Slot) → slice_get (slots_of model) i ≡ Some slot
      → (n : Named) (o : Option Characteristic)
      → Each (IsUsedAt model (own_place model slot)) (uses_of_characteristic o)
      → Each P (guards_of (layout_of model) (characteristic_site (layout_of model) i slot) n o)
  guards_of_one i slot there n None typed = tt
  guards_of_one i slot there n (Some x) typed =
      let site = characteristic_site (layout_of model) i slot in
      let uses = own_uses (IsUsedAt model (own_place model slot)) (Some x) typed in
      each_joined P (guards_among (layout_of model) site n None x.uses)
      (flat_map (λ entry. guards_among (layout_of model) site n (Some entry.piece) entry.uses) (entries_of x.values))
      (guards_stand i slot there n None x.uses uses.0)
      (each_flat P (λ entry. guards_among (layout_of model) site n (Some entry.piece) entry.uses) (entries_of x.values)
      (each_more (λ e. Each (IsUsedAt model (own_place model slot)) e.uses)
      (λ e. Each P (guards_among (layout_of model) site n (Some e.piece) e.uses))
      (λ e h. guards_stand i slot there n (Some e.piece) e.uses h) (entries_of x.values) uses.1))

  pub each_guard : IsTyped model → Each P (guard_drafts (layout_of model))
  each_guard sound =
      each_by_slot P (guards_at (layout_of model)) 0 (slots_of model) (λ k slot e.
      let there = subst (λ m. slice_get (slots_of model) m ≡ Some slot) (no_front k) e in
      let made : ℕ → List GuardDraft = λ c. guards_of (layout_of model)
      (characteristic_site (layout_of model) (0 + k) slot)
      (named_at (layout_of model) (0 + k) c) (slice_get model.characteristics c) in
      each_flat P made (members_of model slot.object)
      (each_more (λ c. Each (IsUsedAt model (own_place model slot))
      (uses_of_characteristic (slice_get model.characteristics c)))
      (λ c. Each P (made c))
      (λ c h. guards_of_one (0 + k) slot there (named_at (layout_of model) (0 + k) c)
      (slice_get model.characteristics c) h)
      (members_of model slot.object) (uses_at model sound k slot e).members))

-- requirements
abbrev pub OfRequirements : (RequirementDraft → Type 0) → Model → Type 0
OfRequirements P model =
    (i : ℕ) (slot : Slot) (n : Named) (a : Asked) → StandsAsked model syntax.Selection i slot at.Characteristic a
    → P (record { at = n; choice = choice_at (layout_of model) (characteristic_site (layout_of model) i slot) a })

module _ (P : RequirementDraft → Type 0) (model : Model) (of : OfRequirements P model) where
  requirements_of_one : (i : ℕ) (slot : Slot) → slice_get (slots_of model) i ≡ Some slot
      → (n : Named) (o : Option Characteristic)
      → Each (IsUsedAt model (own_place model slot)) (uses_of_characteristic o)
      → Each P (requirements_of (layout_of model) (characteristic_site (layout_of model) i slot) n o)
  requirements_of_one i slot there n None typed = tt
  requirements_of_one i slot there n (Some x) typed =
      each_mapped P (λ asked. record {
        at = n;
        choice = choice_at (layout_of model)
            (characteristic_site (layout_of model) i slot) asked;
      })
      (selections_among model x.uses)
      (each_more (StandsAsked model syntax.Selection i slot at.Characteristic)
      (λ a. P (record {
        at = n;
        choice = choice_at (layout_of model)
            (characteristic_site (layout_of model) i slot) a;
      }))
      (λ a h. of i slot n a h) (selections_among model x.uses)
      (selections_stand model i slot there at.Characteristic refl (own_place model slot) (λ c. refl) x.uses
      (own_uses (IsUsedAt model (own_place model slot)) (Some x) typed).0))

  pub each_requirement : IsTyped model → Each P (requirement_drafts (layout_of model))
  each_requirement sound =
      each_by_slot P (requirements_at (layout_of model)) 0 (slots_of model) (λ k slot e.
      let there = subst (λ m. slice_get (slots_of model) m ≡ Some slot) (no_front k) e in
      let made : ℕ → List RequirementDraft = λ c. requirements_of (layout_of model)
      (characteristic_site (layout_of model) (0 + k) slot)
      (named_at (layout_of model) (0 + k) c) (slice_get model.characteristics c) in
      each_flat P made (members_of model slot.object)
      (each_more (λ c. Each (IsUsedAt model (own_place model slot))
      (uses_of_characteristic (slice_get model.characteristics c)))
      (λ c. Each P (made c))
      (λ c h. requirements_of_one (0 + k) slot there (named_at (layout_of model) (0 + k) c)
      (slice_get model.characteristics c) h)
      (members_of model slot.object) (uses_at model sound k slot e).members))

-- lines and operations: what one counts, and what it asks
abbrev pub OfItems : (ItemDraft → Type 0) → (ItemDraft → Type 0) → Model → Type 0
OfItems L O model =
    ((i : ℕ) (slot : Slot) (item : BillItem)
    → StandsAt model i slot (at.Line (is_configurable item.component))
    (syntax.Counts (syntax.term_of item.quantity.value))
    → Each (StandsAsked model syntax.Selection i slot (at.Line (is_configurable item.component)))
    (selections_among model item.uses)
    → L (line_at (layout_of model) i slot item))
    × ((i : ℕ) (slot : Slot) (x : parts.Operation) → StandsAt model i slot at.Operation
    (syntax.Counts (syntax.term_of x.time.value))
    → Each (StandsAsked model syntax.Selection i slot at.Operation) (selections_among model x.uses)
    → O (operation_at (layout_of model) i slot x))

module _ (L O : ItemDraft → Type 0) (model : Model) (of : OfItems L O model) where
  line_stands : (i : ℕ) (slot : Slot) → slice_get (slots_of model) i ≡ Some slot → (k : ℕ) (item : BillItem)
      → slice_get (bill_of model slot.object) k ≡ Some item → IsUsedLine model slot item
      → L (line_at (layout_of model) i slot item)
  line_stands i slot there k item listed sound =
      of.0 i slot item
      (record {
        there = there;
        apart = refl;
        sound = sound.quantity;
        setting = refl;
        acts = λ e. absurd (cc);
        origin = inr (inl (record { object = slot.object; place = k; item = item; listed = listed; counts = refl }));
      })
      (selections_stand model i slot there (at.Line (is_configurable item.component)) refl
      (λ tree. line_place model slot (is_configurable item.component)) (λ c. refl) item.uses sound.uses)

  operation_stands : (i : ℕ) (slot : Slot) → slice_get (slots_of model) i ≡ Some slot → (k : ℕ) (x : parts.Operation)
      → slice_get (operations_in (slice_get model.objects slot.object)) k ≡ Some x → IsUsedOperation model slot x
      → O (operation_at (layout_of model) i slot x)
  operation_stands i slot there k x listed sound =
      of.1 i slot x
      (record {
        there = there;
        apart = refl;
        sound = sound.time;
        setting = refl;
        acts = λ e. absurd (cc);
        origin = inr (inr (record { object = slot.object; place = k; operation = x; listed = listed; counts = refl }));
      })
      (selections_stand model i slot there at.Operation refl (λ tree. operation_place model slot)
      (λ c. refl) x.uses sound.uses)

  pub each_line : IsTyped model → Each L (bill_drafts (layout_of model))
  each_line sound =
      each_by_slot L (λ i slot. map (line_at (layout_of model) i slot) (bill_of model slot.object)) 0 (slots_of model)
      (λ k slot e. each_mapped L (line_at (layout_of model) (0 + k) slot) (bill_of model slot.object)
      (each_at (λ item. L (line_at (layout_of model) (0 + k) slot item)) (bill_of model slot.object)
      (λ j item f. line_stands (0 + k) slot (subst (λ m. slice_get (slots_of model) m ≡ Some slot)
      (no_front k) e) j item f
      (each_here (IsUsedLine model slot) (bill_of model slot.object) j item (uses_at model sound k slot e).lines f))))

  pub each_operation : IsTyped model → Each O (operation_drafts (layout_of model))
  each_operation sound =
      each_by_slot O (λ i slot. map (operation_at (layout_of model) i slot)
      (operations_in (slice_get model.objects slot.object))) 0
      (slots_of model)
      (λ k slot e. each_mapped O (operation_at (layout_of model) (0 + k) slot)
      (operations_in (slice_get model.objects slot.object))
      (each_at (λ x. O (operation_at (layout_of model) (0 + k) slot x))
      (operations_in (slice_get model.objects slot.object))
      (λ j x f. operation_stands (0 + k) slot (subst (λ m. slice_get (slots_of model) m ≡ Some slot)
      (no_front k) e) j x f
      (each_here (IsUsedOperation model slot) (operations_in (slice_get model.objects slot.object)) j x
      (uses_at model sound k slot e).operations f))))

-- procedures
abbrev pub OfProcedures : (ProcedureDraft → Type 0) → Model → Type 0
OfProcedures P model =
    (i : ℕ) (slot : Slot) (trigger : Trigger) (d : ℕ) (statements : List syntax.Statement)
    → tree_of model d ≡ Some (syntax.Procedure statements)
    → StandsAt model i slot at.Procedure (syntax.Procedure statements)
    → P (procedure_at (layout_of model) i slot trigger d statements)

module _ (P : ProcedureDraft → Type 0) (model : Model) (of : OfProcedures P model) where
  procedures_stand : (i : ℕ) (slot : Slot) → slice_get (slots_of model) i ≡ Some slot
      → (trigger : Trigger) (uses : List ℕ)
      → Each (IsUsedAt model (own_place model slot)) uses
      → Each P (procedures_among (layout_of model) i slot trigger uses)
  procedures_stand i slot there trigger [] h = tt
  procedures_stand i slot there trigger (d ∷ uses) h =
      of_tree (tree_of model d) refl h.0 (procedures_stand i slot there trigger uses h.1)
    where
      of_tree : (tree : Option syntax.Dependency) → tree_of model d ≡ tree → IsUsedAt model (own_place model slot) d
          → Each P (procedures_among (layout_of model) i slot trigger uses)
          → Each P (cons_option (option_map (procedure_at (layout_of model) i slot trigger d) (statements_in tree))
          (procedures_among (layout_of model) i slot trigger uses))
      of_tree None e typed more = more
      of_tree (Some (syntax.Precondition c)) e typed more = more
      of_tree (Some (syntax.Selection c)) e typed more = more
      of_tree (Some (syntax.Constrains c)) e typed more = more
      of_tree (Some (syntax.Counts t)) e typed more = more
      of_tree (Some (syntax.Procedure ss)) e typed more = (
        of i slot trigger d ss e
            (record {
              there = there;
              apart = refl;
              sound = typed.0 (syntax.Procedure ss) e;
              setting = refl;
              acts = λ f. refl;
              origin = inl (d, e, typed.1);
            }),
        more,
      )

  pub each_procedure : IsTyped model → Each P (procedure_drafts (layout_of model))
  each_procedure sound =
      each_by_slot P (procedures_at (layout_of model)) 0 (slots_of model) (λ k slot e.
      let there = subst (λ m. slice_get (slots_of model) m ≡ Some slot) (no_front k) e in
      let at_slot = uses_at model sound k slot e in
      let members = members_of model slot.object in
      let Typed : ℕ → Type 0 = IsUsedAt model (own_place model slot) in
      let own : ℕ → List ProcedureDraft = λ c. procedures_among (layout_of model) (0 + k) slot Anyway
      (characteristic_uses (slice_get model.characteristics c)) in
      each_joined P (procedures_among (layout_of model) (0 + k) slot Anyway
      (profile_in (slice_get model.objects slot.object)))
      (flat_map own members ++ flat_map (value_procedures (layout_of model) (0 + k) slot) members)
      (procedures_stand (0 + k) slot there Anyway (profile_in (slice_get model.objects slot.object)) at_slot.profile)
      (each_joined P (flat_map own members) (flat_map (value_procedures (layout_of model) (0 + k) slot) members)
      (each_flat P own members
      (each_more (λ c. Each Typed (uses_of_characteristic (slice_get model.characteristics c))) (λ c. Each P (own c))
      (λ c h. procedures_stand (0 + k) slot there Anyway (characteristic_uses (slice_get model.characteristics c))
      (own_uses Typed (slice_get model.characteristics c) h).0) members at_slot.members))
      (each_flat P (value_procedures (layout_of model) (0 + k) slot) members
      (each_more (λ c. Each Typed (uses_of_characteristic (slice_get model.characteristics c)))
      (λ c. Each P (value_procedures (layout_of model) (0 + k) slot c))
      (λ c h. each_flat P
      (λ entry. procedures_among (layout_of model) (0 + k) slot
      (trigger_of (named_at (layout_of model) (0 + k) c) entry.piece) entry.uses)
      (entries_in (slice_get model.characteristics c))
      (each_more (λ entry. Each Typed entry.uses)
      (λ entry. Each P (procedures_among (layout_of model) (0 + k) slot
      (trigger_of (named_at (layout_of model) (0 + k) c) entry.piece) entry.uses))
      (λ entry j. procedures_stand (0 + k) slot there
      (trigger_of (named_at (layout_of model) (0 + k) c) entry.piece) entry.uses j)
      (entries_in (slice_get model.characteristics c))
      (own_uses Typed (slice_get model.characteristics c) h).1)) members at_slot.members))))

-- rules: those of constraints at tuples, of variables, and of slots
pub record OfRules (P : Draft → Type 0) (model : Model) : Type 0 where
  pub of_net : (d : ℕ) (constraint : syntax.Constraint) (tuple : List ℕ) (number : ℕ) (restriction : syntax.Restriction)
      → IsOfNet model d constraint tuple restriction → StandsIn model constraint tuple
      → P (restriction_draft (layout_of model) d constraint tuple number restriction)
  pub of_var : (v : ℕ) → nat_lt v (length (layout_of model).vars) ≡ true → P (own_draft (last v))
  pub of_slot : (i : ℕ) → nat_lt i (length (slots_of model)) ≡ true → P (own_draft (line i))
  pub of_line : (p : ℕ) (owner : Slot) (i number : ℕ) (a : Asked) → nat_lt i (length (slots_of model)) ≡ true
      → StandsAsked model syntax.Selection p owner (at.Line true) a
      → P (line_draft (layout_of model) (site_at (layout_of model) p owner (at.Line true)) i number a)

-- a tuple that matches is one of slots
kind_there : (layout : Layout) (kind : ObjectKind) (i : ℕ) → is_of_kind layout kind (object_at layout i) ≡ true
    → nat_lt i (length layout.slots) ≡ true
kind_there layout kind i h = by (slice_get layout.slots i) refl
  where
    not_same : (o : Option ℕ) → are_same o None ≡ true → nat_lt i (length layout.slots) ≡ true
    not_same None e = absurd (cc)
    not_same (Some a) e = absurd (cc)

    none_of : (kind : ObjectKind) → is_of_kind layout kind None ≡ true → nat_lt i (length layout.slots) ≡ true
    none_of (objects.Class leaf) e = not_same (class_named layout.model leaf.name) e
    none_of (objects.Material leaf) e = not_same (object_named layout.model leaf.text) e

    by : (o : Option Slot) → slice_get layout.slots i ≡ o → nat_lt i (length layout.slots) ≡ true
    by None e = none_of kind (sym (ap (λ o. is_of_kind layout kind (option_map (λ slot. slot.object) o)) e) ∙ h)
    by (Some slot) e = lt-ltb i (length layout.slots) (slice_get_within layout.slots i slot e)

kinds_there : (layout : Layout) (objects : List declared.Object) (tuple : List ℕ)
    → are_of_kinds layout objects tuple ≡ true
    → length tuple ≡ length objects → Each (λ i. nat_lt i (length layout.slots) ≡ true) tuple
kinds_there layout [] [] h e = tt
kinds_there layout [] (i ∷ tuple) h e = absurd (omega (arith, e))
kinds_there layout (object ∷ objects) [] h e = tt
kinds_there layout (object ∷ objects) (i ∷ tuple) h e =
    let both = and_parts (is_of_kind layout object.kind (object_at layout i)) (are_of_kinds layout objects tuple) h in
    (kind_there layout object.kind i both.0, kinds_there layout objects tuple both.1 (omega (arith, e)))

net_stands : (model : Model) (d : ℕ) (constraint : syntax.Constraint) (tuple : List ℕ)
    (restriction : syntax.Restriction)
    → IsOfNet model d constraint tuple restriction → is_active (layout_of model) d ≡ true
    → StandsIn model constraint tuple
net_stands model d constraint tuple restriction of active =
    let layout = layout_of model in
    let parts = and_parts (are_of_kinds layout constraint.objects tuple && are_different tuple)
    (are_parts_met layout constraint.objects constraint.condition tuple) of.matching in
    record {
      d = d;
      active = active;
      tree = of.tree;
      sound = of.sound;
      matching = of.matching;
      size = of.size;
      slots = kinds_there layout constraint.objects tuple
          (and_parts (are_of_kinds layout constraint.objects tuple) (are_different tuple) parts.0).0 of.size;
    }

-- a draft of an active constraint
abbrev IsActive : Layout → Draft → Type 0
IsActive layout draft = (d : ℕ) × (draft.dependency ≡ Some d) × (is_active layout d ≡ true)

restrictions_active : (layout : Layout) (d : ℕ) → is_active layout d ≡ true
    → (constraint : syntax.Constraint) (tuple : List ℕ) (number : ℕ)
    (rs : List syntax.Restriction) → Each (IsActive layout) (restriction_drafts layout d constraint tuple number rs)
restrictions_active layout d active constraint tuple number [] = tt
restrictions_active layout d active constraint tuple number (r ∷ rs) =
    ((d, refl, active), restrictions_active layout d active constraint tuple (suc number) rs)

constraint_active : (layout : Layout) (d : ℕ) → is_active layout d ≡ true → (o : Option syntax.Dependency)
    → Each (IsActive layout) (constraint_drafts layout d o)
constraint_active layout d active None = tt
constraint_active layout d active (Some (syntax.Precondition condition)) = tt
constraint_active layout d active (Some (syntax.Selection condition)) = tt
constraint_active layout d active (Some (syntax.Procedure statements)) = tt
constraint_active layout d active (Some (syntax.Counts term)) = tt
constraint_active layout d active (Some (syntax.Constrains constraint)) =
    each_flat (IsActive layout) (λ tuple. restriction_drafts layout d constraint tuple 1 constraint.restrictions)
    (tuples_of layout constraint)
    (each_of_all (λ tuple. Each (IsActive layout)
    (restriction_drafts layout d constraint tuple 1 constraint.restrictions))
    (λ tuple. restrictions_active layout d active constraint tuple 1 constraint.restrictions)
    (tuples_of layout constraint))

all_active : (layout : Layout) → Each (IsActive layout) (constraints_drafts layout)
all_active layout =
    let numbers = numbers_below (length layout.model.dependencies) in
    each_flat (IsActive layout) (λ d. constraint_drafts layout d (tree_of layout.model d)) (active_constraints layout)
    (each_more (λ d. (is_active layout d ≡ true) × Unit {0})
    (λ d. Each (IsActive layout) (constraint_drafts layout d (tree_of layout.model d)))
    (λ d h. constraint_active layout d h.0 (tree_of layout.model d)) (active_constraints layout)
    (each_left (λ d. Unit {0}) (is_active layout) numbers (each_of_all (λ d. Unit {0}) (λ d. tt) numbers)))

module _ (P : Draft → Type 0) (model : Model) (of : OfRules P model) where
  nets : IsTyped model → Each P (constraints_drafts (layout_of model))
  nets sound =
      let layout = layout_of model in
      let IfActive : Draft → Type 0 = λ draft. IsActive (layout_of model) draft → P draft in
      each_more (λ draft. IfActive draft × IsActive (layout_of model) draft) P (λ draft h. h.0 h.1)
      (constraints_drafts layout)
      (each_both IfActive (IsActive (layout_of model)) (constraints_drafts layout)
      (each_of_nets IfActive model sound
      (λ d constraint tuple number restriction net active.
      let same : d ≡ active.0 = of_some d active.0 active.1 in
      of.of_net d constraint tuple number restriction net
      (net_stands model d constraint tuple restriction net (ap (is_active (layout_of model)) same ∙ active.2))))
      (all_active (layout_of model)))
    where
      of_some : (a b : ℕ) → Some a ≡ Some b → a ≡ b
      of_some a b e = cc

  lasts : Each P (last_drafts (layout_of model))
  lasts =
      let count = length (layout_of model).vars in
      each_mapped P (λ v. own_draft (last v)) _
      (each_more (λ v. v < 0 + count) (λ v. P (own_draft (last v)))
      (λ v h. of.of_var v (lt-ltb v count (omega (arith, h)))) _ (below_count 0 count))

  lines_from : (p : ℕ) (owner : Slot) (i : ℕ) → nat_lt i (length (slots_of model)) ≡ true
      → (number : ℕ) (asks : List Asked)
      → Each (StandsAsked model syntax.Selection p owner (at.Line true)) asks
      → Each P (line_drafts_from (layout_of model) (site_at (layout_of model) p owner (at.Line true)) i number asks)
  lines_from p owner i low number [] h = tt
  lines_from p owner i low number (a ∷ asks) h = (
    of.of_line p owner i number a low h.0,
    lines_from p owner i low
        (suc number) asks h.1,
  )

  lines_at : (p : ℕ) (owner : Slot) (i : ℕ) → nat_lt i (length (slots_of model)) ≡ true → (asks : List Asked)
      → Each (StandsAsked model syntax.Selection p owner (at.Line true)) asks
      → Each P (line_drafts (layout_of model) (site_at (layout_of model) p owner (at.Line true)) i asks)
  lines_at p owner i low [] h = (of.of_slot i low, tt)
  lines_at p owner i low (a ∷ asks) h = lines_from p owner i low 1 (a ∷ asks) h

  of_part : IsTyped model → (i p : ℕ) (s : Standing) → nat_lt i (length (slots_of model)) ≡ true
      → IsPart model (standings_of model) i p s
      → Each P (drafts_of_slot (layout_of model) i s (Some p))
  of_part sound i p s low part =
      let layout = layout_of model in
      let owner = slot_of model (standings_of model) part.above in
      let there = slot_at model p part.above part.there in
      let object : object_at layout p ≡ Some part.above.object = ap (option_map (λ slot. slot.object)) there in
      let one = each_here (IsUsedLine model owner) (bill_in
      (slice_get model.objects part.above.object)) s.item part.line
      (uses_at model sound p owner there).lines part.listed in
      subst (Each P)
      (sym (ap (λ o. drafts_of_line layout p i o (slice_get (bill_if model (object_at layout p)) s.item)) there
      ∙ ap (λ o. drafts_of_line layout p i (Some owner) (slice_get (bill_if model o) s.item)) object
      ∙ ap (λ o. drafts_of_line layout p i (Some owner) o) part.listed))
      (lines_at p owner i low (selections_among model part.line.uses)
      (selections_stand model p owner there (at.Line true) refl (λ tree. line_place model owner true)
      (λ c. refl) part.line.uses
      (subst (λ b. Each (IsUsedAt model (λ tree. line_place model owner b)) part.line.uses)
      (configurable_is part.line.component s.object part.object) one.uses)))

  slots_from : IsTyped model → (i : ℕ) (standings : List Standing)
      → ((k : ℕ) (s : Standing) → slice_get standings k ≡ Some s → slice_get (standings_of model) (i + k) ≡ Some s)
      → Each P (slot_drafts_from (layout_of model) i standings)
  slots_from sound i [] h = tt
  slots_from sound i (s ∷ standings) h =
      let here = subst (λ m. slice_get (standings_of model) m ≡ Some s) (no_more i) (h zero s refl) in
      each_joined P (drafts_of_slot (layout_of model) i s s.parent)
      (slot_drafts_from (layout_of model) (suc i) standings)
      (of_slot s.parent (placed_at model i s here)
      (lt-ltb i (length (slots_of model)) (slice_get_within (slots_of model) i (slot_of model (standings_of model) s)
      (slot_at model i s here))))
      (slots_from sound (suc i) standings
      (λ k x e. subst (λ m. slice_get (standings_of model) m ≡ Some x) (one_more i k) (h (suc k) x e)))
    where
      of_slot : (o : Option ℕ) → IsPlacedBelow model (standings_of model) i s o
          → nat_lt i (length (slots_of model)) ≡ true
          → Each P (drafts_of_slot (layout_of model) i s o)
      of_slot None placed low = tt
      of_slot (Some p) placed low = of_part sound i p s low placed

  pub each_rule : IsTyped model → Each P (rule_drafts (layout_of model))
  each_rule sound =
      let layout = layout_of model in
      each_joined P (constraints_drafts layout) (last_drafts layout ++ slot_drafts_from layout 0 layout.standings)
      (nets sound)
      (each_joined P (last_drafts layout) (slot_drafts_from layout 0 layout.standings) lasts
      (slots_from sound 0 (standings_of model) (λ k s e. subst (λ m. slice_get (standings_of model) m ≡ Some s)
      (no_front k) e)))
