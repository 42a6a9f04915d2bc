-- What an operand of a constraint means at a tuple of slots: a characteristic of the class of one of them.
use Rattle.std.proofs.Common.{◌≡◌, ℕ, zero, suc, ◌+◌, Bool, true, false, cond, not, ◌||◌, List, [], ◌∷◌, ◌++◌, map}
use Rattle.std.proofs.Common.{Option, Some, None, refl, sym, ap, ◌∙◌, arith, subst}
use Rattle.std.specs.Prelude.{◌==◌, find, option_map, slice_get}
use Rattle.std.specs.List.{list_any, position_or_len}
use Rattle.std.specs.Option.{option_or}
use Rattle.std.specs.Str.{bytes_eq}
use Rattle.std.proofs.lemmas.Bool.{and_parts, eq-eqb, eqb-true, or_left, or_right}
use Rattle.std.proofs.lemmas.List.Folds.{find-append}
use Rattle.vc_model_parts.specs.declared.parts.Model.{Model}
use Rattle.vc_plan.specs.declared.plans.Slot.{Slot}
use Rattle.vc_syntax_tree.specs.declared.Alias.{Alias}
use Rattle.vc_syntax_tree.specs.declared.Object.{Object}
use Rattle.vc_syntax_tree.specs.declared.ObjectKind.{ObjectKind}
use Rattle.vc_syntax_tree.specs.declared.ObjectKind.TheVariants as objects
use Rattle.vc_syntax_tree.specs.declared.Operand.{Operand}
use Rattle.vc_syntax_tree.specs.declared.Operand.TheVariants as operands
use Rattle.vc_syntax_tree.specs.declared.Owner.TheVariants as owners
use Rattle.vc_syntax_tree.specs.Trees as syntax
use Rattle.vc_types.specs.Looking.{class_named, class_of, member_of, object_named}
use Rattle.vc_types.specs.Meanings.{Variable, alias_of, class_meant, member_meaning, referent_of, value_meaning}
use Rattle.vc_types.specs.Meanings.{variable_named, variables_of}
use Rattle.vc_types.specs.Settings.{meaning}
use Rattle.vc_types.specs.declared.meaning.Meaning.TheVariants as meanings
use Rattle.vc_types.specs.declared.meaning.Referent.{Referent}
use Rattle.vc_types.specs.declared.meaning.Referent.TheVariants as referents
use Rattle.vc_compile_plan.specs.Layouts.{layout_of, object_at}
use Rattle.vc_compile_plan.specs.Rules.{constraint_site}
use Rattle.vc_compile_plan.specs.Sites.{has_alias, is_called, number_or_zero, slot_meant}
use Rattle.vc_compile_plan.specs.Slots.{slots_of}
use Rattle.vc_compile_plan.specs.Tuples.{are_of_kinds, are_same, is_of_kind}
use Rattle.vc_compile_plan.specs.Variables.{members_if}
use Rattle.vc_compile_meant.proofs.MeaningLaws.{IsMeant, class_has, known_is}

-- a slot of a class
record IsOfClass (model : Model) (class : Option ℕ) (i : ℕ) : Type 0 where
  slot : Slot
  there : slice_get (slots_of model) i ≡ Some slot
  is : class_of model (Some slot.object) ≡ class

same_is : (a b : Option ℕ) → are_same a b ≡ true → a ≡ b
same_is None b h = absurd (cc)
same_is (Some a) None h = absurd (cc)
same_is (Some a) (Some b) h = ap Some (eqb-true a b h)

none_same : (a : Option ℕ) → are_same a None ≡ true → ⊥
none_same None h = cc
none_same (Some a) h = cc

kind_class : (model : Model) (kind : ObjectKind) (i : ℕ)
    → is_of_kind (layout_of model) kind (object_at (layout_of model) i) ≡ true
    → IsOfClass model (class_meant model kind) i
kind_class model kind i h = by (slice_get (slots_of model) i) refl kind h
  where
    by : (o : Option Slot) → slice_get (slots_of model) i ≡ o → (kind : ObjectKind)
        → is_of_kind (layout_of model) kind (option_map (λ slot. slot.object) (slice_get (slots_of model) i)) ≡ true
        → IsOfClass model (class_meant model kind) i
    by None e (objects.Class leaf) h =
        absurd (none_same (class_named model leaf.name)
        (sym (ap (λ o. are_same (class_named model leaf.name) (class_of model (option_map (λ slot. slot.object) o))) e)
        ∙ h))
    by None e (objects.Material leaf) h =
        absurd (none_same (object_named model leaf.text)
        (sym (ap (λ o. are_same (object_named model leaf.text) (option_map (λ slot. slot.object) o)) e) ∙ h))
    by (Some slot) e (objects.Class leaf) h = record {
      slot = slot;
      there = e;
      is = sym (same_is (class_named model leaf.name) (class_of model (Some slot.object))
          (sym (ap (λ o. are_same (class_named model leaf.name) (class_of model (option_map (λ slot. slot.object) o)))
          e) ∙ h));
    }
    by (Some slot) e (objects.Material leaf) h = record {
      slot = slot;
      there = e;
      is = ap (class_of model) (sym (same_is (object_named model leaf.text) (Some slot.object)
          (sym (ap (λ o. are_same (object_named model leaf.text) (option_map (λ slot. slot.object) o)) e) ∙ h)));
    }

-- what is found among aliases is a value of the class
abbrev is_named : List ℕ → Variable → Bool
is_named name variable = bytes_eq variable.name name

record IsAlias (model : Model) (class : Option ℕ) (v : Variable) : Type 0 where
  name : List ℕ
  referent : v.referent ≡ referents.Value (member_of model name class)

alias_there : (model : Model) (class : Option ℕ) (name : List ℕ) (aliases : List Alias) (v : Variable)
    → find (is_named name) (map (alias_of model class) aliases) ≡ Some v
    → IsAlias model class v × (list_any (λ alias. bytes_eq alias.variable.name name) aliases ≡ true)
alias_there model class name [] v e = absurd (cc)
alias_there model class name (a ∷ aliases) v e =
    by (bytes_eq a.variable.name name) refl e (λ f. alias_there model class name aliases v f)
  where
    by : (b : Bool) → bytes_eq a.variable.name name ≡ b
        → cond b (Some (alias_of model class a)) (find (is_named name) (map (alias_of model class) aliases)) ≡ Some v
        → (find (is_named name) (map (alias_of model class) aliases) ≡ Some v
        → IsAlias model class v × (list_any (λ alias. bytes_eq alias.variable.name name) aliases ≡ true))
        → IsAlias model class v
        × ((bytes_eq a.variable.name name || list_any (λ alias. bytes_eq alias.variable.name name) aliases) ≡ true)
    by true is f later =
        let same : alias_of model class a ≡ v = cc in (
          record { name = a.characteristic.name; referent = ap (λ x. x.referent) (sym same) },
          or_left (bytes_eq a.variable.name name) (list_any (λ alias. bytes_eq alias.variable.name name) aliases) is,
        )
    by false is f later =
        let found = later f in (
          found.0,
          or_right (bytes_eq a.variable.name name) (list_any (λ alias. bytes_eq alias.variable.name name) aliases)
              found.1,
        )

no_alias : (model : Model) (class : Option ℕ) (name : List ℕ) (aliases : List Alias)
    → find (is_named name) (map (alias_of model class) aliases) ≡ None
    → list_any (λ alias. bytes_eq alias.variable.name name) aliases ≡ false
no_alias model class name [] e = refl
no_alias model class name (a ∷ aliases) e =
    by (bytes_eq a.variable.name name) e (λ f. no_alias model class name aliases f)
  where
    by : (b : Bool) → cond b (Some (alias_of model class a)) (find (is_named name) (map (alias_of model class) aliases))
        ≡ None
        → (find (is_named name) (map (alias_of model class) aliases) ≡ None
        → list_any (λ alias. bytes_eq alias.variable.name name) aliases ≡ false)
        → (b || list_any (λ alias. bytes_eq alias.variable.name name) aliases) ≡ false
    by true f later = absurd (cc)
    by false f later = later f

-- the slot of a constraint's object, by its variable
record IsInTuple (model : Model) (class : Option ℕ) (tuple : List ℕ) (place : ℕ) : Type 0 where
  i : ℕ
  at : slice_get tuple place ≡ Some i
  of_class : IsOfClass model class i

value_is_no_object : (c class : Option ℕ) → referents.Value c ≡ referents.Object class → ⊥
value_is_no_object c class e = cc

object_found : (model : Model) (name : List ℕ) (class : Option ℕ) (declared : List Object) (tuple : List ℕ)
    → are_of_kinds (layout_of model) declared tuple ≡ true → (v : Variable)
    → variable_named (variables_of model declared) name ≡ Some v
    → v.referent ≡ referents.Object class → IsInTuple model class tuple (position_or_len (is_called name) declared)
object_found model name class [] tuple kinds v e is = absurd (cc)
object_found model name class (o ∷ declared) [] kinds v e is = absurd (cc)
object_found model name class (o ∷ declared) (i ∷ tuple) kinds v e is =
    let parts
    = and_parts (is_of_kind (layout_of model) o.kind (object_at (layout_of model) i))
    (are_of_kinds (layout_of model) declared tuple) kinds in
    by (bytes_eq o.variable.name name) refl e parts.0 (λ f. object_found model name class declared tuple parts.1 v f is)
  where
    own : Option ℕ
    own = class_meant model o.kind

    head : Variable
    head = record { name = o.variable.name; referent = referents.Object (class_meant model o.kind) }

    of_rest : (x : Option Variable)
        → find (is_named name) (map (alias_of model (class_meant model o.kind)) o.aliases) ≡ x
        → option_or x (find (is_named name) (variables_of model declared)) ≡ Some v
        → (variable_named (variables_of model declared) name ≡ Some v
        → IsInTuple model class tuple (position_or_len (is_called name) declared))
        → IsInTuple model class (i ∷ tuple) (1 + position_or_len (is_called name) declared)
    of_rest None f g later =
        let found = later g in
        record {
          i = found.i;
          at =
              subst (λ n. slice_get (i ∷ tuple) n ≡ Some found.i) (one_more (position_or_len (is_called name) declared))
              found.at;
          of_class = found.of_class;
        }
      where
        one_more : (n : ℕ) → suc n ≡ 1 + n
        one_more n = omega arith
    of_rest (Some w) f g later =
        let same : w ≡ v = cc in
        let alias = (alias_there model (class_meant model o.kind) name o.aliases w f).0 in
        absurd (value_is_no_object (member_of model alias.name (class_meant model o.kind)) class
        (sym alias.referent ∙ ap (λ x. x.referent) same ∙ is))

    by : (b : Bool) → bytes_eq o.variable.name name ≡ b
        → cond b (Some head)
        (find (is_named name)
        (map (alias_of model (class_meant model o.kind)) o.aliases ++ variables_of model declared)) ≡ Some v
        → is_of_kind (layout_of model) o.kind (object_at (layout_of model) i) ≡ true
        → (variable_named (variables_of model declared) name ≡ Some v
        → IsInTuple model class tuple (position_or_len (is_called name) declared))
        → IsInTuple model class (i ∷ tuple) (cond (not b) (1 + position_or_len (is_called name) declared) 0)
    by true same f kind later =
        let one : head ≡ v = cc in
        let classes : referents.Object (class_meant model o.kind) ≡ referents.Object class
        = ap (λ x. x.referent) one ∙ is in
        let of : class_meant model o.kind ≡ class = cc in
        record { i = i; at = refl; of_class = subst (λ c. IsOfClass model c i) of (kind_class model o.kind i kind) }
    by false other f kind later =
        of_rest (find (is_named name) (map (alias_of model (class_meant model o.kind)) o.aliases)) refl
        (sym (find-append (is_named name) (map (alias_of model (class_meant model o.kind)) o.aliases)
        (variables_of model declared)) ∙ f) later

-- and by a variable of a value
record IsValueOf (model : Model) (c : Option ℕ) (tuple : List ℕ) (place : ℕ) : Type 0 where
  class : Option ℕ
  name : List ℕ
  is : member_of model name class ≡ c
  within : IsInTuple model class tuple place

value_found : (model : Model) (name : List ℕ) (c : Option ℕ) (declared : List Object) (tuple : List ℕ)
    → are_of_kinds (layout_of model) declared tuple ≡ true → (v : Variable)
    → variable_named (variables_of model declared) name ≡ Some v
    → v.referent ≡ referents.Value c → IsValueOf model c tuple (position_or_len (has_alias name) declared)
value_found model name c [] tuple kinds v e is = absurd (cc)
value_found model name c (o ∷ declared) [] kinds v e is = absurd (cc)
value_found model name c (o ∷ declared) (i ∷ tuple) kinds v e is =
    let parts
    = and_parts (is_of_kind (layout_of model) o.kind (object_at (layout_of model) i))
    (are_of_kinds (layout_of model) declared tuple) kinds in
    by (bytes_eq o.variable.name name) refl e parts.0 (λ f. value_found model name c declared tuple parts.1 v f is)
  where
    head : Variable
    head = record { name = o.variable.name; referent = referents.Object (class_meant model o.kind) }

    at_place : ℕ → Type 0
    at_place n = IsValueOf model c (i ∷ tuple) n

    of_rest : (x : Option Variable)
        → find (is_named name) (map (alias_of model (class_meant model o.kind)) o.aliases) ≡ x
        → option_or x (find (is_named name) (variables_of model declared)) ≡ Some v
        → is_of_kind (layout_of model) o.kind (object_at (layout_of model) i) ≡ true
        → (variable_named (variables_of model declared) name ≡ Some v
        → IsValueOf model c tuple (position_or_len (has_alias name) declared))
        → IsValueOf model c (i ∷ tuple)
        (cond (not (has_alias name o)) (1 + position_or_len (has_alias name) declared) 0)
    of_rest None f g kind later =
        let found = later g in
        let inside = found.within in
        subst (λ b. IsValueOf model c (i ∷ tuple) (cond (not b) (1 + position_or_len (has_alias name) declared) 0))
        (sym (no_alias model (class_meant model o.kind) name o.aliases f))
        (record {
          class = found.class;
          name = found.name;
          is = found.is;
          within = record {
            i = inside.i;
            at = subst (λ n. slice_get (i ∷ tuple) n ≡ Some inside.i)
                (one_more (position_or_len (has_alias name) declared)) inside.at;
            of_class = inside.of_class;
          };
        })
      where
        one_more : (n : ℕ) → suc n ≡ 1 + n
        one_more n = omega arith
    of_rest (Some w) f g kind later =
        let same : w ≡ v = cc in
        let alias = alias_there model (class_meant model o.kind) name o.aliases w f in
        let own = alias.0 in
        let values : referents.Value (member_of model own.name (class_meant model o.kind)) ≡ referents.Value c =
        sym own.referent ∙ ap (λ x. x.referent) same ∙ is in
        subst (λ b. IsValueOf model c (i ∷ tuple) (cond (not b) (1 + position_or_len (has_alias name) declared) 0))
        (sym alias.1)
        (record {
          class = class_meant model o.kind;
          name = own.name;
          is = cc;
          within = record { i = i; at = refl; of_class = kind_class model o.kind i kind };
        })

    by : (b : Bool) → bytes_eq o.variable.name name ≡ b
        → cond b (Some head)
        (find (is_named name)
        (map (alias_of model (class_meant model o.kind)) o.aliases ++ variables_of model declared)) ≡ Some v
        → is_of_kind (layout_of model) o.kind (object_at (layout_of model) i) ≡ true
        → (variable_named (variables_of model declared) name ≡ Some v
        → IsValueOf model c tuple (position_or_len (has_alias name) declared))
        → IsValueOf model c (i ∷ tuple)
        (cond (not (has_alias name o)) (1 + position_or_len (has_alias name) declared) 0)
    by true same f kind later =
        let one : head ≡ v = cc in
        absurd (value_is_no_object c (class_meant model o.kind) (sym is ∙ ap (λ x. x.referent) (sym one)))
    by false other f kind later =
        of_rest (find (is_named name) (map (alias_of model (class_meant model o.kind)) o.aliases)) refl
        (sym (find-append (is_named name) (map (alias_of model (class_meant model o.kind)) o.aliases)
        (variables_of model declared)) ∙ f)
        kind later

-- an operand of a constraint is of a slot of the tuple
pub record IsMeantIn (model : Model) (constraint : syntax.Constraint) (tuple : List ℕ) (operand : Operand) (c : ℕ) :
    Type 0 where
  pub meant : IsMeant model (constraint_site (layout_of model) constraint tuple) operand c
  pub place : list_any (λ j. j == slot_meant (constraint_site (layout_of model) constraint tuple) operand) tuple ≡ true

among : (tuple : List ℕ) (k i : ℕ) → slice_get tuple k ≡ Some i → list_any (λ j. j == i) tuple ≡ true
among [] k i e = absurd (cc)
among (j ∷ tuple) zero i e = let same : j ≡ i = cc in or_left (j == i) (list_any (λ j. j == i) tuple) (eq-eqb j i same)
among (j ∷ tuple) (suc k) i e = or_right (j == i) (list_any (λ j. j == i) tuple) (among tuple k i e)

in_tuple : (model : Model) (constraint : syntax.Constraint) (tuple : List ℕ) (operand : Operand) (c : ℕ)
    (class : Option ℕ) (name : List ℕ)
    (place : ℕ) → slot_meant (constraint_site (layout_of model) constraint tuple) operand
    ≡ number_or_zero (slice_get tuple place)
    → IsInTuple model class tuple place → member_of model name class ≡ Some c
    → IsMeantIn model constraint tuple operand c
in_tuple model constraint tuple operand c class name place is within member =
    let same = is ∙ ap number_or_zero within.at in
    let of = within.of_class in
    record {
      meant = record {
        slot = of.slot;
        there = ap (slice_get (slots_of model)) same ∙ of.there;
        member = ap (λ k. list_any (λ d. c == d) (members_if model k)) of.is ∙ class_has model name class c member;
      };
      place = ap (λ i. list_any (λ j. j == i) tuple) same ∙ among tuple place within.i within.at;
    }

pub meant_in : (model : Model) (constraint : syntax.Constraint) (tuple : List ℕ)
    → are_of_kinds (layout_of model) constraint.objects tuple ≡ true → (operand : Operand) (c : ℕ)
    → meaning (constraint_site (layout_of model) constraint tuple).setting operand ≡ meanings.Characteristic c
    → IsMeantIn model constraint tuple operand c
meant_in model constraint tuple kinds (operands.Plain leaf) c e = absurd (cc)
meant_in model constraint tuple kinds (operands.Owned owners.Itself leaf) c e = absurd (cc)
meant_in model constraint tuple kinds (operands.Owned owners.Parent leaf) c e = absurd (cc)
meant_in model constraint tuple kinds (operands.Owned owners.Root leaf) c e = absurd (cc)
meant_in model constraint tuple kinds (operands.Member variable leaf) c e =
    by (variable_named (variables_of model constraint.objects) variable.name) refl e
  where
    of_referent : (v : Variable) → variable_named (variables_of model constraint.objects) variable.name ≡ Some v
        → (r : Referent)
        → v.referent ≡ r → member_meaning model leaf.name (Some r) ≡ meanings.Characteristic c
        → IsMeantIn model constraint tuple (operands.Member variable leaf) c
    of_referent v f (referents.Object class) is g =
        in_tuple model constraint tuple (operands.Member variable leaf) c class leaf.name
        (position_or_len (is_called variable.name) constraint.objects) refl
        (object_found model variable.name class constraint.objects tuple kinds v f is)
        (known_is (member_of model leaf.name class) c g)
    of_referent v f (referents.Value d) is g = absurd (cc)

    by : (o : Option Variable) → variable_named (variables_of model constraint.objects) variable.name ≡ o
        → member_meaning model leaf.name
        (referent_of (variable_named (variables_of model constraint.objects) variable.name)) ≡ meanings.Characteristic c
        → IsMeantIn model constraint tuple (operands.Member variable leaf) c
    by None f g = absurd (let none = sym (ap (λ o. member_meaning model leaf.name (referent_of o)) f) ∙ g in cc)
    by (Some v) f g = of_referent v f v.referent refl
        (sym (ap (λ o. member_meaning model leaf.name (referent_of o)) f) ∙ g)
meant_in model constraint tuple kinds (operands.Variable leaf) c e =
    by (variable_named (variables_of model constraint.objects) leaf.name) refl e
  where
    of_referent : (v : Variable) → variable_named (variables_of model constraint.objects) leaf.name ≡ Some v
        → (r : Referent)
        → v.referent ≡ r → value_meaning (Some r) ≡ meanings.Characteristic c
        → IsMeantIn model constraint tuple (operands.Variable leaf) c
    of_referent v f (referents.Object class) is g = absurd (cc)
    of_referent v f (referents.Value d) is g =
        let found = value_found model leaf.name d constraint.objects tuple kinds v f is in
        in_tuple model constraint tuple (operands.Variable leaf) c found.class found.name
        (position_or_len (has_alias leaf.name) constraint.objects) refl found.within (found.is ∙ known_is d c g)

    by : (o : Option Variable) → variable_named (variables_of model constraint.objects) leaf.name ≡ o
        → value_meaning (referent_of (variable_named (variables_of model constraint.objects) leaf.name))
        ≡ meanings.Characteristic c
        → IsMeantIn model constraint tuple (operands.Variable leaf) c
    by None f g = absurd (let none = sym (ap (λ o. value_meaning (referent_of o)) f) ∙ g in cc)
    by (Some v) f g = of_referent v f v.referent refl (sym (ap (λ o. value_meaning (referent_of o)) f) ∙ g)
