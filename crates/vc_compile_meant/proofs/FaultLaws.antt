-- What a dependency has that is typed without a fault: each operand means a characteristic.
use Rattle.std.proofs.Common.{◌≡◌, ℕ, zero, suc, Bool, true, false, cond, not, ◌&&◌, ◌||◌, List, [], ◌∷◌, ◌++◌}
use Rattle.std.proofs.Common.{flat_map, Option, Some, None, refl, sym, ap, ◌∙◌, subst}
use Rattle.std.specs.Prelude.{filter_map, option_map, slice_get}
use Rattle.std.specs.List.{cons_option, filter, list_any}
use Rattle.std.proofs.lemmas.Bool.{or_parts}
use Rattle.vc_model_parts.specs.declared.parts.Model.{Model}
use Rattle.vc_model_parts.specs.declared.parts.NamedDependency.{NamedDependency}
use Rattle.vc_syntax_tree.specs.Trees.{Dependency, dependency_of}
use Rattle.vc_types.specs.Faults.{all_kinds, fault_of, faults_of, first_of, stands}
use Rattle.vc_types.specs.NameFaults.{double_name, is_of_no_part, is_self_in_constraint, is_undeclared, is_unknown_call}
use Rattle.vc_types.specs.NameFaults.{is_unknown_object, objects_in, is_self_in_line, is_unknown, is_variable_outside}
use Rattle.vc_types.specs.NameFaults.{lacks_parent, parent_missing, self_named, self_of_line, some_operand, strays}
use Rattle.vc_types.specs.NameFaults.{too_many_objects, unknown_name}
use Rattle.vc_types.specs.Occurrences.{Use, calls_in, parted_names, summed_names, uses_in}
use Rattle.vc_types.specs.PlaceFaults.{no_key, not_a_term, not_monotone, part_of_place, sum_place}
use Rattle.vc_types.specs.RangeFaults.{range_too_wide}
use Rattle.vc_types.specs.Settings.{Setting, is_multiple, is_set, meaning, setting_of}
use Rattle.vc_types.specs.SortFaults.{is_other_variable, misuses_set, wrong_kind}
use Rattle.vc_types.specs.declared.fault.TypeFaultKind.{TypeFaultKind}
use Rattle.vc_types.specs.declared.meaning.Meaning.{Meaning}
use Rattle.vc_types.specs.declared.meaning.Meaning.TheVariants as meanings
use Rattle.vc_types.specs.declared.place.Place.{Place}
use Rattle.vc_compile_plan.specs.Layouts.{Layout, tree_of}
use Rattle.vc_compile_plan.specs.Refusals as refusals
use Rattle.vc_compile_plan.specs.Refusals.{TypeFault, Typed, fault_at, type_faults, typed_at, typed_if, typed_of}
use Rattle.vc_compile_valid.proofs.EachLaws.{Each}

-- each of what is joined, and of what is made one after another
pub each_split : {X : Type 0} (P : X → Type 0) (xs ys : List X) → Each P (xs ++ ys) → Each P xs × Each P ys
each_split P [] ys h = (tt, h)
each_split P (x ∷ xs) ys h = let rest = each_split P xs ys h.1 in ((h.0, rest.0), rest.1)

pub each_unflat : {X Y : Type 0} (P : Y → Type 0) (f : X → List Y) (xs : List X) → Each P (flat_map f xs)
    → Each (λ x. Each P (f x)) xs
each_unflat P f [] h = tt
each_unflat P f (x ∷ xs) h = let both = each_split P (f x) (flat_map f xs) h in (both.0, each_unflat P f xs both.1)

pub each_false : {X : Type 0} (p : X → Bool) (xs : List X) → list_any p xs ≡ false → Each (λ x. p x ≡ false) xs
each_false p [] h = tt
each_false p (x ∷ xs) h = let parts = or_parts (p x) (list_any p xs) h in (parts.0, each_false p xs parts.1)

none_left : {X : Type 0} (p : X → Bool) (xs : List X) → filter p xs ≡ [] → Each (λ x. p x ≡ false) xs
none_left p [] h = tt
none_left p (x ∷ xs) h = by (p x) refl h (λ e. none_left p xs e)
  where
    by : (b : Bool) → p x ≡ b → cond b (x ∷ filter p xs) (filter p xs) ≡ []
        → (filter p xs ≡ [] → Each (λ x. p x ≡ false) xs)
        → Each (λ x. p x ≡ false) (x ∷ xs)
    by true e k later = absurd (cc)
    by false e k later = (e, later k)

none_first : (kinds : List TypeFaultKind) → first_of kinds ≡ None → kinds ≡ []
none_first [] h = refl
none_first (kind ∷ kinds) h = absurd (cc)

-- no fault of any kind
pub record IsSound (setting : Setting) (tree : Dependency) : Type 0 where
  pub unknown : unknown_name setting tree ≡ false
  pub double : double_name setting tree ≡ false
  pub kinds : wrong_kind setting tree ≡ false
  pub monotone : not_monotone setting tree ≡ false
  pub self : self_named setting tree ≡ false
  pub parent : parent_missing setting tree ≡ false
  pub of_line : self_of_line setting tree ≡ false
  pub outside : strays setting tree ≡ false
  pub keys : no_key setting tree ≡ false
  pub terms : not_a_term setting tree ≡ false
  pub sums : sum_place tree ≡ false
  pub range : range_too_wide setting tree ≡ false
  pub parts : part_of_place tree ≡ false
  pub objects : too_many_objects tree ≡ false

pub is_sound : (model : Model) (place : Place) (tree : Dependency) → fault_of model place tree ≡ None
    → IsSound (setting_of model place tree) tree
is_sound model place tree h =
    let each
    = none_left (stands (setting_of model place tree) tree) all_kinds (none_first (faults_of model place tree) h) in
    record {
      unknown = each.0;
      double = each.1.0;
      kinds = each.1.1.0;
      monotone = each.1.1.1.0;
      self = each.1.1.1.1.0;
      parent = each.1.1.1.1.1.0;
      of_line = each.1.1.1.1.1.1.0;
      outside = each.1.1.1.1.1.1.1.0;
      keys = each.1.1.1.1.1.1.1.1.0;
      terms = each.1.1.1.1.1.1.1.1.1.0;
      sums = each.1.1.1.1.1.1.1.1.1.1.0;
      range = each.1.1.1.1.1.1.1.1.1.1.1.0;
      parts = each.1.1.1.1.1.1.1.1.1.1.1.1.0;
      objects = each.1.1.1.1.1.1.1.1.1.1.1.1.1.0;
    }

-- where nothing is wrong an operand means a characteristic
means_one : (m : Meaning) → is_unknown m ≡ false → is_self_in_constraint m ≡ false → lacks_parent m ≡ false
    → is_self_in_line m ≡ false → is_variable_outside m ≡ false → is_other_variable m ≡ false
    → (c : ℕ) × (m ≡ meanings.Characteristic c)
means_one (meanings.Characteristic c) a b d e f g = (c, refl)
means_one meanings.Unknown a b d e f g = absurd (cc)
means_one meanings.ObjectForValue a b d e f g = absurd (cc)
means_one meanings.ValueForObject a b d e f g = absurd (cc)
means_one meanings.SelfInConstraint a b d e f g = absurd (cc)
means_one meanings.NoParent a b d e f g = absurd (cc)
means_one meanings.SelfInLine a b d e f g = absurd (cc)
means_one meanings.VariableOutside a b d e f g = absurd (cc)

-- an operand that means a characteristic, and one without sets where no set may stand
pub record IsUsed (setting : Setting) (u : Use) : Type 0 where
  pub c : ℕ
  pub means : meaning setting u.operand ≡ meanings.Characteristic c
  pub single : u.for_set ≡ false → is_multiple setting.model c ≡ false

used : (setting : Setting) (us : List Use) → list_any (λ u. is_unknown (meaning setting u.operand)) us ≡ false
    → list_any (λ u. is_self_in_constraint (meaning setting u.operand)) us ≡ false
    → list_any (λ u. lacks_parent (meaning setting u.operand)) us ≡ false
    → list_any (λ u. is_self_in_line (meaning setting u.operand)) us ≡ false
    → list_any (λ u. is_variable_outside (meaning setting u.operand)) us ≡ false
    → list_any (λ u. is_other_variable (meaning setting u.operand)) us ≡ false
    → list_any (misuses_set setting) us ≡ false → Each (IsUsed setting) us
used setting [] a b d e f g h = tt
used setting (u ∷ us) a b d e f g h =
    let m = meaning setting u.operand in
    let a2 = or_parts (is_unknown m) (list_any (λ u. is_unknown (meaning setting u.operand)) us) a in
    let b2
    = or_parts (is_self_in_constraint m) (list_any (λ u. is_self_in_constraint (meaning setting u.operand)) us) b in
    let d2 = or_parts (lacks_parent m) (list_any (λ u. lacks_parent (meaning setting u.operand)) us) d in
    let e2 = or_parts (is_self_in_line m) (list_any (λ u. is_self_in_line (meaning setting u.operand)) us) e in
    let f2 = or_parts (is_variable_outside m) (list_any (λ u. is_variable_outside (meaning setting u.operand)) us) f in
    let g2 = or_parts (is_other_variable m) (list_any (λ u. is_other_variable (meaning setting u.operand)) us) g in
    let h2 = or_parts (misuses_set setting u) (list_any (misuses_set setting) us) h in
    let one = means_one m a2.0 b2.0 d2.0 e2.0 f2.0 g2.0 in (
      record {
        c = one.0;
        means = one.1;
        single = λ value. sym (ap (is_set setting.model) one.1) ∙ sym (ap (λ b. not b && is_set setting.model m) value)
            ∙ h2.0;
      },
      used setting us a2.1 b2.1 d2.1 e2.1 f2.1 g2.1 h2.1,
    )

pub all_used : (setting : Setting) (tree : Dependency) → IsSound setting tree → Each (IsUsed setting) (uses_in tree)
all_used setting tree sound =
    let first = or_parts _ _ (or_parts _ _ sound.unknown).0 in
    let self = or_parts _ _ sound.self in
    let line = or_parts _ _ sound.of_line in
    let outside = or_parts _ _ sound.outside in
    let kinds = or_parts _ _ (or_parts _ _ sound.kinds).1 in
    let variables = or_parts _ _ kinds.0 in
    let sets = or_parts _ _ (or_parts _ _ kinds.1).0 in
    used setting (uses_in tree) first.0 self.0 sound.parent line.0 outside.0 variables.0 sets.0

-- each object and each call is known
pub names_known : (setting : Setting) (tree : Dependency) → IsSound setting tree
    → (list_any (is_unknown_object setting) (objects_in tree) ≡ false)
    × (list_any (is_unknown_call setting) (calls_in tree) ≡ false)
names_known setting tree sound =
    let all = or_parts
    (some_operand is_unknown setting tree
    || (list_any (is_unknown_object setting) (objects_in tree) || list_any (is_unknown_call setting) (calls_in tree)))
    (list_any (is_undeclared setting) (parted_names tree) || list_any (is_of_no_part setting) (summed_names tree))
    sound.unknown in
    let first = or_parts (some_operand is_unknown setting tree)
    (list_any (is_unknown_object setting) (objects_in tree) || list_any (is_unknown_call setting) (calls_in tree))
    all.0 in
    or_parts (list_any (is_unknown_object setting) (objects_in tree))
    (list_any (is_unknown_call setting) (calls_in tree)) first.1

-- no fault is told, so each place has none
none_told : (faults : List TypeFault) → refusals.first_of faults ≡ None → faults ≡ []
none_told [] h = refl
none_told (fault ∷ faults) h = absurd (cc)

abbrev pub HasNone : Model → Typed → Type 0
HasNone model typed = fault_of model typed.place typed.tree ≡ None

none_mapped : (model : Model) (ts : List Typed) → filter_map (fault_at model) ts ≡ [] → Each (HasNone model) ts
none_mapped model [] h = tt
none_mapped model (t ∷ ts) h = by (fault_of model t.place t.tree) refl h (λ e. none_mapped model ts e)
  where
    by : (o : Option TypeFaultKind) → fault_of model t.place t.tree ≡ o
        → cons_option (option_map (λ kind. record { line = t.line; kind = kind }) o) (filter_map (fault_at model) ts)
        ≡ []
        → (filter_map (fault_at model) ts ≡ [] → Each (HasNone model) ts) → Each (HasNone model) (t ∷ ts)
    by None e k later = (e, later k)
    by (Some kind) e k later = absurd (cc)

pub all_without : (layout : Layout) → refusals.first_of (type_faults layout) ≡ None
    → Each (HasNone layout.model) (typed_of layout)
all_without layout h = none_mapped layout.model (typed_of layout) (none_told (type_faults layout) h)

-- what is typed of a dependency, if it is there
abbrev named_typed : Model → (Dependency → Place) → Option NamedDependency → List Typed
named_typed model place None = []
named_typed model place (Some named) =
    record { line = named.line; place = place (dependency_of named.tree); tree = dependency_of named.tree } ∷ []

same_typed : (model : Model) (place : Dependency → Place) (d : ℕ)
    → typed_if model place d ≡ named_typed model place (slice_get model.dependencies d)
same_typed model place d = by (slice_get model.dependencies d) refl
  where
    by : (o : Option NamedDependency) → slice_get model.dependencies d ≡ o
        → typed_if model place d ≡ named_typed model place (slice_get model.dependencies d)
    by None e = rw e refl
    by (Some x) e = rw e refl

-- what is used at a place has no fault there
abbrev pub IsTypedAt : Model → (Dependency → Place) → ℕ → Type 0
IsTypedAt model place d = (tree : Dependency) → tree_of model d ≡ Some tree → fault_of model (place tree) tree ≡ None

pub uses_typed : (model : Model) (place : Dependency → Place) (uses : List ℕ)
    → Each (HasNone model) (typed_at model place uses)
    → Each (IsTypedAt model place) uses
uses_typed model place [] h = tt
uses_typed model place (d ∷ uses) h =
    let both = each_split (HasNone model) (typed_if model place d) (typed_at model place uses) h in
    (λ tree e. by (slice_get model.dependencies d) refl both.0 tree e, uses_typed model place uses both.1)
  where
    one : (x : NamedDependency) (tree : Dependency) → Some (dependency_of x.tree) ≡ Some tree
        → fault_of model (place (dependency_of x.tree)) (dependency_of x.tree) ≡ None
        → fault_of model (place tree) tree ≡ None
    one x tree e h = let same : dependency_of x.tree ≡ tree = cc in sym (ap (λ t. fault_of model (place t) t) same) ∙ h

    typed_there : (x : NamedDependency) → slice_get model.dependencies d ≡ Some x
        → Each (HasNone model) (typed_if model place d)
        → fault_of model (place (dependency_of x.tree)) (dependency_of x.tree) ≡ None
    typed_there x e h = (subst (λ o. Each (HasNone model) (named_typed model place o)) e
        (subst (Each (HasNone model)) (same_typed model place d) h)).0

    by : (o : Option NamedDependency) → slice_get model.dependencies d ≡ o
        → Each (HasNone model) (typed_if model place d)
        → (tree : Dependency)
        → option_map (λ named. dependency_of named.tree) (slice_get model.dependencies d) ≡ Some tree
        → fault_of model (place tree) tree ≡ None
    by None e h tree f =
        absurd (let gone : None ≡ Some tree = sym (ap (option_map (λ named. dependency_of named.tree)) e) ∙ f in cc)
    by (Some x) e h tree f =
        one x tree (sym (ap (option_map (λ named. dependency_of named.tree)) e) ∙ f) (typed_there x e h)

-- what each has that is there
pub each_here : {X : Type 0} (P : X → Type 0) (xs : List X) (k : ℕ) (x : X) → Each P xs → slice_get xs k ≡ Some x → P x
each_here P [] k x h e = absurd (cc)
each_here P (y ∷ xs) zero x h e = let same : y ≡ x = cc in subst P same h.0
each_here P (y ∷ xs) (suc k) x h e = each_here P xs k x h.1 e
