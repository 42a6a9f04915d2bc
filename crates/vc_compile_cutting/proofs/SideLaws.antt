-- What stands beside a variable in a compiled relation is marked where its operand names its characteristic.
use Rattle.std.proofs.Common.{◌≡◌, ℕ, true, List, [], ◌∷◌, map, flat_map, Option, Some, None, refl, sym, ap, ◌∙◌, subst}
use Rattle.std.specs.Prelude.{◌==◌, slice_get}
use Rattle.std.specs.List.{list_all}
use Rattle.std.proofs.lemmas.Bool.{eqb-true}
use Rattle.vc_value.specs.declared.decimal.Dec.{Dec}
use Rattle.vc_value.specs.declared.value.Value.{Value}
use Rattle.vc_model_parts.specs.declared.parts.Class.{Class}
use Rattle.vc_model_parts.specs.declared.parts.Model.{Model}
use Rattle.vc_plan.specs.Cuts.{ends_of, is_cut_at, number_at}
use Rattle.vc_plan.specs.Domains.{domain_of, grains_in}
use Rattle.vc_plan.specs.declared.plans.Plan.{Plan}
use Rattle.vc_plan.specs.declared.plans.Var.{Var}
use Rattle.vc_syntax_tree.specs.declared.Item.{Item}
use Rattle.vc_syntax_tree.specs.declared.Item.TheVariants as items
use Rattle.vc_syntax_tree.specs.declared.Operand.{Operand}
use Rattle.vc_syntax_tree.specs.declared.Operand.TheVariants as operands
use Rattle.vc_syntax_tree.specs.declared.Owner.TheVariants as owners
use Rattle.vc_syntax_tree.specs.Trees as syntax
use Rattle.vc_table.specs.declared.table.VariantTable.{VariantTable}
use Rattle.vc_types.specs.Looking.{characteristic_named, class_of, member_in, member_of}
use Rattle.vc_types.specs.Meanings.{Variable, if_constraint, known, meaning_of, member_meaning, of_object, of_parent}
use Rattle.vc_types.specs.Meanings.{parent_meaning, plain_meaning, referent_of, root_meaning, self_meaning}
use Rattle.vc_types.specs.Meanings.{value_meaning, variable_named}
use Rattle.vc_types.specs.Occurrences.{operands_of}
use Rattle.vc_types.specs.Settings.{meaning}
use Rattle.vc_types.specs.declared.meaning.Meaning.TheVariants as meanings
use Rattle.vc_types.specs.declared.meaning.Referent.{Referent}
use Rattle.vc_types.specs.declared.meaning.Referent.TheVariants as referents
use Rattle.vc_types.specs.declared.place.At.{At}
use Rattle.vc_types.specs.declared.place.At.TheVariants as places
use Rattle.vc_types.specs.declared.place.Place.{Place}
use Rattle.vc_compile_plan.specs.Conditions.{piece_of}
use Rattle.vc_compile_plan.specs.Cuts.{characteristic_of, item_numbers, literal_number, marks_at, marks_of, of_referent}
use Rattle.vc_compile_plan.specs.Layouts.{layout_of}
use Rattle.vc_compile_plan.specs.PlanOf.{IsPlanOf}
use Rattle.vc_compile_plan.specs.Sites.{Site, characteristic_in, var_meant}
use Rattle.vc_compile_plan.specs.Terms.{lone_of, minus, minus_literal, term_at}
use Rattle.vc_compile_plan.specs.Trees as trees
use Rattle.vc_compile_valid.proofs.EachLaws.{Each, each_more}
use Rattle.vc_compile_valid.proofs.EntryLaws.{each_unmapped}
use Rattle.vc_compile_meant.proofs.ColumnLaws.{found_passes}
use Rattle.vc_compile_meant.proofs.MeaningLaws.{known_is}
use Rattle.vc_compile_sizes.proofs.TermSizeLaws.{IsKnown, var_meant_is}
use Rattle.vc_compile_cutting.proofs.MarkLaws.{Cuts, IsCutAt}

-- an operand that means a characteristic names it
member_named : (model : Model) (name : List ℕ) (class : Option ℕ) (c : ℕ)
    → known (member_of model name class) ≡ meanings.Characteristic c
    → characteristic_named model name ≡ Some c
member_named model name None c e = absurd (cc)
member_named model name (Some k) c e =
    by (slice_get model.classes k) (characteristic_named model name)
    (known_is (member_in (slice_get model.classes k) (characteristic_named model name)) c e)
  where
    by : (class : Option Class) (o : Option ℕ) → member_in class o ≡ Some c → o ≡ Some c
    by class None f = absurd (cc)
    by None (Some d) f = absurd (cc)
    by (Some class) (Some d) f =
        ap Some (sym (eqb-true c d (found_passes (λ member. member == d) class.members c f)))

object_named : (model : Model) (name : List ℕ) (object : Option ℕ) (c : ℕ)
    → of_object model name object ≡ meanings.Characteristic c
    → characteristic_named model name ≡ Some c
object_named model name object c e = member_named model name (class_of model object) c e

parent_named : (model : Model) (name : List ℕ) (parent : Option ℕ) (c : ℕ)
    → of_parent model name parent ≡ meanings.Characteristic c
    → characteristic_named model name ≡ Some c
parent_named model name None c e = absurd (cc)
parent_named model name (Some object) c e = object_named model name (Some object) c e

plain_named : (model : Model) (place : Place) (name : List ℕ) (at : At) (c : ℕ)
    → plain_meaning model place name at ≡ meanings.Characteristic c
    → characteristic_named model name ≡ Some c
plain_named model place name places.Constraint c e = absurd (cc)
plain_named model place name places.Characteristic c e = object_named model name (Some place.object) c e
plain_named model place name places.Procedure c e = object_named model name (Some place.object) c e
plain_named model place name (places.Line configurable) c e = object_named model name (Some place.object) c e
plain_named model place name places.Operation c e = object_named model name (Some place.object) c e

self_named : (model : Model) (place : Place) (name : List ℕ) (at : At) (c : ℕ)
    → self_meaning model place name at ≡ meanings.Characteristic c
    → characteristic_named model name ≡ Some c
self_named model place name places.Constraint c e = absurd (cc)
self_named model place name places.Characteristic c e = object_named model name (Some place.object) c e
self_named model place name places.Procedure c e = object_named model name (Some place.object) c e
self_named model place name (places.Line configurable) c e = absurd (cc)
self_named model place name places.Operation c e = object_named model name (Some place.object) c e

above_named : (model : Model) (place : Place) (name : List ℕ) (at : At) (c : ℕ)
    → parent_meaning model place name at ≡ meanings.Characteristic c
    → characteristic_named model name ≡ Some c
above_named model place name places.Constraint c e = absurd (cc)
above_named model place name places.Characteristic c e = parent_named model name place.parent c e
above_named model place name places.Procedure c e = parent_named model name place.parent c e
above_named model place name (places.Line configurable) c e = object_named model name (Some place.object) c e
above_named model place name places.Operation c e = parent_named model name place.parent c e

root_named : (model : Model) (name : List ℕ) (at : At) (c : ℕ) → root_meaning model name at ≡ meanings.Characteristic c
    → characteristic_named model name ≡ Some c
root_named model name places.Constraint c e = absurd (cc)
root_named model name places.Characteristic c e = object_named model name (Some model.root) c e
root_named model name places.Procedure c e = object_named model name (Some model.root) c e
root_named model name (places.Line configurable) c e = object_named model name (Some model.root) c e
root_named model name places.Operation c e = object_named model name (Some model.root) c e

-- a `?` variable means what it does in a constraint
asked_in : {P : Type 0} (at : At) (m : _) (c : ℕ) → if_constraint at m ≡ meanings.Characteristic c
    → (m ≡ meanings.Characteristic c → P) → P
asked_in places.Constraint m c e of = of e
asked_in places.Characteristic m c e of = absurd (cc)
asked_in places.Procedure m c e of = absurd (cc)
asked_in (places.Line configurable) m c e of = absurd (cc)
asked_in places.Operation m c e of = absurd (cc)

referent_named : (model : Model) (name : List ℕ) (o : Option Referent) (c : ℕ)
    → member_meaning model name o ≡ meanings.Characteristic c
    → characteristic_named model name ≡ Some c
referent_named model name None c e = absurd (cc)
referent_named model name (Some (referents.Object class)) c e = member_named model name class c e
referent_named model name (Some (referents.Value d)) c e = absurd (cc)

value_named : (o : Option Referent) (c : ℕ) → value_meaning o ≡ meanings.Characteristic c → of_referent o ≡ Some c
value_named None c e = absurd (cc)
value_named (Some (referents.Object class)) c e = absurd (cc)
value_named (Some (referents.Value d)) c e = known_is d c e

pub named_is : (model : Model) (place : Place) (variables : List Variable) (operand : Operand) (c : ℕ)
    → meaning_of model place variables operand ≡ meanings.Characteristic c
    → characteristic_of model variables operand ≡ Some c
named_is model place variables (operands.Plain leaf) c e = plain_named model place leaf.name place.at c e
named_is model place variables (operands.Owned owners.Itself leaf) c e = self_named model place leaf.name place.at c e
named_is model place variables (operands.Owned owners.Parent leaf) c e = above_named model place leaf.name place.at c e
named_is model place variables (operands.Owned owners.Root leaf) c e = root_named model leaf.name place.at c e
named_is model place variables (operands.Member variable leaf) c e =
    asked_in place.at (member_meaning model leaf.name (referent_of (variable_named variables variable.name))) c e
    (referent_named model leaf.name (referent_of (variable_named variables variable.name)) c)
named_is model place variables (operands.Variable leaf) c e =
    asked_in place.at (value_meaning (referent_of (variable_named variables leaf.name))) c e
    (value_named (referent_of (variable_named variables leaf.name)) c)

-- what cuts a characteristic cuts the variable that an operand is
pub cut_meant : (model : Model) (tables : List VariantTable) (plan : Plan) → IsPlanOf model tables plan
    → (site : Site) (operand : Operand)
    (c : ℕ) → meaning site.setting operand ≡ meanings.Characteristic c → (n : Dec)
    → Cuts plan (record { characteristic = c; number = n })
    → IsCutAt plan (var_meant (layout_of model) site operand) n
cut_meant model tables plan is site operand c means n cuts = by (slice_get plan.vars v) refl
  where
    v : ℕ
    v = var_meant (layout_of model) site operand

    by : (o : Option Var) → slice_get plan.vars v ≡ o
        → list_all (is_cut_at n) (grains_in (domain_of plan (slice_get plan.vars v))) ≡ true
    by None e = ap (λ o. list_all (is_cut_at n) (grains_in (domain_of plan o))) e
    by (Some x) e =
        cuts v x e (var_meant_is model site operand x (ap (λ xs. slice_get xs v) (sym is.vars) ∙ e)
        ∙ ap characteristic_in means)

pub marks_meant : (model : Model) (tables : List VariantTable) (plan : Plan) → IsPlanOf model tables plan
    → (site : Site)
    → site.setting.model ≡ model → (operand : Operand) → IsKnown site operand → (numbers : List Dec)
    → Each (Cuts plan) (marks_of model site.setting.variables (Some operand) numbers)
    → Each (IsCutAt plan (var_meant (layout_of model) site operand)) numbers
marks_meant model tables plan is site of operand known numbers h =
    let named = ap (λ m. characteristic_of m site.setting.variables operand) (sym of)
    ∙ named_is site.setting.model site.setting.place site.setting.variables operand known.c known.means in
    let all = subst (λ o. Each (Cuts plan) (marks_at o numbers)) named h in
    each_more (λ n. Cuts plan (record { characteristic = known.c; number = n }))
    (IsCutAt plan (var_meant (layout_of model) site operand))
    (cut_meant model tables plan is site operand known.c known.means) numbers
    (each_unmapped (Cuts plan) (λ n. record { characteristic = known.c; number = n }) numbers all)

-- a compiled side: the variable that it is alone, and the number that it is
abbrev pub lone_tree : trees.Term → Option ℕ
lone_tree (trees.Literal a) = None
lone_tree (trees.Read v) = Some v
lone_tree (trees.PartSum slot c) = None
lone_tree (trees.PartCount slot) = None
lone_tree (trees.Applied function a) = None
lone_tree (trees.Joined operator a b) = None

abbrev pub literal_tree : trees.Term → List Dec
literal_tree (trees.Literal a) = number_at a
literal_tree (trees.Read v) = []
literal_tree (trees.PartSum slot c) = []
literal_tree (trees.PartCount slot) = []
literal_tree (trees.Applied function a) = []
literal_tree (trees.Joined operator a b) = []

-- the variable, if there is one, is cut at these
abbrev pub Beside : Plan → Option ℕ → List Dec → Type 0
Beside plan None numbers = Unit {0}
Beside plan (Some v) numbers = Each (IsCutAt plan v) numbers

minus_lone : (o : Option Value) (term : trees.Term) → lone_tree (minus o term) ≡ None
minus_lone None term = refl
minus_lone (Some a) term = refl

pub beside_lone : (model : Model) (tables : List VariantTable) (plan : Plan) → IsPlanOf model tables plan
    → (site : Site)
    → site.setting.model ≡ model → (t : syntax.Term) → Each (IsKnown site) (operands_of t) → (numbers : List Dec)
    → Each (Cuts plan) (marks_of model site.setting.variables (lone_of t) numbers)
    → Beside plan (lone_tree (term_at (layout_of model) site t)) numbers
beside_lone model tables plan is site of (syntax.Number leaf) known numbers h = tt
beside_lone model tables plan is site of (syntax.Text leaf) known numbers h = tt
beside_lone model tables plan is site of (syntax.Operand operand) known numbers h =
    marks_meant model tables plan is site of operand known.0 numbers h
beside_lone model tables plan is site of (syntax.Negated t) known numbers h =
    subst (λ o. Beside plan o numbers) (sym (minus_lone (minus_literal t) (term_at (layout_of model) site t))) tt
beside_lone model tables plan is site of (syntax.Combined left operator right) known numbers h = tt
beside_lone model tables plan is site of (syntax.Applied function t) known numbers h = tt
beside_lone model tables plan is site of (syntax.SumOfParts name) known numbers h = tt
beside_lone model tables plan is site of syntax.CountOfParts known numbers h = tt

pub literal_same : (model : Model) (site : Site) (t : syntax.Term)
    → literal_tree (term_at (layout_of model) site t) ≡ literal_number t
literal_same model site (syntax.Number leaf) = refl
literal_same model site (syntax.Text leaf) = refl
literal_same model site (syntax.Operand operand) = refl
literal_same model site (syntax.Negated (syntax.Number leaf)) = refl
literal_same model site (syntax.Negated (syntax.Text leaf)) = refl
literal_same model site (syntax.Negated (syntax.Operand operand)) = refl
literal_same model site (syntax.Negated (syntax.Negated t)) = refl
literal_same model site (syntax.Negated (syntax.Combined left operator right)) = refl
literal_same model site (syntax.Negated (syntax.Applied function t)) = refl
literal_same model site (syntax.Negated (syntax.SumOfParts name)) = refl
literal_same model site (syntax.Negated syntax.CountOfParts) = refl
literal_same model site (syntax.Combined left operator right) = refl
literal_same model site (syntax.Applied function t) = refl
literal_same model site (syntax.SumOfParts name) = refl
literal_same model site syntax.CountOfParts = refl

-- and the ends of what IN lists
pub ends_listed : (P : Dec → Type 0) (texts : List (List ℕ)) (listed : List Item)
    → Each P (flat_map item_numbers listed)
    → Each P (flat_map ends_of (map (piece_of texts) listed))
ends_listed P texts [] h = tt
ends_listed P texts (items.Text leaf ∷ listed) h = ends_listed P texts listed h
ends_listed P texts (items.Number number ∷ listed) h = (h.0, (h.0, ends_listed P texts listed h.1))
ends_listed P texts (items.Interval low high ∷ listed) h = (h.0, (h.1.0, ends_listed P texts listed h.1.1))
