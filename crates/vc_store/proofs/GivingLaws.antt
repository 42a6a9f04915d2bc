-- Values that are given one after another.
use Rattle.std.proofs.Common.{◌≡◌, ◌<◌, true, List, ◌∷◌}
use Rattle.std.proofs.Common.{length, refl, ◌∙◌, subst, arith}
use Rattle.std.specs.Prelude.{Option, None, Some, is_some}
use Rattle.std.proofs.lemmas.List.{length-set}
use Rattle.serde_json.specs.View.{view}
use Rattle.serde_json.specs.declared.value.Value.{Value as Json}
use Rattle.vc_value.specs.declared.value.Value.{Value}
use Rattle.vc_value.specs.declared.value.Value.TheVariants.{Num, Text}
use Rattle.vc_plan.specs.declared.plans.Named.{Named}
use Rattle.vc_plan.specs.declared.plans.Named.TheVariants.{Set, Var}
use Rattle.vc_plan.specs.declared.plans.Plan.{Plan}
use Rattle.vc_plan_users.specs.Choosing.{Chosen}
use Rattle.vc_session.specs.Edits.{given, is_there}
use Rattle.vc_desk_names.specs.Meant.{value_named}
use Rattle.vc_store_forms.specs.Forms.{Choice}
use Rattle.vc_store_forms.specs.Shapes.{choice_in}
use Rattle.vc_store.specs.Marking.{AreFor, given_all, given_if, meaning_if, meaning_in}
use Rattle.vc_store.specs.Meaning.{Given, at_text, given_if as given_of, meaning, meaning_at, named_by}
use Rattle.vc_store.proofs.MarkLaws.{marked_for}
use Rattle.vc_store.proofs.NamingLaws.{named_below}

-- what is chosen stays for the plan
given_at : (plan : Plan) (chosen : Chosen) (named : Named) (a : Value) → AreFor plan chosen
    → AreFor plan (given chosen named a)
given_at plan chosen (Var v) a of = record {
  values = length-set chosen.values v (Some a) ∙ of.values;
  sets = of.sets;
}
given_at plan chosen (Set s) (Text t) of = marked_for plan chosen (at_text s t) of
given_at plan chosen (Set s) (Num a) of = of

pub given_for : (plan : Plan) (chosen : Chosen) (g : Given) → AreFor plan chosen
    → AreFor plan (given chosen g.named g.value)
given_for plan chosen g of = given_at plan chosen g.named g.value of

-- what has a meaning is there
named_there : (plan : Plan) (chosen : Chosen) (choice : Choice) (named : Named) → AreFor plan chosen
    → named_by plan choice ≡ Some named → is_there chosen named
named_there plan chosen choice (Var v) of e =
    let low : v < length plan.vars = named_below plan choice.instance choice.characteristic v e in
    omega (arith, low, of.values)
named_there plan chosen choice (Set s) of e = tt

choice_there : (plan : Plan) (chosen : Chosen) (choice : Choice) (g : Given) → AreFor plan chosen
    → meaning plan choice ≡ Some g → is_there chosen g.named
choice_there plan chosen choice g of e = by (named_by plan choice) refl e
  where
    at : (named : Named) (o : Option Value) → named_by plan choice ≡ Some named → given_of named o ≡ Some g
        → is_there chosen g.named
    at named None h f = absurd (cc)
    at named (Some a) h f =
        let whole : Given = record { named = named; value = a } in
        let same : whole ≡ g = cc in
        subst (λ x. is_there chosen x.named) same (named_there plan chosen choice named of h)

    by : (o : Option Named) → named_by plan choice ≡ o → meaning_at plan choice.value o ≡ Some g
        → is_there chosen g.named
    by None h f = absurd (cc)
    by (Some named) h f = at named (value_named plan named choice.value) h f

pub meaning_there : (plan : Plan) (chosen : Chosen) (json : Json) (g : Given) → AreFor plan chosen
    → meaning_in plan json ≡ Some g → is_there chosen g.named
meaning_there plan chosen json g of e = by (choice_in (view json)) e
  where
    by : (o : Option Choice) → meaning_if plan o ≡ Some g → is_there chosen g.named
    by None f = absurd (cc)
    by (Some choice) f = choice_there plan chosen choice g of f

-- the first is given, and the rest after it
pub given_step : (chosen : Chosen) (o : Option Given) (rest : List (Option Given)) → is_some o ≡ true
    → given_all chosen (o ∷ rest) ≡ given_all (given_if chosen o) rest
given_step chosen None rest known = absurd (cc)
given_step chosen (Some g) rest known = refl
