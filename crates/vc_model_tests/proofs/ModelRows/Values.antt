-- Characteristics with their values, classes and tables of the model.
use Rattle.std.proofs.Common.{◌≡◌, ap, ℕ, ℤ, pos, neg_ℤ, Bool, true, false, List, [], ◌∷◌, refl}
use Rattle.std.specs.Prelude.{◌≢◌, None, Some, codes, map}
use Rattle.vc_model_scope.specs.Scope.{scope_of}
use Rattle.vc_model_parts.specs.declared.parts.Characteristic.{Characteristic}
use Rattle.vc_model_parts.specs.declared.parts.NumberValue.{NumberValue}
use Rattle.vc_model_parts.specs.declared.parts.TextValue.{TextValue}
use Rattle.vc_model_parts.specs.declared.parts.Values.{Values}
use Rattle.vc_model_parts.specs.declared.parts.Values.TheVariants as values
use Rattle.vc_model_tests.proofs.ModelRows.Pumps.{model, differs}

abbrev listed_text : ℕ → List ℕ → TextValue
listed_text text uses = record { text = text; uses = uses }

abbrev from_to : ℤ → ℤ → List ℕ → NumberValue
from_to low high uses = record { low = record { millionths = low }; high = record { millionths = high }; uses = uses }

-- what stands before its first VALUE is its own; the value L has a procedure and then a precondition
abbrev size : Characteristic
size = record {
  name = codes "SIZE";
  restrictable = true;
  required = false;
  uses = 2 ∷ 1 ∷ 0 ∷ [];
  values = values.Texts 2 false (listed_text 0 [] ∷ listed_text 1 (6 ∷ 0 ∷ []) ∷ listed_text 2 [] ∷ []);
}

-- XL is the same text there, with a precondition here alone
abbrev option : Characteristic
option = record {
  name = codes "OPTION";
  restrictable = false;
  required = true;
  uses = [];
  values = values.Texts 3 true (listed_text 2 (0 ∷ []) ∷ listed_text 3 [] ∷ []);
}

abbrev flow : Characteristic
flow = record {
  name = codes "FLOW";
  restrictable = true;
  required = false;
  uses = 0 ∷ [];
  values = values.Numbers 1 (Some (codes "M3/H"))
      (from_to (pos 0) (pos 0) (2 ∷ []) ∷ from_to (pos 2_500_000) (pos 100_000_000) (0 ∷ []) ∷ []);
}

abbrev weight : Characteristic
weight = record {
  name = codes "WEIGHT";
  restrictable = false;
  required = true;
  uses = [];
  values = values.Numbers 0 None (from_to (neg_ℤ (pos 1_000_000)) (pos 9_000_000) [] ∷ []);
}

characteristics : model.characteristics ≡ size ∷ option ∷ flow ∷ weight ∷ []
unfolding scope_of
characteristics = refl

-- what the values of each use
abbrev of_values : Values → List (List ℕ)
of_values (values.Texts length multiple listed) = map (λ v. v.uses) listed
of_values (values.Numbers decimals unit listed) = map (λ v. v.uses) listed

abbrev value_uses : List Characteristic → List (List (List ℕ))
value_uses listed = map (λ c. of_values c.values) listed

abbrev own_uses : List Characteristic → List (List ℕ)
own_uses listed = map (λ c. c.uses) listed

given_to_the_characteristic : own_uses model.characteristics
    ≢ (2 ∷ 1 ∷ 0 ∷ 6 ∷ 0 ∷ []) ∷ (0 ∷ []) ∷ (0 ∷ 2 ∷ 0 ∷ []) ∷ [] ∷ []
given_to_the_characteristic = differs (ap own_uses characteristics) (λ e. cc)

given_to_the_value : own_uses model.characteristics ≢ [] ∷ [] ∷ [] ∷ [] ∷ []
given_to_the_value = differs (ap own_uses characteristics) (λ e. cc)

up_to_a_comment : own_uses model.characteristics ≢ (2 ∷ 1 ∷ []) ∷ [] ∷ (0 ∷ []) ∷ [] ∷ []
up_to_a_comment = differs (ap own_uses characteristics) (λ e. cc)

given_to_the_value_below : value_uses model.characteristics
    ≢ ([] ∷ [] ∷ (6 ∷ 0 ∷ []) ∷ []) ∷ ([] ∷ (0 ∷ []) ∷ []) ∷ ([] ∷ (2 ∷ []) ∷ []) ∷ ([] ∷ []) ∷ []
given_to_the_value_below = differs (ap value_uses characteristics) (λ e. cc)

-- the last value of OPTION hasn't what FLOW uses below it
up_to_the_next_value : value_uses model.characteristics
    ≢ ([] ∷ (6 ∷ 0 ∷ []) ∷ [] ∷ []) ∷ ((0 ∷ []) ∷ (0 ∷ []) ∷ []) ∷ ((2 ∷ []) ∷ (0 ∷ []) ∷ []) ∷ ([] ∷ []) ∷ []
up_to_the_next_value = differs (ap value_uses characteristics) (λ e. cc)

-- flags
abbrev restrictable : List Characteristic → List Bool
restrictable listed = map (λ c. c.restrictable) listed

restrictable_lost : restrictable model.characteristics ≢ false ∷ false ∷ false ∷ false ∷ []
restrictable_lost = differs (ap restrictable characteristics) (λ e. cc)

required_for_restrictable : restrictable model.characteristics ≢ false ∷ true ∷ false ∷ true ∷ []
required_for_restrictable = differs (ap restrictable characteristics) (λ e. cc)

-- the ends of what is listed as numbers
abbrev lows_of : Values → List ℤ
lows_of (values.Texts length multiple listed) = []
lows_of (values.Numbers decimals unit listed) = map (λ v. v.low.millionths) listed

abbrev lows : List Characteristic → List (List ℤ)
lows listed = map (λ c. lows_of c.values) listed

ends_exchanged : lows model.characteristics
    ≢ [] ∷ [] ∷ (pos 0 ∷ pos 100_000_000 ∷ []) ∷ (pos 9_000_000 ∷ []) ∷ []
ends_exchanged = differs (ap lows characteristics) (λ e. cc)

-- members and columns in the order of their lines, each by its number among all characteristics
classes : model.classes
    ≡ record { name = codes "DRIVES"; members = 1 ∷ [] } ∷ record { name = codes "PUMPS"; members = 2 ∷ 0 ∷ 3 ∷ [] }
    ∷ []
unfolding scope_of
classes = refl

-- the file keeps its case
tables : model.tables
    ≡ record {
      name = codes "SF";
      file = codes "Sf.csv";
      columns = record { characteristic = 2; key = false } ∷ record { characteristic = 0; key = true } ∷ [];
    }
    ∷ record { name = codes "W"; file = codes "w.csv"; columns = record { characteristic = 3; key = false } ∷ [] }
    ∷ []
unfolding scope_of
tables = refl
