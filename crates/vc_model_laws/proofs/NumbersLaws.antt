-- The numbers of a model that a text spells are small.
use Rattle.std.proofs.Common.{◌≡◌, ℕ, ◌+◌, Bool, true, ◌&&◌, List, [], ◌∷◌, Option, Some, None, refl}
use Rattle.std.specs.Prelude.{option_map}
use Rattle.std.proofs.lemmas.Bool.{and_parts, and_from}
use Rattle.vc_value.specs.declared.decimal.Dec.{Dec}
use Rattle.vc_model_lines.specs.declared.line.Line.{Line}
use Rattle.vc_model_lines.specs.declared.line.Line.TheVariants as lines
use Rattle.vc_model_scope.specs.Contents.{entry_within}
use Rattle.vc_model_scope.specs.Scope.{scope_of}
use Rattle.vc_model_scope.specs.Stands.{opens}
use Rattle.vc_model_faults.specs.First.{backwards}
use Rattle.vc_model_parts.specs.declared.parts.NumberValue.{NumberValue}
use Rattle.vc_model_drafts.specs.Models.{uses_below, number_at, characteristic_at, model_of}
use Rattle.vc_model_laws.specs.Numbers.{is_small, are_small, KeepsNumbers}
use Rattle.vc_model_laws.proofs.Holding.{each}
use Rattle.vc_model_laws.proofs.LineCases.{number_with, at_characteristic, at_number}
use Rattle.vc_model_laws.proofs.NamesLaws.{made}
use Rattle.vc_model_laws.proofs.Walks.{Sound, each_said}

abbrev IsSmall : NumberValue → Bool
IsSmall value = is_small value.low && is_small value.high

ends_small : (uses : List ℕ) (low high : Option Dec) → each is_small low ≡ true → each is_small high ≡ true
    → each IsSmall (option_map (number_with uses) (entry_within low high)) ≡ true
ends_small uses None high l h = refl
ends_small uses (Some low) None l h = refl
ends_small uses (Some low) (Some high) l h = and_from (is_small low) (is_small high) l h

pub keeps_numbers : (ls : List Line) → Sound [] ls → KeepsNumbers (model_of ls)
keeps_numbers ls s =
    let all = backwards [] ls in
    let a = scope_of all in
    record {
      numbers = made (characteristic_at a) (λ c. are_small c.values) ls s
          (λ e n l b p. at_characteristic all e a n l b (λ c. are_small c.values)
          (λ x q. refl)
          (λ x q. each_said opens (number_at a) IsSmall all
          (λ e n l b p. at_number all e a n l b IsSmall
          (λ x q. ends_small (uses_below a (n + 1) b) x.low x.high
          (and_parts (each is_small x.low) (each is_small x.high) q.passes.formed).0
          (and_parts (each is_small x.low) (each is_small x.high) q.passes.formed).1) p)
          (lines.Num x ∷ e) (n + 1) b q.after q.all_are) p);
    }
