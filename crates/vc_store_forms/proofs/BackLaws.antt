-- What is written in the form is read as it was.
use Rattle.std.proofs.Common.{◌≡◌, ◌<◌, ◌≤◌, ◌^◌, List, [], ◌∷◌, map, refl, sym, ap, ◌∙◌, arith, append-nil, Some}
use Rattle.std.specs.Prelude.{Option, option_and_then, option_map}
use Rattle.json.specs.Json as json
use Rattle.json.specs.Lex.{tokens}
use Rattle.json.specs.Token.{Token}
use Rattle.json.specs.Tree as tree
use Rattle.json.proofs.Printed.Decimals.{IsNumber-decimal}
use Rattle.json.proofs.Printed.Tokens.{tokens-print}
use Rattle.json.proofs.Printed.Trees.{ArePrintable-json_tokens, value-json_tokens}
use Rattle.serde_json.specs.Data.{Data, item}
use Rattle.serde_json.specs.Read.{max_depth, of_items, of_json, read}
use Rattle.serde_json.specs.View.{items_of}
use Rattle.serde_json.specs.Written.{compact_text, items_outline, outline}
use Rattle.serde_json.proofs.Numbers.{number_of-decimal}
use Rattle.serde_json.proofs.Texts.{print-outline}
use Rattle.vc_store_forms.specs.Forms.{Choice, Saved, choice_data, form_text, saved_data}
use Rattle.vc_store_forms.specs.Laws.{AreSmall, FormIsRead}
use Rattle.vc_store_forms.specs.Shapes.{choices_in, saved_in, with_choice}

choice_back : (choice : Choice) → choice.instance < 2 ^ 64
    → of_json (outline (choice_data choice)) ≡ Some (choice_data choice)
choice_back choice small = rw (number_of-decimal choice.instance small) refl

choices_back : (choices : List Choice) → AreSmall choices
    → of_items (items_outline (items_of (map choice_data choices))) ≡ Some (items_of (map choice_data choices))
choices_back [] h = refl
choices_back (choice ∷ choices) h =
    ap (option_and_then (λ d. option_map (item d) (of_items (items_outline (items_of (map choice_data choices))))))
    (choice_back choice h.0)
    ∙ ap (option_map (item (choice_data choice))) (choices_back choices h.1)

saved_back : (saved : Saved) → saved.version < 2 ^ 64 → AreSmall saved.choices
    → of_json (outline (saved_data saved)) ≡ Some (saved_data saved)
saved_back saved small choices =
    rw (
      number_of-decimal 1 (omega arith),
      number_of-decimal saved.version small,
      choices_back saved.choices choices,
    ) refl

numbers : (choices : List Choice) → AreSmall choices
    → tree.ItemsHaveNumbers (items_outline (items_of (map choice_data choices)))
numbers [] h = tt
numbers (choice ∷ choices) h =
    ((tt, (IsNumber-decimal choice.instance h.0, (tt, tt))), numbers choices h.1)

shallow : (choices : List Choice) → tree.items_depth (items_outline (items_of (map choice_data choices))) ≤ 1
shallow [] = omega arith
shallow (choice ∷ choices) = omega (arith, shallow choices)

-- which JSON some tokens are, and what it stands for
whole : Option (json.Json × List Token) → Option Data
whole read = option_and_then of_json (option_and_then (λ p. json.if_last p.0 p.1) read)

data_back : (saved : Saved) → saved.version < 2 ^ 64 → AreSmall saved.choices
    → read (form_text saved) ≡ Some (saved_data saved)
unfolding whole
data_back saved small choices =
    let form = outline (saved_data saved) in
    let printed : tokens (compact_text (saved_data saved)) ≡ tree.json_tokens form =
    ap tokens (sym (print-outline (saved_data saved)))
    ∙ tokens-print (tree.json_tokens form) (ArePrintable-json_tokens form (
      IsNumber-decimal 1 (omega arith),
      (
        tt,
        (numbers saved.choices choices, (IsNumber-decimal saved.version small, tt)),
      ),
    )) in
    let deep : tree.depth form ≤ max_depth = omega (arith, shallow saved.choices) in
    ap whole (ap (json.value max_depth) (printed ∙ sym (append-nil (tree.json_tokens form)))
    ∙ value-json_tokens form max_depth [] deep)
    ∙ saved_back saved small choices

choices_found : (choices : List Choice) → choices_in (items_of (map choice_data choices)) ≡ Some choices
choices_found [] = refl
choices_found (choice ∷ choices) = ap (with_choice (Some choice)) (choices_found choices)

form_found : (saved : Saved) → saved_in (saved_data saved) ≡ Some saved
form_found saved = rw (choices_found saved.choices) refl

pub form_is_read : FormIsRead
form_is_read saved small choices = (data_back saved small choices, form_found saved)
