-- The text of the form is UTF-8, where its words are.
use Rattle.std.proofs.Common.{ℕ, List, [], ◌∷◌, ◌++◌, Bool, true, false, map, refl, subst, append_assoc, IsUtf8}
use Rattle.std.specs.Prelude.{codes}
use Rattle.std.specs.Fmt.{decimal}
use Rattle.std.proofs.lemmas.Str.{IsUtf8-append}
use Rattle.json.specs.Print.{quoted}
use Rattle.json.proofs.Printed.Utf8.{IsUtf8-key, IsUtf8-quoted}
use Rattle.serde_json.specs.Data.{Data, Members, array, member, no_members, number, string, unsigned}
use Rattle.serde_json.specs.View.{items_of}
use Rattle.serde_json.specs.Written.{comma_if, compact_text, items_text, members_text}
use Rattle.vc_store_forms.specs.Forms.{Choice, choice_data}
use Rattle.vc_store_forms.specs.Laws.{AreUtf8, FormIsUtf8}
use Rattle.vc_store_forms.proofs.AsciiLaws.{decimal_plain, plain_utf8}

plain : (n : ℕ) → IsUtf8 (decimal n)
plain n = plain_utf8 (decimal n) (decimal_plain n)

comma : (later : Bool) → IsUtf8 (comma_if later)
comma true = plain_utf8 (44 ∷ []) refl
comma false = plain_utf8 [] refl

-- a member, before others
member_utf8 : (later : Bool) (key : List ℕ) (value : Data) (more : Members) → IsUtf8 key → IsUtf8 (compact_text value)
    → IsUtf8 (members_text true more) → IsUtf8 (members_text later (member key value more))
member_utf8 later key value more is_key is_value are_more =
    let rest = compact_text value ++ members_text true more in
    IsUtf8-append (comma_if later) (quoted key ++ 58 ∷ rest) (comma later)
    (subst IsUtf8 (append_assoc (quoted key) (58 ∷ []) rest)
    (IsUtf8-append (quoted key ++ 58 ∷ []) rest (IsUtf8-key key is_key)
    (IsUtf8-append (compact_text value) (members_text true more) is_value are_more)))

closed : IsUtf8 (125 ∷ [])
closed = plain_utf8 (125 ∷ []) refl

opened : (rest : List ℕ) (byte : ℕ) → IsUtf8 (byte ∷ []) → IsUtf8 rest → IsUtf8 (byte ∷ rest)
opened rest byte first h = IsUtf8-append (byte ∷ []) rest first h

choice_utf8 : (choice : Choice) → IsUtf8 choice.characteristic → IsUtf8 choice.value
    → IsUtf8 (compact_text (choice_data choice))
choice_utf8 choice characteristic value =
    let third = member (codes "value") (string choice.value) no_members in
    let second = member (codes "instance") (number (unsigned choice.instance)) third in
    let first = member (codes "characteristic") (string choice.characteristic) second in
    opened (members_text false first) 123 (plain_utf8 (123 ∷ []) refl)
    (member_utf8 false (codes "characteristic") (string choice.characteristic) second
    (plain_utf8 (codes "characteristic") refl) (IsUtf8-quoted choice.characteristic characteristic)
    (member_utf8 true (codes "instance") (number (unsigned choice.instance)) third (plain_utf8 (codes "instance") refl)
    (plain choice.instance)
    (member_utf8 true (codes "value") (string choice.value) no_members (plain_utf8 (codes "value") refl)
    (IsUtf8-quoted choice.value value) closed)))

choices_utf8 : (later : Bool) (choices : List Choice) → AreUtf8 choices
    → IsUtf8 (items_text later (items_of (map choice_data choices)))
choices_utf8 later [] h = plain_utf8 (93 ∷ []) refl
choices_utf8 later (choice ∷ choices) h =
    let text = compact_text (choice_data choice) in
    let more = items_text true (items_of (map choice_data choices)) in
    IsUtf8-append (comma_if later) (text ++ more) (comma later)
    (IsUtf8-append text more (choice_utf8 choice h.0.0 h.0.1) (choices_utf8 true choices h.1))

pub form_is_utf8 : FormIsUtf8
form_is_utf8 saved model choices =
    let values = items_of (map choice_data saved.choices) in
    let fourth = member (codes "version") (number (unsigned saved.version)) no_members in
    let third = member (codes "values") (array values) fourth in
    let second = member (codes "model") (string saved.model) third in
    let first = member (codes "form") (number (unsigned 1)) second in
    opened (members_text false first) 123 (plain_utf8 (123 ∷ []) refl)
    (member_utf8 false (codes "form") (number (unsigned 1)) second (plain_utf8 (codes "form") refl) (plain 1)
    (member_utf8 true (codes "model") (string saved.model) third (plain_utf8 (codes "model") refl)
    (IsUtf8-quoted saved.model model)
    (member_utf8 true (codes "values") (array values) fourth (plain_utf8 (codes "values") refl)
    (opened (items_text false values) 91 (plain_utf8 (91 ∷ []) refl) (choices_utf8 false saved.choices choices))
    (member_utf8 true (codes "version") (number (unsigned saved.version)) no_members (plain_utf8 (codes "version") refl)
    (plain saved.version) closed))))
