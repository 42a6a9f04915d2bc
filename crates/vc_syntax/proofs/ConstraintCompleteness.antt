-- What the grammar of constraints says, is read.
use Rattle.std.proofs.Common.{◌≡◌, ℕ, ◌≤◌, List, [], ◌∷◌, ◌++◌, length, cond, Option, Some, None, ap, ◌∙◌, append_assoc}
use Rattle.std.proofs.Common.{length-append, arith}
use Rattle.vc_syntax_tokens.specs.declared.token.Token.{Token}
use Rattle.vc_syntax_tokens.specs.declared.token.Sign.TheVariants as signs
use Rattle.vc_syntax_tokens.specs.declared.token.Reserved.TheVariants as words
use Rattle.vc_syntax_tree.specs.declared.TextLeaf.{TextLeaf}
use Rattle.vc_syntax_tree.specs.declared.Operand.{Operand}
use Rattle.vc_syntax_tree.specs.declared.ObjectKind.{ObjectKind}
use Rattle.vc_syntax_tree.specs.declared.ObjectKind.TheVariants as kinds
use Rattle.vc_syntax_tree.specs.declared.Alias.{Alias}
use Rattle.vc_syntax_tree.specs.declared.Object.{Object}
use Rattle.vc_syntax_terms.specs.Leaves.{is_sign, is_word, after_sign, after_word, named, any_named}
use Rattle.vc_syntax_terms.specs.Reading.{Reader, then, either, or_else, made, leaving, leaving_as, closed, listed}
use Rattle.vc_syntax_terms.specs.TermReading.{product_operator_in, sum_operator_in, operand}
use Rattle.vc_syntax_terms.specs.ConditionReading.{text_ahead, condition}
use Rattle.vc_syntax.specs.StatementReading.{restriction}
use Rattle.vc_syntax.specs.ConstraintReading.{after_class_type, class_type, material_word, class_kind, material_number}
use Rattle.vc_syntax.specs.ConstraintReading.{material_kind, object_kind, with_alias, with_object, alias, aliases}
use Rattle.vc_syntax.specs.ConstraintReading.{object, section, object_section, condition_section, restriction_section}
use Rattle.vc_syntax.specs.ConstraintReading.{inference_section, with_constraint, constraint}
use Rattle.vc_syntax_tree.specs.Trees.{Condition, Restriction, Constraint}
use Rattle.vc_syntax_terms.specs.TermGrammar.{IsSign, IsWord, IsText, IsOperand}
use Rattle.vc_syntax_terms.specs.ConditionGrammar.{IsListed}
use Rattle.vc_syntax.specs.StatementGrammar.{IsRestriction}
use Rattle.vc_syntax.specs.ConstraintGrammar as grammar
use Rattle.vc_syntax.specs.ConstraintGrammar.{IsClassType, IsObjectKind, IsAlias, IsWhere, IsObject, IsSection}
use Rattle.vc_syntax.specs.ConstraintGrammar.{IsObjectSection, IsConditionSection, IsRestrictionSection}
use Rattle.vc_syntax.specs.ConstraintGrammar.{IsInferenceSection, IsConstraint}
use Rattle.vc_syntax_terms.proofs.TokenLaws.{after_sign_again, after_word_again, named_again, any_named_again}
use Rattle.vc_syntax_terms.proofs.Lists.{reads_whole_list}
use Rattle.vc_syntax_terms.proofs.TermCompleteness.{EndsName, closed_again, reads_operand}
use Rattle.vc_syntax_terms.proofs.ConditionCompleteness.{text_ahead_again, variable_ahead_again}
use Rattle.vc_syntax.proofs.StatementSoundness.{restriction_shortens}
use Rattle.vc_syntax.proofs.StatementCompleteness.{EndsStatement, comma_ends, reads_whole_condition, reads_restriction}
use Rattle.vc_syntax.proofs.ConstraintSoundness.{alias_shortens, object_shortens, operand_shortens}

class_type_again : (a b c : Token) (rest : List Token) → IsSign signs.OpenParen a → IsClassType b
    → IsSign signs.CloseParen c → class_type (a ∷ b ∷ c ∷ rest) ≡ Some rest
class_type_again a b c rest p q r =
    ap (λ o. then o (λ first. then (after_class_type first) (after_sign signs.CloseParen)))
    (after_sign_again signs.OpenParen a (b ∷ c ∷ rest) p)
    ∙ ap (λ x. then (cond x (Some (c ∷ rest)) None) (after_sign signs.CloseParen)) q
    ∙ after_sign_again signs.CloseParen c rest r

material_word_again : (a b c : Token) (rest : List Token) → IsSign signs.OpenParen a → IsWord words.Material b
    → IsSign signs.CloseParen c
    → material_word (a ∷ b ∷ c ∷ rest) ≡ Some rest
material_word_again a b c rest p q r =
    ap (λ o. then o (λ first. then (after_word words.Material first) (after_sign signs.CloseParen)))
    (after_sign_again signs.OpenParen a (b ∷ c ∷ rest) p)
    ∙ ap (λ o. then o (after_sign signs.CloseParen)) (after_word_again words.Material b (c ∷ rest) q)
    ∙ after_sign_again signs.CloseParen c rest r

material_number_again : (a b c d e : Token) (text : TextLeaf) (rest : List Token) → IsSign signs.OpenParen a
    → IsWord words.Nr b → IsSign signs.Equal c → IsText d text
    → IsSign signs.CloseParen e → material_number (a ∷ b ∷ c ∷ d ∷ e ∷ rest) ≡ Some (kinds.Material text, rest)
material_number_again a b c d e text rest p q r s z =
    ap (λ o. then o (λ first.
    then (after_word words.Nr first)
    (λ second. then (after_sign signs.Equal second) (λ x. made kinds.Material (closed (text_ahead x))))))
    (after_sign_again signs.OpenParen a (b ∷ c ∷ d ∷ e ∷ rest) p)
    ∙ ap (λ o. then o (λ second.
    then (after_sign signs.Equal second) (λ x. made kinds.Material (closed (text_ahead x)))))
    (after_word_again words.Nr b (c ∷ d ∷ e ∷ rest) q)
    ∙ ap (λ o. then o (λ x. made kinds.Material (closed (text_ahead x))))
    (after_sign_again signs.Equal c (d ∷ e ∷ rest) r)
    ∙ ap (λ o. made kinds.Material (closed o)) (text_ahead_again d (e ∷ rest) text s)
    ∙ ap (λ o. made kinds.Material o) (closed_again text e rest z)

object_kind_again : (ts : List Token) (x : ObjectKind) → IsObjectKind ts x → (rest : List Token)
    → object_kind (ts ++ rest) ≡ Some (x, rest)
object_kind_again _ _ (grammar.class {t = t} {opening = a} {number = b} {closing = c} {u = u} {name = name} w p q r n)
    rest =
    ap (λ o. either o (then (after_word words.IsObject (t ∷ a ∷ b ∷ c ∷ u ∷ rest)) material_kind) class_kind)
    (after_word_again words.IsA t (a ∷ b ∷ c ∷ u ∷ rest) w)
    ∙ ap (λ o. then o (λ x. made kinds.Class (any_named x))) (class_type_again a b c (u ∷ rest) p q r)
    ∙ ap (λ o. made kinds.Class o) (any_named_again u rest name n)
object_kind_again _ _
    (grammar.material {t = t} {a = a} {word = word} {b = b} {c = c} {number = number} {d = d} {e = e} {nr = nr}
    {equal = equal} {u = u} {f = f} {text = text} w p1 p2 p3 p4 p5 p6 p7 p8 p9 p10 p11) rest =
    let last : List Token = e ∷ nr ∷ equal ∷ u ∷ f ∷ rest in
    let middle : List Token = c ∷ number ∷ d ∷ last in
    let all : List Token = a ∷ word ∷ b ∷ middle in
    ap (λ l. either (cond (is_word words.IsA l) (Some all) None)
    (then (after_word words.IsObject (t ∷ all)) material_kind) class_kind) w
    ∙ ap (λ o. then o material_kind) (after_word_again words.IsObject t all w)
    ∙ ap (λ o. then o (λ x. then (class_type x) material_number)) (material_word_again a word b middle p1 p2 p3)
    ∙ ap (λ o. then o material_number) (class_type_again c number d last p4 p5 p6)
    ∙ material_number_again e nr equal u f text rest p7 p8 p9 p10 p11

abbrev Anything : List Token → Type 0
Anything rest = Unit {0}

alias_again : (ts : List Token) (x : Alias) → IsAlias ts x → (rest : List Token) → alias (ts ++ rest) ≡ Some (x, rest)
alias_again _ _ (grammar.alias {t = t} {equal = equal} {u = u} {variable = variable} {name = name} v q n) rest =
    ap (λ o. then o (λ x. then (after_sign signs.Equal x.1) (λ r. made (with_alias x.0) (named r))))
    (variable_ahead_again t (equal ∷ u ∷ rest) variable v)
    ∙ ap (λ o. then o (λ r. made (with_alias variable) (named r))) (after_sign_again signs.Equal equal (u ∷ rest) q)
    ∙ ap (λ o. made (with_alias variable) o) (named_again u rest name n)

-- no WHERE follows, and no semicolon
abbrev EndsObject : List Token → Type 0
EndsObject rest = (after_word words.Where rest ≡ None) × (after_sign signs.Semicolon rest ≡ None)

aliases_again : (ts : List Token) (xs : List Alias) → IsWhere ts xs → (rest : List Token) → EndsObject rest
    → aliases (ts ++ rest) ≡ Some (xs, rest)
aliases_again _ _ grammar.nowhere rest ends = ap (λ o. either o (Some ([], rest)) (listed signs.Semicolon alias)) ends.0
aliases_again _ _ (grammar.where_ t ts {aliases = xs} w d) rest ends =
    ap (λ o. either o (Some ([], t ∷ (ts ++ rest))) (listed signs.Semicolon alias))
    (after_word_again words.Where t (ts ++ rest) w)
    ∙ reads_whole_list signs.Semicolon alias IsAlias alias_shortens (length ts) Anything (λ u r e. tt)
    (λ us x e k r ends'. alias_again us x e r) ts xs d (omega arith) rest tt ends.1

object_again : (ts : List Token) (x : Object) → IsObject ts x → (rest : List Token) → EndsObject rest
    → object (ts ++ rest) ≡ Some (x, rest)
object_again _ _ (grammar.object t ts us {variable = variable} {kind = kind} {aliases = xs} v d e) rest ends =
    ap (λ y. object (t ∷ y)) (append_assoc ts us rest)
    ∙ ap (λ o. then o (λ x. then (object_kind x.1) (λ k. made (with_object x.0 k.0) (aliases k.1))))
    (variable_ahead_again t (ts ++ (us ++ rest)) variable v)
    ∙ ap (λ o. then o (λ k. made (with_object variable k.0) (aliases k.1))) (object_kind_again ts kind d (us ++ rest))
    ∙ ap (λ o. made (with_object variable kind) o) (aliases_again us xs e rest ends)

section_again : {A : Type 0} (read : Reader A) (colon : Token) (ts : List Token) (period : Token) (x : A)
    (rest : List Token) → IsSign signs.Colon colon → IsSign signs.Period period
    → read (ts ++ period ∷ rest) ≡ Some (x, period ∷ rest)
    → section read (colon ∷ ((ts ++ period ∷ []) ++ rest)) ≡ Some (x, rest)
section_again read colon ts period x rest p q e =
    ap (λ o. then o (λ r. then (read r) (λ found. leaving_as found.0 (after_sign signs.Period found.1))))
    (after_sign_again signs.Colon colon ((ts ++ period ∷ []) ++ rest) p)
    ∙ ap (λ y. then (read y) (λ found. leaving_as found.0 (after_sign signs.Period found.1)))
    (append_assoc ts (period ∷ []) rest)
    ∙ ap (λ o. then o (λ found. leaving_as found.0 (after_sign signs.Period found.1))) e
    ∙ ap (λ o. leaving_as x o) (after_sign_again signs.Period period rest q)

pub period_ends : (t : Token) (rest : List Token) → IsSign signs.Period t → EndsStatement (t ∷ rest)
period_ends t rest e = (
  (
    (
      ap (λ l. cond (is_sign signs.Dot l) (Some rest) None) e,
      ap (λ l. leaving rest (product_operator_in l)) e,
      ap
          (λ l. leaving rest (sum_operator_in l)) e,
    ),
    ap (λ l. cond (is_word words.And l) (Some rest) None) e,
    ap (λ l. cond (is_word words.Or l) (Some rest) None) e,
  ),
  ap (λ l. cond (is_word words.If l) (Some rest) None) e,
)

pub period_ends_list : (t : Token) (rest : List Token) → IsSign signs.Period t
    → after_sign signs.Comma (t ∷ rest) ≡ None
period_ends_list t rest e = ap (λ l. cond (is_sign signs.Comma l) (Some rest) None) e

object_section_again : (ts : List Token) (xs : List Object) → IsObjectSection ts xs → (rest : List Token)
    → object_section (ts ++ rest) ≡ Some (xs, rest)
object_section_again _ _ (grammar.objects t _ w (grammar.section colon us period x p d q)) rest =
    ap (λ o. then o (section (listed signs.Comma object)))
    (after_word_again words.Objects t (colon ∷ ((us ++ period ∷ []) ++ rest)) w)
    ∙ section_again (listed signs.Comma object) colon us period x rest p q
    (reads_whole_list signs.Comma object IsObject object_shortens (length us) EndsObject
    (λ u r e. (
      ap (λ l. cond (is_word words.Where l) (Some r) None) e,
      ap
          (λ l. cond (is_sign signs.Semicolon l) (Some r) None) e,
    ))
    (λ vs y e k r ends. object_again vs y e r ends) us x d (omega arith) (period ∷ rest) (
      ap (λ l. cond (is_word words.Where l) (Some rest) None) q,
      ap
          (λ l. cond (is_sign signs.Semicolon l) (Some rest) None) q,
    ) (period_ends_list period rest q))

condition_section_again : (ts : List Token) (x : Option Condition) → IsConditionSection ts x → (n : ℕ) → length ts ≤ n
    → (rest : List Token) → after_word words.Condition rest ≡ None
    → condition_section n (ts ++ rest) ≡ Some (x, rest)
condition_section_again _ _ grammar.always n h rest ends =
    ap (λ o. either o (Some (None, rest)) (λ r. made Some (section (condition n) r))) ends
condition_section_again _ _ (grammar.when t _ w (grammar.section colon us period x p d q)) n h rest ends =
    let all : List Token = colon ∷ ((us ++ period ∷ []) ++ rest) in
    ap (λ o. either o (Some (None, t ∷ all)) (λ r. made Some (section (condition n) r)))
    (after_word_again words.Condition t all w)
    ∙ ap (λ o. made Some o) (section_again (condition n) colon us period x rest p q
    (reads_whole_condition us x d n (omega (arith, length-append us (period ∷ []))) (period ∷ rest)
    ((period_ends period rest q).0)))

restrictions_again : (colon : Token) (us : List Token) (period : Token) (xs : List Restriction) (n : ℕ)
    (rest : List Token) → IsSign signs.Colon colon → IsSign signs.Period period
    → IsListed signs.Comma IsRestriction us xs → length us ≤ n
    → section (listed signs.Comma (restriction n)) (colon ∷ ((us ++ period ∷ []) ++ rest)) ≡ Some (xs, rest)
restrictions_again colon us period xs n rest p q d h =
    section_again (listed signs.Comma (restriction n)) colon us period xs rest p q
    (reads_whole_list signs.Comma (restriction n) IsRestriction (restriction_shortens n) n EndsStatement comma_ends
    (λ vs y e k r ends. reads_restriction vs y e n k r ends) us xs d h (period ∷ rest) (period_ends period rest q)
    (period_ends_list period rest q))

restriction_section_again : (ts : List Token) (xs : List Restriction) → IsRestrictionSection ts xs → (n : ℕ)
    → length ts ≤ n → (rest : List Token)
    → restriction_section n (ts ++ rest) ≡ Some (xs, rest)
restriction_section_again _ _ (grammar.restriction t _ w (grammar.section colon us period x p d q)) n h rest =
    let all : List Token = colon ∷ ((us ++ period ∷ []) ++ rest) in
    ap (λ o. then (or_else o (after_word words.Restrictions (t ∷ all))) (section (listed signs.Comma (restriction n))))
    (after_word_again words.Restriction t all w)
    ∙ restrictions_again colon us period x n rest p q d (omega (arith, length-append us (period ∷ [])))
restriction_section_again _ _ (grammar.restrictions t _ w (grammar.section colon us period x p d q)) n h rest =
    let all : List Token = colon ∷ ((us ++ period ∷ []) ++ rest) in
    ap (λ l. then (or_else (cond (is_word words.Restriction l) (Some all) None)
    (after_word words.Restrictions (t ∷ all))) (section (listed signs.Comma (restriction n)))) w
    ∙ ap (λ o. then o (section (listed signs.Comma (restriction n)))) (after_word_again words.Restrictions t all w)
    ∙ restrictions_again colon us period x n rest p q d (omega (arith, length-append us (period ∷ [])))

restriction_section_ends : (ts : List Token) (xs : List Restriction) → IsRestrictionSection ts xs → (rest : List Token)
    → after_word words.Condition (ts ++ rest) ≡ None
restriction_section_ends _ _ (grammar.restriction t ts w d) rest =
    ap (λ l. cond (is_word words.Condition l) (Some (ts ++ rest)) None) w
restriction_section_ends _ _ (grammar.restrictions t ts w d) rest =
    ap (λ l. cond (is_word words.Condition l) (Some (ts ++ rest)) None) w

inference_section_again : (ts : List Token) (xs : List Operand) → IsInferenceSection ts xs → (rest : List Token)
    → after_word words.Inferences rest ≡ None
    → inference_section (ts ++ rest) ≡ Some (xs, rest)
inference_section_again _ _ grammar.nothing rest ends =
    ap (λ o. either o (Some ([], rest)) (section (listed signs.Comma operand))) ends
inference_section_again _ _ (grammar.inferences t _ w (grammar.section colon us period x p d q)) rest ends =
    let all : List Token = colon ∷ ((us ++ period ∷ []) ++ rest) in
    ap (λ o. either o (Some ([], t ∷ all)) (section (listed signs.Comma operand)))
    (after_word_again words.Inferences t all w)
    ∙ section_again (listed signs.Comma operand) colon us period x rest p q
    (reads_whole_list signs.Comma operand IsOperand operand_shortens (length us) EndsName
    (λ u r e. (comma_ends u r e).0.0.0)
    (λ vs y e k r ends'. reads_operand vs y e r ends') us x d (omega arith) (period ∷ rest)
    ((period_ends period rest q).0.0.0) (period_ends_list period rest q))

pub reads_constraint : (ts : List Token) (x : Constraint) → IsConstraint ts x → (n : ℕ) → length ts ≤ n
    → (rest : List Token) → after_word words.Inferences rest ≡ None
    → constraint n (ts ++ rest) ≡ Some (x, rest)
reads_constraint _ _
    (grammar.constraint ts us vs ws {objects = a} {condition = b} {restrictions = c} {inferences = d} p q r s) n h rest
    ends =
    ap (λ y. constraint n y)
    (append_assoc ts (us ++ (vs ++ ws)) rest
    ∙ ap (λ y. ts ++ y) (append_assoc us (vs ++ ws) rest ∙ ap (λ y. us ++ y) (append_assoc vs ws rest)))
    ∙ ap (λ o. then o (λ objects.
    then (condition_section n objects.1) (λ condition. then (restriction_section n condition.1) (λ restrictions.
    made (with_constraint objects.0 condition.0 restrictions.0) (inference_section restrictions.1)))))
    (object_section_again ts a p (us ++ (vs ++ (ws ++ rest))))
    ∙ ap (λ o. then o (λ condition. then (restriction_section n condition.1) (λ restrictions.
    made (with_constraint a condition.0 restrictions.0) (inference_section restrictions.1))))
    (condition_section_again us b q n (omega (arith, length-append ts (us ++ (vs ++ ws)), length-append us (vs ++ ws)))
    (vs ++ (ws ++ rest)) (restriction_section_ends vs c r (ws ++ rest)))
    ∙ ap (λ o. then o (λ restrictions. made (with_constraint a b restrictions.0) (inference_section restrictions.1)))
    (restriction_section_again vs c r n
    (omega (arith, length-append ts (us ++ (vs ++ ws)), length-append us (vs ++ ws), length-append vs ws)) (ws ++ rest))
    ∙ ap (λ o. made (with_constraint a b c) o) (inference_section_again ws d s rest ends)
