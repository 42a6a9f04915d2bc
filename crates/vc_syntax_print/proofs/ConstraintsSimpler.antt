-- The canonical lexemes of a constraint are the simpler ones of each text that spells it.
use Rattle.std.proofs.Common.{◌≡◌, Bool, true, false, List, [], ◌∷◌, ◌++◌, Option, refl, sym, ap, subst, append_assoc}
use Rattle.std.proofs.Common.{arith}
use Rattle.std.proofs.lemmas.Int.{ints}
use Rattle.std.specs.Prelude.{ℤ, pos}
use Rattle.std.specs.Ordering.{int_eq}
use Rattle.std.proofs.lemmas.List.{append-nil}
use Rattle.vc_syntax_tokens.specs.declared.token.Token.{Token}
use Rattle.vc_syntax_tokens.specs.declared.token.Lexeme.{Lexeme}
use Rattle.vc_syntax_tokens.specs.declared.token.Lexeme.TheVariants as lexemes
use Rattle.vc_syntax_tokens.specs.declared.token.Sign.{Sign}
use Rattle.vc_syntax_tokens.specs.declared.token.Sign.TheVariants as signs
use Rattle.vc_syntax_tokens.specs.declared.token.Reserved.{Reserved}
use Rattle.vc_syntax_tokens.specs.declared.token.Reserved.TheVariants as words
use Rattle.vc_syntax_tree.specs.declared.Operand.{Operand}
use Rattle.vc_syntax_tree.specs.declared.ObjectKind.{ObjectKind}
use Rattle.vc_syntax_tree.specs.declared.Alias.{Alias}
use Rattle.vc_syntax_tree.specs.declared.Object.{Object}
use Rattle.vc_syntax.specs.ConstraintReading.{is_class_type}
use Rattle.vc_syntax_terms.specs.TermGrammar.{IsOperand}
use Rattle.vc_syntax_terms.specs.ConditionGrammar.{IsListed, IsCondition}
use Rattle.vc_syntax.specs.StatementGrammar.{IsRestriction}
use Rattle.vc_syntax.specs.ConstraintGrammar as grammar
use Rattle.vc_syntax.specs.ConstraintGrammar.{IsClassType, IsObjectKind, IsAlias, IsWhere, IsObject, IsSection}
use Rattle.vc_syntax.specs.ConstraintGrammar.{IsObjectSection, IsConditionSection, IsRestrictionSection}
use Rattle.vc_syntax.specs.ConstraintGrammar.{IsInferenceSection, IsConstraint}
use Rattle.vc_syntax_tree.specs.Trees.{Condition, Restriction, Constraint}
use Rattle.vc_syntax_print.specs.TermLexemes.{operand_lexemes}
use Rattle.vc_syntax_print.specs.ConditionLexemes.{separated, condition_lexemes}
use Rattle.vc_syntax_print.specs.StatementLexemes.{restriction_lexemes}
use Rattle.vc_syntax_print.specs.ConstraintLexemes.{class_type, kind_lexemes, alias_lexemes, where_lexemes}
use Rattle.vc_syntax_print.specs.ConstraintLexemes.{object_lexemes, section_lexemes, condition_section}
use Rattle.vc_syntax_print.specs.ConstraintLexemes.{inference_section, constraint_lexemes}
use Rattle.vc_syntax_print.proofs.Simpler as simpler
use Rattle.vc_syntax_print.proofs.Simpler.{Alike, Simpler, Sections}
use Rattle.vc_syntax_print.proofs.Marks.{alike, before_is, operated_is, name_lexeme, variable_lexeme, text_lexeme}
use Rattle.vc_syntax_print.proofs.TermsSimpler.{operand_simpler}
use Rattle.vc_syntax_print.proofs.ConditionsSimpler.{alike_sign, condition_simpler}
use Rattle.vc_syntax_print.proofs.StatementsSimpler.{any_alike, word_no_star, restriction_simpler}
use Rattle.vc_syntax_print.proofs.ListsSimpler.{HasOne, listed_one, listed_simpler}

int_eq_true : (x y : ℤ) → int_eq x y ≡ true → x ≡ y
int_eq_true x y same = grind (arith, ints)

-- 300 is one number
class_lexeme : (l : Lexeme) → is_class_type l ≡ true → l ≡ lexemes.Number class_type
class_lexeme (lexemes.Number number) e =
    ap (λ z. lexemes.Number record { millionths = z }) (int_eq_true number.millionths (pos 300000000) e)
class_lexeme _ e = absurd (cc)

kind_simpler : (ts : List Token) (kind : ObjectKind) → IsObjectKind ts kind → Simpler false ts (kind_lexemes kind)
kind_simpler _ _ (grammar.class {t = t} {opening = opening} {number = number} {closing = closing} {u = u} {name = name}
    w o n c e) =
    before_is false t (lexemes.Reserved words.IsA) _ _ w refl refl refl
    (before_is false opening (lexemes.Sign signs.OpenParen) _ _ o refl refl refl
    (before_is false number (lexemes.Number class_type) _ _ (class_lexeme number.lexeme n) refl refl refl
    (before_is false closing (lexemes.Sign signs.CloseParen) _ _ c refl refl refl
    (simpler.token false (any_alike u name e) tt (word_no_star name.name)))))
kind_simpler _ _ (grammar.material {t = t} {a = a} {word = word} {b = b} {c = c} {number = number} {d = d} {e = e}
    {nr = nr} {equal = equal} {u = u} {f = f} {text = text} w p1 m p2 p3 n p4 p5 q r x p6) =
    before_is false t (lexemes.Reserved words.IsObject) _ _ w refl refl refl
    (before_is false a (lexemes.Sign signs.OpenParen) _ _ p1 refl refl refl
    (before_is false word (lexemes.Reserved words.Material) _ _ m refl refl refl
    (before_is false b (lexemes.Sign signs.CloseParen) _ _ p2 refl refl refl
    (before_is false c (lexemes.Sign signs.OpenParen) _ _ p3 refl refl refl
    (before_is false number (lexemes.Number class_type) _ _ (class_lexeme number.lexeme n) refl refl refl
    (before_is false d (lexemes.Sign signs.CloseParen) _ _ p4 refl refl refl
    (before_is false e (lexemes.Sign signs.OpenParen) _ _ p5 refl refl refl
    (before_is false nr (lexemes.Reserved words.Nr) _ _ q refl refl refl
    (before_is false equal (lexemes.Sign signs.Equal) _ _ r refl refl refl
    (before_is false u (lexemes.Text text.text) _ _ (text_lexeme u text x) refl refl refl
    (simpler.token false (alike f.lexeme (lexemes.Sign signs.CloseParen) p6 refl refl) tt refl)))))))))))

alias_simpler : (ts : List Token) (alias : Alias) → IsAlias ts alias → Simpler false ts (alias_lexemes alias)
alias_simpler _ _ (grammar.alias {t = t} {equal = equal} {u = u} {variable = variable} {name = name} v q e) =
    before_is false t (lexemes.Variable variable.name) _ _ (variable_lexeme t variable v) refl refl refl
    (before_is false equal (lexemes.Sign signs.Equal) _ _ q refl refl refl
    (simpler.token false (alike u.lexeme (lexemes.Name name.name) (name_lexeme u name e) refl refl) tt refl))

pub where_one : (aliases : List Alias) → HasOne aliases
    → where_lexemes aliases ≡ lexemes.Reserved words.Where ∷ separated signs.Semicolon alias_lexemes aliases
where_one [] h = absurd h
where_one (alias ∷ aliases) h = refl

-- what a WHERE follows, with it
where_simpler : (ts us : List Token) (ms : List Lexeme) (aliases : List Alias) → Simpler false ts ms
    → IsWhere us aliases → Simpler false (ts ++ us) (ms ++ where_lexemes aliases)
where_simpler ts _ ms _ x grammar.nowhere =
    subst (λ z. Simpler false z (ms ++ [])) (sym (append-nil ts))
    (subst (λ z. Simpler false ts z) (sym (append-nil ms)) x)
where_simpler ts _ ms _ x (grammar.where_ t us {aliases = aliases} w l) =
    subst (λ z. Simpler false (ts ++ t ∷ us) (ms ++ z))
    (sym (where_one aliases (listed_one signs.Semicolon IsAlias us aliases l)))
    (operated_is false false ts t us ms (lexemes.Reserved words.Where) (separated signs.Semicolon alias_lexemes aliases)
    x w refl refl
    (listed_simpler false signs.Semicolon IsAlias alias_lexemes refl refl alias_simpler us aliases l))

object_simpler : (ts : List Token) (object : Object) → IsObject ts object → Simpler false ts (object_lexemes object)
object_simpler _ _ (grammar.object t ts us {variable = variable} {kind = kind} {aliases = aliases} v k w) =
    before_is false t (lexemes.Variable variable.name) (ts ++ us) (kind_lexemes kind ++ where_lexemes aliases)
    (variable_lexeme t variable v) refl refl refl
    (where_simpler ts us (kind_lexemes kind) aliases (kind_simpler ts kind k) w)

-- a section before others
section_simpler : {A : Type 0} (ends : Bool) (IsA : List Token → A → Type 0) (lexemes_of : A → List Lexeme)
    → ((ts : List Token) (x : A) → IsA ts x → Simpler ends ts (lexemes_of x))
    → (t : Token) (word : Reserved) → Alike t.lexeme (lexemes.Reserved word) → (ts : List Token) (x : A)
    → IsSection IsA ts x
    → (us : List Token) (ns : List Lexeme) → Sections us ns
    → Sections ((t ∷ ts) ++ us) (section_lexemes word (lexemes_of x) ++ ns)
section_simpler ends IsA lexemes_of each t word a _ _ (grammar.section colon ts period x c i p) us ns rest =
    subst (λ z. Sections (t ∷ colon ∷ z) (section_lexemes word (lexemes_of x) ++ ns))
    (sym (append_assoc ts (period ∷ []) us))
    (subst (λ z. Sections (t ∷ colon ∷ (ts ++ period ∷ us)) (lexemes.Reserved word ∷ lexemes.Sign signs.Colon ∷ z))
    (sym (append_assoc (lexemes_of x) (lexemes.Sign signs.Period ∷ []) ns))
    (simpler.section t colon ts period us word (lexemes_of x) ns a c (each ts x i) p rest))

objects_simpler : (ts : List Token) (objects : List Object) → IsObjectSection ts objects
    → (us : List Token) (ns : List Lexeme) → Sections us ns
    → Sections (ts ++ us) (section_lexemes words.Objects (separated signs.Comma object_lexemes objects) ++ ns)
objects_simpler _ _ (grammar.objects t ts {objects = objects} w x) us ns rest =
    section_simpler false (IsListed signs.Comma IsObject) (separated signs.Comma object_lexemes)
    (listed_simpler false signs.Comma IsObject object_lexemes refl refl object_simpler)
    t words.Objects (alike t.lexeme (lexemes.Reserved words.Objects) w refl refl) ts objects x us ns rest

condition_section_simpler : (ts : List Token) (condition : Option Condition) → IsConditionSection ts condition
    → (us : List Token) (ns : List Lexeme) → Sections us ns
    → Sections (ts ++ us) (condition_section condition ++ ns)
condition_section_simpler _ _ grammar.always us ns rest = rest
condition_section_simpler _ _ (grammar.when t ts {condition = condition} w x) us ns rest =
    section_simpler true IsCondition condition_lexemes condition_simpler
    t words.Condition (alike t.lexeme (lexemes.Reserved words.Condition) w refl refl) ts condition x us ns rest

-- RESTRICTIONS in the place of RESTRICTION
restrictions_alike : (l : Lexeme) → l ≡ lexemes.Reserved words.Restriction
    → Alike l (lexemes.Reserved words.Restrictions)
restrictions_alike l e =
    subst (λ z. Alike z (lexemes.Reserved words.Restrictions)) (sym e)
    (alike_sign (lexemes.Reserved words.Restriction) (lexemes.Reserved words.Restrictions) refl refl refl refl refl refl
    refl)

restrictions_simpler : (ts : List Token) (restrictions : List Restriction) → IsRestrictionSection ts restrictions
    → (us : List Token) (ns : List Lexeme) → Sections us ns
    → Sections (ts ++ us)
    (section_lexemes words.Restrictions (separated signs.Comma restriction_lexemes restrictions) ++ ns)
restrictions_simpler _ _ (grammar.restriction t ts {restrictions = restrictions} w x) us ns rest =
    section_simpler true (IsListed signs.Comma IsRestriction) (separated signs.Comma restriction_lexemes)
    (listed_simpler true signs.Comma IsRestriction restriction_lexemes refl refl restriction_simpler)
    t words.Restrictions (restrictions_alike t.lexeme w) ts restrictions x us ns rest
restrictions_simpler _ _ (grammar.restrictions t ts {restrictions = restrictions} w x) us ns rest =
    section_simpler true (IsListed signs.Comma IsRestriction) (separated signs.Comma restriction_lexemes)
    (listed_simpler true signs.Comma IsRestriction restriction_lexemes refl refl restriction_simpler)
    t words.Restrictions (alike t.lexeme (lexemes.Reserved words.Restrictions) w refl refl) ts restrictions x us ns rest

pub inference_one : (operands : List Operand) → HasOne operands
    → inference_section operands ≡ section_lexemes words.Inferences (separated signs.Comma operand_lexemes operands)
inference_one [] h = absurd h
inference_one (operand ∷ operands) h = refl

section_one : {A : Type 0} (separator : Sign) (IsA : List Token → A → Type 0) (ts : List Token) (xs : List A)
    → IsSection (IsListed separator IsA) ts xs → HasOne xs
section_one separator IsA _ _ (grammar.section colon ts period xs c l p) = listed_one separator IsA ts xs l

inferences_simpler : (ts : List Token) (operands : List Operand) → IsInferenceSection ts operands
    → Sections ts (inference_section operands)
inferences_simpler _ _ grammar.nothing = simpler.none
inferences_simpler _ _ (grammar.inferences t ts {operands = operands} w x) =
    subst (λ z. Sections (t ∷ ts) z) (sym (inference_one operands (section_one signs.Comma IsOperand ts operands x)))
    (subst (λ z. Sections (t ∷ ts) z)
    (append-nil (section_lexemes words.Inferences (separated signs.Comma operand_lexemes operands)))
    (subst (λ z. Sections z (section_lexemes words.Inferences (separated signs.Comma operand_lexemes operands) ++ []))
    (append-nil (t ∷ ts))
    (section_simpler true (IsListed signs.Comma IsOperand) (separated signs.Comma operand_lexemes)
    (listed_simpler true signs.Comma IsOperand operand_lexemes refl refl operand_simpler)
    t words.Inferences (alike t.lexeme (lexemes.Reserved words.Inferences) w refl refl) ts operands x [] []
    simpler.none)))

pub constraint_simpler : (ts : List Token) (constraint : Constraint) → IsConstraint ts constraint
    → Sections ts (constraint_lexemes constraint)
constraint_simpler _ _
    (grammar.constraint ts us vs ws {objects = objects} {condition = condition} {restrictions = restrictions}
    {inferences = inferences} o c r i) =
    objects_simpler ts objects o (us ++ (vs ++ ws)) _
    (condition_section_simpler us condition c (vs ++ ws) _
    (restrictions_simpler vs restrictions r ws _
    (inferences_simpler ws inferences i)))
