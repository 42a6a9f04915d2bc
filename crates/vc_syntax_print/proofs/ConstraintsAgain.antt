-- The canonical lexemes of a constraint that some text spells, spell it again.
use Rattle.std.proofs.Common.{◌≡◌, List, [], ◌∷◌, ◌++◌, map, Option, Some, None, refl, ap, ◌∙◌}
use Rattle.std.specs.Prelude.{option_map}
use Rattle.vc_syntax_tokens.specs.declared.token.Token.{Token}
use Rattle.vc_syntax_tokens.specs.declared.token.Lexeme.{Lexeme}
use Rattle.vc_syntax_tokens.specs.declared.token.Lexeme.TheVariants as lexemes
use Rattle.vc_syntax_tokens.specs.declared.token.Sign.TheVariants as signs
use Rattle.vc_syntax_tokens.specs.declared.token.Reserved.TheVariants as words
use Rattle.vc_syntax_tokens.specs.Lexemes.{lexeme_of_word}
use Rattle.vc_syntax_tree.specs.declared.Operand.{Operand}
use Rattle.vc_syntax_tree.specs.declared.ObjectKind.{ObjectKind}
use Rattle.vc_syntax_tree.specs.declared.ObjectKind.TheVariants as kinds
use Rattle.vc_syntax_tree.specs.declared.Alias.{Alias}
use Rattle.vc_syntax_tree.specs.declared.Object.{Object}
use Rattle.vc_syntax.specs.ConstraintReading.{is_class_type, with_alias, with_object, with_constraint}
use Rattle.vc_syntax_terms.specs.TermGrammar.{IsOperand}
use Rattle.vc_syntax_terms.specs.ConditionGrammar.{IsListed, IsCondition}
use Rattle.vc_syntax.specs.StatementGrammar.{IsRestriction}
use Rattle.vc_syntax.specs.ConstraintGrammar as grammar
use Rattle.vc_syntax.specs.ConstraintGrammar.{IsObjectKind, IsAlias, IsWhere, IsObject, IsSection, IsObjectSection}
use Rattle.vc_syntax.specs.ConstraintGrammar.{IsConditionSection, IsRestrictionSection, IsInferenceSection}
use Rattle.vc_syntax.specs.ConstraintGrammar.{IsConstraint}
use Rattle.vc_syntax_tree.specs.Trees.{Condition, Restriction, Constraint}
use Rattle.vc_syntax_print.specs.TermLexemes.{operand_lexemes}
use Rattle.vc_syntax_print.specs.ConditionLexemes.{separated, condition_lexemes}
use Rattle.vc_syntax_print.specs.StatementLexemes.{restriction_lexemes}
use Rattle.vc_syntax_print.specs.ConstraintLexemes.{class_type, kind_lexemes, alias_lexemes, where_lexemes}
use Rattle.vc_syntax_print.specs.ConstraintLexemes.{object_lexemes, section_lexemes, condition_section}
use Rattle.vc_syntax_print.specs.ConstraintLexemes.{inference_section, constraint_lexemes}
use Rattle.vc_syntax_print.specs.Places.{bare_name, bare_operand, bare_condition, bare_restriction, bare_kind}
use Rattle.vc_syntax_print.specs.Places.{bare_alias, bare_object, bare_constraint}
use Rattle.vc_syntax_print.proofs.Spelt.{Spelt, Again, front, nothing, single, split, ended, name_at, text_at}
use Rattle.vc_syntax_print.proofs.Spelt.{name_again, variable_again, text_again, listed_again}
use Rattle.vc_syntax_print.proofs.TermsAgain.{operand_again}
use Rattle.vc_syntax_print.proofs.ConditionsAgain.{condition_again}
use Rattle.vc_syntax_print.proofs.StatementsAgain.{any_name_again, restriction_again}
use Rattle.vc_syntax_print.proofs.ListsSimpler.{listed_one}
use Rattle.vc_syntax_print.proofs.ConstraintsSimpler.{where_one, inference_one}

kind_again : (kind : ObjectKind) → Again IsObjectKind bare_kind (kind_lexemes kind) kind
kind_again (kinds.Class name) ts e =
    front (λ z. Spelt IsObjectKind bare_kind z (kinds.Class name)) (lexemes.Reserved words.IsA) _ ts e (λ t ts1 w e1.
    front (λ z. Spelt IsObjectKind bare_kind (t ∷ z) (kinds.Class name)) (lexemes.Sign signs.OpenParen) _ ts1 e1
    (λ opening ts2 o e2.
    front (λ z. Spelt IsObjectKind bare_kind (t ∷ opening ∷ z) (kinds.Class name)) (lexemes.Number class_type) _ ts2 e2
    (λ number ts3 n e3.
    front (λ z. Spelt IsObjectKind bare_kind (t ∷ opening ∷ number ∷ z) (kinds.Class name))
    (lexemes.Sign signs.CloseParen) _ ts3 e3 (λ closing ts4 c e4.
    single (λ z. Spelt IsObjectKind bare_kind (t ∷ opening ∷ number ∷ closing ∷ z) (kinds.Class name))
    (lexeme_of_word name.name) ts4 e4 (λ u p.
    record {
      tree = kinds.Class (name_at u name);
      spelled =
          grammar.class w o (ap is_class_type n) c (any_name_again u name p);
      same = refl;
    })))))
kind_again (kinds.Material text) ts e0 =
    front (λ z. Spelt IsObjectKind bare_kind z (kinds.Material text)) (lexemes.Reserved words.IsObject) _ ts e0
    (λ t ts1 p0 e1.
    front (λ z. Spelt IsObjectKind bare_kind (t ∷ z) (kinds.Material text)) (lexemes.Sign signs.OpenParen) _ ts1 e1
    (λ a ts2 p1 e2.
    front (λ z. Spelt IsObjectKind bare_kind (t ∷ a ∷ z) (kinds.Material text)) (lexemes.Reserved words.Material) _ ts2
    e2 (λ word ts3 p2 e3.
    front (λ z. Spelt IsObjectKind bare_kind (t ∷ a ∷ word ∷ z) (kinds.Material text)) (lexemes.Sign signs.CloseParen) _
    ts3 e3 (λ b ts4 p3 e4.
    front (λ z. Spelt IsObjectKind bare_kind (t ∷ a ∷ word ∷ b ∷ z) (kinds.Material text))
    (lexemes.Sign signs.OpenParen) _ ts4 e4 (λ c ts5 p4 e5.
    front (λ z. Spelt IsObjectKind bare_kind (t ∷ a ∷ word ∷ b ∷ c ∷ z) (kinds.Material text))
    (lexemes.Number class_type) _ ts5 e5 (λ number ts6 p5 e6.
    front (λ z. Spelt IsObjectKind bare_kind (t ∷ a ∷ word ∷ b ∷ c ∷ number ∷ z) (kinds.Material text))
    (lexemes.Sign signs.CloseParen) _ ts6 e6 (λ d ts7 p6 e7.
    front (λ z. Spelt IsObjectKind bare_kind (t ∷ a ∷ word ∷ b ∷ c ∷ number ∷ d ∷ z) (kinds.Material text))
    (lexemes.Sign signs.OpenParen) _ ts7 e7 (λ e ts8 p7 e8.
    front (λ z. Spelt IsObjectKind bare_kind (t ∷ a ∷ word ∷ b ∷ c ∷ number ∷ d ∷ e ∷ z) (kinds.Material text))
    (lexemes.Reserved words.Nr) _ ts8 e8 (λ nr ts9 p8 e9.
    front (λ z. Spelt IsObjectKind bare_kind (t ∷ a ∷ word ∷ b ∷ c ∷ number ∷ d ∷ e ∷ nr ∷ z) (kinds.Material text))
    (lexemes.Sign signs.Equal) _ ts9 e9 (λ equal ts10 p9 e10.
    front (λ z. Spelt IsObjectKind bare_kind (t ∷ a ∷ word ∷ b ∷ c ∷ number ∷ d ∷ e ∷ nr ∷ equal ∷ z)
    (kinds.Material text)) (lexemes.Text text.text) _ ts10 e10 (λ u ts11 p10 e11.
    single (λ z. Spelt IsObjectKind bare_kind (t ∷ a ∷ word ∷ b ∷ c ∷ number ∷ d ∷ e ∷ nr ∷ equal ∷ u ∷ z)
    (kinds.Material text)) (lexemes.Sign signs.CloseParen) ts11 e11 (λ f p11.
    record {
      tree = kinds.Material (text_at u text);
      spelled =
          grammar.material p0 p1 p2 p3 p4 (ap is_class_type p5) p6 p7 p8 p9 (text_again u text p10) p11;
      same =
          refl;
    }))))))))))))

alias_again : (alias : Alias) → Again IsAlias bare_alias (alias_lexemes alias) alias
alias_again alias ts e =
    front (λ z. Spelt IsAlias bare_alias z alias) (lexemes.Variable alias.variable.name) _ ts e (λ t us p q.
    front (λ z. Spelt IsAlias bare_alias (t ∷ z) alias) (lexemes.Sign signs.Equal) _ us q (λ equal vs r s.
    single (λ z. Spelt IsAlias bare_alias (t ∷ equal ∷ z) alias) (lexemes.Name alias.characteristic.name) vs s (λ u n.
    record {
      tree = with_alias (name_at t alias.variable) (name_at u alias.characteristic);
      spelled = grammar.alias (variable_again t alias.variable p) r (name_again u alias.characteristic n);
      same = refl;
    })))

where_again : (ts : List Token) (aliases : List Alias) → IsWhere ts aliases
    → Again IsWhere (map bare_alias) (where_lexemes aliases) aliases
where_again _ _ grammar.nowhere = λ vs e.
    nothing (λ z. Spelt IsWhere (map bare_alias) z []) vs e
    (record { tree = []; spelled = grammar.nowhere; same = refl })
where_again _ _ (grammar.where_ t0 ts {aliases = aliases} w0 l) = λ vs e.
    front (λ z. Spelt IsWhere (map bare_alias) z aliases) (lexemes.Reserved words.Where)
    (separated signs.Semicolon alias_lexemes aliases) vs
    (e ∙ where_one aliases (listed_one signs.Semicolon IsAlias ts aliases l)) (λ t us w q.
    let s : Spelt (IsListed signs.Semicolon IsAlias) (map bare_alias) us aliases
    = listed_again signs.Semicolon IsAlias bare_alias alias_lexemes (λ xs x i. alias_again x) ts aliases l us q in
    record { tree = s.tree; spelled = grammar.where_ t us w s.spelled; same = s.same })

object_again : (ts : List Token) (object : Object) → IsObject ts object
    → Again IsObject bare_object (object_lexemes object) object
object_again _ _ (grammar.object t0 ts us {variable = variable} {kind = kind} {aliases = aliases} v0 k0 w0) vs e =
    front (λ z. Spelt IsObject bare_object z (with_object variable kind aliases)) (lexemes.Variable variable.name)
    (kind_lexemes kind ++ where_lexemes aliases) vs e (λ t xs p q.
    split (λ z. Spelt IsObject bare_object (t ∷ z) (with_object variable kind aliases)) (kind_lexemes kind)
    (where_lexemes aliases) xs q (λ ys zs r h.
    let s : Spelt IsObjectKind bare_kind ys kind = kind_again kind ys r in
    let u : Spelt IsWhere (map bare_alias) zs aliases = where_again us aliases w0 zs h in
    record {
      tree = with_object (name_at t variable) s.tree u.tree;
      spelled = grammar.object t ys zs (variable_again t variable p) s.spelled u.spelled;
      same = ap (λ z. with_object (bare_name variable) z (map bare_alias u.tree)) s.same
          ∙ ap (λ z. with_object (bare_name variable) (bare_kind kind) z) u.same;
    }))

section_again : {A : Type 0} (IsA : List Token → A → Type 0) (bare : A → A) (ls : List Lexeme) (x : A)
    → Again IsA bare ls x
    → Again (IsSection IsA) bare (lexemes.Sign signs.Colon ∷ (ls ++ lexemes.Sign signs.Period ∷ [])) x
section_again IsA bare ls x again ts e =
    front (λ z. Spelt (IsSection IsA) bare z x) (lexemes.Sign signs.Colon) (ls ++ lexemes.Sign signs.Period ∷ []) ts e
    (λ colon us c q.
    ended (λ z. Spelt (IsSection IsA) bare (colon ∷ z) x) ls (lexemes.Sign signs.Period) us q (λ vs period r p.
    let s : Spelt IsA bare vs x = again vs r in
    record { tree = s.tree; spelled = grammar.section colon vs period s.tree c s.spelled p; same = s.same }))

inner : {A : Type 0} (IsA : List Token → A → Type 0) (ts : List Token) (x : A) → IsSection IsA ts x
    → (us : List Token) × IsA us x
inner IsA _ _ (grammar.section colon ts period x c i p) = (ts, i)

-- a section of things with commas between them
listed_section : {A : Type 0} (IsA : List Token → A → Type 0) (bare : A → A) (lexemes_of : A → List Lexeme)
    → ((ts : List Token) (x : A) → IsA ts x → Again IsA bare (lexemes_of x) x)
    → (ts : List Token) (xs : List A) → IsSection (IsListed signs.Comma IsA) ts xs
    → Again (IsSection (IsListed signs.Comma IsA)) (map bare)
    (lexemes.Sign signs.Colon ∷ (separated signs.Comma lexemes_of xs ++ lexemes.Sign signs.Period ∷ [])) xs
listed_section IsA bare lexemes_of each ts xs x =
    let i : (us : List Token) × IsListed signs.Comma IsA us xs = inner (IsListed signs.Comma IsA) ts xs x in
    section_again (IsListed signs.Comma IsA) (map bare) (separated signs.Comma lexemes_of xs) xs
    (listed_again signs.Comma IsA bare lexemes_of each i.0 xs i.1)

objects_again : (ts : List Token) (objects : List Object) → IsObjectSection ts objects
    → Again IsObjectSection (map bare_object)
    (section_lexemes words.Objects (separated signs.Comma object_lexemes objects)) objects
objects_again _ _ (grammar.objects t0 ts {objects = objects} w0 x) vs e =
    front (λ z. Spelt IsObjectSection (map bare_object) z objects) (lexemes.Reserved words.Objects) _ vs e (λ t us w q.
    let s : Spelt (IsSection (IsListed signs.Comma IsObject)) (map bare_object) us objects
    = listed_section IsObject bare_object object_lexemes object_again ts objects x us q in
    record { tree = s.tree; spelled = grammar.objects t us w s.spelled; same = s.same })

condition_section_again : (ts : List Token) (condition : Option Condition) → IsConditionSection ts condition
    → Again IsConditionSection (option_map bare_condition) (condition_section condition) condition
condition_section_again _ _ grammar.always = λ vs e.
    nothing (λ z. Spelt IsConditionSection (option_map bare_condition) z None) vs e
    (record { tree = None; spelled = grammar.always; same = refl })
condition_section_again _ _ (grammar.when t0 ts {condition = condition} w0 x) = λ vs e.
    front (λ z. Spelt IsConditionSection (option_map bare_condition) z (Some condition))
    (lexemes.Reserved words.Condition) _ vs e (λ t us w q.
    let i : (us : List Token) × IsCondition us condition = inner IsCondition ts condition x in
    let s : Spelt (IsSection IsCondition) bare_condition us condition =
    section_again IsCondition bare_condition (condition_lexemes condition) condition
    ((condition_again i.0 condition i.1).whole) us q in
    record { tree = Some s.tree; spelled = grammar.when t us w s.spelled; same = ap (λ z. Some z) s.same })

restrictions_by : (ts : List Token) (restrictions : List Restriction)
    → IsSection (IsListed signs.Comma IsRestriction) ts restrictions
    → Again IsRestrictionSection (map bare_restriction)
    (section_lexemes words.Restrictions (separated signs.Comma restriction_lexemes restrictions)) restrictions
restrictions_by ts restrictions x vs e =
    front (λ z. Spelt IsRestrictionSection (map bare_restriction) z restrictions) (lexemes.Reserved words.Restrictions)
    _ vs e (λ t us w q.
    let s : Spelt (IsSection (IsListed signs.Comma IsRestriction)) (map bare_restriction) us restrictions =
    listed_section IsRestriction bare_restriction restriction_lexemes restriction_again ts restrictions x us q in
    record { tree = s.tree; spelled = grammar.restrictions t us w s.spelled; same = s.same })

restrictions_again : (ts : List Token) (restrictions : List Restriction) → IsRestrictionSection ts restrictions
    → Again IsRestrictionSection (map bare_restriction)
    (section_lexemes words.Restrictions (separated signs.Comma restriction_lexemes restrictions)) restrictions
restrictions_again _ _ (grammar.restriction t0 ts {restrictions = restrictions} w0 x) =
    restrictions_by ts restrictions x
restrictions_again _ _ (grammar.restrictions t0 ts {restrictions = restrictions} w0 x) =
    restrictions_by ts restrictions x

inferences_again : (ts : List Token) (operands : List Operand) → IsInferenceSection ts operands
    → Again IsInferenceSection (map bare_operand) (inference_section operands) operands
inferences_again _ _ grammar.nothing = λ vs e.
    nothing (λ z. Spelt IsInferenceSection (map bare_operand) z []) vs e
    (record { tree = []; spelled = grammar.nothing; same = refl })
inferences_again _ _ (grammar.inferences t0 ts {operands = operands} w0 x) = λ vs e.
    let i : (us : List Token) × IsListed signs.Comma IsOperand us operands
    = inner (IsListed signs.Comma IsOperand) ts operands x in
    front (λ z. Spelt IsInferenceSection (map bare_operand) z operands) (lexemes.Reserved words.Inferences) _ vs
    (e ∙ inference_one operands (listed_one signs.Comma IsOperand i.0 operands i.1)) (λ t us w q.
    let s : Spelt (IsSection (IsListed signs.Comma IsOperand)) (map bare_operand) us operands =
    listed_section IsOperand bare_operand operand_lexemes (λ xs o h. operand_again o) ts operands x us q in
    record { tree = s.tree; spelled = grammar.inferences t us w s.spelled; same = s.same })

four_same : (a a' : List Object) (b b' : Option Condition) (c c' : List Restriction) (d d' : List Operand) → a ≡ a'
    → b ≡ b' → c ≡ c' → d ≡ d'
    → with_constraint a b c d ≡ with_constraint a' b' c' d'
four_same a a' b b' c c' d d' p q r s =
    ap (λ z. with_constraint z b c d) p
    ∙ (ap (λ z. with_constraint a' z c d) q
    ∙ (ap (λ z. with_constraint a' b' z d) r ∙ ap (λ z. with_constraint a' b' c' z) s))

pub constraint_again : (ts : List Token) (constraint : Constraint) → IsConstraint ts constraint
    → Again IsConstraint bare_constraint (constraint_lexemes constraint) constraint
constraint_again _ _
    (grammar.constraint ts us vs ws {objects = objects} {condition = condition} {restrictions = restrictions}
    {inferences = inferences} o c r i) xs e =
    split (λ z. Spelt IsConstraint bare_constraint z (with_constraint objects condition restrictions inferences))
    (section_lexemes words.Objects (separated signs.Comma object_lexemes objects)) _ xs e (λ x1 y1 p1 q1.
    split (λ z. Spelt IsConstraint bare_constraint (x1 ++ z)
    (with_constraint objects condition restrictions inferences)) (condition_section condition) _ y1 q1
    (λ x2 y2 p2 q2.
    split (λ z. Spelt IsConstraint bare_constraint (x1 ++ (x2 ++ z))
    (with_constraint objects condition restrictions inferences))
    (section_lexemes words.Restrictions (separated signs.Comma restriction_lexemes restrictions))
    (inference_section inferences) y2 q2 (λ x3 x4 p3 p4.
    let s1 : Spelt IsObjectSection (map bare_object) x1 objects = objects_again ts objects o x1 p1 in
    let s2 : Spelt IsConditionSection (option_map bare_condition) x2 condition
    = condition_section_again us condition c x2 p2 in
    let s3 : Spelt IsRestrictionSection (map bare_restriction) x3 restrictions
    = restrictions_again vs restrictions r x3 p3 in
    let s4 : Spelt IsInferenceSection (map bare_operand) x4 inferences = inferences_again ws inferences i x4 p4 in
    record {
      tree = with_constraint s1.tree s2.tree s3.tree s4.tree;
      spelled = grammar.constraint x1 x2 x3 x4 s1.spelled s2.spelled s3.spelled s4.spelled;
      same = four_same (map bare_object s1.tree) (map bare_object objects) (option_map bare_condition s2.tree)
          (option_map bare_condition condition)
          (map bare_restriction s3.tree) (map bare_restriction restrictions) (map bare_operand s4.tree)
          (map bare_operand inferences) s1.same s2.same s3.same s4.same;
    })))
