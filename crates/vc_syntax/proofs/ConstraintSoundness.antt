-- What is read as a constraint, the grammar says.
use Rattle.std.proofs.Common.{◌≡◌, ℕ, List, [], ◌∷◌, ◌++◌, true, Option, Some, None, inl, inr, refl, sym, ap, subst}
use Rattle.std.proofs.Common.{◌∙◌, append_assoc}
use Rattle.vc_syntax_tokens.specs.declared.token.Token.{Token}
use Rattle.vc_syntax_tokens.specs.declared.token.Sign.TheVariants as signs
use Rattle.vc_syntax_tokens.specs.declared.token.Reserved.TheVariants as words
use Rattle.vc_syntax_tree.specs.declared.NameLeaf.{NameLeaf}
use Rattle.vc_syntax_tree.specs.declared.TextLeaf.{TextLeaf}
use Rattle.vc_syntax_tree.specs.declared.Operand.{Operand}
use Rattle.vc_syntax_tree.specs.declared.ObjectKind.{ObjectKind}
use Rattle.vc_syntax_tree.specs.declared.ObjectKind.TheVariants as kinds
use Rattle.vc_syntax_tree.specs.declared.Alias.{Alias}
use Rattle.vc_syntax_tree.specs.declared.Object.{Object}
use Rattle.vc_syntax_terms.specs.Leaves.{after_sign, after_word, named, any_named}
use Rattle.vc_syntax_terms.specs.Reading.{Reader, then, made, leaving_as, closed, listed}
use Rattle.vc_syntax_terms.specs.TermReading.{operand}
use Rattle.vc_syntax_terms.specs.ConditionReading.{text_ahead, variable_ahead, condition}
use Rattle.vc_syntax.specs.StatementReading.{restriction}
use Rattle.vc_syntax.specs.ConstraintReading.{is_class_type, after_class_type, class_type, material_word, class_kind}
use Rattle.vc_syntax.specs.ConstraintReading.{material_number, material_kind, object_kind, with_alias, with_object}
use Rattle.vc_syntax.specs.ConstraintReading.{alias, aliases, object, section, object_section, condition_section}
use Rattle.vc_syntax.specs.ConstraintReading.{restriction_word, restriction_section, inference_section, with_constraint}
use Rattle.vc_syntax.specs.ConstraintReading.{constraint}
use Rattle.vc_syntax_tree.specs.Trees.{Condition, Restriction, Constraint}
use Rattle.vc_syntax_terms.specs.TermGrammar.{IsSign, IsWord, IsName, IsAnyName, IsVariable, IsText, IsOperand}
use Rattle.vc_syntax_terms.specs.ConditionGrammar.{IsListed, IsCondition}
use Rattle.vc_syntax.specs.StatementGrammar.{IsRestriction}
use Rattle.vc_syntax.specs.ConstraintGrammar as grammar
use Rattle.vc_syntax.specs.ConstraintGrammar.{IsClassType, IsObjectKind, IsAlias, IsWhere, IsObject, IsSection}
use Rattle.vc_syntax.specs.ConstraintGrammar.{IsObjectSection, IsConditionSection, IsRestrictionSection}
use Rattle.vc_syntax.specs.ConstraintGrammar.{IsInferenceSection, IsConstraint}
use Rattle.vc_syntax_terms.proofs.Chains.{Took, IsSound, Shortens, sound_shortens, then_some, map_some, either_some}
use Rattle.vc_syntax_terms.proofs.TokenLaws.{cond_some, after_sign_is, after_word_is, named_is, any_named_is}
use Rattle.vc_syntax_terms.proofs.Lists.{listed_is}
use Rattle.vc_syntax_terms.proofs.TermSoundness.{operand_is}
use Rattle.vc_syntax_terms.proofs.ConditionSoundness.{or_else_some, text_ahead_is, variable_ahead_is, condition_is}
use Rattle.vc_syntax.proofs.StatementSoundness.{restriction_is}

after_class_type_is : (ts rest : List Token) → after_class_type ts ≡ Some rest
    → (t : Token) × (ts ≡ t ∷ rest) × IsClassType t
after_class_type_is [] rest e = absurd (cc)
after_class_type_is (t ∷ ts) rest e = let p : (is_class_type t.lexeme ≡ true)
    × (ts ≡ rest) = cond_some _ ts rest e in (t, ap (λ x. t ∷ x) p.1, p.0)

class_type_is : (ts rest : List Token) → class_type ts ≡ Some rest
    → (a b c : Token) × (ts ≡ a ∷ b ∷ c ∷ rest) × IsSign signs.OpenParen a × IsClassType b × IsSign signs.CloseParen c
class_type_is ts rest e =
    let p : (x : List Token) × (after_sign signs.OpenParen ts ≡ Some x)
    × (then (after_class_type x) (after_sign signs.CloseParen) ≡ Some rest) = then_some _ _ rest e in
    let q : (x : List Token) × (after_class_type p.0 ≡ Some x) × (after_sign signs.CloseParen x ≡ Some rest)
    = then_some _ _ rest p.2 in
    let a : (t : Token) × (ts ≡ t ∷ p.0) × IsSign signs.OpenParen t = after_sign_is signs.OpenParen ts p.0 p.1 in
    let b : (t : Token) × (p.0 ≡ t ∷ q.0) × IsClassType t = after_class_type_is p.0 q.0 q.1 in
    let c : (t : Token) × (q.0 ≡ t ∷ rest) × IsSign signs.CloseParen t = after_sign_is signs.CloseParen q.0 rest q.2 in
    (a.0, b.0, c.0, a.1 ∙ ap (λ x. a.0 ∷ x) (b.1 ∙ ap (λ x. b.0 ∷ x) c.1), a.2, b.2, c.2)

material_word_is : (ts rest : List Token) → material_word ts ≡ Some rest
    → (a b c : Token) × (ts ≡ a ∷ b ∷ c ∷ rest) × IsSign signs.OpenParen a × IsWord words.Material b
    × IsSign signs.CloseParen c
material_word_is ts rest e =
    let p : (x : List Token) × (after_sign signs.OpenParen ts ≡ Some x)
    × (then (after_word words.Material x) (after_sign signs.CloseParen) ≡ Some rest) = then_some _ _ rest e in
    let q : (x : List Token) × (after_word words.Material p.0 ≡ Some x) × (after_sign signs.CloseParen x ≡ Some rest)
    = then_some _ _ rest p.2 in
    let a : (t : Token) × (ts ≡ t ∷ p.0) × IsSign signs.OpenParen t = after_sign_is signs.OpenParen ts p.0 p.1 in
    let b : (t : Token) × (p.0 ≡ t ∷ q.0) × IsWord words.Material t = after_word_is words.Material p.0 q.0 q.1 in
    let c : (t : Token) × (q.0 ≡ t ∷ rest) × IsSign signs.CloseParen t = after_sign_is signs.CloseParen q.0 rest q.2 in
    (a.0, b.0, c.0, a.1 ∙ ap (λ x. a.0 ∷ x) (b.1 ∙ ap (λ x. b.0 ∷ x) c.1), a.2, b.2, c.2)

class_kind_is : (t : Token) (ts : List Token) (found : ObjectKind × List Token) → IsWord words.IsA t
    → class_kind ts ≡ Some found → Took IsObjectKind (t ∷ ts) found
class_kind_is t ts found w e = let P : ObjectKind × List Token → Type 0 = λ x. Took IsObjectKind (t ∷ ts) x in
    let p : (x : List Token) × (class_type ts ≡ Some x) × (made kinds.Class (any_named x) ≡ Some found)
    = then_some _ _ found e in
    let q : (x : NameLeaf × List Token) × (any_named p.0 ≡ Some x) × ((kinds.Class x.0, x.1) ≡ found)
    = map_some _ _ found p.2 in
    let a : (a b c : Token) × (ts ≡ a ∷ b ∷ c ∷ p.0) × IsSign signs.OpenParen a × IsClassType b
    × IsSign signs.CloseParen c = class_type_is ts p.0 p.1 in
    let n : (u : Token) × (p.0 ≡ u ∷ q.0.1) × IsAnyName u q.0.0 = any_named_is p.0 q.0 q.1 in
    subst P q.2 (
      t ∷ a.0 ∷ a.1 ∷ a.2 ∷ n.0
          ∷ [],
      ap (λ x. t ∷ x) (a.3 ∙ ap (λ x. a.0 ∷ a.1 ∷ a.2 ∷ x) n.1),
      grammar.class w a.4 a.5 a.6 n.2,
    )

material_number_is : (ts : List Token) (found : ObjectKind × List Token) → material_number ts ≡ Some found
    → (text : TextLeaf) × (found.0 ≡ kinds.Material text) × (a b c d f : Token) × (ts ≡ a ∷ b ∷ c ∷ d ∷ f ∷ found.1)
    × IsSign signs.OpenParen a × IsWord words.Nr b × IsSign signs.Equal c × IsText d text × IsSign signs.CloseParen f
material_number_is ts found e =
    let p : (x : List Token) × (after_sign signs.OpenParen ts ≡ Some x)
    × (then (after_word words.Nr x)
    (λ second. then (after_sign signs.Equal second) (λ rest. made kinds.Material (closed (text_ahead rest))))
    ≡ Some found) = then_some _ _ found e in
    let q : (x : List Token) × (after_word words.Nr p.0 ≡ Some x)
    × (then (after_sign signs.Equal x) (λ rest. made kinds.Material (closed (text_ahead rest))) ≡ Some found) =
    then_some _ _ found p.2 in
    let r : (x : List Token) × (after_sign signs.Equal q.0 ≡ Some x)
    × (made kinds.Material (closed (text_ahead x)) ≡ Some found) = then_some _ _ found q.2 in
    let s : (x : TextLeaf × List Token) × (closed (text_ahead r.0) ≡ Some x) × ((kinds.Material x.0, x.1) ≡ found)
    = map_some _ _ found r.2 in
    let u : (x : TextLeaf × List Token) × (text_ahead r.0 ≡ Some x)
    × (leaving_as x.0 (after_sign signs.CloseParen x.1) ≡ Some s.0) = then_some _ _ s.0 s.1 in
    let v : (x : List Token) × (after_sign signs.CloseParen u.0.1 ≡ Some x) × ((u.0.0, x) ≡ s.0)
    = map_some _ _ s.0 u.2 in
    let a : (t : Token) × (ts ≡ t ∷ p.0) × IsSign signs.OpenParen t = after_sign_is signs.OpenParen ts p.0 p.1 in
    let b : (t : Token) × (p.0 ≡ t ∷ q.0) × IsWord words.Nr t = after_word_is words.Nr p.0 q.0 q.1 in
    let c : (t : Token) × (q.0 ≡ t ∷ r.0) × IsSign signs.Equal t = after_sign_is signs.Equal q.0 r.0 r.1 in
    let d : (t : Token) × (r.0 ≡ t ∷ u.0.1) × IsText t u.0.0 = text_ahead_is r.0 u.0 u.1 in
    let f : (t : Token) × (u.0.1 ≡ t ∷ v.0) × IsSign signs.CloseParen t
    = after_sign_is signs.CloseParen u.0.1 v.0 v.1 in
    let last : v.0 ≡ found.1 = ap (λ x. x.1) v.2 ∙ ap (λ x. x.1) s.2 in (
      u.0.0,
      sym (ap (λ x. x.0) s.2) ∙ ap (λ x. kinds.Material x.0) (sym v.2),
      a.0,
      b.0,
      c.0,
      d.0,
      f.0,
      a.1 ∙ ap (λ x. a.0 ∷ x)
          (b.1 ∙ ap (λ x. b.0 ∷ x) (c.1 ∙ ap (λ x. c.0 ∷ x) (d.1 ∙ ap (λ x. d.0 ∷ x) (f.1 ∙ ap (λ x. f.0 ∷ x) last)))),
      a.2,
      b.2,
      c.2,
      d.2,
      f.2,
    )

material_kind_is : (t : Token) (ts : List Token) (found : ObjectKind × List Token) → IsWord words.IsObject t
    → material_kind ts ≡ Some found → Took IsObjectKind (t ∷ ts) found
material_kind_is t ts found w e =
    let p : (x : List Token) × (material_word ts ≡ Some x) × (then (class_type x) material_number ≡ Some found)
    = then_some _ _ found e in
    let q : (x : List Token) × (class_type p.0 ≡ Some x) × (material_number x ≡ Some found) = then_some _ _ found p.2 in
    let a : (a b c : Token) × (ts ≡ a ∷ b ∷ c ∷ p.0) × IsSign signs.OpenParen a × IsWord words.Material b
    × IsSign signs.CloseParen c = material_word_is ts p.0 p.1 in
    let b : (a b c : Token) × (p.0 ≡ a ∷ b ∷ c ∷ q.0) × IsSign signs.OpenParen a × IsClassType b
    × IsSign signs.CloseParen c = class_type_is p.0 q.0 q.1 in
    let c : (text : TextLeaf) × (found.0 ≡ kinds.Material text) × (a b c d f : Token)
    × (q.0 ≡ a ∷ b ∷ c ∷ d ∷ f ∷ found.1)
    × IsSign signs.OpenParen a × IsWord words.Nr b × IsSign signs.Equal c × IsText d text
    × IsSign signs.CloseParen f = material_number_is q.0 found q.2 in
    let front : List Token = t ∷ a.0 ∷ a.1 ∷ a.2 ∷ b.0 ∷ b.1 ∷ b.2 ∷ c.2 ∷ c.3 ∷ c.4 ∷ c.5 ∷ c.6 ∷ [] in
    let P : ObjectKind → Type 0 = λ x. IsObjectKind front x in (
      front,
      ap (λ x. t ∷ x) (a.3 ∙ ap (λ x. a.0 ∷ a.1 ∷ a.2 ∷ x) (b.3 ∙ ap (λ x. b.0 ∷ b.1 ∷ b.2 ∷ x) c.7)),
      subst P (sym c.1) (grammar.material w a.4 a.5 a.6 b.4 b.5 b.6 c.8 c.9 c.10 c.11 c.12),
    )

object_kind_is : IsSound object_kind IsObjectKind
object_kind_is ts found e = let P : List Token → Type 0 = λ x. Took IsObjectKind x found in
    elim (either_some (after_word words.IsA ts) _ _ found e) [
      | inl p ↦
          let q : (x : List Token) × (after_word words.IsObject ts ≡ Some x) × (material_kind x ≡ Some found)
          = then_some _ _ found p.1 in
          let w : (t : Token) × (ts ≡ t ∷ q.0) × IsWord words.IsObject t = after_word_is words.IsObject ts q.0 q.1 in
          subst P (sym w.1) (material_kind_is w.0 q.0 found w.2 q.2)
      | inr p ↦
          let w : (t : Token) × (ts ≡ t ∷ p.0) × IsWord words.IsA t = after_word_is words.IsA ts p.0 p.1 in
          subst P (sym w.1) (class_kind_is w.0 p.0 found w.2 p.2)
    ]

alias_is : IsSound alias IsAlias
alias_is ts found e = let P : Alias × List Token → Type 0 = λ x. Took IsAlias ts x in
    let a : (x : NameLeaf × List Token) × (variable_ahead ts ≡ Some x)
    × (then (after_sign signs.Equal x.1) (λ rest. made (with_alias x.0) (named rest)) ≡ Some found) =
    then_some _ _ found e in
    let b : (x : List Token) × (after_sign signs.Equal a.0.1 ≡ Some x)
    × (made (with_alias a.0.0) (named x) ≡ Some found) = then_some _ _ found a.2 in
    let c : (x : NameLeaf × List Token) × (named b.0 ≡ Some x) × ((with_alias a.0.0 x.0, x.1) ≡ found)
    = map_some _ _ found b.2 in
    let a' : (t : Token) × (ts ≡ t ∷ a.0.1) × IsVariable t a.0.0 = variable_ahead_is ts a.0 a.1 in
    let b' : (t : Token) × (a.0.1 ≡ t ∷ b.0) × IsSign signs.Equal t = after_sign_is signs.Equal a.0.1 b.0 b.1 in
    let c' : (t : Token) × (b.0 ≡ t ∷ c.0.1) × IsName t c.0.0 = named_is b.0 c.0 c.1 in
    subst P c.2 (
      a'.0 ∷ b'.0 ∷ c'.0 ∷ [],
      a'.1
          ∙ ap (λ x. a'.0 ∷ x) (b'.1 ∙ ap (λ x. b'.0 ∷ x) c'.1),
      grammar.alias a'.2 b'.2 c'.2,
    )

pub alias_shortens : Shortens alias
alias_shortens = sound_shortens alias IsAlias alias_is

aliases_is : IsSound aliases IsWhere
aliases_is ts found e = let P : List Alias × List Token → Type 0 = λ x. Took IsWhere ts x in
    elim (either_some (after_word words.Where ts) _ _ found e) [
      | inl p ↦ let same : ([], ts) ≡ found = cc (p.1) in subst P same ([], refl, grammar.nowhere)
      | inr p ↦
          let w : (t : Token) × (ts ≡ t ∷ p.0) × IsWord words.Where t = after_word_is words.Where ts p.0 p.1 in
          let q : Took (IsListed signs.Semicolon IsAlias) p.0 found
          = listed_is signs.Semicolon alias IsAlias alias_is p.0 found p.2 in
          (w.0 ∷ q.0, w.1 ∙ ap (λ x. w.0 ∷ x) q.1, grammar.where_ w.0 q.0 w.2 q.2)
    ]

object_is : IsSound object IsObject
object_is ts found e = let P : Object × List Token → Type 0 = λ x. Took IsObject ts x in
    let a : (x : NameLeaf × List Token) × (variable_ahead ts ≡ Some x)
    × (then (object_kind x.1) (λ kind. made (with_object x.0 kind.0) (aliases kind.1)) ≡ Some found) =
    then_some _ _ found e in
    let b : (x : ObjectKind × List Token) × (object_kind a.0.1 ≡ Some x)
    × (made (with_object a.0.0 x.0) (aliases x.1) ≡ Some found) = then_some _ _ found a.2 in
    let c : (x : List Alias × List Token) × (aliases b.0.1 ≡ Some x) × ((with_object a.0.0 b.0.0 x.0, x.1) ≡ found)
    = map_some _ _ found b.2 in
    let a' : (t : Token) × (ts ≡ t ∷ a.0.1) × IsVariable t a.0.0 = variable_ahead_is ts a.0 a.1 in
    let b' : Took IsObjectKind a.0.1 b.0 = object_kind_is a.0.1 b.0 b.1 in
    let c' : Took IsWhere b.0.1 c.0 = aliases_is b.0.1 c.0 c.1 in
    subst P c.2 (
      a'.0 ∷ (b'.0 ++ c'.0),
      a'.1 ∙ ap (λ x. a'.0 ∷ x) (b'.1 ∙ ap (λ x. b'.0 ++ x) c'.1 ∙ sym (append_assoc b'.0 c'.0 c.0.1)),
      grammar.object a'.0 b'.0 c'.0 a'.2 b'.2 c'.2,
    )

pub object_shortens : Shortens object
object_shortens = sound_shortens object IsObject object_is

pub operand_shortens : Shortens operand
operand_shortens = sound_shortens operand IsOperand operand_is

section_is : {A : Type 0} (read : Reader A) (IsA : List Token → A → Type 0) → IsSound read IsA
    → IsSound (section read) (IsSection IsA)
section_is {A = A} read IsA sound ts found e = let P : A × List Token → Type 0 = λ x. Took (IsSection IsA) ts x in
    let a : (x : List Token) × (after_sign signs.Colon ts ≡ Some x)
    × (then (read x) (λ y. leaving_as y.0 (after_sign signs.Period y.1)) ≡ Some found) = then_some _ _ found e in
    let b : (x : A × List Token) × (read a.0 ≡ Some x) × (leaving_as x.0 (after_sign signs.Period x.1) ≡ Some found)
    = then_some _ _ found a.2 in
    let c : (x : List Token) × (after_sign signs.Period b.0.1 ≡ Some x) × ((b.0.0, x) ≡ found)
    = map_some _ _ found b.2 in
    let a' : (t : Token) × (ts ≡ t ∷ a.0) × IsSign signs.Colon t = after_sign_is signs.Colon ts a.0 a.1 in
    let b' : Took IsA a.0 b.0 = sound a.0 b.0 b.1 in
    let c' : (t : Token) × (b.0.1 ≡ t ∷ c.0) × IsSign signs.Period t = after_sign_is signs.Period b.0.1 c.0 c.1 in
    subst P c.2 (
      a'.0 ∷ (b'.0 ++ c'.0 ∷ []),
      a'.1 ∙ ap (λ x. a'.0 ∷ x) (b'.1 ∙ ap (λ x. b'.0 ++ x) c'.1 ∙ sym (append_assoc b'.0 (c'.0 ∷ []) c.0)),
      grammar.section a'.0 b'.0 c'.0 b.0.0 a'.2 b'.2 c'.2,
    )

object_section_is : IsSound object_section IsObjectSection
object_section_is ts found e =
    let p : (x : List Token) × (after_word words.Objects ts ≡ Some x)
    × (section (listed signs.Comma object) x ≡ Some found) = then_some _ _ found e in
    let w : (t : Token) × (ts ≡ t ∷ p.0) × IsWord words.Objects t = after_word_is words.Objects ts p.0 p.1 in
    let q : Took (IsSection (IsListed signs.Comma IsObject)) p.0 found
    = section_is (listed signs.Comma object) (IsListed signs.Comma IsObject)
    (listed_is signs.Comma object IsObject object_is) p.0 found p.2 in
    (w.0 ∷ q.0, w.1 ∙ ap (λ x. w.0 ∷ x) q.1, grammar.objects w.0 q.0 w.2 q.2)

condition_section_is : (left : ℕ) → IsSound (condition_section left) IsConditionSection
condition_section_is left ts found e = let P : Option Condition × List Token
    → Type 0 = λ x. Took IsConditionSection ts x in
    elim (either_some (after_word words.Condition ts) _ _ found e) [
      | inl p ↦ let same : (None, ts) ≡ found = cc (p.1) in subst P same ([], refl, grammar.always)
      | inr p ↦
          let w : (t : Token) × (ts ≡ t ∷ p.0) × IsWord words.Condition t = after_word_is words.Condition ts p.0 p.1 in
          let a : (x : Condition × List Token) × (section (condition left) p.0 ≡ Some x) × ((Some x.0, x.1) ≡ found)
          = map_some _ _ found p.2 in
          let q : Took (IsSection IsCondition) p.0 a.0
          = section_is (condition left) IsCondition (condition_is left) p.0 a.0 a.1 in
          subst P a.2 (w.0 ∷ q.0, w.1 ∙ ap (λ x. w.0 ∷ x) q.1, grammar.when w.0 q.0 w.2 q.2)
    ]

restriction_section_is : (left : ℕ) → IsSound (restriction_section left) IsRestrictionSection
restriction_section_is left ts found e =
    let p : (x : List Token) × (restriction_word ts ≡ Some x)
    × (section (listed signs.Comma (restriction left)) x ≡ Some found) = then_some _ _ found e in
    let q : Took (IsSection (IsListed signs.Comma IsRestriction)) p.0 found
    = section_is (listed signs.Comma (restriction left)) (IsListed signs.Comma IsRestriction)
    (listed_is signs.Comma (restriction left) IsRestriction (restriction_is left)) p.0 found p.2 in
    elim (or_else_some (after_word words.Restriction ts) _ p.0 p.1) [
      | inl r ↦ let w : (t : Token) × (ts ≡ t ∷ p.0)
          × IsWord words.Restriction t = after_word_is words.Restriction ts p.0 r in
          (w.0 ∷ q.0, w.1 ∙ ap (λ x. w.0 ∷ x) q.1, grammar.restriction w.0 q.0 w.2 q.2)
      | inr r ↦ let w : (t : Token) × (ts ≡ t ∷ p.0)
          × IsWord words.Restrictions t = after_word_is words.Restrictions ts p.0 r in
          (w.0 ∷ q.0, w.1 ∙ ap (λ x. w.0 ∷ x) q.1, grammar.restrictions w.0 q.0 w.2 q.2)
    ]

inference_section_is : IsSound inference_section IsInferenceSection
inference_section_is ts found e = let P : List Operand × List Token → Type 0 = λ x. Took IsInferenceSection ts x in
    elim (either_some (after_word words.Inferences ts) _ _ found e) [
      | inl p ↦ let same : ([], ts) ≡ found = cc (p.1) in subst P same ([], refl, grammar.nothing)
      | inr p ↦
          let w : (t : Token) × (ts ≡ t ∷ p.0) × IsWord words.Inferences t
          = after_word_is words.Inferences ts p.0 p.1 in
          let q : Took (IsSection (IsListed signs.Comma IsOperand)) p.0 found
          = section_is (listed signs.Comma operand) (IsListed signs.Comma IsOperand)
          (listed_is signs.Comma operand IsOperand operand_is) p.0 found p.2 in
          (w.0 ∷ q.0, w.1 ∙ ap (λ x. w.0 ∷ x) q.1, grammar.inferences w.0 q.0 w.2 q.2)
    ]

pub constraint_is : (left : ℕ) → IsSound (constraint left) IsConstraint
constraint_is left ts found e = let P : Constraint × List Token → Type 0 = λ x. Took IsConstraint ts x in
    let a : (x : List Object × List Token) × (object_section ts ≡ Some x)
    × (then (condition_section left x.1) (λ condition. then (restriction_section left condition.1) (λ restrictions.
    made (with_constraint x.0 condition.0 restrictions.0) (inference_section restrictions.1))) ≡ Some found) =
    then_some _ _ found e in
    let b : (x : Option Condition × List Token) × (condition_section left a.0.1 ≡ Some x)
    × (then (restriction_section left x.1) (λ restrictions.
    made (with_constraint a.0.0 x.0 restrictions.0) (inference_section restrictions.1)) ≡ Some found) =
    then_some _ _ found a.2 in
    let c : (x : List Restriction × List Token) × (restriction_section left b.0.1 ≡ Some x)
    × (made (with_constraint a.0.0 b.0.0 x.0) (inference_section x.1) ≡ Some found) = then_some _ _ found b.2 in
    let d : (x : List Operand × List Token) × (inference_section c.0.1 ≡ Some x)
    × ((with_constraint a.0.0 b.0.0 c.0.0 x.0, x.1) ≡ found) = map_some _ _ found c.2 in
    let a' : Took IsObjectSection ts a.0 = object_section_is ts a.0 a.1 in
    let b' : Took IsConditionSection a.0.1 b.0 = condition_section_is left a.0.1 b.0 b.1 in
    let c' : Took IsRestrictionSection b.0.1 c.0 = restriction_section_is left b.0.1 c.0 c.1 in
    let d' : Took IsInferenceSection c.0.1 d.0 = inference_section_is c.0.1 d.0 d.1 in
    let inner : b.0.1 ≡ (c'.0 ++ d'.0) ++ d.0.1
    = c'.1 ∙ ap (λ x. c'.0 ++ x) d'.1 ∙ sym (append_assoc c'.0 d'.0 d.0.1) in
    let outer : a.0.1 ≡ (b'.0 ++ (c'.0 ++ d'.0)) ++ d.0.1
    = b'.1 ∙ ap (λ x. b'.0 ++ x) inner ∙ sym (append_assoc b'.0 (c'.0 ++ d'.0) d.0.1) in
    subst P d.2 (
      a'.0 ++ (b'.0 ++ (c'.0 ++ d'.0)),
      a'.1 ∙ ap (λ x. a'.0 ++ x) outer ∙ sym (append_assoc a'.0 (b'.0 ++ (c'.0 ++ d'.0)) d.0.1),
      grammar.constraint a'.0 b'.0 c'.0 d'.0 a'.2 b'.2 c'.2 d'.2,
    )
