-- What a text is found to be is what it spells, or its fault.
use Rattle.std.proofs.Common.{◌≡◌, ℕ, Bool, true, false, cond, List, length, refl, ap, sym, subst, ◌∙◌, Option, Some}
use Rattle.std.proofs.Common.{None, Result, Ok, Err}
use Rattle.vc_syntax_tokens.specs.declared.token.Token.{Token}
use Rattle.vc_syntax_tokens.specs.declared.fault.Kind.{Kind}
use Rattle.vc_syntax_tokens.specs.declared.fault.SyntaxKind.{SyntaxKind}
use Rattle.vc_syntax_tokens.specs.declared.fault.SyntaxKind.TheVariants as faults
use Rattle.vc_syntax_tokens.specs.declared.fault.SyntaxFault.{SyntaxFault}
use Rattle.vc_syntax_tokens.specs.declared.fault.SyntaxFault.TheVariants.{Bad, OutOfMemory}
use Rattle.std.specs.Result.{IfOk}
use Rattle.vc_syntax.specs.DependencyGrammar.{IsDependency}
use Rattle.vc_syntax.specs.DependencyReading.{dependency}
use Rattle.vc_syntax.specs.DependencyTexts.{Answers, spelled, judged_if, dependency_in}
use Rattle.vc_syntax_tokens.specs.Limits.{is_too_long, is_too_deep}
use Rattle.vc_syntax.specs.Spelled as s
use Rattle.vc_syntax.specs.Spelled.{Spells, IsFault}
use Rattle.vc_syntax_tokens.specs.Tokens.{first_ones, tokens_of}
use Rattle.vc_syntax_tokens.proofs.FirstTokens.{decided}
use Rattle.vc_syntax_tree.specs.Trees.{Dependency}
use Rattle.vc_syntax.proofs.DependencyLaws.{dependency_is, reads_dependency}

-- what is found, with how it was found
pub data Found (kind : Kind) (text : List ℕ) : Result Dependency SyntaxFault → Type 0 where
  tree : {t : Dependency} → Spells kind text t → Found kind text (Ok t)
  fault : {k : SyntaxKind} {place : ℕ} → IsFault kind text k place → Found kind text (Err (Bad k place))
  memory : Found kind text (Err OutOfMemory)

found_spelled : (kind : Kind) (text : List ℕ) (ts : List Token) (o : Option Dependency) → tokens_of text ≡ Ok ts
    → is_too_long ts ≡ false → is_too_deep ts ≡ false
    → dependency kind (length ts) ts ≡ o → Found kind text (spelled o)
found_spelled kind text ts (Some t) cut short shallow e =
    tree (record {
      tokens = ts;
      cut = cut;
      short = short;
      shallow = shallow;
      spelled =
          dependency_is kind (length ts) ts t e;
    })
found_spelled kind text ts None cut short shallow e =
    fault (s.no_tree ts cut short shallow
    (λ t d. let again : dependency kind (length ts) ts ≡ Some t = reads_dependency kind ts t d in cc))

found_deep : (kind : Kind) (text : List ℕ) (ts : List Token) (deep : Bool) → tokens_of text ≡ Ok ts
    → is_too_long ts ≡ false → is_too_deep ts ≡ deep
    → Found kind text (cond deep (Err (Bad faults.TooDeep 0)) (spelled (dependency kind (length ts) ts)))
found_deep kind text ts true cut short e = fault (s.too_deep ts cut short e)
found_deep kind text ts false cut short e = found_spelled kind text ts (dependency kind (length ts) ts) cut short e refl

found_long : (kind : Kind) (text : List ℕ) (ts : List Token) (long : Bool) → tokens_of text ≡ Ok ts
    → is_too_long ts ≡ long
    → Found kind text (cond long (Err (Bad faults.TooLong 0))
    (cond (is_too_deep ts) (Err (Bad faults.TooDeep 0)) (spelled (dependency kind (length ts) ts))))
found_long kind text ts true cut e = fault (s.too_long ts cut e)
found_long kind text ts false cut e = found_deep kind text ts (is_too_deep ts) cut e refl

found_in : (kind : Kind) (text : List ℕ) (o : Result (List Token) SyntaxFault) → tokens_of text ≡ o
    → Found kind text (judged_if kind o)
found_in kind text (Ok ts) cut = found_long kind text ts (is_too_long ts) cut refl
found_in kind text (Err (Bad k place)) cut = fault (s.bad_token cut)
found_in kind text (Err OutOfMemory) cut = memory

-- the first tokens tell what all of them tell
judged_first : (kind : Kind) (all : Result (List Token) SyntaxFault)
    → judged_if kind (first_ones all) ≡ judged_if kind all
judged_first kind (Err bad) = refl
judged_first kind (Ok tokens) =
    decided (λ ts. cond (is_too_deep ts) (Err (Bad faults.TooDeep 0)) (spelled (dependency kind (length ts) ts)))
    (Err (Bad faults.TooLong 0)) tokens

pub judged_told : (kind : Kind) (all first : Result (List Token) SyntaxFault) → first_ones all ≡ first
    → judged_if kind all ≡ judged_if kind first
judged_told kind all first e = sym (judged_first kind all) ∙ ap (judged_if kind) e

-- how a text is what it is found to be
pub found : (kind : Kind) (text : List ℕ) → Found kind text (dependency_in kind text)
found kind text = found_in kind text (tokens_of text) refl

-- a tree that the text spells is found
pub spelled_is_found : (kind : Kind) (text : List ℕ) (t : Dependency) → Spells kind text t
    → dependency_in kind text ≡ Ok t
spelled_is_found kind text t p =
    ap (judged_if kind) p.cut
    ∙ ap (λ b. cond b (Err (Bad faults.TooLong 0))
    (cond (is_too_deep p.tokens) (Err (Bad faults.TooDeep 0)) (spelled (dependency kind (length p.tokens) p.tokens))))
    p.short
    ∙ ap (λ b. cond b (Err (Bad faults.TooDeep 0)) (spelled (dependency kind (length p.tokens) p.tokens))) p.shallow
    ∙ ap spelled (reads_dependency kind p.tokens t p.spelled)

-- no tree is read where the grammar has none
none_read : (kind : Kind) (ts : List Token) (o : Option Dependency) → dependency kind (length ts) ts ≡ o
    → ((t : Dependency) → ¬ IsDependency kind ts t) → o ≡ None
none_read kind ts None e no_tree = refl
none_read kind ts (Some t) e no_tree = absurd (no_tree t (dependency_is kind (length ts) ts t e))

-- a fault of the text is found
pub fault_is_found : (kind : Kind) (text : List ℕ) (k : SyntaxKind) (place : ℕ) → IsFault kind text k place
    → dependency_in kind text ≡ Err (Bad k place)
fault_is_found kind text _ _ (s.bad_token cut) = ap (judged_if kind) cut
fault_is_found kind text _ _ (s.too_long ts cut long) =
    ap (judged_if kind) cut
    ∙ ap (λ b. cond b (Err (Bad faults.TooLong 0))
    (cond (is_too_deep ts) (Err (Bad faults.TooDeep 0)) (spelled (dependency kind (length ts) ts)))) long
fault_is_found kind text _ _ (s.too_deep ts cut short deep) =
    ap (judged_if kind) cut
    ∙ ap (λ b. cond b (Err (Bad faults.TooLong 0))
    (cond (is_too_deep ts) (Err (Bad faults.TooDeep 0)) (spelled (dependency kind (length ts) ts)))) short
    ∙ ap (λ b. cond b (Err (Bad faults.TooDeep 0)) (spelled (dependency kind (length ts) ts))) deep
fault_is_found kind text _ _ (s.no_tree ts cut short shallow none) =
    ap (judged_if kind) cut
    ∙ ap (λ b. cond b (Err (Bad faults.TooLong 0))
    (cond (is_too_deep ts) (Err (Bad faults.TooDeep 0)) (spelled (dependency kind (length ts) ts)))) short
    ∙ ap (λ b. cond b (Err (Bad faults.TooDeep 0)) (spelled (dependency kind (length ts) ts))) shallow
    ∙ ap spelled (none_read kind ts (dependency kind (length ts) ts) refl none)

tree_of_found : (kind : Kind) (text : List ℕ) (r : Result Dependency SyntaxFault) (t : Dependency) → Found kind text r
    → r ≡ Ok t → Spells kind text t
tree_of_found kind text _ t (tree {t = u} p) e = let same : u ≡ t = cc in subst (λ x. Spells kind text x) same p
tree_of_found kind text _ t (fault p) e = absurd (cc)
tree_of_found kind text _ t memory e = absurd (cc)

fault_of_found : (kind : Kind) (text : List ℕ) (r : Result Dependency SyntaxFault) (k : SyntaxKind) (place : ℕ)
    → Found kind text r → r ≡ Err (Bad k place) → IsFault kind text k place
fault_of_found kind text _ k place (tree p) e = absurd (cc)
fault_of_found kind text _ k place (fault {k = l} {place = at} p) e =
    let same_kind : l ≡ k = cc in
    let same_place : at ≡ place = cc in
    subst (λ x. IsFault kind text x place) same_kind (subst (λ x. IsFault kind text l x) same_place p)
fault_of_found kind text _ k place memory e = absurd (cc)

-- the same of what a call answers
pub answers_spell : {X : Type 0} (view : X → Dependency) (kind : Kind) (text : List ℕ) (answer : Result X SyntaxFault)
    → Answers view answer (dependency_in kind text) → IfOk answer (λ x. Spells kind text (view x))
answers_spell view kind text (Ok x) h = tree_of_found kind text (dependency_in kind text) (view x) (found kind text) h
answers_spell view kind text (Err f) h = tt

pub answers_tell : {X : Type 0} (view : X → Dependency) (kind : Kind) (text : List ℕ) (answer : Result X SyntaxFault)
    → Answers view answer (dependency_in kind text)
    → (k : SyntaxKind) (place : ℕ) → answer ≡ Err (Bad k place) → IsFault kind text k place
answers_tell view kind text (Ok x) h k place e = absurd (cc)
answers_tell view kind text (Err OutOfMemory) h k place e = absurd (cc)
answers_tell view kind text (Err (Bad l at)) h k place e =
    let same : dependency_in kind text ≡ Err (Bad k place) = cc in
    fault_of_found kind text (dependency_in kind text) k place (found kind text) same

-- a text spells one tree at most
pub one_tree : (kind : Kind) (text : List ℕ) (t u : Dependency) → Spells kind text t → Spells kind text u → t ≡ u
one_tree kind text t u p q =
    let first : dependency_in kind text ≡ Ok t = spelled_is_found kind text t p in
    let second : dependency_in kind text ≡ Ok u = spelled_is_found kind text u q in
    cc
