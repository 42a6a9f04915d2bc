-- What is read as a whole dependency is just what the grammar says.
use Rattle.std.proofs.Common.{◌≡◌, ℕ, List, [], ◌∷◌, ◌++◌, length, Bool, true, cond, Option, Some, None, option_map}
use Rattle.std.proofs.Common.{refl, sym, ap, subst, ◌∙◌, length-append, arith}
use Rattle.vc_syntax_tokens.specs.declared.token.Token.{Token}
use Rattle.vc_syntax_tokens.specs.declared.token.Sign.TheVariants as signs
use Rattle.vc_syntax_tokens.specs.declared.fault.Kind.{Kind}
use Rattle.vc_syntax_tokens.specs.declared.fault.Kind.TheVariants as kinds
use Rattle.vc_syntax_terms.specs.Leaves.{after_sign}
use Rattle.vc_syntax_terms.specs.Reading.{Gives, listed}
use Rattle.vc_syntax_terms.specs.TermReading.{sum}
use Rattle.vc_syntax_terms.specs.ConditionReading.{condition}
use Rattle.vc_syntax.specs.StatementReading.{statement}
use Rattle.vc_syntax.specs.ConstraintReading.{constraint}
use Rattle.vc_syntax.specs.DependencyReading.{is_end, without_period, is_stop, up_to, dependency}
use Rattle.vc_syntax_tree.specs.Trees as trees
use Rattle.vc_syntax_tree.specs.Trees.{Term, Condition, Statement, Constraint, Dependency, dependency_of}
use Rattle.vc_syntax_tree.specs.declared.Dependency.{Dependency as StoredDependency}
use Rattle.vc_syntax_terms.specs.declared.reading.ReadFault.{ReadFault}
use Rattle.std.specs.Prelude.{IfOk, Result, Ok, Err}
use Rattle.vc_syntax_terms.specs.TermGrammar.{IsSign, IsSum}
use Rattle.vc_syntax_terms.specs.ConditionGrammar.{IsListed, IsCondition}
use Rattle.vc_syntax.specs.StatementGrammar.{IsStatement}
use Rattle.vc_syntax.specs.ConstraintGrammar.{IsConstraint}
use Rattle.vc_syntax.specs.DependencyGrammar as grammar
use Rattle.vc_syntax.specs.DependencyGrammar.{IsStop, IsDependency}
use Rattle.vc_syntax_terms.proofs.Chains.{Took, then_some, map_some}
use Rattle.vc_syntax_terms.proofs.TokenLaws.{cond_some, after_sign_is, after_sign_again}
use Rattle.vc_syntax_terms.proofs.Lists.{listed_is, reads_whole_list}
use Rattle.vc_syntax_terms.proofs.TermSoundness.{sum_is}
use Rattle.vc_syntax_terms.proofs.ConditionSoundness.{condition_is}
use Rattle.vc_syntax_terms.proofs.ConditionCompleteness.{reads_whole_sum}
use Rattle.vc_syntax.proofs.StatementSoundness.{statement_is, statement_shortens}
use Rattle.vc_syntax.proofs.StatementCompleteness.{EndsStatement, comma_ends, reads_whole_condition, reads_statement}
use Rattle.vc_syntax.proofs.ConstraintSoundness.{constraint_is}
use Rattle.vc_syntax.proofs.ConstraintCompleteness.{period_ends, period_ends_list, reads_constraint}

end_is : (ts : List Token) → is_end ts ≡ true → ts ≡ []
end_is [] e = refl
end_is (t ∷ ts) e = absurd (cc)

stop_by : (o : Option (List Token)) (ts : List Token) → after_sign signs.Period ts ≡ o
    → is_end (without_period o ts) ≡ true → IsStop ts
stop_by None ts h e = let P : List Token → Type 0 = λ x. IsStop x in subst P (sym (end_is ts e)) grammar.nothing
stop_by (Some rest) ts h e =
    let p : (t : Token) × (ts ≡ t ∷ rest) × IsSign signs.Period t = after_sign_is signs.Period ts rest h in
    let P : List Token → Type 0
    = λ x. IsStop x in subst P (sym (p.1 ∙ ap (λ x. p.0 ∷ x) (end_is rest e))) (grammar.period p.2)

stop_is : (ts : List Token) → is_stop ts ≡ true → IsStop ts
stop_is ts e = stop_by (after_sign signs.Period ts) ts refl e

append_nothing : (ts : List Token) → ts ++ [] ≡ ts
append_nothing [] = refl
append_nothing (t ∷ ts) = ap (λ x. t ∷ x) (append_nothing ts)

-- what was read up to an end
up_to_is : {A : Type 0} (IsA : List Token → A → Type 0) (ends : List Token → Bool) (ts : List Token)
    (read : Option (A × List Token)) (x : A) → up_to ends read ≡ Some x
    → ((found : A × List Token) → read ≡ Some found → Took IsA ts found)
    → (front rest : List Token) × (ts ≡ front ++ rest) × IsA front x × (ends rest ≡ true)
up_to_is {A = A} IsA ends ts read x e sound =
    let p : (found : A × List Token) × (read ≡ Some found) × (cond (ends found.1) (Some found.0) None ≡ Some x)
    = then_some read _ x e in
    let q : Took IsA ts p.0 = sound p.0 p.1 in
    let r : (ends p.0.1 ≡ true) × (p.0.0 ≡ x) = cond_some _ p.0.0 x p.2 in
    let P : A → Type 0 = λ y. IsA q.0 y in
    (q.0, p.0.1, q.1, subst P r.1 q.2, r.0)

pub dependency_is : (kind : Kind) (left : ℕ) (ts : List Token) (tree : Dependency) → dependency kind left ts ≡ Some tree
    → IsDependency kind ts tree
dependency_is kinds.Precondition left ts tree e =
    let p : (x : Condition) × (up_to is_stop (condition left ts) ≡ Some x) × (trees.Precondition x ≡ tree)
    = map_some _ _ tree e in
    let q : (front rest : List Token) × (ts ≡ front ++ rest) × IsCondition front p.0 × (is_stop rest ≡ true)
    = up_to_is IsCondition is_stop ts _ p.0 p.1 (condition_is left ts) in
    let P : List Token → Type 0 = λ y. IsDependency kinds.Precondition y tree in
    let Q : Dependency → Type 0 = λ y. IsDependency kinds.Precondition (q.0 ++ q.1) y in
    subst P (sym q.2) (subst Q p.2 (grammar.precondition q.0 q.1 q.3 (stop_is q.1 q.4)))
dependency_is kinds.Selection left ts tree e =
    let p : (x : Condition) × (up_to is_stop (condition left ts) ≡ Some x) × (trees.Selection x ≡ tree)
    = map_some _ _ tree e in
    let q : (front rest : List Token) × (ts ≡ front ++ rest) × IsCondition front p.0 × (is_stop rest ≡ true)
    = up_to_is IsCondition is_stop ts _ p.0 p.1 (condition_is left ts) in
    let P : List Token → Type 0 = λ y. IsDependency kinds.Selection y tree in
    let Q : Dependency → Type 0 = λ y. IsDependency kinds.Selection (q.0 ++ q.1) y in
    subst P (sym q.2) (subst Q p.2 (grammar.selection q.0 q.1 q.3 (stop_is q.1 q.4)))
dependency_is kinds.Procedure left ts tree e =
    let p : (x : List Statement) × (up_to is_stop (listed signs.Comma (statement left) ts) ≡ Some x)
    × (trees.Procedure x ≡ tree) = map_some _ _ tree e in
    let q : (front rest : List Token) × (ts ≡ front ++ rest) × IsListed signs.Comma IsStatement front p.0
    × (is_stop rest ≡ true)
    = up_to_is (IsListed signs.Comma IsStatement) is_stop ts _ p.0 p.1
    (listed_is signs.Comma (statement left) IsStatement (statement_is left) ts) in
    let P : List Token → Type 0 = λ y. IsDependency kinds.Procedure y tree in
    let Q : Dependency → Type 0 = λ y. IsDependency kinds.Procedure (q.0 ++ q.1) y in
    subst P (sym q.2) (subst Q p.2 (grammar.procedure q.0 q.1 q.3 (stop_is q.1 q.4)))
dependency_is kinds.Constraint left ts tree e =
    let p : (x : Constraint) × (up_to is_end (constraint left ts) ≡ Some x) × (trees.Constrains x ≡ tree)
    = map_some _ _ tree e in
    let q : (front rest : List Token) × (ts ≡ front ++ rest) × IsConstraint front p.0 × (is_end rest ≡ true)
    = up_to_is IsConstraint is_end ts _ p.0 p.1 (constraint_is left ts) in
    let all : q.0 ≡ ts = sym (append_nothing q.0) ∙ ap (λ x. q.0 ++ x) (sym (end_is q.1 q.4)) ∙ sym q.2 in
    let P : List Token → Type 0 = λ y. IsDependency kinds.Constraint y tree in
    let Q : Dependency → Type 0 = λ y. IsDependency kinds.Constraint q.0 y in
    subst P all (subst Q p.2 (grammar.constraint q.3))
dependency_is kinds.Term left ts tree e =
    let p : (x : Term) × (up_to is_end (sum left ts) ≡ Some x) × (trees.Counts x ≡ tree) = map_some _ _ tree e in
    let q : (front rest : List Token) × (ts ≡ front ++ rest) × IsSum front p.0 × (is_end rest ≡ true)
    = up_to_is IsSum is_end ts _ p.0 p.1 (sum_is left ts) in
    let all : q.0 ≡ ts = sym (append_nothing q.0) ∙ ap (λ x. q.0 ++ x) (sym (end_is q.1 q.4)) ∙ sym q.2 in
    let P : List Token → Type 0 = λ y. IsDependency kinds.Term y tree in
    let Q : Dependency → Type 0 = λ y. IsDependency kinds.Term q.0 y in
    subst P all (subst Q p.2 (grammar.term q.3))

stop_ends : (ts : List Token) → IsStop ts → EndsStatement ts × (after_sign signs.Comma ts ≡ None) × (is_stop ts ≡ true)
stop_ends _ grammar.nothing = ((((refl, refl, refl), refl, refl), refl), refl, refl)
stop_ends _ (grammar.period {t = t} e) = (
  period_ends t [] e,
  period_ends_list t [] e,
  ap (λ o. is_end (without_period o (t ∷ []))) (after_sign_again signs.Period t [] e),
)

up_to_again : {A : Type 0} (ends : List Token → Bool) (read : Option (A × List Token)) (x : A) (rest : List Token)
    → read ≡ Some (x, rest) → ends rest ≡ true
    → up_to ends read ≡ Some x
up_to_again ends read x rest e f = ap (λ o. up_to ends o) e ∙ ap (λ b. cond b (Some x) None) f

pub reads_dependency : (kind : Kind) (ts : List Token) (tree : Dependency) → IsDependency kind ts tree
    → dependency kind (length ts) ts ≡ Some tree
reads_dependency _ _ _ (grammar.precondition ts us {x = x} d s) =
    ap (λ o. option_map trees.Precondition o) (up_to_again is_stop _ x us
    (reads_whole_condition ts x d (length (ts ++ us)) (omega (arith, length-append ts us)) us ((stop_ends us s).0.0))
    ((stop_ends us s).2))
reads_dependency _ _ _ (grammar.selection ts us {x = x} d s) =
    ap (λ o. option_map trees.Selection o) (up_to_again is_stop _ x us
    (reads_whole_condition ts x d (length (ts ++ us)) (omega (arith, length-append ts us)) us ((stop_ends us s).0.0))
    ((stop_ends us s).2))
reads_dependency _ _ _ (grammar.procedure ts us {xs = xs} d s) =
    ap (λ o. option_map trees.Procedure o) (up_to_again is_stop _ xs us
    (reads_whole_list signs.Comma (statement (length (ts ++ us))) IsStatement (statement_shortens (length (ts ++ us)))
    (length (ts ++ us)) EndsStatement comma_ends
    (λ vs y e k r ends. reads_statement vs y e (length (ts ++ us)) k r ends) ts xs d
    (omega (arith, length-append ts us)) us ((stop_ends us s).0) ((stop_ends us s).1))
    ((stop_ends us s).2))
reads_dependency _ _ _ (grammar.constraint {ts = ts} {x = x} d) =
    ap (λ o. option_map trees.Constrains o) (up_to_again is_end _ x []
    (ap (λ y. constraint (length ts) y) (sym (append_nothing ts))
    ∙ reads_constraint ts x d (length ts) (omega arith) [] refl) refl)
reads_dependency _ _ _ (grammar.term {ts = ts} {x = x} d) =
    ap (λ o. option_map trees.Counts o) (up_to_again is_end _ x []
    (ap (λ y. sum (length ts) y) (sym (append_nothing ts))
    ∙ reads_whole_sum ts x d (length ts) (omega arith) [] (refl, refl, refl)) refl)

-- the same of what a call answers
pub answers_found : (kind : Kind) (ts : List Token) (answer : Result StoredDependency ReadFault)
    → Gives dependency_of answer (dependency kind (length ts) ts)
    → IfOk answer (λ d. IsDependency kind ts (dependency_of d))
answers_found kind ts (Ok d) h = dependency_is kind (length ts) ts (dependency_of d) h
answers_found kind ts (Err fault) h = tt

pub answers_only : (kind : Kind) (ts : List Token) (answer : Result StoredDependency ReadFault)
    → Gives dependency_of answer (dependency kind (length ts) ts)
    → (tree : Dependency) → IsDependency kind ts tree → Gives dependency_of answer (Some tree)
answers_only kind ts answer h tree d = let P : Option Dependency
    → Type 0 = λ o. Gives dependency_of answer o in subst P (reads_dependency kind ts tree d) h
