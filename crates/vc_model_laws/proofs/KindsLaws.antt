-- What a model that a text spells uses at a place is of a kind that may be used there.
use Rattle.std.proofs.Common.{◌≡◌, ℕ, zero, suc, ◌+◌, Bool, true, false, cond, not, ◌||◌, ◌⊎◌, inl, inr, List, [], ◌∷◌}
use Rattle.std.proofs.Common.{length, Option, Some, None, Result, Ok, Err, if◌then◌else◌}
use Rattle.std.proofs.Common.{refl, sym, ap, subst, ◌∙◌}
use Rattle.std.specs.Prelude.{is_some, option_map, slice_get, unwrap_or}
use Rattle.std.specs.List.{list_all}
use Rattle.std.specs.Result.{result_ok}
use Rattle.std.proofs.lemmas.Bool.{and_parts, or_parts, or_cases, or_left, or_right, not-false, not_from_false}
use denote.Enum.Bare.{sameb}
use Rattle.vc_syntax_tokens.specs.contracts.fault.Kind.{the_type as kind_type}
use Rattle.vc_syntax_tokens.specs.declared.fault.Kind.{Kind}
use Rattle.vc_syntax_tokens.specs.declared.fault.Kind.TheVariants as kinds
use Rattle.vc_syntax_tokens.specs.declared.fault.SyntaxFault.{SyntaxFault}
use Rattle.vc_syntax_tokens.specs.declared.fault.SyntaxFault.TheVariants.{Bad}
use Rattle.vc_syntax_tokens.specs.declared.fault.SyntaxKind.TheVariants as limits
use Rattle.vc_syntax_tokens.specs.declared.token.Token.{Token}
use Rattle.vc_syntax_tokens.specs.Limits.{is_too_long, is_too_deep}
use Rattle.vc_syntax_tokens.specs.Tokens.{tokens_of}
use Rattle.vc_syntax.specs.DependencyReading.{dependency}
use Rattle.vc_syntax.specs.DependencyTexts.{spelled, judged, judged_if}
use Rattle.vc_syntax_tree.specs.Trees as trees
use Rattle.vc_syntax_tree.specs.Trees.{Dependency}
use Rattle.vc_model_lines.specs.declared.line.Line.{Line}
use Rattle.vc_model_lines.specs.declared.line.Line.TheVariants as lines
use Rattle.vc_model_lines.specs.declared.line.BlockLine.{BlockLine}
use Rattle.vc_model_lines.specs.declared.line.CharLine.{CharLine}
use Rattle.vc_model_lines.specs.declared.line.ColumnLine.{ColumnLine}
use Rattle.vc_model_scope.specs.Contents.{characteristic_of, multiple_of, net_of, dependency_of, dependency_as}
use Rattle.vc_model_scope.specs.Contents.{entry_within}
use Rattle.vc_model_scope.specs.LookAhead.{block_text}
use Rattle.vc_model_scope.specs.Names.{is_among, place_of, with_name}
use Rattle.vc_model_scope.specs.Recursions.{declared, last_said, with_option}
use Rattle.vc_model_scope.specs.Scope.{scope_of}
use Rattle.vc_model_scope.specs.Stands.{uses_place_at, opens, ends_uses}
use Rattle.vc_model_scope.specs.declared.naming.Dependencies.{Dependencies}
use Rattle.vc_model_scope.specs.declared.scope.Scope.{Scope}
use Rattle.vc_model_parts.specs.declared.parts.Characteristic.{Characteristic}
use Rattle.std.specs.Cmp.Lexicographic.{bytes_decides}
use Rattle.vc_value.specs.Words.{same_bytes}
use Rattle.vc_model_scope.specs.declared.stands.UsesPlace.{UsesPlace}
use Rattle.vc_model_scope.specs.declared.stands.UsesPlace.TheVariants as places
use Rattle.vc_model_faults.specs.First.{backwards}
use Rattle.vc_model_faults.specs.Readings.{dependency_reading, dependency_read, reading, tree_in}
use Rattle.vc_model_faults.specs.Twice.{is_twice}
use Rattle.vc_model_faults.specs.Unknown.{is_allowed, is_wrong}
use Rattle.vc_model_faults.specs.Unknown as faults
use Rattle.vc_model_faults.specs.Values.{is_bad}
use Rattle.vc_model_drafts.specs.Models.{number_of, uses_below, use_at, text_at, number_at, column_at, item_at}
use Rattle.vc_model_drafts.specs.Models.{operation_at, characteristic_at, table_at, dependency_at, net_at, object_at}
use Rattle.vc_model_drafts.specs.Models.{model_of}
use Rattle.vc_model_drafts.specs.Seen.{SeenDependency}
use Rattle.vc_plan.specs.Spelling.{is_upper}
use Rattle.vc_model_laws.specs.Lists.{is_multiple}
use Rattle.vc_model_laws.specs.Kinds.{is_precondition, is_selection, is_procedure, is_constraint, is_for_value}
use Rattle.vc_model_laws.specs.Kinds.{is_for_characteristic, is_dependency, is_used_as, are_used_as, are_values_used_as}
use Rattle.vc_model_laws.specs.Kinds.{is_single, KeepsKinds}
use Rattle.vc_model_laws.proofs.DeclaringLaws.{characteristic_add, dependency_add, characteristics_are}
use Rattle.vc_model_laws.proofs.DeclaringLaws.{dependencies_are}
use Rattle.vc_model_laws.proofs.IndicesLaws.{among_later, among_all, own_name, known_column, scope_characteristics}
use Rattle.vc_model_laws.proofs.IndicesLaws.{scope_dependencies}
use Rattle.vc_model_laws.proofs.LineCases.{number_with, dependency_made, at_characteristic, at_table, at_net, at_object}
use Rattle.vc_model_laws.proofs.LineCases.{at_item, at_operation, at_text, at_number, at_column, at_use}
use Rattle.vc_model_laws.proofs.Holding.{each, each_map}
use Rattle.vc_model_laws.proofs.LineForms.{is_formed, is_block_kind}
use Rattle.vc_model_laws.proofs.DifferentLaws.{here_at}
use Rattle.vc_model_laws.proofs.MarkedLaws.{among_cases, Marks, line_unmarked, thing_at, unmarked_all}
use Rattle.vc_model_laws.proofs.NameLemmas.{HasNumber, has_number}
use Rattle.vc_model_laws.proofs.NamesLaws.{made}
use Rattle.vc_model_laws.proofs.Walks.{Passes, Sound, Stands, all_keep, each_said, each_under}

-- whether a tree is one of a kind; a term isn't asked for
abbrev is_of : Kind → Dependency → Bool
is_of kinds.Precondition tree = is_precondition tree
is_of kinds.Selection tree = is_selection tree
is_of kinds.Procedure tree = is_procedure tree
is_of kinds.Constraint tree = is_constraint tree
is_of kinds.Term tree = true

-- a text read as a kind is one of the kind
tokens_kind : (kind : Kind) (n : ℕ) (ts : List Token) → each (is_of kind) (dependency kind n ts) ≡ true
tokens_kind kinds.Precondition n ts = each_map is_precondition trees.Precondition _ (λ c. refl)
tokens_kind kinds.Selection n ts = each_map is_selection trees.Selection _ (λ c. refl)
tokens_kind kinds.Procedure n ts = each_map is_procedure trees.Procedure _ (λ c. refl)
tokens_kind kinds.Constraint n ts = each_map is_constraint trees.Constrains _ (λ c. refl)
tokens_kind kinds.Term n ts = each_map (is_of kinds.Term) trees.Counts _ (λ c. refl)

spelled_kind : (kind : Kind) (o : Option Dependency) → each (is_of kind) o ≡ true
    → each (is_of kind) (result_ok (spelled o)) ≡ true
spelled_kind kind None h = refl
spelled_kind kind (Some tree) h = h

judged_kind : (kind : Kind) (ts : List Token) → each (is_of kind) (result_ok (judged kind ts)) ≡ true
judged_kind kind ts = by (is_too_long ts) (is_too_deep ts) (Bad limits.TooLong 0) (Bad limits.TooDeep 0)
  where
    by : (long deep : Bool) (one other : SyntaxFault)
        → each (is_of kind) (result_ok (cond long (Err one)
        (cond deep (Err other) (spelled (dependency kind (length ts) ts))))) ≡ true
    by true deep one other = refl
    by false true one other = refl
    by false false one other = spelled_kind kind (dependency kind (length ts) ts) (tokens_kind kind (length ts) ts)

text_kind : (kind : Kind) (text : List ℕ) → each (is_of kind) (tree_in kind text) ≡ true
unfolding tree_in
text_kind kind text = by (tokens_of text)
  where
    by : (r : Result (List Token) SyntaxFault) → each (is_of kind) (result_ok (judged_if kind r)) ≡ true
    by (Ok ts) = judged_kind kind ts
    by (Err fault) = refl

-- a block's dependency is of its kind
read_kind : (n : ℕ) (x : BlockLine) (test : SeenDependency → Bool) (o : Option Dependency)
    → each (is_of x.kind) o ≡ true
    → ((tree : Dependency) → is_of x.kind tree ≡ true → test (dependency_made n x tree) ≡ true)
    → each test (option_map (dependency_made n x) (dependency_read (Some (dependency_reading o)))) ≡ true
read_kind n x test None h holds = refl
read_kind n x test (Some tree) h holds = holds tree h

block_made : (n : ℕ) (x : BlockLine) (below : List Line) (test : SeenDependency → Bool)
    → ((tree : Dependency) → is_of x.kind tree ≡ true → test (dependency_made n x tree) ≡ true)
    → each test (option_map (dependency_made n x) (dependency_read (reading (lines.Block x) below))) ≡ true
unfolding reading
block_made n x below test holds = read_kind n x test (tree_in x.kind (block_text below))
    (text_kind x.kind (block_text below)) holds

at_block : (all earlier : List Line) (a : Scope) (n : ℕ) (line : Line) (below : List Line)
    (test : SeenDependency → Bool)
    → ((x : BlockLine) → Stands all earlier (lines.Block x) below → (tree : Dependency) → is_of x.kind tree ≡ true
    → test (dependency_made n x tree) ≡ true)
    → Stands all earlier line below → each test (dependency_at a n line below) ≡ true
at_block all earlier a n lines.Skipped below test h s = refl
at_block all earlier a n (lines.Inner x) below test h s = refl
at_block all earlier a n lines.LongInner below test h s = refl
at_block all earlier a n lines.End below test h s = refl
at_block all earlier a n (lines.TooLong x) below test h s = refl
at_block all earlier a n (lines.NoForm x) below test h s = refl
at_block all earlier a n (lines.Head x) below test h s = refl
at_block all earlier a n (lines.Char x) below test h s = refl
at_block all earlier a n (lines.Num x) below test h s = refl
at_block all earlier a n (lines.Text x) below test h s = refl
at_block all earlier a n (lines.Interval x) below test h s = refl
at_block all earlier a n (lines.Uses x) below test h s = refl
at_block all earlier a n (lines.Class x) below test h s = refl
at_block all earlier a n (lines.Has x) below test h s = refl
at_block all earlier a n (lines.Table x) below test h s = refl
at_block all earlier a n (lines.Column x) below test h s = refl
at_block all earlier a n (lines.Net x) below test h s = refl
at_block all earlier a n (lines.Object x) below test h s = refl
at_block all earlier a n (lines.Bill x) below test h s = refl
at_block all earlier a n (lines.Operation x) below test h s = refl
at_block all earlier a n (lines.Block x) below test h s = block_made n x below test (h x s)
at_block all earlier a n (lines.Root x) below test h s = refl
at_block all earlier a n lines.Action below test h s = refl

is_one : (kind : Kind) (tree : Dependency) → is_block_kind kind ≡ true → is_of kind tree ≡ true
    → is_dependency tree ≡ true
is_one kinds.Precondition tree b h = or_left (is_for_characteristic tree) (is_constraint tree)
    (or_left (is_for_value tree) (is_selection tree) (or_left (is_precondition tree) (is_procedure tree) h))
is_one kinds.Selection tree b h = or_left (is_for_characteristic tree) (is_constraint tree)
    (or_right (is_for_value tree) (is_selection tree) h)
is_one kinds.Procedure tree b h = or_left (is_for_characteristic tree) (is_constraint tree)
    (or_left (is_for_value tree) (is_selection tree) (or_right (is_precondition tree) (is_procedure tree) h))
is_one kinds.Constraint tree b h = or_right (is_for_characteristic tree) (is_constraint tree) h
is_one kinds.Term tree b h = absurd (cc)

-- a name is declared as a kind only where its block is of the kind
block_marks : (kind : Kind) (x : BlockLine)
    → (dependency_as kind (lines.Block x) ≡ None) ⊎ (dependency_as kind (lines.Block x) ≡ Some x.name)
block_marks kind x = by (sameb kind_type x.kind kind)
  where
    by : (b : Bool) → ((if b then Some x.name else None) ≡ None) ⊎ ((if b then Some x.name else None) ≡ Some x.name)
    by true = inr refl
    by false = inl refl

as_marks : (kind : Kind) → Marks dependency_of (dependency_as kind)
as_marks kind lines.Skipped = inl refl
as_marks kind (lines.Inner x) = inl refl
as_marks kind lines.LongInner = inl refl
as_marks kind lines.End = inl refl
as_marks kind (lines.TooLong x) = inl refl
as_marks kind (lines.NoForm x) = inl refl
as_marks kind (lines.Head x) = inl refl
as_marks kind (lines.Char x) = inl refl
as_marks kind (lines.Num x) = inl refl
as_marks kind (lines.Text x) = inl refl
as_marks kind (lines.Interval x) = inl refl
as_marks kind (lines.Uses x) = inl refl
as_marks kind (lines.Class x) = inl refl
as_marks kind (lines.Has x) = inl refl
as_marks kind (lines.Table x) = inl refl
as_marks kind (lines.Column x) = inl refl
as_marks kind (lines.Net x) = inl refl
as_marks kind (lines.Object x) = inl refl
as_marks kind (lines.Bill x) = inl refl
as_marks kind (lines.Operation x) = inl refl
as_marks kind (lines.Block x) = block_marks kind x
as_marks kind (lines.Root x) = inl refl
as_marks kind lines.Action = inl refl

other_kind : (wanted kind : Kind) (tree : Dependency) → is_block_kind wanted ≡ true → is_of kind tree ≡ true
    → (sameb kind_type kind wanted ≡ false) ⊎ (is_of wanted tree ≡ true)
other_kind kinds.Precondition kinds.Precondition tree b h = inr h
other_kind kinds.Precondition kinds.Selection tree b h = inl refl
other_kind kinds.Precondition kinds.Procedure tree b h = inl refl
other_kind kinds.Precondition kinds.Constraint tree b h = inl refl
other_kind kinds.Precondition kinds.Term tree b h = inl refl
other_kind kinds.Selection kinds.Precondition tree b h = inl refl
other_kind kinds.Selection kinds.Selection tree b h = inr h
other_kind kinds.Selection kinds.Procedure tree b h = inl refl
other_kind kinds.Selection kinds.Constraint tree b h = inl refl
other_kind kinds.Selection kinds.Term tree b h = inl refl
other_kind kinds.Procedure kinds.Precondition tree b h = inl refl
other_kind kinds.Procedure kinds.Selection tree b h = inl refl
other_kind kinds.Procedure kinds.Procedure tree b h = inr h
other_kind kinds.Procedure kinds.Constraint tree b h = inl refl
other_kind kinds.Procedure kinds.Term tree b h = inl refl
other_kind kinds.Constraint kinds.Precondition tree b h = inl refl
other_kind kinds.Constraint kinds.Selection tree b h = inl refl
other_kind kinds.Constraint kinds.Procedure tree b h = inl refl
other_kind kinds.Constraint kinds.Constraint tree b h = inr h
other_kind kinds.Constraint kinds.Term tree b h = inl refl
other_kind kinds.Term kinds.Precondition tree b h = absurd (cc)
other_kind kinds.Term kinds.Selection tree b h = absurd (cc)
other_kind kinds.Term kinds.Procedure tree b h = absurd (cc)
other_kind kinds.Term kinds.Constraint tree b h = absurd (cc)
other_kind kinds.Term kinds.Term tree b h = absurd (cc)

-- where a dependency's name is declared as a kind, it is one of the kind
abbrev IsAs : List Line → Kind → SeenDependency → Bool
IsAs all kind d = not (is_among (declared (dependency_as kind) all) d.name) || is_of kind d.tree

as_of_kind : (all earlier : List Line) (n : ℕ) (x : BlockLine) (below : List Line) (wanted : Kind) (tree : Dependency)
    → is_block_kind wanted ≡ true
    → Stands all earlier (lines.Block x) below → is_of x.kind tree ≡ true
    → IsAs all wanted (dependency_made n x tree) ≡ true
as_of_kind all earlier n x below wanted tree b s h = by (other_kind wanted x.kind tree b h)
  where
    by : (sameb kind_type x.kind wanted ≡ false) ⊎ (is_of wanted tree ≡ true)
        → IsAs all wanted (dependency_made n x tree) ≡ true
    by (inl other) =
        let none : dependency_as wanted (lines.Block x) ≡ None = ap (λ b. if b then Some x.name else None) other in
        or_left (not (is_among (declared (dependency_as wanted) all) x.name)) (is_of wanted tree)
        (not_from_false (is_among (declared (dependency_as wanted) all) x.name)
        (line_unmarked dependency_of (dependency_as wanted) (as_marks wanted) dependency_add all earlier
        (lines.Block x) below x.name s refl none))
    by (inr same) = or_right (not (is_among (declared (dependency_as wanted) all) x.name)) (is_of wanted tree) same

all_as : (ls : List Line) (wanted : Kind) → is_block_kind wanted ≡ true → Sound [] ls
    → list_all (IsAs (backwards [] ls) wanted) (model_of ls).dependencies ≡ true
all_as ls wanted b s =
    let all = backwards [] ls in
    made (dependency_at (scope_of all)) (IsAs all wanted) ls s
    (λ e n l c p. at_block all e (scope_of all) n l c (IsAs all wanted)
    (λ x q tree h. as_of_kind all e n x c wanted tree b q h) p)

-- so what has a name that is declared as a kind is of the kind
passes_at : {X : Type 0} (p : X → Bool) (xs : List X) (k : ℕ) (x : X) → list_all p xs ≡ true → slice_get xs k ≡ Some x
    → p x ≡ true
passes_at p [] k x a e = absurd (cc)
passes_at p (y ∷ xs) zero x a e = let same : y ≡ x = cc in ap p (sym same) ∙ (and_parts (p y) (list_all p xs) a).0
passes_at p (y ∷ xs) (suc k) x a e = passes_at p xs k x (and_parts (p y) (list_all p xs) a).1 e

used_kind : (ls : List Line) (wanted : Kind) (name : List ℕ) (k : ℕ) → is_block_kind wanted ≡ true → Sound [] ls
    → is_among (declared (dependency_as wanted) (backwards [] ls)) name ≡ true
    → place_of (declared dependency_of (backwards [] ls)) name ≡ Some k
    → is_used_as (is_of wanted) (slice_get (model_of ls).dependencies k) ≡ true
used_kind ls wanted name k b s declared_as at =
    let all = backwards [] ls in
    let found = thing_at (λ d. d.name) (model_of ls).dependencies k name
    (ap (λ names. slice_get names k) (dependencies_are ls s) ∙ here_at (declared dependency_of all) name k at) in
    let is = passes_at (IsAs all wanted) (model_of ls).dependencies k found.0 (all_as ls wanted b s) found.1 in
    ap (is_used_as (is_of wanted)) found.1
    ∙ by found.0 (is_among (declared (dependency_as wanted) all) found.0.name)
    (or_cases (not (is_among (declared (dependency_as wanted) all) found.0.name)) (is_of wanted found.0.tree) is)
    (ap (is_among (declared (dependency_as wanted) all)) found.2 ∙ declared_as)
  where
    by : (d : SeenDependency) (t : Bool) → (not t ≡ true) ⊎ (is_of wanted d.tree ≡ true) → t ≡ true
        → is_of wanted d.tree ≡ true
    by d t (inl none) told = absurd (cc)
    by d t (inr h) told = h

-- no name is that of a net and of a dependency
abbrev Disjoint : List Line → Type 0
Disjoint earlier = (name : List ℕ) → is_among (declared net_of earlier) name ≡ true
    → is_among (declared dependency_of earlier) name ≡ true → ⊥

net_free : (earlier : List Line) (x : List ℕ) → is_twice (scope_of earlier) (lines.Net x) ≡ false
    → is_among (declared dependency_of earlier) x ≡ false
unfolding is_twice scope_of
net_free earlier x once = (or_parts (is_among (declared net_of earlier) x)
    (is_among (declared dependency_of earlier) x) once).1

block_free : (earlier : List Line) (x : BlockLine) → is_twice (scope_of earlier) (lines.Block x) ≡ false
    → is_among (declared net_of earlier) x.name ≡ false
unfolding is_twice scope_of
block_free earlier x once = (or_parts (is_among (declared net_of earlier) x.name)
    (is_among (declared dependency_of earlier) x.name) once).0

net_disjoint : (earlier : List Line) (x : List ℕ) → is_among (declared dependency_of earlier) x ≡ false
    → Disjoint earlier
    → (name : List ℕ) → is_among (with_name (declared net_of earlier) x) name ≡ true
    → is_among (declared dependency_of earlier) name ≡ true → ⊥
net_disjoint earlier x free h name n d = by (among_cases (declared net_of earlier) x name n)
  where
    by : (is_among (declared net_of earlier) name ≡ true) ⊎ (name ≡ x) → ⊥
    by (inl stood) = h name stood d
    by (inr e) = let no = ap (is_among (declared dependency_of earlier)) e ∙ free in cc

block_disjoint : (earlier : List Line) (x : List ℕ) → is_among (declared net_of earlier) x ≡ false → Disjoint earlier
    → (name : List ℕ) → is_among (declared net_of earlier) name ≡ true
    → is_among (with_name (declared dependency_of earlier) x) name ≡ true → ⊥
block_disjoint earlier x free h name n d = by (among_cases (declared dependency_of earlier) x name d)
  where
    by : (is_among (declared dependency_of earlier) name ≡ true) ⊎ (name ≡ x) → ⊥
    by (inl stood) = h name n stood
    by (inr e) = let no = ap (is_among (declared net_of earlier)) e ∙ free in cc

disjoint_kept : (earlier : List Line) (line : Line) (below : List Line) → Passes (scope_of earlier) line below
    → Disjoint earlier → Disjoint (line ∷ earlier)
disjoint_kept earlier lines.Skipped below p h = h
disjoint_kept earlier (lines.Inner x) below p h = h
disjoint_kept earlier lines.LongInner below p h = h
disjoint_kept earlier lines.End below p h = h
disjoint_kept earlier (lines.TooLong x) below p h = h
disjoint_kept earlier (lines.NoForm x) below p h = h
disjoint_kept earlier (lines.Head x) below p h = h
disjoint_kept earlier (lines.Char x) below p h = h
disjoint_kept earlier (lines.Num x) below p h = h
disjoint_kept earlier (lines.Text x) below p h = h
disjoint_kept earlier (lines.Interval x) below p h = h
disjoint_kept earlier (lines.Uses x) below p h = h
disjoint_kept earlier (lines.Class x) below p h = h
disjoint_kept earlier (lines.Has x) below p h = h
disjoint_kept earlier (lines.Table x) below p h = h
disjoint_kept earlier (lines.Column x) below p h = h
disjoint_kept earlier (lines.Net x) below p h = net_disjoint earlier x (net_free earlier x p.once) h
disjoint_kept earlier (lines.Object x) below p h = h
disjoint_kept earlier (lines.Bill x) below p h = h
disjoint_kept earlier (lines.Operation x) below p h = h
disjoint_kept earlier (lines.Block x) below p h = block_disjoint earlier x.name (block_free earlier x p.once) h
disjoint_kept earlier (lines.Root x) below p h = h
disjoint_kept earlier lines.Action below p h = h

none_both : (name : List ℕ) → false ≡ true → false ≡ true → ⊥
none_both name n d = cc

disjoint : (ls : List Line) → Sound [] ls → Disjoint (backwards [] ls)
disjoint ls s = all_keep Disjoint disjoint_kept [] ls s none_both

-- what is used at a place
abbrev At : UsesPlace → List Line → Type 0
At place earlier = last_said places.Nowhere uses_place_at earlier ≡ place

place_stays : (place : UsesPlace) (earlier : List Line) (line : Line) (below : List Line)
    → Passes (scope_of earlier) line below → ends_uses line ≡ false
    → At place earlier → At place (line ∷ earlier)
place_stays place earlier line below p going h = by (uses_place_at line) refl
  where
    by : (o : Option UsesPlace) → uses_place_at line ≡ o
        → unwrap_or o (last_said places.Nowhere uses_place_at earlier) ≡ place
    by None is = h
    by (Some other) is = absurd (let told : true ≡ false = ap (λ o. is_some o) (sym is) ∙ going in cc)

allowed : (place : UsesPlace) (earlier : List Line) (x : List ℕ) → is_wrong (scope_of earlier) (lines.Uses x) ≡ false
    → At place earlier
    → is_allowed place (scope_of earlier).dependencies x ≡ true
unfolding is_wrong scope_of
allowed place earlier x right at =
    ap (λ p. is_allowed p (scope_of earlier).dependencies x) (sym at)
    ∙ not-false (is_allowed (scope_of earlier).uses.place (scope_of earlier).dependencies x) right

-- a name that a scope has as a kind is declared as it
as_precondition : (earlier : List Line) (name : List ℕ)
    → is_among (scope_of earlier).dependencies.preconditions name ≡ true
    → is_among (declared (dependency_as kinds.Precondition) earlier) name ≡ true
unfolding scope_of
as_precondition earlier name h = h

as_selection : (earlier : List Line) (name : List ℕ) → is_among (scope_of earlier).dependencies.selections name ≡ true
    → is_among (declared (dependency_as kinds.Selection) earlier) name ≡ true
unfolding scope_of
as_selection earlier name h = h

as_procedure : (earlier : List Line) (name : List ℕ) → is_among (scope_of earlier).dependencies.procedures name ≡ true
    → is_among (declared (dependency_as kinds.Procedure) earlier) name ≡ true
unfolding scope_of
as_procedure earlier name h = h

as_constraint : (earlier : List Line) (name : List ℕ)
    → is_among (scope_of earlier).dependencies.constraints name ≡ true
    → is_among (declared (dependency_as kinds.Constraint) earlier) name ≡ true
unfolding scope_of
as_constraint earlier name h = h

as_net : (earlier : List Line) (name : List ℕ) → is_among (scope_of earlier).dependencies.nets name ≡ true
    → is_among (declared net_of earlier) name ≡ true
unfolding scope_of
as_net earlier name h = h

-- the dependency that a line uses, of a kind that its scope has
one_used : (ls : List Line) (earlier : List Line) (x : List ℕ) (below : List Line) (wanted : Kind)
    (test : Dependency → Bool) → is_block_kind wanted ≡ true
    → ((tree : Dependency) → is_of wanted tree ≡ true → test tree ≡ true) → Sound [] ls
    → Stands (backwards [] ls) earlier (lines.Uses x) below
    → is_among (declared (dependency_as wanted) earlier) x ≡ true
    → each (λ k. is_used_as test (slice_get (model_of ls).dependencies k))
    (place_of (scope_of (backwards [] ls)).dependencies.all x) ≡ true
one_used ls earlier x below wanted test b weaker s q h =
    ap (λ names. each (λ k. is_used_as test (slice_get (model_of ls).dependencies k)) (place_of names x))
    (scope_dependencies all)
    ∙ by (place_of (declared dependency_of all) x) refl
  where
    all : List Line
    all = backwards [] ls

    more : (o : Option SeenDependency) → is_used_as (is_of wanted) o ≡ true → is_used_as test o ≡ true
    more None h = absurd (cc)
    more (Some d) h = weaker d.tree h

    by : (o : Option ℕ) → place_of (declared dependency_of all) x ≡ o
        → each (λ k. is_used_as test (slice_get (model_of ls).dependencies k)) o ≡ true
    by None is = refl
    by (Some k) is =
        more (slice_get (model_of ls).dependencies k)
        (used_kind ls wanted x k b s (among_all (dependency_as wanted) all earlier (lines.Uses x) below x q h) is)

-- a name that isn't there has no number
among_at : (names : List (List ℕ)) (k : ℕ) (name : List ℕ) → slice_get names k ≡ Some name → is_among names name ≡ true
among_at [] k name e = absurd (cc)
among_at (first ∷ names) zero name e =
    let same : first ≡ name = cc in or_left (same_bytes name first) (is_among names name)
    ((bytes_decides name first).1 (sym same))
among_at (first ∷ names) (suc k) name e =
    or_right (same_bytes name first) (is_among names name) (among_at names k name e)

pub not_placed : (names : List (List ℕ)) (name : List ℕ) → is_among names name ≡ false → place_of names name ≡ None
not_placed names name none = by (place_of names name) refl
  where
    by : (o : Option ℕ) → place_of names name ≡ o → o ≡ None
    by None is = refl
    by (Some k) is = absurd (let yes = among_at names k name (here_at names name k is) in cc)

-- a net's name is no dependency's
net_used : (ls : List Line) (earlier : List Line) (x : List ℕ) (below : List Line) (test : ℕ → Bool) → Sound [] ls
    → Stands (backwards [] ls) earlier (lines.Uses x) below
    → is_among (declared net_of earlier) x ≡ true
    → each test (place_of (scope_of (backwards [] ls)).dependencies.all x) ≡ true
net_used ls earlier x below test s q h =
    ap (λ names. each test (place_of names x)) (scope_dependencies all)
    ∙ by (is_among (declared dependency_of all) x) refl
  where
    all : List Line
    all = backwards [] ls

    by : (b : Bool) → is_among (declared dependency_of all) x ≡ b
        → each test (place_of (declared dependency_of all) x) ≡ true
    by true is = absurd (disjoint ls s x (among_all net_of all earlier (lines.Uses x) below x q h) is)
    by false is = ap (each test) (not_placed (declared dependency_of all) x is)

-- what is used at each kind of place
abbrev Used : List Line → (Dependency → Bool) → List ℕ → Type 0
Used ls test x = each (λ k. is_used_as test (slice_get (model_of ls).dependencies k))
    (place_of (scope_of (backwards [] ls)).dependencies.all x) ≡ true

abbrev UsesAt : UsesPlace → (Dependency → Bool) → Type 0
UsesAt place test = (ls earlier : List Line) (x : List ℕ) (below : List Line) → Sound [] ls
    → Stands (backwards [] ls) earlier (lines.Uses x) below → At place earlier → Used ls test x

at_value : UsesAt places.Value is_for_value
at_value ls earlier x below s q at = by (or_cases (is_among d.preconditions x) (is_among d.procedures x)
    (allowed places.Value earlier x q.passes.right at))
  where
    d : Dependencies
    d = (scope_of earlier).dependencies

    by : (is_among d.preconditions x ≡ true) ⊎ (is_among d.procedures x ≡ true) → Used ls is_for_value x
    by (inl h) = one_used ls earlier x below kinds.Precondition is_for_value refl
        (λ t h. or_left (is_precondition t) (is_procedure t) h) s q (as_precondition earlier x h)
    by (inr h) = one_used ls earlier x below kinds.Procedure is_for_value refl
        (λ t h. or_right (is_precondition t) (is_procedure t) h) s q (as_procedure earlier x h)

at_char : UsesAt places.Characteristic is_for_characteristic
at_char ls earlier x below s q at = by (or_cases (faults.is_for_value d x) (is_among d.selections x)
    (allowed places.Characteristic earlier x q.passes.right at))
  where
    d : Dependencies
    d = (scope_of earlier).dependencies

    value : (is_among d.preconditions x ≡ true) ⊎ (is_among d.procedures x ≡ true) → Used ls is_for_characteristic x
    value (inl h) = one_used ls earlier x below kinds.Precondition is_for_characteristic refl
        (λ t h. or_left (is_for_value t) (is_selection t) (or_left (is_precondition t) (is_procedure t) h)) s q
        (as_precondition earlier x h)
    value (inr h) = one_used ls earlier x below kinds.Procedure is_for_characteristic refl
        (λ t h. or_left (is_for_value t) (is_selection t) (or_right (is_precondition t) (is_procedure t) h)) s q
        (as_procedure earlier x h)

    by : (faults.is_for_value d x ≡ true) ⊎ (is_among d.selections x ≡ true) → Used ls is_for_characteristic x
    by (inl h) = value (or_cases (is_among d.preconditions x) (is_among d.procedures x) h)
    by (inr h) = one_used ls earlier x below kinds.Selection is_for_characteristic refl
        (λ t h. or_right (is_for_value t) (is_selection t) h) s q (as_selection earlier x h)

at_line : UsesAt places.Item is_selection
at_line ls earlier x below s q at =
    one_used ls earlier x below kinds.Selection is_selection refl (λ t h. h) s q
    (as_selection earlier x (allowed places.Item earlier x q.passes.right at))

at_constraint : UsesAt places.Net is_constraint
at_constraint ls earlier x below s q at =
    one_used ls earlier x below kinds.Constraint is_constraint refl (λ t h. h) s q
    (as_constraint earlier x (allowed places.Net earlier x q.passes.right at))

at_profile : UsesAt places.Object is_procedure
at_profile ls earlier x below s q at = by
    (or_cases (is_among d.nets x) (is_among d.procedures x) (allowed places.Object earlier x q.passes.right at))
  where
    d : Dependencies
    d = (scope_of earlier).dependencies

    by : (is_among d.nets x ≡ true) ⊎ (is_among d.procedures x ≡ true) → Used ls is_procedure x
    by (inl h) = net_used ls earlier x below (λ k. is_used_as is_procedure (slice_get (model_of ls).dependencies k)) s
        q (as_net earlier x h)
    by (inr h) = one_used ls earlier x below kinds.Procedure is_procedure refl (λ t h. h) s q (as_procedure earlier x h)

uses_are : (place : UsesPlace) (test : Dependency → Bool) → UsesAt place test
    → (ls earlier : List Line) (n : ℕ) (below : List Line) → Sound [] ls
    → Sound earlier below → backwards earlier below ≡ backwards [] ls → At place earlier
    → are_used_as (model_of ls) test (uses_below (scope_of (backwards [] ls)) n below) ≡ true
uses_are place test used ls earlier n below s after e at =
    let all = backwards [] ls in
    let a = scope_of all in
    let is : ℕ → Bool = λ k. is_used_as test (slice_get (model_of ls).dependencies k) in
    each_under ends_uses (use_at a) is all (At place) (place_stays place)
    (λ e n l b p c. at_use all e a n l b is (λ x q. used ls e x b s q c) p) earlier n below after e at

-- a column's characteristic has one value at most
char_marks : (x : CharLine) → (multiple_of (lines.Char x) ≡ None) ⊎ (multiple_of (lines.Char x) ≡ Some x.name)
char_marks x = by x.multiple
  where
    by : (b : Bool) → ((if b then Some x.name else None) ≡ None) ⊎ ((if b then Some x.name else None) ≡ Some x.name)
    by true = inr refl
    by false = inl refl

multiple_marks : Marks characteristic_of multiple_of
multiple_marks lines.Skipped = inl refl
multiple_marks (lines.Inner x) = inl refl
multiple_marks lines.LongInner = inl refl
multiple_marks lines.End = inl refl
multiple_marks (lines.TooLong x) = inl refl
multiple_marks (lines.NoForm x) = inl refl
multiple_marks (lines.Head x) = inl refl
multiple_marks (lines.Char x) = char_marks x
multiple_marks (lines.Num x) = inl refl
multiple_marks (lines.Text x) = inl refl
multiple_marks (lines.Interval x) = inl refl
multiple_marks (lines.Uses x) = inl refl
multiple_marks (lines.Class x) = inl refl
multiple_marks (lines.Has x) = inl refl
multiple_marks (lines.Table x) = inl refl
multiple_marks (lines.Column x) = inl refl
multiple_marks (lines.Net x) = inl refl
multiple_marks (lines.Object x) = inl refl
multiple_marks (lines.Bill x) = inl refl
multiple_marks (lines.Operation x) = inl refl
multiple_marks (lines.Block x) = inl refl
multiple_marks (lines.Root x) = inl refl
multiple_marks lines.Action = inl refl

abbrev IsMarked : List Line → Characteristic → Bool
IsMarked all c = not (is_multiple c.values) || is_among (declared multiple_of all) c.name

char_marked : (all earlier : List Line) (n : ℕ) (x : CharLine) (below : List Line)
    → Stands all earlier (lines.Char x) below
    → (not x.multiple || is_among (declared multiple_of all) x.name) ≡ true
char_marked all earlier n x below s = by x.multiple refl
  where
    by : (b : Bool) → x.multiple ≡ b → (not b || is_among (declared multiple_of all) x.name) ≡ true
    by false is = refl
    by true is =
        let here : is_among (declared multiple_of (lines.Char x ∷ earlier)) x.name ≡ true =
        ap (λ b. is_among (with_option with_name (declared multiple_of earlier) (if b then Some x.name else None))
        x.name) is
        ∙ own_name (declared multiple_of earlier) x.name in
        subst (λ ks. is_among (declared multiple_of ks) x.name ≡ true) s.all_are
        (among_later multiple_of (lines.Char x ∷ earlier) below x.name here)

all_marked : (ls : List Line) → Sound [] ls → list_all (IsMarked (backwards [] ls)) (model_of ls).characteristics ≡ true
all_marked ls s =
    let all = backwards [] ls in
    made (characteristic_at (scope_of all)) (IsMarked all) ls s
    (λ e n l b p. at_characteristic all e (scope_of all) n l b (IsMarked all) (λ x q. char_marked all e n x b q)
    (λ x q. refl) p)

no_multiple : (earlier : List Line) (x : ColumnLine) → is_bad (scope_of earlier) (lines.Column x) ≡ false
    → is_among (declared multiple_of earlier) x.characteristic ≡ false
unfolding is_bad scope_of
no_multiple earlier x fit = fit

column_single : (ls earlier : List Line) (x : ColumnLine) (below : List Line) → Sound [] ls
    → Stands (backwards [] ls) earlier (lines.Column x) below
    → is_single (slice_get (model_of ls).characteristics
    (number_of (scope_of (backwards [] ls)).declared.characteristics x.characteristic)) ≡ true
column_single ls earlier x below s q =
    ap (λ names. is_single (slice_get (model_of ls).characteristics (number_of names x.characteristic)))
    (scope_characteristics all)
    ∙ ap (λ o. is_single (slice_get (model_of ls).characteristics (unwrap_or o 0))) number.is ∙ ap is_single found.1
    ∙ by (or_cases (not (is_multiple found.0.values)) (is_among (declared multiple_of all) found.0.name) marked)
  where
    all : List Line
    all = backwards [] ls

    name : List ℕ
    name = x.characteristic

    there : is_among (declared characteristic_of earlier) name ≡ true
    there = known_column earlier x q.passes.known

    number : HasNumber (declared characteristic_of all) name
    number = has_number (declared characteristic_of all) name
        (among_all characteristic_of all earlier (lines.Column x) below name q there)

    found : (c : Characteristic) × (slice_get (model_of ls).characteristics number.number ≡ Some c) × (c.name ≡ name)
    found = thing_at (λ c. c.name) (model_of ls).characteristics number.number name
        (ap (λ names. slice_get names number.number) (characteristics_are ls s) ∙ number.here)

    marked : IsMarked all found.0 ≡ true
    marked = passes_at (IsMarked all) (model_of ls).characteristics number.number found.0 (all_marked ls s) found.1

    none : is_among (declared multiple_of all) name ≡ false
    none = unmarked_all characteristic_of multiple_of multiple_marks characteristic_add all name earlier
        (lines.Column x ∷ below) (q.passes, q.after) q.all_are
        (there, no_multiple earlier x q.passes.fit)

    by : (not (is_multiple found.0.values) ≡ true) ⊎ (is_among (declared multiple_of all) found.0.name ≡ true)
        → not (is_multiple found.0.values) ≡ true
    by (inl single) = single
    by (inr among) = absurd (let no = ap (is_among (declared multiple_of all)) found.2 ∙ none in cc)

-- a block's line is of a kind of block
block_kind : (x : BlockLine) → is_formed (lines.Block x) ≡ true → is_block_kind x.kind ≡ true
block_kind x f = (and_parts (is_upper x.name) (is_block_kind x.kind) f).1

pub keeps_kinds : (ls : List Line) → Sound [] ls → KeepsKinds (model_of ls)
keeps_kinds ls s =
    let all = backwards [] ls in
    let a = scope_of all in
    let m = model_of ls in
    record {
      dependencies = made (dependency_at a) (λ d. is_dependency d.tree) ls s
          (λ e n l b p. at_block all e a n l b (λ d. is_dependency d.tree)
          (λ x q tree h. is_one x.kind tree (block_kind x q.passes.formed) h) p);
      characteristics = made (characteristic_at a) (λ c. are_used_as m is_for_characteristic c.uses) ls s
          (λ e n l b p. at_characteristic all e a n l b (λ c. are_used_as m is_for_characteristic c.uses)
          (λ x q. uses_are places.Characteristic is_for_characteristic at_char ls (lines.Char x ∷ e) (n + 1) b s
          q.after q.all_are refl)
          (λ x q. uses_are places.Characteristic is_for_characteristic at_char ls (lines.Num x ∷ e) (n + 1) b s q.after
          q.all_are refl) p);
      values = made (characteristic_at a) (λ c. are_values_used_as m is_for_value c.values) ls s
          (λ e n l b p. at_characteristic all e a n l b (λ c. are_values_used_as m is_for_value c.values)
          (λ x q. each_said opens (text_at a) (λ v. are_used_as m is_for_value v.uses) all
          (λ e n l b p. at_text all e a n l b (λ v. are_used_as m is_for_value v.uses)
          (λ x q. uses_are places.Value is_for_value at_value ls (lines.Text x ∷ e) (n + 1) b s q.after q.all_are refl)
          p)
          (lines.Char x ∷ e) (n + 1) b q.after q.all_are)
          (λ x q. each_said opens (number_at a) (λ v. are_used_as m is_for_value v.uses) all
          (λ e n l b p. at_number all e a n l b (λ v. are_used_as m is_for_value v.uses)
          (λ x q. each_map (λ v. are_used_as m is_for_value v.uses) (number_with (uses_below a (n + 1) b))
          (entry_within x.low x.high)
          (λ entry. uses_are places.Value is_for_value at_value ls (lines.Interval x ∷ e) (n + 1) b s q.after q.all_are
          refl)) p)
          (lines.Num x ∷ e) (n + 1) b q.after q.all_are) p);
      constraints = made (net_at a) (λ net. are_used_as m is_constraint net.constraints) ls s
          (λ e n l b p. at_net all e a n l b (λ net. are_used_as m is_constraint net.constraints)
          (λ x q. uses_are places.Net is_constraint at_constraint ls (lines.Net x ∷ e) (n + 1) b s q.after q.all_are
          refl) p);
      procedures = made (object_at a) (λ o. are_used_as m is_procedure o.procedures) ls s
          (λ e n l b p. at_object all e a n l b (λ o. are_used_as m is_procedure o.procedures)
          (λ x q. uses_are places.Object is_procedure at_profile ls (lines.Object x ∷ e) (n + 1) b s q.after q.all_are
          refl) p);
      items = made (object_at a) (λ o. list_all (λ i. are_used_as m is_selection i.uses) o.bill) ls s
          (λ e n l b p. at_object all e a n l b (λ o. list_all (λ i. are_used_as m is_selection i.uses) o.bill)
          (λ x q. each_said opens (item_at a) (λ i. are_used_as m is_selection i.uses) all
          (λ e n l b p. at_item all e a n l b (λ i. are_used_as m is_selection i.uses)
          (λ x q t. uses_are places.Item is_selection at_line ls (lines.Bill x ∷ e) (n + 1) b s q.after q.all_are refl)
          p)
          (lines.Object x ∷ e) (n + 1) b q.after q.all_are) p);
      operations = made (object_at a) (λ o. list_all (λ i. are_used_as m is_selection i.uses) o.operations) ls s
          (λ e n l b p. at_object all e a n l b (λ o. list_all (λ i. are_used_as m is_selection i.uses) o.operations)
          (λ x q. each_said opens (operation_at a) (λ i. are_used_as m is_selection i.uses) all
          (λ e n l b p. at_operation all e a n l b (λ i. are_used_as m is_selection i.uses)
          (λ x q t. uses_are places.Item is_selection at_line ls (lines.Operation x ∷ e) (n + 1) b s q.after q.all_are
          refl) p)
          (lines.Object x ∷ e) (n + 1) b q.after q.all_are) p);
      columns = made (table_at a) (λ t. list_all (λ c. is_single (slice_get m.characteristics c.characteristic))
          t.columns) ls s
          (λ e n l b p. at_table all e a n l b (λ t. list_all
          (λ c. is_single (slice_get m.characteristics c.characteristic)) t.columns)
          (λ x q. each_said opens (column_at a) (λ c. is_single (slice_get m.characteristics c.characteristic)) all
          (λ e n l b p. at_column all e a n l b (λ c. is_single (slice_get m.characteristics c.characteristic))
          (λ x q. column_single ls e x b s q) p)
          (lines.Table x ∷ e) (n + 1) b q.after q.all_are) p);
    }
