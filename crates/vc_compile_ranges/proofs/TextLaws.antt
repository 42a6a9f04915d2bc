-- The texts that stand in dependencies are texts of the plan, so their numbers are below the count.
use Rattle.std.proofs.Common.{◌≡◌, ℕ, zero, suc, Bool, true, false, cond, not, ◌||◌, nat_lt, List, [], ◌∷◌, length}
use Rattle.std.proofs.Common.{flat_map, Option, Some, None, refl, sym, ap, ◌∙◌}
use Rattle.std.specs.Cmp.Lexicographic.{bytes_decides}
use Rattle.std.specs.Prelude.{option_map, slice_get}
use Rattle.std.specs.List.{filter, list_any, position_or_len}
use Rattle.std.specs.Str.{bytes_eq}
use Rattle.std.proofs.lemmas.Bool.{lt-ltb, not_from_false, or_left, or_right}
use Rattle.std.proofs.lemmas.List.Folds.{list_any-append}
use Rattle.std.proofs.lemmas.Option.{slice_get_within}
use Rattle.vc_model_parts.specs.declared.parts.Model.{Model}
use Rattle.vc_model_parts.specs.declared.parts.NamedDependency.{NamedDependency}
use Rattle.vc_syntax_tree.specs.Trees.{Dependency, dependency_of}
use Rattle.vc_compile_plan.specs.Layouts.{tree_of}
use Rattle.vc_compile_plan.specs.Texts.{each_once, is_text_of, named_texts, text_number, texts_in, texts_of}
use Rattle.vc_compile_plan.specs.Texts.{unlisted_texts}
use Rattle.vc_compile_valid.proofs.EachLaws.{Each, each_more}
use Rattle.vc_compile_valid.proofs.NamedLaws.{each_among, first_found}

-- a text whose number is that of a text
abbrev pub IsNumbered : Model → List ℕ → Type 0
IsNumbered model text = nat_lt (text_number (texts_of model) text) (length (texts_of model)) ≡ true

-- what passes of a list is among what is left of it, where it passes
any_kept : {X : Type 0} (p q : X → Bool) (xs : List X) → ((x : X) → p x ≡ true → q x ≡ true) → list_any p xs ≡ true
    → list_any p (filter q xs) ≡ true
any_kept p q [] of h = absurd (cc)
any_kept {X = X} p q (x ∷ xs) of h = by (p x) refl h (q x) refl (λ k. any_kept p q xs of k)
  where
    by : (a : Bool) → p x ≡ a → (a || list_any p xs) ≡ true → (b : Bool) → q x ≡ b
        → (list_any p xs ≡ true → list_any p (filter q xs) ≡ true)
        → list_any p (cond b (x ∷ filter q xs) (filter q xs)) ≡ true
    by true e k true f later = or_left (p x) (list_any p (filter q xs)) e
    by true e k false f later = absurd (let both : true ≡ false = sym (of x e) ∙ f in cc)
    by false e k true f later = or_right (p x) (list_any p (filter q xs)) (later k)
    by false e k false f later = later k

-- and of what is made of one of a list is among all that is made
any_flat : {X Y : Type 0} (p : Y → Bool) (f : X → List Y) (xs : List X) (k : ℕ) (x : X) → slice_get xs k ≡ Some x
    → list_any p (f x) ≡ true → list_any p (flat_map f xs) ≡ true
any_flat p f [] k x e h = absurd (cc)
any_flat p f (y ∷ xs) zero x e h =
    let same : y ≡ x = cc in
    list_any-append p (f y) (flat_map f xs) ∙ or_left (list_any p (f y)) (list_any p (flat_map f xs))
    (ap (λ z. list_any p (f z)) same ∙ h)
any_flat p f (y ∷ xs) (suc k) x e h =
    list_any-append p (f y) (flat_map f xs) ∙ or_right (list_any p (f y)) (list_any p (flat_map f xs))
    (any_flat p f xs k x e h)

once_has : (xs : List (List ℕ)) (x : List ℕ) → is_text_of xs x ≡ true → is_text_of (each_once xs) x ≡ true
once_has [] x h = absurd (cc)
once_has (t ∷ xs) x h = by (bytes_eq t x) refl h (λ k. once_has xs x k)
  where
    rest : List (List ℕ)
    rest = filter (λ other. not (bytes_eq t other)) (each_once xs)

    by : (b : Bool) → bytes_eq t x ≡ b → (b || is_text_of xs x) ≡ true
        → (is_text_of xs x ≡ true → is_text_of (each_once xs) x ≡ true)
        → is_text_of (each_once (t ∷ xs)) x ≡ true
    by true e k later = or_left (bytes_eq t x) (is_text_of rest x) e
    by false e k later =
        or_right (bytes_eq t x) (is_text_of rest x)
        (any_kept (λ other. bytes_eq other x) (λ other. not (bytes_eq t other)) (each_once xs)
        (λ y same. not_from_false (bytes_eq t y) (ap (bytes_eq t) ((bytes_decides y x).0 same) ∙ e)) (later k))

-- a text that a dependency names is one of the plan's
named_has : (model : Model) (x : List ℕ) → is_text_of (named_texts model) x ≡ true
    → is_text_of (texts_of model) x ≡ true
named_has model x h = list_any-append (λ other. bytes_eq other x) model.texts (unlisted_texts model) ∙ by
    (is_text_of model.texts x) refl
  where
    by : (b : Bool) → is_text_of model.texts x ≡ b
        → (is_text_of model.texts x || is_text_of (unlisted_texts model) x) ≡ true
    by true e = or_left (is_text_of model.texts x) (is_text_of (unlisted_texts model) x) e
    by false e =
        or_right (is_text_of model.texts x) (is_text_of (unlisted_texts model) x)
        (once_has (filter (λ text. not (is_text_of model.texts text)) (named_texts model)) x
        (any_kept (λ other. bytes_eq other x) (λ text. not (is_text_of model.texts text)) (named_texts model)
        (λ y same. not_from_false (is_text_of model.texts y)
        (ap (is_text_of model.texts) ((bytes_decides y x).0 same) ∙ e)) h))

numbered : (model : Model) (x : List ℕ) → is_text_of (texts_of model) x ≡ true → IsNumbered model x
numbered model x h =
    let number = position_or_len (λ other. bytes_eq other x) (texts_of model) in
    let found = first_found (λ other. bytes_eq other x) (texts_of model) h in
    lt-ltb number (length (texts_of model)) (slice_get_within (texts_of model) number found.0 found.1)

pub texts_numbered : (model : Model) (d : ℕ) (tree : Dependency) → tree_of model d ≡ Some tree
    → Each (IsNumbered model) (texts_in tree)
texts_numbered model d tree e = by (slice_get model.dependencies d) refl
  where
    itself : (x : List ℕ) → bytes_eq x x ≡ true
    itself x = (bytes_decides x x).1 refl

    by : (o : Option NamedDependency) → slice_get model.dependencies d ≡ o → Each (IsNumbered model) (texts_in tree)
    by None f = absurd (let gone : None ≡ Some tree = sym (ap (option_map (λ named. dependency_of named.tree)) f)
        ∙ e in cc)
    by (Some x) f =
        let same : Some (dependency_of x.tree) ≡ Some tree = sym (ap (option_map (λ named. dependency_of named.tree)) f)
        ∙ e in
        let one : dependency_of x.tree ≡ tree = cc in
        each_more (λ text. list_any (λ other. bytes_eq other text) (texts_in tree) ≡ true) (IsNumbered model)
        (λ text h. numbered model text (named_has model text
        (any_flat (λ other. bytes_eq other text) (λ named. texts_in (dependency_of named.tree)) model.dependencies d x f
        (ap (λ t. list_any (λ other. bytes_eq other text) (texts_in t)) one ∙ h))))
        (texts_in tree) (each_among (λ text other. bytes_eq other text) itself (texts_in tree))
