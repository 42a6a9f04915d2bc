-- The texts of a plan are its model's and, behind them, what else its dependencies name.
use Rattle.std.proofs.Common.{◌≡◌, ℕ, zero, suc, Bool, true, not, nat_lt, List, [], ◌∷◌, ◌++◌, length}
use Rattle.std.proofs.Common.{Some, refl, sym, ap, ◌∙◌}
use Rattle.std.specs.Prelude.{slice_get}
use Rattle.std.specs.List.{filter, list_all, list_any}
use Rattle.std.specs.Str.{bytes_eq, is_utf8}
use Rattle.std.proofs.lemmas.Bool.{and_parts, and_from}
use Rattle.std.proofs.lemmas.List.Folds.{list_all-map}
use Rattle.std.proofs.lemmas.Str.{IsUtf8-from_is_utf8, is_utf8-from_IsUtf8}
use Rattle.vc_value.specs.Words.{same_bytes}
use Rattle.vc_model_parts.specs.Headers.{domain_of}
use Rattle.vc_model_parts.specs.declared.parts.Model.{Model}
use Rattle.vc_model_parts.specs.declared.parts.Values.{Values}
use Rattle.vc_model_parts.specs.declared.parts.Values.TheVariants as values
use Rattle.vc_model_drafts.specs.Seen.{seen_dependency, seen_model}
use Rattle.vc_model_laws.specs.Indices.{are_texts_there}
use Rattle.vc_model_laws.specs.Keeps.{Keeps}
use Rattle.vc_model_laws.proofs.HeadersLaws.{there}
use Rattle.vc_model_laws.proofs.SpelledLaws.{spelled_keeps_all}
use Rattle.vc_model_laws.proofs.TextsLaws.{passes_at, weaker}
use Rattle.vc_plan.specs.Domains.{texts_in}
use Rattle.vc_plan.specs.Orders.{are_apart}
use Rattle.vc_plan.specs.Spelling.{has_control, is_graphic, is_text}
use Rattle.vc_plan.specs.declared.plans.Plan.{Plan}
use Rattle.vc_syntax_tree.specs.Trees.{dependency_of}
use Rattle.vc_tree_laws.specs.Literals.{is_literal, KeepsLiterals}
use Rattle.vc_tree_laws.proofs.ModelTreeLaws as trees
use Rattle.vc_compile_plan.specs.PlanOf.{IsPlanOf}
use Rattle.vc_compile_plan.specs.Tables.{characteristic_from}
use Rattle.vc_compile_plan.specs.Texts.{each_once, is_text_of, named_texts, texts_in as texts_in_tree, texts_of}
use Rattle.vc_compile_plan.specs.Texts.{unlisted_texts}
use Rattle.vc_table.specs.declared.table.VariantTable.{VariantTable}
use Rattle.vc_compile_laws.specs.Compiles.{CompiledKeeps}
use Rattle.vc_compile_laws.specs.Words.{HasTexts}
use Rattle.vc_compile_valid.proofs.ListLaws.{all_flat, all_joined, all_left, apart_joined, apart_left, from_each}
use Rattle.vc_compile_valid.proofs.ListLaws.{left_pass, none_from}

-- of a list each once
all_once : (p : List ℕ → Bool) (xs : List (List ℕ)) → list_all p xs ≡ true → list_all p (each_once xs) ≡ true
all_once p [] h = refl
all_once p (x ∷ xs) h =
    let parts = and_parts (p x) (list_all p xs) h in
    let test : List ℕ → Bool = λ other. not (bytes_eq x other) in
    and_from (p x) (list_all p (filter test (each_once xs))) parts.0
    (all_left p test (each_once xs) (all_once p xs parts.1))

once_apart : (xs : List (List ℕ)) → are_apart same_bytes (each_once xs) ≡ true
once_apart [] = refl
once_apart (x ∷ xs) =
    let test : List ℕ → Bool = λ other. not (bytes_eq x other) in
    and_from (not (list_any (same_bytes x) (filter test (each_once xs))))
    (are_apart same_bytes (filter test (each_once xs)))
    (none_from (same_bytes x) (filter test (each_once xs)) (left_pass test (each_once xs)))
    (apart_left same_bytes test (each_once xs) (once_apart xs))

-- what the dependencies name passes what their texts do
unlisted_pass : (model : Model) (p : List ℕ → Bool) → list_all p (named_texts model) ≡ true
    → list_all p (unlisted_texts model) ≡ true
unlisted_pass model p h =
    let test : List ℕ → Bool = λ text. not (is_text_of model.texts text) in
    all_once p (filter test (named_texts model)) (all_left p test (named_texts model) h)

literals : (model : Model) → KeepsLiterals (seen_model model) → list_all is_literal (unlisted_texts model) ≡ true
literals model keeps =
    unlisted_pass model is_literal
    (all_flat is_literal (λ named. texts_in_tree (dependency_of named.tree)) model.dependencies
    (sym (list_all-map (λ d. list_all is_literal (texts_in_tree d.tree)) seen_dependency model.dependencies)
    ∙ keeps.literals))

pub all_texts : (model : Model) (p : List ℕ → Bool) → ((t : List ℕ) → is_literal t ≡ true → p t ≡ true)
    → KeepsLiterals (seen_model model) → list_all p model.texts ≡ true → list_all p (texts_of model) ≡ true
all_texts model p of keeps h =
    all_joined p model.texts (unlisted_texts model) h
    (weaker is_literal p (unlisted_texts model) of (literals model keeps))

texts_apart : (model : Model) → are_apart same_bytes model.texts ≡ true → are_apart same_bytes (texts_of model) ≡ true
texts_apart model h =
    let test : List ℕ → Bool = λ text. not (is_text_of model.texts text) in
    apart_joined same_bytes model.texts (unlisted_texts model) h (once_apart (filter test (named_texts model)))
    (all_once test (filter test (named_texts model)) (left_pass test (named_texts model)))

-- a number of one of the first is that of the same in all
pub front : {X : Type 0} (xs ys : List X) (k : ℕ) (x : X) → slice_get xs k ≡ Some x → slice_get (xs ++ ys) k ≡ Some x
front [] ys k x e = absurd (cc)
front (y ∷ xs) ys zero x e = e
front (y ∷ xs) ys (suc k) x e = front xs ys k x e

-- texts that a characteristic lists have no control characters
graphic_in : (model : Model) → Keeps (seen_model model) → (v : Values)
    → are_texts_there (length model.texts) v ≡ true
    → list_all (λ t. is_graphic (slice_get (texts_of model) t)) (texts_in (Some (domain_of v))) ≡ true
graphic_in model keeps (values.Texts size multiple listed) h =
    list_all-map (λ t. is_graphic (slice_get (texts_of model) t)) (λ value. value.text) listed
    ∙ weaker (λ value. nat_lt value.text (length model.texts))
    (λ value. is_graphic (slice_get (texts_of model) value.text)) listed
    (λ value inside.
    let found = there model.texts value.text inside in
    ap is_graphic (front model.texts (unlisted_texts model) value.text found.0 found.1)
    ∙ passes_at (λ text. not (has_control text)) model.texts value.text found.0 keeps.texts.graphic found.1)
    h
graphic_in model keeps (values.Numbers decimals unit listed) h = refl

texts : (model : Model) (tables : List VariantTable) (plan : Plan) → Keeps (seen_model model)
    → KeepsLiterals (seen_model model)
    → IsPlanOf model tables plan → HasTexts plan
texts model tables plan keeps trees is = record {
  texts = ap (list_all is_text) is.texts
      ∙ all_texts model is_text (λ t h. (and_parts (is_text t) (is_utf8 t) h).0) trees keeps.texts.texts;
  utf8 = λ t text e. IsUtf8-from_is_utf8 text (passes_at is_utf8 (texts_of model) t text
      (all_texts model is_utf8 (λ t h. (and_parts (is_text t) (is_utf8 t) h).1) trees
      (from_each is_utf8 model.texts (λ k x f. is_utf8-from_IsUtf8 x (keeps.texts.utf8 k x f))))
      (sym (ap (λ xs. slice_get xs t) is.texts) ∙ e));
  listed_texts = ap (λ ts. list_all (λ c. list_all (λ t. is_graphic (slice_get ts t)) (texts_in (Some c.list)))
      plan.characteristics) is.texts
      ∙ ap (list_all (λ c. list_all (λ t. is_graphic (slice_get (texts_of model) t)) (texts_in (Some c.list))))
      is.characteristics
      ∙ list_all-map (λ c. list_all (λ t. is_graphic (slice_get (texts_of model) t)) (texts_in (Some c.list)))
      characteristic_from model.characteristics
      ∙ weaker (λ c. are_texts_there (length model.texts) c.values)
      (λ c. list_all (λ t. is_graphic (slice_get (texts_of model) t)) (texts_in (Some (domain_of c.values))))
      model.characteristics
      (λ c h. graphic_in model keeps c.values h) keeps.indices.texts;
  texts_once = ap (are_apart same_bytes) is.texts ∙ texts_apart model keeps.names.texts_once;
}

pub has_texts : CompiledKeeps HasTexts
has_texts text model tables plan spells read compiles =
    texts model tables plan (spelled_keeps_all text (seen_model model) spells)
    (trees.spelled_keeps_literals text (seen_model model) spells) compiles.is_its
