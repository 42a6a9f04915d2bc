-- Texts that grow by others, each unless it is there, are followed by those others, each once.
use Rattle.std.proofs.Common.{◌≡◌, ◌+◌, ℕ, suc, Bool, true, false, cond, not, ◌&&◌, ◌||◌, List, [], ◌∷◌, ◌++◌, length}
use Rattle.std.proofs.Common.{refl, sym, ap, ◌∙◌, nat_lt, is_some, arith, Option, Some, None, if◌then◌else◌}
use Rattle.std.specs.List.{filter, list_any, position, position_or_len}
use Rattle.std.specs.Option.{option_or}
use Rattle.std.specs.Str.{bytes_eq}
use Rattle.std.specs.Bool.{Decides}
use Rattle.std.proofs.lemmas.Bool.Decides.{nat_tests}
use Rattle.std.proofs.lemmas.List.{append_assoc, append-nil}
use Rattle.std.proofs.lemmas.List.Folds.{list_any-append}
use Rattle.std.proofs.lemmas.Slice.Eq.{bytes_eq-Decides}
use Rattle.vc_model_parts.specs.declared.parts.Model.{Model}
use Rattle.vc_compile_plan.specs.Texts.{is_text_of, each_once, named_texts, texts_of}
use Rattle.vc_types_names.proofs.NameLemmas.{place_push}
use Rattle.vc_compile_uses.specs.Growing.{with_text, with_texts}

-- what passes two tests, one after the other
pub filter_both : {X : Type 0} (p q both : X → Bool) → ((x : X) → both x ≡ (p x && q x))
    → (xs : List X) → filter both xs ≡ filter q (filter p xs)
filter_both p q both same [] = refl
filter_both p q both same (x ∷ xs) =
    ap (λ b. cond b (x ∷ filter both xs) (filter both xs)) (same x) ∙ by (p x) (filter_both p q both same xs)
  where
    by : (b : Bool) → filter both xs ≡ filter q (filter p xs)
        → cond (b && q x) (x ∷ filter both xs) (filter both xs) ≡ filter q (cond b (x ∷ filter p xs) (filter p xs))
    by true rest = ap (λ zs. cond (q x) (x ∷ zs) zs) rest
    by false rest = rest

pub and_swap : (a b : Bool) → (a && b) ≡ (b && a)
and_swap true true = refl
and_swap true false = refl
and_swap false true = refl
and_swap false false = refl

pub filter_swap : {X : Type 0} (p q : X → Bool) (xs : List X) → filter p (filter q xs) ≡ filter q (filter p xs)
filter_swap p q xs =
    sym (filter_both q p (λ x. p x && q x) (λ x. and_swap (p x) (q x)) xs)
    ∙ filter_both p q (λ x. p x && q x) (λ x. refl) xs

-- the texts that equal one that a test drops are dropped too
dropped : (q : List ℕ → Bool) (x other : List ℕ) → q x ≡ false → q other ≡ (not (bytes_eq x other) && q other)
dropped q x other fails = by (bytes_eq x other) (bytes_eq-Decides x other)
  where
    by : (b : Bool) → Decides b (x ≡ other) → q other ≡ (not b && q other)
    by true told = ap q (sym (told.0 refl)) ∙ fails
    by false told = refl

-- a test before or after doubles are left out
each_once_filter : (q : List ℕ → Bool) (xs : List (List ℕ)) → each_once (filter q xs) ≡ filter q (each_once xs)
each_once_filter q [] = refl
each_once_filter q (x ∷ xs) = by (q x) refl (each_once_filter q xs)
  where
    others : List (List ℕ) → List (List ℕ)
    others texts = filter (λ other. not (bytes_eq x other)) texts

    by : (b : Bool) → q x ≡ b → each_once (filter q xs) ≡ filter q (each_once xs)
        → each_once (cond b (x ∷ filter q xs) (filter q xs))
        ≡ cond b (x ∷ filter q (others (each_once xs))) (filter q (others (each_once xs)))
    by true is rest =
        ap (λ texts. x ∷ others texts) rest
        ∙ ap (λ texts. x ∷ texts) (filter_swap (λ other. not (bytes_eq x other)) q (each_once xs))
    by false is rest =
        rest ∙ filter_both (λ other. not (bytes_eq x other)) q q (λ other. dropped q x other is) (each_once xs)

-- what is new, once a text more is known
pub or_none : (a b : Bool) → not (a || (b || false)) ≡ (not a && not b)
or_none true b = refl
or_none false true = refl
or_none false false = refl

still_new : (known : List (List ℕ)) (text other : List ℕ)
    → not (is_text_of (known ++ text ∷ []) other) ≡ (not (is_text_of known other) && not (bytes_eq text other))
still_new known text other =
    ap not (list_any-append (λ one. bytes_eq one other) known (text ∷ []))
    ∙ or_none (is_text_of known other) (bytes_eq text other)

pub new_texts : (known more : List (List ℕ))
    → with_texts known more ≡ known ++ each_once (filter (λ text. not (is_text_of known text)) more)
new_texts known [] = sym (append-nil known)
new_texts known (text ∷ more) = by (is_text_of known text) (new_texts known more) (new_texts (known ++ text ∷ []) more)
  where
    fresh : List (List ℕ) → List (List ℕ)
    fresh texts = filter (λ other. not (is_text_of known other)) texts

    by : (b : Bool) → with_texts known more ≡ known ++ each_once (fresh more)
        → with_texts (known ++ text ∷ []) more
        ≡ (known ++ text ∷ []) ++ each_once (filter (λ other. not (is_text_of (known ++ text ∷ []) other)) more)
        → with_texts (cond b known (known ++ text ∷ [])) more
        ≡ known ++ each_once (cond (not b) (text ∷ fresh more) (fresh more))
    by true listed unlisted = listed
    by false listed unlisted =
        unlisted ∙ append_assoc known (text ∷ []) _
        ∙ ap (λ texts. known ++ text ∷ texts)
        (ap each_once
        (filter_both (λ other. not (is_text_of known other)) (λ other. not (bytes_eq text other)) _
        (still_new known text) more)
        ∙ each_once_filter (λ other. not (bytes_eq text other)) (fresh more))

-- a text has a place where it is there
place_later : (b : Bool) (k n : ℕ) (later : Bool) → nat_lt k n ≡ later
    → nat_lt (cond (not b) (1 + k) 0) (suc n) ≡ (b || later)
place_later true k n later e = grind (arith, nat_tests)
place_later false k n later e = next k n ∙ e
  where
    next : (k n : ℕ) → nat_lt (1 + k) (suc n) ≡ nat_lt k n
    next k n = grind (arith, nat_tests)

has_place : {X : Type 0} (p : X → Bool) (xs : List X) → nat_lt (position_or_len p xs) (length xs) ≡ list_any p xs
has_place p [] = refl
has_place p (x ∷ xs) = place_later (p x) (position_or_len p xs) (length xs) (list_any p xs) (has_place p xs)

has_number : (b : Bool) (n : ℕ) → is_some (cond b (Some n) None) ≡ b
has_number true n = refl
has_number false n = refl

pub is_known : (found : Option ℕ) (texts : List (List ℕ)) (text : List ℕ)
    → found ≡ position (λ other. bytes_eq other text) texts → is_some found ≡ is_text_of texts text
is_known found texts text is = ap is_some is ∙ has_number _ _ ∙ has_place (λ other. bytes_eq other text) texts

pub with_new : (texts : List (List ℕ)) (text : List ℕ)
    → is_text_of texts text ≡ false → with_text texts text ≡ texts ++ text ∷ []
with_new texts text new = ap (λ b. cond b texts (texts ++ text ∷ [])) new

pub with_known : (texts : List (List ℕ)) (text : List ℕ) → is_text_of texts text ≡ true → with_text texts text ≡ texts
with_known texts text known = ap (λ b. cond b texts (texts ++ text ∷ [])) known

-- the numbers with a text more
pub numbered_more : (after before : Option ℕ) (texts grown : List (List ℕ)) (text word other : List ℕ) (number : ℕ)
    → after ≡ option_or before (if bytes_eq text other then Some number else None)
    → before ≡ position (λ one. bytes_eq one other) texts
    → number ≡ length texts → word ≡ text → grown ≡ texts ++ word ∷ []
    → after ≡ position (λ one. bytes_eq one other) grown
numbered_more after before texts grown text word other number added so_far count same is =
    added ∙ ap (λ o. option_or o (if bytes_eq text other then Some number else None)) so_far
    ∙ ap (λ n. option_or (position (λ one. bytes_eq one other) texts)
    (if bytes_eq text other then Some n else None)) count
    ∙ sym (place_push (λ one. bytes_eq one other) texts text)
    ∙ ap (λ w. position (λ one. bytes_eq one other) (texts ++ w ∷ [])) (sym same)
    ∙ ap (position (λ one. bytes_eq one other)) (sym is)

-- all texts of a model, where those of its values stand first
pub texts_are : (model : Model) (valued named all : List (List ℕ))
    → valued ≡ model.texts → named ≡ named_texts model → all ≡ with_texts valued named → all ≡ texts_of model
texts_are model valued named all first others is =
    is ∙ ap (λ texts. with_texts texts named) first ∙ ap (with_texts model.texts) others
    ∙ new_texts model.texts (named_texts model)
