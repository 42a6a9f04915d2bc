-- How the parts of a response are put together.
use Rattle.std.proofs.Common.{◌≡◌, ℕ, ◌+◌, ◌<◌, List, [], ◌∷◌, ◌++◌, length, drop, get_or, ap, sym, refl, ◌∙◌}
use Rattle.std.proofs.Common.{append_assoc}
use Rattle.std.specs.Prelude.{Option, codes, flat_map}
use Rattle.std.specs.Fmt.{decimal, digits}
use Rattle.std.specs.Io.KnownBytes.{Appends}
use Rattle.std.proofs.KnownBytes.{Appends-trans}
use Rattle.std.proofs.lemmas.List.{at_drop_more}
use Rattle.vc_outside.specs.Sinks.{AppendsFront}
use Rattle.vc_outside.proofs.Pieces.{Written}
use Rattle.vc_http_responses.specs.Responses.{head_with}

pub length_22 : decimal 22 ≡ codes "22"
unfolding digits
length_22 = refl

pub length_23 : decimal 23 ≡ codes "23"
unfolding digits
length_23 = refl

pub ruleset bad_length = (length_22, length_23)

pub nothing_behind : (xs : List ℕ) → xs ++ [] ≡ xs
nothing_behind [] = refl
nothing_behind (x ∷ xs) = ap (λ rest. x ∷ rest) (nothing_behind xs)

before_body : (a b c d e f g h body : List ℕ)
    → (a ++ (b ++ (c ++ (d ++ (e ++ (f ++ (g ++ h))))))) ++ body
    ≡ a ++ (b ++ (c ++ (d ++ (e ++ (f ++ (g ++ (h ++ body)))))))
before_body a b c d e f g h body = simp append_assoc

-- the eight texts of a head and a body, as they are sent
pub bad_texts : (a b c d e f g h body : List ℕ)
    → a ++ (b ++ (c ++ (d ++ (e ++ (f ++ (g ++ (h ++ (body ++ []))))))))
    ≡ (a ++ (b ++ (c ++ (d ++ (e ++ (f ++ (g ++ h))))))) ++ body
bad_texts a b c d e f g h body =
    ap (λ last. a ++ (b ++ (c ++ (d ++ (e ++ (f ++ (g ++ (h ++ last)))))))) (nothing_behind body)
    ∙ sym (before_body a b c d e f g h body)

-- the text at hand, and those after it
next_text : {X : Type 0} (texts : List X) (f : X → List ℕ) (i : ℕ) (d : X) → i < length texts
    → flat_map f (drop i texts) ≡ f (get_or texts i d) ++ flat_map f (drop (i + 1) texts)
next_text texts f i d inside = at_drop_more (λ ts. flat_map f ts) texts i d inside

-- one text more is sent
pub texts_more : {X : Type 0} (texts : List X) (f : X → List ℕ) (i : ℕ) (d : X) → i < length texts
    → (old now new : Option (List ℕ))
    → Written old now (flat_map f texts) (flat_map f (drop i texts)) → Appends now new (f (get_or texts i d))
    → Written old new (flat_map f texts) (flat_map f (drop (i + 1) texts))
texts_more texts f i d inside old now new (front, all, so_far) more = (
  front ++ f (get_or texts i d),
  all ∙ ap (λ rest. front ++ rest) (next_text texts f i d inside)
      ∙ sym (append_assoc front (f (get_or texts i d)) (flat_map f (drop (i + 1) texts))),
  Appends-trans old now new front (f (get_or texts i d)) so_far more,
)

-- or a front of it
pub texts_cut : {X : Type 0} (texts : List X) (f : X → List ℕ) (i : ℕ) (d : X) → i < length texts
    → (old now new : Option (List ℕ))
    → Written old now (flat_map f texts) (flat_map f (drop i texts)) → AppendsFront now new (f (get_or texts i d))
    → AppendsFront old new (flat_map f texts)
texts_cut texts f i d inside old now new (front, all, so_far) (part, rest, cut, more) =
    let later = flat_map f (drop (i + 1) texts) in (
      front ++ part,
      rest ++ later,
      all ∙ ap (λ bytes. front ++ bytes) (next_text texts f i d inside ∙ ap (λ bytes. bytes ++ later) cut
          ∙ append_assoc part rest later) ∙ sym (append_assoc front part (rest ++ later)),
      Appends-trans old now new front part so_far more,
    )

pub same_parts : (status size allow body : List ℕ) (phrase length_text methods text connection : List ℕ)
    → status ≡ phrase → size ≡ length_text → allow ≡ methods → body ≡ text
    → head_with status size allow connection ++ body ≡ head_with phrase length_text methods connection ++ text
same_parts status size allow body phrase length_text methods text connection p q r s =
    λ i. head_with (p i) (q i) (r i) connection ++ s i
