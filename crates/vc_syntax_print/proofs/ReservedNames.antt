-- A word that is found among the reserved ones is spelled as it.
use Rattle.std.proofs.Common.{◌≡◌, ℕ, Bool, true, false, cond, List, [], ◌∷◌, Option, Some, refl, subst}
use Rattle.std.specs.List.{find}
use Rattle.std.specs.Str.{bytes_eq}
use Rattle.std.proofs.lemmas.Slice.Eq.{bytes_eq-Decides}
use Rattle.vc_syntax_tokens.specs.declared.token.Reserved.{Reserved}
use Rattle.vc_syntax_tokens.specs.Spellings.{reserved_of, reserved_spelling, reserved_words}

found_by : {X : Type 0} (p : X → Bool) (x y : X) (b : Bool) (rest : Option X) → p x ≡ b → (rest ≡ Some y → p y ≡ true)
    → cond b (Some x) rest ≡ Some y → p y ≡ true
found_by p x y true rest e h k = let q : x ≡ y = cc in subst (λ z. p z ≡ true) q e
found_by p x y false rest e h k = h k

found_holds : {X : Type 0} (p : X → Bool) (xs : List X) (y : X) → find p xs ≡ Some y → p y ≡ true
found_holds p [] y k = absurd (cc)
found_holds p (x ∷ xs) y k = found_by p x y (p x) (find p xs) refl (found_holds p xs y) k

pub reserved_is : (word : List ℕ) (r : Reserved) → reserved_of word ≡ Some r → reserved_spelling r ≡ word
reserved_is word r h =
    (bytes_eq-Decides (reserved_spelling r) word).0
    (found_holds (λ w. bytes_eq (reserved_spelling w) word) reserved_words r h)
