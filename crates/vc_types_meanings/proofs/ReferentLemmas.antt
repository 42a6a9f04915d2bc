-- What variables stand for, in lists that grow.
use Rattle.std.proofs.Common.{◌≡◌, ℕ, suc, ◌+◌, ◌<◌, Bool, true, false, cond, List, [], ◌∷◌, ◌++◌, length, get_or, drop}
use Rattle.std.proofs.Common.{map, refl, sym, ap, ◌∙◌, arith, Option, Some, None, if◌then◌else◌, flat_map}
use Rattle.std.proofs.Math.Seq.{drop-cons}
use Rattle.std.specs.Option.{option_or}
use Rattle.std.specs.Str.{bytes_eq}
use Rattle.vc_types.specs.Meanings.{Variable, referent_of, variable_named}
use Rattle.vc_types.specs.declared.meaning.Referent.{Referent}
use Rattle.vc_types_meanings.specs.Referents.{referent_among}

pub or_again : {V : Type 0} (a b c : Option V) → option_or (option_or a b) c ≡ option_or a (option_or b c)
or_again None b c = refl
or_again (Some x) b c = refl

referent_cons : (variable : Variable) (variables : List Variable) (name : List ℕ)
    → referent_among (variable ∷ variables) name
    ≡ option_or (if bytes_eq variable.name name then Some variable.referent else None) (referent_among variables name)
referent_cons variable variables name = by (bytes_eq variable.name name)
  where
    by : (b : Bool) → referent_of (cond b (Some variable) (variable_named variables name))
        ≡ option_or (if b then Some variable.referent else None) (referent_among variables name)
    by true = refl
    by false = refl

pub referent_join : (first second : List Variable) (name : List ℕ)
    → referent_among (first ++ second) name ≡ option_or (referent_among first name) (referent_among second name)
referent_join [] second name = refl
referent_join (variable ∷ variables) second name =
    referent_cons variable (variables ++ second) name
    ∙ ap (option_or (if bytes_eq variable.name name then Some variable.referent else None))
    (referent_join variables second name)
    ∙ sym (or_again (if bytes_eq variable.name name then Some variable.referent else None)
    (referent_among variables name) (referent_among second name))
    ∙ ap (λ o. option_or o (referent_among second name)) (sym (referent_cons variable variables name))

-- a variable that is added in front of those to come
pub added : (variable : Variable) (variables : List Variable) (name : List ℕ) (before after : Option Referent)
    → after ≡ option_or before (if bytes_eq variable.name name then Some variable.referent else None)
    → option_or after (referent_among variables name) ≡ option_or before (referent_among (variable ∷ variables) name)
added variable variables name before after is =
    ap (λ o. option_or o (referent_among variables name)) is
    ∙ or_again before (if bytes_eq variable.name name then Some variable.referent else None)
    (referent_among variables name)
    ∙ ap (option_or before) (sym (referent_cons variable variables name))

-- the variables of a list of things, of which those from one on are to come
pub next_added : {X : Type 0} (f : X → List Variable) (xs : List X) (i : ℕ) (x : X) (name : List ℕ)
    (before after : Option Referent)
    → i < length xs → x ≡ get_or xs i x → after ≡ option_or before (referent_among (f x) name)
    → option_or after (referent_among (flat_map f (drop (i + 1) xs)) name)
    ≡ option_or before (referent_among (flat_map f (drop i xs)) name)
next_added f xs i x name before after inside is grown =
    let next : i + 1 ≡ suc i = omega arith in
    let rest = flat_map f (drop (i + 1) xs) in
    let split : drop i xs ≡ x ∷ drop (i + 1) xs
    = drop-cons xs i x inside ∙ ap (λ e. e ∷ drop (suc i) xs) (sym is) ∙ ap (λ n. x ∷ drop n xs) (sym next) in
    ap (λ o. option_or o (referent_among rest name)) grown
    ∙ or_again before (referent_among (f x) name) (referent_among rest name)
    ∙ ap (option_or before) (sym (referent_join (f x) rest name))
    ∙ ap (λ list. option_or before (referent_among (flat_map f list) name)) (sym split)

-- the same of one variable each
pub next_one_added : {X : Type 0} (f : X → Variable) (xs : List X) (i : ℕ) (x : X) (name : List ℕ)
    (before after : Option Referent)
    → i < length xs → x ≡ get_or xs i x
    → after ≡ option_or before (if bytes_eq (f x).name name then Some (f x).referent else None)
    → option_or after (referent_among (map f (drop (i + 1) xs)) name)
    ≡ option_or before (referent_among (map f (drop i xs)) name)
next_one_added f xs i x name before after inside is grown =
    let next : i + 1 ≡ suc i = omega arith in
    let split : drop i xs ≡ x ∷ drop (i + 1) xs
    = drop-cons xs i x inside ∙ ap (λ e. e ∷ drop (suc i) xs) (sym is) ∙ ap (λ n. x ∷ drop n xs) (sym next) in
    added (f x) (map f (drop (i + 1) xs)) name before after grown
    ∙ ap (λ list. option_or before (referent_among (map f list) name)) (sym split)
