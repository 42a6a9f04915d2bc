-- Numbers, values and truths that are known stay known.
use Rattle.std.proofs.Common.{◌≡◌, ℕ, ℤ, true, List, refl, sym, ◌∙◌, ap, subst}
use Rattle.std.specs.Prelude.{Option, None, Some, option_map, slice_get}
use Rattle.vc_value.specs.declared.value.Value.{Value}
use Rattle.vc_plan.specs.declared.conditions.Condition.{Condition}
use Rattle.vc_plan.specs.declared.conditions.Condition.TheVariants.{Always, Compared, IsIn, Specified, Holds, Filled}
use Rattle.vc_plan.specs.declared.conditions.Condition.TheVariants.{Not', And', Or'}
use Rattle.vc_plan.specs.declared.conditions.Kleene.{Kleene}
use Rattle.vc_plan.specs.declared.conditions.Kleene.TheVariants.{True, False, Unknown}
use Rattle.vc_plan.specs.declared.conditions.Piece.{Piece}
use Rattle.vc_plan.specs.declared.conditions.Relation.{Relation}
use Rattle.vc_plan.specs.declared.plans.Plan.{Plan}
use Rattle.vc_plan.specs.declared.terms.Operator.{Operator}
use Rattle.vc_plan.specs.declared.terms.Term.{Term}
use Rattle.vc_plan.specs.declared.terms.Term.TheVariants.{Literal, Read, PartSum, PartCount, Applied', Joined'}
use Rattle.vc_plan.specs.Kleene.{truth_of, is_true, is_false, kleene_not, kleene_and, kleene_or}
use Rattle.vc_plan.specs.Numbers.{applied, joined}
use Rattle.vc_plan.specs.Pieces.{relates, lies_in_some}
use Rattle.vc_plan.specs.Readings.{net_reading}
use Rattle.vc_plan.specs.Seen.{Seen}
use Rattle.vc_plan.specs.Truth.{number_of_value, value_of_number, number, term_value, compared, is_in, specified, truth}
use Rattle.vc_plan.specs.Truth.{truth_in, value_in_term, truth_at, value_at}

-- what the first is, the second is
abbrev pub Later : {A : Type 0} → Option A → Option A → Type 0
Later {A = A} o p = (a : A) → o ≡ Some a → p ≡ Some a

number_of_later : (o p : Option Value) → Later o p → Later (number_of_value o) (number_of_value p)
number_of_later None p f z e = absurd (cc)
number_of_later (Some a) p f z e = ap number_of_value (f a refl) ∙ e

value_of_later : (o p : Option ℤ) → Later o p → Later (value_of_number o) (value_of_number p)
value_of_later None p f a e = absurd (cc)
value_of_later (Some z) p f a e = ap value_of_number (f z refl) ∙ e

map_later : (f : ℤ → ℤ) (o p : Option ℤ) → Later o p → Later (option_map f o) (option_map f p)
map_later f None p h z e = absurd (cc)
map_later f (Some y) p h z e = ap (option_map f) (h y refl) ∙ e

joined_later : (operator : Operator) (o p x y : Option ℤ) → Later o p → Later x y
    → Later (joined operator o x) (joined operator p y)
joined_later operator None p x y f g z e = absurd (cc)
joined_later operator (Some a) p None y f g z e = absurd (cc)
joined_later operator (Some a) p (Some b) y f g z e =
    ap (λ q. joined operator q y) (f a refl) ∙ (ap (joined operator (Some a)) (g b refl) ∙ e)

-- the second of two truths is the first, if that is known
abbrev pub Sharper : Kleene → Kleene → Type 0
Sharper True l = l ≡ True
Sharper False l = l ≡ False
Sharper Unknown l = Unit {0}

pub sharper_same : (k l : Kleene) → l ≡ k → Sharper k l
sharper_same True l e = e
sharper_same False l e = e
sharper_same Unknown l e = tt

sharper_not : (k l : Kleene) → Sharper k l → Sharper (kleene_not k) (kleene_not l)
sharper_not True l e = ap kleene_not e
sharper_not False l e = ap kleene_not e
sharper_not Unknown l e = tt

and_false : (k : Kleene) → kleene_and k False ≡ False
and_false True = refl
and_false False = refl
and_false Unknown = refl

or_true : (k : Kleene) → kleene_or k True ≡ True
or_true True = refl
or_true False = refl
or_true Unknown = refl

sharper_and : (k l m n : Kleene) → Sharper k l → Sharper m n → Sharper (kleene_and k m) (kleene_and l n)
sharper_and True l m n e f = subst (λ z. Sharper m (kleene_and z n)) (sym e) f
sharper_and False l m n e f = ap (λ z. kleene_and z n) e
sharper_and Unknown l True n e f = tt
sharper_and Unknown l False n e f = ap (kleene_and l) f ∙ and_false l
sharper_and Unknown l Unknown n e f = tt

sharper_or : (k l m n : Kleene) → Sharper k l → Sharper m n → Sharper (kleene_or k m) (kleene_or l n)
sharper_or True l m n e f = ap (λ z. kleene_or z n) e
sharper_or False l m n e f = subst (λ z. Sharper m (kleene_or z n)) (sym e) f
sharper_or Unknown l True n e f = ap (kleene_or l) f ∙ or_true l
sharper_or Unknown l False n e f = tt
sharper_or Unknown l Unknown n e f = tt

pub sharper_compared : (r : Relation) (o p x y : Option Value) → Later o p → Later x y
    → Sharper (compared r o x) (compared r p y)
sharper_compared r None p x y f g = tt
sharper_compared r (Some a) p None y f g = tt
sharper_compared r (Some a) p (Some b) y f g =
    sharper_same (truth_of (relates r a b)) (compared r p y)
    (ap (λ q. compared r q y) (f a refl) ∙ ap (compared r (Some a)) (g b refl))

sharper_in : (pieces : List Piece) (o p : Option Value) → Later o p → Sharper (is_in pieces o) (is_in pieces p)
sharper_in pieces None p f = tt
sharper_in pieces (Some a) p f =
    sharper_same (truth_of (lies_in_some pieces a)) (is_in pieces p) (ap (is_in pieces) (f a refl))

sharper_specified : (o p : Option Value) → Later o p → Sharper (specified Unknown o) (specified Unknown p)
sharper_specified None p f = tt
sharper_specified (Some a) p f = ap (specified Unknown) (f a refl)

pub sharper_true : (k l : Kleene) → Sharper k l → is_true k ≡ true → is_true l ≡ true
sharper_true True l e h = ap is_true e
sharper_true False l e h = absurd (cc)
sharper_true Unknown l e h = absurd (cc)

pub sharper_false : (k l : Kleene) → Sharper k l → is_false k ≡ true → is_false l ≡ true
sharper_false True l e h = absurd (cc)
sharper_false False l e h = ap is_false e
sharper_false Unknown l e h = absurd (cc)

-- at two views of which the second has each value that the first has
module _ (s t : Seen) (later : (v : ℕ) → Later (s.value v) (t.value v)) where
  pub number_later : (term : Term) → Later (number (net_reading s) term) (number (net_reading t) term)
  number_later (Literal a) z e = e
  number_later (Read v) z e = number_of_later (s.value v) (t.value v) (later v) z e
  number_later (PartSum slot characteristic) z e = e
  number_later (PartCount slot) z e = e
  number_later (Applied' function p a) z e =
      map_later (applied function) (number (net_reading s) a) (number (net_reading t) a) (number_later a) z e
  number_later (Joined' operator p a q b) z e =
      joined_later operator (number (net_reading s) a) (number (net_reading t) a) (number (net_reading s) b)
      (number (net_reading t) b)
      (number_later a) (number_later b) z e

  pub term_later : (term : Term) → Later (term_value (net_reading s) term) (term_value (net_reading t) term)
  term_later (Literal a) x e = e
  term_later (Read v) x e = later v x e
  term_later (PartSum slot characteristic) x e = e
  term_later (PartCount slot) x e = e
  term_later (Applied' function p a) x e =
      value_of_later (number (net_reading s) (Applied' function p a)) (number (net_reading t) (Applied' function p a))
      (number_later (Applied' function p a)) x e
  term_later (Joined' operator p a q b) x e =
      value_of_later (number (net_reading s) (Joined' operator p a q b))
      (number (net_reading t) (Joined' operator p a q b))
      (number_later (Joined' operator p a q b)) x e

  pub truth_sharper : (c : Condition) → Sharper (truth (net_reading s) c) (truth (net_reading t) c)
  truth_sharper Always = refl
  truth_sharper (Compared r a b) =
      sharper_compared r (term_value (net_reading s) a) (term_value (net_reading t) a) (term_value (net_reading s) b)
      (term_value (net_reading t) b)
      (term_later a) (term_later b)
  truth_sharper (IsIn v pieces) = sharper_in pieces (s.value v) (t.value v) (later v)
  truth_sharper (Specified v) = sharper_specified (s.value v) (t.value v) (later v)
  truth_sharper (Holds set text) = tt
  truth_sharper (Filled set) = tt
  truth_sharper (Not' p c) = sharper_not (truth (net_reading s) c) (truth (net_reading t) c) (truth_sharper c)
  truth_sharper (And' p c q d) =
      sharper_and (truth (net_reading s) c) (truth (net_reading t) c) (truth (net_reading s) d)
      (truth (net_reading t) d) (truth_sharper c) (truth_sharper d)
  truth_sharper (Or' p c q d) =
      sharper_or (truth (net_reading s) c) (truth (net_reading t) c) (truth (net_reading s) d) (truth (net_reading t) d)
      (truth_sharper c) (truth_sharper d)

  truth_in_sharper : (o : Option Condition) → Sharper (truth_in (net_reading s) o) (truth_in (net_reading t) o)
  truth_in_sharper None = tt
  truth_in_sharper (Some c) = truth_sharper c

  value_in_later : (o : Option Term) → Later (value_in_term (net_reading s) o) (value_in_term (net_reading t) o)
  value_in_later None x e = e
  value_in_later (Some term) x e = term_later term x e

  -- a plan's conditions and terms
  pub truth_at_sharper : (plan : Plan) (c : ℕ)
      → Sharper (truth_at plan (net_reading s) c) (truth_at plan (net_reading t) c)
  truth_at_sharper plan c = truth_in_sharper (slice_get plan.conditions c)

  pub value_at_later : (plan : Plan) (term : ℕ)
      → Later (value_at plan (net_reading s) term) (value_at plan (net_reading t) term)
  value_at_later plan term x e = value_in_later (slice_get plan.terms term) x e
