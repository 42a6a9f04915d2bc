-- Where standings stand: each but the first below one before it, for a line that this one's object has, and in
-- preorder.
use Rattle.std.proofs.Common.{◌≡◌, ℕ, zero, suc, ◌+◌, ◌<◌, ◌≤◌, List, [], ◌∷◌, ◌++◌, length, Option, Some, None, refl}
use Rattle.std.proofs.Common.{sym, ap, ◌∙◌, arith, subst, append-nil}
use Rattle.std.specs.Prelude.{slice_get, option_map}
use Rattle.std.proofs.lemmas.Option.{slice_get-map}
use Rattle.vc_model_parts.specs.declared.parts.BillItem.{BillItem}
use Rattle.vc_model_parts.specs.declared.parts.Model.{Model}
use Rattle.vc_compile_plan.specs.declared.standings.Standing.{Standing}
use Rattle.vc_compile_plan.specs.Slots.{bill_of, for_line, for_lines, object_in, slot_of, slots_of, standings_from}
use Rattle.vc_compile_plan.specs.Slots.{standings_of}
use Rattle.vc_compile_valid.proofs.NumberingLaws.{StandFrom, first_of_more, renumber, rest_of_more}

-- each has this, by its number; the first has this number
abbrev pub EachFrom : {X : Type 0} → (ℕ → X → Type 0) → ℕ → List X → Type 0
EachFrom P n [] = Unit {0}
EachFrom P n (x ∷ xs) = P n x × EachFrom P (suc n) xs

no_more : (n : ℕ) → n + 0 ≡ n
no_more n = omega arith

one_more : (n k : ℕ) → n + suc k ≡ suc n + k
one_more n k = omega arith

pub from_joined : {X : Type 0} (P : ℕ → X → Type 0) (n : ℕ) (xs ys : List X) → EachFrom P n xs
    → EachFrom P (n + length xs) ys → EachFrom P n (xs ++ ys)
from_joined P n [] ys a b = subst (λ m. EachFrom P m ys) (no_more n) b
from_joined P n (x ∷ xs) ys a b =
    (a.0, from_joined P (suc n) xs ys a.1 (subst (λ m. EachFrom P m ys) (one_more n (length xs)) b))

pub from_at : {X : Type 0} (P : ℕ → X → Type 0) (n : ℕ) (xs : List X) (k : ℕ) (x : X) → EachFrom P n xs
    → slice_get xs k ≡ Some x → P (n + k) x
from_at P n [] k x h e = absurd (cc)
from_at P n (y ∷ ys) zero x h e =
    let same : y ≡ x = cc in subst (λ z. P (n + 0) z) same (subst (λ m. P m y) (sym (no_more n)) h.0)
from_at P n (y ∷ ys) (suc k) x h e = subst (λ m. P m x) (sym (one_more n k)) (from_at P (suc n) ys k x h.1 e)

pub from_more : {X : Type 0} (P Q : ℕ → X → Type 0) → ((n : ℕ) (x : X) → P n x → Q n x) → (n : ℕ) (xs : List X)
    → EachFrom P n xs → EachFrom Q n xs
from_more P Q of n [] h = tt
from_more P Q of n (x ∷ xs) h = (of n x h.0, from_more P Q of (suc n) xs h.1)

-- what follows at each number holds at the last, or of the number before all of them
last_from : {X : Type 0} (P : ℕ → X → Type 0) (Q : ℕ → Type 0) → ((n : ℕ) (x : X) → P n x → Q n) → (m : ℕ) (xs : List X)
    → Q m → EachFrom P (suc m) xs → Q (m + length xs)
last_from P Q of m [] q h = subst Q (sym (no_more m)) q
last_from P Q of m (x ∷ xs) q h =
    subst Q (sym (one_more m (length xs))) (last_from P Q of (suc m) xs (of (suc m) x h.0) h.1)

-- the first of what stands from a number has it, and the others stand behind it
behind_all : {X : Type 0} (before : List X) (x : X) (rest : List X)
    → slice_get (before ++ (x ∷ rest)) (length before) ≡ Some x
behind_all [] x rest = refl
behind_all (b ∷ before) x rest = behind_all before x rest

pub stand_first : {X : Type 0} (all : List X) (n : ℕ) (x : X) (xs : List X) → StandFrom all n (x ∷ xs)
    → slice_get all n ≡ Some x
stand_first all n x xs s =
    ap (λ l. slice_get l n) s.all_are ∙ ap (slice_get (s.before ++ (x ∷ (xs ++ s.after)))) s.number
    ∙ behind_all s.before x (xs ++ s.after)

pub stand_rest : {X : Type 0} (all : List X) (n : ℕ) (x : X) (xs : List X) → StandFrom all n (x ∷ xs)
    → StandFrom all (suc n) xs
stand_rest all n x xs s = renumber all (suc n) (n + 1) xs (omega arith) (rest_of_more all n (x ∷ []) xs s)

-- so many steps up from a standing, to another
abbrev pub Up : List Standing → ℕ → ℕ → ℕ → Type 0
Up all zero p n = p ≡ n
Up all (suc k) p n = (s : Standing) × (q : ℕ) × (slice_get all n ≡ Some s) × (s.parent ≡ Some q) × Up all k p q

pub record Reaches (all : List Standing) (most p n : ℕ) : Type 0 where
  pub steps : ℕ
  pub few : steps < most
  pub up : Up all steps p n

up_more : (all : List Standing) (k p m n : ℕ) (s : Standing) → slice_get all m ≡ Some s → s.parent ≡ Some p
    → Up all k m n
    → Up all (suc k) p n
up_more all zero p m n s at above u = (s, p, ap (slice_get all) (sym u) ∙ at, above, refl)
up_more all (suc k) p m n s at above u = (u.0, u.1, u.2, u.3, up_more all k p m u.1 s at above u.4)

-- a standing below another, for a line of this one's object; the standing before it is this one or one below it
pub record IsPart (model : Model) (all : List Standing) (n p : ℕ) (s : Standing) : Type 0 where
  pub above : Standing
  pub there : slice_get all p ≡ Some above
  pub depth : s.depth ≡ suc above.depth
  pub line : BillItem
  pub listed : slice_get (bill_of model above.object) s.item ≡ Some line
  pub object : object_in line.component ≡ Some s.object
  pub before : p < n
  pub prior : ℕ
  pub next : n ≡ suc prior
  pub reached : Reaches all 4 p prior

abbrev pub IsPlacedBelow : Model → List Standing → ℕ → Standing → Option ℕ → Type 0
IsPlacedBelow model all n s None = (n ≡ 0) × (s.depth ≡ 0)
IsPlacedBelow model all n s (Some p) = IsPart model all n p s

abbrev pub IsPlaced : Model → List Standing → ℕ → Standing → Type 0
IsPlaced model all n s = IsPlacedBelow model all n s s.parent

-- what stands below the one of a number, so many levels at most
record Grown (model : Model) (all : List Standing) (levels top : ℕ) (n : ℕ) (s : Standing) : Type 0 where
  placed : IsPlaced model all n s
  reached : Reaches all levels top n

-- an object of a line stands there
abbrev standing_below : ℕ → ℕ → ℕ → ℕ → Standing
standing_below number depth item o = record { parent = Some number; depth = suc depth; object = o; item = item }

raise : (model : Model) (all : List Standing) (levels number depth item n o : ℕ)
    → StandFrom all n (standings_from model levels (Some number) (suc depth) item n o)
    → EachFrom (Grown model all levels n) n (standings_from model levels (Some number) (suc depth) item n o)
    → EachFrom (Grown model all (suc levels) number) n (standings_from model levels (Some number) (suc depth) item n o)
raise model all zero number depth item n o stand grown = tt
raise model all (suc levels) number depth item n o stand grown =
    let rest = for_lines (standings_from model levels (Some n) (suc (suc depth))) 0 (suc n) (bill_of model o) in
    let at = stand_first all n (standing_below number depth item o) rest stand in
    from_more (Grown model all (suc levels) n) (Grown model all (suc (suc levels)) number)
    (λ m s g. let few = g.reached.few in record {
      placed = g.placed;
      reached = record {
        steps = suc g.reached.steps;
        few = omega (arith, few);
        up = up_more all g.reached.steps number n m (standing_below number depth item o) at refl g.reached.up;
      };
    }) n (standings_from model (suc levels) (Some number) (suc depth) item n o) grown

lines_grown : (model : Model) (all : List Standing) (levels number depth : ℕ) (head : Standing) → suc levels ≤ 4
    → slice_get all number ≡ Some head → head.depth ≡ depth
    → ((item n o : ℕ) → StandFrom all n (standings_from model levels (Some number) (suc depth) item n o)
    → IsPlaced model all n (standing_below number depth item o)
    → EachFrom (Grown model all levels n) n (standings_from model levels (Some number) (suc depth) item n o))
    → (item prior : ℕ) (lines : List BillItem) → number ≤ prior → Reaches all (suc levels) number prior
    → ((k : ℕ) (line : BillItem) → slice_get lines k ≡ Some line
    → slice_get (bill_of model head.object) (item + k) ≡ Some line)
    → StandFrom all (suc prior)
    (for_lines (standings_from model levels (Some number) (suc depth)) item (suc prior) lines)
    → EachFrom (Grown model all (suc levels) number) (suc prior)
    (for_lines (standings_from model levels (Some number) (suc depth)) item (suc prior) lines)
lines_grown model all levels number depth head few at deep below item prior [] low reached listed stand = tt
lines_grown model all levels number depth head few at deep below item prior (line ∷ lines) low reached listed stand =
    from_joined (Grown model all (suc levels) number) (suc prior) first (rest (suc prior + length first)) here
    (subst (λ m. EachFrom (Grown model all (suc levels) number) m (rest m)) (shift (length first))
    (lines_grown model all levels number depth head few at deep below (suc item) (prior + length first) lines
    (omega (arith, low))
    (last_from (Grown model all (suc levels) number) (Reaches all (suc levels) number) (λ n s g. g.reached) prior first
    reached here)
    (λ k l e. subst (λ m. slice_get (bill_of model head.object) m ≡ Some l) (one_more item k) (listed (suc k) l e))
    (subst (λ m. StandFrom all m (rest m)) (sym (shift (length first)))
    (rest_of_more all (suc prior) first (rest (suc prior + length first)) stand))))
  where
    brought : ℕ → ℕ → ℕ → List Standing
    brought = standings_from model levels (Some number) (suc depth)

    first : List Standing
    first = for_line (brought item (suc prior)) (object_in line.component)

    rest : ℕ → List Standing
    rest m = for_lines brought (suc item) m lines

    shift : (k : ℕ) → suc (prior + k) ≡ suc prior + k
    shift k = omega arith

    of_first : (o : Option ℕ) → object_in line.component ≡ o
        → StandFrom all (suc prior) (for_line (brought item (suc prior)) o)
        → EachFrom (Grown model all (suc levels) number) (suc prior) (for_line (brought item (suc prior)) o)
    of_first None is stand = tt
    of_first (Some o) is stand =
        let steps = reached.few in
        raise model all levels number depth item (suc prior) o stand
        (below item (suc prior) o stand (record {
          above = head;
          there = at;
          depth = ap suc (sym deep);
          line = line;
          listed = subst (λ m. slice_get (bill_of model head.object) m ≡ Some line) (no_more item)
              (listed zero line refl);
          object = is;
          before = omega (arith, low);
          prior = prior;
          next = refl;
          reached = record { steps = reached.steps; few = omega (arith, few, steps); up = reached.up };
        }))

    here : EachFrom (Grown model all (suc levels) number) (suc prior) first
    here =
        of_first (object_in line.component) refl
        (first_of_more all (suc prior) first (rest (suc prior + length first)) stand)

grown : (model : Model) (all : List Standing) (levels : ℕ) (parent : Option ℕ) (depth item number o : ℕ) → levels ≤ 4
    → StandFrom all number (standings_from model levels parent depth item number o)
    → IsPlaced model all number (record { parent = parent; depth = depth; object = o; item = item })
    → EachFrom (Grown model all levels number) number (standings_from model levels parent depth item number o)
grown model all zero parent depth item number o few stand placed = tt
grown model all (suc levels) parent depth item number o few stand placed =
    let head : Standing = record { parent = parent; depth = depth; object = o; item = item } in
    let rest = for_lines (standings_from model levels (Some number) (suc depth)) 0 (suc number) (bill_of model o) in (
      record { placed = placed; reached = record { steps = 0; few = omega arith; up = refl } },
      lines_grown model all levels number depth head few (stand_first all number head rest stand) refl
          (λ i n c s p. grown model all levels (Some number) (suc depth) i n c (omega (arith, few)) s p) 0 number
          (bill_of model o)
          (omega arith) (record { steps = 0; few = omega arith; up = refl })
          (λ k line e. subst (λ m. slice_get (bill_of model o) m ≡ Some line) (no_front k) e)
          (stand_rest all number head rest stand),
    )
  where
    no_front : (k : ℕ) → k ≡ 0 + k
    no_front k = omega arith

pub whole_stands : {X : Type 0} (all : List X) → StandFrom all 0 all
whole_stands all = record { before = []; after = []; number = refl; all_are = sym (append-nil all) }

all_grown : (model : Model)
    → EachFrom (Grown model (standings_of model) 4 0) 0 (standings_of model)
all_grown model =
    grown model (standings_of model) 4 None 0 0 0 model.root (omega arith) (whole_stands (standings_of model))
    (refl, refl)

pub placed_at : (model : Model) (k : ℕ) (s : Standing) → slice_get (standings_of model) k ≡ Some s
    → IsPlaced model (standings_of model) k s
placed_at model k s e =
    subst (λ m. IsPlaced model (standings_of model) m s) (no_front k)
    (from_at (Grown model (standings_of model) 4 0) 0 (standings_of model) k s (all_grown model) e).placed
  where
    no_front : (k : ℕ) → 0 + k ≡ k
    no_front k = omega arith

-- the slot of a standing
pub slot_at : (model : Model) (k : ℕ) (s : Standing) → slice_get (standings_of model) k ≡ Some s
    → slice_get (slots_of model) k ≡ Some (slot_of model (standings_of model) s)
slot_at model k s e =
    slice_get-map (slot_of model (standings_of model)) (standings_of model) k
    ∙ ap (option_map (slot_of model (standings_of model))) e
