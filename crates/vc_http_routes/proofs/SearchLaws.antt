-- What a router's search finds: the row that the path suits, where all such rows lead to one thing. Parameters of the
-- rows are whole segments.
use Rattle.std.proofs.Common.{◌≡◌, ℕ, zero, suc, ◌-◌, ◌<◌, Bool, true, false, cond, not, ◌&&◌, ◌||◌, ◌==◌}
use Rattle.std.proofs.Common.{List, [], ◌∷◌, length, drop, Option, None, Some, refl, subst, sym, ap, ◌∙◌, arith, ltb}
use Rattle.std.proofs.Common.{nat_eq}
use Rattle.std.specs.Prelude.{if◌then◌else◌}
use Rattle.std.specs.Cmp.Lexicographic.{pointwise}
use Rattle.std.specs.Option.{option_map}
use Rattle.std.proofs.lemmas.Bool.{and_from, and_parts, eqb-false, eqb-true, eq-eqb, lt-ltb, ltb-true}
use Rattle.std.proofs.lemmas.Bool.{ne_eqb, or_left, or_right}
use Rattle.matchit.specs.Rows.{RowsOf}
use Rattle.matchit.specs.Seek.{better, cuts, has_slash, longest_from, own, or_else, param_step, same_text, seek}
use Rattle.matchit.specs.Seek.{segment, step, with_suffix}

-- whether a path suits the tokens of a pattern, of which 256 is a parameter; and whether what follows the first byte of
-- a parameter suits the tokens behind it
abbrev mutual
  pub suits : List ℕ → List ℕ → Bool
  suits [] [] = true
  suits (x ∷ t) [] = false
  suits [] (b ∷ path) = false
  suits (x ∷ t) (b ∷ path) = ((x == b) && suits t path) || ((x == 256) && (not (b == 47) && behind t path))

  pub behind : List ℕ → List ℕ → Bool
  behind [] [] = true
  behind (x ∷ t) [] = false
  behind [] (b ∷ path) = not (b == 47) && behind [] path
  behind (x ∷ t) (b ∷ path) = if b == 47 then (x == 47) && suits t path else behind (x ∷ t) path

abbrev pub within : ℕ → List ℕ → List ℕ → Bool
within b path t = not (b == 47) && behind t path

-- a row's tests
abbrev pub any_row : {K : Type 0} → (List ℕ → Bool) → RowsOf K → Bool
any_row f [] = false
any_row f ((t, k) ∷ rest) = f t || any_row f rest

abbrev pub every_row : {K : Type 0} → (List ℕ → Bool) → RowsOf K → Bool
every_row f [] = true
every_row f ((t, k) ∷ rest) = f t && every_row f rest

-- each row that passes leads to this
abbrev pub AllLead : {K V : Type 0} → (K → V) → V → (List ℕ → Bool) → RowsOf K → Type 0
AllLead view a f [] = Unit {0}
AllLead view a f ((t, k) ∷ rest) = (f t ≡ true → view k ≡ a) × AllLead view a f rest

abbrev pub one : {V : Type 0} → V → Bool → Option V
one a b = cond b (Some a) None

-- a parameter ends at a slash or at the end, and nothing takes all that is left
abbrev pub is_edge : List ℕ → Bool
is_edge [] = true
is_edge (x ∷ t) = x == 47

abbrev pub is_whole : List ℕ → Bool
is_whole [] = true
is_whole (x ∷ t) = (ltb x 257 && (not (x == 256) || is_edge t)) && is_whole t

abbrev begins : List ℕ → Bool
begins [] = false
begins (x ∷ t) = x == 47

-- what the step by a byte and the step by a parameter leave
both : (p q a c : Bool) → ((p || q) || (a || c)) ≡ ((p || a) || (q || c))
both true q a c = refl
both false true true c = refl
both false true false c = refl
both false false a c = refl

left : (p a c : Bool) → ((p || false) || (a || c)) ≡ ((p || a) || c)
left true a c = refl
left false a c = refl

right : (q a c : Bool) → (q || (a || c)) ≡ (a || (q || c))
right true true c = refl
right true false c = refl
right false a c = refl

any_step : {K : Type 0} (b : ℕ) (path : List ℕ) (rs : RowsOf K)
    → any_row (λ t. suits t (b ∷ path)) rs
    ≡ (any_row (λ t. suits t path) (step b rs) || any_row (within b path) (step 256 rs))
any_step b path [] = refl
any_step b path (([], k) ∷ rest) = any_step b path rest
any_step {K} b path ((x ∷ t, k) ∷ rest) =
    ap (λ r. (((x == b) && suits t path) || ((x == 256) && within b path t)) || r) (any_step b path rest)
    ∙ by (x == b) (x == 256)
  where
    by : (v w : Bool) → (((v && suits t path) || (w && within b path t))
        || (any_row (λ u. suits u path) (step b rest) || any_row (within b path) (step 256 rest)))
        ≡ (any_row (λ u. suits u path) (cond v ((t, k) ∷ step b rest) (step b rest))
        || any_row (within b path) (cond w ((t, k) ∷ step 256 rest) (step 256 rest)))
    by true true =
        both (suits t path) (within b path t) (any_row (λ u. suits u path) (step b rest))
        (any_row (within b path) (step 256 rest))
    by true false =
        left (suits t path) (any_row (λ u. suits u path) (step b rest)) (any_row (within b path) (step 256 rest))
    by false true =
        right (within b path t) (any_row (λ u. suits u path) (step b rest)) (any_row (within b path) (step 256 rest))
    by false false = refl

lead_byte : {K V : Type 0} (view : K → V) (a : V) (b : ℕ) (path : List ℕ) (rs : RowsOf K)
    → AllLead view a (λ t. suits t (b ∷ path)) rs → AllLead view a (λ t. suits t path) (step b rs)
lead_byte view a b path [] h = tt
lead_byte view a b path (([], k) ∷ rest) h = lead_byte view a b path rest h.1
lead_byte view a b path ((x ∷ t, k) ∷ rest) h = by (x == b) refl (lead_byte view a b path rest h.1)
  where
    by : (v : Bool) → (x == b) ≡ v → AllLead view a (λ u. suits u path) (step b rest)
        → AllLead view a (λ u. suits u path) (cond v ((t, k) ∷ step b rest) (step b rest))
    by true e more = (
      λ s. h.0 (or_left ((x == b) && suits t path) ((x == 256) && within b path t)
          (and_from (x == b) (suits t path) e s)),
      more,
    )
    by false e more = more

lead_blank : {K V : Type 0} (view : K → V) (a : V) (b : ℕ) (path : List ℕ) (rs : RowsOf K)
    → AllLead view a (λ t. suits t (b ∷ path)) rs → AllLead view a (within b path) (step 256 rs)
lead_blank view a b path [] h = tt
lead_blank view a b path (([], k) ∷ rest) h = lead_blank view a b path rest h.1
lead_blank view a b path ((x ∷ t, k) ∷ rest) h = by (x == 256) refl (lead_blank view a b path rest h.1)
  where
    by : (v : Bool) → (x == 256) ≡ v → AllLead view a (within b path) (step 256 rest)
        → AllLead view a (within b path) (cond v ((t, k) ∷ step 256 rest) (step 256 rest))
    by true e more = (
      λ s. h.0 (or_right ((x == b) && suits t path) ((x == 256) && within b path t)
          (and_from (x == 256) (within b path t) e s)),
      more,
    )
    by false e more = more

whole_step : {K : Type 0} (b : ℕ) (rs : RowsOf K) → every_row is_whole rs ≡ true → every_row is_whole (step b rs) ≡ true
whole_step b [] h = refl
whole_step b (([], k) ∷ rest) h = whole_step b rest h
whole_step b ((x ∷ t, k) ∷ rest) h =
    let parts = and_parts (is_whole (x ∷ t)) (every_row is_whole rest) h in
    let tail = and_parts (ltb x 257 && (not (x == 256) || is_edge t)) (is_whole t) parts.0 in
    by (x == b) tail.1 (whole_step b rest parts.1)
  where
    by : (v : Bool) → is_whole t ≡ true → every_row is_whole (step b rest) ≡ true
        → every_row is_whole (cond v ((t, k) ∷ step b rest) (step b rest)) ≡ true
    by true one more = and_from (is_whole t) (every_row is_whole (step b rest)) one more
    by false one more = more

edges : {K : Type 0} (rs : RowsOf K) → every_row is_whole rs ≡ true → every_row is_edge (step 256 rs) ≡ true
edges [] h = refl
edges (([], k) ∷ rest) h = edges rest h
edges ((x ∷ t, k) ∷ rest) h =
    let parts = and_parts (is_whole (x ∷ t)) (every_row is_whole rest) h in
    let tail = and_parts (ltb x 257 && (not (x == 256) || is_edge t)) (is_whole t) parts.0 in
    by (x == 256) (and_parts (ltb x 257) (not (x == 256) || is_edge t) tail.0).1 (edges rest parts.1)
  where
    by : (v : Bool) → (not v || is_edge t) ≡ true → every_row is_edge (step 256 rest) ≡ true
        → every_row is_edge (cond v ((t, k) ∷ step 256 rest) (step 256 rest)) ≡ true
    by true one more = and_from (is_edge t) (every_row is_edge (step 256 rest)) one more
    by false one more = more

no_catch : {K : Type 0} (rs : RowsOf K) → every_row is_whole rs ≡ true → own (step 257 rs) ≡ None
no_catch [] h = refl
no_catch (([], k) ∷ rest) h = no_catch rest h
no_catch ((x ∷ t, k) ∷ rest) h =
    let parts = and_parts (is_whole (x ∷ t)) (every_row is_whole rest) h in
    let tail = and_parts (ltb x 257 && (not (x == 256) || is_edge t)) (is_whole t) parts.0 in
    let few = ltb-true x 257 (and_parts (ltb x 257) (not (x == 256) || is_edge t) tail.0).0 in
    by (x == 257) refl few (no_catch rest parts.1)
  where
    by : (v : Bool) → (x == 257) ≡ v → x < 257 → own (step 257 rest) ≡ None
        → own (cond v ((t, k) ∷ step 257 rest) (step 257 rest)) ≡ None
    by true e few more = let is = eqb-true x 257 e in absurd (omega arith)
    by false e few more = more

-- the last byte of a list that has one
abbrev last : ℕ → List ℕ → ℕ
last b [] = b
last b (c ∷ cs) = last c cs

one_less : (n : ℕ) → suc n - 1 ≡ n
one_less n = omega arith

last_is : (b : ℕ) (bs : List ℕ) → drop (length bs) (b ∷ bs) ≡ last b bs ∷ []
last_is b [] = refl
last_is b (c ∷ cs) = last_is c cs

slash_ends : (b : ℕ) (path : List ℕ) → has_slash path ≡ true → (last b (segment path) == 47) ≡ true
slash_ends b [] h = absurd (cc h)
slash_ends b (c ∷ cs) h = by (c == 47) refl h (slash_ends c cs)
  where
    by : (v : Bool) → (c == 47) ≡ v → cond v true (has_slash cs) ≡ true
        → (has_slash cs ≡ true → (last c (segment cs) == 47) ≡ true)
        → (last b (cond v (c ∷ []) (c ∷ segment cs)) == 47) ≡ true
    by true e rest more = e
    by false e rest more = more rest

no_slash_ends : (b : ℕ) (path : List ℕ) → (b == 47) ≡ false → has_slash path ≡ false
    → (last b (segment path) == 47) ≡ false
no_slash_ends b [] n h = n
no_slash_ends b (c ∷ cs) n h = by (c == 47) refl h (no_slash_ends c cs)
  where
    by : (v : Bool) → (c == 47) ≡ v → cond v true (has_slash cs) ≡ false
        → ((c == 47) ≡ false → has_slash cs ≡ false → (last c (segment cs) == 47) ≡ false)
        → (last b (cond v (c ∷ []) (c ∷ segment cs)) == 47) ≡ false
    by true e rest more = absurd (cc rest)
    by false e rest more = more e rest

some_segment : (path : List ℕ) → has_slash path ≡ true → 0 < length (segment path)
some_segment [] h = absurd (cc h)
some_segment (c ∷ cs) h = by (c == 47)
  where
    by : (v : Bool) → 0 < length (cond v (c ∷ []) (c ∷ segment cs))
    by true = omega arith
    by false = omega arith

pub turned : (b : ℕ) → (47 == b) ≡ (b == 47)
turned b = by (b == 47) refl
  where
    by : (v : Bool) → (b == 47) ≡ v → (47 == b) ≡ v
    by true e = eq-eqb 47 b (sym (eqb-true b 47 e))
    by false e = ne_eqb 47 b (λ h. eqb-false b 47 e (sym h))

-- whether a slash ends the parameter that begins here
cuts_at : (b : ℕ) (path : List ℕ) → (b == 47) ≡ false
    → cuts (b ∷ segment path) (47 ∷ []) ≡ has_slash path
cuts_at b path n = by (has_slash path) refl
  where
    ends : pointwise nat_eq (47 ∷ []) (drop (length (b ∷ segment path) - 1) (b ∷ segment path))
        ≡ ((last b (segment path) == 47) && true)
    ends =
        ap (λ m. pointwise nat_eq (47 ∷ []) (drop m (b ∷ segment path))) (one_less (length (segment path)))
        ∙ ap (pointwise nat_eq (47 ∷ [])) (last_is b (segment path))
        ∙ ap (λ v. v && true) (turned (last b (segment path)))

    by : (v : Bool) → has_slash path ≡ v → cuts (b ∷ segment path) (47 ∷ []) ≡ v
    by true e =
        let long : 1 < length (b ∷ segment path) = omega (arith, some_segment path e) in
        and_from (ltb 1 (length (b ∷ segment path)))
        (pointwise nat_eq (47 ∷ []) (drop (length (b ∷ segment path) - 1) (b ∷ segment path)))
        (lt-ltb 1 (length (b ∷ segment path)) long) (ends ∙ ap (λ x. x && true) (slash_ends b path e))
    by false e =
        fails (ltb 1 (length (b ∷ segment path)))
        (pointwise nat_eq (47 ∷ []) (drop (length (b ∷ segment path) - 1) (b ∷ segment path)))
        (ends ∙ ap (λ x. x && true) (no_slash_ends b path n e))
      where
        fails : (x y : Bool) → y ≡ false → (x && y) ≡ false
        fails true y e = e
        fails false y e = refl

-- the longest suffix among rows that begin with a slash or are at their end
edge_segment : (x : ℕ) (t : List ℕ) → (x == 47) ≡ true → segment (x ∷ t) ≡ 47 ∷ []
edge_segment x t e = rw e (ap (λ y. y ∷ []) (eqb-true x 47 e))

stays : {K : Type 0} (seg : List ℕ) (rs : RowsOf K) → every_row is_edge rs ≡ true
    → longest_from seg (47 ∷ []) rs ≡ 47 ∷ []
stays seg [] h = refl
stays seg (([], k) ∷ rest) h = stays seg rest h
stays seg ((x ∷ t, k) ∷ rest) h =
    let parts = and_parts (x == 47) (every_row is_edge rest) h in
    ap (λ s. longest_from seg (better seg (47 ∷ []) s) rest) (edge_segment x t parts.0) ∙ stays seg rest parts.1

longest : {K : Type 0} (seg : List ℕ) (v : Bool) → cuts seg (47 ∷ []) ≡ v → (rs : RowsOf K)
    → every_row is_edge rs ≡ true → longest_from seg [] rs ≡ cond (v && any_row begins rs) (47 ∷ []) []
longest seg true e [] h = refl
longest seg false e [] h = refl
longest seg v e (([], k) ∷ rest) h = longest seg v e rest h
longest seg v e ((x ∷ t, k) ∷ rest) h =
    let parts = and_parts (x == 47) (every_row is_edge rest) h in
    ap (λ s. longest_from seg (better seg [] s) rest) (edge_segment x t parts.0)
    ∙ ap (λ c. longest_from seg (cond c (47 ∷ []) []) rest) e
    ∙ by v parts.0 parts.1 (longest seg v e rest parts.1)
  where
    by : (v : Bool) → (x == 47) ≡ true → every_row is_edge rest ≡ true
        → longest_from seg [] rest ≡ cond (v && any_row begins rest) (47 ∷ []) []
        → longest_from seg (cond v (47 ∷ []) []) rest ≡ cond (v && ((x == 47) || any_row begins rest)) (47 ∷ []) []
    by true is edge more = stays seg rest edge ∙ ap (λ c. cond (c || any_row begins rest) (47 ∷ []) []) (sym is)
    by false is edge more = more

-- what is behind a parameter, by whether a slash follows
behind_end : (path : List ℕ) → behind [] path ≡ not (has_slash path)
behind_end [] = refl
behind_end (c ∷ cs) = by (c == 47) (behind_end cs)
  where
    by : (v : Bool) → behind [] cs ≡ not (has_slash cs) → (not v && behind [] cs) ≡ not (cond v true (has_slash cs))
    by true more = refl
    by false more = more

behind_none : (x : ℕ) (t path : List ℕ) → has_slash path ≡ false → behind (x ∷ t) path ≡ false
behind_none x t [] h = refl
behind_none x t (c ∷ cs) h = by (c == 47) h (behind_none x t cs)
  where
    by : (v : Bool) → cond v true (has_slash cs) ≡ false → (has_slash cs ≡ false → behind (x ∷ t) cs ≡ false)
        → cond v ((x == 47) && suits t cs) (behind (x ∷ t) cs) ≡ false
    by true rest more = absurd (cc rest)
    by false rest more = more rest

pub or_none : (x : Bool) → (x || false) ≡ x
or_none true = refl
or_none false = refl

behind_slash : (t path : List ℕ) → has_slash path ≡ true
    → suits (47 ∷ t) (drop (length (segment path) - 1) path) ≡ behind (47 ∷ t) path
behind_slash t [] h = absurd (cc h)
behind_slash t (c ∷ cs) h = by (c == 47) refl h (behind_slash t cs)
  where
    by : (v : Bool) → (c == 47) ≡ v → cond v true (has_slash cs) ≡ true
        → (has_slash cs ≡ true → suits (47 ∷ t) (drop (length (segment cs) - 1) cs) ≡ behind (47 ∷ t) cs)
        → suits (47 ∷ t) (drop (length (cond v (c ∷ []) (c ∷ segment cs)) - 1) (c ∷ cs))
        ≡ cond v ((47 == 47) && suits t cs) (behind (47 ∷ t) cs)
    by true e rest more =
        let same : (47 == c) ≡ true = eq-eqb 47 c (sym (eqb-true c 47 e)) in
        ap (λ x. (x && suits t cs) || false) same ∙ or_none (suits t cs)
    by false e rest more =
        let some = some_segment cs rest in
        let less : suc (length (segment cs)) - 1 ≡ suc (length (segment cs) - 1) = omega (arith, some) in
        ap (λ m. suits (47 ∷ t) (drop m (c ∷ cs))) less ∙ more rest

-- rows that pass alike
any_alike : {K : Type 0} (f g : List ℕ → Bool) → ((t : List ℕ) → f t ≡ g t) → (rs : RowsOf K)
    → any_row f rs ≡ any_row g rs
any_alike f g same [] = refl
any_alike f g same ((t, k) ∷ rest) = (λ j. same t j || any_alike f g same rest j)

lead_alike : {K V : Type 0} (view : K → V) (a : V) (f g : List ℕ → Bool) → ((t : List ℕ) → f t ≡ g t)
    → (rs : RowsOf K) → AllLead view a g rs → AllLead view a f rs
lead_alike view a f g same [] h = tt
lead_alike view a f g same ((t, k) ∷ rest) h = (λ e. h.0 (sym (same t) ∙ e), lead_alike view a f g same rest h.1)

any_never : {K : Type 0} (f : List ℕ → Bool) → ((t : List ℕ) → f t ≡ false) → (rs : RowsOf K) → any_row f rs ≡ false
any_never f never [] = refl
any_never f never ((t, k) ∷ rest) = (λ j. never t j || any_never f never rest j)

-- where a slash ends the parameter, the rows that go on with it are those that may fit
slash_any : {K : Type 0} (b : ℕ) (path : List ℕ) → (b == 47) ≡ false → has_slash path ≡ true → (rs : RowsOf K)
    → every_row is_edge rs ≡ true
    → any_row (λ t. suits t (drop (length (segment path) - 1) path)) (with_suffix (47 ∷ []) rs)
    ≡ any_row (within b path) rs
slash_any b path n s [] h = refl
slash_any b path n s (([], k) ∷ rest) h =
    let no : within b path [] ≡ false = rw n (behind_end path ∙ ap not s) in
    slash_any b path n s rest h ∙ ap (λ v. v || any_row (within b path) rest) (sym no)
slash_any b path n s ((x ∷ t, k) ∷ rest) h =
    let parts = and_parts (x == 47) (every_row is_edge rest) h in
    let is = eqb-true x 47 parts.0 in
    let test : List ℕ → Bool = λ u. suits u (drop (length (segment path) - 1) path) in
    let yes : test (x ∷ t) ≡ within b path (x ∷ t) =
    ap (λ y. test (y ∷ t)) is ∙ behind_slash t path s ∙ ap (λ y. behind (y ∷ t) path) (sym is)
    ∙ ap (λ v. not v && behind (x ∷ t) path) (sym n) in
    ap (λ u. any_row test (cond (same_text u (47 ∷ [])) ((x ∷ t, k) ∷ with_suffix (47 ∷ []) rest)
    (with_suffix (47 ∷ []) rest))) (edge_segment x t parts.0)
    ∙ (λ j. yes j || slash_any b path n s rest parts.1 j)

slash_lead : {K V : Type 0} (view : K → V) (a : V) (b : ℕ) (path : List ℕ) → (b == 47) ≡ false
    → has_slash path ≡ true → (rs : RowsOf K) → every_row is_edge rs ≡ true → AllLead view a (within b path) rs
    → AllLead view a (λ t. suits t (drop (length (segment path) - 1) path)) (with_suffix (47 ∷ []) rs)
slash_lead view a b path n s [] h l = tt
slash_lead view a b path n s (([], k) ∷ rest) h l = slash_lead view a b path n s rest h l.1
slash_lead view a b path n s ((x ∷ t, k) ∷ rest) h l =
    let parts = and_parts (x == 47) (every_row is_edge rest) h in
    let is = eqb-true x 47 parts.0 in
    let test : List ℕ → Bool = λ u. suits u (drop (length (segment path) - 1) path) in
    let yes : test (x ∷ t) ≡ within b path (x ∷ t) =
    ap (λ y. test (y ∷ t)) is ∙ behind_slash t path s ∙ ap (λ y. behind (y ∷ t) path) (sym is)
    ∙ ap (λ v. not v && behind (x ∷ t) path) (sym n) in
    rw (edge_segment x t parts.0) (λ e. l.0 (sym yes ∙ e), slash_lead view a b path n s rest parts.1 l.1)

whole_suffix : {K : Type 0} (s : List ℕ) (rs : RowsOf K) → every_row is_whole rs ≡ true
    → every_row is_whole (with_suffix s rs) ≡ true
whole_suffix s [] h = refl
whole_suffix s ((t, k) ∷ rest) h =
    let parts = and_parts (is_whole t) (every_row is_whole rest) h in
    by (same_text (segment t) s) parts.0 (whole_suffix s rest parts.1)
  where
    by : (v : Bool) → is_whole t ≡ true → every_row is_whole (with_suffix s rest) ≡ true
        → every_row is_whole (cond v ((t, k) ∷ with_suffix s rest) (with_suffix s rest)) ≡ true
    by true one more = and_from (is_whole t) (every_row is_whole (with_suffix s rest)) one more
    by false one more = more

none_begin : {K : Type 0} (rs : RowsOf K) → every_row is_edge rs ≡ true → any_row begins rs ≡ false
    → with_suffix (47 ∷ []) rs ≡ []
none_begin [] h n = refl
none_begin (([], k) ∷ rest) h n = none_begin rest h n
none_begin ((x ∷ t, k) ∷ rest) h n =
    let parts = and_parts (x == 47) (every_row is_edge rest) h in
    absurd (cc (sym n ∙ ap (λ v. v || any_row begins rest) parts.0))

-- what a search needs of the rows that it goes on with behind a parameter
record GoesOn {K V : Type 0} (view : K → V) (a : V) (b : ℕ) (path : List ℕ) (rs : RowsOf K)
    (next : ℕ × RowsOf K) : Type 0 where
  any : any_row (λ t. suits t (drop (next.0 - 1) path)) next.1 ≡ any_row (within b path) rs
  lead : AllLead view a (λ t. suits t (drop (next.0 - 1) path)) next.1
  whole : every_row is_whole next.1 ≡ true

nothing : {K V : Type 0} (view : K → V) (a : V) (b : ℕ) (path : List ℕ) (rs : RowsOf K)
    → any_row (within b path) rs ≡ false → GoesOn view a b path rs (0, [])
nothing view a b path rs never = record { any = sym never; lead = tt; whole = refl }

drop_all : (path : List ℕ) → drop (length path) path ≡ []
drop_all [] = refl
drop_all (b ∷ path) = drop_all path

at_end : {K V : Type 0} (view : K → V) (a : V) (b : ℕ) (path : List ℕ) (rs : RowsOf K) → (b == 47) ≡ false
    → has_slash path ≡ false → every_row is_whole rs ≡ true → AllLead view a (within b path) rs
    → GoesOn view a b path rs (length (b ∷ path), rs)
at_end view a b path rs n s whole lead = record {
  any = any_alike test (within b path) alike rs;
  lead = lead_alike view a test (within b path) alike rs lead;
  whole = whole;
}
  where
    test : List ℕ → Bool
    test t = suits t (drop (length (b ∷ path) - 1) path)

    alike : (t : List ℕ) → suits t (drop (length (b ∷ path) - 1) path) ≡ within b path t
    alike t =
        ap (λ m. suits t (drop m path)) (one_less (length path)) ∙ ap (suits t) (drop_all path) ∙ ends t
        ∙ ap (λ v. not v && behind t path) (sym n)
      where
        ends : (t : List ℕ) → suits t [] ≡ behind t path
        ends [] = sym (behind_end path ∙ ap not s)
        ends (x ∷ t) = sym (behind_none x t path s)

at_slash : {K V : Type 0} (view : K → V) (a : V) (b : ℕ) (path : List ℕ) (rs : RowsOf K) → (b == 47) ≡ false
    → has_slash path ≡ true → every_row is_edge rs ≡ true → every_row is_whole rs ≡ true
    → AllLead view a (within b path) rs
    → GoesOn view a b path rs (length (b ∷ segment path) - 1, with_suffix (47 ∷ []) rs)
at_slash view a b path rs n s edge whole lead =
    subst (λ m. GoesOn view a b path rs (m, with_suffix (47 ∷ []) rs))
    (sym (one_less (length (segment path)))) (record {
      any = slash_any b path n s rs edge;
      lead = slash_lead view a b path n s rs edge lead;
      whole = whole_suffix (47 ∷ []) rs whole;
    })

goes_on : {K V : Type 0} (view : K → V) (a : V) (b : ℕ) (path : List ℕ) (rs : RowsOf K)
    → every_row is_edge rs ≡ true → every_row is_whole rs ≡ true → AllLead view a (within b path) rs
    → GoesOn view a b path rs (param_step rs (b ∷ path))
unfolding param_step
goes_on {K} view a b path rs edge whole lead = by (b == 47) refl
  where
    by : (v : Bool) → (b == 47) ≡ v → GoesOn view a b path rs
        (cond (ltb 0 (length (longest_from (cond v (b ∷ []) (b ∷ segment path)) [] rs))) (
          length (cond v (b ∷ []) (b ∷ segment path))
              - length (longest_from (cond v (b ∷ []) (b ∷ segment path)) [] rs),
          with_suffix (longest_from (cond v (b ∷ []) (b ∷ segment path)) [] rs) rs,
        )
        (cond (cond v true (has_slash path)) (0, []) (length (b ∷ path), rs)))
    by true e =
        let none : longest_from (b ∷ []) [] rs ≡ [] = longest (b ∷ []) false refl rs edge in
        rw none (nothing view a b path rs (any_never (within b path)
        (λ t. ap (λ v. not v && behind t path) e) rs))
    by false e = if_slash (has_slash path) refl
      where
        if_begins : (w : Bool) → any_row begins rs ≡ w → has_slash path ≡ true
            → longest_from (b ∷ segment path) [] rs ≡ cond w (47 ∷ []) [] → GoesOn view a b path rs
            (cond (ltb 0 (length (longest_from (b ∷ segment path) [] rs))) (
              length (b ∷ segment path) - length (longest_from (b ∷ segment path) [] rs),
              with_suffix (longest_from (b ∷ segment path) [] rs) rs,
            )
            (cond true (0, []) (length (b ∷ path), rs)))
        if_begins true some s is = subst goal (sym is) (at_slash view a b path rs e s edge whole lead)
          where
            goal : List ℕ → Type 0
            goal suffix = GoesOn view a b path rs
                (cond (ltb 0 (length suffix)) (length (b ∷ segment path) - length suffix, with_suffix suffix rs)
                (cond true (0, []) (length (b ∷ path), rs)))
        if_begins false none s is =
            let empty = none_begin rs edge none in
            rw is (nothing view a b path rs (sym (slash_any b path e s rs edge)
            ∙ ap (any_row (λ t. suits t (drop (length (segment path) - 1) path))) empty))

        if_slash : (s : Bool) → has_slash path ≡ s → GoesOn view a b path rs
            (cond (ltb 0 (length (longest_from (b ∷ segment path) [] rs))) (
              length (b ∷ segment path) - length (longest_from (b ∷ segment path) [] rs),
              with_suffix (longest_from (b ∷ segment path) [] rs) rs,
            )
            (cond s (0, []) (length (b ∷ path), rs)))
        if_slash true s =
            if_begins (any_row begins rs) refl s
            (longest (b ∷ segment path) true (cuts_at b path e ∙ s) rs edge)
        if_slash false s =
            let none : longest_from (b ∷ segment path) [] rs ≡ [] =
            longest (b ∷ segment path) false (cuts_at b path e ∙ s) rs edge in
            rw none (at_end view a b path rs e s whole lead)

-- the search itself
lead_or : {K V : Type 0} (view : K → V) (a : V) (x y : Option K) (p q : Bool) → option_map view x ≡ one a p
    → option_map view y ≡ one a q → option_map view (or_else x y) ≡ one a (p || q)
lead_or view a None y true q e f = absurd (cc e)
lead_or view a None y false q e f = f
lead_or view a (Some k) y true q e f = e
lead_or view a (Some k) y false q e f = absurd (cc e)

or_else_none : {K : Type 0} (x : Option K) → or_else x None ≡ x
or_else_none None = refl
or_else_none (Some k) = refl

own_is : {K V : Type 0} (view : K → V) (a : V) (rs : RowsOf K) → AllLead view a (λ t. suits t []) rs
    → option_map view (own rs) ≡ one a (any_row (λ t. suits t []) rs)
own_is view a [] h = refl
own_is view a (([], k) ∷ rest) h = ap Some (h.0 refl)
own_is view a ((x ∷ t, k) ∷ rest) h = own_is view a rest h.1

pub seek_is : {K V : Type 0} (view : K → V) (a : V) (path : List ℕ) (n : ℕ) (rs : RowsOf K)
    → every_row is_whole rs ≡ true → AllLead view a (λ t. suits t (drop n path)) rs
    → option_map view (seek n rs path) ≡ one a (any_row (λ t. suits t (drop n path)) rs)
unfolding seek
seek_is view a [] zero rs whole lead = own_is view a rs lead
seek_is view a [] (suc n) rs whole lead = own_is view a rs lead
seek_is view a (b ∷ path) (suc n) rs whole lead = seek_is view a path n rs whole lead
seek_is view a (b ∷ path) zero rs whole lead =
    let bytes = seek_is view a path 0 (step b rs) (whole_step b rs whole) (lead_byte view a b path rs lead) in
    let next = param_step (step 256 rs) (b ∷ path) in
    let goes = goes_on view a b path (step 256 rs) (edges rs whole) (whole_step 256 rs whole)
    (lead_blank view a b path rs lead) in
    let blanks = seek_is view a path (next.0 - 1) next.1 goes.whole goes.lead ∙ ap (one a) goes.any in
    let later : option_map view (or_else (seek (next.0 - 1) next.1 path) (own (step 257 rs)))
    ≡ one a (any_row (within b path) (step 256 rs)) =
    ap (λ o. option_map view (or_else (seek (next.0 - 1) next.1 path) o)) (no_catch rs whole)
    ∙ ap (option_map view) (or_else_none (seek (next.0 - 1) next.1 path)) ∙ blanks in
    lead_or view a (seek 0 (step b rs) path) (or_else (seek (next.0 - 1) next.1 path) (own (step 257 rs)))
    (any_row (λ t. suits t path) (step b rs)) (any_row (within b path) (step 256 rs)) bytes later
    ∙ ap (one a) (sym (any_step b path rs))
