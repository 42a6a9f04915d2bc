-- Enough rounds close the set, by counting; and what a set that grew says of rounds.
use Rattle.std.proofs.Common.{◌≡◌, ℕ, zero, suc, ◌+◌, ◌<◌, ◌≤◌, Bool, true, false, cond, ◌⊎◌, List, [], ◌∷◌, ◌++◌}
use Rattle.std.proofs.Common.{length, refl, sym, ◌∙◌, ap, subst, inl, inr, arith}
use Rattle.std.specs.List.{IsDistinct}
use Rattle.vc_base.specs.Growing.{Grows}
use Rattle.vc_base.specs.Rounds.{is_clash, atoms_of, System, broken, settled, some_clash, all_given, next_round, settle}
use Rattle.vc_base.specs.Sets.{has, with_all, Within}
use Rattle.vc_base.proofs.SetLaws.{same_test, told, both, has_either, has_front, has_back, has_more, has_first}
use Rattle.vc_base.proofs.SetLaws.{has_cases, within_cons, with_all_left, with_all_same, with_all_longer}
use Rattle.vc_base.proofs.SetLaws.{with_all_distinct}
use Rattle.vc_base.proofs.Settling.{Laws, IsClosed, IsIn, given_of, given_stands, settle-next, settle-zero, EndsWithin}
use Rattle.vc_base.proofs.Settling.{settles_within, grown_within, grown_clear}

-- where an element of the one list isn't in the other, one can be named
pub missing : {A : Type 0} (p : A → Bool) (same : A → A → Bool) (itself : (a : A) → same a a ≡ true)
    (exact : (a b : A) → same a b ≡ true → a ≡ b) (xs : List A)
    → ((a : A) → has same xs a ≡ true → p a ≡ true) ⊎ ((a : A) × (has same xs a ≡ true) × (p a ≡ false))
missing p same itself exact [] = inl (λ a h. absurd (cc))
missing p same itself exact (x ∷ xs) =
    elim (told (p x)) [
      | inl e ↦ elim (missing p same itself exact xs) [
        | inl all ↦ inl (λ a h. elim (has_cases same exact itself x xs a h) [ inl q ↦ ap p q ∙ e | inr q ↦ all a q ])
        | inr one ↦ inr (one.0, has_more same exact itself x xs one.0 one.1, one.2)
      ]
      | inr e ↦ inr (x, has_first same exact itself x xs, e)
    ]

module _ {A O : Type 0} (system : System A O) (laws : Laws system) where
  -- rounds from a closed set stay at it
  pub settle-closed : (n : ℕ) (S : List A) → IsClosed system S → settle system n S ≡ settled S
  settle-closed zero S closed = settle-zero system laws S closed.calm
  settle-closed (suc n) S closed =
      let still : with_all system.same S (all_given system S) ≡ S
      = with_all_same system.same laws.exact laws.itself S (all_given system S) closed.given in
      let clear : system.is_clear (with_all system.same S (all_given system S)) ≡ true
      = ap system.is_clear still ∙ closed.clear in
      settle-next system laws n S closed.calm clear ∙ (ap (settle system n) still ∙ settle-closed n S closed)

  -- the set that rounds end at: clear, without doubles, with all that they began with, and closed or as many atoms
  -- longer
  pub record Ended (n : ℕ) (S R : List A) : Type 0 where
    pub clear : system.is_clear R ≡ true
    pub distinct : IsDistinct system.same R
    pub has_all : Within system.same S R
    pub closed_or_long : IsClosed system R ⊎ (length S + n ≤ length R)

  -- a round that was run: calm, clear, and the rest settles
  pub record Ran (n : ℕ) (S R : List A) : Type 0 where
    pub calm : some_clash system S ≡ false
    pub clear : system.is_clear (next_round system S) ≡ true
    pub rest : settle system n (next_round system S) ≡ settled R

  pub ran : (n : ℕ) (S R : List A) → settle system (suc n) S ≡ settled R → Ran n S R
  ran n S R e =
      elim (some_clash system S) as (λ b. some_clash system S ≡ b
      → cond b broken (cond (system.is_clear (next_round system S)) (settle system n (next_round system S)) broken)
      ≡ settled R → Ran n S R) [
        | true ↦ λ p q. absurd (cc)
        | false ↦ λ p. elim (system.is_clear (next_round system S)) as (λ b. system.is_clear (next_round system S) ≡ b
            → cond b (settle system n (next_round system S)) broken ≡ settled R → Ran n S R) [
              | true ↦ λ r q. record { calm = p; clear = r; rest = q }
              | false ↦ λ r q. absurd (cc)
            ] refl
      ] refl e

  pub ended_zero : (S R : List A) → system.is_clear S ≡ true → IsDistinct system.same S
      → settle system zero S ≡ settled R → Ended zero S R
  ended_zero S R clear distinct e =
      elim (some_clash system S) as (λ b. cond b broken (settled S) ≡ settled R → Ended zero S R) [
        | true ↦ λ q. absurd (cc)
        | false ↦ λ q.
            let same : S ≡ R = cc in
            subst (Ended zero S) same
            (record { clear = clear; distinct = distinct; has_all = λ a h. h; closed_or_long = inr (omega arith) })
      ] e

  pub ended : (n : ℕ) (S R : List A) → system.is_clear S ≡ true → IsDistinct system.same S
      → settle system n S ≡ settled R → Ended n S R
  ended zero S R clear distinct e = ended_zero S R clear distinct e
  ended (suc n) S R clear distinct e =
      let r : Ran n S R = ran n S R e in
      let next = next_round system S in
      let rest : Ended n next R
      = ended n next R r.clear (with_all_distinct system.same laws.exact laws.itself S (all_given system S) distinct)
      r.rest in
      let all : Within system.same S R
      = λ a h. rest.has_all a (with_all_left system.same laws.exact laws.itself S (all_given system S) a h) in
      elim (missing (has system.same S) system.same laws.itself laws.exact (all_given system S)) [
        | inl stands ↦
            let closed : IsClosed system S = record { clear = clear; calm = r.calm; given = stands } in
            let is : settled S ≡ settled R = sym (settle-closed (suc n) S closed) ∙ e in
            let same : S ≡ R = cc in
            record {
              clear = rest.clear;
              distinct = rest.distinct;
              has_all = all;
              closed_or_long = inl (subst (IsClosed system) same closed);
            }
        | inr one ↦
            let longer : length S < length next
            = with_all_longer system.same laws.exact laws.itself S (all_given system S) one.0 one.1 one.2 in
            record {
              clear = rest.clear;
              distinct = rest.distinct;
              has_all = all;
              closed_or_long = elim rest.closed_or_long [ inl c ↦ inl c | inr l ↦ inr (omega arith) ];
            }
      ]

  -- what rounds began with stands in the set that they end at
  pub settled_holds : (n : ℕ) (S R : List A) → settle system n S ≡ settled R → Within system.same S R
  settled_holds zero S R e =
      elim (some_clash system S) as (λ b. cond b broken (settled S) ≡ settled R → Within system.same S R) [
        | true ↦ λ q. absurd (cc)
        | false ↦ λ q. let same : S ≡ R = cc in λ a h. subst (λ set. has system.same set a ≡ true) same h
      ] e
  settled_holds (suc n) S R e =
      let r : Ran n S R = ran n S R e in
      λ a h. settled_holds n (next_round system S) R r.rest a
      (with_all_left system.same laws.exact laws.itself S (all_given system S) a h)

  -- where no clear set without doubles has more atoms than rounds are run from a base that isn't empty, they end closed
  pub enough_rounds : (n : ℕ) (base R : List A) → system.is_clear base ≡ true → IsDistinct system.same base
      → 0 < length base
      → ((T : List A) → system.is_clear T ≡ true → IsDistinct system.same T → length T ≤ n)
      → settle system n base ≡ settled R → IsClosed system R
  enough_rounds n base R clear distinct some bound e =
      let r : Ended n base R = ended n base R clear distinct e in
      elim r.closed_or_long [
        | inl c ↦ c
        | inr l ↦ let most : length R ≤ n = bound R r.clear r.distinct in absurd (omega arith)
      ]

  -- a base to settle from by so many rounds
  pub record IsBase (n : ℕ) (base : List A) : Type 0 where
    pub clear : system.is_clear base ≡ true
    pub distinct : IsDistinct system.same base
    pub some : 0 < length base
    pub bound : (T : List A) → system.is_clear T ≡ true → IsDistinct system.same T → length T ≤ n

  -- rounds end settled, at a set with the same atoms
  pub record SettlesLike (n : ℕ) (base set : List A) : Type 0 where
    pub reached : List A
    pub is : settle system n base ≡ settled reached
    pub alike : (a : A) → has system.same reached a ≡ has system.same set a

  -- a set that grew from the base and is closed is the one that rounds settle at
  pub settles_as_grown : (n : ℕ) (base added : List A) → IsBase n base → Grows system base added
      → IsClosed system (added ++ base)
      → SettlesLike n base (added ++ base)
  settles_as_grown n base added b grows closed =
      let inside : Within system.same base (added ++ base)
      = grown_base base added in
      let r : EndsWithin system laws n base (added ++ base)
      = settles_within system laws n base (added ++ base) closed inside in
      let end : Ended n base r.set = ended n base r.set b.clear b.distinct r.is in
      let whole : IsClosed system r.set = enough_rounds n base r.set b.clear b.distinct b.some b.bound r.is in
      let back : Within system.same (added ++ base) r.set
      = grown_within system laws base added r.set whole end.has_all grows in
      record {
        reached = r.set;
        is = r.is;
        alike = λ a. same_test (has system.same r.set a) (has system.same (added ++ base) a) (r.within a) (back a);
      }
    where
      grown_base : (base added : List A) → Within system.same base (added ++ base)
      grown_base base [] a h = h
      grown_base base (x ∷ added) a h =
          has_more system.same laws.exact laws.itself x (added ++ base) a (grown_base base added a h)

  -- where a giver gives an atom at a set that grew, with which the set isn't clear, rounds are broken
  pub broken_as_grown : (n : ℕ) (base added : List A) (o : O) (a : A) → IsBase n base → Grows system base added
      → IsIn o system.givers → has system.same (atoms_of (system.gives o (added ++ base))) a ≡ true
      → system.is_clear (a ∷ (added ++ base)) ≡ false → settle system n base ≡ broken
  broken_as_grown n base added o a b grows i given unclear =
      elim (settle system n base) as (λ s. settle system n base ≡ s → s ≡ broken) [
        | broken ↦ λ e. refl
        | settled R ↦ λ e.
            let end : Ended n base R = ended n base R b.clear b.distinct e in
            let whole : IsClosed system R = enough_rounds n base R b.clear b.distinct b.some b.bound e in
            let back : Within system.same (added ++ base) R
            = grown_within system laws base added R whole end.has_all grows in
            let stands : has system.same R a ≡ true
            = given_stands system laws (added ++ base) R o a i whole back given in
            let inside : Within system.same (a ∷ (added ++ base)) R
            = within_cons system.same laws.exact laws.itself a (added ++ base) R stands back in
            absurd (both (laws.smaller (a ∷ (added ++ base)) R inside whole.clear) unclear)
      ] refl

  -- a longer list that grew, with these atoms besides
  pub record Grown (base added fresh : List A) : Type 0 where
    pub now : List A
    pub grows : Grows system base now
    pub old : Within system.same (added ++ base) (now ++ base)
    pub new : Within system.same fresh (now ++ base)
    pub only : (b : A) → has system.same (now ++ base) b ≡ true
        → (has system.same fresh b ≡ true) ⊎ (has system.same (added ++ base) b ≡ true)

  -- a giver that gives, at a set that grew within a whole, an atom of the whole with which the set isn't clear
  pub record Breaks (base whole : List A) (o : O) : Type 0 where
    pub added : List A
    pub grows : Grows system base added
    pub atom : A
    pub given : has system.same (atoms_of (system.gives o (added ++ base))) atom ≡ true
    pub unclear : system.is_clear (atom ∷ (added ++ base)) ≡ false
    pub inside : Within system.same (atom ∷ (added ++ base)) whole

  -- what a giver that never clashes gives at a part of a set that grew comes one by one, or at one atom the set isn't
  -- clear
  pub grows_or_breaks : (base whole added start fresh : List A) (o : O) → IsIn o system.givers
      → ((T : List A) → is_clash (system.gives o T) ≡ false)
      → system.is_clear base ≡ true → Grows system base added → Within system.same start (added ++ base)
      → Within system.same (added ++ base) whole → Within system.same fresh whole
      → ((a : A) → has system.same fresh a ≡ true → has system.same (atoms_of (system.gives o start)) a ≡ true)
      → Grown base added fresh ⊎ Breaks base whole o
  grows_or_breaks base whole added start [] o i calm clear grows below in_old in_new given =
      inl (record { now = added; grows = grows; old = λ a h. h; new = λ a h. absurd (cc); only = λ b h. inr h })
  grows_or_breaks base whole added start (a ∷ fresh) o i calm clear grows below in_old in_new given =
      let S = added ++ base in
      let S_clear : system.is_clear S ≡ true = grown_clear system laws base added clear grows in
      let first : has system.same (a ∷ fresh) a ≡ true = has_first system.same laws.exact laws.itself a fresh in
      let more = has_more system.same laws.exact laws.itself a fresh in
      let later : (b : A) → has system.same fresh b ≡ true → has system.same (atoms_of (system.gives o start)) b ≡ true
      = λ b h. given b (more b h) in
      let in_later : Within system.same fresh whole = λ b h. in_new b (more b h) in
      let in_next : Within system.same (a ∷ S) whole
      = within_cons system.same laws.exact laws.itself a S whole (in_new a first) in_old in
      elim (laws.atom o start S a i S_clear below (given a first)) [
        | inl stands ↦ elim (grows_or_breaks base whole added start fresh o i calm clear grows below in_old in_later
            later) [
              | inl g ↦ inl (record {
                now = g.now;
                grows = g.grows;
                old = g.old;
                new = within_cons system.same laws.exact laws.itself a fresh (g.now ++ base) (g.old a stands) g.new;
                only = λ b h. elim (g.only b h) [ inl p ↦ inl (more b p) | inr p ↦ inr p ];
              })
              | inr e ↦ inr e
            ]
        | inr r ↦ elim r [
          | inl here ↦ elim (told (system.is_clear (a ∷ S))) [
            | inl fine ↦
                let stand = has_more system.same laws.exact laws.itself a S in
                let next : Grows system base (a ∷ added)
                = (grows, given_of system laws (λ g. atoms_of (system.gives g S)) o system.givers a i here, fine) in
                elim (grows_or_breaks base whole (a ∷ added) start fresh o i calm clear next
                (λ b h. stand b (below b h)) in_next in_later later) [
                  | inl g ↦ inl (record {
                    now = g.now;
                    grows = g.grows;
                    old = λ b h. g.old b (stand b h);
                    new = within_cons system.same laws.exact laws.itself a fresh (g.now ++ base)
                        (g.old a (has_first system.same laws.exact laws.itself a S)) g.new;
                    only = λ b h. elim (g.only b h) [
                      | inl p ↦ inl (more b p)
                      | inr p ↦ elim (has_cases system.same laws.exact laws.itself a S b p) [
                        | inl q ↦ inl (subst (λ z. has system.same (a ∷ fresh) z ≡ true) (sym q) first)
                        | inr q ↦ inr q
                      ]
                    ];
                  })
                  | inr e ↦ inr e
                ]
            | inr bad ↦ inr (record
                { added = added; grows = grows; atom = a; given = here; unclear = bad; inside = in_next })
          ]
          | inr clashes ↦ absurd (both clashes (calm S))
        ]
      ]

  -- a set that grew, with all that a giver gives at it
  abbrev pub with_given : O → List A → List A
  with_given o set = atoms_of (system.gives o set) ++ set

  pub front_within : (o : O) (set : List A) → Within system.same (atoms_of (system.gives o set)) (with_given o set)
  front_within o set a h = has_front system.same laws.exact laws.itself (atoms_of (system.gives o set)) set a h

  pub back_within : (o : O) (set : List A) → Within system.same set (with_given o set)
  back_within o set a h = has_back system.same laws.exact laws.itself (atoms_of (system.gives o set)) set a h

  pub grows_or_breaks_at : (base added : List A) (o : O) → IsIn o system.givers
      → ((T : List A) → is_clash (system.gives o T) ≡ false)
      → system.is_clear base ≡ true → Grows system base added
      → Grown base added (atoms_of (system.gives o (added ++ base))) ⊎ Breaks base (with_given o (added ++ base)) o
  grows_or_breaks_at base added o i calm clear grows =
      let set = added ++ base in
      grows_or_breaks base (with_given o set) added set (atoms_of (system.gives o set)) o i calm clear grows (λ a h. h)
      (back_within o set)
      (front_within o set) (λ a h. h)

  -- where the set with all that a giver gives is clear, the set grows so; where it isn't, the giver breaks it
  pub grows_all : (base added : List A) (o : O) → IsIn o system.givers
      → ((T : List A) → is_clash (system.gives o T) ≡ false)
      → system.is_clear base ≡ true → Grows system base added → system.is_clear (with_given o (added ++ base)) ≡ true
      → Grown base added (atoms_of (system.gives o (added ++ base)))
  grows_all base added o i calm clear grows fine =
      elim (grows_or_breaks_at base added o i calm clear grows) [
        | inl g ↦ g
        | inr b ↦ absurd (both (laws.smaller (b.atom ∷ (b.added ++ base)) (with_given o (added ++ base)) b.inside fine)
            b.unclear)
      ]

  pub breaks_some : (base added : List A) (o : O) → IsIn o system.givers
      → ((T : List A) → is_clash (system.gives o T) ≡ false)
      → system.is_clear base ≡ true → Grows system base added → system.is_clear (with_given o (added ++ base)) ≡ false
      → Breaks base (with_given o (added ++ base)) o
  breaks_some base added o i calm clear grows bad =
      elim (grows_or_breaks_at base added o i calm clear grows) [
        | inl g ↦
            let set = added ++ base in
            let inside : Within system.same (with_given o set) (g.now ++ base)
            = λ a h. elim (has_either system.same laws.exact laws.itself (atoms_of (system.gives o set)) set a h) [
              | inl p ↦ g.new a p
              | inr p ↦ g.old a p
            ] in
            absurd (both (laws.smaller (with_given o set) (g.now ++ base) inside
            (grown_clear system laws base g.now clear g.grows)) bad)
        | inr b ↦ b
      ]
