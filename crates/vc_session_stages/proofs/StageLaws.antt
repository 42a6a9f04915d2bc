-- Stages by what their sets say.
use Rattle.std.proofs.Common.{◌≡◌, ℕ, zero, suc, ◌+◌, ◌-◌, not, ◌&&◌, List, [], ◌∷◌, ◌++◌, length, map, refl, sym, ap}
use Rattle.std.proofs.Common.{◌∙◌, arith, subst}
use Rattle.std.specs.Prelude.{Option, None, Some}
use Rattle.std.proofs.lemmas.List.{length-append, length-map, map-append}
use Rattle.vc_base.specs.Rounds.{Settlement, broken, settled}
use Rattle.vc_base.specs.Sets.{Within}
use Rattle.vc_value.specs.declared.value.Value.{Value}
use Rattle.vc_plan.specs.declared.atoms.Atom.{Atom}
use Rattle.vc_plan.specs.declared.atoms.Atom.TheVariants.{Here, Out}
use Rattle.vc_plan.specs.declared.plans.Plan.{Plan}
use Rattle.vc_plan.specs.Entries.{Entries, no_entries}
use Rattle.vc_plan.specs.Evaluate.{Users, between, broken_at, if_settled, last_set, reached, sources_of}
use Rattle.vc_plan.specs.Evaluate.{stages_from}
use Rattle.vc_plan.specs.Seen.{Seen, same_atom, seen_of, value_in}
use Rattle.vc_plan.specs.Settle.{settlement_of}
use Rattle.vc_plan.specs.Writes.{depth_of, last_stage, set_at, was_here}
use Rattle.vc_plan.proofs.PlanLaws.Extending.{Extends, extends}
use Rattle.vc_plan.proofs.PlanLaws.Facts.{part_clear}
use Rattle.vc_session_stages.specs.Stages.{ComesTo, LastSetSettles, LateIsSeen, SetsSayTheSame, StagesBegin}
use Rattle.vc_session_stages.specs.Stages.{StagesBreak, StagesGoOn, StagesSettle, WasHereIsSeen, seen_at}

-- what the set of a stage says
pub said_at : (sets : List (List Atom)) (k : ℕ) → seen_at (map seen_of sets) k ≡ seen_of (set_at sets k)
said_at [] k = refl
said_at (set ∷ sets) zero = refl
said_at (set ∷ sets) (suc k) = said_at sets k

pub was_is : WasHereIsSeen
was_is plan sets i = ap (λ seen. seen.here i) (sym (said_at sets (depth_of plan i)))

pub stages_begin : StagesBegin
stages_begin plan users = record {
  sets = [];
  seen = refl;
  comes = (refl, refl);
  onwards = λ later e. let all : later
      ≡ last_stage plan = omega (arith, e) in ap (λ n. stages_from plan users n [] (no_entries plan)) all;
}

-- the stages from a settled one on
settles_on : (plan : Plan) (users : Users) (later : ℕ) (sets : List (List Atom)) (set : List Atom) (entries : Entries)
    → settlement_of plan (sources_of users entries) ≡ settled set
    → stages_from plan users (suc later) sets entries
    ≡ stages_from plan users later (sets ++ set ∷ []) (between plan users later sets set entries)
settles_on plan users later sets set entries e =
    ap (λ s. if_settled s (broken_at (length sets) entries)
    (λ found. stages_from plan users later (sets ++ found ∷ []) (between plan users later sets found entries))) e

seen_more : (sets : List (List Atom)) (stages : List Seen) (set : List Atom) → map seen_of sets ≡ stages
    → map seen_of (sets ++ set ∷ []) ≡ stages ++ seen_of set ∷ []
seen_more sets stages set e = map-append seen_of sets (set ∷ []) ∙ ap (λ all. all ++ seen_of set ∷ []) e

pub stages_go_on : StagesGoOn
stages_go_on plan users stages entries set later so_far more e = record {
  sets = so_far.sets ++ set ∷ [];
  seen = seen_more so_far.sets stages set so_far.seen;
  comes =
      let count : suc (length stages) ≡ length (stages ++ seen_of set ∷ [])
      = omega (arith, length-append stages (seen_of set ∷ [])) in
      let left : later ≡ last_stage plan - suc (length stages) = omega (arith, more) in
      subst (λ k. ComesTo plan users k (so_far.sets ++ set ∷ []) (between plan users later so_far.sets set entries))
      count (
        so_far.sets,
        entries,
        set,
        so_far.comes,
        e,
        refl,
        ap (λ n. between plan users n so_far.sets set entries) left,
      );
  onwards = λ n long.
      let count : length (stages ++ seen_of set ∷ []) ≡ length stages + 1 = length-append stages (seen_of set ∷ []) in
      let same : n ≡ later = omega (arith, long, count, more) in
      ap (λ k. stages_from plan users k (so_far.sets ++ set ∷ []) (between plan users later so_far.sets set entries))
      same
      ∙ (sym (settles_on plan users later so_far.sets set entries e) ∙ so_far.onwards (suc later) more);
}

-- as many sets as stages
as_many : (sets : List (List Atom)) (stages : List Seen) → map seen_of sets ≡ stages → length sets ≡ length stages
as_many sets stages e = sym (length-map sets seen_of) ∙ ap length e

breaks_off : (plan : Plan) (users : Users) (later : ℕ) (sets : List (List Atom)) (entries : Entries)
    → settlement_of plan (sources_of users entries) ≡ broken
    → stages_from plan users later sets entries ≡ broken_at (length sets) entries
breaks_off plan users zero sets entries e =
    ap (λ s. if_settled s (broken_at (length sets) entries) (λ set. reached (sets ++ set ∷ []) entries)) e
breaks_off plan users (suc later) sets entries e =
    ap (λ s. if_settled s (broken_at (length sets) entries)
    (λ set. stages_from plan users later (sets ++ set ∷ []) (between plan users later sets set entries))) e

pub stages_break : StagesBreak
stages_break plan users stages entries so_far few e =
    let later : ℕ = last_stage plan - length stages in
    sym (so_far.onwards later (omega (arith, few)))
    ∙ (breaks_off plan users later so_far.sets entries e
    ∙ ap (λ k. broken_at k entries) (as_many so_far.sets stages so_far.seen))

pub stages_settle : StagesSettle
stages_settle plan users stages entries set so_far last e = record {
  sets = so_far.sets ++ set ∷ [];
  seen = seen_more so_far.sets stages set so_far.seen;
  whole =
      sym (so_far.onwards 0 (omega (arith, last)))
      ∙ ap (λ s. if_settled s (broken_at (length so_far.sets) entries)
      (λ found. reached (so_far.sets ++ found ∷ []) entries)) e;
}

pub late_is_seen : LateIsSeen
late_is_seen plan sets i =
    ap (λ seen. seen.here i && not (was_here plan sets i)) (sym (said_at sets (last_stage plan)))
    ∙ ap (λ was. (seen_at (map seen_of sets) (last_stage plan)).here i && not was) (was_is plan sets i)

-- what each of two answers, where both extend each other
same_option : (o p : Option Value) → ((a : Value) → o ≡ Some a → p ≡ Some a) → ((a : Value) → p ≡ Some a → o ≡ Some a)
    → o ≡ p
same_option None None f g = refl
same_option None (Some b) f g = g b refl
same_option (Some a) p f g = sym (f a refl)

pub sets_say_the_same : SetsSayTheSame
sets_say_the_same plan set other clear same =
    let within : Within same_atom other set = λ atom h. same atom ∙ h in
    let over : Within same_atom set other = λ atom h. sym (same atom) ∙ h in
    let more : Extends plan (seen_of set) (seen_of other)
    = extends plan set other (part_clear plan other set clear within) over in
    let less : Extends plan (seen_of other) (seen_of set) = extends plan other set clear within in
    let value : (v : ℕ) → value_in set v ≡ value_in other v
    = λ v. same_option (value_in set v) (value_in other v) (λ a e. more.value v a e) (λ a e. less.value v a e) in
    λ j. record { here = λ i. same (Here i) j; out = λ v g. same (Out v g) j; value = λ v. value v j }

-- the set that a stage settled at comes behind those before it
set_behind : (sets : List (List Atom)) (set : List Atom) (k : ℕ) → k ≡ length sets → set_at (sets ++ set ∷ []) k ≡ set
set_behind [] set zero e = refl
set_behind [] set (suc k) e = absurd (omega (arith, e))
set_behind (first ∷ sets) set zero e = absurd (omega (arith, e))
set_behind (first ∷ sets) set (suc k) e = set_behind sets set k (omega (arith, e))

last_of_these : (plan : Plan) (users : Users) (later : ℕ) (before sets : List (List Atom)) (begun entries : Entries)
    → later + length before ≡ last_stage plan → stages_from plan users later before begun ≡ reached sets entries
    → settlement_of plan (sources_of users entries) ≡ settled (last_set plan sets)
last_of_these plan users zero before sets begun entries at ends =
    by (settlement_of plan (sources_of users begun)) refl ends
  where
    by : (s : Settlement Atom) → settlement_of plan (sources_of users begun) ≡ s
        → if_settled s (broken_at (length before) begun) (λ set. reached (before ++ set ∷ []) begun)
        ≡ reached sets entries
        → settlement_of plan (sources_of users entries) ≡ settled (last_set plan sets)
    by broken is e = absurd (cc e)
    by (settled set) is e =
        let all : before ++ set ∷ [] ≡ sets = cc in
        let same : begun ≡ entries = cc in
        let last : last_stage plan ≡ length before = omega (arith, at) in
        let found : set ≡ last_set plan sets
        = sym (set_behind before set (last_stage plan) last) ∙ ap (last_set plan) all in
        ap (λ es. settlement_of plan (sources_of users es)) (sym same) ∙ (is ∙ ap settled found)
last_of_these plan users (suc later) before sets begun entries at ends =
    by (settlement_of plan (sources_of users begun)) refl ends (λ set.
    last_of_these plan users later (before ++ set ∷ []) sets (between plan users later before set begun) entries
    (let more = length-append before (set ∷ []) in omega (arith, at, more)))
  where
    by : (s : Settlement Atom) → settlement_of plan (sources_of users begun) ≡ s
        → if_settled s (broken_at (length before) begun)
        (λ set. stages_from plan users later (before ++ set ∷ []) (between plan users later before set begun))
        ≡ reached sets entries
        → ((set : List Atom)
        → stages_from plan users later (before ++ set ∷ []) (between plan users later before set begun)
        ≡ reached sets entries → settlement_of plan (sources_of users entries) ≡ settled (last_set plan sets))
        → settlement_of plan (sources_of users entries) ≡ settled (last_set plan sets)
    by broken is e on = absurd (cc e)
    by (settled set) is e on = on set e

pub last_set_settles : LastSetSettles
last_set_settles plan users sets entries e =
    last_of_these plan users (last_stage plan) [] sets (no_entries plan) entries (omega arith) e
