-- The line that is told is the first behind which no chain file goes on.
use Rattle.std.proofs.Common.{◌≡◌, ℕ, zero, suc, ◌+◌, ◌≤◌, Bool, false, List, [], ◌∷◌, ◌++◌, length, take, refl}
use Rattle.std.proofs.Common.{arith, Some, None}
use Rattle.std.specs.Prelude.{Option, Result, Ok, Err, codes}
use Rattle.vc_plan.specs.declared.plans.Plan.{Plan}
use Rattle.vc_wire_chains.specs.declared.drafts.ChainFile.{ChainFile}
use Rattle.vc_wire_chains.specs.declared.drafts.Draft.{Draft}
use Rattle.vc_wire_chains.specs.declared.drafts.Stage.{Stage}
use Rattle.vc_wire_chains.specs.declared.drafts.Stage.TheVariants.{Stepping, Clashed, Ended}
use Rattle.vc_wire_chains.specs.Files.{begun, chain_in, finished, kind_of, next, or_fault, read_from, read_kind}
use Rattle.vc_wire_chains.specs.Laws.{BeginAFile, FirstFaultIsTold}

same_fault : (m n : ℕ) → ◌≡◌ {A = Result ChainFile ℕ} (Err m) (Err n) → m ≡ n
same_fault m n e = cc

-- the line that is told isn't before the first that is read
told_behind : (plan : Plan) (d : Draft) (k : ℕ) (lines : List (List ℕ)) (n : ℕ) → read_from plan d k lines ≡ Err n
    → k ≤ n
told_behind plan d k [] n e = by d.stage e
  where
    by : (s : Stage) → finished d k s ≡ Err n → k ≤ n
    by Stepping h = let same : k ≡ n = cc in omega (arith, same)
    by Clashed h = let same : k ≡ n = cc in omega (arith, same)
    by Ended h = cc
told_behind plan d k (line ∷ lines) n e = by (next plan d line) (λ g. told_behind plan g (k + 1) lines n) e
  where
    by : (o : Option Draft) → ((g : Draft) → read_from plan g (k + 1) lines ≡ Err n → k + 1 ≤ n)
        → or_fault k o (λ g. read_from plan g (k + 1) lines) ≡ Err n → k ≤ n
    by None later h = let same : k ≡ n = cc in omega (arith, same)
    by (Some g) later h = let more : k + 1 ≤ n = later g h in omega (arith, more)

-- with that line, no file goes on
none_goes_on : (plan : Plan) (d : Draft) (k : ℕ) (lines : List (List ℕ)) (t n : ℕ) (more : List (List ℕ))
    (file : ChainFile) → read_from plan d k lines ≡ Err n → n + 1 ≡ k + t → t ≤ length lines
    → read_from plan d k (take t lines ++ more) ≡ Ok file → ⊥
none_goes_on plan d k lines zero n more file e at within h =
    let behind : k ≤ n = told_behind plan d k lines n e in
    absurd (omega (arith, behind, at))
none_goes_on plan d k [] (suc t) n more file e at within h = absurd (omega (arith, within))
none_goes_on plan d k (line ∷ lines) (suc t) n more file e at within h =
    let later : n + 1 ≡ (k + 1) + t = omega (arith, at) in
    let less : t ≤ length lines = omega (arith, within) in
    by (next plan d line) (λ g e h. none_goes_on plan g (k + 1) lines t n more file e later less h) e h
  where
    by : (o : Option Draft)
        → ((g : Draft) → read_from plan g (k + 1) lines ≡ Err n
        → read_from plan g (k + 1) (take t lines ++ more) ≡ Ok file → ⊥)
        → or_fault k o (λ g. read_from plan g (k + 1) lines) ≡ Err n
        → or_fault k o (λ g. read_from plan g (k + 1) (take t lines ++ more)) ≡ Ok file → ⊥
    by None rest e h = cc
    by (Some g) rest e h = rest g e h

-- where a file stands, some lines end it
abbrev GoesOn : Plan → Draft → ℕ → List (List ℕ) → Type 0
GoesOn plan d k front =
    (more : List (List ℕ)) × (file : ChainFile) × (read_from plan d k (front ++ more) ≡ Ok file)

some_end : (plan : Plan) (s : Stage) (file : ChainFile) (k : ℕ) → GoesOn plan (record { stage = s; file = file }) k []
some_end plan Stepping file k = (codes "end" ∷ [], file, refl)
some_end plan Clashed file k = (codes "end" ∷ [], file, refl)
some_end plan Ended file k = ([], file, refl)

-- before that line, some file goes on
some_goes_on : (plan : Plan) (d : Draft) (k : ℕ) (lines : List (List ℕ)) (t n : ℕ) → read_from plan d k lines ≡ Err n
    → n ≡ k + t → GoesOn plan d k (take t lines)
some_goes_on plan d k [] zero n e at = some_end plan d.stage d.file k
some_goes_on plan d k [] (suc t) n e at = some_end plan d.stage d.file k
some_goes_on plan d k (line ∷ lines) zero n e at = some_end plan d.stage d.file k
some_goes_on plan d k (line ∷ lines) (suc t) n e at =
    let later : n ≡ (k + 1) + t = omega (arith, at) in
    by (next plan d line) (λ g e. some_goes_on plan g (k + 1) lines t n e later) e
  where
    by : (o : Option Draft)
        → ((g : Draft) → read_from plan g (k + 1) lines ≡ Err n → GoesOn plan g (k + 1) (take t lines))
        → or_fault k o (λ g. read_from plan g (k + 1) lines) ≡ Err n
        → (more : List (List ℕ)) × (file : ChainFile)
        × (or_fault k o (λ g. read_from plan g (k + 1) (take t lines ++ more)) ≡ Ok file)
    by None rest h = let same : k ≡ n = cc in absurd (omega (arith, same, at))
    by (Some g) rest h = rest g h

a_file : (plan : Plan) → BeginAFile plan []
a_file plan = (codes "chain" ∷ codes "end" ∷ [], (begun false).file, refl)

before_fault : (plan : Plan) (lines : List (List ℕ)) (n before : ℕ) → chain_in plan lines ≡ Err n → n ≡ before + 1
    → BeginAFile plan (take before lines)
before_fault plan [] n zero e at = a_file plan
before_fault plan [] n (suc before) e at = a_file plan
before_fault plan (head ∷ lines) n zero e at = a_file plan
before_fault plan (head ∷ lines) n (suc before) e at = by (kind_of head) e
  where
    by : (o : Option Bool) → read_kind plan o lines ≡ Err n
        → (more : List (List ℕ)) × (file : ChainFile) × (read_kind plan o (take before lines ++ more) ≡ Ok file)
    by None h = let same : 1 ≡ n = cc in absurd (omega (arith, same, at))
    by (Some whole) h =
        let behind : n ≡ 2 + before = omega (arith, at) in
        some_goes_on plan (begun whole) 2 lines before n h behind

behind_fault : (plan : Plan) (lines : List (List ℕ)) (n : ℕ) → chain_in plan lines ≡ Err n → n ≤ length lines
    → BeginAFile plan (take n lines) → ⊥
behind_fault plan [] zero e within front = let same = same_fault 1 0 e in absurd (omega (arith, same))
behind_fault plan [] (suc n) e within front = absurd (omega (arith, within))
behind_fault plan (head ∷ lines) zero e within front = by (kind_of head) e
  where
    by : (o : Option Bool) → read_kind plan o lines ≡ Err 0 → ⊥
    by None h = let same = same_fault 1 0 h in absurd (omega (arith, same))
    by (Some whole) h =
        let behind : 2 ≤ 0 = told_behind plan (begun whole) 2 lines 0 h in
        absurd (omega (arith, behind))
behind_fault plan (head ∷ lines) (suc n) e within front = by (kind_of head) e front.2
  where
    by : (o : Option Bool) → read_kind plan o lines ≡ Err (suc n)
        → read_kind plan o (take n lines ++ front.0) ≡ Ok front.1 → ⊥
    by None h g = cc
    by (Some whole) h g =
        let at : suc n + 1 ≡ 2 + n = omega arith in
        let less : n ≤ length lines = omega (arith, within) in
        none_goes_on plan (begun whole) 2 lines n (suc n) front.0 front.1 h at less g

pub first_fault : FirstFaultIsTold
first_fault plan lines n e = (λ before at. before_fault plan lines n before e at, behind_fault plan lines n e)
