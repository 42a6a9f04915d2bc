use Rattle.std.proofs.Common.{◌≡◌, ◌+◌, ◌<◌, ◌≤◌, false, arith, rules, subst, Contains, ap, ◌∙◌}
use Rattle.std.specs.Prelude.{◌==◌}
use Rattle.std.specs.List.{list_any}
use Rattle.vc_outside.specs.Faults.{Calls, faults_of, count_upto}
use Rattle.vc_outside.proofs.Counting.{count_upto-le, count_upto-lt, count_upto-same}
use Rattle.vc_outside.proofs.fault.Failures.next_fails.Goals as goal

pub returns-in-Some-clause-later : goal.returns-in-Some-clause-later
returns-in-Some-clause-later c =
    let step = c.in-Some.ensures in
    let P : Calls → Type 0
    = λ calls. faults_of calls ≤ faults_of
    (record { made = c.in-Some.made; failing = c.self.inside.failing.items }) in
    subst P c.self.view_is (count_upto-le c.self.inside.failing.items c.self.inside.made c.in-Some.made (omega arith))

pub returns-in-Some-clause-raised : goal.returns-in-Some-clause-raised
returns-in-Some-clause-raised c = λ fails.
    let step = c.in-Some.ensures in
    let has : Contains c.self.inside.failing.items c.in-Some.made = search rules in
    let P : Calls → Type 0
    = λ calls. faults_of calls < faults_of
    (record { made = c.in-Some.made; failing = c.self.inside.failing.items }) in
    subst P c.self.view_is
    (count_upto-lt c.self.inside.failing.items c.self.inside.made c.in-Some.made (omega arith) has.0 has.1 has.2)

pub returns-in-Some-clause-calm : goal.returns-in-Some-clause-calm
returns-in-Some-clause-calm c = λ passes.
    let step = c.in-Some.ensures in
    let P : Calls → Type 0
    = λ calls. faults_of (record { made = c.in-Some.made; failing = c.self.inside.failing.items })
    ≡ faults_of calls in
    let none : list_any (λ number. number == c.self.inside.made + 1) c.self.inside.failing.items ≡ false
    = search rules in
    let next : c.in-Some.made ≡ c.self.inside.made + 1 = search rules in
    subst P c.self.view_is
    (ap (λ n. count_upto n c.self.inside.failing.items) next
    ∙ count_upto-same c.self.inside.failing.items c.self.inside.made none)
