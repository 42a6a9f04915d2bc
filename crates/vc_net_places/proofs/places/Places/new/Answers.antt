-- What is pushed is small where the atoms are, and puts the next variable's places after the others.
use Rattle.std.proofs.Common.{◌≡◌, ◌^◌, ◌∙◌, ◌++◌, [], ◌∷◌, ap, sym, arith, length, map}
use Rattle.vc_plan.specs.Domains.{numbers_below}
use Rattle.vc_net_places.specs.Places.{first_place, things_of_var}
use Rattle.vc_net_places.proofs.PlaceLaws.Numbering.{IsSmall, small}
use Rattle.vc_net_places.proofs.PlaceLaws.Things.{mapped_next, things_length, things_next}
use Rattle.vc_net_places.proofs.places.Places.new.Goals as goal

pub overflow_cast-len : goal.overflow_cast-len
overflow_cast-len c =
    let s : IsSmall c.args.plan.now c.loop-var.var (2 ^ 32)
    = small c.args.plan.now c.loop-var.var (2 ^ 32) (omega (arith, c.loop-var-test.true, c.len-var-end.ensures))
    c.requires in
    let is : c.len.result ≡ first_place c.args.plan.now c.loop-var.var
    = c.len.ensures ∙ (ap length c.loop-var.invariant.1 ∙ things_length c.args.plan.now c.loop-var.var) in
    omega (arith, s.first, is)

pub overflow_cast-var : goal.overflow_cast-var
overflow_cast-var c =
    let s : IsSmall c.args.plan.now c.loop-var.var (2 ^ 32)
    = small c.args.plan.now c.loop-var.var (2 ^ 32) (omega (arith, c.loop-var-test.true, c.len-var-end.ensures))
    c.requires in
    omega (arith, s.var)

pub append_var-requires : goal.append_var-requires
append_var-requires c =
    let s : IsSmall c.args.plan.now c.loop-var.var (2 ^ 32)
    = small c.args.plan.now c.loop-var.var (2 ^ 32) (omega (arith, c.loop-var-test.true, c.len-var-end.ensures))
    c.requires in
    s.count

pub loop-var-preserved : goal.loop-var-preserved
loop-var-preserved c =
    let plan = c.args.plan.now in
    let var = c.loop-var.var in
    let pushed = c.in_ok-push.ensures in
    let is : c.len.result ≡ first_place plan var
    = c.len.ensures ∙ (ap length c.loop-var.invariant.1 ∙ things_length plan var) in (
      pushed.ok
          ∙ (ap (λ xs. xs ++ c.len.result ∷ []) c.loop-var.invariant.0
          ∙ (ap (λ n. map (first_place plan) (numbers_below var) ++ n ∷ []) is
          ∙ sym (mapped_next (first_place plan) var))),
      c.in_ok-append_var.ensures
          ∙ (ap (λ xs. xs ++ things_of_var plan var) c.loop-var.invariant.1 ∙ sym (things_next plan var)),
    )
