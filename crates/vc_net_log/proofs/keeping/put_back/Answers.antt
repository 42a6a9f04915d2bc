-- The first fact has a place of its own; it is put back where it stays, and then those after it.
use Rattle.std.proofs.Common.{◌-◌, ◌∙◌, ap, drop, get_or, length, subst, sym, take}
use Rattle.vc_plan.specs.declared.atoms.Atom.TheVariants.{Here}
use Rattle.vc_plan.specs.declared.atoms.Origin.TheVariants.{Rule}
use Rattle.vc_net_standing.specs.declared.standing.Fact.{Fact}
use Rattle.vc_net_standing.specs.Standing.{Stood}
use Rattle.vc_net_log.specs.Staying.{AreApart, differs, needed, stays}
use Rattle.vc_net_log.proofs.OutLaws.{raised_long}
use Rattle.vc_net_log.proofs.KeepLaws.{apart_with, apart_without, counted_here, first_apart, goes_here, outs_small}
use Rattle.vc_net_log.proofs.KeepLaws.{place_free, stays_here}
use Rattle.vc_net_log.proofs.keeping.put_back.Goals as goal

-- what is read past the end
abbrev nobody : Fact
nobody = record { atom = Here 0; origin = Rule 0 }

pub put-requires : goal.put-requires
put-requires c =
    place_free c.loop-rest.standing _ (take (length c.loop-rest.rest.now - 1) (drop 1 c.loop-rest.rest.now))
    (first_apart c.loop-rest.standing c.loop-rest.rest.now nobody c.in-len1-up.len_at_least c.loop-rest.invariant.2)

pub count_one_more-requires : goal.count_one_more-requires
count_one_more-requires c =
    outs_small c.loop-rest.standing _ (take (length c.loop-rest.rest.now - 1) (drop 1 c.loop-rest.rest.now))
    (first_apart c.loop-rest.standing c.loop-rest.rest.now nobody c.in-len1-up.len_at_least c.loop-rest.invariant.2)
    c.loop-rest.outs c.loop-rest.invariant.3

pub loop-rest-preserved-then-stays : goal.loop-rest-preserved-then-stays
loop-rest-preserved-then-stays c =
    let stood = c.loop-rest.standing in
    let index = c.args.standing.now.index in
    let gone = differs c.args.old.now c.args.new.now in
    let needs = needed index c.args.cells.now c.args.counts.now c.args.premises.now in
    let more = ap (λ (s : Stood). s.facts) c.put.ensures in (
      ap (λ (s : Stood). s.index) c.put.ensures ∙ c.loop-rest.invariant.0,
      stays_here stood c.loop-rest.rest.now nobody c.in-len1-up.len_at_least index gone needs
          (ap (λ i. stays i gone (needed i c.args.cells.now c.args.counts.now c.args.premises.now) stood.facts
          (get_or c.loop-rest.rest.now 0 nobody))
          (sym c.loop-rest.invariant.0)
          ∙ (sym c.stays.ensures ∙ c.if-stays.true)) c.put.new.self.facts more
          ∙ c.loop-rest.invariant.1,
      subst (λ s. AreApart s (take (length c.loop-rest.rest.now - 1) (drop 1 c.loop-rest.rest.now)))
          (sym c.put.ensures)
          (apart_with stood (get_or c.loop-rest.rest.now 0 nobody)
          (take (length c.loop-rest.rest.now - 1) (drop 1 c.loop-rest.rest.now))
          (first_apart stood c.loop-rest.rest.now nobody c.in-len1-up.len_at_least
          c.loop-rest.invariant.2)),
      counted_here stood c.loop-rest.rest.now nobody c.in-len1-up.len_at_least c.put.new.self.facts c.loop-rest.outs
          c.count_one_more.new.outs more c.count_one_more.ensures c.loop-rest.invariant.3,
      ap (λ outs. length outs) c.count_one_more.ensures ∙ (raised_long _ c.loop-rest.outs ∙ c.loop-rest.invariant.4),
    )

pub loop-rest-preserved : goal.loop-rest-preserved
loop-rest-preserved c =
    let stood = c.loop-rest.standing in
    let index = c.args.standing.now.index in
    let gone = differs c.args.old.now c.args.new.now in
    let needs = needed index c.args.cells.now c.args.counts.now c.args.premises.now in (
      c.loop-rest.invariant.0,
      goes_here stood c.loop-rest.rest.now nobody c.in-len1-up.len_at_least index gone needs
          (ap (λ i. stays i gone (needed i c.args.cells.now c.args.counts.now c.args.premises.now) stood.facts
          (get_or c.loop-rest.rest.now 0 nobody))
          (sym c.loop-rest.invariant.0)
          ∙ (sym c.stays.ensures ∙ c.if-stays.false))
          ∙ c.loop-rest.invariant.1,
      apart_without stood (get_or c.loop-rest.rest.now 0 nobody)
          (take (length c.loop-rest.rest.now - 1) (drop 1 c.loop-rest.rest.now))
          (first_apart stood c.loop-rest.rest.now nobody c.in-len1-up.len_at_least
          c.loop-rest.invariant.2),
      c.loop-rest.invariant.3,
      c.loop-rest.invariant.4,
    )
