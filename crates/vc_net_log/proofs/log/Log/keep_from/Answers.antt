-- What is left is kept as a log is.
use Rattle.std.proofs.Common.{◌≡◌, ◌++◌, ◌∙◌, ◌≤◌, ap, length, map, subst, sym}
use Rattle.std.specs.List.{position_or_len}
use Rattle.vc_net_standing.specs.Standing.{Stood, atoms_of}
use Rattle.vc_net_log.specs.Going.{WereTaken}
use Rattle.vc_net_log.specs.Keeping.{IsCounted, IsKept, log_kept, step_kept}
use Rattle.vc_net_log.specs.Logs.{facts_of}
use Rattle.vc_net_log.specs.Staying.{HasCells, differs}
use Rattle.vc_net_log.proofs.FirstLaws.{first_few}
use Rattle.vc_net_log.proofs.KeptLaws.{facts_by}
use Rattle.vc_net_log.proofs.LeftLaws.{again_rest, counted_front, has_cells, items_rest, left_is_kept, left_is_log}
use Rattle.vc_net_log.proofs.LeftLaws.{stood_is, stood_left, were_taken}
use Rattle.vc_net_log.proofs.log.Log.keep_from.Goals as goal

pub facts_from-requires : goal.facts_from-requires
facts_from-requires c =
    let s = c.self.inside in
    let facts = facts_by s.standing s.cells s.counts s.premises c.args.self.now c.self.view_is in
    subst (λ n. n ≤ length c.facts.result.now) (sym c.requires.first)
    (subst (λ xs. position_or_len (differs c.args.old.now c.args.new.now) (facts_of c.args.self.now.steps) ≤ length xs)
    (sym (c.facts.ensures ∙ facts))
    (first_few (differs c.args.old.now c.args.new.now) (facts_of c.args.self.now.steps)))

pub put_back-requires-clause-cells : goal.put_back-requires-clause-cells
put_back-requires-clause-cells c =
    let s = c.self.inside in
    subst (λ (stood : Stood). HasCells stood.index s.cells c.as_slice-2.result.now c.as_slice-3.result.now)
    (sym c.truncate.ensures)
    (subst (λ counts. HasCells s.standing.index s.cells counts c.as_slice-3.result.now) (sym c.as_slice-2.ensures)
    (subst (HasCells s.standing.index s.cells s.counts) (sym c.as_slice-3.ensures)
    (has_cells s.standing s.cells s.counts s.premises c.self.invariant.premises)))

pub put_back-requires-clause-counted : goal.put_back-requires-clause-counted
put_back-requires-clause-counted c =
    let s = c.self.inside in
    let first = c.requires.first
    ∙ ap (position_or_len (differs c.args.old.now c.args.new.now))
    (sym (facts_by s.standing s.cells s.counts s.premises c.args.self.now c.self.view_is)) in
    subst (λ (stood : Stood). IsCounted (atoms_of stood.facts) c.count_less.new.outs) (sym c.truncate.ensures)
    (counted_front s.standing s.cells s.counts s.premises s.outs c.self.invariant c.args.self.now c.self.view_is
    c.args.old.now c.args.new.now c.requires.earlier c.args.first first c.count_less.new.outs
    (λ others h. c.count_less.ensures.counted others (subst (λ xs. IsCounted (others ++ atoms_of xs) s.outs)
    (sym (again_rest s.standing s.cells s.counts s.premises s.outs c.self.invariant c.args.self.now c.self.view_is
    c.args.old.now c.args.new.now c.requires.earlier c.args.first first c.args.taken.now c.clear.new.self
    c.extend.new.self c.facts.result.now c.facts_from.result.now c.as_slice.result.now c.requires.room c.clear.ensures
    c.facts.ensures c.facts_from.ensures c.extend.ensures c.as_slice.ensures)) h)))

-- what stands then
first_is : (c : goal.After-put_back)
    → c.args.first ≡ position_or_len (differs c.args.old.now c.args.new.now) c.self.inside.standing.facts
first_is c =
    let s = c.self.inside in
    c.requires.first
    ∙ ap (position_or_len (differs c.args.old.now c.args.new.now))
    (sym (facts_by s.standing s.cells s.counts s.premises c.args.self.now c.self.view_is))

later_is : (c : goal.After-put_back)
    → c.put_back.new.standing
    ≡ stood_left c.self.inside.standing c.self.inside.cells c.self.inside.counts c.self.inside.premises
    c.self.inside.outs c.self.invariant c.args.self.now c.self.view_is c.args.old.now c.args.new.now c.requires.earlier
    c.args.first (first_is c)
later_is c =
    let s = c.self.inside in
    stood_is s.standing s.cells s.counts s.premises s.outs c.self.invariant c.args.self.now c.self.view_is
    c.args.old.now c.args.new.now c.requires.earlier c.args.first (first_is c) c.args.taken.now
    c.clear.new.self c.extend.new.self c.facts.result.now c.facts_from.result.now c.as_slice-4.result.now
    c.requires.room c.clear.ensures c.facts.ensures c.facts_from.ensures c.extend.ensures c.as_slice-4.ensures
    c.truncate.new.self c.put_back.new.standing c.as_slice-2.result.now c.as_slice-3.result.now c.truncate.ensures
    c.as_slice-2.ensures c.as_slice-3.ensures c.put_back.ensures.kept

pub invariant_of-self : goal.invariant_of-self
invariant_of-self c =
    let s = c.self.inside in
    subst (λ stood. IsKept stood s.cells s.counts s.premises c.put_back.new.outs) (sym (later_is c))
    (left_is_kept s.standing s.cells s.counts s.premises s.outs c.self.invariant c.args.self.now c.self.view_is
    c.args.old.now c.args.new.now c.requires.earlier c.args.first (first_is c) c.put_back.new.outs
    (subst (λ (stood : Stood). IsCounted (atoms_of stood.facts) c.put_back.new.outs) (later_is c)
    c.put_back.ensures.counted)
    (c.put_back.ensures.long ∙ c.count_less.ensures.long))

pub returns-clause-kept : goal.returns-clause-kept
returns-clause-kept c =
    let s = c.self.inside in
    ap (λ (stood : Stood). log_kept stood s.cells s.counts s.premises) (later_is c)
    ∙ left_is_log s.standing s.cells s.counts s.premises s.outs c.self.invariant c.args.self.now c.self.view_is
    c.args.old.now c.args.new.now c.requires.earlier c.args.first (first_is c)

pub returns-clause-taken : goal.returns-clause-taken
returns-clause-taken c =
    let s = c.self.inside in
    let items
    = items_rest s.standing s.cells s.counts s.premises s.outs c.self.invariant c.args.self.now c.self.view_is
    c.args.old.now c.args.new.now c.requires.earlier c.args.first (first_is c) c.args.taken.now
    c.clear.new.self c.extend.new.self c.facts.result.now c.facts_from.result.now c.as_slice-4.result.now
    c.requires.room c.clear.ensures c.facts.ensures c.facts_from.ensures c.extend.ensures c.as_slice-4.ensures in
    let left
    = stood_left s.standing s.cells s.counts s.premises s.outs c.self.invariant c.args.self.now c.self.view_is
    c.args.old.now c.args.new.now c.requires.earlier c.args.first (first_is c) in
    subst (λ (stood : Stood). WereTaken c.args.self.now.steps
    (map (step_kept stood s.cells s.counts s.premises) stood.facts) c.extend.new.self.items) (sym (later_is c))
    (subst (WereTaken c.args.self.now.steps (map (step_kept left s.cells s.counts s.premises) left.facts)) (sym items)
    (were_taken s.standing s.cells s.counts s.premises s.outs c.self.invariant c.args.self.now c.self.view_is
    c.args.old.now c.args.new.now c.requires.earlier c.args.first (first_is c)))
