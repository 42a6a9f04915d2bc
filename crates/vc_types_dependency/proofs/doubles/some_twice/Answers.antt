use Rattle.std.proofs.Common.{◌∙◌, ap, sym, is_some, true, Some, None, if◌then◌else◌}
use Rattle.std.specs.Option.{option_or}
use Rattle.std.specs.Str.{bytes_eq}
use Rattle.vc_types_names.specs.FirstNames.{value_of}
use Rattle.vc_types_dependency.specs.DeclaredNames.{name_seen}
use Rattle.vc_types_dependency.proofs.TwiceLemmas.{is_twice, met_more, still_once}
use Rattle.vc_types_dependency.proofs.doubles.some_twice.Goals as goal

pub loop-leaf-preserved : goal.loop-leaf-preserved
loop-leaf-preserved c =
    let leaves = c.args.leaves.now in
    let i = c.loop-leaf.leaf-index in
    let leaf = c.leaf-item.result in
    let before = value_of c.loop-leaf.met in
    record {
      met = λ name.
          met_more name_seen leaves i leaf name (before name) (value_of c.add.new.self name) true c.loop-leaf-test.true
          c.leaf-item.is
          (c.loop-leaf.invariant.met name)
          (c.in_ok-add.ensures name
          ∙ ap (λ n. option_or (before name) (if bytes_eq n name then Some true else None)) c.bytes-name.ensures);
      none =
          still_once name_seen leaves i leaf c.loop-leaf-test.true c.leaf-item.is c.loop-leaf.invariant.none
          (sym (c.loop-leaf.invariant.met (name_seen leaf)) ∙ ap (λ n. is_some (before n)) (sym c.bytes-name.ensures)
          ∙ ap is_some (sym c.find.ensures) ∙ sym c.if-is_some.ensures);
    }

pub returns-then-is_some : goal.returns-then-is_some
returns-then-is_some c =
    let leaf = c.leaf-item.result in
    let before = value_of c.loop-leaf.met in
    sym (is_twice name_seen c.args.leaves.now c.loop-leaf.leaf-index leaf c.loop-leaf-test.true c.leaf-item.is
    (sym (c.loop-leaf.invariant.met (name_seen leaf)) ∙ ap (λ n. is_some (before n)) (sym c.bytes-name.ensures)
    ∙ ap is_some (sym c.find.ensures) ∙ sym c.if-is_some.ensures))
