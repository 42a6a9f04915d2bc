use Rattle.std.proofs.Common.{◌≡◌, ◌++◌, drop, flat_map}
use Rattle.vc_compile_plan.specs.Texts.{texts_in_item}
use Rattle.vc_compile_uses.specs.Growing.{texts_seen}
use Rattle.vc_compile_uses.proofs.mentions.put_items.Given as goal

abbrev pub invariant-loop-item : goal.invariant-loop-item
invariant-loop-item l =
    texts_seen l.out ++ flat_map texts_in_item (drop l.item-index l.items)
    ≡ texts_seen l.fn.out ++ flat_map texts_in_item l.items
