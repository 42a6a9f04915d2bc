use Rattle.std.proofs.Common.{◌∙◌, ◌++◌, ap, flat_map}
use Rattle.vc_syntax_tree.specs.Trees.{dependency_of}
use Rattle.vc_compile_plan.specs.Texts.{texts_in}
use Rattle.vc_compile_uses.specs.Growing.{texts_seen}
use Rattle.vc_compile_uses.proofs.GrowingLemmas.{texts_are}
use Rattle.vc_compile_uses.proofs.texts.texts_of.Goals as goal

pub returns : goal.returns
returns c =
    texts_are c.args.model.now c.push_texts.new.all (texts_seen c.as_slice-3.result.now) c.add_texts.new.all
    (c.in_ok-push_texts.ensures.all ∙ ap (λ texts. texts ++ c.as_slice-2.result.now) c.new-all.ensures
    ∙ c.as_slice-2.ensures)
    (ap texts_seen c.as_slice-3.ensures ∙ c.in_ok-put_mentions.ensures
    ∙ ap (λ out. texts_seen out ++ flat_map (λ one. texts_in (dependency_of one.tree)) c.as_slice.result.now)
    c.new-named.ensures
    ∙ ap (flat_map (λ one. texts_in (dependency_of one.tree))) c.as_slice.ensures)
    c.in_ok-add_texts.ensures.all
