use Rattle.std.proofs.Common.{◌∙◌, ap, sym}
use Rattle.std.specs.Prelude.{option_copied, option_map, slice_get}
use Rattle.vc_syntax_tree.specs.Trees.{dependency_of}
use Rattle.vc_compile_plan.specs.Cuts.{marks_if}
use Rattle.vc_compile_cuts.specs.Cutting.{cut_from, domains_seen}
use Rattle.vc_compile_cuts.proofs.CuttingLemmas.{cut_nothing}
use Rattle.vc_compile_cuts.proofs.domains.cut_by_dependency.Goals as goal

pub returns-in-None : goal.returns-in-None
returns-in-None c =
    let model = c.args.names.now.model.now in
    let all = domains_seen c.args.all.now.items in
    sym (ap (λ o. cut_from
    (marks_if model c.args.rows.now.tables.now (option_map (λ one. dependency_of one.tree) o)) 0 all)
    (ap (λ m. slice_get m.dependencies c.args.number) (sym c.model.ensures) ∙ sym c.dependency.ensures
    ∙ ap option_copied c.in-None.is)
    ∙ cut_nothing 0 all)
