use Rattle.std.proofs.Common.{◌∙◌, ap, map}
use Rattle.vc_model_parts.specs.Headers.{domain_of}
use Rattle.vc_compile_plan.specs.Layouts.{layout_over}
use Rattle.vc_compile_plan.specs.Uses.{used_dependencies}
use Rattle.vc_compile_cuts.specs.Cutting.{domains_seen}
use Rattle.vc_compile_cuts.proofs.CuttingLemmas.{domains_found, for_ok}
use Rattle.vc_compile_cuts.proofs.domains.domains_of.Goals as goal

pub returns : goal.returns
returns c = for_ok c.cut_domains.result (λ found is standings.
    let model = c.args.names.now.model.now in
    domains_found model c.args.tables.now c.args.slots.now standings c.as_slice-3.result.now
    c.in_ok-all.all.items c.cut_by_dependencies.new.all.items found
    (c.as_slice-3.ensures ∙ c.in_ok-used.ensures standings
    ∙ ap (λ m. used_dependencies (layout_over m standings c.args.slots.now)) c.model-model.ensures)
    (c.in_ok-all.ensures ∙ ap (map (λ c. domain_of c.values))
    (c.as_slice-2.ensures ∙ ap (λ m. m.characteristics) c.model-model.ensures))
    c.in_ok-cut_by_dependencies.ensures
    (is ∙ ap domains_seen c.as_slice-4.ensures.value))
    c.cut_domains.ensures
