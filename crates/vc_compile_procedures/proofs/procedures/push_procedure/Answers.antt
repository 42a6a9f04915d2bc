use Rattle.std.proofs.Common.{◌∷◌, [], ◌++◌, ◌∙◌, ap, map}
use Rattle.vc_syntax_tree.specs.Trees.{statement_of}
use Rattle.vc_compile_plan.specs.Procedures.{ProcedureDraft, statement_at}
use Rattle.vc_compile_numbering.specs.Growing.{kept, seen}
use Rattle.vc_compile_layout.specs.Standing.{layout_seen}
use Rattle.vc_compile_sites.specs.Standing.{site_seen}
use Rattle.vc_compile_procedures.specs.Doing.{seen_with}
use Rattle.vc_compile_procedures.proofs.ProcedureLemmas.{on_ok, procedure_more, with_procedure}
use Rattle.vc_compile_procedures.proofs.procedures.push_procedure.Goals as goal

pub returns : goal.returns
returns c =
    let draft : ProcedureDraft = record {
      slot = c.args.site.now.own;
      dependency = c.args.dependency;
      trigger = c.args.trigger;
      statements = map (statement_at (layout_seen c.args.layout.now) (site_seen c.args.site.now))
          (map statement_of c.args.statements.now);
    } in
    let done = seen_with c.statements_at.new.trees c.in_ok-statements.statements in
    on_ok c.push.result c.push.ensures.items (λ pushed.
    ap (λ items. seen_with c.push.new.self.trees items) pushed
    ∙ ap (λ trees. seen_with trees (with_procedure (seen c.args.out.now) done draft).items) c.push.ensures.trees
    ∙ procedure_more (seen c.args.out.now) done draft c.in_ok-statements.ensures)
