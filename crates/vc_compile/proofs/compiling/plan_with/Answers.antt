-- The parts are those of the layout's plan.
use Rattle.std.proofs.Common.{ap, ◌∙◌, subst, sym}
use Rattle.vc_compile_plan.specs.Numbering.{drafts_of}
use Rattle.vc_compile_plan.specs.PlanOf.{IsPlanOver}
use Rattle.vc_compile_layout.specs.Standing.{layout_seen}
use Rattle.vc_compile_parts.proofs.InTurnLaws.{conditions_are, guards_are, lines_are, operations_are, procedures_are}
use Rattle.vc_compile_parts.proofs.InTurnLaws.{requirements_are, rules_are, terms_are}
use Rattle.vc_compile.proofs.compiling.plan_with.Goals as goal

pub returns : goal.returns
returns c =
    let layout = layout_seen c.args.layout in
    let taken = c.in_ok-taken.ensures in
    let lists = c.into_lists.ensures in
    subst (IsPlanOver layout (drafts_of layout) c.args.tables.now) (sym c.assembled.ensures) (record {
      name = ap (λ t. t.name) taken;
      version = ap (λ m. m.version) (c.model.ensures ∙ c.names.ensures);
      texts = ap (λ l. l.texts) lists;
      dependencies = ap (λ t. t.dependencies) taken;
      characteristics = ap (λ t. t.characteristics) taken;
      objects = ap (λ t. t.objects) taken;
      domains = ap (λ t. t.domains) taken;
      tables = ap (λ t. t.tables) taken;
      slots = ap (λ l. l.slots) lists;
      vars = ap (λ l. l.vars) lists;
      sets = ap (λ l. l.sets) lists;
      conditions = c.requires.conditions ∙ conditions_are layout;
      terms = c.requires.terms ∙ terms_are layout;
      rules = c.requires.rules ∙ rules_are layout;
      procedures = c.requires.procedures ∙ procedures_are layout;
      lines = c.requires.lines ∙ lines_are layout;
      operations = c.requires.operations ∙ operations_are layout;
      guards = c.requires.guards ∙ guards_are layout;
      requirements = c.requires.requirements ∙ requirements_are layout;
    })
