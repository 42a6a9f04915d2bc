-- The plan of a model with its tables.
use Rattle.std.specs.Prelude.{◌≡◌, List, map}
use Rattle.vc_model_parts.specs.declared.parts.Model.{Model}
use Rattle.vc_plan.specs.declared.plans.Plan.{Plan}
use Rattle.vc_table.specs.declared.table.VariantTable.{VariantTable}
use Rattle.vc_compile_plan.specs.Cuts.{domains_of}
use Rattle.vc_compile_plan.specs.Layouts.{Layout, layout_of}
use Rattle.vc_compile_plan.specs.Numbering.{Drafts, drafts_of, conditions_of, terms_of, rules_of, guards_of}
use Rattle.vc_compile_plan.specs.Numbering.{requirements_of, lines_of, operations_of, procedures_of}
use Rattle.vc_compile_plan.specs.Tables.{characteristics_of, objects_of, tables_of}
use Rattle.vc_compile_plan.specs.Trees.{Spot, kept_term, kept_condition, term_of, condition_of}

-- the plan, with the nodes of its trees at a place in memory
abbrev pub plan_over : Spot → Layout → Drafts → List VariantTable → Plan
plan_over p layout drafts tables = record {
  name = layout.model.name;
  version = layout.model.version;
  texts = layout.texts;
  dependencies = map (λ dependency. dependency.name) layout.model.dependencies;
  characteristics = characteristics_of layout.model;
  objects = objects_of layout.model;
  domains = domains_of layout tables;
  tables = tables_of layout.model tables;
  slots = layout.slots;
  vars = layout.vars;
  sets = layout.sets;
  conditions = map (kept_condition p) (conditions_of drafts);
  terms = map (kept_term p) (terms_of drafts);
  rules = rules_of drafts;
  procedures = procedures_of drafts;
  lines = lines_of drafts;
  operations = operations_of drafts;
  guards = guards_of drafts;
  requirements = requirements_of drafts;
}

abbrev pub plan_of : Spot → Model → List VariantTable → Plan
plan_of p model tables = let layout = layout_of model in plan_over p layout (drafts_of layout) tables

-- whether a plan is the one that a model has: field by field, and trees whatever the places of their nodes
pub record IsPlanOver (layout : Layout) (drafts : Drafts) (read : List VariantTable) (plan : Plan) : Type 0 where
  pub name : plan.name ≡ layout.model.name
  pub version : plan.version ≡ layout.model.version
  pub texts : plan.texts ≡ layout.texts
  pub dependencies : plan.dependencies ≡ map (λ dependency. dependency.name) layout.model.dependencies
  pub characteristics : plan.characteristics ≡ characteristics_of layout.model
  pub objects : plan.objects ≡ objects_of layout.model
  pub domains : plan.domains ≡ domains_of layout read
  pub tables : plan.tables ≡ tables_of layout.model read
  pub slots : plan.slots ≡ layout.slots
  pub vars : plan.vars ≡ layout.vars
  pub sets : plan.sets ≡ layout.sets
  pub conditions : map condition_of plan.conditions ≡ conditions_of drafts
  pub terms : map term_of plan.terms ≡ terms_of drafts
  pub rules : plan.rules ≡ rules_of drafts
  pub procedures : plan.procedures ≡ procedures_of drafts
  pub lines : plan.lines ≡ lines_of drafts
  pub operations : plan.operations ≡ operations_of drafts
  pub guards : plan.guards ≡ guards_of drafts
  pub requirements : plan.requirements ≡ requirements_of drafts

abbrev pub IsPlanOf : Model → List VariantTable → Plan → Type 0
IsPlanOf model tables plan = IsPlanOver (layout_of model) (drafts_of (layout_of model)) tables plan
