-- What a layout of the program is, without the indexes that it keeps.
use Rattle.vc_compile_plan.specs.Layouts as plan
use Rattle.vc_compile_layout.specs.declared.layout.Layout.{Layout}

abbrev pub layout_seen : Layout → plan.Layout
layout_seen layout = record {
  model = layout.names.now.model.now;
  standings = layout.standings;
  slots = layout.slots;
  vars = layout.vars;
  sets = layout.sets;
  texts = layout.texts.all;
}
