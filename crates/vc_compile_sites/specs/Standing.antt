-- What a site of the program is, without the indexes that it keeps.
use Rattle.vc_types_meanings.specs.Seen.{seen}
use Rattle.vc_syntax_tree.specs.Trees.{condition_of}
use Rattle.vc_compile_plan.specs.Places as places
use Rattle.vc_compile_plan.specs.Shown as shown
use Rattle.vc_compile_plan.specs.Sites as plan_sites
use Rattle.vc_compile_sites.specs.declared.entries.Entry.{Entry}
use Rattle.vc_compile_sites.specs.declared.places.Asked.{Asked}
use Rattle.vc_compile_sites.specs.declared.site.Site.{Site}

abbrev pub site_seen : Site → plan_sites.Site
site_seen site = record {
  setting = seen site.setting.now;
  own = site.own;
  parent = site.parent;
  objects = site.objects.now;
  slots = site.slots.now;
}

-- a dependency that asks a condition, wherever this is kept
abbrev pub asked_seen : Asked → places.Asked
asked_seen asked = record { dependency = asked.dependency; condition = condition_of asked.condition.now }

-- a listed value with what is used there, wherever this is kept
abbrev pub entry_seen : Entry → shown.Entry
entry_seen entry = record { piece = entry.piece; uses = entry.uses.now }
