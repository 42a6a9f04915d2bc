-- What a setting is, without the index that it keeps.
use Rattle.vc_types.specs.Meanings.{variables_of}
use Rattle.vc_types.specs.Settings.{Setting}
use Rattle.vc_types_meanings.specs.declared.setting.Setting.{Setting as Kept}

abbrev pub seen : Kept → Setting
seen kept = record {
  model = kept.names.now.model.now;
  place = kept.place;
  variables = variables_of kept.names.now.model.now kept.objects.now;
}
