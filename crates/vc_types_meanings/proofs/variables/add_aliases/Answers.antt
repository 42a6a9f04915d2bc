use Rattle.std.proofs.Common.{◌∙◌, ap, Some, None, if◌then◌else◌}
use Rattle.std.specs.Option.{option_or}
use Rattle.std.specs.Str.{bytes_eq}
use Rattle.vc_types.specs.Looking.{member_of}
use Rattle.vc_types.specs.Meanings.{alias_of}
use Rattle.vc_types.specs.declared.meaning.Referent.TheVariants as referents
use Rattle.vc_types_names.specs.FirstNames.{value_of}
use Rattle.vc_types_meanings.proofs.ReferentLemmas.{next_one_added}
use Rattle.vc_types_meanings.proofs.variables.add_aliases.Goals as goal

pub loop-alias-preserved : goal.loop-alias-preserved
loop-alias-preserved c = λ name.
    let model = c.args.names.now.model.now in
    let before = value_of c.loop-alias.variables name in
    let alias = c.alias-item.result in
    let of_class = c.member_of-characteristic.ensures ∙ ap (λ n. member_of model n c.args.class) c.bytes.ensures in
    next_one_added (alias_of model c.args.class) c.args.aliases.now c.loop-alias.alias-index alias name before
    (value_of c.add.new.self name)
    c.loop-alias-test.true c.alias-item.is
    (c.in_ok-add.ensures name
    ∙ ap (λ n. option_or before
    (if bytes_eq n name then Some (referents.Value c.member_of-characteristic.result) else None))
    c.bytes-in-loop-alias.ensures
    ∙ ap (λ m. option_or before (if bytes_eq alias.variable.name name then Some (referents.Value m) else None))
    of_class)
    ∙ c.loop-alias.invariant name
