use Rattle.std.proofs.Common.{◌∙◌}
use Rattle.vc_types.specs.Meanings.{variables_of_object}
use Rattle.vc_types_names.specs.FirstNames.{value_of}
use Rattle.vc_types_meanings.proofs.ReferentLemmas.{next_added}
use Rattle.vc_types_meanings.proofs.variables.referents.Goals as goal

pub loop-object-preserved : goal.loop-object-preserved
loop-object-preserved c = λ name.
    next_added (variables_of_object c.args.names.now.model.now) c.args.objects.now c.loop-object.object-index
    c.object-item.result name
    (value_of c.loop-object.variables name) (value_of c.add_object.new.variables name) c.loop-object-test.true
    c.object-item.is
    (c.in_ok-add_object.ensures name)
    ∙ c.loop-object.invariant name
