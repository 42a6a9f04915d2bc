use Rattle.std.proofs.Common.{◌≡◌, ◌++◌, map, drop}
use Rattle.serde_json.specs.View.{view}
use Rattle.vc_plan.specs.declared.plans.Named.TheVariants.{Set}
use Rattle.vc_value.specs.declared.value.Value.TheVariants.{Text}
use Rattle.vc_plan_users.specs.Choosing.{held_texts}
use Rattle.vc_store_forms.specs.Forms.{choice_data}
use Rattle.vc_store.specs.Saving as saving
use Rattle.vc_store.proofs.writing.put_held.Given as goal

abbrev pub invariant-loop-listed : goal.invariant-loop-listed
invariant-loop-listed l =
    map view l.out.items
    ++ map choice_data
    (map (saving.choice_of l.plan l.slot (Set l.set)) (map Text (held_texts (drop l.listed-index l.texts))))
    ≡ map view l.initial.out.items
    ++ map choice_data (map (saving.choice_of l.plan l.slot (Set l.set)) (map Text (held_texts l.texts)))
