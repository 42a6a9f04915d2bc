use Rattle.std.proofs.Common.{◌≡◌, ◌∙◌, ap, not, refl}
use Rattle.vc_value.specs.declared.value.Value.{Value}
use Rattle.vc_value.specs.declared.value.Value.TheVariants.{Text, Num}
use Rattle.vc_value.specs.contracts.value.ValuePartialEq.TheImpl.{ghosts}
use Rattle.vc_table.specs.Tables.{is_among, same_value}
use Rattle.vc_table.proofs.TableLemmas.{among_lists}
use Rattle.vc_table.proofs.keys.Keys.meet.Goals as goal

derived : (a b : Value) → ghosts.eq a b ≡ same_value a b
derived (Text a) (Text b) = refl
derived (Text a) (Num b) = refl
derived (Num a) (Text b) = refl
derived (Num a) (Num b) = refl

pub returns-clause-fresh : goal.returns-clause-fresh
returns-clause-fresh c =
    c.in_ok-fresh.ensures.added
    ∙ ap not (among_lists (λ key. key.items) ghosts.eq derived c.args.key.items c.self.inside.met.keys
    ∙ ap (is_among c.args.key.items) c.self.view_is)
