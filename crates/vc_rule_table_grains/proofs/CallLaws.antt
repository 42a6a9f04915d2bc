-- The rows of a table call that have a grain, along their chain.
use Rattle.std.proofs.Common.{◌≡◌, ℕ, ◌-◌, ◌<◌, List, [], ◌∷◌, length, ap, ◌∙◌, arith}
use Rattle.std.specs.Prelude.{None, Some, slice_get, slice_index_or}
use Rattle.std.specs.List.{filter}
use Rattle.vc_value.specs.declared.value.Value.{Value}
use Rattle.vc_plan.specs.declared.atoms.Atom.{Atom}
use Rattle.vc_plan.specs.declared.rules.Binding.{Binding}
use Rattle.vc_plan.specs.Seen.{Seen}
use Rattle.vc_plan.specs.TableRows.{columns_of, other_columns}
use Rattle.vc_rule_yield.specs.Yielding.{Yielded}
use Rattle.vc_rule_premises.specs.Citing.{cited_all}
use Rattle.vc_rule_table.specs.Reasons.{row_reasons}
use Rattle.vc_rule_table_grains.specs.declared.calls.MarkedCall.{MarkedCall}
use Rattle.vc_rule_table_grains.specs.declared.calls.TableCall.{TableCall}
use Rattle.vc_rule_table_grains.specs.Calls.{IsMarkedCall, has, reasons_of}
use Rattle.vc_rule_table_grains.specs.Keys.{grain_key, row_key, same_key}
use Rattle.vc_rule_table_grains.specs.Marking.{AreChains}
use Rattle.vc_rule_table_grains.proofs.ChainLemmas.{IsOnWay, index_there, row_there, way_begins, way_ends, way_goes_on}
use Rattle.vc_rule_table_grains.proofs.KeyLemmas.{grain_has_key}

-- why a row isn't possible in the other columns
abbrev pub row_reasons_of : {View : Type 0} → (View → Seen) → TableCall View → List Value → List Atom
row_reasons_of seen call row =
    row_reasons call.plan.now (seen call.view.now) (other_columns call.var call.columns.now) row

abbrev pub IsOn : {View : Type 0} → (View → Seen) → TableCall View → ℕ → ℕ → Yielded → Yielded → ℕ → Type 0
IsOn seen call g key begun out at =
    IsOnWay call.domain.now (columns_of call.var call.columns.now) key (has call g) (row_reasons_of seen call)
    call.rows.now begun out at

module _ {View : Type 0} (seen : View → Seen) (marked : MarkedCall View) (is : IsMarkedCall seen marked) (g key : ℕ)
    (named : grain_key marked.call.now.domain.now g ≡ Some key) (begun : Yielded) where
  abbrev call : TableCall View
  call = marked.call.now

  abbrev own : List Binding
  own = columns_of call.var call.columns.now

  same : (row : List Value) → has call g row ≡ same_key (row_key call.domain.now own row) (Some key)
  same =
      grain_has_key call.plan.now call.var call.domain.now is.1.apart is.1.of g call.columns.now is.1.given key named

  pub on_ends : (out : Yielded) (at : ℕ) → IsOn seen call g key begun out at
      → slice_get call.rows.now at ≡ None
      → out ≡ cited_all begun (reasons_of seen call (filter (has call g) call.rows.now))
  on_ends out at way past =
      way_ends call.domain.now own key g (has call g) same (row_reasons_of seen call) call.rows.now begun named out at
      way past

  module _ (heads next : List ℕ) (chains : AreChains call.domain.now own call.rows.now heads next)
      (inside : key < length heads) where
    pub on_begins : IsOn seen call g key begun begun (slice_index_or heads key 0)
    on_begins =
        way_begins call.domain.now own key g (has call g) same (row_reasons_of seen call) call.rows.now begun named
        heads (slice_index_or heads key 0) chains.1.0 (index_there heads key inside)

    pub on_goes : (out later : Yielded) (at : ℕ) → IsOn seen call g key begun out at
        → (row read : List Value) → at < length call.rows.now → row ≡ slice_index_or call.rows.now at row → read ≡ row
        → later ≡ cited_all out (reasons_of seen call (filter (has call g) (read ∷ [])))
        → (length call.rows.now - slice_index_or next at 0 < length call.rows.now - at)
        × IsOn seen call g key begun later (slice_index_or next at 0)
    on_goes out later at way row read low is_there is_read e =
        let room = chains.0 in
        way_goes_on call.domain.now own key g (has call g) same (row_reasons_of seen call) call.rows.now begun named
        heads next out later at (slice_index_or next at 0) row chains.1.1 inside way
        (row_there call.rows.now at row low is_there) (index_there next at (omega (arith, low, room)))
        (e ∙ ap (λ r. cited_all out (reasons_of seen call (filter (has call g) (r ∷ [])))) is_read)
