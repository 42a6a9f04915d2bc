-- Laws of runs.
use Rattle.std.proofs.Common.{ℕ, List, [], ◌∷◌, ◌++◌, refl, sym, ap, subst, ◌∙◌, append_assoc, append-nil}
use Rattle.vc_base.specs.Runs.{Run}

-- a run and one item more
pub Run-push : {State Item : Type 0} (step : State → Item → List ℕ → State → Type 0)
    → (state : State) (items : List Item) (item : Item) (bytes : List ℕ) (between : State) (more : List ℕ)
    (next : State)
    → Run step state items bytes between → step between item more next
    → Run step state (items ++ item ∷ []) (bytes ++ more) next
Run-push step state [] item bytes between more next run goes = (
  next,
  more,
  [],
  subst (λ s. step s item more next) run.1 goes,
  ap (λ b. b ++ more) run.0
      ∙ sym (append-nil more),
  (refl, refl),
)
Run-push step state (first ∷ items) item bytes between more next run goes = (
  run.0,
  run.1,
  run.2 ++ more,
  run.3,
  ap (λ b. b ++ more) run.4
      ∙ append_assoc run.1 run.2 more,
  Run-push step run.0 items item run.2 between more next run.5 goes,
)
