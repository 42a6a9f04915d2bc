-- Who may have anything to say where nothing stands but that the root is here.
use Rattle.std.specs.Prelude.{ℕ, zero, suc, if◌then◌else◌, List, [], ◌∷◌, ◌++◌, length}
use Rattle.vc_plan.specs.declared.plans.Plan.{Plan}
use Rattle.vc_plan.specs.Gives.{Giver, by_rule}
use Rattle.vc_net_laws.specs.Triggers.{trigger_by}
use Rattle.vc_net_agenda.specs.Agendas.{Awaited, nobody_on}
use Rattle.vc_net_readers.specs.Waiting.{is_free}
use Rattle.vc_net_waking.specs.Waking.{rules_in, sources_of, with_givers}

-- the rules that wait for no value, of the first so many, and of all
abbrev pub untriggered_below : Plan → ℕ → List ℕ
untriggered_below plan zero = []
untriggered_below plan (suc n) =
    untriggered_below plan n ++ (if is_free (trigger_by plan (by_rule n)) then n ∷ [] else [])

abbrev pub untriggered : Plan → List ℕ
untriggered plan = untriggered_below plan (length plan.rules)

-- the sources of the first so many variables
abbrev pub all_sources : ℕ → List Giver
all_sources zero = []
all_sources (suc n) = all_sources n ++ sources_of n

-- the agenda with just these rules and all sources
abbrev pub beginners : Plan → List Giver
beginners plan = rules_in (untriggered plan) ++ all_sources (length plan.vars)

abbrev pub begun : Plan → Awaited → Awaited
begun plan agenda = with_givers (nobody_on agenda.rules agenda.vars) (beginners plan)
