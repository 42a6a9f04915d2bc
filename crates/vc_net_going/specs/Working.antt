-- What a net works on: its log, who is to be asked, whom atoms wake, and what broke it.
use Rattle.std.specs.Prelude.{◌≡◌, ◌≤◌, List, Option}
use Rattle.vc_plan.specs.declared.atoms.Atom.{Atom}
use Rattle.vc_plan.specs.declared.atoms.Culprit.{Culprit}
use Rattle.vc_plan.specs.declared.plans.Plan.{Plan}
use Rattle.vc_plan.specs.Bounds.{greatest}
use Rattle.vc_plan.specs.Domains.{atom_count}
use Rattle.vc_plan.specs.Gives.{Giver}
use Rattle.vc_plan.specs.Sources.{Sources}
use Rattle.vc_plan_reasons.specs.Things.{thing_of}
use Rattle.vc_net_agenda.specs.Agendas.{Awaited, added, with_next}
use Rattle.vc_net_blame.specs.Finding.{collision_bound}
use Rattle.vc_net_bounds.specs.Counting.{clash_cells}
use Rattle.vc_net_log.specs.Logs.{Logged, facts_of, nothing_logged, seen_by, with_step}
use Rattle.vc_net_places.specs.Cells.{begins_of, bounds_of}
use Rattle.vc_net_places.specs.Places.{index_of}
use Rattle.vc_net_readers.specs.Readers.{readers_of}
use Rattle.vc_net_standing.specs.declared.standing.Fact.{Fact}
use Rattle.vc_net_waking.specs.Beginning.{begun, untriggered}
use Rattle.vc_net_waking.specs.Laws.{IsAgendaOf}
use Rattle.vc_net_waking.specs.Waking.{waking, with_givers}
use Rattle.vc_net_going.specs.declared.breaker.Breaker.{Breaker}
use Rattle.vc_net_going.specs.declared.work.Work.{Work}
use Rattle.vc_net_going.specs.Breaking.{clashed, collided, unbroken}

-- what doesn't change is the plan's, and there is room for whatever may break it
pub record IsWorkOf (plan : Plan) (work : Work) : Type 0 where
  pub index : work.log.index ≡ index_of plan
  pub begins : work.log.begins ≡ begins_of plan
  pub sizes : IsAgendaOf plan work.agenda
  pub readers : work.readers ≡ readers_of plan
  pub untriggered : work.untriggered ≡ untriggered plan
  pub reasons : greatest (λ n. n) (bounds_of plan) ≤ work.breaker.reasons.room
  pub collisions : collision_bound plan ≤ work.breaker.premises.room
  pub clashes : clash_cells plan ≤ work.breaker.premises.room
  pub taken : atom_count plan ≤ work.taken.room

-- the same with another agenda, or another that broke it
abbrev pub with_agenda : Work → Awaited → Work
with_agenda work agenda = record {
  log = work.log;
  agenda = agenda;
  readers = work.readers;
  untriggered = work.untriggered;
  breaker = work.breaker;
  taken = work.taken;
}

abbrev pub with_breaker : Work → Breaker → Work
with_breaker work breaker = record {
  log = work.log;
  agenda = work.agenda;
  readers = work.readers;
  untriggered = work.untriggered;
  breaker = breaker;
  taken = work.taken;
}

-- with the giver as the next, or as one who waits
abbrev pub asking_next : Work → Giver → Work
asking_next work giver = with_agenda work (with_next work.agenda giver)

abbrev pub with_giver : Work → Giver → Work
with_giver work giver = with_agenda work (added work.agenda giver)

-- broken by a clash, or by a fact that can't come
abbrev pub broken_by_clash : Work → Option Culprit → List Atom → Work
broken_by_clash work culprit premises = with_breaker work (clashed work.breaker culprit premises)

abbrev pub broken_by_fact : Plan → Work → Fact → List Atom → Work
broken_by_fact plan work fact premises =
    with_breaker work (collided plan (facts_of work.log.steps) work.breaker fact premises)

-- with one step more, and whom it wakes on the agenda
abbrev pub woken_by : Plan → Sources → Work → Logged → Atom → Work
woken_by plan sources work log atom = record {
  log = log;
  agenda = with_givers work.agenda (waking plan sources (seen_by log) (thing_of atom));
  readers = work.readers;
  untriggered = work.untriggered;
  breaker = work.breaker;
  taken = work.taken;
}

abbrev pub with_conclusion : Plan → Sources → Work → Fact → List Atom → Work
with_conclusion plan sources work fact premises =
    woken_by plan sources work (with_step work.log fact premises) fact.atom

-- anew: nothing is concluded, and those are asked who may have anything to say then
abbrev pub restarted : Plan → Work → Work
restarted plan work = record {
  log = nothing_logged work.log.index work.log.begins;
  agenda = begun plan work.agenda;
  readers = work.readers;
  untriggered = work.untriggered;
  breaker = unbroken work.breaker;
  taken = work.taken;
}
