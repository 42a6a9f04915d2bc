-- What is said of a chain file: its first step that isn't accepted, or its clash that refutes nothing, or that more
-- follows than it tells.
use Rattle.std.specs.Prelude.{ℕ, Bool, nat_le, if◌then◌else◌, List, ◌++◌, codes, decimal, Option, None, Some}
use Rattle.vc_plan.specs.declared.atoms.Clash.{Clash}
use Rattle.vc_plan.specs.declared.atoms.Step.{Step}
use Rattle.vc_plan.specs.declared.plans.Plan.{Plan}
use Rattle.vc_plan.specs.Sources.{Sources}
use Rattle.vc_plan_reasons.specs.Checking.{first_refused_step, is_whole}
use Rattle.vc_plan_reasons.specs.Refuting.{refutes}
use Rattle.vc_wire_chains_lines.specs.declared.endings.Ending.{Ending}
use Rattle.vc_wire_chains.specs.declared.drafts.ChainFile.{ChainFile}
use Rattle.vc_check_chains.specs.Telling.{first_again, sources_to, sources_told}
use Rattle.vc_check_chains.specs.declared.verdict.Verdict.{Verdict}
use Rattle.vc_check_chains.specs.declared.verdict.Verdict.TheVariants.{Accepted, BadStep, BadClash, MoreFollows}

-- the first of two steps, if there is one
abbrev pub earlier : Option ℕ → Option ℕ → Option ℕ
earlier None m = m
earlier (Some n) None = Some n
earlier (Some n) (Some m) = if nat_le n m then Some n else Some m

-- the first step that isn't accepted: it doesn't follow, or tells again what was told
abbrev pub bad_step : Plan → Sources → List Step → Option ℕ
bad_step plan sources steps = earlier (first_refused_step plan sources steps) (first_again plan steps)

-- a list of steps, whole or not
abbrev pub whole_verdict : Plan → Sources → List Step → Bool → Verdict
whole_verdict plan sources steps whole =
    if whole then (if is_whole plan sources steps then Accepted else MoreFollows) else Accepted

abbrev pub steps_verdict : Plan → Sources → List Step → Bool → Option ℕ → Verdict
steps_verdict plan sources steps whole None = whole_verdict plan sources steps whole
steps_verdict plan sources steps whole (Some n) = BadStep n

abbrev pub of_steps : Plan → List Step → Bool → Verdict
of_steps plan steps whole =
    let sources = sources_told plan steps in
    steps_verdict plan sources steps whole (bad_step plan sources steps)

-- steps that lead to a clash
abbrev pub refuted_verdict : Plan → Sources → Clash → Bool → Verdict
refuted_verdict plan sources clash whole =
    if refutes plan sources clash then whole_verdict plan sources clash.steps whole else BadClash

abbrev pub clash_verdict : Plan → Sources → Clash → Bool → Option ℕ → Verdict
clash_verdict plan sources clash whole None = refuted_verdict plan sources clash whole
clash_verdict plan sources clash whole (Some n) = BadStep n

abbrev pub of_clash : Plan → Clash → Bool → Verdict
of_clash plan clash whole =
    let sources = sources_to plan clash.steps clash.culprit clash.premises in
    clash_verdict plan sources clash whole (bad_step plan sources clash.steps)

-- a file
abbrev pub clash_to : List Step → Ending → Clash
clash_to steps ending = record { steps = steps; culprit = ending.culprit; premises = ending.premises }

abbrev pub verdict_with : Plan → List Step → Bool → Option Ending → Verdict
verdict_with plan steps whole None = of_steps plan steps whole
verdict_with plan steps whole (Some ending) = of_clash plan (clash_to steps ending) whole

abbrev pub verdict_of : Plan → ChainFile → Verdict
verdict_of plan file = verdict_with plan file.steps file.whole file.clash

-- how it is told
abbrev pub verdict_text : Verdict → List ℕ
verdict_text Accepted = codes "accepted"
verdict_text (BadStep n) = codes "not accepted: step " ++ decimal n
verdict_text BadClash = codes "not accepted: clash"
verdict_text MoreFollows = codes "not accepted: more follows"
