-- What is told of a claim, or of what stops it: a line, and the exit status.
use Rattle.std.specs.Prelude.{ℕ, List, ◌++◌, codes, decimal, Result, Ok, Err}
use Rattle.vc_outside.specs.declared.file.FileFault.{FileFault}
use Rattle.vc_plan.specs.declared.plans.Plan.{Plan}
use Rattle.vc_app_models.specs.declared.stop.ModelStop.{ModelStop}
use Rattle.vc_app_check.specs.Lines as lines
use Rattle.vc_app_check.specs.Statuses as statuses
use Rattle.vc_wire_chains.specs.Files.{chain_of}
use Rattle.vc_wire_chains.specs.declared.drafts.ChainFile.{ChainFile}
use Rattle.vc_check_chains.specs.Verifying.{verdict_of, verdict_text}
use Rattle.vc_check_chains.specs.declared.verdict.Verdict.{Verdict}
use Rattle.vc_check_chains.specs.declared.verdict.Verdict.TheVariants.{Accepted, BadStep, BadClash, MoreFollows}
use Rattle.vc_app_verify.specs.declared.claims.Claim.{Claim}
use Rattle.vc_app_verify.specs.declared.claims.Stop.{Stop}
use Rattle.vc_app_verify.specs.declared.claims.Stop.TheVariants as stops
use Rattle.vc_app_verify.specs.declared.telling.Told.{Told}

-- a verdict
abbrev pub verdict_status : Verdict → ℕ
verdict_status Accepted = 0
verdict_status (BadStep n) = 9
verdict_status BadClash = 9
verdict_status MoreFollows = 9

abbrev pub verdict_told : Verdict → Told
verdict_told verdict = record { line = verdict_text verdict ++ codes "\n"; status = verdict_status verdict }

-- a text that spells no chain file, by the number of its first line that isn't allowed
abbrev pub no_chain_told : ℕ → Told
no_chain_told n = record { line = codes "not a chain: line " ++ (decimal n ++ codes "\n"); status = 10 }

-- what a text spells in a plan
abbrev pub spelled_told : Plan → Result ChainFile ℕ → Told
spelled_told plan (Ok file) = verdict_told (verdict_of plan file)
spelled_told plan (Err n) = no_chain_told n

abbrev pub claim_told : Claim → Told
claim_told claim = spelled_told claim.plan (chain_of claim.plan claim.text)

-- a model without a plan, and a file that wasn't read
abbrev pub model_told : List ℕ → ModelStop → Told
model_told name stop = record { line = lines.stop_line name stop; status = statuses.stop_status stop }

abbrev pub file_told : List ℕ → FileFault → Told
file_told name fault = record { line = lines.file_line name fault; status = statuses.file_status fault }

abbrev pub stop_told : List ℕ → List ℕ → Stop → Told
stop_told model chain (stops.Model stop) = model_told model stop
stop_told model chain (stops.ChainUnread fault) = file_told chain fault

-- want of memory
abbrev pub memory_told : Told
memory_told = record { line = lines.memory_line; status = 8 }

abbrev pub told_or_memory : {E : Type 0} → Result Told E → Told
told_or_memory (Ok told) = told
told_or_memory (Err error) = memory_told
