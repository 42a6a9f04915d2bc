-- What reading a chain file answers.
use Rattle.std.specs.Prelude.{◌≡◌, ℕ, Result, Ok, Err}
use Rattle.vc_wire_chains.specs.declared.drafts.ChainFile.{ChainFile}
use Rattle.vc_wire_chains.specs.declared.reading.ChainFault.{ChainFault}
use Rattle.vc_wire_chains.specs.declared.reading.ChainFault.TheVariants.{NotAChain, OutOfMemory}

-- the answer to a text that spells this: the file, or its first line that isn't allowed. Nothing is said where memory
-- is wanting
abbrev pub FaultTells : Result ChainFile ℕ → ChainFault → Type 0
FaultTells told (NotAChain line) = told ≡ Err line
FaultTells told OutOfMemory = Unit {0}

abbrev pub Answers : Result ChainFile ℕ → Result ChainFile ChainFault → Type 0
Answers told (Ok file) = told ≡ Ok file
Answers told (Err fault) = FaultTells told fault
