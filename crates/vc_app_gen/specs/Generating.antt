-- What is written of the first families, and how that ends.
use Rattle.std.specs.Prelude.{◌≡◌, ◌<◌, ℕ, zero, suc, ◌+◌, List, [], ◌++◌, codes, Option}
use Rattle.std.specs.Io.KnownBytes.{Appends}
use Rattle.vc_outside.specs.Faults.{Raised}
use Rattle.vc_outside.specs.Sinks.{AppendsFront}
use Rattle.vc_app_gen.specs.Lines.{IsLine}
use Rattle.vc_app_gen.specs.declared.generating.Ended.{Ended}
use Rattle.vc_app_gen.specs.declared.generating.Ended.TheVariants as ended

-- the lines of the first so many families, one after another
abbrev pub AreLines : ℕ → List ℕ → Type 0
AreLines zero text = text ≡ []
AreLines (suc n) text = (before : List ℕ) × (line : List ℕ) × AreLines n before × IsLine (suc n) line
    × (text ≡ before ++ line)

-- the line of a family is written, or a front of it
pub record WritesLine (k : ℕ) (old new : Option (List ℕ)) : Type 0 where
  pub line : List ℕ
  pub is : IsLine k line
  pub written : Appends old new line

pub record CutsLine (k : ℕ) (old new : Option (List ℕ)) : Type 0 where
  pub line : List ℕ
  pub is : IsLine k line
  pub front : AppendsFront old new line

-- the lines of so many families are written, of some of them, or of some and a front of the next
pub record WritesLines (n : ℕ) (old new : Option (List ℕ)) : Type 0 where
  pub text : List ℕ
  pub are : AreLines n text
  pub written : Appends old new text

pub record WritesSome (count : ℕ) (old new : Option (List ℕ)) : Type 0 where
  pub n : ℕ
  pub fewer : n < count
  pub lines : WritesLines n old new

pub record BreaksOff (count : ℕ) (old new : Option (List ℕ)) : Type 0 where
  pub n : ℕ
  pub fewer : n < count
  pub between : Option (List ℕ)
  pub lines : WritesLines n old between
  pub cut : CutsLine (n + 1) between new

-- memory was wanting behind some lines, and it was said; or a front of that was
abbrev pub memory_line : List ℕ
memory_line = codes "no memory\n"

abbrev pub IsExhausted : Option (List ℕ) → Option (List ℕ) → ℕ → ℕ → Ended → Type 0
IsExhausted old new before after ended.Whole = ⊥
IsExhausted old new before after ended.Exhausted = Appends old new memory_line
IsExhausted old new before after ended.LineCut = ⊥
IsExhausted old new before after ended.ExhaustedCut = Raised before after × AppendsFront old new memory_line

pub record EndsExhausted (count : ℕ) (old new : Option (List ℕ)) (before after : ℕ) (end : Ended) : Type 0 where
  pub between : Option (List ℕ)
  pub some : WritesSome count old between
  pub said : IsExhausted between new before after end

-- how it ends: with all lines; with fewer, and that memory was wanting; or within one of these, where the sink's count
-- of faults rose
abbrev pub EndsAs : ℕ → Option (List ℕ) → Option (List ℕ) → ℕ → ℕ → Ended → Type 0
EndsAs count old new before after ended.Whole = WritesLines count old new
EndsAs count old new before after ended.Exhausted = EndsExhausted count old new before after ended.Exhausted
EndsAs count old new before after ended.LineCut = Raised before after × BreaksOff count old new
EndsAs count old new before after ended.ExhaustedCut = EndsExhausted count old new before after ended.ExhaustedCut

-- the exit status
abbrev pub status_of : Ended → ℕ
status_of ended.Whole = 0
status_of ended.Exhausted = 8
status_of ended.LineCut = 5
status_of ended.ExhaustedCut = 5

-- the exit status is that of how it ended
pub record EndsGen (count : ℕ) (old new : Option (List ℕ)) (before after status : ℕ) : Type 0 where
  pub end : Ended
  pub number : status ≡ status_of end
  pub ends : EndsAs count old new before after end
