-- Lines that are written one after another, and plans of families.
use Rattle.std.proofs.Common.{◌≡◌, ℕ, suc, ◌+◌, ◌≤◌, List, [], ◌++◌, refl, sym, subst, append-nil, arith}
use Rattle.std.proofs.Common.{Option, None, Some}
use Rattle.std.specs.Io.KnownBytes.{Appends}
use Rattle.std.proofs.KnownBytes.{Appends-trans}
use Rattle.vc_outside.specs.Faults.{Raised}
use Rattle.vc_model_parts.specs.declared.parts.Model.{Model}
use Rattle.vc_compile_laws.specs.Compiles.{AreRead}
use Rattle.vc_app_gen.specs.Generating.{EndsAs, IsExhausted, WritesLine, WritesLines, WritesSome}
use Rattle.vc_app_gen.specs.declared.generating.Ended.{Ended}
use Rattle.vc_app_gen.specs.declared.generating.Ended.TheVariants as ended

-- where no table was read, each was read as it should be
pub none_read : (model : Model) → AreRead model []
none_read model t table read there none = absurd (cc none)

-- one line more
pushed : (n : ℕ) (old between new : Option (List ℕ)) → WritesLines n old between → WritesLine (suc n) between new
    → WritesLines (suc n) old new
pushed n old between new so_far more = record {
  text = so_far.text ++ more.line;
  are = (so_far.text, more.line, so_far.are, more.is, refl);
  written = Appends-trans old between new so_far.text more.line so_far.written more.written;
}

pub line_pushed : (n : ℕ) (old between new : Option (List ℕ)) → WritesLines n old between
    → WritesLine (n + 1) between new → WritesLines (n + 1) old new
line_pushed n old between new so_far more =
    let next : n + 1 ≡ suc n = omega arith in
    subst (λ k. WritesLines k old new) (sym next)
    (pushed n old between new so_far (subst (λ k. WritesLine k between new) next more))

-- nothing was written yet, and all is
pub none_written : (old : Option (List ℕ)) → WritesLines 0 old old
none_written old = record { text = []; are = refl; written = nothing old }
  where
    nothing : (written : Option (List ℕ)) → Appends written written []
    nothing None = tt
    nothing (Some bytes) = sym (append-nil bytes)

-- a count of faults that rose from later on
pub raised_later : (before mid after : ℕ) → before ≤ mid → Raised mid after → Raised before after
raised_later before mid after later raised = omega (arith, later, raised)

-- where memory was wanting
pub exhausted : (count : ℕ) (old between new : Option (List ℕ)) (before mid after : ℕ) (end : Ended) → before ≤ mid
    → WritesSome count old between → IsExhausted between new mid after end → EndsAs count old new before after end
exhausted count old between new before mid after ended.Whole later some said = absurd said
exhausted count old between new before mid after ended.Exhausted later some said =
    record { between = between; some = some; said = said }
exhausted count old between new before mid after ended.LineCut later some said = absurd said
exhausted count old between new before mid after ended.ExhaustedCut later some said =
    record { between = between; some = some; said = (raised_later before mid after later said.0, said.1) }
