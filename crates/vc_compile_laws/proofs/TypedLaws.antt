-- What plans keep where no dependency has a fault, of models that texts spell: ranges, sorts, sizes, look-ups and cuts.
use Rattle.vc_model_drafts.specs.Seen.{seen_model}
use Rattle.vc_model_laws.proofs.SpelledLaws.{spelled_keeps_all}
use Rattle.vc_compile_ranges.specs.Ranges.{HasRanges}
use Rattle.vc_compile_ranges.proofs.RangeLaws as ranges
use Rattle.vc_compile_sorts.specs.Sorts.{HasSums, HasTypes}
use Rattle.vc_compile_sorts.proofs.SummedLaws as sums
use Rattle.vc_compile_sorts.proofs.TypedLaws as types
use Rattle.vc_compile_sizes.specs.LookUps.{HasLookUps}
use Rattle.vc_compile_sizes.specs.Sizes.{HasSizes}
use Rattle.vc_compile_sizes.proofs.SizeLaws as sizes
use Rattle.vc_compile_sizes.proofs.StatementLaws as statements
use Rattle.vc_compile_cutting.specs.Cuts.{IsCut}
use Rattle.vc_compile_cutting.proofs.CutLaws as cuts
use Rattle.vc_compile_laws.specs.Compiles.{CompiledKeeps}
use Rattle.vc_compile_laws.proofs.TableLaws.{has_tables}
use Rattle.vc_compile_laws.proofs.TreeTestLaws.{keeps_numbers}
use Rattle.vc_compile_laws.proofs.ValidLaws.{has_domains, has_own_slots, has_places, has_scopes, keeps_parts}
use Rattle.vc_compile_laws.proofs.ValidLaws.{plan_lists}

pub has_ranges : CompiledKeeps HasRanges
has_ranges text model tables plan spells read compiles =
    ranges.has_ranges model tables plan compiles.is_its (keeps_numbers text model spells)
    (plan_lists text model tables plan spells read compiles) (has_places text model tables plan spells read compiles)
    (has_scopes text model tables plan spells read compiles) (has_own_slots text model tables plan spells read compiles)
    compiles.typed

pub has_types : CompiledKeeps HasTypes
has_types text model tables plan spells read compiles =
    types.has_types model tables plan compiles.is_its
    (plan_lists text model tables plan spells read compiles) compiles.typed

pub has_sums : CompiledKeeps HasSums
has_sums text model tables plan spells read compiles =
    sums.has_sums model tables plan compiles.is_its
    (keeps_parts model (spelled_keeps_all text (seen_model model) spells) compiles.levels)
    (plan_lists text model tables plan spells read compiles) compiles.typed

pub has_sizes : CompiledKeeps HasSizes
has_sizes text model tables plan spells read compiles =
    let trees = has_ranges text model tables plan spells read compiles in
    sizes.has_sizes model tables plan compiles.is_its (plan_lists text model tables plan spells read compiles)
    (has_domains text model tables plan spells read compiles)
    (record { conditions_there = trees.conditions_there; terms_there = trees.terms_there }) compiles.typed

pub has_look_ups : CompiledKeeps HasLookUps
has_look_ups text model tables plan spells read compiles =
    statements.has_look_ups model tables plan compiles.is_its
    (record { table_columns = (has_tables text model tables plan spells read compiles).table_columns }) compiles.typed

pub is_cut : CompiledKeeps IsCut
is_cut text model tables plan spells read compiles =
    cuts.is_cut_plan model tables plan compiles.is_its
    (plan_lists text model tables plan spells read compiles) compiles.typed
