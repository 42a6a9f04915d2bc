-- What lines without a fault keep, said of the model that a text spells.
use Rattle.std.proofs.Common.{List, [], sym, subst}
use Rattle.vc_model_lines.specs.Classified.{lines_of}
use Rattle.vc_model_lines.specs.declared.line.Line.{Line}
use Rattle.vc_model_drafts.specs.Models.{model_of}
use Rattle.vc_model_drafts.specs.Seen.{SeenModel}
use Rattle.vc_model_laws.specs.Components.{KeepsComponents}
use Rattle.vc_model_laws.specs.Headers.{KeepsHeaders}
use Rattle.vc_model_laws.specs.Indices.{KeepsIndices}
use Rattle.vc_model_laws.specs.Keeps.{Keeps}
use Rattle.vc_model_laws.specs.Kinds.{KeepsKinds}
use Rattle.vc_model_laws.specs.Laws.{SpelledKeeps}
use Rattle.vc_model_laws.specs.Limits.{KeepsLimits}
use Rattle.vc_model_laws.specs.Lists.{KeepsLists}
use Rattle.vc_model_laws.specs.Names.{KeepsNames}
use Rattle.vc_model_laws.specs.Numbers.{KeepsNumbers}
use Rattle.vc_model_laws.specs.Rows.{ReadRowsAreKept}
use Rattle.vc_model_laws.specs.Texts.{KeepsTexts}
use Rattle.vc_model_laws.proofs.ComponentsLaws.{keeps_components}
use Rattle.vc_model_laws.proofs.HeadersLaws.{keeps_headers}
use Rattle.vc_model_laws.proofs.IndicesLaws.{keeps_indices}
use Rattle.vc_model_laws.proofs.KindsLaws.{keeps_kinds}
use Rattle.vc_model_laws.proofs.LimitsLaws.{keeps_limits}
use Rattle.vc_model_laws.proofs.LineForms.{lines_formed}
use Rattle.vc_model_laws.proofs.ListsLaws.{keeps_lists}
use Rattle.vc_model_laws.proofs.NamesLaws.{keeps_names}
use Rattle.vc_model_laws.proofs.NumbersLaws.{keeps_numbers}
use Rattle.vc_model_laws.proofs.RowsLaws.{keeps_rows}
use Rattle.vc_model_laws.proofs.TextsLaws.{keeps_texts}
use Rattle.vc_model_laws.proofs.Walks.{Sound, sound}

-- what the model of sound lines keeps is kept by each model that a text spells
pub spelled : (P : SeenModel → Type 0) → ((ls : List Line) → Sound [] ls → P (model_of ls)) → SpelledKeeps P
spelled P keeps text model spells =
    let ls = lines_of text in
    subst P (sym spells.model_is) (keeps ls (sound ls (lines_formed text spells.utf8) spells.sound))

pub spelled_keeps_names : SpelledKeeps KeepsNames
spelled_keeps_names = spelled KeepsNames keeps_names

pub spelled_keeps_limits : SpelledKeeps KeepsLimits
spelled_keeps_limits = spelled KeepsLimits keeps_limits

pub spelled_keeps_indices : SpelledKeeps KeepsIndices
spelled_keeps_indices = spelled KeepsIndices keeps_indices

pub spelled_keeps_lists : SpelledKeeps KeepsLists
spelled_keeps_lists = spelled KeepsLists keeps_lists

pub spelled_keeps_texts : SpelledKeeps KeepsTexts
spelled_keeps_texts = spelled KeepsTexts keeps_texts

pub spelled_keeps_kinds : SpelledKeeps KeepsKinds
spelled_keeps_kinds = spelled KeepsKinds keeps_kinds

pub spelled_keeps_headers : SpelledKeeps KeepsHeaders
spelled_keeps_headers text model spells =
    keeps_headers model (spelled_keeps_indices text model spells) (spelled_keeps_lists text model spells)

pub read_rows_are_kept : ReadRowsAreKept
read_rows_are_kept text model t table records rows spells at h =
    keeps_rows model t table records rows (spelled_keeps_indices text model spells)
    (spelled_keeps_headers text model spells) at h

pub spelled_keeps_components : SpelledKeeps KeepsComponents
spelled_keeps_components = spelled KeepsComponents keeps_components

pub spelled_keeps_numbers : SpelledKeeps KeepsNumbers
spelled_keeps_numbers = spelled KeepsNumbers keeps_numbers

pub spelled_keeps_all : SpelledKeeps Keeps
spelled_keeps_all text model spells = record {
  names = spelled_keeps_names text model spells;
  limits = spelled_keeps_limits text model spells;
  indices = spelled_keeps_indices text model spells;
  lists = spelled_keeps_lists text model spells;
  texts = spelled_keeps_texts text model spells;
  numbers = spelled_keeps_numbers text model spells;
  kinds = spelled_keeps_kinds text model spells;
  components = spelled_keeps_components text model spells;
  headers = spelled_keeps_headers text model spells;
}
