pub mod ScriptLines
pub mod TranscriptLaws
