pub mod NoteLemmas
pub mod PlexesLemmas
pub mod LoadLemmas
pub mod LogLemmas
pub mod MarkLemmas
pub mod PutLemmas
pub mod WriteLemmas
