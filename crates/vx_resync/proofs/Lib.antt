pub mod PickLemmas
pub mod CopyLemmas
pub mod CauseLemmas
pub mod GatherLemmas
