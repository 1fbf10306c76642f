pub mod Newest
pub mod WriteLemmas
pub mod Indexing
