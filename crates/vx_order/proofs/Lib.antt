pub mod GroupLemmas
pub mod KindLemmas
pub mod LinkLemmas
pub mod NameLemmas
pub mod SizeLemmas
