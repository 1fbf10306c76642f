pub mod ReadLemmas
pub mod MarkLemmas
pub mod RenewLemmas
pub mod ImportedLemmas
pub mod ToldLemmas
pub mod TellLemmas
pub mod RestLemmas
pub mod NoneLemmas
