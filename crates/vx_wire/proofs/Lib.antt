pub mod NumberLemmas
pub mod PlaceLemmas
pub mod FieldLemmas
pub mod SealLemmas
