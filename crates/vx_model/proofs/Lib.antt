pub mod KeptLemmas
pub mod Lists
pub mod Contents
pub mod Tests
