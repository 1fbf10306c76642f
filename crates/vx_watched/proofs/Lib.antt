pub mod SinceLemmas
