pub mod MixLemmas
