pub mod Bringings
pub mod ManyPeers
