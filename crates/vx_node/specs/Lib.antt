pub mod Settling
pub mod Handing
pub mod OpenSites
