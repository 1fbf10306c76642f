pub mod Setting
pub mod Finishing
pub mod Placing
pub mod Ending
