pub mod Making
pub mod Draining
pub mod Spending
pub mod Layings
pub mod Joining
pub mod Crossing
