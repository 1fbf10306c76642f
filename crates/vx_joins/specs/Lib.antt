pub mod Deliveries
pub mod Hearings
pub mod Joins
