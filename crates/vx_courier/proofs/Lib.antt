pub mod Flying
pub mod Parts
pub mod Joining
pub mod Singles
