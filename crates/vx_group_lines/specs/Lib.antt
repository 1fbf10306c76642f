pub mod Founds
pub mod Making
pub mod Noting
pub mod Plain
pub mod Rises
pub mod Views
pub mod RvgRises
