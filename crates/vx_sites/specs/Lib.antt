pub mod Messages
pub mod Refusing
pub mod Rows
pub mod Shapes
