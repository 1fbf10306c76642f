pub mod Primary
pub mod Secondary
