pub mod Linking
pub mod Headed
