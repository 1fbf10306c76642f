pub mod Forms
pub mod Table
pub mod Configs
pub mod Pages
pub mod Checks
pub mod Changes
